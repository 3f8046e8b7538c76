-- Messages that a place's crash concerns.
use Rattle.std.specs.Prelude.{◌||◌, Bool}
use Rattle.lego_msg.specs.Places.{same_place}
use Rattle.lego_msg.specs.declared.message.Message.{Message}
use Rattle.lego_msg.specs.declared.place.Place.{Place}

-- whether a message is on its way from a place or to it
abbrev pub concerns_place : Place → Message → Bool
concerns_place place m = same_place m.from place || same_place m.to place
