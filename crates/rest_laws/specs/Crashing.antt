-- A crash keeps the relation: from then on it is the relation with that memory lost, of which only its healing says
-- something.
use Rattle.std.specs.Prelude.{ℕ, None, Some}
use Rattle.lego_msg.specs.Crashes.{MayCrash, crashed}
use Rattle.lego_msg.specs.Track.{Track}
use Rattle.lego_rest.specs.Rest.{Middle}

abbrev pub CrashBegins : Type 0
CrashBegins = (t : Track) (number inc : ℕ) → MayCrash t number inc → Middle None t → Middle (Some number) (crashed t number)
