-- The first laws of the two relations.
use Rattle.std.specs.Prelude.{◌≡◌, List, None, false}
use Rattle.lego_base.specs.declared.shape.Shape.{Shape}
use Rattle.lego_msg.specs.Marks.{Mark}
use Rattle.lego_msg.specs.Track.{Caches, Track, start}
use Rattle.lego_rest.specs.Fits.{MachineFits}
use Rattle.lego_rest.specs.Rest.{AtRest, Middle}

-- Before the first event all is at rest, where the machine is in form.
abbrev pub StartRests : Type 0
StartRests = (shape : Shape) (due : List Mark) → MachineFits shape → AtRest (start shape due)

-- What is at rest meets the relation of every moment, with no memory lost.
abbrev pub RestIsMiddle : Type 0
RestIsMiddle = (t : Track) → AtRest t → Middle None t

-- And that relation with nothing open, nothing healing and nothing refused is rest.
abbrev pub MiddleIsRest : Type 0
MiddleIsRest = (t : Track) → t.current ≡ None → t.healing ≡ None → t.stopped ≡ false → Middle None t → AtRest t

-- Neither speaks of what is still to come, nor of the caches.
abbrev pub RestIsOfComponents : Type 0
RestIsOfComponents = (t : Track) (due : List Mark) (caches : Caches) → AtRest t → AtRest (record t { due = due; caches = caches })
