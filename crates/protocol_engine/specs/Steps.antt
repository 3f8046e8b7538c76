-- What comes next, and what holds where it does.
use Rattle.std.specs.Prelude.{◌≡◌, ◌<◌, [], None, Option, Some, false, length, true}
use Rattle.lego_msg.specs.Deliveries.{is_waiting}
use Rattle.lego_msg.specs.Track.{healing_move, is_any_done, is_calm, is_crash_due, is_done}
use Rattle.protocol_engine.specs.Later.{BetweenMoves, HasUnsent}
use Rattle.protocol_engine.specs.Tracks.{Beyond, track_of}
use Rattle.protocol_engine.specs.declared.engine.Engine.{Engine}
use Rattle.protocol_engine.specs.declared.step.Step.{Step}
use Rattle.protocol_engine.specs.declared.step.Step.TheVariants.{BeginMove, Complete, CompleteMove, Crash, Deliver, SendOwed, SendUnsent}

-- of the engine's track, whatever lies beyond it
abbrev pub IsCalm : Engine → Type 0
IsCalm c = (g : Beyond) → is_calm (track_of c g) ≡ true

abbrev pub IsStep : Step → Engine → Type 0
IsStep SendOwed c = 0 < length c.owed
IsStep CompleteMove c = (c.owed ≡ []) × (is_done c.net (healing_move c.healing) ≡ true)
IsStep Complete c = (c.owed ≡ []) × (is_done c.net (healing_move c.healing) ≡ false) × (is_done c.net c.current ≡ true)
IsStep Crash c = (c.owed ≡ []) × ((g : Beyond) → (is_any_done (track_of c g) ≡ false) × (is_crash_due (track_of c g) ≡ true))
IsStep BeginMove c = (c.owed ≡ []) × IsCalm c × BetweenMoves c.healing
IsStep SendUnsent c = (c.owed ≡ []) × IsCalm c × (c.healing ≡ None) × HasUnsent c.current
IsStep Deliver c = (c.owed ≡ []) × IsCalm c × (is_waiting c.healing c.current ≡ true)

-- nothing is open
abbrev pub Rests : Engine → Type 0
Rests c = (c.owed ≡ []) × IsCalm c × (c.healing ≡ None) × (c.current ≡ None)

abbrev pub IsNextStep : Option Step → Engine → Type 0
IsNextStep None c = Rests c
IsNextStep (Some step) c = IsStep step c
