-- What a cluster's calls say of events, whatever lies beyond it. `told` and `faults` are a watch's; w and w' are the watch before
-- and after, c and d the cluster. Of a call that halts more is said where no halt was kept before.
use Rattle.std.specs.Prelude.{◌≡◌, ℕ, Bool, List, None, Option, true}
use Rattle.lego_base.specs.declared.records.HomeEntry.{HomeEntry}
use Rattle.lego_base.specs.declared.stops.Halt.{Halt}
use Rattle.lego_msg.specs.Marks.{is_turn_end}
use Rattle.lego_msg.specs.Went.{Halted, Went}
use Rattle.lego_msg.specs.declared.event.Event.{Event}
use Rattle.lego_msg.specs.declared.operation.Open.{Open}
use Rattle.lego_msg.specs.declared.operation.Operation.{Operation}
use Rattle.lego_msg.specs.declared.place.Place.{Place}
use Rattle.protocol_engine.specs.Beyond.{Beyond}
use Rattle.protocol_engine.specs.Called.{begun_beyond}
use Rattle.protocol_engine.specs.Sound.{WasOpen}
use Rattle.protocol_engine.specs.Tracks.{finished_beyond}
use Rattle.cluster.specs.Whole.{MayCallAt, Whole, called_at, shown_at, track_at}

-- a turn begins with an event that is shown
abbrev pub TurnBegins : {W : Type 0} → (W → Option (List Event)) → (W → ℕ) → W → W → Whole → Whole → Event → Type 0
TurnBegins told faults w w' c d e = (g : Beyond) → Went told faults w w' (shown_at c e g) (track_at d g)

abbrev pub TurnHalts : {W : Type 0} → (W → Option (List Event)) → (W → ℕ) → W → W → Whole → Event → Halt → Type 0
TurnHalts told faults w w' c e h = c.halt ≡ None → (g : Beyond) → Halted told faults w w' h (shown_at c e g)

-- a turn ends
abbrev pub TurnEnds : {W : Type 0} → (W → Option (List Event)) → (W → ℕ) → W → W → Whole → Whole → Type 0
TurnEnds told faults w w' c d = (g : Beyond) → is_turn_end g.due ≡ true → Went told faults w w' (track_at c g) (track_at d g)

abbrev pub TurnEndHalts : {W : Type 0} → (W → Option (List Event)) → (W → ℕ) → W → W → Whole → Halt → Type 0
TurnEndHalts told faults w w' c h = c.halt ≡ None → (g : Beyond) → is_turn_end g.due ≡ true → Halted told faults w w' h (track_at c g)

-- an operation is played to its completion
abbrev pub Performs : {W : Type 0} → (W → Option (List Event)) → (W → ℕ) → W → W → Whole → Whole → Place → Operation → Open → Type 0
Performs told faults w w' c d by operation o = (g : Beyond) (before owners : List HomeEntry) (late : Bool) → MayCallAt c by operation g before owners late →
    Went told faults w w' (called_at c by operation g before owners late) (track_at d (finished_beyond o (begun_beyond g)))

abbrev pub PerformHalts : {W : Type 0} → (W → Option (List Event)) → (W → ℕ) → W → W → Whole → Place → Operation → Halt → Type 0
PerformHalts told faults w w' c by operation h = c.halt ≡ None → (g : Beyond) (before owners : List HomeEntry) (late : Bool) → MayCallAt c by operation g before owners late →
    Halted told faults w w' h (called_at c by operation g before owners late)

abbrev pub WasPerformed : Whole → Place → Operation → Open → Type 0
WasPerformed c by operation o = (g : Beyond) (before owners : List HomeEntry) (late : Bool) → MayCallAt c by operation g before owners late →
    WasOpen (called_at c by operation g before owners late) o
