-- What the engine's functions say of events, whatever lies beyond it. `told` and `faults` are a watch's; w and w' are the watch
-- before and after, c and d the engine.
use Rattle.std.specs.Prelude.{◌≡◌, ◌<◌, ℕ, Bool, List, Option, true}
use Rattle.lego_base.specs.declared.records.HomeEntry.{HomeEntry}
use Rattle.lego_base.specs.declared.stops.Halt.{Halt}
use Rattle.lego_msg.specs.Crashes.{is_crash_moment}
use Rattle.lego_msg.specs.Marks.{is_turn_end}
use Rattle.lego_msg.specs.Went.{Came, Halted, Stopped, Went}
use Rattle.lego_msg.specs.declared.event.Event.{Event}
use Rattle.lego_msg.specs.declared.operation.Open.{Open}
use Rattle.lego_msg.specs.declared.operation.Operation.{Operation}
use Rattle.lego_msg.specs.declared.place.Place.{Place}
use Rattle.lego_waits.specs.Measure.{load}
use Rattle.protocol_engine.specs.Beyond.{Beyond}
use Rattle.protocol_engine.specs.Called.{MayCall, begun_beyond, called_track}
use Rattle.protocol_engine.specs.Sound.{WasOpen}
use Rattle.protocol_engine.specs.Tracks.{beyond_with, finished_beyond, track_of}
use Rattle.protocol_engine.specs.Turns.{shown_track}
use Rattle.protocol_engine.specs.declared.engine.Engine.{Engine}

-- ONE EVENT came; some came and then memory ran out; some came, and the last is the cause of a halt
abbrev pub Comes : {W : Type 0} → (W → Option (List Event)) → (W → ℕ) → W → W → Engine → Engine → Type 0
Comes told faults w w' c d = (g : Beyond) → Came told faults w w' (track_of c g) (track_of d g)

abbrev pub Stops : {W : Type 0} → (W → Option (List Event)) → (W → ℕ) → W → W → Engine → Type 0
Stops told faults w w' c = (g : Beyond) → Stopped told faults w w' (track_of c g)

abbrev pub Halts : {W : Type 0} → (W → Option (List Event)) → (W → ℕ) → W → W → Engine → Halt → Type 0
Halts told faults w w' c h = (g : Beyond) → Halted told faults w w' h (track_of c g)

-- the completion of an operation
abbrev pub Completed : {W : Type 0} → (W → Option (List Event)) → (W → ℕ) → W → W → Engine → Engine → Open → Type 0
Completed told faults w w' c d o = (g : Beyond) → Came told faults w w' (track_of c g) (track_of d (finished_beyond o g))

-- a crash, where it is its moment
abbrev pub Crashes : {W : Type 0} → (W → Option (List Event)) → (W → ℕ) → W → W → Engine → Engine → Type 0
Crashes told faults w w' c d = (g : Beyond) → is_crash_moment (track_of c g) ≡ true → Came told faults w w' (track_of c g) (track_of d g)

abbrev pub CrashStops : {W : Type 0} → (W → Option (List Event)) → (W → ℕ) → W → W → Engine → Type 0
CrashStops told faults w w' c = (g : Beyond) → is_crash_moment (track_of c g) ≡ true → Stopped told faults w w' (track_of c g)

-- one event, with what is complete before it and after it
abbrev pub Plays : {W : Type 0} → (W → Option (List Event)) → (W → ℕ) → W → W → Engine → Option Open → Engine → Option Open → Type 0
Plays told faults w w' c done d done' = (g : Beyond) → Came told faults w w' (track_of c (beyond_with done g)) (track_of d (beyond_with done' g))

abbrev pub PlayHalts : {W : Type 0} → (W → Option (List Event)) → (W → ℕ) → W → W → Engine → Option Open → Halt → Type 0
PlayHalts told faults w w' c done h = (g : Beyond) → Halted told faults w w' h (track_of c (beyond_with done g))

-- SEVERAL EVENTS, with what is complete after them
abbrev pub Settles : {W : Type 0} → (W → Option (List Event)) → (W → ℕ) → W → W → Engine → Engine → Option Open → Type 0
Settles told faults w w' c d done = (g : Beyond) → Went told faults w w' (track_of c g) (track_of d (beyond_with done g))

-- AN OPERATION that is called for begins
abbrev pub Begins : {W : Type 0} → (W → Option (List Event)) → (W → ℕ) → W → W → Engine → Engine → Place → Operation → Type 0
Begins told faults w w' c d by operation = (g : Beyond) (before owners : List HomeEntry) (late : Bool) → MayCall c by operation g before owners late →
    Came told faults w w' (called_track c by operation g before owners late) (track_of d (begun_beyond g))

abbrev pub BeginStops : {W : Type 0} → (W → Option (List Event)) → (W → ℕ) → W → W → Engine → Place → Operation → Type 0
BeginStops told faults w w' c by operation = (g : Beyond) (before owners : List HomeEntry) (late : Bool) → MayCall c by operation g before owners late →
    Stopped told faults w w' (called_track c by operation g before owners late)

-- and is played to its completion
abbrev pub Operates : {W : Type 0} → (W → Option (List Event)) → (W → ℕ) → W → W → Engine → Engine → Place → Operation → Open → Type 0
Operates told faults w w' c d by operation o = (g : Beyond) (before owners : List HomeEntry) (late : Bool) → MayCall c by operation g before owners late →
    Went told faults w w' (called_track c by operation g before owners late) (track_of d (finished_beyond o (begun_beyond g)))

abbrev pub OperationHalts : {W : Type 0} → (W → Option (List Event)) → (W → ℕ) → W → W → Engine → Place → Operation → Halt → Type 0
OperationHalts told faults w w' c by operation h = (g : Beyond) (before owners : List HomeEntry) (late : Bool) → MayCall c by operation g before owners late →
    Halted told faults w w' h (called_track c by operation g before owners late)

abbrev pub WasCalled : Engine → Place → Operation → Open → Type 0
WasCalled c by operation o = (g : Beyond) (before owners : List HomeEntry) (late : Bool) → MayCall c by operation g before owners late →
    WasOpen (called_track c by operation g before owners late) o

-- A TURN begins with an event that is shown, and ends
abbrev pub Shows : {W : Type 0} → (W → Option (List Event)) → (W → ℕ) → W → W → Engine → Engine → Event → Type 0
Shows told faults w w' c d e = (g : Beyond) → Went told faults w w' (shown_track c e g) (track_of d g)

abbrev pub ShowHalts : {W : Type 0} → (W → Option (List Event)) → (W → ℕ) → W → W → Engine → Event → Halt → Type 0
ShowHalts told faults w w' c e h = (g : Beyond) → Halted told faults w w' h (shown_track c e g)

abbrev pub Ends : {W : Type 0} → (W → Option (List Event)) → (W → ℕ) → W → W → Engine → Engine → Type 0
Ends told faults w w' c d = (g : Beyond) → is_turn_end g.due ≡ true → Went told faults w w' (track_of c g) (track_of d g)

abbrev pub EndHalts : {W : Type 0} → (W → Option (List Event)) → (W → ℕ) → W → W → Engine → Halt → Type 0
EndHalts told faults w w' c h = (g : Beyond) → is_turn_end g.due ≡ true → Halted told faults w w' h (track_of c g)

-- a crash lowers the load
abbrev pub CrashLowers : Engine → Engine → Type 0
CrashLowers c d = (g : Beyond) → is_crash_moment (track_of c g) ≡ true → load (track_of d g) < load (track_of c g)
