-- What a call of one operation says. `told` and `faults` are a watch's; w and w' are the watch before and after, c and d the
-- cluster.
use Rattle.std.specs.Prelude.{◌≡◌, ◌&&◌, [], ℕ, Bool, Err, IfErr, IfOk, List, None, OnOk, Option, Result, Some, false}
use Rattle.lego_base.specs.Keys.{put_all}
use Rattle.lego_base.specs.declared.records.HomeEntry.{HomeEntry}
use Rattle.lego_base.specs.declared.stops.Halt.{Halt}
use Rattle.lego_msg.specs.Completions.{brought_to, owners_after}
use Rattle.lego_msg.specs.Maps.{home_key}
use Rattle.lego_msg.specs.Plain.{Plain, effect}
use Rattle.lego_msg.specs.Replies.{IsReply}
use Rattle.lego_msg.specs.Sends.{FitsCaches}
use Rattle.lego_msg.specs.Track.{Caches, Track, line_in}
use Rattle.lego_msg.specs.Went.{Halted, Went}
use Rattle.lego_msg.specs.declared.body.Body.{Body}
use Rattle.lego_msg.specs.declared.event.Event.{Event}
use Rattle.lego_msg.specs.declared.operation.Operation.{Operation}
use Rattle.lego_msg.specs.declared.operation.Operation.TheVariants.{Reads}
use Rattle.lego_msg.specs.declared.place.Place.{Place}
use Rattle.placement.specs.Owners.{Owned}
use Rattle.protocol_engine.specs.Beyond.{Beyond}
use Rattle.cluster.specs.Logs.{AreEmpty, drained_after}
use Rattle.cluster.specs.Standing.{IsGrantedWith, StandsFor}
use Rattle.cluster.specs.Whole.{SameTurns, Whole, called_at, is_left_at, track_at}

-- it is the next of the marks, and brings these owners
abbrev pub asked_with : List HomeEntry → Whole → Place → Operation → Beyond → Bool → Track
asked_with new w by operation g late = called_at w by operation g w.table.owners new late

-- or none
abbrev pub asked_at : Whole → Place → Operation → Beyond → Bool → Track
asked_at w by operation g late = asked_with [] w by operation g late

-- where it may be asked for: after the last turn once no crash of that turn is left
pub record MayCome (w : Whole) (by : Place) (operation : Operation) (g : Beyond) (late : Bool) : Type 0 where
  pub caches : FitsCaches g.caches by operation
  pub late_enough : (late && is_left_at w) ≡ false

-- what is beyond the cluster once it is complete: a read has brought its line in
abbrev pub caches_after : Place → Operation → Body → Caches → Caches
caches_after by (Reads pid line owner) body caches = brought_to by pid.0 line.0 (line_in body None) caches
caches_after by other body caches = caches

abbrev pub served : Place → Operation → Body → Beyond → Beyond
served by operation body g = record g { plain = effect operation g.plain; caches = caches_after by operation body (record g.caches { filled = None }) }

-- THE OPERATION IS COMPLETE, and was answered by `body`; `new` are the owners that came with it
pub record ServesWith (new : List HomeEntry) {W : Type 0} (told : W → Option (List Event)) (faults : W → ℕ) (w w' : W) (c d : Whole) (by : Place) (operation : Operation) (body : Body) : Type 0 where
  -- the events that were shown lead from where it is asked for to where it is complete
  pub went : (g : Beyond) (late : Bool) → MayCome c by operation g late → Went told faults w w' (asked_with new c by operation g late) (track_at d (served by operation body g))
  -- the cluster is at rest again; the operation's effect on its plain map is all that is new
  pub stands : (f : Plain) → IsGrantedWith new c f by operation → StandsFor d (effect operation f)
  -- its answer is true of the plain map before it
  pub reply : (f : Plain) → IsGrantedWith new c f by operation → IsReply f operation body
  -- logs that were empty stay so but for a write, and a drain empties its own
  pub logs : (drained : List ℕ) → AreEmpty c.mems drained → AreEmpty d.mems (drained_after operation drained)
  -- the machine is the same, and so are the owners, but for the new ones and for those of a space that is dropped
  pub shape : d.shape ≡ c.shape
  pub owners : d.table.owners ≡ owners_after operation (put_all home_key new c.table.owners)

abbrev pub HaltsWith : List HomeEntry → {W : Type 0} → (W → Option (List Event)) → (W → ℕ) → W → W → Whole → Place → Operation → Halt → Type 0
HaltsWith new told faults w w' c by operation h = c.halt ≡ None → (g : Beyond) (late : Bool) → MayCome c by operation g late →
    Halted told faults w w' h (asked_with new c by operation g late)

-- HOW A CALL ENDS, where `body` is the answer that its value stands for, and `table` the table with the new owners. A halt that
-- is kept is given again, with nothing done; one that comes is kept.
pub record CallsWith (new : List HomeEntry) (table : Owned) {W X : Type 0} (told : W → Option (List Event)) (faults : W → ℕ) (w w' : W) (c d : Whole) (by : Place) (operation : Operation) (body : X → Body) (result : Result X Halt) : Type 0 where
  pub serves : IfOk result (λ x. ServesWith new told faults w w' c d by operation (body x))
  pub turns : OnOk result (SameTurns table d.table)
  pub halted : IfErr result (HaltsWith new told faults w w' c by operation)
  pub kept : (h : Halt) → c.halt ≡ Some h → (result ≡ Err h) × (d.halt ≡ Some h) × (w' ≡ w)
  pub keeps : IfErr result (λ h. d.halt ≡ Some h)
  pub goes : OnOk result ((c.halt ≡ None) × (d.halt ≡ None))

-- one that brings none
abbrev pub Serves : {W : Type 0} → (W → Option (List Event)) → (W → ℕ) → W → W → Whole → Whole → Place → Operation → Body → Type 0
Serves told faults w w' c d by operation body = ServesWith [] told faults w w' c d by operation body

abbrev pub ServeHalts : {W : Type 0} → (W → Option (List Event)) → (W → ℕ) → W → W → Whole → Place → Operation → Halt → Type 0
ServeHalts told faults w w' c by operation h = HaltsWith [] told faults w w' c by operation h

abbrev pub Calls : {W X : Type 0} → (W → Option (List Event)) → (W → ℕ) → W → W → Whole → Whole → Place → Operation → (X → Body) → Result X Halt → Type 0
Calls told faults w w' c d by operation body result = CallsWith [] c.table told faults w w' c d by operation body result
