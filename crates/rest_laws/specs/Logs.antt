-- Logs grow by the writes of lines alone, and a drain leaves the log of its memory empty.
use Rattle.std.specs.List.{AllByRecursion}
use Rattle.std.specs.Prelude.{◌≡◌, [], ◌∷◌, ◌++◌, ℕ, List, Some, false, slice_get}
use Rattle.lego_base.specs.declared.ids.MemId.{MemId}
use Rattle.lego_base.specs.declared.ids.OpNo.{OpNo}
use Rattle.lego_base.specs.declared.records.Patch.{Patch}
use Rattle.lego_msg.specs.Legal.{Legal}
use Rattle.lego_msg.specs.Marks.{Mark, Order}
use Rattle.lego_msg.specs.Operations.{is_write}
use Rattle.lego_msg.specs.Run.{run}
use Rattle.lego_msg.specs.State.{Mem}
use Rattle.lego_msg.specs.Table.{handled}
use Rattle.lego_msg.specs.Track.{Track}
use Rattle.lego_msg.specs.declared.body.Body.TheVariants.{LogWrite}
use Rattle.lego_msg.specs.declared.event.Event.{Event}
use Rattle.lego_msg.specs.declared.event.Event.TheVariants.{Complete}
use Rattle.lego_msg.specs.declared.message.Message.{Message}
use Rattle.lego_msg.specs.declared.operation.Operation.TheVariants.{Drains}
use Rattle.rest_laws.specs.GoingOn.{IsDue, IsOfMessages}

-- a log is an end of another one: some of its oldest patches are gone
abbrev pub IsEndOf : List Patch → List Patch → Type 0
IsEndOf log before = (front : List Patch) × (front ++ log ≡ before)

-- A memory's log grows by a LogWrite alone.
abbrev pub LogsGrowByWrites : Type 0
LogsGrowByWrites = (s : Mem) (m : Message) → ((patch : Patch) → m.body ≡ LogWrite patch → ⊥) → IsEndOf (handled s m).0.log s.log

-- what holds of the log of memory k
abbrev pub IsEmptyAt : Track → ℕ → Type 0
IsEmptyAt t k = (s : Mem) → slice_get t.mems k ≡ Some s → s.log ≡ []

-- An operation that doesn't write leaves empty logs empty.
abbrev pub EmptyLogsStay : Type 0
EmptyLogsStay = (t : Track) (o : Order) (rest : List Mark) (events : List Event) (op : OpNo) (k : ℕ) →
    IsDue t o rest → Legal t (events ++ Complete op ∷ []) → AllByRecursion IsOfMessages events → is_write o.operation ≡ false →
    IsEmptyAt t k → IsEmptyAt (run t (events ++ Complete op ∷ [])) k

-- A drain leaves the log of its memory empty, whatever it held.
abbrev pub DrainsEmpty : Type 0
DrainsEmpty = (t : Track) (o : Order) (rest : List Mark) (events : List Event) (op : OpNo) (m : MemId) →
    IsDue t o rest → Legal t (events ++ Complete op ∷ []) → AllByRecursion IsOfMessages events → o.operation ≡ Drains m →
    IsEmptyAt (run t (events ++ Complete op ∷ [])) m.0
