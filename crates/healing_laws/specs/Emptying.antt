-- Logs through crashes: what the drains before an unmapping, a copy or the end of a space give, whatever crashes on the way.
use Rattle.std.specs.Prelude.{◌≡◌, ◌∷◌, ℕ, List, false}
use Rattle.lego_base.specs.declared.ids.MemId.{MemId}
use Rattle.lego_msg.specs.Legal.{Legal}
use Rattle.lego_msg.specs.Marks.{Mark, Order}
use Rattle.lego_msg.specs.Operations.{is_write}
use Rattle.lego_msg.specs.Run.{run}
use Rattle.lego_msg.specs.Track.{Track}
use Rattle.lego_msg.specs.declared.event.Event.{Event}
use Rattle.lego_msg.specs.declared.event.Event.TheVariants.{Send}
use Rattle.lego_msg.specs.declared.message.Message.{Message}
use Rattle.lego_msg.specs.declared.operation.Operation.TheVariants.{Drains}
use Rattle.rest_laws.specs.GoingOn.{IsDue}
use Rattle.rest_laws.specs.Logs.{IsEmptyAt}
use Rattle.healing_laws.specs.Playing.{CallsNone}
use Rattle.healing_laws.specs.Running.{IsOver}

-- An operation that doesn't write leaves empty logs empty, at every moment on its way and once it is complete.
abbrev pub EmptyLogsStayThere : Type 0
EmptyLogsStayThere = (t : Track) (o : Order) (rest : List Mark) (m : Message) (events : List Event) (k : ℕ) →
    IsDue t o rest → Legal t (Send m ∷ events) → (run t (Send m ∷ events)).due ≡ rest → is_write o.operation ≡ false →
    IsEmptyAt t k → IsEmptyAt (run t (Send m ∷ events)) k

-- A drain leaves the log of its memory empty, whatever it held.
abbrev pub DrainsEmptyThere : Type 0
DrainsEmptyThere = (t : Track) (o : Order) (rest : List Mark) (m : Message) (events : List Event) (d : MemId) →
    IsDue t o rest → Legal t (Send m ∷ events) → (run t (Send m ∷ events)).due ≡ rest → IsOver (run t (Send m ∷ events)) →
    o.operation ≡ Drains d → IsEmptyAt (run t (Send m ∷ events)) d.0

-- CALLS. So it is of an operation that is due, from its mark on: also where memories crash and are healed before it begins.
abbrev pub CallsKeepEmptyLogs : Type 0
CallsKeepEmptyLogs = (t : Track) (o : Order) (rest : List Mark) (events : List Event) (k : ℕ) →
    IsDue t o rest → CallsNone rest → Legal t events → (run t events).due ≡ rest → IsOver (run t events) → is_write o.operation ≡ false →
    IsEmptyAt t k → IsEmptyAt (run t events) k

abbrev pub CallsDrainLogs : Type 0
CallsDrainLogs = (t : Track) (o : Order) (rest : List Mark) (events : List Event) (d : MemId) →
    IsDue t o rest → CallsNone rest → Legal t events → (run t events).due ≡ rest → IsOver (run t events) → o.operation ≡ Drains d →
    IsEmptyAt (run t events) d.0
