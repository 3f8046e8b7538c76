-- What marks show comes in their order.
use Rattle.std.proofs.Common.{◌≡◌, [], ◌∷◌, ◌∙◌, List, None, Option, Some, ap, drop, refl, sym}
use Rattle.lego_msg.proofs.Flow.{comes_arrived, completed_same}
use Rattle.lego_msg.specs.Deliveries.{taken}
use Rattle.lego_msg.specs.Laws.{ShownAsDue, shows}
use Rattle.lego_msg.specs.Marks.{Call, Mark, Show}
use Rattle.lego_msg.specs.Next.{next}
use Rattle.lego_msg.specs.Run.{after}
use Rattle.lego_msg.specs.Sends.{MayBegin, MaySend, begins, move_begins, sent}
use Rattle.lego_msg.specs.ShownEvents.{IsNext}
use Rattle.lego_msg.specs.Track.{Track}
use Rattle.lego_msg.specs.declared.event.Event.{Event}
use Rattle.lego_msg.specs.declared.event.Event.TheVariants.{Access, Complete, Crash, Deliver, Drop, Fill, Out, Send, Turn}
use Rattle.lego_msg.specs.declared.healing.Healing.{Healing}
use Rattle.lego_msg.specs.declared.healing.Move.{Move}
use Rattle.lego_msg.specs.declared.message.Message.{Message}
use Rattle.lego_msg.specs.declared.operation.Open.{Open}

next_is : (e : Event) (due : List Mark) → IsNext e due → e ∷ shows (drop 1 due) ≡ shows due
next_is e [] next = absurd next
next_is e (Call o ∷ due) next = absurd next
next_is e (Show x ∷ due) next = ap (λ (e : Event). e ∷ shows due) (sym next)

-- an operation that begins takes no event off
begins_shows : (t : Track) (m : Message) (due : List Mark) → MayBegin t m due → shows (begins t m due).due ≡ shows due
begins_shows t m [] may = absurd may
begins_shows t m (Show e ∷ due) may = absurd may
begins_shows t m (Call o ∷ due) may = refl

move_due : (t : Track) (m : Message) (h : Healing) (moves : List Move) → (move_begins t m h moves).due ≡ t.due
move_due t m h [] = refl
move_due t m h (move ∷ moves) = refl

sent_shows : (t : Track) (m : Message) (owed : List Message) (h : Option Healing) (o : Option Open) → MaySend t m owed h o → shows (sent t m owed h o).due ≡ shows t.due
sent_shows t m (x ∷ owed) h o may = refl
sent_shows t m [] (Some h) o may = ap shows (move_due t m h h.moves)
sent_shows t m [] None (Some o) may = refl
sent_shows t m [] None None may = begins_shows t m t.due may.1

pub shown-as-due : ShownAsDue
shown-as-due t [] legal = refl
shown-as-due t (Turn number pid ∷ es) legal = ap (λ (xs : List Event). Turn number pid ∷ xs) (shown-as-due (after t (Turn number pid)) es legal.1) ∙ next_is (Turn number pid) t.due legal.0.0.1
shown-as-due t (Access cpu pid address kind bytes ∷ es) legal = ap (λ (xs : List Event). Access cpu pid address kind bytes ∷ xs) (shown-as-due (after t (Access cpu pid address kind bytes)) es legal.1) ∙ next_is (Access cpu pid address kind bytes) t.due legal.0.0.1
shown-as-due t (Fill pid address bytes ∷ es) legal = ap (λ (xs : List Event). Fill pid address bytes ∷ xs) (shown-as-due (after t (Fill pid address bytes)) es legal.1) ∙ next_is (Fill pid address bytes) t.due legal.0.1
shown-as-due t (Drop cpu pid line ∷ es) legal = ap (λ (xs : List Event). Drop cpu pid line ∷ xs) (shown-as-due (after t (Drop cpu pid line)) es legal.1) ∙ next_is (Drop cpu pid line) t.due legal.0.0.1
shown-as-due t (Send m ∷ es) legal = shown-as-due (after t (Send m)) es legal.1 ∙ sent_shows t m t.owed t.healing t.current legal.0
shown-as-due t (Deliver m ∷ es) legal = shown-as-due (after t (Deliver m)) es legal.1 ∙ ap shows (comes_arrived (taken t) m m.to).due
shown-as-due t (Crash number inc ∷ es) legal = shown-as-due (after t (Crash number inc)) es legal.1
shown-as-due t (Complete op ∷ es) legal = shown-as-due (after t (Complete op)) es legal.1 ∙ ap shows (completed_same t op.0 t.healing).due
shown-as-due t (Out stream bytes ∷ es) legal = ap (λ (xs : List Event). Out stream bytes ∷ xs) (shown-as-due (after t (Out stream bytes)) es legal.1) ∙ next_is (Out stream bytes) t.due legal.0.1
