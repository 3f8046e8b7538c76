-- The delivery of the message that the delivery list picks may come, and a refusal that it brings is the cause of a halt.
use Rattle.std.proofs.Common.{◌≡◌, ◌+◌, ◌∙◌, [], ◌∷◌, ℕ, List, Option, Some, ap, slice_get, subst, suc, sym, true, zero}
use Rattle.std.specs.List.{AllByRecursion}
use Rattle.lego_base.specs.declared.shape.Shape.{Shape}
use Rattle.lego_base.specs.declared.stops.Halt.{Halt}
use Rattle.lego_msg.proofs.Senders.{same_some}
use Rattle.lego_msg.specs.Deliveries.{comes, is_waiting}
use Rattle.lego_msg.specs.Track.{Track, is_calm, picked, taken_out}
use Rattle.lego_msg.specs.Watching.{ShownTo}
use Rattle.lego_msg.specs.Went.{Came, HasCause, Halted}
use Rattle.lego_msg.specs.declared.event.Event.{Event}
use Rattle.lego_msg.specs.declared.event.Event.TheVariants.{Deliver}
use Rattle.lego_msg.specs.declared.message.Message.{Message}
use Rattle.net_fabric.proofs.Choosing.{by-choice}
use Rattle.net_fabric.specs.Laws.{choice_of}
use Rattle.protocol_engine.specs.Messages.{IsCause}
use Rattle.lego_base.specs.declared.stops.Halt.TheVariants as halt

-- what holds of all holds of one
pub all_at : {X : Type 0} (P : X → Type 0) (xs : List X) (i : ℕ) (x : X) → AllByRecursion P xs → slice_get xs i ≡ Some x → P x
all_at P [] i x all at = cc at
all_at P (y ∷ xs) zero x all at = subst P (same_some y x at) all.0
all_at P (y ∷ xs) (suc i) x all at = all_at P xs i x all.1 at

-- the message that the choice of the delivery list takes is the one that the list picks
pub is_picked : (deliveries : List ℕ) (number choice : ℕ) (pending : List Message) (m : Message) → choice ≡ choice_of deliveries number → picked (choice ∷ []) 0 pending ≡ Some m → picked deliveries number pending ≡ Some m
is_picked deliveries number choice pending m same chosen = (by-choice deliveries number pending).picks ∙ ap (λ (k : ℕ). picked (k ∷ []) 0 pending) (sym same) ∙ chosen

pub is_left : (deliveries : List ℕ) (number choice : ℕ) (pending rest : List Message) → choice ≡ choice_of deliveries number → rest ≡ taken_out (choice ∷ []) 0 pending → rest ≡ taken_out deliveries number pending
is_left deliveries number choice pending rest same left = left ∙ ap (λ (k : ℕ). taken_out (k ∷ []) 0 pending) same ∙ sym (by-choice deliveries number pending).leaves

has_cause : (shape : Shape) (h : Halt) (m : Message) → IsCause shape h m → HasCause shape h (Deliver m ∷ [])
has_cause shape (halt.Full number frames) m cause = cause
has_cause shape (halt.StoreFull blocks) m cause = cause
has_cause shape halt.NoMemory m cause = tt

module _ {W : Type 0} (told : W → Option (List Event)) (faults : W → ℕ) (w w' : W) where
  pub deliver_came : (t t' : Track) (m : Message) (net : List Message) (delivered since : ℕ) → ShownTo told faults w w' (Deliver m ∷ []) →
      t.owed ≡ [] → is_waiting t.healing t.current ≡ true → is_calm t ≡ true → picked t.shape.deliveries t.delivered t.net ≡ Some m → net ≡ taken_out t.shape.deliveries t.delivered t.net →
      delivered ≡ t.delivered + 1 → since ≡ t.clock.since + 1 → comes (record t { net = net; delivered = delivered; clock = record t.clock { since = since } }) m m.to ≡ t' → Came told faults w w' t t'
  deliver_came t t' m net delivered since shown owed waiting calm chosen left counts more leads = record {
    event = Deliver m;
    shown = shown;
    may = record { owed = owed; waiting = waiting; calm = calm; chosen = chosen };
    ends = (λ i. comes (record t { net = sym left i; delivered = sym counts i; clock = record t.clock { since = sym more i } }) m m.to) ∙ leads;
  }

  pub deliver_halted : (t : Track) (m : Message) (h : Halt) → ShownTo told faults w w' (Deliver m ∷ []) →
      t.owed ≡ [] → is_waiting t.healing t.current ≡ true → is_calm t ≡ true → picked t.shape.deliveries t.delivered t.net ≡ Some m → IsCause t.shape h m → Halted told faults w w' h t
  deliver_halted t m h shown owed waiting calm chosen cause = record {
    events = Deliver m ∷ [];
    shown = shown;
    legal = (record { owed = owed; waiting = waiting; calm = calm; chosen = chosen }, tt);
    cause = has_cause t.shape h m cause;
  }
