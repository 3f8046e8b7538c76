-- An operation that doesn't write leaves empty logs empty, whatever crashes and is healed.
use Rattle.std.proofs.Common.{◌≡◌, ◌⊎◌, ◌<◌, [], ◌∷◌, ◌∙◌, ℕ, Bool, List, None, Option, Some, ap, arith, false, inl, inr, length, refl, slice_get, subst, sym}
use Rattle.std.proofs.lemmas.Bool.Decides.{eqb_tells}
use Rattle.std.specs.Prelude.{slice_set}
use Rattle.lego_msg.proofs.Flow.{completed_same, issuer_same}
use Rattle.lego_msg.proofs.Senders.{get_set, get_set_other, same_some}
use Rattle.lego_msg.specs.Crashes.{memory_lost}
use Rattle.lego_msg.specs.Deliveries.{MayDeliver, comes, memory_handles, taken}
use Rattle.lego_msg.specs.Legal.{Legal, May}
use Rattle.lego_msg.specs.Marks.{Mark, Order}
use Rattle.lego_msg.specs.Operations.{is_write}
use Rattle.lego_msg.specs.Places.{memory}
use Rattle.lego_msg.specs.Run.{after, run}
use Rattle.lego_msg.specs.State.{Mem, lost}
use Rattle.lego_msg.specs.Table.{handled}
use Rattle.lego_msg.specs.Track.{Track}
use Rattle.lego_msg.specs.declared.event.Event.{Event}
use Rattle.lego_msg.specs.declared.event.Event.TheVariants.{Access, Complete, Crash, Deliver, Drop, Fill, Out, Send, Turn}
use Rattle.lego_msg.specs.declared.message.Message.{Message}
use Rattle.lego_msg.specs.declared.operation.Open.{Open}
use Rattle.lego_msg.specs.declared.operation.Operation.{Operation}
use Rattle.lego_msg.specs.declared.place.Place.{Place}
use Rattle.lego_msg.specs.declared.place.Place.TheVariants.{Manager, Memory, Processor, Storage}
use Rattle.lego_rest.specs.Answers.{is_writing}
use Rattle.rest_laws.proofs.Emptied.{end_of_none, sent_mems}
use Rattle.rest_laws.specs.Logs.{IsEmptyAt}
use Rattle.healing_laws.proofs.LeadsBack.{IsDone, IsOpen, StandsSo, Way, list_never_grows, operation_in, sets_out, step}
use Rattle.healing_laws.proofs.Unwritten.{log_ends}
use Rattle.healing_laws.specs.Emptying.{EmptyLogsStayThere}
use Rattle.healing_laws.specs.Running.{InRelation}

-- WHAT HAPPENS TO MEMORY k: nothing, or its row; or it is lost
pub delivered_at : (now : Track) (m : Message) (k : ℕ) (P : Mem → Type 0) → ((s : Mem) → slice_get now.mems k ≡ Some s → P s) → ((s : Mem) → slice_get now.mems k ≡ Some s → m.to ≡ memory k → P (handled s m).0) → (s : Mem) → slice_get (comes (taken now) m m.to).mems k ≡ Some s → P s
delivered_at now m k P was row s at = by m.to refl at
  where
    at_memory : (number : ℕ) → m.to ≡ memory number → (x : Option Mem) → slice_get now.mems number ≡ x → slice_get (memory_handles (taken now) number m x).mems k ≡ Some s → P s
    at_memory number to None none at = was s at
    at_memory number to (Some x) there at = elim (eqb_tells number k) [
      | inl same ↦
          let here : slice_get now.mems k ≡ Some x = ap (slice_get now.mems) (sym same.1) ∙ there in
          let is : (handled x m).0 ≡ s = same_some (handled x m).0 s (sym (get_set now.mems number x (handled x m).0 there) ∙ ap (slice_get (slice_set now.mems number (handled x m).0)) same.1 ∙ at) in
          subst P is (row x here (to ∙ ap memory same.1))
      | inr differ ↦ was s (sym (get_set_other now.mems number k (handled x m).0 differ.1) ∙ at)
    ]

    by : (to : Place) → m.to ≡ to → slice_get (comes (taken now) m to).mems k ≡ Some s → P s
    by (Processor cpu) is at = was s (ap (λ (mems : List Mem). slice_get mems k) (sym (issuer_same (taken now) m).mems) ∙ at)
    by (Memory number) is at = at_memory number.0 is (slice_get now.mems number.0) refl at
    by Storage is at = was s at
    by Manager is at = was s (ap (λ (mems : List Mem). slice_get mems k) (sym (issuer_same (taken now) m).mems) ∙ at)

pub lost_at : (mems : List Mem) (number k : ℕ) (P : Mem → Type 0) → ((s : Mem) → P (lost s)) → ((s : Mem) → slice_get mems k ≡ Some s → P s) → (c : Option Mem) → slice_get mems number ≡ c → (s : Mem) → slice_get (memory_lost mems number c) k ≡ Some s → P s
lost_at mems number k P new_ was None there s at = was s at
lost_at mems number k P new_ was (Some x) there s at = elim (eqb_tells number k) [
  | inl same ↦ subst P (same_some (lost x) s (sym (get_set mems number x (lost x) there) ∙ ap (slice_get (slice_set mems number (lost x))) same.1 ∙ at)) (new_ x)
  | inr differ ↦ was s (sym (get_set_other mems number k (lost x) differ.1) ∙ at)
]

-- EVERY EVENT leaves an empty log empty, while no write is open
module _ (now : Track) (k : ℕ) (middle : InRelation now) (unwritten : is_writing now.current ≡ false) (empty : IsEmptyAt now k) where
  pub delivered_empty : (m : Message) → MayDeliver now m → IsEmptyAt (comes (taken now) m m.to) k
  delivered_empty m may = delivered_at now m k (λ (s : Mem). s.log ≡ []) empty row
    where
      row : (s : Mem) → slice_get now.mems k ≡ Some s → m.to ≡ memory k → (handled s m).0.log ≡ []
      row s at to = let ends = log_ends now m may middle unwritten k to s in end_of_none (handled s m).0.log (ends.0, ends.1 ∙ empty s at)

  pub empty_after : (e : Event) → May now e → IsEmptyAt (after now e) k
  empty_after (Turn number pid) may = empty
  empty_after (Access cpu pid address kind bytes) may = empty
  empty_after (Fill pid address bytes) may = empty
  empty_after (Drop cpu pid line) may = empty
  empty_after (Send m) may = λ s at. empty s (ap (λ (mems : List Mem). slice_get mems k) (sym (sent_mems now m now.owed now.healing now.current)) ∙ at)
  empty_after (Deliver m) may = delivered_empty m may
  empty_after (Crash number inc) may = lost_at now.mems number.0 k (λ (s : Mem). s.log ≡ []) (λ s. refl) empty (slice_get now.mems number.0) refl
  empty_after (Complete op) may = λ s at. empty s (ap (λ (mems : List Mem). slice_get mems k) (sym (completed_same now op.0 now.healing).mems) ∙ at)
  empty_after (Out stream bytes) may = empty

-- on the way of an operation that doesn't write none is open
abbrev writes_in : Option Operation → Bool
writes_in None = false
writes_in (Some o) = is_write o

writing_is : (c : Option Open) (d : Option Operation) → operation_in c ≡ d → is_writing c ≡ writes_in d
writing_is None d e = ap writes_in e
writing_is (Some one) d e = ap writes_in e

pub stands_unwritten : (t : Track) (o : Order) (now : Track) → is_write o.operation ≡ false → StandsSo t o now → is_writing now.current ≡ false
stands_unwritten t o now none (IsOpen operation plain owners) = writing_is now.current (Some o.operation) operation ∙ none
stands_unwritten t o now none (IsDone operation plain owners) = writing_is now.current None operation

module _ (t : Track) (o : Order) (rest : List Mark) (k : ℕ) (none : is_write o.operation ≡ false) where
  pub empties : (now : Track) (events : List Event) → Legal now events → (run now events).due ≡ rest → Way t o rest now → IsEmptyAt now k → IsEmptyAt (run now events) k
  empties now [] legal last way empty = empty
  empties now (e ∷ events) legal last way empty = by (step t o rest now e legal.0 way) (λ next. empties (after now e) events legal.1 last next (empty_after now k way.middle (stands_unwritten t o now none way.stands) empty e legal.0))
    where
      by : Way t o rest (after now e) ⊎ (length (after now e).due < length now.due) → (Way t o rest (after now e) → IsEmptyAt (run (after now e) events) k) → IsEmptyAt (run (after now e) events) k
      by (inl next) on = on next
      by (inr less) on =
          let shorter = list_never_grows (after now e) events legal.1 in
          let all : length (run (after now e) events).due ≡ length rest = ap length last in
          let was : length now.due ≡ length rest = ap length way.due in
          absurd (omega (arith, less, shorter, all, was))

pub empty-logs-stay-there : EmptyLogsStayThere
empty-logs-stay-there t o rest m events k is_due legal last none empty =
    empties t o rest k none (after t (Send m)) events legal.1 last (sets_out t o rest is_due m legal.0) (λ s at. empty s (ap (λ (mems : List Mem). slice_get mems k) (sym (sent_mems t m t.owed t.healing t.current)) ∙ at))
