-- A memory meets a message of the open operation: what is known of both before the row of the message table.
use Rattle.std.proofs.Common.{◌≡◌, ◌<◌, [], ◌∷◌, ◌++◌, ◌∙◌, ℕ, Bool, List, None, Option, Some, ap, append-nil, cond, false, slice_get, subst, sym, true}
use Rattle.std.proofs.lemmas.Bool.{eq-eqb}
use Rattle.std.proofs.lemmas.List.Elements.{filter-append}
use Rattle.std.specs.List.{AllByRecursion}
use Rattle.lego_msg.specs.Deliveries.{MayDeliver, taken}
use Rattle.lego_msg.specs.Places.{memory, same_place, secondary_of}
use Rattle.lego_msg.specs.State.{Block, Mem}
use Rattle.lego_msg.specs.Track.{Track, healing_move, memory_count}
use Rattle.lego_msg.specs.declared.message.Message.{Message}
use Rattle.lego_msg.specs.declared.operation.Open.{Open}
use Rattle.lego_msg.specs.declared.place.Place.{Place}
use Rattle.lego_rest.specs.Answers.{all_pending}
use Rattle.lego_rest.specs.Fits.{MemFits, OpenFits, background, changes_block, is_background}
use Rattle.lego_rest.specs.Parts.{Cell, IsEither, main_part, second_part, sides_of}
use Rattle.lego_rest.specs.Pending.{IsAway, IsNot, IsOfMove, IsPlace, IsUp, MayPend}
use Rattle.lego_rest.specs.Rest.{MemHolds, Middle}
use Rattle.rest_laws.proofs.Delivered.{left_of}
use Rattle.rest_laws.proofs.Opened.{numbered_is_no_batch}
use Rattle.rest_laws.proofs.Taken.{all_taken, batches_same, whole}
use Rattle.lego_msg.specs.declared.place.Place.TheVariants as place

pub record Met (lost : Option ℕ) (t : Track) (o : Open) (k : ℕ) (s : Mem) (m : Message) : Type 0 where
  pub may : MayDeliver (record t { current = Some o }) m
  pub to : m.to ≡ memory k
  pub at : slice_get t.mems k ≡ Some s
  pub middle : Middle lost (record t { current = Some o })
  pub number : m.op.0 ≡ o.number.0
  pub away : IsAway lost m
  pub not_move : IsNot (healing_move t.healing) m.op.0
  -- no message of a move changes a block
  pub moves : (b : Block) → AllByRecursion (λ (x : Message). IsOfMove x (healing_move t.healing) → changes_block b x.body ≡ false) (all_pending t)

pub memory_same : (a b : ℕ) → memory a ≡ memory b → a ≡ b
memory_same a b e = ap number_of e
  where
    number_of : Place → ℕ
    number_of (place.Processor cpu) = 0
    number_of (place.Memory m) = m.0
    number_of place.Storage = 0
    number_of place.Manager = 0

module _ (lost : Option ℕ) (t : Track) (o : Open) (k : ℕ) (s : Mem) (m : Message) (met : Met lost t o k s m) where
  pub met_open : OpenFits (memory_count t.shape) t.owners t.plain t.next o
  met_open = met.middle.current.0

  pub met_pends : MayPend lost (memory_count t.shape) t.plain (Some o) (healing_move t.healing) t.next m
  met_pends = (all_taken (MayPend lost (memory_count t.shape) t.plain (Some o) (healing_move t.healing) t.next) (all_pending t) (all_pending (taken (record t { current = Some o }))) m (whole (record t { current = Some o }) m met.may) met.middle.pending).0

  pub met_below : k < memory_count t.shape
  met_below = subst (IsPlace (memory_count t.shape)) met.to met_pends.to

  pub met_fits : MemFits t.shape k s
  met_fits = met.middle.forms k s met.at

  pub met_id : memory s.id ≡ memory k
  met_id = ap memory met_fits.id

  pub met_up : IsUp lost k
  met_up = by lost met.away
    where
      by : (lost : Option ℕ) → IsAway lost m → IsUp lost k
      by None away = tt
      by (Some c) away = λ same. let both : true ≡ false = sym (eq-eqb k c (sym same)) ∙ ap (λ (p : Place). same_place p (memory c)) (sym met.to) ∙ away.1 in cc both

  pub met_holds : MemHolds (record t { current = Some o }) k s
  met_holds = met.middle.memories k s met_up met.at

  pub met_main : (c : Cell) → IsEither (sides_of (record t { current = Some o })) k c (main_part s c)
  met_main = met_holds.part.either

  pub met_second : (j : ℕ) → j < memory_count t.shape → secondary_of (memory_count t.shape) j ≡ k → (c : Cell) → IsEither (sides_of (record t { current = Some o })) j c (second_part t.owners t.disk.images j s c)
  met_second j below is = (met.middle.seconds j s below (subst (IsUp lost) (sym is) met_up) (ap (slice_get t.mems) is ∙ met.at)).part.either

  pub met_some : 0 < m.op.0
  met_some = subst (λ (n : ℕ). 0 < n) (sym met.number) met_open.some

  -- batches and receipts are pending as before, without the message
  pub met_left : (j : ℕ) → background j (left_of t) ≡ background j (all_pending t)
  met_left j = ap (background j) (sym (ap (λ (ms : List Message). left_of t ++ ms) met.may.owed ∙ append-nil (left_of t))) ∙ batches_same (record t { current = Some o }) m met.may met_some j

  -- and with what is sent, where it has a number
  pub met_background : (r : Message) → 0 < r.op.0 → (j : ℕ) → background j (left_of t ++ r ∷ []) ≡ background j (all_pending t)
  met_background r some j = filter-append (is_background j) (left_of t) (r ∷ []) ∙ ap (λ (b : Bool). background j (left_of t) ++ cond b (r ∷ []) []) (numbered_is_no_batch r some j) ∙ append-nil (background j (left_of t)) ∙ met_left j
