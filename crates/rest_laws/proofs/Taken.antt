-- What stays of the pending messages once an issuer gets one.
use Rattle.std.proofs.Common.{◌≡◌, ◌+◌, ◌<◌, ◌==◌, ◌&&◌, ◌||◌, [], ◌∷◌, ◌++◌, ◌∙◌, ℕ, Bool, List, None, Option, Some, ap, append-nil, arith, cond, false, inl, inr, length, not, refl, subst, sym, true}
use Rattle.std.proofs.lemmas.Bool.{eqb-false}
use Rattle.std.proofs.lemmas.List.Elements.{filter-append}
use Rattle.std.proofs.lemmas.List.Folds.{list_any-append}
use Rattle.std.specs.List.{AllByRecursion, list_any}
use Rattle.std.specs.Prelude.{nat_lt}
use Rattle.lego_msg.specs.Deliveries.{MayDeliver, is_waiting, stops, taken}
use Rattle.lego_msg.specs.Places.{is_issuer, same_place}
use Rattle.lego_msg.specs.Plain.{Plain}
use Rattle.lego_msg.specs.State.{Block, Mem}
use Rattle.lego_msg.specs.Track.{Track, all_answered, has_answered, is_done, taken_out}
use Rattle.lego_msg.specs.declared.body.Body.{Body}
use Rattle.lego_msg.specs.declared.healing.Healing.{Healing}
use Rattle.lego_msg.specs.declared.healing.Move.{Move}
use Rattle.lego_msg.specs.declared.message.Message.{Message}
use Rattle.lego_msg.specs.declared.operation.Open.{Open}
use Rattle.lego_msg.specs.declared.place.Place.{Place}
use Rattle.lego_msg.specs.declared.place.Place.TheVariants.{Manager, Memory, Processor, Storage}
use Rattle.lego_rest.specs.Answers.{all_pending, asks_storage_by, gave_answer, heals_target, is_answer_from, is_storage_true}
use Rattle.lego_rest.specs.Fits.{background, changes_block, is_background}
use Rattle.lego_rest.specs.Heals.{Between, Scene, count_drains, count_number, is_unheard}
use Rattle.lego_rest.specs.Pending.{Goes, IsBatch, IsNot, IsOf, IsOfMove, IsOld, Left, OfBackground, OfMove, OfOperation, Pends, Returns}
use Rattle.lego_rest.specs.Rest.{IsReady}
use Rattle.rest_laws.proofs.Net.{any-taken, background-taken, takes-one}
use Rattle.rest_laws.proofs.Opened.{all_both, numbered_is_no_batch}
use Rattle.rest_laws.proofs.Truth.{back_false, or_nothing}
use Rattle.rest_laws.specs.Nets.{Split}
use Rattle.lego_msg.specs.declared.place.Place.TheVariants as place

-- LISTS without one of their messages

all_apart : {X : Type 0} (P : X → Type 0) → (front back : List X) (x : X) → AllByRecursion P (front ++ x ∷ back) → P x × AllByRecursion P (front ++ back)
all_apart P [] back x all = all
all_apart P (y ∷ front) back x all = let rest = all_apart P front back x all.1 in (rest.0, (all.0, rest.1))

pub all_taken : (P : Message → Type 0) → (net net' : List Message) (m : Message) → Split net net' m → AllByRecursion P net → P m × AllByRecursion P net'
all_taken P net net' m split all =
    let apart = all_apart P split.front split.back m (subst (AllByRecursion P) split.whole all) in
    (apart.0, subst (AllByRecursion P) (sym split.rest) apart.1)

-- a test that the message fails holds of some other one where it held of any
pub any_same : (test : Message → Bool) (net net' : List Message) (m : Message) → Split net net' m → test m ≡ false → list_any test net ≡ list_any test net'
any_same test net net' m split none = any-taken test net net' m split ∙ ap (λ (b : Bool). b || list_any test net') none

pub any_less : (test : Message → Bool) (net net' : List Message) (m : Message) → Split net net' m → list_any test net' ≡ true → list_any test net ≡ true
any_less test net net' m split e = any-taken test net net' m split ∙ by (test m) (list_any test net') e
  where
    by : (a b : Bool) → b ≡ true → (a || b) ≡ true
    by true b e = refl
    by false b e = e

pub count_both : (number : ℕ) (xs ys : List Message) → count_number number (xs ++ ys) ≡ count_number number xs + count_number number ys
count_both number [] ys = by (count_number number ys)
  where
    by : (k : ℕ) → k ≡ 0 + k
    by k = omega arith
count_both number (x ∷ xs) ys =
    let rest : count_number number (xs ++ ys) ≡ count_number number xs + count_number number ys = count_both number xs ys in
    by (cond (x.op.0 == number) 1 0) rest
  where
    by : (one : ℕ) → count_number number (xs ++ ys) ≡ count_number number xs + count_number number ys → one + count_number number (xs ++ ys) ≡ (one + count_number number xs) + count_number number ys
    by one rest = omega (arith, rest)

pub count_same : (number : ℕ) (net net' : List Message) (m : Message) → Split net net' m → (m.op.0 == number) ≡ false → count_number number net ≡ count_number number net'
count_same number net net' m split none =
    let whole : count_number number net ≡ count_number number split.front + (cond (m.op.0 == number) 1 0 + count_number number split.back) = ap (count_number number) split.whole ∙ count_both number split.front (m ∷ split.back) in
    let rest : count_number number net' ≡ count_number number split.front + count_number number split.back = ap (count_number number) split.rest ∙ count_both number split.front split.back in
    let zero : cond (m.op.0 == number) 1 0 ≡ 0 = ap (λ (b : Bool). cond b 1 0) none in
    by (cond (m.op.0 == number) 1 0) whole zero rest
  where
    by : (one : ℕ) → count_number number net ≡ count_number number split.front + (one + count_number number split.back) → one ≡ 0 → count_number number net' ≡ count_number number split.front + count_number number split.back → count_number number net ≡ count_number number net'
    by one whole zero rest = omega (arith, whole, zero, rest)

-- WHAT AN ISSUER GETS

pub issuer_no_storage : (to : Place) → is_issuer to ≡ true → same_place to place.Storage ≡ false
issuer_no_storage (Processor cpu) e = refl
issuer_no_storage (Memory m) e = cc e
issuer_no_storage Storage e = cc e
issuer_no_storage Manager e = refl

pub no_batch_to_issuer : (m : Message) (k : ℕ) → is_issuer m.to ≡ true → IsBatch m k → ⊥
no_batch_to_issuer m k issuer (Goes from to patches body) = let e : false ≡ true = ap is_issuer (sym to) ∙ issuer in cc e
no_batch_to_issuer m k issuer (Returns from to body) = let e : false ≡ true = ap is_issuer (sym to) ∙ issuer in cc e

pub not_of : (lost : Option ℕ) (n : ℕ) (f : Plain) (m : Message) (c : Option Open) → IsOf lost n f m c → IsNot c m.op.0 → ⊥
not_of lost n f m None of none = of
not_of lost n f m (Some o) of none = eqb-false m.op.0 o.number.0 none of.0

pub not_of_move : (m : Message) (c : Option Open) → IsOfMove m c → IsNot c m.op.0 → ⊥
not_of_move m None of none = of
not_of_move m (Some o) of none = eqb-false m.op.0 o.number.0 none of.0

-- a message of neither the open operation nor the move answers an old drain
pub is_old : (lost : Option ℕ) (n : ℕ) (f : Plain) (current move : Option Open) (next : ℕ) (m : Message) → is_issuer m.to ≡ true → IsNot current m.op.0 → IsNot move m.op.0 → Pends lost n f current move next m → IsOld lost current move next m
is_old lost n f current move next m issuer not_current not_move (OfOperation of) = absurd (not_of lost n f m current of not_current)
is_old lost n f current move next m issuer not_current not_move (OfMove of) = absurd (not_of_move m move of not_move)
is_old lost n f current move next m issuer not_current not_move (OfBackground of) = absurd (no_batch_to_issuer m of.of issuer of.batch)
is_old lost n f current move next m issuer not_current not_move (Left old) = old

-- who gave an answer of fewer messages gave it of all
pub gave_less : (p : Place) (net net' : List Message) (m : Message) → Split net net' m → (c : Option Open) → gave_answer p net' c ≡ true → gave_answer p net c ≡ true
gave_less p net net' m split None e = e
gave_less p net net' m split (Some o) e = by (has_answered p o.answers) e
  where
    by : (a : Bool) → (a || list_any (is_answer_from o p) net') ≡ true → (a || list_any (is_answer_from o p) net) ≡ true
    by true e = refl
    by false e = any_less (is_answer_from o p) net net' m split e

-- an operation is complete as before where the message isn't its own
pub done_same : (net net' : List Message) (m : Message) → Split net net' m → (c : Option Open) → IsNot c m.op.0 → is_done net c ≡ is_done net' c
done_same net net' m split None none = refl
done_same net net' m split (Some o) none = ap (λ (b : Bool). all_answered o.targets o.answers && not b) (any_same (λ (m : Message). m.op.0 == o.number.0) net net' m split none)

pub storage_same : (net net' : List Message) (m : Message) → Split net net' m → is_issuer m.to ≡ true → (h : Option Healing) (c : Option Open) → is_storage_true net h c ≡ is_storage_true net' h c
storage_same net net' m split issuer h None = refl
storage_same net net' m split issuer h (Some o) =
    ap (λ (b : Bool). not (heals_target h (Some o)) && not (list_any (asks_storage_by o.number.0) o.unsent || b)) (any_same (asks_storage_by o.number.0) net net' m split (unasked (m.op.0 == o.number.0) (issuer_no_storage m.to issuer)))
  where
    unasked : (a : Bool) → same_place m.to place.Storage ≡ false → (a && same_place m.to place.Storage) ≡ false
    unasked true e = e
    unasked false e = refl

-- THE TAKING of the message that is delivered

module _ (t : Track) (m : Message) (may : MayDeliver t m) where
  pub split : Split t.net (taken_out t.shape.deliveries t.delivered t.net) m
  split = takes-one t.shape.deliveries t.delivered t.net m may.chosen

  before : all_pending t ≡ t.net
  before = ap (λ (ms : List Message). t.net ++ ms) may.owed ∙ append-nil t.net

  later : all_pending (taken t) ≡ taken_out t.shape.deliveries t.delivered t.net
  later = ap (λ (ms : List Message). taken_out t.shape.deliveries t.delivered t.net ++ ms) may.owed ∙ append-nil (taken_out t.shape.deliveries t.delivered t.net)

  -- the same of all that is pending before and after
  pub whole : Split (all_pending t) (all_pending (taken t)) m
  whole = record { front = split.front; back = split.back; whole = before ∙ split.whole; rest = later ∙ split.rest }

  pub batches_same : 0 < m.op.0 → (k : ℕ) → background k (all_pending (taken t)) ≡ background k (all_pending t)
  batches_same some k = (background-taken k (all_pending t) (all_pending (taken t)) m whole).0 (numbered_is_no_batch m some k)

  -- all first messages of the open operation are sent
  pub all_sent : (o : Open) → is_waiting t.healing (Some o) ≡ true → IsReady t o → (length o.unsent == 0) ≡ true
  all_sent o waits (inl all) = all
  all_sent o waits (inr e) = sym (ap (λ (h : Option Healing). is_waiting h (Some o)) e.2) ∙ waits

  -- a move on its way that the message isn't of
  pub between_goes : (w : Scene) (x : Mem) (c next : ℕ) (done : List Move) (move : Option Open) (got : Option Body) (ahead : List Move) → IsNot move m.op.0 → Between w c (all_pending t) next x done move got ahead → Between w c (all_pending (taken t)) next x done move got ahead
  between_goes w x c next done None got ahead none all = all
  between_goes w x c next done (Some o) got [] none all = all
  between_goes w x c next done (Some o) got (move ∷ ahead) none all =
      let fits = all.1 in
      let unheard : list_any (is_unheard o.number.0) (all_pending t) ≡ list_any (is_unheard o.number.0) (all_pending (taken t)) =
      any_same (is_unheard o.number.0) (all_pending t) (all_pending (taken t)) m whole (ap (λ (b : Bool). b && (not (same_place m.to place.Manager) || stops m.body)) none) in
      let same : count_number o.number.0 (all_pending t) ≡ count_number o.number.0 (all_pending (taken t)) = count_same o.number.0 (all_pending t) (all_pending (taken t)) m whole none in (
        all.0,
        record {
          to = fits.to;
          told = fits.told;
          is = fits.is;
          receiver = fits.receiver;
          hands = fits.hands;
          by = fits.by;
          targets = fits.targets;
          sent = fits.sent;
          some = fits.some;
          below = fits.below;
          once = ap (λ (k : ℕ). k + length o.answers + count_drains o.number.0 w.mems) (sym same) ∙ fits.once;
          answers = fits.answers;
          answering = (all_taken _ (all_pending t) (all_pending (taken t)) m whole fits.answering).1;
        },
        λ e. all.2 (ap (λ (b : Bool). b || nat_lt 0 (count_drains o.number.0 w.mems)) unheard ∙ e),
      )

  pub changes_less : (b : Block) → list_any (λ (m : Message). changes_block b m.body) (all_pending t) ≡ false → list_any (λ (m : Message). changes_block b m.body) (all_pending (taken t)) ≡ false
  changes_less b none = back_false (list_any (λ (m : Message). changes_block b m.body) (all_pending t)) (list_any (λ (m : Message). changes_block b m.body) (all_pending (taken t))) (any_less (λ (m : Message). changes_block b m.body) (all_pending t) (all_pending (taken t)) m whole) none

-- ONE MORE MESSAGE, behind what is pending
module _ (pending : List Message) (r : Message) where
  pub any_more : (test : Message → Bool) → test r ≡ false → list_any test (pending ++ r ∷ []) ≡ list_any test pending
  any_more test none = list_any-append test pending (r ∷ []) ∙ ap (λ (b : Bool). list_any test pending || (b || false)) none ∙ or_nothing (list_any test pending)

  pub background_more : 0 < r.op.0 → (k : ℕ) → background k (pending ++ r ∷ []) ≡ background k pending
  background_more some k =
      filter-append (is_background k) pending (r ∷ [])
      ∙ ap (λ (b : Bool). background k pending ++ cond b (r ∷ []) []) (numbered_is_no_batch r some k) ∙ append-nil (background k pending)

  pub between_more : (w : Scene) (x : Mem) (c next : ℕ) (done : List Move) (move : Option Open) (got : Option Body) (ahead : List Move) → IsNot move r.op.0 → Between w c pending next x done move got ahead → Between w c (pending ++ r ∷ []) next x done move got ahead
  between_more w x c next done None got ahead none all = all
  between_more w x c next done (Some o) got [] none all = all
  between_more w x c next done (Some o) got (move ∷ ahead) none all =
      let fits = all.1 in
      let unheard : list_any (is_unheard o.number.0) (pending ++ r ∷ []) ≡ list_any (is_unheard o.number.0) pending =
      any_more (is_unheard o.number.0) (ap (λ (b : Bool). b && (not (same_place r.to place.Manager) || stops r.body)) none) in
      let zero : cond (r.op.0 == o.number.0) 1 0 ≡ 0 = ap (λ (b : Bool). cond b 1 0) none in
      let both : count_number o.number.0 (pending ++ r ∷ []) ≡ count_number o.number.0 pending + (cond (r.op.0 == o.number.0) 1 0 + 0) = count_both o.number.0 pending (r ∷ []) in
      let same : count_number o.number.0 (pending ++ r ∷ []) ≡ count_number o.number.0 pending = by (count_number o.number.0 (pending ++ r ∷ [])) (count_number o.number.0 pending) (cond (r.op.0 == o.number.0) 1 0) both zero in (
        all.0,
        record {
          to = fits.to;
          told = fits.told;
          is = fits.is;
          receiver = fits.receiver;
          hands = fits.hands;
          by = fits.by;
          targets = fits.targets;
          sent = fits.sent;
          some = fits.some;
          below = fits.below;
          once = ap (λ (k : ℕ). k + length o.answers + count_drains o.number.0 w.mems) same ∙ fits.once;
          answers = fits.answers;
          answering = all_both _ pending (r ∷ []) fits.answering (λ number. absurd (eqb-false r.op.0 o.number.0 none number), tt);
        },
        λ e. all.2 (ap (λ (b : Bool). b || nat_lt 0 (count_drains o.number.0 w.mems)) (sym unheard) ∙ e),
      )
    where
      by : (a b one : ℕ) → a ≡ b + (one + 0) → one ≡ 0 → a ≡ b
      by a b one both zero = omega (arith, both, zero)
