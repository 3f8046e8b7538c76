-- Pending messages, once one is taken out or more are sent.
use Rattle.std.proofs.Common.{◌≡◌, ◌+◌, ◌||◌, [], ◌∷◌, ◌++◌, ◌∙◌, ℕ, Bool, List, Some, ap, arith, cond, drop, false, length, length-append, refl, slice_get, subst, suc, sym, take, true, zero}
use Rattle.std.proofs.lemmas.List.Elements.{filter-append}
use Rattle.std.proofs.lemmas.List.Folds.{list_any-append}
use Rattle.std.specs.List.{AllByRecursion, list_any}
use Rattle.lego_msg.proofs.Senders.{same_some}
use Rattle.lego_msg.specs.Track.{pick_of}
use Rattle.lego_msg.specs.declared.message.Message.{Message}
use Rattle.lego_rest.specs.Fits.{background, is_background}
use Rattle.rest_laws.specs.Nets.{AnyTaken, BackgroundTaken, Split, TakesOne}

get_splits : {X : Type 0} (xs : List X) (i : ℕ) (x : X) → slice_get xs i ≡ Some x → xs ≡ take i xs ++ x ∷ drop (i + 1) xs
get_splits [] i x at = cc at
get_splits (y ∷ ys) zero x at = ap (λ (z : _). z ∷ ys) (same_some y x at)
get_splits {X = X} (y ∷ ys) (suc i) x at =
    let rest : ys ≡ take i ys ++ x ∷ drop (i + 1) ys = get_splits ys i x at in
    let place : suc (i + 1) ≡ suc i + 1 = omega arith in
    ap (λ (zs : List X). y ∷ zs) rest ∙ ap (λ (n : ℕ). y ∷ take i ys ++ x ∷ drop n (y ∷ ys)) place

pub takes-one : TakesOne
takes-one deliveries number net m chosen = record {
  front = take (pick_of deliveries number (length net)) net;
  back = drop (pick_of deliveries number (length net) + 1) net;
  whole = get_splits net (pick_of deliveries number (length net)) m chosen;
  rest = refl;
}

pub any-taken : AnyTaken
any-taken test net net' m split =
    ap (list_any test) split.whole ∙ list_any-append test split.front (m ∷ split.back)
    ∙ turned (list_any test split.front) (test m) (list_any test split.back)
    ∙ ap (λ (b : Bool). test m || b) (sym (ap (list_any test) split.rest ∙ list_any-append test split.front split.back))
  where
    turned : (a b c : Bool) → (a || (b || c)) ≡ (b || (a || c))
    turned true true c = refl
    turned true false c = refl
    turned false b c = refl

no_length : {X : Type 0} (xs : List X) → length xs ≡ 0 → xs ≡ []
no_length [] e = refl
no_length (x ∷ xs) e = absurd (omega (arith, e))

pub background-taken : BackgroundTaken
background-taken k net net' m split = (other, only)
  where
    apart : background k net ≡ background k split.front ++ cond (is_background k m) (m ∷ background k split.back) (background k split.back)
    apart = ap (background k) split.whole ∙ filter-append (is_background k) split.front (m ∷ split.back)

    left : background k net' ≡ background k split.front ++ background k split.back
    left = ap (background k) split.rest ∙ filter-append (is_background k) split.front split.back

    other : is_background k m ≡ false → background k net' ≡ background k net
    other e = left ∙ sym (apart ∙ ap (λ (b : Bool). background k split.front ++ cond b (m ∷ background k split.back) (background k split.back)) e)

    only : is_background k m ≡ true → length (background k net) ≡ 1 → background k net' ≡ []
    only e one =
        let whole : length (background k net) ≡ length (background k split.front) + length (m ∷ background k split.back) =
        ap length (apart ∙ ap (λ (b : Bool). background k split.front ++ cond b (m ∷ background k split.back) (background k split.back)) e) ∙ length-append (background k split.front) (m ∷ background k split.back) in
        let rest : length (background k net') ≡ length (background k split.front) + length (background k split.back) = ap length left ∙ length-append (background k split.front) (background k split.back) in
        no_length (background k net') (omega (arith, one, whole, rest))

-- what holds of all messages
pub all-sent : (P : Message → Type 0) (net out : List Message) → AllByRecursion P net → AllByRecursion P out → AllByRecursion P (net ++ out)
all-sent P [] out all more = more
all-sent P (x ∷ net) out all more = (all.0, all-sent P net out all.1 more)

all_front : (P : Message → Type 0) (net out : List Message) → AllByRecursion P (net ++ out) → AllByRecursion P net
all_front P [] out all = tt
all_front P (x ∷ net) out all = (all.0, all_front P net out all.1)

all_back : (P : Message → Type 0) (net out : List Message) → AllByRecursion P (net ++ out) → AllByRecursion P out
all_back P [] out all = all
all_back P (x ∷ net) out all = all_back P net out all.1

pub all-taken : (P : Message → Type 0) (net net' : List Message) (m : Message) → Split net net' m → AllByRecursion P net → P m × AllByRecursion P net'
all-taken P net net' m split all =
    let here : AllByRecursion P (split.front ++ m ∷ split.back) = subst (AllByRecursion P) split.whole all in
    let back = all_back P split.front (m ∷ split.back) here in
    (back.0, subst (AllByRecursion P) (sym split.rest) (all-sent P split.front split.back (all_front P split.front (m ∷ split.back) here) back.1))
