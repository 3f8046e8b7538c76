-- Loads from one on.
use Rattle.std.proofs.Common.{◌≡◌, ℕ, ◌+◌, ◌-◌, ◌≤◌, ◌<◌, refl, ◌∙◌, ap, List, ◌∷◌, length, drop, get_or, Option, Some, None, arith}
use Rattle.std.specs.Prelude.{IfSome}
use Rattle.std.proofs.lemmas.List.{drop_more}

pub drop_step : {A : Type 0} (xs : List A) (i : ℕ) (x : A) → 0 < i → i ≤ length xs → get_or xs (i - 1) x ≡ x → drop (i - 1) xs ≡ x ∷ drop i xs
drop_step xs i x some within is =
    let next : i - 1 + 1 ≡ i = omega (arith, some) in
    drop_more xs (i - 1) x (omega (arith, some, within))
    ∙ (λ j. is j ∷ drop (next j) xs)

pub drop_none : {A : Type 0} (xs : List A) (i : ℕ) → i ≤ 0 → drop i xs ≡ xs
drop_none xs i none =
    let e : i ≡ 0 = omega (arith, none) in
    ap (λ (i : ℕ). drop i xs) e

pub if_some : {A : Type 0} (P : A → Type 0) (o : Option A) → ((x : A) → o ≡ Some x → P x) → IfSome o P
if_some P None f = tt
if_some P (Some x) f = f x refl
