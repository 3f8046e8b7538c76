-- Small laws of truth values, numbers and options that several proofs need.
use Rattle.std.proofs.Common.{◌≡◌, ◌<◌, ◌==◌, ◌&&◌, ◌||◌, ◌∙◌, ℕ, Bool, None, Some, ap, arith, false, inl, inr, not, refl, sym, true}
use Rattle.std.proofs.lemmas.Bool.Decides.{eqb_tells}

pub or_false : (a b : Bool) → (a || b) ≡ false → a ≡ false
or_false true b e = cc e
or_false false b e = refl

pub or_nothing : (b : Bool) → (b || false) ≡ b
or_nothing true = refl
or_nothing false = refl

pub not_true : (a : Bool) → not a ≡ true → a ≡ false
not_true true e = cc e
not_true false e = refl

pub both_true : (a b : Bool) → (a && b) ≡ true → (a ≡ true) × (b ≡ true)
both_true true b e = (refl, e)
both_true false b e = cc e

pub and_true : (a b : Bool) → a ≡ true → b ≡ true → (a && b) ≡ true
and_true a b e f = ap (λ (x : Bool). x && b) e ∙ f

-- the third of four tests fails
pub third_false : (a b c d : Bool) → c ≡ false → (a && b && c && d) ≡ false
third_false true true c d e = ap (λ (x : Bool). x && d) e
third_false true false c d e = refl
third_false false b c d e = refl

-- what was false stays false, where being true goes back
pub back_false : (a b : Bool) → (b ≡ true → a ≡ true) → a ≡ false → b ≡ false
back_false a true back e = let both : true ≡ false = sym (back refl) ∙ e in cc both
back_false a false back e = refl

pub not_zero : (n : ℕ) → 0 < n → (n == 0) ≡ false
not_zero n some = elim (eqb_tells n 0) [
  | inl e ↦ let none = e.1 in absurd (omega (arith, none, some))
  | inr e ↦ e.0
]

pub some_none : {X : Type 0} (x : X) → Some x ≡ None → ⊥
some_none x e = cc e
