-- What is in slots after one of them was set, or the next one was filled.
use Rattle.std.proofs.Common.{◌≡◌, ℕ, zero, suc, ◌+◌, Bool, true, false, cond, ltb, ◌||◌, refl, sym, ◌∙◌, ap, List, [], ◌∷◌, length, slice_set, Option, Some, None, is_some, unwrap_or, arith}
use Rattle.std.proofs.lemmas.Bool.{le-ltb}
use Rattle.kernel_objects.specs.Slots.{slot, picks, holds_some, free_from, next_slot, with_next}

from_zero : (n : ℕ) → ltb n 0 ≡ false
from_zero n = le-ltb n 0 (omega arith)

pub parts_false : (b c : Bool) → (b || c) ≡ false → (b ≡ false) × (c ≡ false)
parts_false true c e = cc e
parts_false false c e = (refl, e)

module _ {X : Type 0} where
  -- another slot
  pub slot_other : (slots : List (Option X)) (n m : ℕ) (x : Option X) → (n ≡ m → ⊥) → slot (slice_set slots n x) m ≡ slot slots m
  slot_other [] n m x ne = refl
  slot_other (y ∷ slots) zero zero x ne = absurd (ne refl)
  slot_other (y ∷ slots) zero (suc m) x ne = refl
  slot_other (y ∷ slots) (suc n) zero x ne = refl
  slot_other (y ∷ slots) (suc n) (suc m) x ne = slot_other slots n m x (λ e. ne (ap suc e))

  -- a slot that is set to something holds something where it did before
  pub slot_set : (slots : List (Option X)) (n m : ℕ) (x : X) → is_some (slot slots m) ≡ true → is_some (slot (slice_set slots n (Some x)) m) ≡ true
  slot_set [] n m x is = is
  slot_set (y ∷ slots) zero zero x is = refl
  slot_set (y ∷ slots) zero (suc m) x is = is
  slot_set (y ∷ slots) (suc n) zero x is = is
  slot_set (y ∷ slots) (suc n) (suc m) x is = slot_set slots n m x is

  pub length_set : (slots : List (Option X)) (n : ℕ) (x : Option X) → length (slice_set slots n x) ≡ length slots
  length_set [] n x = refl
  length_set (y ∷ slots) zero x = refl
  length_set (y ∷ slots) (suc n) x = ap suc (length_set slots n x)

  -- the next slot
  pub next_keeps : (x : X) (slots : List (Option X)) (m : ℕ) → is_some (slot slots m) ≡ true → is_some (slot (with_next x slots) m) ≡ true
  next_keeps x [] m is = cc is
  next_keeps x (None ∷ slots) zero is = refl
  next_keeps x (None ∷ slots) (suc m) is = is
  next_keeps x (Some y ∷ slots) zero is = refl
  next_keeps x (Some y ∷ slots) (suc m) is = next_keeps x slots m is

  -- its number, where the table begins at n
  abbrev number_from : ℕ → List (Option X) → ℕ
  number_from n slots = unwrap_or (free_from 0 n slots) (n + length slots)

  next_from : (x : X) (slots : List (Option X)) (n : ℕ) → (m : ℕ) × ((number_from n slots ≡ n + m) × (slot (with_next x slots) m ≡ Some x))
  next_from x [] n = (0, (refl, refl))
  next_from x (None ∷ slots) n =
      (0, (ap (λ (b : Bool). unwrap_or (cond b (free_from 0 (n + 1) slots) (Some n)) (n + suc (length slots))) (from_zero n) ∙ (omega arith), refl))
  next_from x (Some y ∷ slots) n =
      let rest = next_from x slots (n + 1) in
      let count : n + length (Some y ∷ slots) ≡ n + 1 + length slots = omega arith in
      let number : number_from (n + 1) slots ≡ n + 1 + rest.0 = rest.1.0 in
      (suc rest.0, (ap (λ (c : ℕ). unwrap_or (free_from 0 (n + 1) slots) c) count ∙ number ∙ (omega arith), rest.1.1))

  -- and it holds the new thing
  pub next_holds : (x : X) (slots : List (Option X)) → slot (with_next x slots) (next_slot slots) ≡ Some x
  next_holds x slots =
      let found = next_from x slots 0 in
      let count : length slots ≡ 0 + length slots = omega arith in
      let number : next_slot slots ≡ found.0 = ap (λ (c : ℕ). unwrap_or (free_from 0 0 slots) c) count ∙ found.1.0 ∙ (omega arith) in
      ap (slot (with_next x slots)) number ∙ found.1.1

  -- what no slot holds
  pub none_held : (test : X → Bool) (slots : List (Option X)) (n : ℕ) (x : X) → holds_some test slots ≡ false → slot slots n ≡ Some x → test x ≡ false
  none_held test [] n x none e = cc e
  none_held test (Some y ∷ slots) zero x none e = ap test (inside e) ∙ (parts_false (test y) (holds_some test slots) none).0
    where
      inside : Some y ≡ Some x → x ≡ y
      inside e = sym (ap (λ (o : Option X). unwrap_or o x) e)
  none_held test (None ∷ slots) zero x none e = cc e
  none_held test (y ∷ slots) (suc n) x none e = none_held test slots n x (parts_false (picks test y) (holds_some test slots) none).1 e
