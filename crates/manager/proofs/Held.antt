-- Tables by number: the next slot, what is held, and how many slots hold a thing that a test picks.
use Rattle.std.proofs.Common.{◌≡◌, ℕ, zero, suc, ◌+◌, ◌≤◌, ◌<◌, Bool, true, false, cond, ltb, ◌||◌, refl, sym, ◌∙◌, ap, List, [], ◌∷◌, ◌++◌, length, get_or, slice_set, Option, Some, None, is_some, unwrap_or, arith}
use Rattle.std.proofs.lemmas.Bool.{le-ltb, lt-ltb}
use Rattle.kernel_objects.specs.Slots.{slot, held, picks, holds_some, free_from, next_slot, with_next, freed}
use Rattle.manager.specs.Counting.{one_if, slots_with}

from_zero : (n : ℕ) → ltb n 0 ≡ false
from_zero n = le-ltb n 0 (omega arith)

one_le : (b : Bool) → one_if b ≤ 1
one_le true = omega arith
one_le false = omega arith

some_more : (b c : Bool) (n : ℕ) → ltb 0 n ≡ c → ltb 0 (one_if b + n) ≡ (b || c)
some_more true c n e = lt-ltb 0 (1 + n) (omega arith)
some_more false c n e = ap (ltb 0) (omega arith) ∙ e

module _ {X : Type 0} where
  -- the lowest free slot, or the table's length
  abbrev pub first_free : List (Option X) → ℕ
  first_free [] = 0
  first_free (None ∷ slots) = 0
  first_free (Some x ∷ slots) = suc (first_free slots)

  free_first : (slots : List (Option X)) (n : ℕ) → unwrap_or (free_from 0 n slots) (n + length slots) ≡ n + first_free slots
  free_first [] n = refl
  free_first (None ∷ slots) n = ap (λ (b : Bool). unwrap_or (cond b (free_from 0 (n + 1) slots) (Some n)) (n + suc (length slots))) (from_zero n) ∙ (omega arith)
  free_first (Some x ∷ slots) n =
      let count : n + length (Some x ∷ slots) ≡ n + 1 + length slots = omega arith in
      ap (unwrap_or (free_from 0 (n + 1) slots)) count ∙ free_first slots (n + 1) ∙ (omega arith)

  pub next_first : (slots : List (Option X)) → next_slot slots ≡ first_free slots
  next_first slots =
      let count : length slots ≡ 0 + length slots = omega arith in
      ap (unwrap_or (free_from 0 0 slots)) count ∙ free_first slots 0 ∙ (omega arith)

  set_first : (x : X) (slots : List (Option X)) → first_free slots < length slots → with_next x slots ≡ slice_set slots (first_free slots) (Some x)
  set_first x [] lt = absurd (omega (arith, lt))
  set_first x (None ∷ slots) lt = refl
  set_first x (Some y ∷ slots) lt = ap (λ (s : List (Option X)). Some y ∷ s) (set_first x slots (omega (arith, lt)))

  push_first : (x : X) (slots : List (Option X)) → length slots ≤ first_free slots → with_next x slots ≡ slots ++ Some x ∷ []
  push_first x [] le = refl
  push_first x (None ∷ slots) le = absurd (omega (arith, le))
  push_first x (Some y ∷ slots) le = ap (λ (s : List (Option X)). Some y ∷ s) (push_first x slots (omega (arith, le)))

  all_held : (slots : List (Option X)) → length slots ≤ first_free slots → length (held slots) ≡ length slots
  all_held [] le = refl
  all_held (None ∷ slots) le = absurd (omega (arith, le))
  all_held (Some y ∷ slots) le = ap suc (all_held slots (omega (arith, le)))

  -- the next thing goes into a free slot, or to the end
  pub next_set : (x : X) (slots : List (Option X)) → next_slot slots < length slots → with_next x slots ≡ slice_set slots (next_slot slots) (Some x)
  next_set x slots lt =
      let first = next_first slots in
      set_first x slots (omega (arith, first, lt)) ∙ ap (λ (n : ℕ). slice_set slots n (Some x)) (sym first)

  pub next_push : (x : X) (slots : List (Option X)) → length slots ≤ next_slot slots → with_next x slots ≡ slots ++ Some x ∷ []
  next_push x slots le = let first = next_first slots in push_first x slots (omega (arith, first, le))

  pub next_all : (slots : List (Option X)) → length slots ≤ next_slot slots → length (held slots) ≡ length slots
  next_all slots le = let first = next_first slots in all_held slots (omega (arith, first, le))

  -- ---- what is held

  pub held_le : (slots : List (Option X)) → length (held slots) ≤ length slots
  held_le [] = omega arith
  held_le (None ∷ slots) = let rest = held_le slots in omega (arith, rest)
  held_le (Some x ∷ slots) = let rest = held_le slots in omega (arith, rest)

  pub held_next : (x : X) (slots : List (Option X)) → length (held (with_next x slots)) ≡ length (held slots) + 1
  held_next x [] = refl
  held_next x (None ∷ slots) = omega arith
  held_next x (Some y ∷ slots) = let rest = held_next x slots in omega (arith, rest)

  pub held_freed : (slots : List (Option X)) (n : ℕ) → is_some (slot slots n) ≡ true → length (held (freed slots n)) + 1 ≡ length (held slots)
  held_freed [] n is = cc is
  held_freed (None ∷ slots) zero is = cc is
  held_freed (Some x ∷ slots) zero is = omega arith
  held_freed (None ∷ slots) (suc n) is = held_freed slots n is
  held_freed (Some x ∷ slots) (suc n) is = let rest = held_freed slots n is in omega (arith, rest)

  pub slot_within : (slots : List (Option X)) (n : ℕ) → is_some (slot slots n) ≡ true → n < length slots
  slot_within [] n is = cc is
  slot_within (x ∷ slots) zero is = omega arith
  slot_within (x ∷ slots) (suc n) is = let rest = slot_within slots n is in omega (arith, rest)

  pub held_same : (slots : List (Option X)) (n : ℕ) (x : Option X) → is_some x ≡ is_some (slot slots n) → length (held (slice_set slots n x)) ≡ length (held slots)
  held_same [] n x is = refl
  held_same (None ∷ slots) zero None is = refl
  held_same (None ∷ slots) zero (Some x) is = cc is
  held_same (Some y ∷ slots) zero None is = cc is
  held_same (Some y ∷ slots) zero (Some x) is = refl
  held_same (None ∷ slots) (suc n) x is = held_same slots n x is
  held_same (Some y ∷ slots) (suc n) x is = ap suc (held_same slots n x is)

  -- what a slot holds, as an index reads it
  pub slot_is : (slots : List (Option X)) (n : ℕ) (d : Option X) → n < length slots → get_or slots n d ≡ slot slots n
  slot_is [] n d lt = absurd (omega (arith, lt))
  slot_is (x ∷ slots) zero d lt = refl
  slot_is (x ∷ slots) (suc n) d lt = slot_is slots n d (omega (arith, lt))

  -- ---- how many slots hold a thing that a test picks

  pub with-next : (test : X → Bool) (x : X) (slots : List (Option X)) → slots_with test (with_next x slots) ≡ slots_with test slots + one_if (test x)
  with-next test x [] = omega arith
  with-next test x (None ∷ slots) = omega arith
  with-next test x (Some y ∷ slots) = let rest = with-next test x slots in omega (arith, rest)

  pub with-set : (test : X → Bool) (slots : List (Option X)) (n : ℕ) (x : Option X) → n < length slots
      → slots_with test (slice_set slots n x) + one_if (picks test (slot slots n)) ≡ slots_with test slots + one_if (picks test x)
  with-set test [] n x lt = absurd (omega (arith, lt))
  with-set test (y ∷ slots) zero x lt = omega arith
  with-set test (y ∷ slots) (suc n) x lt = let rest = with-set test slots n x (omega (arith, lt)) in omega (arith, rest)

  pub with_le-held : (test : X → Bool) (slots : List (Option X)) → slots_with test slots ≤ length (held slots)
  with_le-held test [] = omega arith
  with_le-held test (None ∷ slots) = let rest = with_le-held test slots in omega (arith, rest)
  with_le-held test (Some x ∷ slots) = let rest = with_le-held test slots in let one = one_le (test x) in omega (arith, rest, one)

  -- a slot holds such a thing just where their number isn't 0
  pub with_some : (test : X → Bool) (slots : List (Option X)) → ltb 0 (slots_with test slots) ≡ holds_some test slots
  with_some test [] = refl
  with_some test (x ∷ slots) = some_more (picks test x) (holds_some test slots) (slots_with test slots) (with_some test slots)
