-- No two lines have one slot: each slot is counted once over all sets.
use Rattle.std.proofs.Common.{◌≡◌, ◌≢◌, ◌+◌, ◌*◌, ◌%◌, ◌<◌, ◌≤◌, [], ◌∷◌, ◌∙◌, ℕ, Bool, List, None, Option, Some, ap, arith, cond, eqb, false, get_or, inl, inr, length, refl, set, suc, sym, true, zero}
use Rattle.std.proofs.lemmas.Bool.{cases_eq, cond-false, cond-true, eq-eqb, eqb-true}
use Rattle.std.proofs.lemmas.List.Quantifiers.{position-Some}
use Rattle.std.specs.List.{position, range_with_len, remove}
use Rattle.lego_base.specs.Keys.{Key, same_key}
use Rattle.cache_tags.proofs.Follows.{set_for}
use Rattle.cache_tags.proofs.Lines.{clash, same_is}
use Rattle.cache_tags.proofs.Shown.{is_of}
use Rattle.cache_tags.specs.Following.{held_key, line_of, pid_of}
use Rattle.cache_tags.specs.Lists.{brought, coming_to, empty_set, free_entry, line_at, oldest, released, younger}
use Rattle.cache_tags.specs.Sets.{SetLines, Tagged}
use Rattle.cache_tags.specs.Tags.{empty_sets}
use Rattle.cache_tags.specs.declared.set.Held.{Held}

-- COUNTS of a slot

abbrev pub one : ℕ → ℕ → ℕ
one k j = cond (eqb k j) 1 0

abbrev pub in_lines : ℕ → List Held → ℕ
in_lines k [] = 0
in_lines k (h ∷ lines) = one k h.slot + in_lines k lines

abbrev pub in_free : ℕ → List ℕ → ℕ
in_free k [] = 0
in_free k (j ∷ free) = one k j + in_free k free

abbrev pub in_set : ℕ → SetLines → ℕ
in_set k s = in_lines k s.lines + in_free k s.free

abbrev pub in_sets : ℕ → List SetLines → ℕ
in_sets k [] = 0
in_sets k (s ∷ sets) = in_set k s + in_sets k sets

pub in_sets-set : (k : ℕ) (sets : List SetLines) (i : ℕ) (s : SetLines) → in_set k s ≡ in_set k (get_or sets i (empty_set 0 0)) → in_sets k (set sets i s) ≡ in_sets k sets
in_sets-set k [] i s e = refl
in_sets-set k (r ∷ sets) zero s e = ap (λ (n : ℕ). n + in_sets k sets) e
in_sets-set k (r ∷ sets) (suc i) s e = ap (λ (n : ℕ). in_set k r + n) (in_sets-set k sets i s e)

in_one : (k : ℕ) (sets : List SetLines) (i : ℕ) → in_set k (get_or sets i (empty_set 0 0)) ≤ in_sets k sets
in_one k [] i = omega arith
in_one k (s ∷ sets) zero = omega arith
in_one k (s ∷ sets) (suc i) = let n = in_one k sets i in omega (arith, n)

in_two : (k : ℕ) (sets : List SetLines) (i j : ℕ) → i ≢ j → in_set k (get_or sets i (empty_set 0 0)) + in_set k (get_or sets j (empty_set 0 0)) ≤ in_sets k sets
in_two k [] i j differ = omega arith
in_two k (s ∷ sets) zero zero differ = absurd (differ refl)
in_two k (s ∷ sets) zero (suc j) differ = let n = in_one k sets j in omega (arith, n)
in_two k (s ∷ sets) (suc i) zero differ = let n = in_one k sets i in omega (arith, n)
in_two k (s ∷ sets) (suc i) (suc j) differ = let n = in_two k sets i j (λ e. differ (ap suc e)) in omega (arith, n)

-- WHAT CALLS DO to the counts of a set

in_lines-remove : (k : ℕ) (lines : List Held) (p : ℕ) → p < length lines → in_lines k (remove lines p) + one k (line_at lines p).slot ≡ in_lines k lines
in_lines-remove k [] p less = absurd (omega (arith, less))
in_lines-remove k (h ∷ lines) zero less = omega arith
in_lines-remove k (h ∷ lines) (suc p) less = let n = in_lines-remove k lines p (omega (arith, less)) in omega (arith, n)

in_lines-oldest : (k : ℕ) (h : Held) (lines : List Held) → in_lines k (younger h lines) + one k (oldest h lines).slot ≡ in_lines k (h ∷ lines)
in_lines-oldest k h [] = omega arith
in_lines-oldest k h (x ∷ lines) = let n = in_lines-oldest k x lines in omega (arith, n)

pub in_set-brought : (k : ℕ) (s : SetLines) (p : ℕ) → p < length s.lines → in_set k (brought p s) ≡ in_set k s
in_set-brought k s p less = let n = in_lines-remove k s.lines p less in omega (arith, n)

pub in_set-released : (k : ℕ) (s : SetLines) (p : ℕ) → p < length s.lines → in_set k (released p s) ≡ in_set k s
in_set-released k s p less = let n = in_lines-remove k s.lines p less in omega (arith, n)

pub in_set-coming : (k : ℕ) (x : Key) (free : List ℕ) (lines : List Held) → in_set k (coming_to (pid_of x) (line_of x) free lines).set ≡ in_set k (record { lines = lines; free = free })
in_set-coming k x (slot ∷ free) lines = omega arith
in_set-coming k x [] (h ∷ lines) = let n = in_lines-oldest k h lines in omega (arith, n)
in_set-coming k x [] [] = refl

-- THE SLOT of a line in its list

abbrev pub slot_in : Key → List Held → Option ℕ
slot_in x [] = None
slot_in x (h ∷ lines) = cond (is_of x h) (Some h.slot) (slot_in x lines)

same_slot : (a b : ℕ) → Some a ≡ Some b → a ≡ b
same_slot a b e = cc e

one_self : (k j : ℕ) → Some j ≡ Some k → one k j ≡ 1
one_self k j e = cond-true (eqb k j) 1 0 (eq-eqb k j (sym (same_slot j k e)))

pub counted : (k : ℕ) (x : Key) (lines : List Held) → slot_in x lines ≡ Some k → 1 ≤ in_lines k lines
counted k x [] e = cc e
counted k x (h ∷ lines) e = by (is_of x h) e (counted k x lines)
  where
    by : (b : Bool) → cond b (Some h.slot) (slot_in x lines) ≡ Some k → (slot_in x lines ≡ Some k → 1 ≤ in_lines k lines) → 1 ≤ one k h.slot + in_lines k lines
    by true e rest = let n = one_self k h.slot e in omega (arith, n)
    by false e rest = let n = rest e in omega (arith, n)

two_counted : (k : ℕ) (x y : Key) (lines : List Held) → same_key x y ≡ false → slot_in x lines ≡ Some k → slot_in y lines ≡ Some k → 2 ≤ in_lines k lines
two_counted k x y [] other e f = cc e
two_counted k x y (h ∷ lines) other e f = by (is_of x h) refl (is_of y h) refl e f (two_counted k x y lines other)
  where
    by : (b : Bool) → is_of x h ≡ b → (d : Bool) → is_of y h ≡ d → cond b (Some h.slot) (slot_in x lines) ≡ Some k → cond d (Some h.slot) (slot_in y lines) ≡ Some k → (slot_in x lines ≡ Some k → slot_in y lines ≡ Some k → 2 ≤ in_lines k lines) → 2 ≤ one k h.slot + in_lines k lines
    by true g true i e f rest = absurd (clash (same_key x y) (ap (λ (z : Key). same_key z y) (sym (same_is (held_key h) x g)) ∙ i) other)
    by true g false i e f rest = let n = one_self k h.slot e in let m = counted k y lines f in omega (arith, n, m)
    by false g true i e f rest = let n = one_self k h.slot f in let m = counted k x lines e in omega (arith, n, m)
    by false g false i e f rest = let n = rest e f in omega (arith, n)

-- each slot once, and below the count of slots
pub record Sound (t : Tagged) : Type 0 where
  pub once : (k : ℕ) → in_sets k t.sets ≤ 1
  pub room : (k : ℕ) → 0 < in_sets k t.sets → k < length t.dirty

pub apart : (t : Tagged) (x y : Key) (j k : ℕ) → Sound t → same_key x y ≡ false → slot_in x (set_for x t).lines ≡ Some j → slot_in y (set_for y t).lines ≡ Some k → j ≢ k
apart t x y j k sound other e f same = elim (cases_eq (x.number % length t.sets) (y.number % length t.sets)) [
  | inl near ↦
      let g : slot_in x (set_for y t).lines ≡ Some k = ap (λ (n : ℕ). slot_in x (get_or t.sets n (empty_set 0 0)).lines) (sym near) ∙ e ∙ ap Some same in
      let n = two_counted k x y (set_for y t).lines other g f in
      let m = in_one k t.sets (y.number % length t.sets) in
      let o = sound.once k in
      omega (arith, n, m, o)
  | inr far ↦
      let n = counted k x (set_for x t).lines (e ∙ ap Some same) in
      let p = counted k y (set_for y t).lines f in
      let m = in_two k t.sets (x.number % length t.sets) (y.number % length t.sets) far in
      let o = sound.once k in
      omega (arith, n, p, m, o)
]

pub below : (t : Tagged) (x : Key) (k : ℕ) → Sound t → slot_in x (set_for x t).lines ≡ Some k → k < length t.dirty
below t x k sound e = sound.room k (let n = counted k x (set_for x t).lines e in let m = in_one k t.sets (x.number % length t.sets) in omega (arith, n, m))

-- WHERE IT IS AFTER A CALL

pub found_slot : (x : Key) (lines : List Held) (p : ℕ) → position (is_of x) lines ≡ Some p → slot_in x lines ≡ Some (line_at lines p).slot
found_slot x lines p e = let f = position-Some (is_of x) lines p (free_entry 0) e in first x lines p f.0 f.1 f.2
  where
    first : (x : Key) (lines : List Held) (p : ℕ) → p < length lines → is_of x (line_at lines p) ≡ true → ((k : ℕ) → k < p → is_of x (get_or lines k (free_entry 0)) ≡ false) → slot_in x lines ≡ Some (line_at lines p).slot
    first x [] p less is not_ = absurd (omega (arith, less))
    first x (h ∷ lines) zero less is not_ = cond-true (is_of x h) (Some h.slot) (slot_in x lines) is
    first x (h ∷ lines) (suc p) less is not_ = cond-false (is_of x h) (Some h.slot) (slot_in x lines) (not_ 0 (omega arith)) ∙ first x lines p (omega (arith, less)) is (λ k l. not_ (suc k) (omega (arith, l)))

other_line : (x y : Key) (h : Held) → same_key x y ≡ false → is_of y h ≡ true → is_of x h ≡ false
other_line x y h other at = by (is_of x h) refl
  where
    by : (b : Bool) → is_of x h ≡ b → b ≡ false
    by true e = absurd (clash (same_key x y) (ap (λ (z : Key). same_key z y) (sym (same_is (held_key h) x e)) ∙ at) other)
    by false e = refl

pub slot-remove : (x y : Key) (lines : List Held) (p : ℕ) → same_key x y ≡ false → p < length lines → is_of y (line_at lines p) ≡ true → slot_in x (remove lines p) ≡ slot_in x lines
slot-remove x y [] p other less at = absurd (omega (arith, less))
slot-remove x y (h ∷ lines) zero other less at = sym (cond-false (is_of x h) (Some h.slot) (slot_in x lines) (other_line x y h other at))
slot-remove x y (h ∷ lines) (suc p) other less at = ap (λ (o : Option ℕ). cond (is_of x h) (Some h.slot) o) (slot-remove x y lines p other (omega (arith, less)) at)

pub slot-younger : (x : Key) (h : Held) (lines : List Held) (k : ℕ) → slot_in x (younger h lines) ≡ Some k → slot_in x (h ∷ lines) ≡ Some k
slot-younger x h [] k e = cc e
slot-younger x h (g ∷ lines) k e = by (is_of x h) e (slot-younger x g lines k)
  where
    by : (b : Bool) → cond b (Some h.slot) (slot_in x (younger g lines)) ≡ Some k → (slot_in x (younger g lines) ≡ Some k → slot_in x (g ∷ lines) ≡ Some k) → cond b (Some h.slot) (slot_in x (g ∷ lines)) ≡ Some k
    by true e rest = e
    by false e rest = rest e

-- AT FIRST

in_free_range : (k first n : ℕ) → (in_free k (range_with_len first n) ≤ 1) × (0 < in_free k (range_with_len first n) → (first ≤ k) × (k < first + n))
in_free_range k first zero = (omega arith, λ some. absurd (omega (arith, some)))
in_free_range k first (suc n) = by (eqb k first) refl (in_free_range k (first + 1) n)
  where
    rest : ℕ
    rest = in_free k (range_with_len (first + 1) n)

    by : (b : Bool) → eqb k first ≡ b → (rest ≤ 1) × (0 < rest → (first + 1 ≤ k) × (k < first + 1 + n)) → (cond b 1 0 + rest ≤ 1) × (0 < cond b 1 0 + rest → (first ≤ k) × (k < first + suc n))
    by true e so =
        let is : k ≡ first = eqb-true k first e in
        let none : rest ≤ 0 = at_most rest (λ some. let m = (so.1 some).0 in omega (arith, m, is)) in
        (omega (arith, none), λ some. (omega (arith, is), omega (arith, is)))
      where
        at_most : (n : ℕ) → (0 < n → ⊥) → n ≤ 0
        at_most zero no_ = omega arith
        at_most (suc n) no_ = absurd (no_ (omega arith))
    by false e so = (let m = so.0 in omega (arith, m), λ some. let s : 0 < rest = omega (arith, some) in (let m = (so.1 s).0 in omega (arith, m), let m = (so.1 s).1 in omega (arith, m)))

pub in_empty_sets : (k ways n first : ℕ) → (in_sets k (empty_sets n ways first) ≤ 1) × (0 < in_sets k (empty_sets n ways first) → (first ≤ k) × (k < first + n * ways))
in_empty_sets k ways zero first = (omega arith, λ some. absurd (omega (arith, some)))
in_empty_sets k ways (suc n) first = both (in_free_range k first ways) (in_empty_sets k ways n (first + ways))
  where
    here : ℕ
    here = in_free k (range_with_len first ways)

    rest : ℕ
    rest = in_sets k (empty_sets n ways (first + ways))

    both : (here ≤ 1) × (0 < here → (first ≤ k) × (k < first + ways)) → (rest ≤ 1) × (0 < rest → (first + ways ≤ k) × (k < first + ways + n * ways)) → (0 + here + rest ≤ 1) × (0 < 0 + here + rest → (first ≤ k) × (k < first + suc n * ways))
    both a b = by here refl rest refl
      where
        by : (i : ℕ) → here ≡ i → (j : ℕ) → rest ≡ j → (0 + here + rest ≤ 1) × (0 < 0 + here + rest → (first ≤ k) × (k < first + suc n * ways))
        by zero e zero f = (omega (arith, e, f), λ some. absurd (omega (arith, e, f, some)))
        by zero e (suc j) f =
            let s : 0 < rest = omega (arith, f) in
            let lo = (b.1 s).0 in let hi = (b.1 s).1 in let m = b.0 in
            (omega (arith, e, m), λ some. (omega (arith, lo), omega (arith, hi)))
        by (suc i) e zero f =
            let s : 0 < here = omega (arith, e) in
            let lo = (a.1 s).0 in let hi = (a.1 s).1 in let m = a.0 in
            (omega (arith, f, m), λ some. (lo, omega (arith, hi)))
        by (suc i) e (suc j) f =
            let s : 0 < here = omega (arith, e) in
            let r : 0 < rest = omega (arith, f) in
            let hi = (a.1 s).1 in let lo = (b.1 r).0 in
            absurd (omega (arith, lo, hi))
