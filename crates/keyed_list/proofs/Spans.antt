-- The items of a process with numbers from one to another stand together.
use Rattle.std.proofs.Common.{◌≡◌, ◌≤◌, ◌||◌, [], ◌∷◌, ◌∙◌, ℕ, Bool, List, Some, ap, arith, cond, false, is_some, refl, subst, suc, sym, true}
use Rattle.std.proofs.lemmas.Bool.Decides.{nat_tests}
use Rattle.lego_base.specs.Keys.{Key, Rises, find, is_below, key_at, same_key, those, without}
use Rattle.keyed_list.proofs.Found.{above_differs, below_differs, none_above, not_above}
use Rattle.keyed_list.proofs.Order.{above, below-trans, same_is}
use Rattle.keyed_list.specs.Below.{count_below, count_upto, is_within}
use Rattle.keyed_list.specs.Places.{Belongs, IsAt, IsSpan}

-- whether a key is within, by the keys of both ends
module _ (pid first last : ℕ) (order : first ≤ last) where
  below_out : (p n : ℕ) → is_below (key_at p n) (key_at pid first) ≡ true → is_within pid first last (key_at p n) ≡ false
  below_out p n below = grind (arith, nat_tests)

  above_out : (p n : ℕ) → (is_below (key_at p n) (key_at pid last) || same_key (key_at p n) (key_at pid last)) ≡ false → is_within pid first last (key_at p n) ≡ false
  above_out p n over = grind (arith, nat_tests)

  between_in : (p n : ℕ) → is_below (key_at p n) (key_at pid first) ≡ false → (is_below (key_at p n) (key_at pid last) || same_key (key_at p n) (key_at pid last)) ≡ true → is_within pid first last (key_at p n) ≡ true
  between_in p n low high = grind (arith, nat_tests)

  below_upto : (p n : ℕ) → is_below (key_at p n) (key_at pid first) ≡ true → (is_below (key_at p n) (key_at pid last) || same_key (key_at p n) (key_at pid last)) ≡ true
  below_upto p n low = grind (arith, nat_tests)

module _ {X : Type 0} (key : X → Key) where
  -- where the first isn't below a key, none is
  count_zero : (k : Key) (x : X) (xs : List X) → Rises key (x ∷ xs) → is_below (key x) k ≡ false → count_below key k xs ≡ 0
  count_zero k x [] rise other = refl
  count_zero k x (y ∷ ys) rise other = by (is_below (key y) k) refl
    where
      by : (b : Bool) → is_below (key y) k ≡ b → cond b (suc (count_below key k ys)) 0 ≡ 0
      by true below = let wrong = sym (below-trans (key x) (key y) k rise.0 below) ∙ other in cc wrong
      by false over = refl

  upto_zero : (k : Key) (x : X) (xs : List X) → Rises key (x ∷ xs) → is_below k (key x) ≡ true → count_upto key k xs ≡ 0
  upto_zero k x [] rise over = refl
  upto_zero k x (y ∷ ys) rise over =
      let over_ = below-trans k (key x) (key y) over rise.0 in
      rw (not_above k (key y) over_, above_differs k (key y) over_) refl

  -- the places before and after a key are one apart where it is there
  one_more : (k : Key) (xs : List X) → Rises key xs → count_upto key k xs ≡ cond (is_some (find key k xs)) (suc (count_below key k xs)) (count_below key k xs)
  one_more k [] rise = refl
  one_more k (x ∷ xs) rise = by (is_below (key x) k) (same_key (key x) k) refl refl (one_more k xs rise.1)
    where
      shifted : (b : Bool) (m : ℕ) → suc (cond b (suc m) m) ≡ cond b (suc (suc m)) (suc m)
      shifted true m = refl
      shifted false m = refl

      later_zero : (ys : List X) → Rises key (x ∷ ys) → same_key (key x) k ≡ true → count_upto key k ys ≡ 0
      later_zero [] rise_ same = refl
      later_zero (y ∷ ys) rise_ same =
          let over : is_below k (key y) ≡ true = ap (λ (q : Key). is_below q (key y)) (sym (same_is (key x) k same)) ∙ rise_.0 in
          rw (not_above k (key y) over, above_differs k (key y) over) refl

      by : (b c : Bool) → is_below (key x) k ≡ b → same_key (key x) k ≡ c → count_upto key k xs ≡ cond (is_some (find key k xs)) (suc (count_below key k xs)) (count_below key k xs) → cond (b || c) (suc (count_upto key k xs)) 0 ≡ cond (is_some (cond c (Some x) (find key k xs))) (suc (cond b (suc (count_below key k xs)) 0)) (cond b (suc (count_below key k xs)) 0)
      by true true e f rest = let wrong = sym (below_differs (key x) k e) ∙ f in cc wrong
      by true false e f rest = ap suc rest ∙ shifted (is_some (find key k xs)) (count_below key k xs)
      by false true e f rest = ap suc (later_zero xs rise f)
      by false false e f rest = rw (none_above key k x xs rise (above (key x) k e f)) refl

  pub upto_found : (k : Key) (xs : List X) → Rises key xs → (place : ℕ) → IsAt key k xs place → count_upto key k xs ≡ suc place
  upto_found k [] rise place at = let e = at.within in absurd (omega (arith, e))
  upto_found k (x ∷ xs) rise place at = one_more k (x ∷ xs) rise ∙ rw (at.found x) (ap suc (sym at.is))

  pub upto_absent : (k : Key) (xs : List X) → Rises key xs → (place : ℕ) → Belongs key k xs place → count_upto key k xs ≡ place
  upto_absent k xs rise place to = one_more k xs rise ∙ rw to.absent (sym to.is)

  module _ (pid first last : ℕ) (order : first ≤ last) where
    none_within : (x : X) (xs : List X) → Rises key (x ∷ xs) → is_below (key_at pid last) (key x) ≡ true → (those key (is_within pid first last) xs ≡ []) × (without key (is_within pid first last) xs ≡ xs)
    none_within x [] rise over = (refl, refl)
    none_within x (y ∷ ys) rise over =
        let over_ = below-trans (key_at pid last) (key x) (key y) over rise.0 in
        let rest = none_within y ys rise.1 over_ in
        let out : is_within pid first last (key y) ≡ false = above_out pid first last order (key y).pid (key y).number (out_upto (key y) over_) in
        (rw out rest.0, rw out (ap (λ (l : List X). y ∷ l) rest.1))
      where
        out_upto : (k : Key) → is_below (key_at pid last) k ≡ true → (is_below k (key_at pid last) || same_key k (key_at pid last)) ≡ false
        out_upto k e = rw (not_above (key_at pid last) k e, above_differs (key_at pid last) k e) refl

    -- the first one is below the range
    span_before : (x : X) (xs : List X) (m n : ℕ) → is_within pid first last (key x) ≡ false → IsSpan key pid first last xs m n → IsSpan key pid first last (x ∷ xs) (suc m) (suc n)
    span_before x xs m n out rest = record {
      count = rw out (let e = rest.count in omega (arith, e));
      within = let e = rest.within in omega (arith, e);
      those_are = rw out rest.those_are;
      others = rw out (ap (λ (l : List X). x ∷ l) rest.others);
    }

    -- the first one is within, and the range of the rest begins at once
    span_first : (x : X) (xs : List X) (n : ℕ) → is_within pid first last (key x) ≡ true → IsSpan key pid first last xs 0 n → IsSpan key pid first last (x ∷ xs) 0 (suc n)
    span_first x xs n inside rest = record {
      count = rw inside (let e = rest.count in omega (arith, e));
      within = let e = rest.within in omega (arith, e);
      those_are = rw inside (ap (λ (l : List X). x ∷ l) rest.those_are);
      others = rw inside rest.others;
    }

    -- the first one is above the range
    span_after : (x : X) (xs : List X) → is_within pid first last (key x) ≡ false → (those key (is_within pid first last) xs ≡ []) × (without key (is_within pid first last) xs ≡ xs) → IsSpan key pid first last (x ∷ xs) 0 0
    span_after x xs out none = record {
      count = rw (out, none.0) refl;
      within = omega arith;
      those_are = rw (out, none.0) refl;
      others = rw out (ap (λ (l : List X). x ∷ l) none.1);
    }

    pub spanned : (xs : List X) → Rises key xs → IsSpan key pid first last xs (count_below key (key_at pid first) xs) (count_upto key (key_at pid last) xs)
    spanned [] rise = record { count = refl; within = omega arith; those_are = refl; others = refl }
    spanned (x ∷ xs) rise = by (is_below (key x) (key_at pid first)) (is_below (key x) (key_at pid last)) (same_key (key x) (key_at pid last)) refl refl refl (spanned xs rise.1)
      where
        by : (b c d : Bool) → is_below (key x) (key_at pid first) ≡ b → is_below (key x) (key_at pid last) ≡ c → same_key (key x) (key_at pid last) ≡ d → IsSpan key pid first last xs (count_below key (key_at pid first) xs) (count_upto key (key_at pid last) xs) → IsSpan key pid first last (x ∷ xs) (cond b (suc (count_below key (key_at pid first) xs)) 0) (cond (c || d) (suc (count_upto key (key_at pid last) xs)) 0)
        by true c d e f g rest =
            let upto : (c || d) ≡ true = ap (λ (q : Bool). q || d) (sym f) ∙ (ap (λ (q : Bool). is_below (key x) (key_at pid last) || q) (sym g) ∙ below_upto pid first last order (key x).pid (key x).number e) in
            rw upto (span_before x xs _ _ (below_out pid first last order (key x).pid (key x).number e) rest)
        by false true d e f g rest =
            let inside = between_in pid first last order (key x).pid (key x).number e (ap (λ (q : Bool). q || same_key (key x) (key_at pid last)) f) in
            let zero_ = count_zero (key_at pid first) x xs rise e in
            let P : ℕ → Type 0 = λ n. IsSpan key pid first last xs n (count_upto key (key_at pid last) xs) in
            span_first x xs _ inside (subst P zero_ rest)
        by false false true e f g rest =
            let inside = between_in pid first last order (key x).pid (key x).number e (ap (λ (q : Bool). q || same_key (key x) (key_at pid last)) f ∙ g) in
            let zero_ = count_zero (key_at pid first) x xs rise e in
            let P : ℕ → Type 0 = λ n. IsSpan key pid first last xs n (count_upto key (key_at pid last) xs) in
            span_first x xs _ inside (subst P zero_ rest)
        by false false false e f g rest =
            let over = above (key x) (key_at pid last) f g in
            span_after x xs (above_out pid first last order (key x).pid (key x).number (ap (λ (q : Bool). q || same_key (key x) (key_at pid last)) f ∙ g)) (none_within x xs rise over)
