-- Lists that rise by their keys: what is put into them, and that they still rise after they changed.
use Rattle.std.proofs.Common.{◌≡◌, ◌⊎◌, [], ◌∷◌, ◌++◌, ◌∙◌, Bool, List, ap, cond, false, inl, inr, refl, subst, sym, true}
use Rattle.std.specs.List.{AllByRecursion}
use Rattle.lego_base.specs.Keys.{IsAbove, Key, Rises, is_below, put, put_all, same_key, those}
use Rattle.backup_images.proofs.Order.{below_same, between, not_above, not_same_above, same_not_below, three}

module _ {X : Type 0} (key : X → Key) where
  -- an entry is put before one that it is below, in place of one with its key, or after one that is below it
  pub put_before : (x y : X) (ys : List X) → is_below (key x) (key y) ≡ true → put key x (y ∷ ys) ≡ x ∷ y ∷ ys
  put_before x y ys e = ap (λ b. cond b (x ∷ y ∷ ys) (cond (same_key (key x) (key y)) (x ∷ ys) (y ∷ put key x ys))) e

  pub put_same : (x y : X) (ys : List X) → same_key (key x) (key y) ≡ true → put key x (y ∷ ys) ≡ x ∷ ys
  put_same x y ys e = (λ i. cond (same_not_below (key x) (key y) e i) (x ∷ y ∷ ys) (cond (e i) (x ∷ ys) (y ∷ put key x ys)))

  pub put_after : (x y : X) (ys : List X) → is_below (key y) (key x) ≡ true → put key x (y ∷ ys) ≡ y ∷ put key x ys
  put_after x y ys e = (λ i. cond (not_above (key y) (key x) e i) (x ∷ y ∷ ys) (cond (not_same_above (key x) (key y) e i) (x ∷ ys) (y ∷ put key x ys)))

  -- each entry is above a key, or below it
  abbrev pub AllAbove : Key → List X → Type 0
  AllAbove k xs = AllByRecursion (λ (x : X). is_below k (key x) ≡ true) xs

  abbrev pub AllBelow : Key → List X → Type 0
  AllBelow k xs = AllByRecursion (λ (x : X). is_below (key x) k ≡ true) xs

  above_more : (j k : Key) (xs : List X) → is_below j k ≡ true → AllAbove k xs → AllAbove j xs
  above_more j k [] less h = tt
  above_more j k (x ∷ xs) less h = (between j k (key x) less h.0, above_more j k xs less h.1)

  above_same : (j k : Key) (xs : List X) → same_key j k ≡ true → AllAbove k xs → AllAbove j xs
  above_same j k [] same h = tt
  above_same j k (x ∷ xs) same h = (below_same j k (key x) same h.0, above_same j k xs same h.1)

  -- in a list that rises all entries are above the first
  pub all_above : (x : X) (xs : List X) → Rises key (x ∷ xs) → AllAbove (key x) xs
  all_above x [] r = tt
  all_above x (y ∷ ys) r = (r.0, above_more (key x) (key y) ys r.0 (all_above y ys r.1))

  first_above : (x : X) (xs : List X) → AllAbove (key x) xs → IsAbove key x xs
  first_above x [] h = tt
  first_above x (y ∷ ys) h = h.0

  above_put : (k : Key) (x : X) (ys : List X) → is_below k (key x) ≡ true → AllAbove k ys → AllAbove k (put key x ys)
  above_put k x [] less h = (less, tt)
  above_put k x (y ∷ ys) less h = by (is_below (key x) (key y)) (same_key (key x) (key y)) (above_put k x ys less h.1)
    where
      by : (b c : Bool) → AllAbove k (put key x ys) → AllAbove k (cond b (x ∷ y ∷ ys) (cond c (x ∷ ys) (y ∷ put key x ys)))
      by true c rest = (less, h)
      by false true rest = (less, h.1)
      by false false rest = (h.0, rest)

  above_those : (k : Key) (test : Key → Bool) (ys : List X) → AllAbove k ys → AllAbove k (those key test ys)
  above_those k test [] h = tt
  above_those k test (y ∷ ys) h = by (test (key y)) (above_those k test ys h.1)
    where
      by : (b : Bool) → AllAbove k (those key test ys) → AllAbove k (cond b (y ∷ those key test ys) (those key test ys))
      by true rest = (h.0, rest)
      by false rest = rest

  pub put_rises : (x : X) (ys : List X) → Rises key ys → Rises key (put key x ys)
  put_rises x [] r = (tt, tt)
  put_rises x (y ∷ ys) r = by (three (key x) (key y)) (put_rises x ys r.1)
    where
      by : (is_below (key x) (key y) ≡ true) ⊎ ((same_key (key x) (key y) ≡ true) ⊎ (is_below (key y) (key x) ≡ true)) → Rises key (put key x ys) → Rises key (put key x (y ∷ ys))
      by (inl less) rest = subst (Rises key) (sym (put_before x y ys less)) (less, r)
      by (inr (inl same)) rest = subst (Rises key) (sym (put_same x y ys same)) (first_above x ys (above_same (key x) (key y) ys same (all_above y ys r)), r.1)
      by (inr (inr more)) rest = subst (Rises key) (sym (put_after x y ys more)) (first_above y (put key x ys) (above_put (key y) x ys more (all_above y ys r)), rest)

  pub those_rise : (test : Key → Bool) (ys : List X) → Rises key ys → Rises key (those key test ys)
  those_rise test [] r = tt
  those_rise test (y ∷ ys) r = by (test (key y)) (those_rise test ys r.1)
    where
      by : (b : Bool) → Rises key (those key test ys) → Rises key (cond b (y ∷ those key test ys) (those key test ys))
      by true rest = (first_above y (those key test ys) (above_those (key y) test ys (all_above y ys r)), rest)
      by false rest = rest

  pub put_all_rises : (xs ys : List X) → Rises key ys → Rises key (put_all key xs ys)
  put_all_rises [] ys r = r
  put_all_rises (x ∷ xs) ys r = put_all_rises xs (put key x ys) (put_rises x ys r)

  -- an entry that is above all goes to the end
  pub put_last : (x : X) (ys : List X) → AllBelow (key x) ys → put key x ys ≡ ys ++ x ∷ []
  put_last x [] h = refl
  put_last x (y ∷ ys) h = put_after x y ys h.0 ∙ ap (λ t. y ∷ t) (put_last x ys h.1)

  -- entries that were put and one more
  pub put_all_push : (xs : List X) (x : X) (ys : List X) → put_all key (xs ++ x ∷ []) ys ≡ put key x (put_all key xs ys)
  put_all_push [] x ys = refl
  put_all_push (z ∷ xs) x ys = put_all_push xs x (put key z ys)
