-- What the place of a key says of a list that rises.
use Rattle.std.proofs.Common.{◌≡◌, ◌<◌, ◌≤◌, [], ◌∷◌, ◌∙◌, ℕ, Bool, List, None, Some, ap, arith, cond, false, get_or, inl, inr, length, refl, set, subst, suc, sym, true, zero}
use Rattle.std.specs.List.{filter, insert, remove}
use Rattle.std.proofs.lemmas.List.{get_or_default}
use Rattle.lego_base.specs.Keys.{Key, Rises, find, is_below, put, same_key, those, without}
use Rattle.keyed_list.proofs.Order.{above, below-trans, below_is, same_is, same_self}
use Rattle.keyed_list.specs.Below.{count_below}
use Rattle.keyed_list.specs.Places.{Belongs, IsAt}

-- KEYS: one below the other

not_both : (b : Bool) → b ≡ true → b ≡ false → ⊥
not_both true e f = cc f
not_both false e f = cc e

not_self : (a : Key) → is_below a a ≡ true → ⊥
not_self a below = elim (below_is a a below) [ inl less ↦ omega (arith, less) | inr less ↦ let more = less.1 in omega (arith, more) ]

pub below_differs : (a b : Key) → is_below a b ≡ true → same_key a b ≡ false
below_differs a b below = by (same_key a b) refl
  where
    by : (c : Bool) → same_key a b ≡ c → c ≡ false
    by true same = absurd (not_self b (ap (λ (k : Key). is_below k b) (sym (same_is a b same)) ∙ below))
    by false same = refl

pub above_differs : (a b : Key) → is_below a b ≡ true → same_key b a ≡ false
above_differs a b below = by (same_key b a) refl
  where
    by : (c : Bool) → same_key b a ≡ c → c ≡ false
    by true same = absurd (not_self a (ap (λ (k : Key). is_below a k) (sym (same_is b a same)) ∙ below))
    by false same = refl

pub not_above : (a b : Key) → is_below a b ≡ true → is_below b a ≡ false
not_above a b below = by (is_below b a) refl
  where
    by : (c : Bool) → is_below b a ≡ c → c ≡ false
    by true also = absurd (not_self a (below-trans a b a below also))
    by false other = refl

pub same_turned : (a b : Key) → same_key a b ≡ true → same_key b a ≡ true
same_turned a b same = ap (λ (k : Key). same_key b k) (same_is a b same) ∙ same_self b

pub same_not_below : (a b : Key) → same_key a b ≡ true → is_below b a ≡ false
same_not_below a b same = by (is_below b a) refl
  where
    by : (c : Bool) → is_below b a ≡ c → c ≡ false
    by true below = absurd (not_self b (ap (λ (k : Key). is_below b k) (sym (same_is a b same)) ∙ below))
    by false other = refl

pub other_turned : (a b : Key) → same_key a b ≡ false → same_key b a ≡ false
other_turned a b other = by (same_key b a) refl
  where
    by : (c : Bool) → same_key b a ≡ c → c ≡ false
    by true same = absurd (not_both (same_key a b) (same_turned b a same) other)
    by false differ = refl

module _ {X : Type 0} (key : X → Key) where
  pub below_within : (k : Key) (xs : List X) → count_below key k xs ≤ length xs
  below_within k [] = omega arith
  below_within k (x ∷ xs) = by (is_below (key x) k) (below_within k xs)
    where
      by : (b : Bool) → count_below key k xs ≤ length xs → cond b (suc (count_below key k xs)) 0 ≤ suc (length xs)
      by true rest = omega arith
      by false rest = omega arith

  -- each later item is above the first
  later_above : (x : X) (xs : List X) (i : ℕ) (d : X) → Rises key (x ∷ xs) → i < length xs → is_below (key x) (key (get_or xs i d)) ≡ true
  later_above x [] i d rise within = absurd (omega (arith, within))
  later_above x (y ∷ ys) zero d rise within = rise.0
  later_above x (y ∷ ys) (suc i) d rise within = below-trans (key x) (key y) (key (get_or ys i d)) rise.0 (later_above y ys i d rise.1 (omega (arith, within)))

  -- an item below the key stands before its place, and another one doesn't
  pub below_before : (k : Key) (xs : List X) (i : ℕ) (d : X) → Rises key xs → i < length xs → is_below (key (get_or xs i d)) k ≡ true → i < count_below key k xs
  below_before k [] i d rise within below = absurd (omega (arith, within))
  below_before k (x ∷ xs) zero d rise within below = rw below (omega arith)
  below_before k (x ∷ xs) (suc i) d rise within below =
      let first : is_below (key x) k ≡ true = below-trans (key x) (key (get_or xs i d)) k (later_above x xs i d rise (omega (arith, within))) below in
      let rest : i < count_below key k xs = below_before k xs i d rise.1 (omega (arith, within)) below in
      rw first (omega (arith, rest))

  pub other_after : (k : Key) (xs : List X) (i : ℕ) (d : X) → i < length xs → is_below (key (get_or xs i d)) k ≡ false → count_below key k xs ≤ i
  other_after k [] i d within other = omega arith
  other_after k (x ∷ xs) zero d within other = rw other (omega arith)
  other_after k (x ∷ xs) (suc i) d within other = by (is_below (key x) k) (other_after k xs i d (omega (arith, within)) other)
    where
      by : (b : Bool) → count_below key k xs ≤ i → cond b (suc (count_below key k xs)) 0 ≤ suc i
      by true rest = omega arith
      by false rest = omega arith

  -- PUT: at the place there is the item's key, or not
  put_here : (x y : X) (ys zs : List X) → is_below (key y) (key x) ≡ true → put key x ys ≡ zs → put key x (y ∷ ys) ≡ y ∷ zs
  put_here x y ys zs below rest = rw (not_above (key y) (key x) below, above_differs (key y) (key x) below) (ap (λ (l : List X). y ∷ l) rest)

  pub put_found : (x : X) (ys : List X) (d : X) → count_below key (key x) ys < length ys → same_key (key (get_or ys (count_below key (key x) ys) d)) (key x) ≡ true → put key x ys ≡ set ys (count_below key (key x) ys) x
  put_found x [] d within same = absurd (omega (arith, within))
  put_found x (y ∷ ys) d within same = by (is_below (key y) (key x)) refl (put_found x ys d) within same
    where
      by : (b : Bool) → is_below (key y) (key x) ≡ b → (count_below key (key x) ys < length ys → same_key (key (get_or ys (count_below key (key x) ys) d)) (key x) ≡ true → put key x ys ≡ set ys (count_below key (key x) ys) x) → cond b (suc (count_below key (key x) ys)) 0 < suc (length ys) → same_key (key (get_or (y ∷ ys) (cond b (suc (count_below key (key x) ys)) 0) d)) (key x) ≡ true → put key x (y ∷ ys) ≡ set (y ∷ ys) (cond b (suc (count_below key (key x) ys)) 0) x
      by true below rest within_ same_ = put_here x y ys (set ys (count_below key (key x) ys) x) below (rest (omega (arith, within_)) same_)
      by false other rest within_ same_ = rw (same_not_below (key y) (key x) same_, same_turned (key y) (key x) same_) refl

  pub put_absent : (x : X) (ys : List X) (d : X) → (count_below key (key x) ys < length ys → same_key (key (get_or ys (count_below key (key x) ys) d)) (key x) ≡ false) → put key x ys ≡ insert ys (count_below key (key x) ys) x
  put_absent x [] d differs = refl
  put_absent x (y ∷ ys) d differs = by (is_below (key y) (key x)) refl (put_absent x ys d) differs
    where
      by : (b : Bool) → is_below (key y) (key x) ≡ b → ((count_below key (key x) ys < length ys → same_key (key (get_or ys (count_below key (key x) ys) d)) (key x) ≡ false) → put key x ys ≡ insert ys (count_below key (key x) ys) x) → (cond b (suc (count_below key (key x) ys)) 0 < suc (length ys) → same_key (key (get_or (y ∷ ys) (cond b (suc (count_below key (key x) ys)) 0) d)) (key x) ≡ false) → put key x (y ∷ ys) ≡ insert (y ∷ ys) (cond b (suc (count_below key (key x) ys)) 0) x
      by true below rest differs_ = put_here x y ys (insert ys (count_below key (key x) ys) x) below (rest (λ less. differs_ (omega (arith, less))))
      by false other rest differs_ = rw (above (key y) (key x) other (differs_ (omega arith))) refl

  -- FIND
  -- a key that is below the first isn't there
  pub none_above : (k : Key) (x : X) (xs : List X) → Rises key (x ∷ xs) → is_below k (key x) ≡ true → find key k xs ≡ None
  none_above k x [] rise below = refl
  none_above k x (y ∷ ys) rise below =
      let next : is_below k (key y) ≡ true = below-trans k (key x) (key y) below rise.0 in
      rw (above_differs k (key y) next) (none_above k y ys rise.1 next)

  pub find_found : (k : Key) (xs : List X) (d : X) → count_below key k xs < length xs → same_key (key (get_or xs (count_below key k xs) d)) k ≡ true → find key k xs ≡ Some (get_or xs (count_below key k xs) d)
  find_found k [] d within same = absurd (omega (arith, within))
  find_found k (x ∷ xs) d within same = by (is_below (key x) k) refl (find_found k xs d) within same
    where
      by : (b : Bool) → is_below (key x) k ≡ b → (count_below key k xs < length xs → same_key (key (get_or xs (count_below key k xs) d)) k ≡ true → find key k xs ≡ Some (get_or xs (count_below key k xs) d)) → cond b (suc (count_below key k xs)) 0 < suc (length xs) → same_key (key (get_or (x ∷ xs) (cond b (suc (count_below key k xs)) 0) d)) k ≡ true → find key k (x ∷ xs) ≡ Some (get_or (x ∷ xs) (cond b (suc (count_below key k xs)) 0) d)
      by true below rest within_ same_ = rw (below_differs (key x) k below) (rest (omega (arith, within_)) same_)
      by false other rest within_ same_ = rw same_ refl

  pub find_absent : (k : Key) (xs : List X) (d : X) → Rises key xs → (count_below key k xs < length xs → same_key (key (get_or xs (count_below key k xs) d)) k ≡ false) → find key k xs ≡ None
  find_absent k [] d rise differs = refl
  find_absent k (x ∷ xs) d rise differs = by (is_below (key x) k) refl (find_absent k xs d rise.1) differs
    where
      by : (b : Bool) → is_below (key x) k ≡ b → ((count_below key k xs < length xs → same_key (key (get_or xs (count_below key k xs) d)) k ≡ false) → find key k xs ≡ None) → (cond b (suc (count_below key k xs)) 0 < suc (length xs) → same_key (key (get_or (x ∷ xs) (cond b (suc (count_below key k xs)) 0) d)) k ≡ false) → find key k (x ∷ xs) ≡ None
      by true below rest differs_ = rw (below_differs (key x) k below) (rest (λ less. differs_ (omega (arith, less))))
      by false other rest differs_ =
          let differ : same_key (key x) k ≡ false = differs_ (omega arith) in
          rw differ (none_above k x xs rise (above (key x) k other differ))

  -- WITHOUT one key
  all_stay : (k : Key) (x : X) (xs : List X) → Rises key (x ∷ xs) → is_below k (key x) ≡ true → without key (λ (q : Key). same_key q k) xs ≡ xs
  all_stay k x [] rise below = refl
  all_stay k x (y ∷ ys) rise below =
      let next : is_below k (key y) ≡ true = below-trans k (key x) (key y) below rise.0 in
      rw (above_differs k (key y) next) (ap (λ (l : List X). y ∷ l) (all_stay k y ys rise.1 next))

  same_stay : (k : Key) (x : X) (xs : List X) → Rises key (x ∷ xs) → same_key (key x) k ≡ true → without key (λ (q : Key). same_key q k) xs ≡ xs
  same_stay k x [] rise same = refl
  same_stay k x (y ∷ ys) rise same =
      let next : is_below k (key y) ≡ true = ap (λ (q : Key). is_below q (key y)) (sym (same_is (key x) k same)) ∙ rise.0 in
      rw (above_differs k (key y) next) (ap (λ (l : List X). y ∷ l) (all_stay k y ys rise.1 next))

  pub without_found : (k : Key) (xs : List X) (d : X) → Rises key xs → count_below key k xs < length xs → same_key (key (get_or xs (count_below key k xs) d)) k ≡ true → without key (λ (q : Key). same_key q k) xs ≡ remove xs (count_below key k xs)
  without_found k [] d rise within same = absurd (omega (arith, within))
  without_found k (x ∷ xs) d rise within same = by (is_below (key x) k) refl (without_found k xs d rise.1) within same
    where
      by : (b : Bool) → is_below (key x) k ≡ b → (count_below key k xs < length xs → same_key (key (get_or xs (count_below key k xs) d)) k ≡ true → without key (λ (q : Key). same_key q k) xs ≡ remove xs (count_below key k xs)) → cond b (suc (count_below key k xs)) 0 < suc (length xs) → same_key (key (get_or (x ∷ xs) (cond b (suc (count_below key k xs)) 0) d)) k ≡ true → without key (λ (q : Key). same_key q k) (x ∷ xs) ≡ remove (x ∷ xs) (cond b (suc (count_below key k xs)) 0)
      by true below rest within_ same_ = rw (below_differs (key x) k below) (ap (λ (l : List X). x ∷ l) (rest (omega (arith, within_)) same_))
      by false other rest within_ same_ = rw same_ (same_stay k x xs rise same_)

  pub without_absent : (k : Key) (xs : List X) (d : X) → Rises key xs → (count_below key k xs < length xs → same_key (key (get_or xs (count_below key k xs) d)) k ≡ false) → without key (λ (q : Key). same_key q k) xs ≡ xs
  without_absent k [] d rise differs = refl
  without_absent k (x ∷ xs) d rise differs = by (is_below (key x) k) refl (without_absent k xs d rise.1) differs
    where
      by : (b : Bool) → is_below (key x) k ≡ b → ((count_below key k xs < length xs → same_key (key (get_or xs (count_below key k xs) d)) k ≡ false) → without key (λ (q : Key). same_key q k) xs ≡ xs) → (cond b (suc (count_below key k xs)) 0 < suc (length xs) → same_key (key (get_or (x ∷ xs) (cond b (suc (count_below key k xs)) 0) d)) k ≡ false) → without key (λ (q : Key). same_key q k) (x ∷ xs) ≡ x ∷ xs
      by true below rest differs_ = rw (below_differs (key x) k below) (ap (λ (l : List X). x ∷ l) (rest (λ less. differs_ (omega (arith, less)))))
      by false other rest differs_ =
          let differ : same_key (key x) k ≡ false = differs_ (omega arith) in
          rw differ (ap (λ (l : List X). x ∷ l) (all_stay k x xs rise (above (key x) k other differ)))

  -- a filter by the key
  pub those_are : (test : Key → Bool) (xs : List X) → filter (λ (x : X). test (key x)) xs ≡ those key test xs
  those_are test [] = refl
  those_are test (x ∷ xs) = ap (λ (l : List X). cond (test (key x)) (x ∷ l) l) (those_are test xs)

  -- THE PLACE of a key
  pub at_place : (k : Key) (xs : List X) (place : ℕ) (x : X) → Rises key xs → place ≡ count_below key k xs → place < length xs → x ≡ get_or xs place x → same_key (key x) k ≡ true → IsAt key k xs place
  at_place k xs place x rise is within here same =
      let here_ : (d : X) → get_or xs (count_below key k xs) d ≡ x = λ d. ap (λ (n : ℕ). get_or xs n d) (sym is) ∙ get_or_default xs place d x within ∙ sym here in
      let same_ : (d : X) → same_key (key (get_or xs (count_below key k xs) d)) k ≡ true = λ d. ap (λ (y : X). same_key (key y) k) (here_ d) ∙ same in
      let within_ : count_below key k xs < length xs = omega arith in
      let P : ℕ → Type 0 = IsAt key k xs in
      subst P (sym is) (record {
        is = refl;
        within = within_;
        found = λ d. find_found k xs d within_ (same_ d);
        replaced = λ y e. replaced y e within_ same_;
        removed = without_found k xs x rise within_ (same_ x);
      })
    where
      replaced : (y : X) → key y ≡ k → count_below key k xs < length xs → ((d : X) → same_key (key (get_or xs (count_below key k xs) d)) k ≡ true) → put key y xs ≡ set xs (count_below key k xs) y
      replaced y e = subst (λ (q : Key). count_below key q xs < length xs → ((d : X) → same_key (key (get_or xs (count_below key q xs) d)) q ≡ true) → put key y xs ≡ set xs (count_below key q xs) y) e (λ less same_. put_found y xs y less (same_ y))

  pub goes_to : (k : Key) (xs : List X) (place : ℕ) → Rises key xs → place ≡ count_below key k xs → ((d : X) → place < length xs → same_key (key (get_or xs place d)) k ≡ false) → Belongs key k xs place
  goes_to k xs place rise is differs =
      let P : ℕ → Type 0 = Belongs key k xs in
      let differs_ : (d : X) → count_below key k xs < length xs → same_key (key (get_or xs (count_below key k xs) d)) k ≡ false = λ d less. ap (λ (n : ℕ). same_key (key (get_or xs n d)) k) (sym is) ∙ differs d (omega (arith, less)) in
      subst P (sym is) (record {
        is = refl;
        within = below_within k xs;
        absent = absent xs rise differs_;
        inserted = λ y e. inserted y e differs_;
        same = same xs rise differs_;
      })
    where
      absent : (ys : List X) → Rises key ys → ((d : X) → count_below key k ys < length ys → same_key (key (get_or ys (count_below key k ys) d)) k ≡ false) → find key k ys ≡ None
      absent [] rise_ other = refl
      absent (y ∷ ys) rise_ other = find_absent k (y ∷ ys) y rise_ (other y)

      same : (ys : List X) → Rises key ys → ((d : X) → count_below key k ys < length ys → same_key (key (get_or ys (count_below key k ys) d)) k ≡ false) → without key (λ (q : Key). same_key q k) ys ≡ ys
      same [] rise_ other = refl
      same (y ∷ ys) rise_ other = without_absent k (y ∷ ys) y rise_ (other y)

      inserted : (y : X) → key y ≡ k → ((d : X) → count_below key k xs < length xs → same_key (key (get_or xs (count_below key k xs) d)) k ≡ false) → put key y xs ≡ insert xs (count_below key k xs) y
      inserted y e = subst (λ (q : Key). ((d : X) → count_below key q xs < length xs → same_key (key (get_or xs (count_below key q xs) d)) q ≡ false) → put key y xs ≡ insert xs (count_below key q xs) y) e (λ other. put_absent y xs y (other y))
