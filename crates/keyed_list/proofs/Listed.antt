-- Lists that rise by their keys: what is found in them after a change, and that they still rise.
use Rattle.std.proofs.Common.{◌≡◌, [], ◌∷◌, ◌∙◌, Bool, List, None, Option, Some, ap, cond, false, not, refl, subst, sym, true}
use Rattle.lego_base.specs.Keys.{IsAbove, Key, Rises, find, is_below, put, same_key, without}
use Rattle.keyed_list.proofs.Order.{above, below-trans, same_is, same_self}

-- an entry before another one with the same key hides it
hides : {X : Type 0} (b c : Bool) (x y : X) (o : Option X) → b ≡ c → cond b (Some x) o ≡ cond b (Some x) (cond c (Some y) o)
hides true c x y o e = refl
hides false true x y o e = cc e
hides false false x y o e = refl

-- entries with different keys change places
change : {X : Type 0} (b c : Bool) (x y : X) (o : Option X) → (b ≡ true → c ≡ true → ⊥) → cond c (Some y) (cond b (Some x) o) ≡ cond b (Some x) (cond c (Some y) o)
change true true x y o differ = absurd (differ refl refl)
change true false x y o differ = refl
change false c x y o differ = refl

module _ {X : Type 0} (key : X → Key) where
  -- an entry put behind one that is below it
  put_above : (z x : X) (ys : List X) → is_below (key z) (key x) ≡ true → IsAbove key z ys → IsAbove key z (put key x ys)
  put_above z x [] less more = less
  put_above z x (y ∷ ys) less more = by (is_below (key x) (key y)) (same_key (key x) (key y))
    where
      by : (b c : Bool) → IsAbove key z (cond b (x ∷ y ∷ ys) (cond c (x ∷ ys) (y ∷ put key x ys)))
      by true c = less
      by false true = less
      by false false = more

  -- the first of a list that rises without some of its entries
  pub above_rest : (z x : X) (ys : List X) → is_below (key z) (key x) ≡ true → IsAbove key x ys → IsAbove key z ys
  above_rest z x [] less more = tt
  above_rest z x (y ∷ ys) less more = below-trans (key z) (key x) (key y) less more

  pub Rises-put : (x : X) (ys : List X) → Rises key ys → Rises key (put key x ys)
  Rises-put x [] rise = (tt, tt)
  Rises-put x (y ∷ ys) rise = by (is_below (key x) (key y)) refl (Rises-put x ys rise.1)
    where
      equal : (c : Bool) → same_key (key x) (key y) ≡ c → is_below (key x) (key y) ≡ false → Rises key (put key x ys) → Rises key (cond c (x ∷ ys) (y ∷ put key x ys))
      equal true same other rest = (subst (λ (k : Key). first k ys) (sym (same_is (key x) (key y) same)) (as_first ys rise.0), rise.1)
        where
          first : Key → List X → Type 0
          first k [] = Unit {0}
          first k (z ∷ zs) = is_below k (key z) ≡ true

          as_first : (zs : List X) → IsAbove key y zs → first (key y) zs
          as_first [] more = tt
          as_first (z ∷ zs) more = more
      equal false differ other rest = (put_above y x ys (above (key x) (key y) other differ) rise.0, rest)

      by : (b : Bool) → is_below (key x) (key y) ≡ b → Rises key (put key x ys) → Rises key (cond b (x ∷ y ∷ ys) (cond (same_key (key x) (key y)) (x ∷ ys) (y ∷ put key x ys)))
      by true less rest = (less, rise)
      by false other rest = equal (same_key (key x) (key y)) refl other rest

  without_above : (z : X) (test : Key → Bool) (ys : List X) → IsAbove key z ys → Rises key ys → IsAbove key z (without key test ys)
  without_above z test [] more rise = tt
  without_above z test (y ∷ ys) more rise = by (not (test (key y))) (without_above z test ys (above_rest z y ys more rise.0) rise.1)
    where
      by : (b : Bool) → IsAbove key z (without key test ys) → IsAbove key z (cond b (y ∷ without key test ys) (without key test ys))
      by true rest = more
      by false rest = rest

  pub Rises-without : (test : Key → Bool) (ys : List X) → Rises key ys → Rises key (without key test ys)
  Rises-without test [] rise = tt
  Rises-without test (y ∷ ys) rise = by (not (test (key y))) (Rises-without test ys rise.1)
    where
      by : (b : Bool) → Rises key (without key test ys) → Rises key (cond b (y ∷ without key test ys) (without key test ys))
      by true rest = (without_above y test ys rise.0 rise.1, rest)
      by false rest = rest

  pub find-put : (x : X) (ys : List X) (k : Key) → find key k (put key x ys) ≡ cond (same_key (key x) k) (Some x) (find key k ys)
  find-put x [] k = refl
  find-put x (y ∷ ys) k = below (is_below (key x) (key y)) (find-put x ys k)
    where
      equal : (c : Bool) → same_key (key x) (key y) ≡ c → find key k (put key x ys) ≡ cond (same_key (key x) k) (Some x) (find key k ys) → find key k (cond c (x ∷ ys) (y ∷ put key x ys)) ≡ cond (same_key (key x) k) (Some x) (cond (same_key (key y) k) (Some y) (find key k ys))
      equal true e rest = hides (same_key (key x) k) (same_key (key y) k) x y (find key k ys) (ap (λ (j : Key). same_key j k) (same_is (key x) (key y) e))
      equal false e rest =
          ap (λ (o : Option X). cond (same_key (key y) k) (Some y) o) rest
          ∙ change (same_key (key x) k) (same_key (key y) k) x y (find key k ys) (λ f g. not_both (same_key (key x) (key y)) (ap (same_key (key x)) (same_is (key y) k g ∙ sym (same_is (key x) k f)) ∙ same_self (key x)) e)
        where
          not_both : (b : Bool) → b ≡ true → b ≡ false → ⊥
          not_both true f g = cc g
          not_both false f g = cc f

      below : (b : Bool) → find key k (put key x ys) ≡ cond (same_key (key x) k) (Some x) (find key k ys) → find key k (cond b (x ∷ y ∷ ys) (cond (same_key (key x) (key y)) (x ∷ ys) (y ∷ put key x ys))) ≡ cond (same_key (key x) k) (Some x) (cond (same_key (key y) k) (Some y) (find key k ys))
      below true rest = refl
      below false rest = equal (same_key (key x) (key y)) refl rest

  -- WITHOUT those that a test picks
  pub find-without : (test : Key → Bool) (ys : List X) (k : Key) → find key k (without key test ys) ≡ cond (test k) None (find key k ys)
  find-without test [] k = none (test k)
    where
      none : (b : Bool) → ◌≡◌ {A = Option X} None (cond b None None)
      none true = refl
      none false = refl
  find-without test (y ∷ ys) k = by (test (key y)) refl (find-without test ys k)
    where
      -- an entry that goes isn't found, and one that stays is found before all others
      gone : (c d : Bool) (o : Option X) → (c ≡ true → d ≡ true) → o ≡ cond d None (find key k ys) → o ≡ cond d None (cond c (Some y) (find key k ys))
      gone true true o same rest = rest
      gone true false o same rest = cc (same refl)
      gone false d o same rest = rest

      stays : (c d : Bool) (o : Option X) → (c ≡ true → d ≡ false) → o ≡ cond d None (find key k ys) → cond c (Some y) o ≡ cond d None (cond c (Some y) (find key k ys))
      stays true true o same rest = cc (same refl)
      stays true false o same rest = refl
      stays false d o same rest = rest

      by : (b : Bool) → test (key y) ≡ b → find key k (without key test ys) ≡ cond (test k) None (find key k ys) → find key k (cond (not b) (y ∷ without key test ys) (without key test ys)) ≡ cond (test k) None (cond (same_key (key y) k) (Some y) (find key k ys))
      by true is rest = gone (same_key (key y) k) (test k) (find key k (without key test ys)) (λ e. ap test (sym (same_is (key y) k e)) ∙ is) rest
      by false is rest = stays (same_key (key y) k) (test k) (find key k (without key test ys)) (λ e. ap test (sym (same_is (key y) k e)) ∙ is) rest
