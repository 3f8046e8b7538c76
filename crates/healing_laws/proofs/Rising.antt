-- Lists that rise by their keys: each entry is found, and entries put into no list are that list again.
use Rattle.std.proofs.Common.{◌≡◌, [], ◌∷◌, ◌++◌, ◌∙◌, Bool, List, None, Option, Some, ap, cond, false, refl, subst, true}
use Rattle.std.specs.List.{AllByRecursion}
use Rattle.lego_base.specs.Keys.{IsAbove, Key, Rises, find, is_below, put, put_all, same_key}
use Rattle.keyed_list.proofs.Found.{above_differs, below_differs, not_above}
use Rattle.keyed_list.proofs.Listed.{find-put}
use Rattle.keyed_list.proofs.Order.{below-trans, same_is, same_self}
use Rattle.rest_laws.proofs.Opened.{every}

-- the first one that is there
abbrev pub or_else : {X : Type 0} → Option X → Option X → Option X
or_else None other = other
or_else (Some x) other = Some x

module _ {X : Type 0} (key : X → Key) where
  -- the first entry is below all others
  pub below_all : (x : X) (xs : List X) → IsAbove key x xs → Rises key xs → AllByRecursion (λ (y : X). is_below (key x) (key y) ≡ true) xs
  below_all x [] above rise = tt
  below_all x (y ∷ ys) above rise = (above, every (λ z less. below-trans (key x) (key y) (key z) above less) ys (below_all y ys rise.0 rise.1))

  abbrev Found : List X → X → Type 0
  Found xs e = find key (key e) xs ≡ Some e

  pub each_found : (xs : List X) → Rises key xs → AllByRecursion (λ (e : X). find key (key e) xs ≡ Some e) xs
  each_found [] rise = tt
  each_found (x ∷ xs) rise = (ap (λ (b : Bool). cond b (Some x) (find key (key x) xs)) (same_self (key x)), later xs (below_all x xs rise.0 rise.1) (each_found xs rise.1))
    where
      later : (ys : List X) → AllByRecursion (λ (y : X). is_below (key x) (key y) ≡ true) ys → AllByRecursion (λ (e : X). find key (key e) xs ≡ Some e) ys → AllByRecursion (λ (e : X). find key (key e) (x ∷ xs) ≡ Some e) ys
      later [] below found = tt
      later (y ∷ ys) below found = (ap (λ (b : Bool). cond b (Some x) (find key (key y) xs)) (below_differs (key x) (key y) below.0) ∙ found.0, later ys below.1 found.1)

  -- a key that is below all others isn't found among them
  pub none_below : (k : Key) (xs : List X) → AllByRecursion (λ (y : X). is_below k (key y) ≡ true) xs → find key k xs ≡ None
  none_below k [] below = refl
  none_below k (y ∷ ys) below = ap (λ (b : Bool). cond b (Some y) (find key k ys)) (above_differs k (key y) below.0) ∙ none_below k ys below.1

  -- what is above all others comes last
  put_last : (x : X) (ys : List X) → AllByRecursion (λ (y : X). is_below (key y) (key x) ≡ true) ys → put key x ys ≡ ys ++ x ∷ []
  put_last x [] below = refl
  put_last x (y ∷ ys) below =
      ap (λ (b : Bool). cond b (x ∷ y ∷ ys) (cond (same_key (key x) (key y)) (x ∷ ys) (y ∷ put key x ys))) (not_above (key y) (key x) below.0)
      ∙ ap (λ (b : Bool). cond b (x ∷ ys) (y ∷ put key x ys)) (above_differs (key y) (key x) below.0)
      ∙ ap (λ (zs : List X). y ∷ zs) (put_last x ys below.1)

  -- entries put one after the other are found first
  pub find_all : (xs ys : List X) (k : Key) → Rises key xs → find key k (put_all key xs ys) ≡ or_else (find key k xs) (find key k ys)
  find_all [] ys k rise = refl
  find_all (x ∷ xs) ys k rise = find_all xs (put key x ys) k rise.1 ∙ ap (λ (o : Option X). or_else (find key k xs) o) (find-put key x ys k) ∙ by (same_key (key x) k) refl
    where
      by : (b : Bool) → same_key (key x) k ≡ b → or_else (find key k xs) (cond b (Some x) (find key k ys)) ≡ or_else (cond b (Some x) (find key k xs)) (find key k ys)
      by false e = refl
      by true e = ap (λ (o : Option X). or_else o (Some x)) (subst (λ (q : Key). find key q xs ≡ None) (same_is (key x) k e) (none_below (key x) xs (below_all x xs rise.0 rise.1)))
