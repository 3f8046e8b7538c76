-- Pages of regions that go before others are put: the order of both doesn't matter.
use Rattle.std.proofs.Common.{◌≡◌, [], ◌∷◌, ◌∙◌, ℕ, Bool, List, ap, arith, cond, false, length, not, refl, subst, sym, true}
use Rattle.std.specs.List.{AllByRecursion}
use Rattle.keyed_list.proofs.Listed.{Rises-put, Rises-without, above_rest}
use Rattle.keyed_list.proofs.Order.{same_is}
use Rattle.lego_base.specs.Keys.{IsAbove, Key, Rises, is_below, is_page_of, put, put_all, same_key, those, without}
use Rattle.lego_base.specs.declared.ids.RegionNo.{RegionNo}
use Rattle.lego_base.specs.declared.records.PageImage.{PageImage}
use Rattle.lego_msg.specs.Maps.{page_key}
use Rattle.mem_monitor.specs.Counted.{cleared, counts}

module _ {X : Type 0} (key : X → Key) where
  pub Rises-put_all : (xs ys : List X) → Rises key ys → Rises key (put_all key xs ys)
  Rises-put_all [] ys rise = rise
  Rises-put_all (x ∷ xs) ys rise = Rises-put_all xs (put key x ys) (Rises-put key x ys rise)

  put_first : (x : X) (ys : List X) → IsAbove key x ys → put key x ys ≡ x ∷ ys
  put_first x [] above = refl
  put_first x (y ∷ ys) above = rw above refl

  module _ (test : Key → Bool) where
    abbrev pub NoneOf : List X → Type 0
    NoneOf xs = AllByRecursion (λ (x : X). test (key x) ≡ false) xs

    pub none_left : (xs : List X) → NoneOf (without key test xs)
    none_left [] = tt
    none_left (x ∷ xs) = by (test (key x)) refl (none_left xs)
      where
        by : (b : Bool) → test (key x) ≡ b → NoneOf (without key test xs) → NoneOf (cond (not b) (x ∷ without key test xs) (without key test xs))
        by true is rest = rest
        by false is rest = (is, rest)

    pub none_still : (other : Key → Bool) (xs : List X) → NoneOf xs → NoneOf (without key other xs)
    none_still other [] none = tt
    none_still other (x ∷ xs) none = by (other (key x)) (none_still other xs none.1)
      where
        by : (b : Bool) → NoneOf (without key other xs) → NoneOf (cond (not b) (x ∷ without key other xs) (without key other xs))
        by true rest = rest
        by false rest = (none.0, rest)

    pub all_stay : (xs : List X) → NoneOf xs → without key test xs ≡ xs
    all_stay [] none = refl
    all_stay (x ∷ xs) none = rw none.0 (ap (λ (l : List X). x ∷ l) (all_stay xs none.1))

    pub none_those : (xs : List X) → NoneOf xs → those key test xs ≡ []
    none_those [] none = refl
    none_those (x ∷ xs) none = rw none.0 (none_those xs none.1)

    -- an item that stays is put before or after
    put-without : (x : X) (ys : List X) → test (key x) ≡ false → Rises key ys → put key x (without key test ys) ≡ without key test (put key x ys)
    put-without x [] stays rise = rw stays refl
    put-without x (y ∷ ys) stays rise = by (is_below (key x) (key y)) (same_key (key x) (key y)) (test (key y)) refl refl refl (put-without x ys stays rise.1)
      where
        above : is_below (key x) (key y) ≡ true → IsAbove key x (without key test ys)
        above less = first (Rises-without key test (x ∷ ys) (above_rest key x y ys less rise.0, rise.1))
          where
            first : Rises key (cond (not (test (key x))) (x ∷ without key test ys) (without key test ys)) → IsAbove key x (without key test ys)
            first all = (subst (λ (b : Bool). Rises key (cond (not b) (x ∷ without key test ys) (without key test ys))) stays all).0

        by : (b c d : Bool) → is_below (key x) (key y) ≡ b → same_key (key x) (key y) ≡ c → test (key y) ≡ d → put key x (without key test ys) ≡ without key test (put key x ys)
            → put key x (cond (not d) (y ∷ without key test ys) (without key test ys)) ≡ without key test (cond b (x ∷ y ∷ ys) (cond c (x ∷ ys) (y ∷ put key x ys)))
        by true c true e f g rest = put_first x (without key test ys) (above e) ∙ rw (stays, g) refl
        by true c false e f g rest = rw (e, stays, g) refl
        by false true true e f g rest = let wrong = sym g ∙ (ap test (sym (same_is (key x) (key y) f)) ∙ stays) in cc wrong
        by false true false e f g rest = rw (e, f, stays) refl
        by false false true e f g rest = rest ∙ rw g refl
        by false false false e f g rest = rw (e, f, g) (ap (λ (l : List X). y ∷ l) rest)

    pub put_all-without : (xs ys : List X) → NoneOf xs → Rises key ys → put_all key xs (without key test ys) ≡ without key test (put_all key xs ys)
    put_all-without [] ys none rise = refl
    put_all-without (x ∷ xs) ys none rise =
        ap (put_all key xs) (put-without x ys none.0 rise) ∙ put_all-without xs (put key x ys) none.1 (Rises-put key x ys rise)

-- REGIONS of a process
module _ (pid : ℕ) where
  pub none_cleared : (test : Key → Bool) (regions : List RegionNo) (pages : List PageImage) → NoneOf page_key test pages → NoneOf page_key test (cleared pid regions pages)
  none_cleared test [] pages none = none
  none_cleared test (r ∷ regions) pages none = none_cleared test regions (without page_key (is_page_of pid r.0) pages) (none_still page_key test (is_page_of pid r.0) pages none)

  -- none of the pages that are put is of the regions
  abbrev pub AreOutside : List RegionNo → List PageImage → Type 0
  AreOutside regions new = AllByRecursion (λ (r : RegionNo). NoneOf page_key (is_page_of pid r.0) new) regions

  pub put_all-cleared : (regions : List RegionNo) (new pages : List PageImage) → AreOutside regions new → Rises page_key pages → put_all page_key new (cleared pid regions pages) ≡ cleared pid regions (put_all page_key new pages)
  put_all-cleared [] new pages outside rise = refl
  put_all-cleared (r ∷ regions) new pages outside rise =
      put_all-cleared regions new (without page_key (is_page_of pid r.0) pages) outside.1 (Rises-without page_key (is_page_of pid r.0) pages rise)
      ∙ ap (cleared pid regions) (put_all-without page_key (is_page_of pid r.0) new pages outside.0 rise)

  -- nothing is left of them
  pub counts_cleared : (regions : List RegionNo) (pages : List PageImage) → counts pid regions (cleared pid regions pages) ≡ 0
  counts_cleared [] pages = refl
  counts_cleared (r ∷ regions) pages =
      let now = without page_key (is_page_of pid r.0) pages in
      let one = ap length (none_those page_key (is_page_of pid r.0) (cleared pid regions now) (none_cleared (is_page_of pid r.0) regions now (none_left page_key (is_page_of pid r.0) pages))) in
      let rest = counts_cleared regions now in
      omega (arith, one, rest)
