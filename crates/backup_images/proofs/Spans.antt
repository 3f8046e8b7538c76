-- Where the pages that a test picks stand together: after those before them, which another test picks.
use Rattle.std.proofs.Common.{◌≡◌, ◌+◌, ◌<◌, ◌≤◌, [], ◌∷◌, ◌++◌, ◌∙◌, ℕ, Bool, List, ap, arith, cond, drop, false, get_or, length, not, refl, subst, suc, sym, take, true, zero}
use Rattle.std.proofs.lemmas.Bool.{false≢true}
use Rattle.std.proofs.lemmas.Bool.Decides.{nat_tests}
use Rattle.std.proofs.lemmas.List.{drop-drop, length-drop}
use Rattle.std.specs.List.Sorted.{IsPartitionPoint, IsPartitionedBy}
use Rattle.lego_base.specs.Keys.{Key, Rises, is_below, is_of, is_page_from, is_page_of, key_at, those, without}
use Rattle.lego_base.specs.declared.records.PageImage.{PageImage}
use Rattle.lego_msg.specs.Maps.{page_key}
use Rattle.keyed_list.proofs.Order.{below-trans}
use Rattle.backup_images.specs.Spans.{IsSpan, is_before_region}

-- what the two tests have to do with each other and with the order
pub record Fit (early pick : Key → Bool) : Type 0 where
  pub closed : (a b : Key) → is_below a b ≡ true → early b ≡ true → early a ≡ true
  pub apart : (a : Key) → early a ≡ true → pick a ≡ false
  pub together : (a b : Key) → is_below a b ≡ true → early a ≡ false → pick b ≡ true → pick a ≡ true

-- how many pages come before the first that a test doesn't pick
abbrev pub count_while : (Key → Bool) → List PageImage → ℕ
count_while test [] = zero
count_while test (p ∷ pages) = cond (test (page_key p)) (suc (count_while test pages)) zero

pub count_is : (test : Key → Bool) (pages : List PageImage) (i : ℕ) → i ≤ length pages →
    IsPartitionPoint (λ (p : PageImage). test (page_key p) ≡ true) (λ (p : PageImage). test (page_key p) ≡ false) pages i → i ≡ count_while test pages
count_is test [] i most h = omega arith
count_is test (p ∷ pages) zero most h = sym (ap (λ b. cond b (suc (count_while test pages)) zero) (h.1 zero p (omega arith) (omega arith)))
count_is test (p ∷ pages) (suc i) most h =
    ap suc (count_is test pages i (omega arith) (λ j d a b. h.0 (suc j) d (omega arith) (omega arith), λ j d a b. h.1 (suc j) d (omega arith) (omega arith)))
    ∙ sym (ap (λ b. cond b (suc (count_while test pages)) zero) (h.0 zero p (omega arith) (omega arith)))

-- in a list that rises the later pages are above the first
later : (p : PageImage) (pages : List PageImage) (j : ℕ) (d : PageImage) → Rises page_key (p ∷ pages) → j < length pages → is_below (page_key p) (page_key (get_or pages j d)) ≡ true
later p [] j d r l = absurd (omega arith)
later p (q ∷ pages) zero d r l = r.0
later p (q ∷ pages) (suc j) d r l = below-trans (page_key p) (page_key q) (page_key (get_or pages j d)) r.0 (later q pages j d r.1 (omega arith))

-- so that a binary search finds the places
module _ (early pick : Key → Bool) (fit : Fit early pick) where
  pub early_first : (pages : List PageImage) → Rises page_key pages → IsPartitionedBy (λ (p : PageImage). early (page_key p)) pages
  early_first [] r i j d le l h = absurd (omega arith)
  early_first (p ∷ pages) r zero zero d le l h = h
  early_first (p ∷ pages) r zero (suc j) d le l h = fit.closed (page_key p) (page_key (get_or pages j d)) (later p pages j d r (omega arith)) h
  early_first (p ∷ pages) r (suc i) zero d le l h = absurd (omega arith)
  early_first (p ∷ pages) r (suc i) (suc j) d le l h = early_first pages r.1 i j d (omega arith) (omega arith) h

  -- a page after one that isn't early isn't either
  not_early : (a b : Key) → is_below a b ≡ true → early a ≡ false → early b ≡ false
  not_early a b below e = by (early b) refl
    where
      by : (c : Bool) → early b ≡ c → c ≡ false
      by true f = absurd (false≢true (sym e ∙ fit.closed a b below f))
      by false f = refl

  -- a list whose first page isn't early
  abbrev pub Begins : List PageImage → Type 0
  Begins [] = Unit {0}
  Begins (p ∷ pages) = early (page_key p) ≡ false

  goes_on : (p : PageImage) (pages : List PageImage) → Rises page_key (p ∷ pages) → early (page_key p) ≡ false → Begins pages
  goes_on p [] r e = tt
  goes_on p (q ∷ pages) r e = not_early (page_key p) (page_key q) r.0 e

  pub picked_first : (pages : List PageImage) → Rises page_key pages → Begins pages → IsPartitionedBy (λ (p : PageImage). pick (page_key p)) pages
  picked_first [] r b i j d le l h = absurd (omega arith)
  picked_first (p ∷ pages) r b zero zero d le l h = h
  picked_first (p ∷ pages) r b zero (suc j) d le l h = fit.together (page_key p) (page_key (get_or pages j d)) (later p pages j d r (omega arith)) b h
  picked_first (p ∷ pages) r b (suc i) zero d le l h = absurd (omega arith)
  picked_first (p ∷ pages) r b (suc i) (suc j) d le l h = picked_first pages r.1 (goes_on p pages r b) i j d (omega arith) (omega arith) h

  -- after a page that isn't picked none is
  not_picked : (a b : Key) → is_below a b ≡ true → early a ≡ false → pick a ≡ false → pick b ≡ false
  not_picked a b below e f = by (pick b) refl
    where
      by : (c : Bool) → pick b ≡ c → c ≡ false
      by true g = absurd (false≢true (sym f ∙ fit.together a b below e g))
      by false g = refl

  none_later : (p : PageImage) (pages : List PageImage) → Rises page_key (p ∷ pages) → early (page_key p) ≡ false → pick (page_key p) ≡ false →
      (those page_key pick pages ≡ []) × (without page_key pick pages ≡ pages)
  none_later p [] r e f = (refl, refl)
  none_later p (q ∷ pages) r e f =
      let g : pick (page_key q) ≡ false = not_picked (page_key p) (page_key q) r.0 e f in
      let rest = none_later q pages r.1 (not_early (page_key p) (page_key q) r.0 e) g in (
        ap (λ b. cond b (q ∷ those page_key pick pages) (those page_key pick pages)) g ∙ rest.0,
        ap (λ b. cond (not b) (q ∷ without page_key pick pages) (without page_key pick pages)) g ∙ ap (λ l. q ∷ l) rest.1,
      )

  -- the picked ones are the first of a list whose first page isn't early
  abbrev Split : List PageImage → ℕ → Type 0
  Split pages n = (those page_key pick pages ≡ take n pages) × (without page_key pick pages ≡ drop n pages)

  front : (pages : List PageImage) → Rises page_key pages → Begins pages → Split pages (count_while pick pages)
  front [] r b = (refl, refl)
  front (p ∷ pages) r b = by (pick (page_key p)) refl (front pages r.1 (goes_on p pages r b))
    where
      by : (c : Bool) → pick (page_key p) ≡ c → Split pages (count_while pick pages) →
          (cond c (p ∷ those page_key pick pages) (those page_key pick pages) ≡ take (cond c (suc (count_while pick pages)) zero) (p ∷ pages))
          × (cond (not c) (p ∷ without page_key pick pages) (without page_key pick pages) ≡ drop (cond c (suc (count_while pick pages)) zero) (p ∷ pages))
      by true e rest = (ap (λ l. p ∷ l) rest.0, rest.1)
      by false e rest = let none = none_later p pages r b e in (none.0, ap (λ l. p ∷ l) none.1)

  -- and of each list after the early ones
  abbrev SplitAt : List PageImage → ℕ → Type 0
  SplitAt pages i =
      (those page_key pick pages ≡ take (count_while pick (drop i pages)) (drop i pages))
      × (without page_key pick pages ≡ take i pages ++ drop (count_while pick (drop i pages)) (drop i pages))

  split : (pages : List PageImage) → Rises page_key pages → SplitAt pages (count_while early pages)
  split [] r = (refl, refl)
  split (p ∷ pages) r = by (early (page_key p)) refl (split pages r.1)
    where
      by : (c : Bool) → early (page_key p) ≡ c → SplitAt pages (count_while early pages) → SplitAt (p ∷ pages) (cond c (suc (count_while early pages)) zero)
      by true e rest =
          let out : pick (page_key p) ≡ false = fit.apart (page_key p) e in (
            ap (λ b. cond b (p ∷ those page_key pick pages) (those page_key pick pages)) out ∙ rest.0,
            ap (λ b. cond (not b) (p ∷ without page_key pick pages) (without page_key pick pages)) out ∙ ap (λ l. p ∷ l) rest.1,
          )
      by false e rest = front (p ∷ pages) r e

  pub begins : (pages : List PageImage) → Begins (drop (count_while early pages) pages)
  begins [] = tt
  begins (p ∷ pages) = by (early (page_key p)) refl (begins pages)
    where
      by : (c : Bool) → early (page_key p) ≡ c → Begins (drop (count_while early pages) pages) → Begins (drop (cond c (suc (count_while early pages)) zero) (p ∷ pages))
      by true e rest = rest
      by false e rest = e

  pub is_span : (pages : List PageImage) (i j : ℕ) → Rises page_key pages → i ≡ count_while early pages → i ≤ length pages → j ≡ count_while pick (drop i pages) → j ≤ length (drop i pages) →
      IsSpan pick pages i (i + j)
  is_span pages i j r first most count few =
      let parts : SplitAt pages i = subst (SplitAt pages) (sym first) (split pages r) in
      let left = length-drop i pages in
      record {
        order = omega arith;
        within = omega (arith, left, few, most);
        picked = parts.0 ∙ ap (λ n. take n (drop i pages)) (omega (arith, count));
        others = parts.1 ∙ ap (λ n. take i pages ++ drop n (drop i pages)) (sym count) ∙ ap (λ l. take i pages ++ l) (drop-drop j i pages);
      }

pub rises_drop : (i : ℕ) (pages : List PageImage) → Rises page_key pages → Rises page_key (drop i pages)
rises_drop zero pages r = r
rises_drop (suc i) [] r = tt
rises_drop (suc i) (p ∷ pages) r = rises_drop i pages r.1

-- THE TESTS: pages of a region, some pages starting at one, and pages of a process
pub region_fits : (pid region : ℕ) → Fit (is_before_region pid region) (is_page_of pid region)
region_fits pid region = record {
  closed = λ a b below e. grind (arith, nat_tests);
  apart = λ a e. grind (arith, nat_tests);
  together = λ a b below e f. grind (arith, nat_tests);
}

pub pages_fit : (pid first count : ℕ) → Fit (λ k. is_below k (key_at pid first)) (is_page_from pid first count)
pages_fit pid first count = record {
  closed = λ a b below e. grind (arith, nat_tests);
  apart = λ a e. grind (arith, nat_tests);
  together = λ a b below e f. grind (arith, nat_tests);
}

pub process_fits : (pid : ℕ) → Fit (λ k. is_below k (key_at pid 0)) (is_of pid)
process_fits pid = record {
  closed = λ a b below e. grind (arith, nat_tests);
  apart = λ a e. grind (arith, nat_tests);
  together = λ a b below e f. grind (arith, nat_tests);
}
