-- Pages in rising order, and the next of them.
use Rattle.std.proofs.Common.{◌≡◌, ℕ, zero, suc, ◌+◌, ◌/◌, ◌≤◌, ◌<◌, inl, inr, Bool, true, false, cond, eqb, ltb, min, max, refl, sym, ◌∙◌, ap, subst, List, [], ◌∷◌, Option, Some, None, arith}
use Rattle.std.proofs.lemmas.Bool.{cases_lt, cases_eq, eq-eqb, ne_eqb, lt-ltb, le-ltb}
use Rattle.elf_image.specs.declared.image.Segment.{Segment}
use Rattle.space_rules.specs.Pages.{with_number, with_numbers, pages_in, filled_pages}
use Rattle.linux_model.proofs.Spaces.{if_true, if_false}
use Rattle.space_loading.specs.Pages.{next_page, earlier}

-- each is above those before it, and the first isn't below a number
abbrev pub Rise : ℕ → List ℕ → Type 0
Rise low [] = Unit {0}
Rise low (n ∷ numbers) = (low ≤ n) × Rise (n + 1) numbers

with_rises : (low n : ℕ) (numbers : List ℕ) → low ≤ n → Rise low numbers → Rise low (with_number n numbers)
with_rises low n [] h rise = (h, tt)
with_rises low n (m ∷ numbers) h rise = elim (cases_lt n m) [
  | inl less ↦ if_true (Rise low) (ltb n m) _ _ (lt-ltb n m less) (h, (omega (arith, less), rise.1))
  | inr more ↦ if_false (Rise low) (ltb n m) _ _ (le-ltb n m more) (elim (cases_eq n m) [
    | inl e ↦ if_true (Rise low) (eqb n m) _ _ (eq-eqb n m e) rise
    | inr ne ↦ if_false (Rise low) (eqb n m) _ _ (ne_eqb n m ne) (rise.0, with_rises (m + 1) n numbers (omega (arith, more, ne)) rise.1)
  ])
]

all_rise : (first count : ℕ) (numbers : List ℕ) → Rise 0 numbers → Rise 0 (with_numbers first count numbers)
all_rise first zero numbers rise = rise
all_rise first (suc count) numbers rise = with_rises 0 first (with_numbers (first + 1) count numbers) (omega arith) (all_rise (first + 1) count numbers rise)

pub pages_rise : (segments : List Segment) → Rise 0 (filled_pages segments)
pages_rise [] = tt
pages_rise (s ∷ segments) = all_rise (s.vaddr / 4096) (pages_in s) (filled_pages segments) (pages_rise segments)

-- ---- the lower of two

pub earlier_none : (a : Option ℕ) → earlier a None ≡ a
earlier_none None = refl
earlier_none (Some a) = refl

earlier_assoc : (a b c : Option ℕ) → earlier a (earlier b c) ≡ earlier (earlier a b) c
earlier_assoc None b c = refl
earlier_assoc (Some a) None c = refl
earlier_assoc (Some a) (Some b) None = refl
earlier_assoc (Some a) (Some b) (Some c) =
    let e : min a (min b c) ≡ min (min a b) c = omega arith in
    ap Some e

earlier_first : (n low from : ℕ) (numbers : List ℕ) → n ≤ low → Rise low numbers → earlier (Some n) (next_page from numbers) ≡ Some n
earlier_first n low from [] h rise = refl
earlier_first n low from (m ∷ numbers) h rise = elim (cases_lt m from) [
  | inl less ↦ if_true (λ (o : Option ℕ). earlier (Some n) o ≡ Some n) (ltb m from) _ _ (lt-ltb m from less) (earlier_first n (m + 1) from numbers (omega (arith, h, rise.0)) rise.1)
  | inr more ↦
      let e : min n m ≡ n = omega (arith, h, rise.0) in
      if_false (λ (o : Option ℕ). earlier (Some n) o ≡ Some n) (ltb m from) _ _ (le-ltb m from more) (ap Some e)
]

-- ---- one number more

before : (b : Bool) (a : Option ℕ) (n : ℕ) → earlier (Some n) a ≡ Some n → cond b a (Some n) ≡ earlier (cond b None (Some n)) a
before true a n e = refl
before false a n e = sym e

here : (b : Bool) (a : Option ℕ) (m : ℕ) → cond b a (Some m) ≡ earlier (cond b None (Some m)) (cond b a (Some m))
here true a m = refl
here false a m =
    let e : m ≡ min m m = omega arith in
    ap Some e

next_with : (from n low : ℕ) (numbers : List ℕ) → Rise low numbers → next_page from (with_number n numbers) ≡ earlier (next_page from (n ∷ [])) (next_page from numbers)
next_with from n low [] rise = sym (earlier_none (next_page from (n ∷ [])))
next_with from n low (m ∷ numbers) rise =
    let P : List ℕ → Type 0 = λ ns. next_page from ns ≡ earlier (next_page from (n ∷ [])) (next_page from (m ∷ numbers)) in
    elim (cases_lt n m) [
      | inl less ↦ if_true P (ltb n m) _ _ (lt-ltb n m less) (before (ltb n from) (next_page from (m ∷ numbers)) n (earlier_first n m from (m ∷ numbers) (omega (arith, less)) (omega arith, rise.1)))
      | inr more ↦ if_false P (ltb n m) _ _ (le-ltb n m more) (elim (cases_eq n m) [
        | inl e ↦ if_true P (eqb n m) _ _ (eq-eqb n m e) (here (ltb m from) (next_page from numbers) m ∙ ap (λ (n : ℕ). earlier (next_page from (n ∷ [])) (next_page from (m ∷ numbers))) (sym e))
        | inr ne ↦ if_false P (eqb n m) _ _ (ne_eqb n m ne) (elim (cases_lt m from) [
          | inl below ↦ if_true (λ (o : Option ℕ). cond (ltb m from) (next_page from (with_number n numbers)) (Some m) ≡ earlier (next_page from (n ∷ [])) o) (ltb m from) _ _ (lt-ltb m from below)
              (if_true (λ (o : Option ℕ). o ≡ earlier (next_page from (n ∷ [])) (next_page from numbers)) (ltb m from) _ _ (lt-ltb m from below) (next_with from n (m + 1) numbers rise.1))
          | inr above ↦
              let e : m ≡ min n m = omega (arith, more, ne) in
              if_false (λ (o : Option ℕ). o ≡ earlier (next_page from (n ∷ [])) (cond (ltb m from) (next_page from numbers) (Some m))) (ltb m from) _ _ (le-ltb m from above)
              (if_false (λ (o : Option ℕ). Some m ≡ earlier (next_page from (n ∷ [])) o) (ltb m from) _ _ (le-ltb m from above)
              (if_false (λ (o : Option ℕ). Some m ≡ earlier o (Some m)) (ltb n from) _ _ (le-ltb n from (omega (arith, above, more))) (ap Some e)))
        ])
      ])
    ]

-- ---- numbers in a row

pub next_all : (from first count : ℕ) (numbers : List ℕ) → Rise 0 numbers → next_page from (with_numbers first count numbers) ≡ earlier (next_page from (with_numbers first count [])) (next_page from numbers)
next_all from first zero numbers rise = refl
next_all from first (suc count) numbers rise =
    next_with from first 0 (with_numbers (first + 1) count numbers) (all_rise (first + 1) count numbers rise)
    ∙ ap (earlier (next_page from (first ∷ []))) (next_all from (first + 1) count numbers rise)
    ∙ earlier_assoc (next_page from (first ∷ [])) (next_page from (with_numbers (first + 1) count [])) (next_page from numbers)
    ∙ ap (λ (o : Option ℕ). earlier o (next_page from numbers)) (sym (next_with from first 0 (with_numbers (first + 1) count []) (all_rise (first + 1) count [] tt)))

pub row_below : (from first count : ℕ) → first + count ≤ from → next_page from (with_numbers first count []) ≡ None
row_below from first zero h = refl
row_below from first (suc count) h =
    next_with from first 0 (with_numbers (first + 1) count []) (all_rise (first + 1) count [] tt)
    ∙ ap (earlier (next_page from (first ∷ []))) (row_below from (first + 1) count (omega (arith, h)))
    ∙ earlier_none (next_page from (first ∷ []))
    ∙ if_true (λ (o : Option ℕ). o ≡ None) (ltb first from) _ _ (lt-ltb first from (omega (arith, h))) refl

pub row_next : (from first count : ℕ) → from < first + suc count → next_page from (with_numbers first (suc count) []) ≡ Some (max from first)
row_next from first zero h =
    let e : first ≡ max from first = omega (arith, h) in
    if_false (λ (o : Option ℕ). o ≡ Some (max from first)) (ltb first from) _ _ (le-ltb first from (omega (arith, h))) (ap Some e)
row_next from first (suc count) h =
    next_with from first 0 (with_numbers (first + 1) (suc count) []) (all_rise (first + 1) (suc count) [] tt)
    ∙ ap (earlier (next_page from (first ∷ []))) (row_next from (first + 1) count (omega (arith, h)))
    ∙ elim (cases_lt first from) [
      | inl less ↦
          let e : max from (first + 1) ≡ max from first = omega (arith, less) in
          if_true (λ (o : Option ℕ). earlier o (Some (max from (first + 1))) ≡ Some (max from first)) (ltb first from) _ _ (lt-ltb first from less) (ap Some e)
      | inr more ↦
          let e : min first (max from (first + 1)) ≡ max from first = omega (arith, more) in
          if_false (λ (o : Option ℕ). earlier o (Some (max from (first + 1))) ≡ Some (max from first)) (ltb first from) _ _ (le-ltb first from more) (ap Some e)
    ]

-- ---- those from a page on

abbrev pub rest_from : ℕ → List ℕ → List ℕ
rest_from from [] = []
rest_from from (page ∷ pages) = cond (ltb page from) (rest_from from pages) (page ∷ pages)

pub rest_all : (low from : ℕ) (pages : List ℕ) → from ≤ low → Rise low pages → rest_from from pages ≡ pages
rest_all low from [] h rise = refl
rest_all low from (page ∷ pages) h rise = if_false (λ (ps : List ℕ). ps ≡ page ∷ pages) (ltb page from) _ _ (le-ltb page from (omega (arith, h, rise.0))) refl

pub rest_none : (from : ℕ) (pages : List ℕ) → next_page from pages ≡ None → rest_from from pages ≡ []
rest_none from [] e = refl
rest_none from (page ∷ pages) e = elim (cases_lt page from) [
  | inl less ↦ if_true (λ (ps : List ℕ). ps ≡ []) (ltb page from) _ _ (lt-ltb page from less) (rest_none from pages (sym (if_true (λ (o : Option ℕ). o ≡ next_page from pages) (ltb page from) _ _ (lt-ltb page from less) refl) ∙ e))
  | inr more ↦
      let some : Some page ≡ None = sym (if_false (λ (o : Option ℕ). o ≡ Some page) (ltb page from) _ _ (le-ltb page from more) refl) ∙ e in
      cc some
]

pub next_above : (from page : ℕ) (pages : List ℕ) → next_page from pages ≡ Some page → from ≤ page
next_above from page [] e = cc e
next_above from page (m ∷ pages) e = elim (cases_lt m from) [
  | inl less ↦ next_above from page pages (sym (if_true (λ (o : Option ℕ). o ≡ next_page from pages) (ltb m from) _ _ (lt-ltb m from less) refl) ∙ e)
  | inr more ↦
      let same : Some m ≡ Some page = sym (if_false (λ (o : Option ℕ). o ≡ Some m) (ltb m from) _ _ (le-ltb m from more) refl) ∙ e in
      let is : m ≡ page = cc same in
      omega (arith, more, is)
]

-- the next page, then those after it
pub rest_next : (from page low : ℕ) (pages : List ℕ) → Rise low pages → next_page from pages ≡ Some page → rest_from from pages ≡ page ∷ rest_from (page + 1) pages
rest_next from page low [] rise e = cc e
rest_next from page low (m ∷ pages) rise e = elim (cases_lt m from) [
  | inl less ↦
      let is : next_page from pages ≡ Some page = sym (if_true (λ (o : Option ℕ). o ≡ next_page from pages) (ltb m from) _ _ (lt-ltb m from less) refl) ∙ e in
      let above : from ≤ page = next_above from page pages is in
      if_true (λ (ps : List ℕ). ps ≡ page ∷ rest_from (page + 1) (m ∷ pages)) (ltb m from) _ _ (lt-ltb m from less)
      (if_true (λ (ps : List ℕ). rest_from from pages ≡ page ∷ ps) (ltb m (page + 1)) _ _ (lt-ltb m (page + 1) (omega (arith, less, above))) (rest_next from page (m + 1) pages rise.1 is))
  | inr more ↦
      let same : Some m ≡ Some page = sym (if_false (λ (o : Option ℕ). o ≡ Some m) (ltb m from) _ _ (le-ltb m from more) refl) ∙ e in
      let is : m ≡ page = cc same in
      subst (λ (p : ℕ). rest_from from (m ∷ pages) ≡ p ∷ rest_from (p + 1) (m ∷ pages)) is
      (if_false (λ (ps : List ℕ). ps ≡ m ∷ rest_from (m + 1) (m ∷ pages)) (ltb m from) _ _ (le-ltb m from more)
      (if_true (λ (ps : List ℕ). m ∷ pages ≡ m ∷ ps) (ltb m (m + 1)) _ _ (lt-ltb m (m + 1) (omega arith)) (ap (λ (ps : List ℕ). m ∷ ps) (sym (rest_all (m + 1) (m + 1) pages (omega arith) rise.1)))))
]
