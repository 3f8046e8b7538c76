-- Runs appended a few at a time, and the least number of them.
use Rattle.std.proofs.Common.{◌≡◌, ℕ, ◌+◌, ◌<◌, ◌≤◌, min, max, Result, Ok, Err, OnErr, true, false, List, [], ◌∷◌, ◌++◌, length, get_or, drop, inl, inr, refl, sym, ◌∙◌, ap, subst, arith, append_assoc}
use Rattle.std.proofs.lemmas.Bool.{cond-true, cond-false, cases_Bool}
use Rattle.lego_base.specs.declared.records.Area.{Area}
use Rattle.std.proofs.lemmas.List.{drop_more}
use Rattle.area_list.specs.Runs.{end_of, goes_on, IsCanonical, between, below, above, extended, joined}

pub joined-append : (runs more others : List Area) → joined runs (more ++ others) ≡ joined (joined runs more) others
joined-append runs [] others = refl
joined-append runs (next ∷ more) others = joined-append (extended runs next) more others

pub extended-last : (runs : List Area) (last next : Area) → extended (runs ++ last ∷ []) next ≡ runs ++ extended (last ∷ []) next
extended-last [] last next = refl
extended-last (area ∷ []) last next = refl
extended-last (area ∷ area' ∷ runs) last next = ap (λ r. area ∷ r) (extended-last (area' ∷ runs) last next)

pub length-extended : (runs : List Area) (next : Area) → length runs ≤ length (extended runs next)
length-extended [] next = omega arith
length-extended (area ∷ []) next =
    let P : List Area → Type 0 = λ r. 1 ≤ length r in
    elim (cases_Bool (goes_on area next)) [
      | inl e ↦ subst P (sym (cond-true _ _ _ e)) (omega arith)
      | inr e ↦ subst P (sym (cond-false _ _ _ e)) (omega arith)
    ]
length-extended (area ∷ area' ∷ runs) next = let h : length (area' ∷ runs) ≤ length (extended (area' ∷ runs) next) = length-extended (area' ∷ runs) next in omega arith

pub length-joined : (runs more : List Area) → length runs ≤ length (joined runs more)
length-joined runs [] = omega arith
length-joined runs (next ∷ more) = omega (arith, length-extended runs next, length-joined (extended runs next) more)

-- appending a run, in each of the ways in which that is done
pub push-longer : (old front new : List Area) (last next : Area) → old ≡ front ++ last ∷ [] → goes_on last next ≡ true → new ≡ front ++ record last { pages = last.pages + next.pages } ∷ [] → new ≡ extended old next
push-longer old front new last next was e is = is ∙ sym (ap (λ r. extended r next) was ∙ extended-last front last next ∙ ap (λ r. front ++ r) (cond-true _ _ _ e))

pub push-apart : (old front : List Area) (last next : Area) → old ≡ front ++ last ∷ [] → goes_on last next ≡ false → extended old next ≡ (front ++ last ∷ []) ++ next ∷ []
push-apart old front last next was e = ap (λ r. extended r next) was ∙ extended-last front last next ∙ ap (λ r. front ++ r) (cond-false _ _ _ e) ∙ sym (append_assoc front (last ∷ []) (next ∷ []))

-- the first of the runs that are left
pub first_left : (runs : List Area) (i : ℕ) (run : Area) → i < length runs → IsCanonical (drop i runs) → IsCanonical (get_or runs i run ∷ drop (i + 1) runs)
first_left runs i run h c = let P : List Area → Type 0 = IsCanonical in subst P (drop_more runs i run h) c

-- the element that a read past the end would give
abbrev pub no_area : Area
no_area = record { first = record { 0 = 0 }; pages = 0; perms = record { 0 = 0 } }

-- what the next run adds, and the runs after it
pub below_more : (page : ℕ) (into runs : List Area) (i : ℕ) (run : Area) (last : ℕ) → i < length runs → last ≡ min (end_of (get_or runs i run)) page → joined (joined into (between (get_or runs i run).first.0 last (get_or runs i run).perms)) (below page (drop (i + 1) runs)) ≡ joined into (below page (drop i runs))
below_more page into runs i run last h e =
    ap (λ (n : ℕ). joined (joined into (between (get_or runs i run).first.0 n (get_or runs i run).perms)) (below page (drop (i + 1) runs))) e
    ∙ sym (joined-append into (between (get_or runs i run).first.0 (min (end_of (get_or runs i run)) page) (get_or runs i run).perms) (below page (drop (i + 1) runs)))
    ∙ ap (λ r. joined into (below page r)) (sym (drop_more runs i run h))

pub above_more : (page : ℕ) (into runs : List Area) (i : ℕ) (run : Area) (first : ℕ) → i < length runs → first ≡ max (get_or runs i run).first.0 page → joined (joined into (between first (end_of (get_or runs i run)) (get_or runs i run).perms)) (above page (drop (i + 1) runs)) ≡ joined into (above page (drop i runs))
above_more page into runs i run first h e =
    ap (λ (n : ℕ). joined (joined into (between n (end_of (get_or runs i run)) (get_or runs i run).perms)) (above page (drop (i + 1) runs))) e
    ∙ sym (joined-append into (between (max (get_or runs i run).first.0 page) (end_of (get_or runs i run)) (get_or runs i run).perms) (above page (drop (i + 1) runs)))
    ∙ ap (λ r. joined into (above page r)) (sym (drop_more runs i run h))

-- too many runs stay too many
pub still_more : (most : ℕ) (runs more whole : List Area) → most < length runs → joined runs more ≡ whole → most < length whole
still_more most runs more whole h e = let k : length (joined runs more) ≡ length whole = ap length e in omega (arith, length-joined runs more)

-- a fact at an exit with an error
pub at_err : {T E P : Type 0} (r : Result T E) → P → OnErr r P
at_err (Ok x) p = tt
at_err (Err e) p = p

-- two lists of runs one after the other, and three
pub in_two : (start left right first second : List Area) → start ≡ [] → first ≡ joined start left → second ≡ joined first right → second ≡ joined [] (left ++ right)
in_two start left right first second empty one two = two ∙ ap (λ r. joined r right) (one ∙ ap (λ r. joined r left) empty) ∙ sym (joined-append [] left right)

pub in_three : (start left middle right first second third : List Area) → start ≡ [] → first ≡ joined start left → second ≡ joined first middle → third ≡ joined second right → third ≡ joined [] (left ++ middle ++ right)
in_three start left middle right first second third empty one two three = three ∙ ap (λ r. joined r right) (in_two start left middle first second empty one two) ∙ sym (joined-append [] (left ++ middle) right)

-- too many runs on the way are too many in the end
pub over_two : (most : ℕ) (start left right : List Area) → start ≡ [] → most < length (joined start left) → most < length (joined [] (left ++ right))
over_two most start left right empty h = still_more most _ right _ h (ap (λ r. joined (joined r left) right) empty ∙ sym (joined-append [] left right))
