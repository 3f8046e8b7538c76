-- What lists of runs say of single pages.
use Rattle.std.proofs.Common.{◌≡◌, ℕ, ◌+◌, ◌-◌, ◌<◌, ◌≤◌, min, max, true, false, if◌then◌else◌, List, [], ◌∷◌, ◌++◌, Option, Some, None, ◌⊎◌, inl, inr, refl, sym, ◌∙◌, ap, arith, append_assoc}
use Rattle.std.proofs.lemmas.Bool.{cond-true, cond-false, le-leb, lt-leb, lt-ltb, le-ltb, and_from, and_left, and_right, and_parts, cases_lt, cases_Bool, eqb-true}
use Rattle.std.proofs.lemmas.List.{append-nil}
use Rattle.lego_base.specs.declared.perms.Perms.{Perms}
use Rattle.lego_base.specs.declared.records.Area.{Area}
use Rattle.lego_base.specs.Space.{has_page, perms_of}
use Rattle.area_list.specs.Runs.{end_of, goes_on, between, below, above, extended, joined}

pub has-in : (area : Area) (page : ℕ) → area.first.0 ≤ page → page < end_of area → has_page area page ≡ true
has-in area page h k = and_from _ _ (le-leb _ _ h) (lt-ltb _ _ k)

pub has-out : (area : Area) (page : ℕ) → (page < area.first.0) ⊎ (end_of area ≤ page) → has_page area page ≡ false
has-out area page (inl h) = and_left _ _ (lt-leb _ _ h)
has-out area page (inr h) = and_right _ _ (le-ltb _ _ h)

-- a page is in a run, or below or above it
pub page_cases : (area : Area) (page : ℕ) → ((area.first.0 ≤ page) × (page < end_of area)) ⊎ ((page < area.first.0) ⊎ (end_of area ≤ page))
page_cases area page =
    elim (cases_lt page area.first.0) [
      | inl h ↦ inr (inl h)
      | inr h ↦ elim (cases_lt page (end_of area)) [ inl k ↦ inl (h, k) | inr k ↦ inr (inr k) ]
    ]

pub perms-hit : (area : Area) (runs : List Area) (page : ℕ) → area.first.0 ≤ page → page < end_of area → perms_of (area ∷ runs) page ≡ Some area.perms
perms-hit area runs page h k = cond-true _ _ _ (has-in area page h k)

pub perms-miss : (area : Area) (runs : List Area) (page : ℕ) → (page < area.first.0) ⊎ (end_of area ≤ page) → perms_of (area ∷ runs) page ≡ perms_of runs page
perms-miss area runs page h = cond-false _ _ _ (has-out area page h)

-- the first of two answers that is there
abbrev pub either : Option Perms → Option Perms → Option Perms
either None other = other
either (Some perms) other = Some perms

pub either-none : (answer : Option Perms) → either answer None ≡ answer
either-none None = refl
either-none (Some perms) = refl

pub perms-append : (runs more : List Area) (page : ℕ) → perms_of (runs ++ more) page ≡ either (perms_of runs page) (perms_of more page)
perms-append [] more page = refl
perms-append (area ∷ runs) more page =
    elim (has_page area page) as (λ b. (if b then Some area.perms else perms_of (runs ++ more) page) ≡ either (if b then Some area.perms else perms_of runs page) (perms_of more page)) [
      | true ↦ refl
      | false ↦ perms-append runs more page
    ]

pub same_perms : (perms perms' : Perms) → perms.0 ≡ perms'.0 → perms ≡ perms'
same_perms perms perms' e = ap (λ (n : ℕ). record { 0 = n }) e

-- a run joined with the run that continues it says what the two say
pub perms-longer : (area next : Area) (page : ℕ) → goes_on area next ≡ true → perms_of (record area { pages = area.pages + next.pages } ∷ []) page ≡ perms_of (area ∷ next ∷ []) page
perms-longer area next page e =
    let parts = and_parts _ _ e in
    let touch : end_of area ≡ next.first.0 = eqb-true _ _ parts.0 in
    let alike : area.perms ≡ next.perms = same_perms _ _ (eqb-true _ _ parts.1) in
    elim (page_cases area page) [
      | inl h ↦ perms-hit _ [] page h.0 (omega arith) ∙ sym (perms-hit area (next ∷ []) page h.0 h.1)
      | inr h ↦
          elim h [
            | inl k ↦ perms-miss _ [] page (inl k) ∙ sym (perms-miss area (next ∷ []) page (inl k) ∙ perms-miss next [] page (inl (omega arith)))
            | inr k ↦
                elim (cases_lt page (end_of next)) [
                  | inl l ↦ perms-hit _ [] page (omega arith) (omega arith) ∙ ap Some alike ∙ sym (perms-miss area (next ∷ []) page (inr k) ∙ perms-hit next [] page (omega arith) l)
                  | inr l ↦ perms-miss _ [] page (inr (omega arith)) ∙ sym (perms-miss area (next ∷ []) page (inr k) ∙ perms-miss next [] page (inr l))
                ]
          ]
    ]

pub perms-extended : (runs : List Area) (next : Area) (page : ℕ) → perms_of (extended runs next) page ≡ perms_of (runs ++ next ∷ []) page
perms-extended [] next page = refl
perms-extended (area ∷ []) next page =
    elim (cases_Bool (goes_on area next)) [
      | inl e ↦ ap (λ runs. perms_of runs page) (cond-true _ _ _ e) ∙ perms-longer area next page e
      | inr e ↦ ap (λ runs. perms_of runs page) (cond-false _ _ _ e)
    ]
perms-extended (area ∷ area' ∷ runs) next page =
    elim (has_page area page) as (λ b. (if b then Some area.perms else perms_of (extended (area' ∷ runs) next) page) ≡ (if b then Some area.perms else perms_of (area' ∷ (runs ++ next ∷ [])) page)) [
      | true ↦ refl
      | false ↦ perms-extended (area' ∷ runs) next page
    ]

pub perms-joined : (runs more : List Area) (page : ℕ) → perms_of (joined runs more) page ≡ perms_of (runs ++ more) page
perms-joined runs [] page = ap (λ r. perms_of r page) (sym (append-nil runs))
perms-joined runs (next ∷ more) page =
    perms-joined (extended runs next) more page
    ∙ perms-append (extended runs next) more page
    ∙ ap (λ o. either o (perms_of more page)) (perms-extended runs next page)
    ∙ sym (perms-append (runs ++ next ∷ []) more page)
    ∙ ap (λ r. perms_of r page) (append_assoc runs (next ∷ []) more)

pub between-is : (first last : ℕ) (perms : Perms) → first < last → between first last perms ≡ record { first = record { 0 = first }; pages = last - first; perms = perms } ∷ []
between-is first last perms h = cond-true _ _ _ (lt-ltb _ _ h)

pub between-none : (first last : ℕ) (perms : Perms) → last ≤ first → between first last perms ≡ []
between-none first last perms h = cond-false _ _ _ (le-ltb _ _ h)

pub between-in : (first last : ℕ) (perms : Perms) (more : List Area) (page : ℕ) → first ≤ page → page < last → perms_of (between first last perms ++ more) page ≡ Some perms
between-in first last perms more page h k =
    ap (λ r. perms_of (r ++ more) page) (between-is first last perms (omega arith)) ∙ perms-hit _ more page h (omega arith)

pub between-out : (first last : ℕ) (perms : Perms) (more : List Area) (page : ℕ) → (page < first) ⊎ (last ≤ page) → perms_of (between first last perms ++ more) page ≡ perms_of more page
between-out first last perms more page h =
    elim (cases_lt first last) [
      | inl k ↦ ap (λ r. perms_of (r ++ more) page) (between-is first last perms k) ∙ perms-miss _ more page (elim h [ inl l ↦ inl l | inr l ↦ inr (omega arith) ])
      | inr k ↦ ap (λ r. perms_of (r ++ more) page) (between-none first last perms k)
    ]

pub below-in : (end : ℕ) (runs : List Area) (page : ℕ) → page < end → perms_of (below end runs) page ≡ perms_of runs page
below-in end [] page h = refl
below-in end (area ∷ runs) page h =
    elim (page_cases area page) [
      | inl k ↦ between-in area.first.0 (min (end_of area) end) area.perms (below end runs) page k.0 (omega arith) ∙ sym (perms-hit area runs page k.0 k.1)
      | inr k ↦
          between-out area.first.0 (min (end_of area) end) area.perms (below end runs) page (elim k [ inl l ↦ inl l | inr l ↦ inr (omega arith) ])
          ∙ below-in end runs page h
          ∙ sym (perms-miss area runs page k)
    ]

pub below-out : (end : ℕ) (runs : List Area) (page : ℕ) → end ≤ page → perms_of (below end runs) page ≡ None
below-out end [] page h = refl
below-out end (area ∷ runs) page h =
    between-out area.first.0 (min (end_of area) end) area.perms (below end runs) page (inr (omega arith)) ∙ below-out end runs page h

pub above-in : (start : ℕ) (runs : List Area) (page : ℕ) → start ≤ page → perms_of (above start runs) page ≡ perms_of runs page
above-in start [] page h = refl
above-in start (area ∷ runs) page h =
    elim (page_cases area page) [
      | inl k ↦ between-in (max area.first.0 start) (end_of area) area.perms (above start runs) page (omega arith) k.1 ∙ sym (perms-hit area runs page k.0 k.1)
      | inr k ↦
          between-out (max area.first.0 start) (end_of area) area.perms (above start runs) page (elim k [ inl l ↦ inl (omega arith) | inr l ↦ inr l ])
          ∙ above-in start runs page h
          ∙ sym (perms-miss area runs page k)
    ]

pub above-out : (start : ℕ) (runs : List Area) (page : ℕ) → page < start → perms_of (above start runs) page ≡ None
above-out start [] page h = refl
above-out start (area ∷ runs) page h =
    between-out (max area.first.0 start) (end_of area) area.perms (above start runs) page (inl (omega arith)) ∙ above-out start runs page h
