-- What the owners of a process's regions answer, one after the other, is the areas of the process.
use Rattle.std.proofs.Common.{◌≡◌, ℕ, ◌+◌, ◌*◌, ◌/◌, ◌≤◌, inl, inr, Bool, true, false, eqb, ◌||◌, refl, sym, ◌∙◌, ap, List, [], ◌∷◌, Option, Some, None, arith}
use Rattle.std.proofs.lemmas.Bool.{cases_lt, cases_eq, eqb-true}
use Rattle.lego_base.specs.declared.perms.Perms.{Perms}
use Rattle.lego_base.specs.declared.records.Area.{Area}
use Rattle.lego_base.specs.declared.sizes.TheConstants.{PAGES_END}
use Rattle.lego_base.specs.Space.{perms_of}
use Rattle.area_list.specs.Runs.{IsCanonical, below, joined}
use Rattle.area_list.proofs.Canonical.{IsWithin, within-append, within-below, within-above, canonical-within, canonical-joined}
use Rattle.area_list.proofs.Pages.{either, either-none, perms-append, perms-joined, above-in, above-out, below-in, below-out}
use Rattle.area_list.proofs.Unique.{perms-before, unique}
use Rattle.split_script.specs.Regions.{part_in}
use Rattle.split_script.specs.Laws.{answered, has_number, RegionsRise, HoldsAll, AskedAreasAreAll}

-- ---- one region

perms_in : (region : ℕ) (areas : List Area) (page : ℕ) → page / 512 ≡ region → perms_of (part_in region areas) page ≡ perms_of areas page
perms_in region areas page e =
    above-in (region * 512) (below ((region + 1) * 512) areas) page (omega arith) ∙ below-in ((region + 1) * 512) areas page (omega arith)

perms_out : (region : ℕ) (areas : List Area) (page : ℕ) → (page / 512 ≡ region → ⊥) → perms_of (part_in region areas) page ≡ None
perms_out region areas page ne = elim (cases_lt page (region * 512)) [
  | inl low ↦ above-out (region * 512) (below ((region + 1) * 512) areas) page low
  | inr low ↦ elim (cases_lt page ((region + 1) * 512)) [
    | inl high ↦ absurd (ne (omega arith))
    | inr high ↦ above-in (region * 512) (below ((region + 1) * 512) areas) page low ∙ below-out ((region + 1) * 512) areas page high
  ]
]

part_within : (from_ region : ℕ) (areas : List Area) → IsCanonical areas → from_ ≤ region → IsWithin (from_ * 512) ((region + 1) * 512) (part_in region areas)
part_within from_ region areas canonical low =
    within-above 0 (from_ * 512) ((region + 1) * 512) (region * 512) (below ((region + 1) * 512) areas) (omega arith) (omega arith)
    (within-below 0 0 PAGES_END ((region + 1) * 512) areas (omega arith) (omega arith) (canonical-within areas canonical))

-- ---- all of them

all_within : (from_ : ℕ) (regions : List ℕ) (areas : List Area) → IsCanonical areas → from_ * 512 ≤ PAGES_END → RegionsRise from_ regions → IsWithin (from_ * 512) PAGES_END (answered regions areas)
all_within from_ [] areas canonical end rise = end
all_within from_ (region ∷ regions) areas canonical end rise =
    within-append (from_ * 512) ((region + 1) * 512) PAGES_END (part_in region areas) (answered regions areas)
    (part_within from_ region areas canonical rise.0)
    (all_within (region + 1) regions areas canonical rise.1 rise.2)

-- a page that isn't mapped
unmapped_stays : (regions : List ℕ) (areas : List Area) (page : ℕ) → perms_of areas page ≡ None → perms_of (answered regions areas) page ≡ None
unmapped_stays [] areas page none = refl
unmapped_stays (region ∷ regions) areas page none =
    let part : perms_of (part_in region areas) page ≡ None = elim (cases_eq (page / 512) region) [
      | inl e ↦ perms_in region areas page e ∙ none
      | inr ne ↦ perms_out region areas page ne
    ] in
    perms-append (part_in region areas) (answered regions areas) page
    ∙ ap (λ (x : Option Perms). either x (perms_of (answered regions areas) page)) part
    ∙ unmapped_stays regions areas page none

later : (here : Bool) (more : Bool) → here ≡ false → (here || more) ≡ true → more ≡ true
later true more e is = cc e
later false more e is = is

-- a page of a region that was asked
asked_page : (from_ : ℕ) (regions : List ℕ) (areas : List Area) (page : ℕ) → IsCanonical areas → from_ * 512 ≤ PAGES_END → RegionsRise from_ regions → has_number (page / 512) regions ≡ true → perms_of (answered regions areas) page ≡ perms_of areas page
asked_page from_ [] areas page canonical end rise has = cc has
asked_page from_ (region ∷ regions) areas page canonical end rise has = elim (cases_eq (page / 512) region) [
  | inl e ↦
      perms-append (part_in region areas) (answered regions areas) page
      ∙ ap (λ (x : Option Perms). either (perms_of (part_in region areas) page) x) (perms-before ((region + 1) * 512) PAGES_END (answered regions areas) page (all_within (region + 1) regions areas canonical rise.1 rise.2) (omega arith))
      ∙ either-none (perms_of (part_in region areas) page)
      ∙ perms_in region areas page e
  | inr ne ↦
      perms-append (part_in region areas) (answered regions areas) page
      ∙ ap (λ (x : Option Perms). either x (perms_of (answered regions areas) page)) (perms_out region areas page ne)
      ∙ asked_page (region + 1) regions areas page canonical rise.1 rise.2 (later (eqb region (page / 512)) (has_number (page / 512) regions) (other region (page / 512) (λ e. ne (sym e))) has)
]
  where
    other : (a b : ℕ) → (a ≡ b → ⊥) → eqb a b ≡ false
    other a b ne = either_false (eqb a b) refl
      where
        either_false : (c : Bool) → eqb a b ≡ c → c ≡ false
        either_false true e = absurd (ne (eqb-true a b e))
        either_false false e = refl

some_page : (x : Option Perms) (regions : List ℕ) (areas : List Area) (page : ℕ) → perms_of areas page ≡ x → IsCanonical areas → RegionsRise 0 regions → HoldsAll regions areas → perms_of (answered regions areas) page ≡ perms_of areas page
some_page None regions areas page e canonical rise holds = unmapped_stays regions areas page e ∙ sym e
some_page (Some perms) regions areas page e canonical rise holds = asked_page 0 regions areas page canonical (omega arith) rise (holds page perms e)

pub all_asked : AskedAreasAreAll
all_asked regions areas canonical rise holds =
    unique (joined [] (answered regions areas)) areas
    (canonical-joined 0 [] (answered regions areas) tt (omega arith) (all_within 0 regions areas canonical (omega arith) rise))
    canonical
    (λ page. perms-joined [] (answered regions areas) page ∙ some_page (perms_of areas page) regions areas page refl canonical rise holds)
