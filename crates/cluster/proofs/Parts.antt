-- The part of a process's areas in a region.
use Rattle.std.proofs.Common.{◌≡◌, ◌⊎◌, ◌<◌, ◌≤◌, ◌+◌, ◌*◌, ◌/◌, ◌&&◌, ◌∙◌, [], ◌∷◌, ◌++◌, ℕ, Bool, List, None, Some, ap, arith, eqb, false, inl, inr, max, min, refl, subst, sym, true}
use Rattle.std.proofs.lemmas.Bool.{cases_lt, eq-eqb, eqb-true}
use Rattle.area_list.proofs.Canonical.{IsWithin, canonical-tail, within-le, within-lower}
use Rattle.area_list.proofs.Pages.{between-in, between-is, between-none, between-out, page_cases, perms-hit, perms-miss}
use Rattle.area_list.specs.Runs.{IsCanonical, end_of}
use Rattle.lego_base.specs.Space.{perms_of}
use Rattle.lego_base.specs.declared.records.Area.{Area}
use Rattle.lego_base.specs.declared.sizes.TheConstants.{PAGES_END}
use Rattle.lego_msg.specs.Form.{IsBefore, IsRegionList, goes_on}
use Rattle.cluster.specs.Mapping.{part_in, piece_in}

-- ---- it says the same of each of the region's pages

pub part_perms : (region : ℕ) (areas : List Area) (vpn : ℕ) → vpn / 512 ≡ region → perms_of (part_in region areas) vpn ≡ perms_of areas vpn
part_perms region [] vpn here = refl
part_perms region (a ∷ areas) vpn here = elim (page_cases a vpn) [
  | inl inside ↦
      let low : a.first.0 ≤ vpn = inside.0 in
      let high : vpn < end_of a = inside.1 in
      between-in (max a.first.0 (region * 512)) (min (end_of a) (region * 512 + 512)) a.perms (part_in region areas) vpn (omega (arith, low, here)) (omega (arith, high, here))
      ∙ sym (perms-hit a areas vpn low high)
  | inr outside ↦
      between-out (max a.first.0 (region * 512)) (min (end_of a) (region * 512 + 512)) a.perms (part_in region areas) vpn (apart outside)
      ∙ part_perms region areas vpn here ∙ sym (perms-miss a areas vpn outside)
]
  where
    apart : (vpn < a.first.0) ⊎ (end_of a ≤ vpn) → (vpn < max a.first.0 (region * 512)) ⊎ (min (end_of a) (region * 512 + 512) ≤ vpn)
    apart (inl below) = inl (omega (arith, below))
    apart (inr above) = inr (omega (arith, above))

-- ---- it is a list of the region

-- a piece is none, or one run
data Piece (region : ℕ) (a : Area) : Type 0 where
  no_piece : piece_in region a ≡ [] → Piece region a
  one_piece : (b : Area) → piece_in region a ≡ b ∷ [] → b.perms ≡ a.perms → b.first.0 ≡ max a.first.0 (region * 512) → b.first.0 + b.pages ≡ min (end_of a) (region * 512 + 512) → 0 < b.pages → Piece region a

piece_is : (region : ℕ) (a : Area) → Piece region a
piece_is region a = elim (cases_lt (max a.first.0 (region * 512)) (min (end_of a) (region * 512 + 512))) [
  | inl less ↦ one_piece _ (between-is (max a.first.0 (region * 512)) (min (end_of a) (region * 512 + 512)) a.perms less) refl refl (omega (arith, less)) (omega (arith, less))
  | inr more ↦ no_piece (between-none (max a.first.0 (region * 512)) (min (end_of a) (region * 512 + 512)) a.perms more)
]

ends_apart : (b x : Area) → b.first.0 + b.pages < x.first.0 → goes_on b x ≡ false
ends_apart b x apart = under (eqb (b.first.0 + b.pages) x.first.0) refl
  where
    under : (c : Bool) → eqb (b.first.0 + b.pages) x.first.0 ≡ c → (c && eqb b.perms.0 x.perms.0) ≡ false
    under false e = refl
    under true e = let same = eqb-true (b.first.0 + b.pages) x.first.0 e in absurd (omega (arith, apart, same))

-- a run that ends below a page comes before all runs at or above it
far_before : (region low : ℕ) (b : Area) (areas : List Area) → b.first.0 + b.pages < low → IsWithin low PAGES_END areas → IsBefore b (part_in region areas)
far_before region low b [] less within = tt
far_before region low b (a ∷ areas) less within =
    let start : low ≤ a.first.0 = within.0 in
    let pages : 0 < a.pages = within.1 in
    by (piece_is region a) (far_before region low b areas less (within-lower (end_of a) low PAGES_END areas (omega (arith, start)) within.2))
  where
    by : Piece region a → IsBefore b (part_in region areas) → IsBefore b (piece_in region a ++ part_in region areas)
    by (no_piece is) later = subst (λ (p : List Area). IsBefore b (p ++ part_in region areas)) (sym is) later
    by (one_piece x is perms first end some) later =
        let start : low ≤ a.first.0 = within.0 in
        let apart : b.first.0 + b.pages < x.first.0 = omega (arith, start, first, less) in
        subst (λ (p : List Area). IsBefore b (p ++ part_in region areas)) (sym is) (omega (arith, apart), ends_apart b x apart)

-- a piece of a run comes before those of the runs after it
piece_before : (region : ℕ) (a b : Area) (areas : List Area) → IsCanonical (a ∷ areas) → b.perms ≡ a.perms → b.first.0 + b.pages ≤ end_of a → IsBefore b (part_in region areas)
piece_before region a b [] canonical same end = tt
piece_before region a b (x ∷ areas) canonical same end = by (piece_is region x)
  where
    after : end_of a ≤ x.first.0
    after = canonical.2.0

    pages : 0 < x.pages
    pages = canonical.3.0

    joint : (y : Area) → y.perms ≡ x.perms → x.first.0 ≤ y.first.0 → goes_on b y ≡ false
    joint y perms low = under (eqb (b.first.0 + b.pages) y.first.0) refl
      where
        differ : eqb (end_of a) x.first.0 ≡ true → eqb a.perms.0 x.perms.0 ≡ false
        differ e = let apart : (eqb (end_of a) x.first.0 && eqb a.perms.0 x.perms.0) ≡ false = canonical.2.1 in ap (λ (c : Bool). c && eqb a.perms.0 x.perms.0) (sym e) ∙ apart

        under : (c : Bool) → eqb (b.first.0 + b.pages) y.first.0 ≡ c → (c && eqb b.perms.0 y.perms.0) ≡ false
        under false e = refl
        under true e =
            let touches = eqb-true (b.first.0 + b.pages) y.first.0 e in
            let here : end_of a ≡ x.first.0 = omega (arith, touches, low, end, after) in
            (λ i. eqb (same i).0 (perms i).0) ∙ differ (eq-eqb (end_of a) x.first.0 here)

    by : Piece region x → IsBefore b (piece_in region x ++ part_in region areas)
    by (no_piece is) = subst (λ (p : List Area). IsBefore b (p ++ part_in region areas)) (sym is)
        (far_before region (end_of x) b areas (omega (arith, after, pages, end)) (canonical-tail x areas canonical.3))
    by (one_piece y is perms first last some) = subst (λ (p : List Area). IsBefore b (p ++ part_in region areas)) (sym is)
        (omega (arith, first, after, end), joint y perms (omega (arith, first)))

pub part_listed : (region : ℕ) (areas : List Area) → IsCanonical areas → IsRegionList region (part_in region areas)
part_listed region [] canonical = tt
part_listed region (a ∷ areas) canonical = by (piece_is region a) (part_listed region areas canonical.3)
  where
    by : Piece region a → IsRegionList region (part_in region areas) → IsRegionList region (piece_in region a ++ part_in region areas)
    by (no_piece is) rest = subst (λ (p : List Area). IsRegionList region (p ++ part_in region areas)) (sym is) rest
    by (one_piece b is perms first end some) rest = subst (λ (p : List Area). IsRegionList region (p ++ part_in region areas)) (sym is)
        (some, omega (arith, first), omega (arith, end), piece_before region a b areas canonical perms (omega (arith, end)), rest)

-- ---- where no page of the region is mapped it is none

no_pages : (region : ℕ) (part : List Area) → IsRegionList region part → ((vpn : ℕ) → vpn / 512 ≡ region → perms_of part vpn ≡ None) → part ≡ []
no_pages region [] listed none = refl
no_pages region (a ∷ part) listed none =
    let some : 0 < a.pages = listed.0 in
    let low : region * 512 ≤ a.first.0 = listed.1 in
    let high : a.first.0 + a.pages ≤ region * 512 + 512 = listed.2 in
    let hit : perms_of (a ∷ part) a.first.0 ≡ Some a.perms = perms-hit a part a.first.0 (omega arith) (omega (arith, some)) in
    let both : None ≡ Some a.perms = sym (none a.first.0 (omega (arith, some, low, high))) ∙ hit in
    cc both

pub part_none : (region : ℕ) (areas : List Area) → IsCanonical areas → ((vpn : ℕ) → vpn / 512 ≡ region → perms_of areas vpn ≡ None) → part_in region areas ≡ []
part_none region areas canonical none = no_pages region (part_in region areas) (part_listed region areas canonical) (λ vpn here. part_perms region areas vpn here ∙ none vpn here)

-- past the end of user addresses too
pub part_past : (region low : ℕ) (areas : List Area) → IsWithin low PAGES_END areas → PAGES_END ≤ region * 512 → part_in region areas ≡ []
part_past region low [] within past = refl
part_past region low (a ∷ areas) within past =
    let end : end_of a ≤ PAGES_END = within-le (end_of a) PAGES_END areas within.2 in
    ap (λ (p : List Area). p ++ part_in region areas) (between-none (max a.first.0 (region * 512)) (min (end_of a) (region * 512 + 512)) a.perms (omega (arith, end, past)))
    ∙ part_past region (end_of a) areas within.2 past
