-- Areas of which a range of pages is cut out.
use Rattle.std.proofs.Common.{◌≡◌, ◌⊎◌, ◌<◌, ◌≤◌, ◌+◌, ◌-◌, ◌*◌, ◌/◌, ◌&&◌, ◌∙◌, [], ◌∷◌, ◌++◌, ℕ, Bool, List, None, Option, ap, append_assoc, arith, eqb, false, inl, inr, length, ltb, max, min, refl, subst, suc, sym, true}
use Rattle.std.proofs.lemmas.Bool.{and_from, and_left, and_right, cases_lt, cond-false, cond-true, eq-eqb, eqb-true, le-leb, le-ltb, lt-leb, lt-ltb}
use Rattle.area_list.proofs.Canonical.{IsWithin, canonical-joined, canonical-tail, canonical-within, within-above, within-append, within-below, within-le}
use Rattle.area_list.proofs.Lengths.{push-apart}
use Rattle.area_list.proofs.Pages.{above-in, below-in, between-is, between-none, page_cases, perms-joined, perms-miss}
use Rattle.area_list.proofs.Unique.{cut-clears, unique}
use Rattle.area_list.specs.Runs.{IsBefore, IsCanonical, above, below, between, cut_runs, end_of, goes_on, in_range, joined}
use Rattle.lego_base.specs.Space.{perms_of}
use Rattle.lego_base.specs.declared.perms.Perms.{Perms}
use Rattle.lego_base.specs.declared.records.Area.{Area}
use Rattle.lego_base.specs.declared.sizes.TheConstants.{PAGES_END}
use Rattle.lego_msg.specs.Form.{IsRegionList, IsBefore as IsFormBefore}
use Rattle.cluster.specs.Unmapping.{has_mapped}

-- ---- whether a page of a range is mapped

pub mapped_first : (lo hi : ℕ) (a : Area) (runs : List Area) → max a.first.0 lo < min (end_of a) hi → has_mapped lo hi (a ∷ runs) ≡ true
mapped_first lo hi a runs some =
    let last : ℕ = min (end_of a) hi in
    let kept : between a.first.0 last a.perms ≡ record { first = record { 0 = a.first.0 }; pages = last - a.first.0; perms = a.perms } ∷ [] = between-is a.first.0 last a.perms (omega (arith, some)) in
    let piece = between-is (max a.first.0 lo) (a.first.0 + (last - a.first.0)) a.perms (omega (arith, some)) in
    ap (λ (p : List Area). ltb 0 (length (above lo (p ++ below hi runs)))) kept
    ∙ ap (λ (p : List Area). ltb 0 (length (p ++ above lo (below hi runs)))) piece
    ∙ lt-ltb 0 (suc (length (above lo (below hi runs)))) (omega arith)

pub mapped_later : (lo hi : ℕ) (a : Area) (runs : List Area) → min (end_of a) hi ≤ max a.first.0 lo → has_mapped lo hi (a ∷ runs) ≡ has_mapped lo hi runs
mapped_later lo hi a runs none = elim (cases_lt a.first.0 (min (end_of a) hi)) [
  | inl less ↦
      ap (λ (p : List Area). ltb 0 (length (above lo (p ++ below hi runs)))) (between-is a.first.0 (min (end_of a) hi) a.perms less)
      ∙ ap (λ (p : List Area). ltb 0 (length (p ++ above lo (below hi runs)))) (between-none (max a.first.0 lo) (a.first.0 + (min (end_of a) hi - a.first.0)) a.perms (omega (arith, less, none)))
  | inr more ↦ ap (λ (p : List Area). ltb 0 (length (above lo (p ++ below hi runs)))) (between-none a.first.0 (min (end_of a) hi) a.perms more)
]

empty : (runs : List Area) → ltb 0 (length runs) ≡ false → runs ≡ []
empty [] none = refl
empty (a ∷ runs) none = let some : ltb 0 (suc (length runs)) ≡ true = lt-ltb 0 (suc (length runs)) (omega arith) in let both : true ≡ false = sym some ∙ none in cc both

pub none_mapped : (lo hi : ℕ) (areas : List Area) (vpn : ℕ) → has_mapped lo hi areas ≡ false → lo ≤ vpn → vpn < hi → perms_of areas vpn ≡ None
none_mapped lo hi areas vpn none low high =
    sym (below-in hi areas vpn high) ∙ sym (above-in lo (below hi areas) vpn low) ∙ ap (λ (l : List Area). perms_of l vpn) (empty (above lo (below hi areas)) none)

-- ---- what is left is canonical as it stands

ends_apart : (b x : Area) → end_of b < x.first.0 → goes_on b x ≡ false
ends_apart b x apart = under (eqb (end_of b) x.first.0) refl
  where
    under : (c : Bool) → eqb (end_of b) x.first.0 ≡ c → (c && eqb b.perms.0 x.perms.0) ≡ false
    under false e = refl
    under true e = let same = eqb-true (end_of b) x.first.0 e in absurd (omega (arith, apart, same))

-- a piece of a run doesn't go on in a piece of the next one
still_apart : (a x b y : Area) → IsBefore a (x ∷ []) → b.perms ≡ a.perms → y.perms ≡ x.perms → end_of b ≤ end_of a → x.first.0 ≤ y.first.0 → goes_on b y ≡ false
still_apart a x b y before same perms low high = under (eqb (end_of b) y.first.0) refl
  where
    after : end_of a ≤ x.first.0
    after = before.0

    differ : end_of a ≡ x.first.0 → eqb a.perms.0 x.perms.0 ≡ false
    differ e = let apart : (eqb (end_of a) x.first.0 && eqb a.perms.0 x.perms.0) ≡ false = before.1 in ap (λ (c : Bool). c && eqb a.perms.0 x.perms.0) (sym (eq-eqb (end_of a) x.first.0 e)) ∙ apart

    under : (c : Bool) → eqb (end_of b) y.first.0 ≡ c → (c && eqb b.perms.0 y.perms.0) ≡ false
    under false e = refl
    under true e =
        let touches = eqb-true (end_of b) y.first.0 e in
        (λ i. eqb (same i).0 (perms i).0) ∙ differ (omega (arith, touches, low, high, after))

below-none : (low low' high : ℕ) (runs : List Area) → IsWithin low' high runs → low ≤ low' → below low runs ≡ []
below-none low low' high [] within least = refl
below-none low low' high (a ∷ runs) within least =
    let start : low' ≤ a.first.0 = within.0 in
    ap (λ (p : List Area). p ++ below low runs) (between-none a.first.0 (min (end_of a) low) a.perms (omega (arith, start, least)))
    ∙ below-none low (end_of a) high runs within.2 (omega (arith, start, least))

-- what starts past the end of a run comes after it
far_before : (b : Area) (low : ℕ) (more : List Area) → end_of b < low → IsWithin low PAGES_END more → IsBefore b more
far_before b low [] less within = tt
far_before b low (m ∷ more) less within = let start : low ≤ m.first.0 = within.0 in (omega (arith, start, less), ends_apart b m (omega (arith, start, less)))

above_before : (high : ℕ) (a b : Area) (runs : List Area) → IsCanonical (a ∷ runs) → b.perms ≡ a.perms → end_of b ≡ end_of a → high < end_of a → IsBefore b (above high runs)
above_before high a b [] canonical same end some = tt
above_before high a b (x ∷ runs) canonical same end some =
    let after : end_of a ≤ x.first.0 = canonical.2.0 in
    let pages : 0 < x.pages = canonical.3.0 in
    let apart : goes_on a x ≡ false = canonical.2.1 in
    let less : max x.first.0 high < end_of x = omega (arith, after, pages, some) in
    subst (λ (p : List Area). IsBefore b (p ++ above high runs)) (sym (between-is (max x.first.0 high) (end_of x) x.perms less))
    (omega (arith, after, end, some), still_apart a x b (record { first = record { 0 = max x.first.0 high }; pages = end_of x - max x.first.0 high; perms = x.perms }) (after, apart) same refl (omega (arith, end)) (omega arith))

pub above_canonical : (high : ℕ) (runs : List Area) → IsCanonical runs → IsCanonical (above high runs)
above_canonical high [] canonical = tt
above_canonical high (a ∷ runs) canonical = elim (cases_lt (max a.first.0 high) (end_of a)) [
  | inl less ↦
      let end : end_of a ≤ PAGES_END = canonical.1 in
      subst (λ (p : List Area). IsCanonical (p ++ above high runs)) (sym (between-is (max a.first.0 high) (end_of a) a.perms less))
      (omega (arith, less), omega (arith, less, end), above_before high a (record { first = record { 0 = max a.first.0 high }; pages = end_of a - max a.first.0 high; perms = a.perms }) runs canonical refl (omega (arith, less)) (omega (arith, less)), above_canonical high runs canonical.3)
  | inr more ↦ subst (λ (p : List Area). IsCanonical (p ++ above high runs)) (sym (between-none (max a.first.0 high) (end_of a) a.perms more)) (above_canonical high runs canonical.3)
]

module _ (low : ℕ) (more : List Area) (canonical_more : IsCanonical more) (above_low : IsWithin (low + 1) PAGES_END more) where
  below_before : (a b : Area) (runs : List Area) → IsCanonical (a ∷ runs) → b.perms ≡ a.perms → end_of b ≤ end_of a → end_of b ≤ low → IsBefore b (below low runs ++ more)
  below_before a b [] canonical same end short = far_before b (low + 1) more (omega (arith, short)) above_low
  below_before a b (x ∷ runs) canonical same end short =
      let after : end_of a ≤ x.first.0 = canonical.2.0 in
      let pages : 0 < x.pages = canonical.3.0 in
      let apart : goes_on a x ≡ false = canonical.2.1 in
      elim (cases_lt x.first.0 (min (end_of x) low)) [
        | inl less ↦
            let y : Area = record { first = record { 0 = x.first.0 }; pages = min (end_of x) low - x.first.0; perms = x.perms } in
            let is : below low (x ∷ runs) ++ more ≡ y ∷ (below low runs ++ more) = ap (λ (p : List Area). (p ++ below low runs) ++ more) (between-is x.first.0 (min (end_of x) low) x.perms less) in
            subst (IsBefore b) (sym is) (omega (arith, after, end), still_apart a x b y (after, apart) same refl end (omega arith))
        | inr none ↦
            let is : below low (x ∷ runs) ≡ [] = below-none low low PAGES_END (x ∷ runs) (omega (arith, none, pages), canonical.3.0, canonical-tail x runs canonical.3) (omega arith) in
            subst (λ (p : List Area). IsBefore b (p ++ more)) (sym is) (far_before b (low + 1) more (omega (arith, short)) above_low)
      ]

  below_canonical : (runs : List Area) → IsCanonical runs → IsCanonical (below low runs ++ more)
  below_canonical [] canonical = canonical_more
  below_canonical (a ∷ runs) canonical = elim (cases_lt a.first.0 (min (end_of a) low)) [
    | inl less ↦
        let b : Area = record { first = record { 0 = a.first.0 }; pages = min (end_of a) low - a.first.0; perms = a.perms } in
        let is : below low (a ∷ runs) ++ more ≡ b ∷ (below low runs ++ more) = ap (λ (p : List Area). (p ++ below low runs) ++ more) (between-is a.first.0 (min (end_of a) low) a.perms less) in
        let end : end_of a ≤ PAGES_END = canonical.1 in
        subst IsCanonical (sym is) (omega (arith, less), omega (arith, less, end), below_before a b runs canonical refl (omega (arith, less)) (omega (arith, less)), below_canonical runs canonical.3)
    | inr none ↦ subst (λ (p : List Area). IsCanonical ((p ++ below low runs) ++ more)) (sym (between-none a.first.0 (min (end_of a) low) a.perms none)) (below_canonical runs canonical.3)
  ]

pub cut_apart : (low high : ℕ) (runs : List Area) → IsCanonical runs → low < high → high ≤ PAGES_END → cut_runs low (high - low) runs ≡ below low runs ++ above high runs
unfolding cut_runs
cut_apart low high runs canonical less most =
    let left : List Area = below low runs ++ above high runs in
    let all = canonical-within runs canonical in
    let after : IsWithin (low + 1) PAGES_END (above high runs) = within-above 0 (low + 1) PAGES_END high runs (omega (arith, less)) (omega (arith, less, most)) all in
    let is : IsCanonical left = below_canonical low (above high runs) (above_canonical high runs canonical) after runs canonical in
    let end : low + (high - low) ≡ high = omega (arith, less) in
    ap (λ (h : ℕ). joined [] (below low runs ++ above h runs)) end
    ∙ unique (joined [] left) left (canonical-joined 0 [] left tt (omega arith) (canonical-within left is)) is (λ page. perms-joined [] left page)

-- ---- areas of a region

before_of : (a : Area) (areas : List Area) → IsFormBefore a areas → IsBefore a areas
before_of a [] before = tt
before_of a (b ∷ areas) before = before

form_of : (a : Area) (areas : List Area) → IsBefore a areas → IsFormBefore a areas
form_of a [] before = tt
form_of a (b ∷ areas) before = before

pub listed_canonical : (region : ℕ) (areas : List Area) → region * 512 + 512 ≤ PAGES_END → IsRegionList region areas → IsCanonical areas
listed_canonical region [] most listed = tt
listed_canonical region (a ∷ areas) most listed =
    let end : end_of a ≤ region * 512 + 512 = listed.2 in
    (listed.0, omega (arith, end, most), before_of a areas listed.3, listed_canonical region areas most listed.4)

after_within : (region : ℕ) (a : Area) (areas : List Area) → end_of a ≤ region * 512 + 512 → IsFormBefore a areas → IsRegionList region areas → IsWithin (end_of a) (region * 512 + 512) areas
after_within region a [] end before listed = end
after_within region a (b ∷ areas) end before listed = (before.0, listed.0, after_within region b areas listed.2 listed.3 listed.4)

listed_within : (region : ℕ) (areas : List Area) → IsRegionList region areas → IsWithin (region * 512) (region * 512 + 512) areas
listed_within region [] listed = omega arith
listed_within region (a ∷ areas) listed = (listed.1, listed.0, after_within region a areas listed.2 listed.3 listed.4)

canonical_listed : (region low : ℕ) (areas : List Area) → region * 512 ≤ low → IsCanonical areas → IsWithin low (region * 512 + 512) areas → IsRegionList region areas
canonical_listed region low [] least canonical within = tt
canonical_listed region low (a ∷ areas) least canonical within =
    let start : low ≤ a.first.0 = within.0 in
    (canonical.0, omega (arith, least, start), within-le (end_of a) (region * 512 + 512) areas within.2, form_of a areas canonical.2, canonical_listed region (end_of a) areas (omega (arith, least, start)) canonical.3 within.2)

-- of pages of other regions they say nothing
pub outside_none : (region : ℕ) (areas : List Area) (vpn : ℕ) → IsRegionList region areas → (vpn / 512 ≡ region → ⊥) → perms_of areas vpn ≡ None
outside_none region [] vpn listed other = refl
outside_none region (a ∷ areas) vpn listed other =
    let start : region * 512 ≤ a.first.0 = listed.1 in
    let end : end_of a ≤ region * 512 + 512 = listed.2 in
    elim (page_cases a vpn) [
      | inl inside ↦ let low : a.first.0 ≤ vpn = inside.0 in let high : vpn < end_of a = inside.1 in absurd (other (omega (arith, start, end, low, high)))
      | inr outside ↦ perms-miss a areas vpn outside ∙ outside_none region areas vpn listed.4 other
    ]

-- ---- what a cut leaves

range_in : (first pages page : ℕ) (x : Option Perms) → first ≤ page → page < first + pages → in_range first pages page None x ≡ None
range_in first pages page x low high = cond-true _ _ _ (and_from _ _ (le-leb _ _ low) (lt-ltb _ _ high))

range_out : (first pages page : ℕ) (x : Option Perms) → (page < first) ⊎ (first + pages ≤ page) → in_range first pages page None x ≡ x
range_out first pages page x (inl below_) = cond-false _ _ _ (and_left _ _ (lt-leb _ _ below_))
range_out first pages page x (inr above_) = cond-false _ _ _ (and_right _ _ (le-ltb _ _ above_))

pub range_cases : (first end page : ℕ) → ((first ≤ page) × (page < end)) ⊎ ((page < first) ⊎ (end ≤ page))
range_cases first end page = elim (cases_lt page first) [
  | inl less ↦ inr (inl less)
  | inr low ↦ elim (cases_lt page end) [
    | inl high ↦ inl (low, high)
    | inr more ↦ inr (inr more)
  ]
]

pub cut_inside : (first pages : ℕ) (areas : List Area) (vpn : ℕ) → first + pages ≤ PAGES_END → IsCanonical areas → first ≤ vpn → vpn < first + pages → perms_of (cut_runs first pages areas) vpn ≡ None
cut_inside first pages areas vpn most canonical low high = (cut-clears first pages areas most canonical).1 vpn ∙ range_in first pages vpn (perms_of areas vpn) low high

pub cut_outside : (first pages : ℕ) (areas : List Area) (vpn : ℕ) → first + pages ≤ PAGES_END → IsCanonical areas → (vpn < first) ⊎ (first + pages ≤ vpn) → perms_of (cut_runs first pages areas) vpn ≡ perms_of areas vpn
cut_outside first pages areas vpn most canonical out = (cut-clears first pages areas most canonical).1 vpn ∙ range_out first pages vpn (perms_of areas vpn) out

pub cut_listed : (region lo hi : ℕ) (areas : List Area) → lo < hi → region * 512 ≤ lo → hi ≤ region * 512 + 512 → region * 512 + 512 ≤ PAGES_END → IsRegionList region areas → IsRegionList region (cut_runs lo (hi - lo) areas)
cut_listed region lo hi areas less low high most listed =
    let canonical = listed_canonical region areas most listed in
    let all = listed_within region areas listed in
    let left : IsWithin (region * 512) (region * 512 + 512) (below lo areas ++ above hi areas)
    = within-append (region * 512) lo (region * 512 + 512) (below lo areas) (above hi areas) (within-below (region * 512) (region * 512) (region * 512 + 512) lo areas (omega arith) low all) (within-above (region * 512) lo (region * 512 + 512) hi areas (omega (arith, less)) (omega (arith, less, high)) all) in
    canonical_listed region (region * 512) (cut_runs lo (hi - lo) areas) (omega arith) (cut-clears lo (hi - lo) areas (omega (arith, less, high, most)) canonical).0
    (subst (IsWithin (region * 512) (region * 512 + 512)) (sym (cut_apart lo hi areas canonical less (omega (arith, high, most)))) left)

-- two cuts of a region's areas, of the same of its pages, leave the same
pub same_cut : (region first pages lo hi : ℕ) (areas : List Area) → first + pages ≤ PAGES_END → region * 512 + 512 ≤ PAGES_END → IsRegionList region areas → lo ≡ max first (region * 512) → hi ≡ min (first + pages) ((region + 1) * 512) → lo < hi → cut_runs lo (hi - lo) areas ≡ cut_runs first pages areas
same_cut region first pages lo hi areas most within listed start end less =
    let canonical = listed_canonical region areas within listed in
    let fits : lo + (hi - lo) ≤ PAGES_END = omega (arith, less, end, within) in
    unique (cut_runs lo (hi - lo) areas) (cut_runs first pages areas) (cut-clears lo (hi - lo) areas fits canonical).0 (cut-clears first pages areas most canonical).0 (λ page. each canonical fits page)
  where
    each : IsCanonical areas → lo + (hi - lo) ≤ PAGES_END → (page : ℕ) → perms_of (cut_runs lo (hi - lo) areas) page ≡ perms_of (cut_runs first pages areas) page
    each canonical fits page = elim (range_cases lo hi page) [
      | inl inside ↦
          let low = inside.0 in
          let high = inside.1 in
          cut_inside lo (hi - lo) areas page fits canonical low (omega (arith, less, high)) ∙ sym (cut_inside first pages areas page most canonical (omega (arith, low, start)) (omega (arith, high, end)))
      | inr outside ↦ cut_outside lo (hi - lo) areas page fits canonical (still outside) ∙ elim (range_cases first (first + pages) page) [
        | inl inside ↦
            let none = outside_none region areas page listed (elsewhere outside inside.0 inside.1) in
            none ∙ sym (cut_inside first pages areas page most canonical inside.0 inside.1)
        | inr out ↦ sym (cut_outside first pages areas page most canonical out)
      ]
    ]
      where
        still : (page < lo) ⊎ (hi ≤ page) → (page < lo) ⊎ (lo + (hi - lo) ≤ page)
        still (inl below_) = inl below_
        still (inr above_) = inr (omega (arith, less, above_))

        elsewhere : (page < lo) ⊎ (hi ≤ page) → first ≤ page → page < first + pages → page / 512 ≡ region → ⊥
        elsewhere (inl below_) low high here = absurd (omega (arith, below_, low, high, here, start))
        elsewhere (inr above_) low high here = absurd (omega (arith, above_, low, high, here, end))

-- ---- a cut of no page that is mapped leaves all

joined_more : (region : ℕ) (front : List Area) (last : Area) (areas : List Area) → IsFormBefore last areas → IsRegionList region areas → joined (front ++ last ∷ []) areas ≡ front ++ last ∷ areas
joined_more region front last [] before listed = refl
joined_more region front last (n ∷ areas) before listed =
    ap (λ (l : List Area). joined l areas) (push-apart (front ++ last ∷ []) front last n refl before.1)
    ∙ joined_more region (front ++ last ∷ []) n areas listed.3 listed.4
    ∙ append_assoc front (last ∷ []) (n ∷ areas)

joined_same : (region : ℕ) (areas : List Area) → IsRegionList region areas → joined [] areas ≡ areas
joined_same region [] listed = refl
joined_same region (a ∷ areas) listed = joined_more region [] a areas listed.3 listed.4

same_run : (a : Area) (first pages : ℕ) → first ≡ a.first.0 → pages ≡ a.pages → ◌≡◌ {A = Area} (record { first = record { 0 = first }; pages = pages; perms = a.perms }) a
same_run a first pages start size = λ i. record { first = record { 0 = start i }; pages = size i; perms = a.perms }

above_all : (page low high : ℕ) (areas : List Area) → page ≤ low → IsWithin low high areas → above page areas ≡ areas
above_all page low high [] least within = refl
above_all page low high (a ∷ areas) least within =
    let start : low ≤ a.first.0 = within.0 in
    let pages : 0 < a.pages = within.1 in
    ap (λ (p : List Area). p ++ above page areas) (between-is (max a.first.0 page) (end_of a) a.perms (omega (arith, start, least, pages)))
    ∙ (λ i. same_run a (max a.first.0 page) (end_of a - max a.first.0 page) (omega (arith, start, least)) (omega (arith, start, least, pages)) i ∷ above_all page (end_of a) high areas (omega (arith, start, least)) within.2 i)

past_cut : (region first pages : ℕ) (areas : List Area) → first + pages ≤ region * 512 → IsRegionList region areas → cut_runs first pages areas ≡ areas
unfolding cut_runs
past_cut region first pages areas past listed =
    let all = listed_within region areas listed in
    (λ i. joined [] (below-none first (region * 512) (region * 512 + 512) areas all (omega (arith, past)) i ++ above_all (first + pages) (region * 512) (region * 512 + 512) areas past all i))
    ∙ joined_same region areas listed

near_cut : (first pages : ℕ) (areas : List Area) → first + pages ≤ PAGES_END → IsCanonical areas → ((vpn : ℕ) → first ≤ vpn → vpn < first + pages → perms_of areas vpn ≡ None) → cut_runs first pages areas ≡ areas
near_cut first pages areas most canonical none = unique (cut_runs first pages areas) areas (cut-clears first pages areas most canonical).0 canonical (λ page. elim (range_cases first (first + pages) page) [
  | inl inside ↦ cut_inside first pages areas page most canonical inside.0 inside.1 ∙ sym (none page inside.0 inside.1)
  | inr out ↦ cut_outside first pages areas page most canonical out
])

pub stays_cut : (region first pages : ℕ) (areas : List Area) → first + pages ≤ PAGES_END → IsRegionList region areas → ((vpn : ℕ) → first ≤ vpn → vpn < first + pages → perms_of areas vpn ≡ None) → cut_runs first pages areas ≡ areas
stays_cut region first pages areas most listed none = elim (cases_lt region 131072) [
  | inl less ↦ near_cut first pages areas most (listed_canonical region areas (omega (arith, less)) listed) none
  | inr past ↦ past_cut region first pages areas (omega (arith, past, most)) listed
]
