-- Few loads make few runs: a run begins only where a load begins or ends.
use Rattle.std.proofs.Common.{◌≡◌, ℕ, suc, ◌+◌, ◌-◌, ◌*◌, ◌<◌, ◌≤◌, ◌⊎◌, inl, inr, Bool, true, false, cond, ◌&&◌, ◌||◌, eqb, refl, sym, ◌∙◌, ap, subst, List, [], ◌∷◌, ◌++◌, length, Option, Some, None, arith}
use Rattle.std.specs.Prelude.{nat_le, nat_lt}
use Rattle.std.specs.List.{AllByRecursion}
use Rattle.std.proofs.lemmas.Bool.{cases_lt, cases_Bool, eqb-true, eq-eqb, false≢true, le-ltb}
use Rattle.std.proofs.lemmas.List.{length_push}
use Rattle.lego_base.specs.declared.perms.Perms.{Perms}
use Rattle.lego_base.specs.declared.records.Area.{Area}
use Rattle.lego_base.specs.Space.{perms_of}
use Rattle.lego_base.specs.declared.sizes.TheConstants.{PAGES_END}
use Rattle.area_list.specs.Runs.{end_of, in_range, IsCanonical}
use Rattle.area_list.proofs.Pages.{perms-hit, perms-miss}
use Rattle.area_list.proofs.Canonical.{IsWithin, canonical-within, canonical-tail}
use Rattle.area_list.proofs.Unique.{perms-before}
use Rattle.elf_image.specs.declared.image.Segment.{Segment}
use Rattle.elf_image.specs.Image.{IsBoundedSegment}
use Rattle.space_rules.specs.Mapped.{union, with_pages, first_page, page_count, areas_of, meets, perms_of_loads, read_write, stack_page, stack_pages, image_areas_of}
use Rattle.space_rules.proofs.Mapping.{within, is_within, is_below, is_behind, load_meets, boot_maps, image_maps}

-- whether a page is among these
abbrev has : List ℕ → ℕ → Bool
has [] page = false
has (edge ∷ edges) page = eqb edge page || has edges page

-- how many of these pages lie at a page or above it
abbrev one_from : ℕ → ℕ → ℕ
one_from low edge = cond (nat_le low edge) 1 0

abbrev count_from : ℕ → List ℕ → ℕ
count_from low [] = 0
count_from low (edge ∷ edges) = one_from low edge + count_from low edges

count_few : (low : ℕ) (edges : List ℕ) → count_from low edges ≤ length edges
count_few low [] = omega arith
count_few low (edge ∷ edges) = let rest = count_few low edges in grind arith

count_less : (low high : ℕ) (edges : List ℕ) → low ≤ high → count_from high edges ≤ count_from low edges
count_less low high [] h = omega arith
count_less low high (edge ∷ edges) h = let rest = count_less low high edges h in grind arith

count_more : (low high page : ℕ) (edges : List ℕ) → low ≤ page → page < high → has edges page ≡ true → count_from high edges + 1 ≤ count_from low edges
count_more low high page [] h k there = absurd (cc)
count_more low high page (edge ∷ edges) h k there = by (count_more low high page edges h k) (cases_Bool (eqb edge page)) (cases_Bool (has edges page))
  where
    by : (has edges page ≡ true → count_from high edges + 1 ≤ count_from low edges) → ((eqb edge page ≡ true) ⊎ (eqb edge page ≡ false)) → ((has edges page ≡ true) ⊎ (has edges page ≡ false)) → count_from high (edge ∷ edges) + 1 ≤ count_from low (edge ∷ edges)
    by left (inl same) q =
        let e : edge ≡ page = eqb-true edge page same in
        let rest : count_from high edges ≤ count_from low edges = count_less low high edges (omega arith) in
        grind arith
    by left (inr other) (inl more) = let rest : count_from high edges + 1 ≤ count_from low edges = left more in grind arith
    by left (inr other) (inr none) = absurd (false≢true (sym ((λ i. other i || none i)) ∙ there))

-- a first run begins where the pages before it have other permissions
abbrev IsFresh : (ℕ → Option Perms) → List Area → Type 0
IsFresh perms [] = Unit {0}
IsFresh perms (area ∷ runs) = (page : ℕ) → suc page ≡ area.first.0 → perms page ≡ Some area.perms → ⊥

-- a page has the same permissions as the next, but where the next is among these
abbrev IsSteady : (ℕ → Option Perms) → List ℕ → Type 0
IsSteady perms edges = (page : ℕ) → has edges (suc page) ≡ false → perms page ≡ perms (suc page)

begins_at_edge : (perms : ℕ → Option Perms) (edges : List ℕ) (area : Area) (runs : List Area) → perms area.first.0 ≡ Some area.perms → IsFresh perms (area ∷ runs) → IsSteady perms edges → perms 0 ≡ None → has edges area.first.0 ≡ true
begins_at_edge perms edges area runs here fresh steady bottom = by (cases_Bool (has edges area.first.0)) (cases_lt 0 area.first.0)
  where
    by : ((has edges area.first.0 ≡ true) ⊎ (has edges area.first.0 ≡ false)) → ((0 < area.first.0) ⊎ (area.first.0 ≤ 0)) → has edges area.first.0 ≡ true
    by (inl there) q = there
    by (inr not) (inr low) =
        let e : area.first.0 ≡ 0 = omega arith in
        let o : None ≡ Some area.perms = sym bottom ∙ ap perms (sym e) ∙ here in
        absurd (cc)
    by (inr not) (inl later) =
        let e : suc (area.first.0 - 1) ≡ area.first.0 = omega arith in
        absurd (fresh (area.first.0 - 1) e (steady (area.first.0 - 1) (ap (has edges) e ∙ not) ∙ ap perms e ∙ here))

abbrev bits_of : Option Perms → ℕ
bits_of None = 0
bits_of (Some perms) = perms.0

-- the next run begins where the pages before it have other permissions
fresh_next : (perms : ℕ → Option Perms) (area : Area) (runs : List Area) → IsCanonical (area ∷ runs) → ((page : ℕ) → area.first.0 ≤ page → perms page ≡ perms_of (area ∷ runs) page) → IsFresh perms runs
fresh_next perms area [] c agree = tt
fresh_next perms area (next ∷ runs) c agree = λ page before same. by page before same (cases_lt page (end_of area))
  where
    by : (page : ℕ) → suc page ≡ next.first.0 → perms page ≡ Some next.perms → ((page < end_of area) ⊎ (end_of area ≤ page)) → ⊥
    by page before same (inl within) =
        let apart : end_of area ≤ next.first.0 = c.2.0 in
        let some : 0 < area.pages = c.0 in
        let touch : end_of area ≡ next.first.0 = omega arith in
        let low : area.first.0 ≤ page = omega arith in
        let two : Some area.perms ≡ Some next.perms = sym (agree page low ∙ perms-hit area (next ∷ runs) page low within) ∙ same in
        let bits : area.perms.0 ≡ next.perms.0 = ap bits_of two in
        false≢true (sym c.2.1 ∙ (λ i. eq-eqb (end_of area) next.first.0 touch i && eq-eqb area.perms.0 next.perms.0 bits i))
    by page before same (inr behind) =
        let low : area.first.0 ≤ page = omega arith in
        let o : None ≡ Some next.perms = sym (agree page low ∙ perms-miss area (next ∷ runs) page (inr behind) ∙ perms-before next.first.0 PAGES_END (next ∷ runs) page (omega arith, c.3.0, canonical-tail next runs c.3) (omega arith)) ∙ same in
        absurd (cc)

runs_few : (perms : ℕ → Option Perms) (edges : List ℕ) (low : ℕ) (runs : List Area) → IsCanonical runs → IsWithin low PAGES_END runs → ((page : ℕ) → low ≤ page → perms page ≡ perms_of runs page) → IsFresh perms runs → IsSteady perms edges → perms 0 ≡ None → length runs ≤ count_from low edges
runs_few perms edges low [] c w agree fresh steady bottom = omega arith
runs_few perms edges low (area ∷ runs) c w agree fresh steady bottom =
    let start : low ≤ area.first.0 = w.0 in
    let some : 0 < area.pages = c.0 in
    let here : perms area.first.0 ≡ Some area.perms = agree area.first.0 start ∙ perms-hit area runs area.first.0 (omega arith) (omega arith) in
    let edge : count_from (end_of area) edges + 1 ≤ count_from low edges = count_more low (end_of area) area.first.0 edges start (omega arith) (begins_at_edge perms edges area runs here fresh steady bottom) in
    let rest : length runs ≤ count_from (end_of area) edges =
    runs_few perms edges (end_of area) runs c.3 (canonical-tail area runs c) (λ page high. agree page (omega arith) ∙ perms-miss area runs page (inr high)) (fresh_next perms area runs c (λ page high. agree page (omega arith))) steady bottom
    in
    omega arith

-- canonical runs are at most as many as the pages at which the permissions change
pub few_runs : (runs : List Area) (perms : ℕ → Option Perms) (edges : List ℕ) → IsCanonical runs → ((page : ℕ) → perms_of runs page ≡ perms page) → IsSteady perms edges → perms 0 ≡ None → length runs ≤ length edges
few_runs runs perms edges c agree steady bottom =
    let some : length runs ≤ count_from 0 edges = runs_few perms edges 0 runs c (canonical-within runs c) (λ page low. sym (agree page)) (fresh runs c agree) steady bottom in
    let few : count_from 0 edges ≤ length edges = count_few 0 edges in
    omega arith
  where
    fresh : (runs : List Area) → IsCanonical runs → ((page : ℕ) → perms_of runs page ≡ perms page) → IsFresh perms runs
    fresh [] c agree = tt
    fresh (area ∷ runs) c agree = λ page before same.
        let o : None ≡ Some area.perms = sym (perms-before area.first.0 PAGES_END (area ∷ runs) page (omega arith, c.0, canonical-tail area runs c) (omega arith)) ∙ agree page ∙ same in
        absurd (cc)

-- the pages at which loads begin, and those after their ends
abbrev edges_of : List Segment → List ℕ
edges_of [] = []
edges_of (s ∷ segments) = first_page s ∷ (first_page s + page_count s) ∷ edges_of segments

length_edges : (segments : List Segment) → length (edges_of segments) ≡ length segments + length segments
length_edges [] = refl
length_edges (s ∷ segments) = let rest : length (edges_of segments) ≡ length segments + length segments = length_edges segments in omega arith

neither : (b c : Bool) → (b || c) ≡ false → (b ≡ false) × (c ≡ false)
neither true c h = absurd (cc)
neither false c h = (refl, h)

-- a page that is none of these isn't the first of them, nor among the others
not_first : (edge : ℕ) (edges : List ℕ) (page : ℕ) → has (edge ∷ edges) page ≡ false → (edge ≡ page → ⊥) × (has edges page ≡ false)
not_first edge edges page h =
    let both = neither (eqb edge page) (has edges page) h in
    (λ same. false≢true (sym both.0 ∙ eq-eqb edge page same), both.1)

within_steady : (first pages page : ℕ) (edges : List ℕ) → has (first ∷ (first + pages) ∷ edges) (suc page) ≡ false → within first pages page ≡ within first pages (suc page)
within_steady first pages page edges h =
    by (cases_lt (suc page) first) (cases_lt first (suc page)) (cases_lt (suc page) (first + pages)) (cases_lt (first + pages) (suc page))
  where
    by : ((suc page < first) ⊎ (first ≤ suc page)) → ((first < suc page) ⊎ (suc page ≤ first)) → ((suc page < first + pages) ⊎ (first + pages ≤ suc page)) → ((first + pages < suc page) ⊎ (suc page ≤ first + pages)) → within first pages page ≡ within first pages (suc page)
    by (inl below) q r t = is_below first pages page (omega arith) ∙ sym (is_below first pages (suc page) below)
    by (inr le) (inr ge) r t = let e : first ≡ suc page = omega arith in absurd ((not_first first ((first + pages) ∷ edges) (suc page) h).0 e)
    by (inr le) (inl above) (inl less) t = is_within first pages page (omega arith) (omega arith) ∙ sym (is_within first pages (suc page) le less)
    by (inr le) (inl above) (inr ge) (inl behind) = is_behind first pages page (omega arith) (omega arith) ∙ sym (is_behind first pages (suc page) le ge)
    by (inr le) (inl above) (inr ge) (inr ends) = let e : first + pages ≡ suc page = omega arith in absurd ((not_first (first + pages) edges (suc page) (not_first first ((first + pages) ∷ edges) (suc page) h).1).0 e)

loads_steady : (segments : List Segment) (perms perms' : Option Perms) → AllByRecursion IsBoundedSegment segments → perms ≡ perms' → (page : ℕ) → has (edges_of segments) (suc page) ≡ false → perms_of_loads segments perms page ≡ perms_of_loads segments perms' (suc page)
loads_steady [] perms perms' all same page h = same
loads_steady (s ∷ segments) perms perms' all same page h =
    let met : meets s page ≡ meets s (suc page) = sym (load_meets s page all.0) ∙ within_steady (first_page s) (page_count s) page (edges_of segments) h ∙ load_meets s (suc page) all.0 in
    loads_steady segments (cond (meets s page) (Some (union perms s.perms)) perms) (cond (meets s (suc page)) (Some (union perms' s.perms)) perms') all.1 (λ i. cond (met i) (Some (union (same i) s.perms)) (same i)) page (not_first (first_page s + page_count s) (edges_of segments) (suc page) (not_first (first_page s) ((first_page s + page_count s) ∷ edges_of segments) (suc page) h).1).1

-- no load meets the first page
loads_above : (segments : List Segment) → AllByRecursion IsBoundedSegment segments → perms_of_loads segments None 0 ≡ None
loads_above [] all = refl
loads_above (s ∷ segments) all =
    let start : 4096 ≤ s.vaddr = all.0.start in
    let none : meets s 0 ≡ false = λ i. le-ltb s.vaddr ((0 + 1) * 4096) start i && nat_lt (0 * 4096) (s.vaddr + s.memsz) in
    ap (λ (b : Bool). perms_of_loads segments (cond b (Some (union None s.perms)) None) 0) none ∙ loads_above segments all.1

pub loads_few : (segments : List Segment) → AllByRecursion IsBoundedSegment segments → length (areas_of segments []) ≤ length segments + length segments
loads_few segments all =
    let maps = boot_maps segments all in
    let few : length (areas_of segments []) ≤ length (edges_of segments) = few_runs (areas_of segments []) (perms_of_loads segments None) (edges_of segments) maps.0 maps.1 (loads_steady segments None None all refl) (loads_above segments all) in
    let edges = length_edges segments in
    omega arith

pub image_few : (segments : List Segment) → AllByRecursion IsBoundedSegment segments → length (image_areas_of segments) ≤ length segments + length segments + 2
image_few segments all =
    let maps = image_maps segments all in
    let edges : List ℕ = stack_page ∷ (stack_page + stack_pages) ∷ edges_of segments in
    let few : length (image_areas_of segments) ≤ length edges =
    few_runs (image_areas_of segments) (λ page. in_range stack_page stack_pages page (Some read_write) (perms_of_loads segments None page)) edges maps.0 maps.1
    (λ page h i. cond (within_steady stack_page stack_pages page (edges_of segments) h i) (Some read_write) (loads_steady segments None None all refl page (not_first (stack_page + stack_pages) (edges_of segments) (suc page) (not_first stack_page ((stack_page + stack_pages) ∷ edges_of segments) (suc page) h).1).1 i))
    (loads_above segments all)
    in
    let both = length_edges segments in
    omega arith

-- The first pages of a load, after whole loads before it, are themselves those of a load.
pub areas_behind : (segments more : List Segment) (runs : List Area) → areas_of (segments ++ more) runs ≡ areas_of more (areas_of segments runs)
areas_behind [] more runs = refl
areas_behind (s ∷ segments) more runs = areas_behind segments more (with_pages (first_page s) (page_count s) s.perms runs)

bounded_behind : (segments : List Segment) (s : Segment) → AllByRecursion IsBoundedSegment segments → IsBoundedSegment s → AllByRecursion IsBoundedSegment (segments ++ s ∷ [])
bounded_behind [] s all one = (one, tt)
bounded_behind (first ∷ segments) s all one = (all.0, bounded_behind segments s all.1 one)

-- the front of a load, from the first page that it meets
abbrev front_of : Segment → ℕ → Segment
front_of s pages = record { vaddr = first_page s * 4096; memsz = pages * 4096; perms = s.perms; bytes = [] }

front_bounded : (s : Segment) (pages : ℕ) → IsBoundedSegment s → 0 < pages → pages ≤ page_count s → IsBoundedSegment (front_of s pages)
front_bounded s pages bounds some few =
    let start : 4096 ≤ s.vaddr = bounds.start in
    let ends : s.vaddr + s.memsz ≤ 0x2000000000 = bounds.ends in
    record {
      filled = omega arith;
      some = omega arith;
      start = omega arith;
      ends = omega arith;
      flags = bounds.flags;
    }

-- some loads, and some pages of one more, make so few runs
pub front_few : (segments : List Segment) (s : Segment) (pages : ℕ) → AllByRecursion IsBoundedSegment segments → IsBoundedSegment s → pages ≤ page_count s → length (with_pages (first_page s) pages s.perms (areas_of segments [])) ≤ length segments + length segments + 2
front_few segments s pages all one few = by (cases_lt 0 pages)
  where
    by : ((0 < pages) ⊎ (pages ≤ 0)) → length (with_pages (first_page s) pages s.perms (areas_of segments [])) ≤ length segments + length segments + 2
    by (inr none) =
        let e : 0 ≡ pages = omega arith in
        let whole : length (areas_of segments []) ≤ length segments + length segments = loads_few segments all in
        subst (λ (n : ℕ). length (with_pages (first_page s) n s.perms (areas_of segments [])) ≤ length segments + length segments + 2) e (omega arith)
    by (inl some) =
        let front = front_of s pages in
        let more : length (areas_of (segments ++ front ∷ []) []) ≤ length (segments ++ front ∷ []) + length (segments ++ front ∷ []) = loads_few (segments ++ front ∷ []) (bounded_behind segments front all (front_bounded s pages one some few)) in
        let first : first_page front ≡ first_page s = omega arith in
        let count : page_count front ≡ pages = omega arith in
        let same : areas_of (segments ++ front ∷ []) [] ≡ with_pages (first_page s) pages s.perms (areas_of segments []) = areas_behind segments (front ∷ []) [] ∙ (λ i. with_pages (first i) (count i) s.perms (areas_of segments [])) in
        let len : length (segments ++ front ∷ []) ≡ length segments + 1 = length_push segments front in
        subst (λ (runs : List Area). length runs ≤ length segments + length segments + 2) same (omega arith)
