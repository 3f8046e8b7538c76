-- The pages that a process begins with.
use Rattle.std.proofs.Common.{◌≡◌, ℕ, zero, suc, ◌+◌, ◌*◌, ◌/◌, ◌^◌, ◌<◌, ◌≤◌, ◌⊎◌, inl, inr, Bool, true, false, cond, ◌&&◌, refl, sym, ◌∙◌, ap, List, [], ◌∷◌, Option, Some, None, arith}
use Rattle.std.specs.Prelude.{nat_le, nat_lt}
use Rattle.std.specs.List.{AllByRecursion}
use Rattle.std.proofs.lemmas.Bool.{cases_lt, lt-ltb, le-ltb, le-leb, lt-leb}
use Rattle.lego_base.specs.declared.perms.Perms.{Perms}
use Rattle.lego_base.specs.declared.records.Area.{Area}
use Rattle.lego_base.specs.Space.{perms_of}
use Rattle.area_list.specs.Runs.{put_runs, in_range, IsCanonical}
use Rattle.area_list.proofs.Unique.{put-sets}
use Rattle.elf_image.specs.declared.image.Segment.{Segment}
use Rattle.elf_image.specs.Image.{IsBoundedSegment}
use Rattle.space_rules.specs.Mapped.{union, with_pages, first_page, page_count, areas_of, meets, perms_of_loads, read_write, stack_page, stack_pages, image_areas_of}

-- whether a page is one of `pages` pages that start at another
abbrev pub within : ℕ → ℕ → ℕ → Bool
within first pages page = nat_le first page && nat_lt page (first + pages)

-- what runs say of a page once a range of pages has more permissions
abbrev Adds : ℕ → ℕ → Perms → List Area → List Area → Type 0
Adds first pages perms runs new = (page : ℕ) → perms_of new page ≡ cond (within first pages page) (Some (union (perms_of runs page) perms)) (perms_of runs page)

pub is_within : (first pages page : ℕ) → first ≤ page → page < first + pages → within first pages page ≡ true
is_within first pages page low high = λ i. le-leb first page low i && lt-ltb page (first + pages) high i

pub is_below : (first pages page : ℕ) → page < first → within first pages page ≡ false
is_below first pages page less = λ i. lt-leb first page less i && nat_lt page (first + pages)

pub is_behind : (first pages page : ℕ) → first ≤ page → first + pages ≤ page → within first pages page ≡ false
is_behind first pages page low behind = λ i. le-leb first page low i && le-ltb page (first + pages) behind i

-- a choice by a test that is known
chosen : (b : Bool) (x y : Option Perms) → b ≡ true → cond b x y ≡ x
chosen b x y e = ap (λ (b : Bool). cond b x y) e

passed : (b : Bool) (x y : Option Perms) → b ≡ false → cond b x y ≡ y
passed b x y e = ap (λ (b : Bool). cond b x y) e

-- one page, then the pages after it
step : (first pages page : ℕ) (perms : Perms) (old mid new : Option Perms) → mid ≡ cond (within first 1 page) (Some (union old perms)) old → new ≡ cond (within (first + 1) pages page) (Some (union mid perms)) mid → new ≡ cond (within first (suc pages) page) (Some (union old perms)) old
step first pages page perms old mid new one rest = by (cases_lt page first) (cases_lt first page) (cases_lt page (first + suc pages))
  where
    by : ((page < first) ⊎ (first ≤ page)) → ((first < page) ⊎ (page ≤ first)) → ((page < first + suc pages) ⊎ (first + suc pages ≤ page)) → new ≡ cond (within first (suc pages) page) (Some (union old perms)) old
    by (inl less) q r =
        rest ∙ passed (within (first + 1) pages page) _ _ (is_below (first + 1) pages page (omega arith))
        ∙ one ∙ passed (within first 1 page) _ _ (is_below first 1 page less)
        ∙ sym (passed (within first (suc pages) page) _ _ (is_below first (suc pages) page less))
    by (inr le) (inr same) r =
        rest ∙ passed (within (first + 1) pages page) _ _ (is_below (first + 1) pages page (omega arith))
        ∙ one ∙ chosen (within first 1 page) _ _ (is_within first 1 page le (omega arith))
        ∙ sym (chosen (within first (suc pages) page) _ _ (is_within first (suc pages) page le (omega arith)))
    by (inr le) (inl more) (inl high) =
        rest ∙ chosen (within (first + 1) pages page) _ _ (is_within (first + 1) pages page (omega arith) (omega arith))
        ∙ ap (λ (mid : Option Perms). Some (union mid perms)) (one ∙ passed (within first 1 page) _ _ (is_behind first 1 page le (omega arith)))
        ∙ sym (chosen (within first (suc pages) page) _ _ (is_within first (suc pages) page le high))
    by (inr le) (inl more) (inr behind) =
        rest ∙ passed (within (first + 1) pages page) _ _ (is_behind (first + 1) pages page (omega arith) (omega arith))
        ∙ one ∙ passed (within first 1 page) _ _ (is_behind first 1 page le (omega arith))
        ∙ sym (passed (within first (suc pages) page) _ _ (is_behind first (suc pages) page le behind))

-- a range of pages gets more permissions, in addition to those that it has
pages_add : (first pages : ℕ) (perms : Perms) (runs : List Area) → first + pages ≤ 2 ^ 26 → IsCanonical runs → IsCanonical (with_pages first pages perms runs) × Adds first pages perms runs (with_pages first pages perms runs)
pages_add first zero perms runs fits c = (c, λ page. none page (cases_lt page first))
  where
    none : (page : ℕ) → ((page < first) ⊎ (first ≤ page)) → perms_of runs page ≡ cond (within first 0 page) (Some (union (perms_of runs page) perms)) (perms_of runs page)
    none page (inl less) = sym (passed (within first 0 page) _ _ (is_below first 0 page less))
    none page (inr le) = sym (passed (within first 0 page) _ _ (is_behind first 0 page le (omega arith)))
pages_add first (suc pages) perms runs fits c =
    let one = put-sets first 1 (union (perms_of runs first) perms) runs (omega arith) c in
    let rest = pages_add (first + 1) pages perms (put_runs first 1 (union (perms_of runs first) perms) runs) (omega arith) one.0 in
    (rest.0, λ page. step first pages page perms (perms_of runs page) (perms_of (put_runs first 1 (union (perms_of runs first) perms) runs) page) (perms_of (with_pages first (suc pages) perms runs) page) (one.1 page ∙ here page (cases_lt page first) (cases_lt first page)) (rest.1 page))
  where
    here : (page : ℕ) → ((page < first) ⊎ (first ≤ page)) → ((first < page) ⊎ (page ≤ first)) → in_range first 1 page (Some (union (perms_of runs first) perms)) (perms_of runs page) ≡ cond (within first 1 page) (Some (union (perms_of runs page) perms)) (perms_of runs page)
    here page (inl less) q = passed (within first 1 page) _ _ (is_below first 1 page less) ∙ sym (passed (within first 1 page) _ _ (is_below first 1 page less))
    here page (inr le) (inl more) = passed (within first 1 page) _ _ (is_behind first 1 page le (omega arith)) ∙ sym (passed (within first 1 page) _ _ (is_behind first 1 page le (omega arith)))
    here page (inr le) (inr same) = let e : first ≡ page = omega arith in ap (λ (p : ℕ). cond (within first 1 page) (Some (union (perms_of runs p) perms)) (perms_of runs page)) e

-- the pages of a load are those that it meets
pub load_meets : (s : Segment) (page : ℕ) → IsBoundedSegment s → within (first_page s) (page_count s) page ≡ meets s page
load_meets s page bounds = by (cases_lt page (s.vaddr / 4096)) (cases_lt page (s.vaddr / 4096 + page_count s))
  where
    by : ((page < s.vaddr / 4096) ⊎ (s.vaddr / 4096 ≤ page)) → ((page < s.vaddr / 4096 + page_count s) ⊎ (s.vaddr / 4096 + page_count s ≤ page)) → within (first_page s) (page_count s) page ≡ meets s page
    by (inl less) q =
        let far : (page + 1) * 4096 ≤ s.vaddr = omega arith in
        is_below (first_page s) (page_count s) page less ∙ sym (λ i. le-ltb s.vaddr ((page + 1) * 4096) far i && nat_lt (page * 4096) (s.vaddr + s.memsz))
    by (inr le) (inl high) =
        let near : s.vaddr < (page + 1) * 4096 = omega arith in
        let some : 0 < s.memsz = bounds.some in
        let before : page * 4096 < s.vaddr + s.memsz = omega arith in
        is_within (first_page s) (page_count s) page le high ∙ sym (λ i. lt-ltb s.vaddr ((page + 1) * 4096) near i && lt-ltb (page * 4096) (s.vaddr + s.memsz) before i)
    by (inr le) (inr behind) =
        let near : s.vaddr < (page + 1) * 4096 = omega arith in
        let some : 0 < s.memsz = bounds.some in
        let after : s.vaddr + s.memsz ≤ page * 4096 = omega arith in
        is_behind (first_page s) (page_count s) page le behind ∙ sym (λ i. lt-ltb s.vaddr ((page + 1) * 4096) near i && le-ltb (page * 4096) (s.vaddr + s.memsz) after i)

pub loads_map : (segments : List Segment) (runs : List Area) → AllByRecursion IsBoundedSegment segments → IsCanonical runs → IsCanonical (areas_of segments runs) × ((page : ℕ) → perms_of (areas_of segments runs) page ≡ perms_of_loads segments (perms_of runs page) page)
loads_map [] runs all c = (c, λ page. refl)
loads_map (s ∷ segments) runs all c =
    let some : 0 < s.memsz = all.0.some in
    let high : s.vaddr + s.memsz ≤ 0x2000000000 = all.0.ends in
    let one = pages_add (first_page s) (page_count s) s.perms runs (omega arith) c in
    let rest = loads_map segments (with_pages (first_page s) (page_count s) s.perms runs) all.1 one.0 in
    (rest.0, λ page. rest.1 page ∙ ap (λ (o : Option Perms). perms_of_loads segments o page) (one.1 page ∙ ap (λ (b : Bool). cond b (Some (union (perms_of runs page) s.perms)) (perms_of runs page)) (load_meets s page all.0)))

pub boot_maps : (segments : List Segment) → AllByRecursion IsBoundedSegment segments → IsCanonical (areas_of segments []) × ((page : ℕ) → perms_of (areas_of segments []) page ≡ perms_of_loads segments None page)
boot_maps segments all = loads_map segments [] all tt

pub image_maps : (segments : List Segment) → AllByRecursion IsBoundedSegment segments → IsCanonical (image_areas_of segments) × ((page : ℕ) → perms_of (image_areas_of segments) page ≡ in_range stack_page stack_pages page (Some read_write) (perms_of_loads segments None page))
image_maps segments all =
    let loads = boot_maps segments all in
    let both = put-sets stack_page stack_pages read_write (areas_of segments []) (omega arith) loads.0 in
    (both.0, λ page. both.1 page ∙ ap (λ (o : Option Perms). in_range stack_page stack_pages page (Some read_write) o) (loads.1 page))
