-- Pages that are mapped one by one.
use Rattle.std.proofs.Common.{◌≡◌, ℕ, zero, suc, ◌+◌, ◌<◌, ◌≤◌, refl, sym, ◌∙◌, ap, subst, List, [], ◌∷◌, ◌++◌, length, get_or, take, arith}
use Rattle.std.specs.List.{All, AllByRecursion}
use Rattle.std.proofs.lemmas.List.{take_more, length-take-le}
use Rattle.std.proofs.lemmas.List.Elements.{All-head, All-tail, All-take, All-get_or}
use Rattle.lego_base.specs.declared.perms.Perms.{Perms}
use Rattle.lego_base.specs.declared.records.Area.{Area}
use Rattle.lego_base.specs.Space.{perms_of}
use Rattle.area_list.specs.declared.TheConstants.{MOST_RUNS}
use Rattle.area_list.specs.Runs.{put_runs}
use Rattle.elf_image.specs.declared.image.Segment.{Segment}
use Rattle.elf_image.specs.Image.{IsBoundedSegment}
use Rattle.space_rules.specs.Mapped.{union, with_pages, first_page, page_count, areas_of, read_write, stack_page, stack_pages, image_areas_of}
use Rattle.space_rules.proofs.Few.{areas_behind, front_few, image_few}

pub each : (segments : List Segment) → All IsBoundedSegment segments → AllByRecursion IsBoundedSegment segments
each [] all = tt
each (s ∷ segments) all = (All-head IsBoundedSegment s segments all, each segments (All-tail IsBoundedSegment s segments all))

-- the page after those that are mapped
pub pages_more : (first pages : ℕ) (perms : Perms) (runs : List Area) → with_pages first (suc pages) perms runs ≡ put_runs (first + pages) 1 (union (perms_of (with_pages first pages perms runs) (first + pages)) perms) (with_pages first pages perms runs)
pages_more first zero perms runs = let e : first ≡ first + 0 = omega arith in ap (λ (p : ℕ). put_runs p 1 (union (perms_of runs p) perms) runs) e
pages_more first (suc pages) perms runs =
    let next = put_runs first 1 (union (perms_of runs first) perms) runs in
    let e : first + 1 + pages ≡ first + suc pages = omega arith in
    pages_more (first + 1) pages perms next ∙ ap (λ (p : ℕ). put_runs p 1 (union (perms_of (with_pages (first + 1) pages perms next) p) perms) (with_pages (first + 1) pages perms next)) e

-- one page more, in the words of the code
pub page_more : (first page : ℕ) (perms all : Perms) (start runs runs' : List Area) → runs ≡ with_pages first page perms start → all ≡ union (perms_of runs (first + page)) perms → runs' ≡ put_runs (first + page) 1 all runs → runs' ≡ with_pages first (page + 1) perms start
page_more first page perms all start runs runs' so more put =
    put
    ∙ (λ i. put_runs (first + page) 1 (more i) runs)
    ∙ (λ i. put_runs (first + page) 1 (union (perms_of (so i) (first + page)) perms) (so i))
    ∙ sym (pages_more first page perms start)
    ∙ (let e : suc page ≡ page + 1 = omega arith in ap (λ (n : ℕ). with_pages first n perms start) e)

-- one load more
pub load_more : (segments : List Segment) (i : ℕ) (s : Segment) (runs runs' : List Area) → i < length segments → get_or segments i s ≡ s → runs ≡ areas_of (take i segments) [] → runs' ≡ areas_of (s ∷ []) runs → runs' ≡ areas_of (take (i + 1) segments) []
load_more segments i s runs runs' h is so maps =
    maps
    ∙ ap (λ (r : List Area). areas_of (s ∷ []) r) so
    ∙ sym (areas_behind (take i segments) (s ∷ []) [])
    ∙ ap (λ (l : List Segment). areas_of l []) (sym (take_more segments i s h ∙ ap (λ (x : Segment). take i segments ++ x ∷ []) is))

-- one page more isn't too many runs
pub page_fits : (first page count : ℕ) (perms all : Perms) (start runs : List Area) → page < count → runs ≡ with_pages first page perms start → all ≡ union (perms_of runs (first + page)) perms → ((pages : ℕ) → pages ≤ count → length (with_pages first pages perms start) ≤ MOST_RUNS) → MOST_RUNS < length (put_runs (first + page) 1 all runs) → ⊥
page_fits first page count perms all start runs h so more few many =
    let same : length (put_runs (first + page) 1 all runs) ≡ length (with_pages first (page + 1) perms start) = ap (λ (r : List Area). length r) (page_more first page perms all start runs (put_runs (first + page) 1 all runs) so more refl) in
    let least = few (page + 1) (omega arith) in
    omega arith

-- one load more isn't too many runs
pub load_fits : (segments : List Segment) (i : ℕ) (s : Segment) (runs : List Area) → i < length segments → length segments ≤ 64 → All IsBoundedSegment segments → get_or segments i s ≡ s → runs ≡ areas_of (take i segments) [] → (pages : ℕ) → pages ≤ page_count s → length (with_pages (first_page s) pages s.perms runs) ≤ MOST_RUNS
load_fits segments i s runs h few all is so pages part =
    let one : IsBoundedSegment s = subst IsBoundedSegment is (All-get_or IsBoundedSegment segments i s h all) in
    let some : length (with_pages (first_page s) pages s.perms (areas_of (take i segments) [])) ≤ length (take i segments) + length (take i segments) + 2 = front_few (take i segments) s pages (each (take i segments) (All-take IsBoundedSegment i segments all)) one part in
    let count : length (take i segments) ≡ i = length-take-le i segments (omega arith) in
    subst (λ (r : List Area). length (with_pages (first_page s) pages s.perms r) ≤ MOST_RUNS) (sym so) (omega arith)

-- the loads and the stack aren't too many runs
pub image_fits : (segments : List Segment) (perms : Perms) (runs : List Area) → length segments ≤ 64 → All IsBoundedSegment segments → perms ≡ read_write → runs ≡ areas_of segments [] → MOST_RUNS < length (put_runs stack_page stack_pages perms runs) → ⊥
image_fits segments perms runs few all is so many =
    let some : length (image_areas_of segments) ≤ length segments + length segments + 2 = image_few segments (each segments all) in
    let same : length (put_runs stack_page stack_pages perms runs) ≡ length (image_areas_of segments) = λ i. length (put_runs stack_page stack_pages (is i) (so i)) in
    omega arith
