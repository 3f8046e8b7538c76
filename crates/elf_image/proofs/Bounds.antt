-- The program of a file without fault is within the bounds.
use Rattle.std.proofs.Common.{◌≡◌, ℕ, suc, zero, ◌+◌, ◌%◌, ◌<◌, ◌≤◌, ◌⊎◌, inl, inr, max, min, true, false, ◌&&◌, ◌==◌, nat_lt, nat_le, List, length, get_or, map, sum_by, refl, ap, ◌∙◌, length-take, arith}
use Rattle.std.specs.List.{All, Any, AllPairs, list_any}
use Rattle.std.proofs.lemmas.Bool.{ltb-true, ltb-false, leb-true, eqb-true, or_parts, and_parts, not-false, cases_lt}
use Rattle.std.proofs.lemmas.List.{get_or-map, length-map}
use Rattle.std.proofs.lemmas.List.Elements.{All-map, filter_passes}
use Rattle.std.proofs.lemmas.List.Folds.{fold-map, Any-from_list_any}
use Rattle.std.proofs.lemmas.List.Recursion.{max_bounds, max_least}
use Rattle.std.proofs.lemmas.List.Sums.{length-filter, count_by-le-length}
use Rattle.elf_image.specs.declared.header.Header.{Header}
use Rattle.elf_image.specs.declared.image.Segment.{Segment}
use Rattle.elf_image.specs.File.{headers_from, headers, table_offset, header_count, entry_address, is_load, loads_of, load_end, is_executable}
use Rattle.elf_image.specs.Image.{is_overfull, has_other_size, is_misplaced, some_misplaced, share, executes, is_entry_outside, file_faults, load_faults, loads, first_fault, segment_of, highest_end, page_from, program_of, IsBoundedSegment, AreApart, MayExecute}
use Rattle.elf_image.specs.Laws.{AcceptedIsBounded}
use Rattle.elf_image.proofs.Lists.{no_header, each_fails}
use Rattle.elf_image.proofs.Sharing.{each_pair}
use Rattle.elf_image.proofs.Faults.{IsWhole, whole, IsSound, sound, none_first}

length-headers_from : (bytes : List ℕ) (at count : ℕ) → length (headers_from bytes at count) ≡ count
length-headers_from bytes at zero = refl
length-headers_from bytes at (suc count) = ap suc (length-headers_from bytes (at + 56) count)

few_loads : (bytes : List ℕ) → header_count bytes ≤ 64 → length (loads bytes) ≤ 64
unfolding headers loads_of
few_loads bytes few = omega (arith, length-filter is_load (headers bytes), count_by-le-length is_load (headers bytes), length-headers_from bytes (table_offset bytes) (header_count bytes))

loaded : (bytes : List ℕ) → All (λ load. is_load load ≡ true) (loads bytes)
unfolding loads_of
loaded bytes = filter_passes is_load (headers bytes)

-- where no load is misplaced, the highest end is an address of loads
pub highest_within : (loads : List Header) → some_misplaced loads ≡ false → highest_end loads ≤ 0x2000000000
unfolding some_misplaced
highest_within loads none =
    max_least highest_end load_end refl (λ load rest. refl) loads no_header 0x2000000000 (λ i inside. ltb-false _ _ (or_parts (nat_lt (get_or loads i no_header).vaddr 4096) _ (each_fails is_misplaced loads none i no_header inside)).1)

bounded_segments : (bytes : List ℕ) → IsSound (length bytes) (entry_address bytes) (loads bytes) → All IsBoundedSegment (map (segment_of bytes) (loads bytes))
unfolding has_other_size some_misplaced
bounded_segments bytes holds =
    All-map IsBoundedSegment (segment_of bytes) (loads bytes) (λ k d inside.
    let load = get_or (loads bytes) k d in
    let full = each_fails is_overfull (loads bytes) (or_parts _ (nat_lt 33554432 (sum_by (λ (load : Header). load.memsz) (loads bytes))) holds.sizes).0 k d inside in
    let place = or_parts (nat_lt load.vaddr 4096) (nat_lt 0x2000000000 (load_end load)) (each_fails is_misplaced (loads bytes) holds.places k d inside) in
    let fits : load.filesz ≤ load.memsz = ltb-false load.memsz load.filesz full in
    record {
      filled = simp length-take (omega arith);
      some = ltb-true 0 load.memsz (and_parts (load.kind == 1) (nat_lt 0 load.memsz) (loaded bytes k d inside)).1;
      start = ltb-false load.vaddr 4096 place.0;
      ends = ltb-false 0x2000000000 (load_end load) place.1;
      flags = omega arith;
    })

bounded_total : (bytes : List ℕ) (size entry : ℕ) → IsSound size entry (loads bytes) → sum_by (λ (segment : Segment). segment.memsz) (map (segment_of bytes) (loads bytes)) ≤ 33554432
unfolding has_other_size
bounded_total bytes size entry holds =
    let sums = fold-map (λ (sum : ℕ) (segment : Segment). sum + segment.memsz) (segment_of bytes) 0 (loads bytes) in
    let total = ltb-false 33554432 (sum_by (λ (load : Header). load.memsz) (loads bytes)) (or_parts (list_any is_overfull (loads bytes)) _ holds.sizes).1 in
    omega (arith, sums, total)

-- two loads with bytes that don't share are apart
apart_at : (load other : Header) → 0 < load.memsz → 0 < other.memsz → share load other ≡ false → (load_end load ≤ other.vaddr) ⊎ (load_end other ≤ load.vaddr)
apart_at load other some more apart =
    let meet : min (load_end load) (load_end other) ≤ max load.vaddr other.vaddr = ltb-false _ _ apart in
    elim (cases_lt other.vaddr (load_end load)) [ inl below ↦ inr (omega arith) | inr above ↦ inl above ]

apart_segments : (bytes : List ℕ) (size entry : ℕ) → IsSound size entry (loads bytes) → AllPairs AreApart (map (segment_of bytes) (loads bytes))
apart_segments bytes size entry holds = λ i j d before inside.
    let last : j < length (loads bytes) = omega (arith, inside, length-map (loads bytes) (segment_of bytes)) in
    let first : i < length (loads bytes) = omega arith in
    let load = get_or (loads bytes) i no_header in
    let other = get_or (loads bytes) j no_header in
    let some = ltb-true 0 load.memsz (and_parts (load.kind == 1) (nat_lt 0 load.memsz) (loaded bytes i no_header first)).1 in
    let more = ltb-true 0 other.memsz (and_parts (other.kind == 1) (nat_lt 0 other.memsz) (loaded bytes j no_header last)).1 in
    let apart : AreApart (segment_of bytes load) (segment_of bytes other) = apart_at load other some more ((each_pair (loads bytes)).0 holds.apart i j no_header before last) in
    rw (get_or-map (segment_of bytes) (loads bytes) i no_header d first, get_or-map (segment_of bytes) (loads bytes) j no_header d last) apart

enters : (bytes : List ℕ) (entry : ℕ) (load : Header) → executes entry load ≡ true → MayExecute entry (segment_of bytes load)
enters bytes entry load passes =
    let parts = and_parts (is_executable load) (nat_le load.vaddr entry && nat_lt entry (load_end load)) passes in
    let range = and_parts (nat_le load.vaddr entry) (nat_lt entry (load_end load)) parts.1 in
    let flag : load.flags % 2 ≡ 1 = eqb-true _ _ parts.0 in
    record {
      allowed = omega arith;
      start = leb-true load.vaddr entry range.0;
      ends = ltb-true entry (load_end load) range.1;
    }

entered_at : (bytes : List ℕ) (size entry : ℕ) → IsSound size entry (loads bytes) → (entry % 4 ≡ 0) × Any (MayExecute entry) (map (segment_of bytes) (loads bytes))
unfolding is_entry_outside
entered_at bytes size entry holds =
    let parts = and_parts (entry % 4 == 0) (list_any (executes entry) (loads bytes)) (not-false _ holds.entered) in
    let found = Any-from_list_any (executes entry) (loads bytes) parts.1 in
    let inside : found.0 < length (map (segment_of bytes) (loads bytes)) = omega (arith, found.2, length-map (loads bytes) (segment_of bytes)) in
    let there = get_or-map (segment_of bytes) (loads bytes) found.0 found.1 (segment_of bytes found.1) found.2 ∙ ap (segment_of bytes) found.3 in
    (eqb-true _ _ parts.0, (found.0, segment_of bytes found.1, inside, there, enters bytes entry found.1 found.4))

pub bounded : AcceptedIsBounded
unfolding first_fault program_of
bounded bytes none =
    let rows = none_first (file_faults bytes) (load_faults (length bytes) (entry_address bytes) (headers bytes) (loads bytes)) none in
    let file : IsWhole bytes = whole bytes rows.0 in
    let holds : IsSound (length bytes) (entry_address bytes) (loads bytes) = sound (length bytes) (entry_address bytes) (headers bytes) (loads bytes) rows.1 in
    let highest : highest_end (loads bytes) ≤ 0x2000000000 = highest_within (loads bytes) holds.places in
    let entry = entered_at bytes (length bytes) (entry_address bytes) holds in
    record {
      few = rw (length-map (loads bytes) (segment_of bytes)) (few_loads bytes file.few);
      each = bounded_segments bytes holds;
      total = bounded_total bytes (length bytes) (entry_address bytes) holds;
      apart = apart_segments bytes (length bytes) (entry_address bytes) holds;
      aligned = entry.0;
      entered = entry.1;
      page = omega arith;
      behind = All-map (λ (segment : Segment). segment.vaddr + segment.memsz ≤ page_from (highest_end (loads bytes))) (segment_of bytes) (loads bytes) (λ k d inside. let below = max_bounds highest_end load_end refl (λ load rest. refl) (loads bytes) k d inside in omega (arith, below));
      within = omega arith;
    }
