-- Worked rows of the calls on spaces, by computation.
use Rattle.std.specs.Prelude.{◌≡◌, ℕ, ◌+◌, ◌-◌, ◌^◌, zero, suc, List, [], ◌∷◌, refl}
use Rattle.lego_base.specs.declared.records.Area.{Area}
use Rattle.area_list.specs.Runs.{put_runs, cut_runs}
use Rattle.area_list.specs.Gap.{lowest_gap}
use Rattle.area_list.specs.Cover.{covered}
use Rattle.linux_model.specs.Limits.{EINVAL, ENOMEM}
use Rattle.linux_model.specs.State.{Kernel}
use Rattle.linux_model.specs.Effects.{AsksSpace, Maps, Protects, Unmaps, Breaks, apply, applies}
use Rattle.linux_model.specs.Called.{Gives, says}
use Rattle.linux_model.specs.SpaceCalls.{brk_row, munmap_row, mmap_row, mprotect_row}
use Rattle.linux_model.proofs.rows.World.{area, world, tried}

-- ---- brk

the_break_is_told_where_it_can_t_move : (tried world (λ p k. brk_row p k 0) ≡ says 0x22000) × (tried world (λ p k. brk_row p k 0x2000000001) ≡ says 0x22000)
the_break_is_told_where_it_can_t_move = (refl, refl)

a_break_within_its_page_asks_nothing : tried (applies (Breaks 1 0x22000 0x22001 ∷ []) world) (λ p k. brk_row p k 0x22fff) ≡ Gives (Breaks 1 0x22000 0x22fff ∷ []) 0x22fff
a_break_within_its_page_asks_nothing = refl

a_byte_more_is_a_page_more : tried world (λ p k. brk_row p k 0x22001) ≡ Gives (AsksSpace 1 ∷ Maps 1 (area 0x20 3 3 ∷ []) ∷ Breaks 1 0x22000 0x22001 ∷ []) 0x22001
unfolding put_runs
a_byte_more_is_a_page_more = refl

the_break_stops_at_a_mapping : tried (applies (Maps 1 (area 0x20 2 3 ∷ area 0x23 1 3 ∷ []) ∷ []) world) (λ p k. brk_row p k 0x24000) ≡ Gives (AsksSpace 1 ∷ []) 0x22000
unfolding put_runs
the_break_stops_at_a_mapping = refl

a_lower_break_unmaps : tried (applies (Breaks 1 0x20000 0x22000 ∷ []) world) (λ p k. brk_row p k 0x20001) ≡ Gives (AsksSpace 1 ∷ Unmaps 1 0x21 1 ∷ Breaks 1 0x20000 0x20001 ∷ []) 0x20001
unfolding cut_runs
a_lower_break_unmaps = refl

-- ---- munmap

munmap_needs_whole_pages_and_a_length : (tried world (λ p k. munmap_row p k 0x20001 4096) ≡ says EINVAL) × ((tried world (λ p k. munmap_row p k 0x20000 0) ≡ says EINVAL) × (tried world (λ p k. munmap_row p k (2 ^ 38 - 4096) 4097) ≡ says EINVAL))
munmap_needs_whole_pages_and_a_length = (refl, (refl, refl))

a_length_counts_as_whole_pages : tried world (λ p k. munmap_row p k 0x20000 1) ≡ Gives (AsksSpace 1 ∷ Unmaps 1 0x20 1 ∷ []) 0
unfolding cut_runs
a_length_counts_as_whole_pages = refl

-- a page that is mapped again reads 0
an_unmapped_page_forgets : ((apply (Maps 1 (area 0x20 2 3 ∷ [])) (apply (Unmaps 1 0x20 1) world)).space 1).byte 0x20000 ≡ 0
an_unmapped_page_forgets = refl

the_page_after_keeps_its_bytes : ((apply (Unmaps 1 0x20 1) world).space 1).byte 0x21fff ≡ 102
the_page_after_keeps_its_bytes = refl

-- runs of one page each with one page between them, starting at a page
abbrev comb : ℕ → ℕ → List Area
comb zero page = []
comb (suc n) page = area page 1 3 ∷ comb n (page + 2)

abbrev with_runs : ℕ → Kernel
with_runs n = applies (Maps 1 (area 0x1000 3 3 ∷ comb n 0x2000) ∷ []) world

-- cutting the middle of a run makes one run more
two_hundred_and_fifty_six_runs_and_no_more : (tried (with_runs 254) (λ p k. munmap_row p k 0x1001000 4096) ≡ Gives (AsksSpace 1 ∷ Unmaps 1 0x1001 1 ∷ []) 0) × (tried (with_runs 255) (λ p k. munmap_row p k 0x1001000 4096) ≡ Gives (AsksSpace 1 ∷ []) ENOMEM)
unfolding cut_runs
two_hundred_and_fifty_six_runs_and_no_more = (refl, refl)

-- ---- mmap

mmap_checks_length_permissions_and_flags : (tried world (λ p k. mmap_row p k 0 0 3 0x22) ≡ says EINVAL) × ((tried world (λ p k. mmap_row p k 0 4096 8 0x22) ≡ says EINVAL) × ((tried world (λ p k. mmap_row p k 0 4096 3 2) ≡ says EINVAL) × ((tried world (λ p k. mmap_row p k 0 4096 3 0x20022) ≡ says EINVAL) × (tried world (λ p k. mmap_row p k 1 67108865 3 0x32) ≡ says ENOMEM))))
mmap_checks_length_permissions_and_flags = (refl, (refl, (refl, (refl, refl))))

-- the address that the caller names is no hint
the_lowest_place_is_taken : tried world (λ p k. mmap_row p k 0x2000007000 8192 1 0x22) ≡ Gives (AsksSpace 1 ∷ Maps 1 (area 0x20 2 3 ∷ area 0x2000000 2 1 ∷ []) ∷ []) 0x2000000000
unfolding put_runs lowest_gap
the_lowest_place_is_taken = refl

a_gap_that_just_fits_is_taken : tried (applies (Maps 1 (area 0x2000000 1 1 ∷ area 0x2000003 1 1 ∷ []) ∷ []) world) (λ p k. mmap_row p k 0 8192 1 0x22) ≡ Gives (AsksSpace 1 ∷ Maps 1 (area 0x2000000 4 1 ∷ []) ∷ []) 0x2000001000
unfolding put_runs lowest_gap
a_gap_that_just_fits_is_taken = refl

a_fixed_mapping_unmaps_first : tried world (λ p k. mmap_row p k 0x20000 4096 1 0x32) ≡ Gives (AsksSpace 1 ∷ Unmaps 1 0x20 1 ∷ Maps 1 (area 0x20 1 1 ∷ area 0x21 1 3 ∷ []) ∷ []) 0x20000
unfolding put_runs cut_runs
a_fixed_mapping_unmaps_first = refl

a_fixed_address_is_a_page_from_4096 : (tried world (λ p k. mmap_row p k 0 4096 1 0x32) ≡ says EINVAL) × ((tried world (λ p k. mmap_row p k 0x20001 4096 1 0x32) ≡ says EINVAL) × (tried world (λ p k. mmap_row p k (2 ^ 38 - 4096) 4097 1 0x32) ≡ says ENOMEM))
a_fixed_address_is_a_page_from_4096 = (refl, (refl, refl))

-- 16384 pages of 4096 bytes are the length limit of one mapping, and two pages are there
sixteen_thousand_pages_and_no_more : (tried world (λ p k. mmap_row p k 0 (67108864 - 8192) 3 0x22) ≡ Gives (AsksSpace 1 ∷ Maps 1 (area 0x20 2 3 ∷ area 0x2000000 16382 3 ∷ []) ∷ []) 0x2000000000) × (tried world (λ p k. mmap_row p k 0 (67108864 - 8191) 3 0x22) ≡ Gives (AsksSpace 1 ∷ []) ENOMEM)
unfolding put_runs lowest_gap
sixteen_thousand_pages_and_no_more = (refl, refl)

-- ---- mprotect

permissions_are_checked_before_no_length : (tried world (λ p k. mprotect_row p k 0x20000 0 8) ≡ says EINVAL) × ((tried world (λ p k. mprotect_row p k 0x20001 0 1) ≡ says EINVAL) × (tried world (λ p k. mprotect_row p k 0x90000 0 1) ≡ says 0))
permissions_are_checked_before_no_length = (refl, (refl, refl))

mprotect_past_the_end_is_not_mapped : tried world (λ p k. mprotect_row p k (2 ^ 38 - 4096) 8192 1) ≡ says ENOMEM
mprotect_past_the_end_is_not_mapped = refl

mprotect_needs_each_page : tried world (λ p k. mprotect_row p k 0x21000 8192 1) ≡ Gives (AsksSpace 1 ∷ []) ENOMEM
unfolding put_runs covered
mprotect_needs_each_page = refl

mprotect_changes_its_range : tried world (λ p k. mprotect_row p k 0x21000 1 0) ≡ Gives (AsksSpace 1 ∷ Protects 1 0x21 1 (area 0x20 1 3 ∷ area 0x21 1 0 ∷ []) ∷ []) 0
unfolding put_runs covered
mprotect_changes_its_range = refl
