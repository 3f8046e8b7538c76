-- Worked rows of the definitions.
use Rattle.std.proofs.Common.{◌≡◌, ℕ, ◌-◌, ◌^◌, true, false, [], ◌∷◌, Some, None, refl}
use Rattle.lego_base.specs.declared.perms.Perms.{Perms}
use Rattle.lego_base.specs.declared.records.Area.{Area}
use Rattle.area_list.specs.Runs.{put_runs, cut_runs, page_count}
use Rattle.area_list.specs.Gap.{lowest_gap}
use Rattle.area_list.specs.Cover.{covered}

abbrev perms : ℕ → Perms
perms bits = record { 0 = bits }

abbrev run : ℕ → ℕ → ℕ → Area
run first pages bits = record { first = record { 0 = first }; pages = pages; perms = perms bits }

-- a run between two of its permissions makes one of three
joins_both : put_runs 20 4 (perms 3) (run 16 4 3 ∷ run 24 4 3 ∷ []) ≡ run 16 12 3 ∷ []
unfolding put_runs
joins_both = refl

-- with other permissions it stays a run of its own
touches_both : put_runs 20 4 (perms 1) (run 16 4 3 ∷ run 24 4 3 ∷ []) ≡ run 16 4 3 ∷ run 20 4 1 ∷ run 24 4 3 ∷ []
unfolding put_runs
touches_both = refl

-- within a run it splits the run
splits : put_runs 20 2 (perms 5) (run 16 12 3 ∷ []) ≡ run 16 4 3 ∷ run 20 2 5 ∷ run 22 6 3 ∷ []
unfolding put_runs
splits = refl

-- over whole runs and parts of runs it takes their pages
covers_many : put_runs 18 12 (perms 1) (run 16 4 3 ∷ run 22 2 5 ∷ run 26 6 1 ∷ []) ≡ run 16 2 3 ∷ run 18 14 1 ∷ []
unfolding put_runs
covers_many = refl

-- a range of no page changes nothing
sets_none : put_runs 20 0 (perms 1) (run 16 12 3 ∷ []) ≡ run 16 12 3 ∷ []
unfolding put_runs
sets_none = refl

clears_inner : cut_runs 20 2 (run 16 12 3 ∷ []) ≡ run 16 4 3 ∷ run 22 6 3 ∷ []
unfolding cut_runs
clears_inner = refl

clears_many : cut_runs 18 8 (run 16 4 3 ∷ run 22 2 5 ∷ run 25 6 1 ∷ []) ≡ run 16 2 3 ∷ run 26 5 1 ∷ []
unfolding cut_runs
clears_many = refl

clears_none : cut_runs 20 0 (run 16 12 3 ∷ []) ≡ run 16 12 3 ∷ []
unfolding cut_runs
clears_none = refl

-- the place before a run, between two, and after all
gap_before : lowest_gap (run 16 4 3 ∷ run 24 4 3 ∷ []) 10 6 ≡ Some 10
unfolding lowest_gap
gap_before = refl

gap_inside : lowest_gap (run 16 4 3 ∷ run 24 4 3 ∷ []) 11 4 ≡ Some 11
unfolding lowest_gap
gap_inside = refl

gap_between_two : lowest_gap (run 16 4 3 ∷ run 24 4 3 ∷ []) 13 4 ≡ Some 20
unfolding lowest_gap
gap_between_two = refl

gap_to_the_end : lowest_gap (run 16 4 3 ∷ run 24 4 3 ∷ []) 13 (2 ^ 26 - 28) ≡ Some 28
unfolding lowest_gap
gap_to_the_end = refl

no_gap : lowest_gap (run 16 4 3 ∷ run 24 4 3 ∷ []) 13 (2 ^ 26 - 27) ≡ None
unfolding lowest_gap
no_gap = refl

gap_of_no_page : lowest_gap (run 16 4 3 ∷ []) 17 0 ≡ Some 17
unfolding lowest_gap
gap_of_no_page = refl

-- over two runs with the permission, and one page too far
is_covered : covered (run 16 4 3 ∷ run 20 4 5 ∷ []) 18 6 (perms 1) ≡ true
unfolding covered
is_covered = refl

lacks_a_page : covered (run 16 4 3 ∷ run 20 4 5 ∷ []) 18 7 (perms 1) ≡ false
unfolding covered
lacks_a_page = refl

lacks_a_permission : covered (run 16 4 3 ∷ run 20 4 5 ∷ []) 18 3 (perms 3) ≡ false
unfolding covered
lacks_a_permission = refl

counts : page_count (run 16 4 3 ∷ run 20 4 5 ∷ []) ≡ 8
counts = refl
