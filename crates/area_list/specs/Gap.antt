-- The lowest place for a mapping.
use Rattle.std.specs.Prelude.{◌≡◌, ◌==◌, ℕ, ◌+◌, ◌<◌, ◌≤◌, nat_le, max, if◌then◌else◌, List, [], ◌∷◌, Option, Some, None, MatchOption}
use Rattle.lego_base.specs.declared.records.Area.{Area}
use Rattle.lego_base.specs.Space.{perms_of}
use Rattle.lego_base.specs.declared.sizes.TheConstants.{PAGES_END}
use Rattle.area_list.specs.Runs.{end_of, IsCanonical}

-- a page, where `pages` pages that start there end within the address space
abbrev pub if_it_ends : ℕ → ℕ → Option ℕ
if_it_ends first pages = if nat_le (first + pages) PAGES_END then Some first else None

-- the lowest page, `first` or above, with `pages` pages (at least one) before the next run
abbrev pub gap_between : List Area → ℕ → ℕ → Option ℕ
gap_between [] first pages = if_it_ends first pages
gap_between (area ∷ runs) first pages = if nat_le (first + pages) area.first.0 then Some first else gap_between runs (max first (end_of area)) pages

-- the lowest page, `first` or above, at which `pages` unmapped pages start that end within the address space
unfoldable pub lowest_gap : List Area → ℕ → ℕ → Option ℕ
lowest_gap runs first pages = if pages == 0 then if_it_ends first pages else gap_between runs first pages

-- `pages` pages, starting at `at`, are unmapped and end within the address space
pub record IsGap (runs : List Area) (at pages : ℕ) : Type 0 where
  pub ends : at + pages ≤ PAGES_END
  pub free : (page : ℕ) → at ≤ page → page < at + pages → perms_of runs page ≡ None

-- a gap at `first` or above, with none between them
pub record IsLowestGap (runs : List Area) (first pages at : ℕ) : Type 0 where
  pub from_first : first ≤ at
  pub gap : IsGap runs at pages
  pub lowest : (page : ℕ) → first ≤ page → page < at → IsGap runs page pages → ⊥

-- The lowest gap is one and no gap lies below it; where there is none, there is no gap.
abbrev pub GapIsLowest : Type 0
GapIsLowest =
    (runs : List Area) (first pages : ℕ) → IsCanonical runs
    → MatchOption (lowest_gap runs first pages) ((page : ℕ) → first ≤ page → IsGap runs page pages → ⊥) (IsLowestGap runs first pages)
