-- Runs of pages with equal permissions, and what they become when a range of pages is set or cleared. What runs say of
-- a page is `perms_of` of lego_base's Space.
use Rattle.std.specs.Prelude.{◌≡◌, ◌==◌, ℕ, ◌+◌, ◌-◌, ◌<◌, ◌≤◌, nat_le, nat_lt, min, max, Bool, false, ◌&&◌, if◌then◌else◌, List, [], ◌∷◌, ◌++◌, Some, None, sum_by}
use Rattle.lego_base.specs.declared.perms.Perms.{Perms}
use Rattle.lego_base.specs.declared.records.Area.{Area}
use Rattle.lego_base.specs.Space.{perms_of}
use Rattle.lego_base.specs.declared.sizes.TheConstants.{PAGES_END}

-- the page after the last page of a run
abbrev pub end_of : Area → ℕ
end_of area = area.first.0 + area.pages

-- whether a run continues another, with the same permissions
abbrev pub goes_on : Area → Area → Bool
goes_on area next = end_of area == next.first.0 && area.perms.0 == next.perms.0

-- a run comes before the first of these runs and isn't one run with it
abbrev pub IsBefore : Area → List Area → Type 0
IsBefore area [] = Unit {0}
IsBefore area (next ∷ runs) = (end_of area ≤ next.first.0) × (goes_on area next ≡ false)

-- The maximal runs of mapped pages, in rising order: each has a page, none passes the end of the address space,
-- and runs that touch have other permissions.
abbrev pub IsCanonical : List Area → Type 0
IsCanonical [] = Unit {0}
IsCanonical (area ∷ runs) = (0 < area.pages) × (end_of area ≤ PAGES_END) × IsBefore area runs × IsCanonical runs

-- the number of pages that runs have
abbrev pub page_count : List Area → ℕ
page_count runs = sum_by (λ run. run.pages) runs

-- ---- what setting and clearing a range must do

-- what is in a range is one thing, and what isn't is another
abbrev pub in_range : {A : Type 0} → ℕ → ℕ → ℕ → A → A → A
in_range first pages page inside outside = if nat_le first page && nat_lt page (first + pages) then inside else outside

-- `pages` pages, starting at `first`, are mapped with these permissions, and each other page is as it was.
abbrev pub IsPut : ℕ → ℕ → Perms → List Area → List Area → Type 0
IsPut first pages perms old new = IsCanonical new × ((page : ℕ) → perms_of new page ≡ in_range first pages page (Some perms) (perms_of old page))

-- `pages` pages, starting at `first`, aren't mapped, and each other page is as it was.
abbrev pub IsCut : ℕ → ℕ → List Area → List Area → Type 0
IsCut first pages old new = IsCanonical new × ((page : ℕ) → perms_of new page ≡ in_range first pages page None (perms_of old page))

-- ---- the runs that do

-- the run from a page to before another, where it has a page
abbrev pub between : ℕ → ℕ → Perms → List Area
between first last perms = if nat_lt first last then record { first = record { 0 = first }; pages = last - first; perms = perms } ∷ [] else []

-- the parts of runs below a page
abbrev pub below : ℕ → List Area → List Area
below page [] = []
below page (area ∷ runs) = between area.first.0 (min (end_of area) page) area.perms ++ below page runs

-- the parts of runs at or above a page
abbrev pub above : ℕ → List Area → List Area
above page [] = []
above page (area ∷ runs) = between (max area.first.0 page) (end_of area) area.perms ++ above page runs

-- runs and one more after them, which becomes a part of the last where it continues that
abbrev pub extended : List Area → Area → List Area
extended [] next = next ∷ []
extended (area ∷ []) next = if goes_on area next then record area { pages = area.pages + next.pages } ∷ [] else area ∷ next ∷ []
extended (area ∷ area' ∷ runs) next = area ∷ extended (area' ∷ runs) next

-- runs and more runs after them
abbrev pub joined : List Area → List Area → List Area
joined runs [] = runs
joined runs (next ∷ more) = joined (extended runs next) more

-- the runs once `pages` pages, starting at `first`, are mapped with these permissions
unfoldable pub put_runs : ℕ → ℕ → Perms → List Area → List Area
put_runs first pages perms runs = joined [] (below first runs ++ between first (first + pages) perms ++ above (first + pages) runs)

-- the runs once `pages` pages, starting at `first`, aren't mapped
unfoldable pub cut_runs : ℕ → ℕ → List Area → List Area
cut_runs first pages runs = joined [] (below first runs ++ above (first + pages) runs)

-- ---- laws

-- Setting a range in canonical runs sets it, and clearing clears it.
abbrev pub PutSets : Type 0
PutSets =
    (first pages : ℕ) (perms : Perms) (runs : List Area)
    → first + pages ≤ PAGES_END → IsCanonical runs → IsPut first pages perms runs (put_runs first pages perms runs)

abbrev pub CutClears : Type 0
CutClears =
    (first pages : ℕ) (runs : List Area)
    → first + pages ≤ PAGES_END → IsCanonical runs → IsCut first pages runs (cut_runs first pages runs)

-- Canonical runs are determined by what they say of each page.
abbrev pub CanonicalIsUnique : Type 0
CanonicalIsUnique = (runs runs' : List Area) → IsCanonical runs → IsCanonical runs' → ((page : ℕ) → perms_of runs page ≡ perms_of runs' page) → runs ≡ runs'
