-- Where a mapping goes whose caller names no address.
use Rattle.std.specs.Prelude.{◌≡◌, ℕ, ◌+◌, ◌*◌, ◌/◌, ◌%◌, ◌<◌, ◌≤◌, List, Option, None, MatchOption}
use Rattle.std.specs.Option.{option_map}
use Rattle.lego_base.specs.declared.records.Area.{Area}
use Rattle.lego_base.specs.declared.sizes.TheConstants.{USER_END}
use Rattle.lego_base.specs.Space.{perms_of}
use Rattle.area_list.specs.Runs.{IsCanonical}
use Rattle.area_list.specs.Gap.{lowest_gap}
use Rattle.space_rules.specs.declared.TheConstants.{MAPPINGS_START}

-- the number of pages that `len` bytes need
abbrev pub pages_for : ℕ → ℕ
pages_for len = (len + 4095) / 4096

-- the lowest page address, the start of mappings or above, at which unmapped pages for `len` bytes start that end within
-- the address space
abbrev pub place_of : List Area → ℕ → Option ℕ
place_of areas len = option_map (λ page. page * 4096) (lowest_gap areas (MAPPINGS_START / 4096) (pages_for len))

-- `len` bytes, starting at a page address among those for mappings, are all unmapped
pub record IsPlace (areas : List Area) (len at : ℕ) : Type 0 where
  pub aligned : at % 4096 ≡ 0
  pub start : MAPPINGS_START ≤ at
  pub ends : at + len ≤ USER_END
  pub free : (address : ℕ) → at ≤ address → address < at + len → perms_of areas (address / 4096) ≡ None

-- a place below which there is none
pub record IsLowestPlace (areas : List Area) (len at : ℕ) : Type 0 where
  pub place : IsPlace areas len at
  pub lowest : (other : ℕ) → IsPlace areas len other → at ≤ other

-- The place is the lowest one; where there is none, no address is one.
abbrev pub PlaceIsLowest : Type 0
PlaceIsLowest =
    (areas : List Area) (len : ℕ) → IsCanonical areas
    → MatchOption (place_of areas len) ((at : ℕ) → IsPlace areas len at → ⊥) (IsLowestPlace areas len)
