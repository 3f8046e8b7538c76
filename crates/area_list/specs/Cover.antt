-- Whether all pages of a range have permissions.
use Rattle.std.specs.Prelude.{◌≡◌, ◌==◌, ℕ, zero, suc, ◌+◌, ◌<◌, ◌≤◌, ◌⊎◌, ◌↔◌, Bool, true, false, ◌&&◌, List, Option, Some, None, bit_and}
use Rattle.lego_base.specs.declared.perms.Perms.{Perms}
use Rattle.lego_base.specs.declared.records.Area.{Area}
use Rattle.lego_base.specs.Space.{perms_of, allows}

-- whether permissions are there and have all of those needed
abbrev pub has_all : Option Perms → Perms → Bool
has_all None need = false
has_all (Some perms) need = bit_and perms.0 need.0 == need.0

-- whether each of `pages` pages, starting at `first`, is mapped and has all permissions needed
unfoldable pub covered : List Area → ℕ → ℕ → Perms → Bool
covered runs first zero need = true
covered runs first (suc pages) need = has_all (perms_of runs first) need && covered runs (first + 1) pages need

-- A range is covered exactly where each of its pages has the permissions.
abbrev pub CoversEachPage : Type 0
CoversEachPage =
    (runs : List Area) (first pages : ℕ) (need : Perms)
    → (covered runs first pages need ≡ true) ↔ ((page : ℕ) → first ≤ page → page < first + pages → has_all (perms_of runs page) need ≡ true)

-- To have all of one permission is to allow it.
abbrev pub HasOneIsAllows : Type 0
HasOneIsAllows = (perms : Option Perms) (need : Perms) → (need.0 ≡ 1) ⊎ ((need.0 ≡ 2) ⊎ (need.0 ≡ 4)) → has_all perms need ≡ allows perms need.0
