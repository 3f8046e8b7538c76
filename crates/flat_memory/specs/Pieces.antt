-- The bytes of a space: a list of bytes in pieces of 4096. A page that was written has one of its own, and the list says
-- where that begins. The first piece has zeros alone, and stands for every page that wasn't written.
use Rattle.std.specs.Prelude.{◌≡◌, ℕ, zero, suc, ◌+◌, ◌*◌, ◌/◌, ◌%◌, ◌<◌, ◌≤◌, ◌&&◌, if◌then◌else◌, List, [], ◌∷◌, length, slice_index, nat_eq, nat_le, nat_lt}
use Rattle.std.specs.HashMap.{HashMap, get}
use Rattle.std.specs.Map.{count_at}

-- where the bytes of a page begin: at 0 where it has none of its own
abbrev pub start_in : {S : Type 0} → HashMap ℕ ℕ S → ℕ → ℕ
start_in starts page = count_at (get nat_eq starts) page

-- where in the bytes an address is
abbrev pub place_in : (ℕ → ℕ) → ℕ → ℕ
place_in start address = start (address / 4096) + address % 4096

-- the byte at an address
unfoldable pub byte_in : (ℕ → ℕ) → List ℕ → ℕ → ℕ
byte_in start bytes address = slice_index bytes (place_in start address)

-- the bytes are in pieces
pub record IsPieces (start : ℕ → ℕ) (bytes : List ℕ) : Type 0 where
  pub whole : length bytes % 4096 ≡ 0
  pub starts : (page : ℕ) → start page % 4096 ≡ 0
  pub ends : (page : ℕ) → start page + 4096 ≤ length bytes
  -- two pages share a piece only where it is that of zeros
  pub apart : (page other : ℕ) → 0 < start page → start page ≡ start other → page ≡ other
  pub zeros : (k : ℕ) → k < 4096 → slice_index bytes k ≡ 0

-- the bytes with those of n pages, starting at one, at 0
abbrev pub cleared : ℕ → ℕ → (ℕ → ℕ) → ℕ → ℕ
cleared first pages byte address = if nat_le (first * 4096) address && nat_lt address ((first + pages) * 4096) then 0 else byte address

-- n bytes, starting at a place
abbrev pub window : List ℕ → ℕ → ℕ → List ℕ
window bytes at zero = []
window bytes at (suc n) = slice_index bytes at ∷ window bytes (at + 1) n

-- the list with these bytes at a place, and all others as they were
pub record Written (old : List ℕ) (at : ℕ) (piece new : List ℕ) : Type 0 where
  pub length_stays : length new ≡ length old
  pub inside : (k : ℕ) → k < length piece → slice_index new (at + k) ≡ slice_index piece k
  pub below : (j : ℕ) → j < at → slice_index new j ≡ slice_index old j
  pub above : (j : ℕ) → at + length piece ≤ j → slice_index new j ≡ slice_index old j
