-- Bytes are cut at lines where they are accessed, and at blocks where they are in a file.
use Rattle.std.specs.Prelude.{ℕ, zero, suc, ◌+◌, ◌-◌, ◌/◌, ◌%◌, List, [], ◌∷◌, length, min, take, drop}

-- how many units the bytes meet that begin at an offset: none where there is no byte
abbrev pub units_met : ℕ → ℕ → ℕ → ℕ
units_met unit at zero = 0
units_met unit at (suc n) = (at + n) / unit - at / unit + 1

-- what is left of a unit starting at an offset
abbrev pub room_in : ℕ → ℕ → ℕ
room_in unit at = unit - at % unit

-- a place and a size
pub record Span : Type 0 where
  pub at : ℕ
  pub size : ℕ

-- n bytes starting at an offset, cut into that many pieces, one a unit
abbrev pub spans_in : ℕ → ℕ → ℕ → ℕ → List Span
spans_in unit zero at n = []
spans_in unit (suc units) at n = record { at = at; size = min n (room_in unit at) } ∷ spans_in unit units (at + room_in unit at) (n - room_in unit at)

abbrev pub spans : ℕ → ℕ → ℕ → List Span
spans unit at n = spans_in unit (units_met unit at n) at n

-- bytes at a place
pub record Chunk : Type 0 where
  pub at : ℕ
  pub bytes : List ℕ

abbrev pub chunks_in : ℕ → ℕ → ℕ → List ℕ → List Chunk
chunks_in unit zero at bytes = []
chunks_in unit (suc units) at bytes = record { at = at; bytes = take (room_in unit at) bytes } ∷ chunks_in unit units (at + room_in unit at) (drop (room_in unit at) bytes)

abbrev pub chunks : ℕ → ℕ → List ℕ → List Chunk
chunks unit at bytes = chunks_in unit (units_met unit at (length bytes)) at bytes

-- bytes of a line, of a page, of a region, of a block; lines and pages of a region
abbrev pub LINE : ℕ
LINE = 64

abbrev pub PAGE : ℕ
PAGE = 4096

abbrev pub REGION : ℕ
REGION = 2097152

abbrev pub BLOCK : ℕ
BLOCK = 4096

abbrev pub REGION_LINES : ℕ
REGION_LINES = 32768

abbrev pub REGION_PAGES : ℕ
REGION_PAGES = 512
