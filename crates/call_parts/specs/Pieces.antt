-- Pieces of a buffer that fit into user space.
use Rattle.std.specs.Prelude.{ℕ, ◌+◌, ◌<◌, ◌≤◌, ◌^◌, min, List, [], ◌∷◌}
use Rattle.lego_base.specs.declared.sizes.TheConstants.{USER_END}
use Rattle.kernel_objects.specs.declared.piece.Piece.{Piece}

abbrev pub Each : (Piece → Type 0) → List Piece → Type 0
Each P [] = Unit {0}
Each P (x ∷ pieces) = P x × Each P pieces

-- a piece that has bytes ends in user space
abbrev pub Within : Piece → Type 0
Within x = 0 < x.size → x.at + x.size ≤ USER_END

-- its addresses after skipped bytes are words
abbrev pub PastFits : ℕ → Piece → Type 0
PastFits skip x = 0 < min skip x.size → x.at + min skip x.size < 2 ^ 64
