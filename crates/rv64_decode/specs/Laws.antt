-- What a reader may ask of the instruction table.
use Rattle.std.specs.Prelude.{ℕ, ℤ, ◌≡◌, ◌<◌, ◌^◌, ◌↔◌, All, AllPairs, Some, None, true, false, bit_and, pos, ◌≤ℤ◌, ◌-ℤ◌, ◌*ℤ◌}
use Rattle.rv64_decode.specs.declared.Instr.{Instr}
use Rattle.rv64_decode.specs.declared.encoding.Format.{Format}
use Rattle.rv64_decode.specs.declared.encoding.Format.TheVariants.{RType, IType, SType, BType, UType, JType, Shift, ShiftWord}
use Rattle.rv64_decode.specs.Encoding.{immediate}
use Rattle.rv64_decode.specs.Table.{fits, table, decoded, with_registers, mask_of, match_of}

-- no word belongs to two rows
abbrev pub NoTwoShare : Type 0
NoTwoShare = (word : ℕ) → AllPairs (λ r s. fits word r ≡ true → fits word s ≡ true → ⊥) table

-- each row decodes all of its words, wherever it stands in the table
abbrev pub RowsDecode : Type 0
RowsDecode = (word : ℕ) → All (λ r. fits word r ≡ true → decoded word ≡ Some (with_registers word r.op (immediate r.format word))) table

-- a word of no row is no instruction
abbrev pub OthersAreNone : Type 0
OthersAreNone = (word : ℕ) → All (λ r. fits word r ≡ false) table → decoded word ≡ None

-- a word belongs to a row exactly where it has the row's match under the row's mask
abbrev pub FitsByMask : Type 0
FitsByMask = (word : ℕ) → All (λ r. (fits word r ≡ true) ↔ (bit_and word (mask_of r) ≡ match_of r)) table

-- each row's match lies under its mask
abbrev pub MatchesLieUnderMasks : Type 0
MatchesLieUnderMasks = All (λ r. bit_and (match_of r) (mask_of r) ≡ match_of r) table

-- from `low` to `high`, and a multiple of `step`
pub record IsWithin (low high step imm : ℤ) : Type 0 where
  pub least : low ≤ℤ imm
  pub most : imm ≤ℤ high
  pub multiple : (k : ℤ) × (imm ≡ step *ℤ k)

-- the immediates that a format can hold
abbrev pub IsImmediate : Format → ℤ → Type 0
IsImmediate RType imm = imm ≡ pos 0
IsImmediate IType imm = IsWithin (pos 0 -ℤ pos (2 ^ 11)) (pos (2 ^ 11) -ℤ pos 1) (pos 1) imm
IsImmediate SType imm = IsWithin (pos 0 -ℤ pos (2 ^ 11)) (pos (2 ^ 11) -ℤ pos 1) (pos 1) imm
IsImmediate BType imm = IsWithin (pos 0 -ℤ pos (2 ^ 12)) (pos (2 ^ 12) -ℤ pos 2) (pos 2) imm
IsImmediate UType imm = IsWithin (pos 0 -ℤ pos (2 ^ 31)) (pos (2 ^ 31) -ℤ pos (2 ^ 12)) (pos (2 ^ 12)) imm
IsImmediate JType imm = IsWithin (pos 0 -ℤ pos (2 ^ 20)) (pos (2 ^ 20) -ℤ pos 2) (pos 2) imm
IsImmediate Shift imm = IsWithin (pos 0) (pos 63) (pos 1) imm
IsImmediate ShiftWord imm = IsWithin (pos 0) (pos 31) (pos 1) imm

abbrev pub ImmediatesInRange : Type 0
ImmediatesInRange = (format : Format) (word : ℕ) → IsImmediate format (immediate format word)

-- the register fields are numbers of registers
pub record HasRegisters (instr : Instr) : Type 0 where
  pub rd : instr.rd < 32
  pub rs1 : instr.rs1 < 32
  pub rs2 : instr.rs2 < 32
