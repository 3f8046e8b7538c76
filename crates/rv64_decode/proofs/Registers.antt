-- The numbers of registers in a decoded instruction.
use Rattle.std.proofs.Common.{ℕ, ◌≡◌, Option, Some, None, arith, subst}
use Rattle.std.specs.Prelude.{IfSome}
use Rattle.std.specs.Option.{option_map}
use Rattle.rv64_decode.specs.declared.Instr.{Instr}
use Rattle.rv64_decode.specs.Encoding.{immediate}
use Rattle.rv64_decode.specs.Table.{Row, row_of, decoded, with_registers}
use Rattle.rv64_decode.specs.Laws.{HasRegisters}

with_registers-has : (w : ℕ) (row : Option Row) → IfSome (option_map (λ r. with_registers w r.op (immediate r.format w)) row) HasRegisters
with_registers-has w None = tt
with_registers-has w (Some r) = record { rd = omega arith; rs1 = omega arith; rs2 = omega arith }

-- the registers of every instruction are among the 32
pub registers_of : (w : ℕ) (instr : Instr) → decoded w ≡ Some instr → HasRegisters instr
unfolding decoded
registers_of w instr e = let P : Option Instr → Type 0 = λ o. IfSome o HasRegisters in subst P e (with_registers-has w (row_of w))
