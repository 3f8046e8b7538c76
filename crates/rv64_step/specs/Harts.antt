-- The registers of a hart as those of a processor.
use Rattle.std.specs.Prelude.{ℕ, slice_set}
use Rattle.rv64_step.specs.declared.cpu.Cpu.{Cpu}
use Rattle.rv64_step.specs.declared.hart.Hart.{Hart}
use Rattle.rv64_step.specs.declared.hart.Extension.{Extension}
use Rattle.rv64_step.specs.declared.hart.Extension.TheVariants.{Zero, Sign}
use Rattle.rv64_step.specs.declared.width.Width.{Width}
use Rattle.rv64_step.specs.declared.width.Width.TheVariants.{Byte, Half, Word, Double}
use Rattle.rv64_step.specs.Word.{sext}

abbrev pub cpu_of : Hart → Cpu
cpu_of hart = record { pc = hart.pc; x = slice_set hart.x 0 hart.zeroth }

-- the value for a register by the number that a load gave
abbrev pub extended : Extension → Width → ℕ → ℕ
extended Zero width value = value
extended Sign Byte value = sext 8 value
extended Sign Half value = sext 16 value
extended Sign Word value = sext 32 value
extended Sign Double value = value
