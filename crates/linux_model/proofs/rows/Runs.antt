-- Worked runs, by computation.
use Rattle.std.specs.Prelude.{◌≡◌, ℕ, false, List, [], ◌∷◌, ◌++◌, Some, None, replicate, refl, length}
use Rattle.lego_base.specs.declared.report.EndWord.TheVariants.{Done, Stuck, Spent}
use Rattle.rv64_decode.specs.Table.{decoded, row_of, table}
use Rattle.kernel_objects.specs.declared.descriptor.Object.TheVariants.{PipeRead, PipeWrite}
use Rattle.linux_model.specs.State.{Kernel, unbooted}
use Rattle.linux_model.specs.Effects.{Effect, Maps, Fills, Starts, MakesPipe, Opens, applies}
use Rattle.linux_model.specs.Processes.{exit}
use Rattle.linux_model.specs.Boot.{standard_streams}
use Rattle.linux_model.specs.Turns.{Schedule, flat, flat_effects, ended}
use Rattle.linux_model.proofs.rows.World.{area, brk_there}

abbrev schedule : Schedule
schedule = record { turns = 0 ∷ []; quantum = 1000; max_turns = 3 }

-- code at an address, with the registers 0
abbrev runs : List ℕ → List Effect → Kernel
runs code more = applies (Maps 1 (area 0x10 1 7 ∷ []) ∷ Fills 1 0x10000 code ∷ Starts 1 (record { pc = 0x10000; x = replicate 32 0 }) brk_there ∷ standard_streams ++ more) (unbooted [])

-- write(1, "hi", 2), then exit(0): 36 bytes of code with the text after it
abbrev hi : List ℕ
hi = 0x13 ∷ 0x05 ∷ 0x10 ∷ 0x00 ∷ 0x97 ∷ 0x05 ∷ 0x00 ∷ 0x00 ∷ 0x93 ∷ 0x85 ∷ 0x05 ∷ 0x02 ∷ 0x13 ∷ 0x06 ∷ 0x20 ∷ 0x00 ∷ 0x93 ∷ 0x08 ∷ 0x00 ∷ 0x04 ∷ 0x73 ∷ 0x00 ∷ 0x00 ∷ 0x00 ∷ 0x13 ∷ 0x05 ∷ 0x00 ∷ 0x00 ∷ 0x93 ∷ 0x08 ∷ 0xd0 ∷ 0x05 ∷ 0x73 ∷ 0x00 ∷ 0x00 ∷ 0x00 ∷ 0x68 ∷ 0x69 ∷ []

two_turns_write : (flat schedule (runs hi []) 2).written.out ≡ 104 ∷ 105 ∷ []
unfolding decoded row_of table flat
two_turns_write = refl

two_turns_end : ended schedule 2 (flat schedule (runs hi []) 2) ≡ Some Done
unfolding decoded row_of table flat
two_turns_end = refl

one_turn_goes_on : ended schedule 1 (flat schedule (runs hi []) 1) ≡ None
unfolding decoded row_of table flat
one_turn_goes_on = refl

-- a fetch and the registers for each of nine instructions, and two turns' beginnings; the check, the copy, the output
-- and the answer; three closed descriptors, the death, and the space that goes
effects_in_all : length (flat_effects schedule (runs hi []) 2) ≡ 29
unfolding decoded row_of table flat flat_effects
effects_in_all = refl

-- read(3, 0, 1) of an empty pipe of which the process itself has the writing end
abbrev reads_its_own : List ℕ
reads_its_own = 0x13 ∷ 0x05 ∷ 0x30 ∷ 0x00 ∷ 0x13 ∷ 0x06 ∷ 0x10 ∷ 0x00 ∷ 0x93 ∷ 0x08 ∷ 0xf0 ∷ 0x03 ∷ 0x73 ∷ 0x00 ∷ 0x00 ∷ 0x00 ∷ []

nobody_can_go_on : ended schedule 1 (flat schedule (runs reads_its_own (MakesPipe ∷ Opens 1 3 (PipeRead 0) 0 false ∷ Opens 1 4 (PipeWrite 0) 1 false ∷ [])) 1) ≡ Some Stuck
unfolding decoded row_of table flat
nobody_can_go_on = refl

-- fork(), by clone(17, 0): the child's answer is 0, the parent's is 2; then each goes on to ecall, which is number 220 again
abbrev forks : List ℕ
forks = 0x13 ∷ 0x05 ∷ 0x10 ∷ 0x01 ∷ 0x93 ∷ 0x05 ∷ 0x00 ∷ 0x00 ∷ 0x93 ∷ 0x08 ∷ 0xc0 ∷ 0x0d ∷ 0x73 ∷ 0x00 ∷ 0x00 ∷ 0x00 ∷ 0x93 ∷ 0x08 ∷ 0xd0 ∷ 0x05 ∷ 0x73 ∷ 0x00 ∷ 0x00 ∷ 0x00 ∷ []

-- the parent, whose turn it is each time, exits with its answer, and then the child, an orphan by then, with its own
parent_and_child_answer : (flat schedule (runs forks []) 3).exits ≡ exit 1 512 ∷ exit 2 0 ∷ []
unfolding decoded row_of table flat
parent_and_child_answer = refl

-- the turns given by a description may be too few
turns_may_be_spent : ended (record schedule { max_turns = 1 }) 1 (flat schedule (runs hi []) 1) ≡ Some Spent
unfolding decoded row_of table flat
turns_may_be_spent = refl
