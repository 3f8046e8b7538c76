use Rattle.std.proofs.Common.{◌≡◌, ◌+◌, ◌-◌, take, ◌∙◌, arith, rules}
use Rattle.std.specs.Int.{w64, to_le_bytes}
use Rattle.rv64_step.specs.Access.{bytes_in}
use Rattle.flat_memory.proofs.Stores.{written-part, bytes-4, bytes-8}
use Rattle.flat_memory.proofs.word.put.Goals as goal

pub returns-in-Word : goal.returns-in-Word
returns-in-Word c =
    let width : bytes_in c.args.width ≡ 4 = search rules in
    let piece : c.copy_from_slice-in-Word.new.self ≡ take 4 (to_le_bytes w64 c.args.value) = search rules in
    written-part c.args.bytes.now c.args.at (bytes_in c.args.width) 4 (c.args.at + 4 - c.args.at) c.args.value _ c.requires width (omega arith) (piece ∙ bytes-4 c.args.value)

pub returns-in-Double : goal.returns-in-Double
returns-in-Double c =
    let width : bytes_in c.args.width ≡ 8 = search rules in
    let piece : c.copy_from_slice-in-Double.new.self ≡ to_le_bytes w64 c.args.value = search rules in
    written-part c.args.bytes.now c.args.at (bytes_in c.args.width) 8 (c.args.at + 8 - c.args.at) c.args.value _ c.requires width (omega arith) (piece ∙ bytes-8 c.args.value)
