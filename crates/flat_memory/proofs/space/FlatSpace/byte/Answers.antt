use Rattle.std.proofs.Common.{◌+◌, ◌/◌, ◌%◌, ◌<◌, length, get_or, ap, ◌∙◌, arith}
use Rattle.std.proofs.lemmas.List.{get_or_read}
use Rattle.flat_memory.specs.Pieces.{byte_in}
use Rattle.flat_memory.proofs.space.FlatSpace.byte.Goals as goal

pub returns : goal.returns
unfolding byte_in
returns c =
    let s = c.args.self.now in
    let within : c.start_of.result + c.args.addr % 4096 < length s.bytes.items = omega (arith, s.pieces.ends (c.args.addr / 4096), c.start_of.ensures) in
    get_or_read s.bytes.items (c.start_of.result + c.args.addr % 4096) _ within c.index.ensures 0
    ∙ ap (λ n. get_or s.bytes.items (n + c.args.addr % 4096) 0) c.start_of.ensures
