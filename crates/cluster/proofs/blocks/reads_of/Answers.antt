use Rattle.std.proofs.Common.{rules, ◌≡◌, ◌-◌, ◌/◌, ◌%◌, ◌<◌, ◌++◌, [], ◌∷◌, min, arith}
use Rattle.lego_msg.specs.declared.operation.Operation.TheVariants.{ReadsFile}
use Rattle.cluster.specs.Blocks.{reads_of}
use Rattle.cluster.proofs.Blockwise.{reads_on}
use Rattle.cluster.proofs.blocks.reads_of.Goals as goal

pub loop-left-preserved : goal.loop-left-preserved
loop-left-preserved c =
    let now = c.loop-left in
    let some : 0 < now.left = search rules in
    let count : c.min-count.result ≡ min now.left (4096 - now.at % 4096) = search rules in
    let items : c.push.new.self.items ≡ now.reads.items ++ ReadsFile c.args.file (now.at / 4096) (now.at % 4096) c.min-count.result ∷ [] = search rules in
    let sum = now.invariant.0 in
    (omega (arith, count, sum), reads_on c.args.file now.at now.left c.min-count.result now.reads.items c.push.new.self.items (reads_of c.args.file c.args.off c.args.len) some count items now.invariant.1)
