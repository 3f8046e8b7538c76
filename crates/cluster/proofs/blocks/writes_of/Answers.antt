use Rattle.std.proofs.Common.{rules, ◌≡◌, ◌∙◌, ℕ, List, ap, ◌-◌, ◌/◌, ◌%◌, ◌<◌, ◌++◌, [], ◌∷◌, drop, length, min, take, arith}
use Rattle.std.proofs.lemmas.List.{length-drop}
use Rattle.lego_msg.specs.declared.operation.Operation.TheVariants.{WritesFile}
use Rattle.cluster.specs.Blocks.{writes_of}
use Rattle.cluster.proofs.Blockwise.{writes_on}
use Rattle.cluster.proofs.blocks.writes_of.Goals as goal

pub loop-rest-preserved : goal.loop-rest-preserved
loop-rest-preserved c =
    let now = c.loop-rest in
    let some : 0 < length now.rest.now = search rules in
    let count : c.min-count.result ≡ min (length now.rest.now) (4096 - now.at % 4096) = search rules in
    let first : c.split_at.result.0.now ≡ take c.min-count.result now.rest.now = search rules in
    let later : c.split_at.result.1.now ≡ drop c.min-count.result now.rest.now = search rules in
    let items : c.push.new.self.items ≡ now.writes.items ++ WritesFile c.args.file (now.at / 4096) (now.at % 4096) c.split_at.result.0.now ∷ [] = search rules in
    let size : length c.split_at.result.1.now ≡ length now.rest.now - c.min-count.result = ap (λ (l : List ℕ). length l) later ∙ length-drop c.min-count.result now.rest.now in
    let sum = now.invariant.0 in
    (omega (arith, count, sum, size), writes_on c.args.file now.at now.rest.now c.min-count.result c.split_at.result.0.now c.split_at.result.1.now now.writes.items c.push.new.self.items (writes_of c.args.file c.args.off c.args.bytes.now) some count first later items now.invariant.1)
