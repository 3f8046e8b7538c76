use Rattle.std.proofs.Common.{true, false, sym, ◌∙◌}
use Rattle.elf_image.proofs.Sharing.{shares_here, shares_nowhere}
use Rattle.elf_image.proofs.checks.some_share.Goals as goal

pub returns-then-shares_with : goal.returns-then-shares_with
returns-then-shares_with c =
    sym (shares_here c.args.loads.now c.loop-i.i true c.loop-i-test.true (sym c.if-shares_with.true ∙ c.shares_with.ensures)) ∙ c.loop-i.invariant

pub loop-i-preserved : goal.loop-i-preserved
loop-i-preserved c =
    sym (shares_here c.args.loads.now c.loop-i.i false c.loop-i-test.true (sym c.if-shares_with.false ∙ c.shares_with.ensures)) ∙ c.loop-i.invariant

pub returns : goal.returns
returns c = sym (shares_nowhere c.args.loads.now c.loop-i.i c.loop-i-test.false) ∙ c.loop-i.invariant
