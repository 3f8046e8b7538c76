use Rattle.std.proofs.Common.{◌∙◌, sym}
use Rattle.cluster.proofs.Cloned.{owner_passed, owner_pushed}
use Rattle.cluster.proofs.copies.owners_of.Goals as goal
use Rattle.cluster.proofs.copies.owners_of.Goals.{else-owns_some, then-owns_some+in_ok-push}

pub loop-number-preserved : goal.loop-number-preserved
loop-number-preserved c = elim c.if-owns_some.branch [
  | then-owns_some+in_ok-push w ↦ owner_pushed c.args.entries.now c.args.memories c.loop-number.number c.loop-number.owners c.if-owns_some.owners _ c.loop-number-test.true (sym c.owns_some.ensures ∙ w.if-owns_some.true) c.loop-number.invariant (w.owners-is ∙ w.in_ok-push.ensures.ok)
  | else-owns_some w ↦ owner_passed c.args.entries.now c.args.memories c.loop-number.number c.loop-number.owners c.if-owns_some.owners _ c.loop-number-test.true (sym c.owns_some.ensures ∙ w.if-owns_some.false) c.loop-number.invariant w.owners-is
]
