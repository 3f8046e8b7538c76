use Rattle.std.proofs.Common.{◌≡◌, ◌∙◌, Some, ap, rules, sym}
use Rattle.lego_msg.specs.declared.healing.Healing.{Healing}
use Rattle.protocol_engine.specs.Healings.{move_ended}
use Rattle.protocol_engine.proofs.Coming.{more_left}
use Rattle.protocol_engine.proofs.recovery.end_move.Goals as goal

pub returns-clause-ends : goal.returns-clause-ends
returns-clause-ends c =
    let heals : c.args.healing.now ≡ Some c.in-Some.recovery = search rules in
    ap (λ (h : Healing). Some h) c.end_move.ensures
    ∙ sym (more_left c.in-Some.recovery c.in-Some.recovery.moves (sym c.is_last.ensures ∙ c.if-is_last.false))
    ∙ sym (ap move_ended heals)
