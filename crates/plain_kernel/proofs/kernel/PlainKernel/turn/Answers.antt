use Rattle.std.proofs.Common.{◌≡◌, ℕ, sym, ◌∙◌, subst, IfSome}
use Rattle.rv64_step.specs.declared.cpu.StepEnd.{StepEnd}
use Rattle.linux_model.specs.Calls.{call_effects}
use Rattle.linux_model.specs.Processes.{process}
use Rattle.linux_model.specs.ProcessCalls.{dying}
use Rattle.linux_model.specs.Turns.{at_stop}
use Rattle.call_machine.proofs.Rows.{on_ok}
use Rattle.plain_kernel.specs.Turns.{Turned, acts_in, schedule_of}
use Rattle.plain_kernel.specs.Standing.{over}
use Rattle.plain_kernel.proofs.Turning.{may_call_then, on_all, turn_kept, turn_ran}
use Rattle.plain_kernel.proofs.kernel.PlainKernel.turn.Goals as goal

pub returns-then-is_some : goal.returns-then-is_some
returns-then-is_some c = λ k.
    on_ok (Turned c.args.self.now c.call.new.self (call_effects (process c.args.self.now.manager.procs c.args.pid.0) (over c.args.self.now k))) (IfSome (process c.args.self.now.manager.procs c.args.pid.0) (λ p. Turned c.args.self.now c.call.new.self (acts_in (schedule_of c.args.plan.now) p (over c.args.self.now k)))) c.call.result
    (turn_kept (schedule_of c.args.plan.now) c.args.pid.0 c.args.self.now c.call.new.self k c.waiting.result (sym c.is_some.ensures ∙ c.if-is_some.true) c.waiting.ensures) (c.call.ensures k)

pub returns-in-Call : goal.returns-in-Call
returns-in-Call c = λ k.
    let mid = c.instructions.new.self in
    on_all (λ k'. Turned mid c.call-in-Call.new.self (call_effects (process mid.manager.procs c.args.pid.0) (over mid k'))) (IfSome (process c.args.self.now.manager.procs c.args.pid.0) (λ p. Turned c.args.self.now c.call-in-Call.new.self (acts_in (schedule_of c.args.plan.now) p (over c.args.self.now k)))) c.call-in-Call.result
    (λ ends. turn_ran (schedule_of c.args.plan.now) c.args.pid.0 c.args.self.now mid c.call-in-Call.new.self k c.waiting.result c.in_ok-instructions.field-0 (sym c.is_some.ensures ∙ c.if-is_some.false) c.waiting.ensures c.in_ok-instructions.ensures
    (λ k'. subst (λ (s : StepEnd). Turned mid c.call-in-Call.new.self (at_stop s c.args.pid.0 (over mid k'))) (sym c.in-Call.is) (ends k'))) c.call-in-Call.ensures

pub returns-in-Dead : goal.returns-in-Dead
returns-in-Dead c = λ k.
    let mid = c.instructions.new.self in
    on_all (λ k'. Turned mid c.die.new.self (dying c.args.pid.0 c.from.result (over mid k'))) (IfSome (process c.args.self.now.manager.procs c.args.pid.0) (λ p. Turned c.args.self.now c.die.new.self (acts_in (schedule_of c.args.plan.now) p (over c.args.self.now k)))) c.die.result
    (λ ends. turn_ran (schedule_of c.args.plan.now) c.args.pid.0 c.args.self.now mid c.die.new.self k c.waiting.result c.in_ok-instructions.field-0 (sym c.is_some.ensures ∙ c.if-is_some.false) c.waiting.ensures c.in_ok-instructions.ensures
    (λ k'. subst (λ (s : StepEnd). Turned mid c.die.new.self (at_stop s c.args.pid.0 (over mid k'))) (sym c.in-Dead.is) (subst (λ (n : ℕ). Turned mid c.die.new.self (dying c.args.pid.0 n (over mid k'))) c.from.ensures (ends k')))) c.die.ensures

pub die-requires-clause-fit : goal.die-requires-clause-fit
die-requires-clause-fit c = (may_call_then (schedule_of c.args.plan.now) c.args.pid.0 c.args.self.now c.instructions.new.self c.waiting.result c.in_ok-instructions.field-0 (sym c.is_some.ensures ∙ c.if-is_some.false) c.waiting.ensures c.in_ok-instructions.ensures c.requires).fit
