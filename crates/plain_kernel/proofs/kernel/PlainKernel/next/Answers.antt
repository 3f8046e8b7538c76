use Rattle.std.proofs.Common.{◌≡◌, ℕ, Bool, true, false, ◌==◌, refl, sym, ◌∙◌, ap, List, [], length, map}
use Rattle.std.specs.Prelude.{slice_index, ◌%◌}
use Rattle.linux_model.specs.Held.{with_held}
use Rattle.linux_model.specs.State.{Kernel, unbooted}
use Rattle.linux_model.specs.Turns.{ready}
use Rattle.plain_machine.specs.Plain.{held_of}
use Rattle.plain_kernel.specs.Standing.{kernel_in}
use Rattle.plain_kernel.specs.Turns.{schedule_of}
use Rattle.plain_kernel.proofs.Choosing.{is_done, is_stuck, is_spent, goes_on, none_mapped, same_length, whose_is}
use Rattle.plain_kernel.proofs.kernel.PlainKernel.next.Goals as goal

pub returns-then-live-eq0 : goal.returns-then-live-eq0
returns-then-live-eq0 c = λ w. is_done (schedule_of c.args.plan.now) c.args.turns (kernel_in c.args.self.now w) (sym c.live.ensures ∙ c.if-live-eq0.true)

pub returns-then-is_empty : goal.returns-then-is_empty
returns-then-is_empty c = λ w.
    is_stuck (schedule_of c.args.plan.now) c.args.turns (kernel_in c.args.self.now w) (λ none. c.if-live-eq0.false (c.live.ensures ∙ none))
    (none_mapped c.in_ok-ready.ready.items _ c.in_ok-ready.ready.len true (c.in_ok-ready.ensures (with_held (held_of c.args.self.now.machine) (record (unbooted []) { written = w }))) (sym c.in_ok-ready.ready.ok.0) (sym c.if-is_empty.ensures))

pub returns-then-turns-plan : goal.returns-then-turns-plan
returns-then-turns-plan c = λ w.
    is_spent (schedule_of c.args.plan.now) c.args.turns (kernel_in c.args.self.now w) (λ none. c.if-live-eq0.false (c.live.ensures ∙ none))
    (none_mapped c.in_ok-ready.ready.items _ c.in_ok-ready.ready.len false (c.in_ok-ready.ensures (with_held (held_of c.args.self.now.machine) (record (unbooted []) { written = w }))) (sym c.in_ok-ready.ready.ok.0) (sym c.if-is_empty.ensures))
    c.if-turns-plan.true

pub returns : goal.returns
returns c = λ w.
    let k : Kernel = kernel_in c.args.self.now w in
    let is : map (λ pid. pid.0) c.in_ok-ready.ready.items ≡ ready k = c.in_ok-ready.ensures (with_held (held_of c.args.self.now.machine) (record (unbooted []) { written = w })) in (
      goes_on (schedule_of c.args.plan.now) c.args.turns k (λ none. c.if-live-eq0.false (c.live.ensures ∙ none)) (none_mapped c.in_ok-ready.ready.items (ready k) c.in_ok-ready.ready.len false is (sym c.in_ok-ready.ready.ok.0) (sym c.if-is_empty.ensures)) c.if-turns-plan.false,
      whose_is (schedule_of c.args.plan.now) c.args.turns k c.chosen.result.0 (map (λ pid. pid.0) c.in_ok-ready.ready.items) is (none_mapped c.in_ok-ready.ready.items _ c.in_ok-ready.ready.len false refl (sym c.in_ok-ready.ready.ok.0) (sym c.if-is_empty.ensures))
          (c.chosen.ensures ∙ (λ i. slice_index (map (λ pid. pid.0) (c.as_slice-2.ensures.value i)) (slice_index (c.as_slice.ensures i) (c.args.turns % length (c.as_slice.ensures i)) % length (c.as_slice-2.ensures.value i))) ∙ ap (λ (n : ℕ). slice_index (map (λ pid. pid.0) c.in_ok-ready.ready.items) (slice_index c.args.plan.now.turns (c.args.turns % length c.args.plan.now.turns) % n)) (sym (same_length c.in_ok-ready.ready.items))),
    )
