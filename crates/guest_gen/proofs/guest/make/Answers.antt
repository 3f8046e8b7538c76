use Rattle.std.proofs.Common.{◌∙◌, ◌<◌, ap, arith}
use Rattle.guest_gen.specs.Jobs.{program}
use Rattle.guest_gen.specs.Assembly.{bytes_of_steps}
use Rattle.guest_gen.specs.Image.{image_of}
use Rattle.guest_gen.proofs.Made.{from_pattern, from_seed}
use Rattle.guest_gen.proofs.guest.make.Goals as goal

pub overflow_add-count : goal.overflow_add-count
overflow_add-count c =
    let few : c.below-count.result < 64 = c.below-count.ensures.below in
    omega arith

pub returns : goal.returns
returns c =
    from_seed c.args.prefix.now c.in_ok-pattern.pattern.items c.args.seed c.bytes.new.self.state _ c.in_ok-pattern.ensures.values c.in_ok-pattern.ensures.state
    (from_pattern c.args.prefix.now c.in_ok-pattern.pattern.items c.bytes.new.self.state c.below-count.new.self.state c.draw_jobs.new.draws.state c.below-count.result
    c.in_ok-jobs.jobs.items c.in_ok-steps.steps.items c.in_ok-code.code.items c.in_ok-file.file.items c.in_ok-image.image c.in_ok-plan.plan
    c.below-count.ensures.value c.below-count.ensures.state c.in_ok-jobs.ensures.jobs c.in_ok-jobs.ensures.state
    (c.in_ok-steps.ensures ∙ ap program c.as_slice.ensures.value) (c.in_ok-code.ensures ∙ ap bytes_of_steps c.as_slice-2.ensures.value)
    (c.in_ok-file.ensures ∙ (λ i. image_of (c.as_slice-3.ensures.value i) (c.as_slice-4.ensures.value i))) c.in_ok-image.ensures c.in_ok-plan.ensures)
