use Rattle.kernel_objects.specs.declared.descriptor.Description.{Description}
use Rattle.manager.proofs.Opening.{opened_ended}
use Rattle.manager.proofs.manager.Manager.open.Goals as goal

pub invariant_of-self : goal.invariant_of-self
invariant_of-self c =
    let x : Description = record { object = c.args.object; offset = 0; flags = c.args.flags } in
    record {
      counted = c.open_in.ensures.counted;
      ended = opened_ended c.self.inside.descs c.self.inside.pipes c.open_in.new.descs c.open_in.new.pipes x c.open_in.ensures.descs c.open_in.ensures.pipes c.self.invariant.ended;
    }
