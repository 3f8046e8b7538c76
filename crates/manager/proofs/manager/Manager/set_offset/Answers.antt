use Rattle.std.proofs.Common.{subst, sym, ◌≡◌, slice_set}
use Rattle.kernel_objects.specs.Slots.{slot}
use Rattle.linux_model.specs.Effects.{sought}
use Rattle.manager.specs.Sound.{Sound}
use Rattle.manager.specs.Tables.{DescTable}
use Rattle.manager.proofs.Changes.{offset_changed}
use Rattle.manager.proofs.manager.Manager.set_offset.Goals as goal

pub invariant_of-self : goal.invariant_of-self
invariant_of-self c =
    let d : DescTable = c.self.inside.descs in
    let is : c.seek.new.self ≡ record d { descs = slice_set d.descs c.args.desc (sought c.args.offset (slot d.descs c.args.desc)) } =
    λ i. record { descs = c.seek.ensures.descs i; refs = c.seek.ensures.refs i } in
    subst (λ (d : DescTable). Sound c.self.inside.procs d c.self.inside.pipes) (sym is)
    (offset_changed c.self.inside.procs d c.self.inside.pipes c.args.desc c.args.offset c.self.invariant)
