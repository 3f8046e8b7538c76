use Rattle.std.proofs.Common.{◌∙◌, ap, arith, drop, sym}
use Rattle.kernel_objects.specs.Slots.{free_from}
use Rattle.fd_table.proofs.Lowest.{skipped}
use Rattle.fd_table.proofs.fds.Fds.lowest_free.Goals as goal

pub loop-fd-init : goal.loop-fd-init
loop-fd-init c =
    let slots = c.self.inside.slots.items in
    let from = c.args.from in (
      omega arith,
      ap (λ m. free_from from m (drop from slots)) (omega arith) ∙ sym (skipped from 0 from slots (omega arith)),
    )
