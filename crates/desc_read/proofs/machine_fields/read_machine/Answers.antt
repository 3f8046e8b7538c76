use Rattle.std.proofs.Common.{[], ◌∷◌, codes, lit≤, arith, refl}
use Rattle.serde_json.specs.View.{view}
use Rattle.desc_read.specs.Checks.{number}
use Rattle.desc_read.specs.Plans.{machine_of}
use Rattle.desc_read.proofs.Fields.{leaves, field_few}
use Rattle.desc_read.proofs.machine_fields.read_machine.Goals as goal

pub returns-in_err-_version-clause-gives : goal.returns-in_err-_version-clause-gives
unfolding machine_of
returns-in_err-_version-clause-gives c = leaves c.from_residual.result _ _ _ c.from_residual.ensures.1 c.in_err-_version.ensures

pub returns-in_err-frames-clause-gives : goal.returns-in_err-frames-clause-gives
unfolding machine_of
returns-in_err-frames-clause-gives c = rw (c.in_ok-_version.ensures) (leaves c.from_residual-in_err-frames.result _ _ _ c.from_residual-in_err-frames.ensures.1 c.in_err-frames.ensures)

pub returns-in_err-log-clause-gives : goal.returns-in_err-log-clause-gives
unfolding machine_of
returns-in_err-log-clause-gives c = rw (c.in_ok-_version.ensures, c.in_ok-frames.ensures) (leaves c.from_residual-in_err-log.result _ _ _ c.from_residual-in_err-log.ensures.1 c.in_err-log.ensures)

pub returns-in_err-blocks-clause-gives : goal.returns-in_err-blocks-clause-gives
unfolding machine_of
returns-in_err-blocks-clause-gives c = rw (c.in_ok-_version.ensures, c.in_ok-frames.ensures, c.in_ok-log.ensures) (leaves c.from_residual-in_err-blocks.result _ _ _ c.from_residual-in_err-blocks.ensures.1 c.in_err-blocks.ensures)

pub returns-in_err-cache_blocks-clause-gives : goal.returns-in_err-cache_blocks-clause-gives
unfolding machine_of
returns-in_err-cache_blocks-clause-gives c = rw (c.in_ok-_version.ensures, c.in_ok-frames.ensures, c.in_ok-log.ensures, c.in_ok-blocks.ensures) (leaves c.from_residual-in_err-cache_blocks.result _ _ _ c.from_residual-in_err-cache_blocks.ensures.1 c.in_err-cache_blocks.ensures)

pub returns-in_err-processors-clause-gives : goal.returns-in_err-processors-clause-gives
unfolding machine_of
returns-in_err-processors-clause-gives c = rw (c.in_ok-_version.ensures, c.in_ok-frames.ensures, c.in_ok-log.ensures, c.in_ok-blocks.ensures, c.in_ok-cache_blocks.ensures) (leaves c.from_residual-in_err-processors.result _ _ _ c.from_residual-in_err-processors.ensures.1 c.in_err-processors.ensures)

pub returns-in_err-sets-clause-gives : goal.returns-in_err-sets-clause-gives
unfolding machine_of
returns-in_err-sets-clause-gives c = rw (c.in_ok-_version.ensures, c.in_ok-frames.ensures, c.in_ok-log.ensures, c.in_ok-blocks.ensures, c.in_ok-cache_blocks.ensures, c.in_ok-processors.ensures) (leaves c.from_residual-in_err-sets.result _ _ _ c.from_residual-in_err-sets.ensures.1 c.in_err-sets.ensures)

pub returns-in_err-in_range-clause-gives : goal.returns-in_err-in_range-clause-gives
unfolding machine_of
returns-in_err-in_range-clause-gives c = rw (c.in_ok-_version.ensures, c.in_ok-frames.ensures, c.in_ok-log.ensures, c.in_ok-blocks.ensures, c.in_ok-cache_blocks.ensures, c.in_ok-processors.ensures, c.in_ok-sets.ensures) (leaves c.from_residual-in_err-in_range.result _ _ _ c.from_residual-in_err-in_range.ensures.1 (rw (c.is_power_of_two.ensures) at c.in_err-in_range.ensures))

pub returns-in_err-ways-clause-gives : goal.returns-in_err-ways-clause-gives
unfolding machine_of
returns-in_err-ways-clause-gives c = rw (c.in_ok-_version.ensures, c.in_ok-frames.ensures, c.in_ok-log.ensures, c.in_ok-blocks.ensures, c.in_ok-cache_blocks.ensures, c.in_ok-processors.ensures, c.in_ok-sets.ensures, (rw (c.is_power_of_two.ensures) at c.in_ok-in_range.ensures)) (leaves c.from_residual-in_err-ways.result _ _ _ c.from_residual-in_err-ways.ensures.1 c.in_err-ways.ensures)

pub returns-in_err-owners-clause-gives : goal.returns-in_err-owners-clause-gives
unfolding machine_of
returns-in_err-owners-clause-gives c = rw (c.in_ok-_version.ensures, c.in_ok-frames.ensures, c.in_ok-log.ensures, c.in_ok-blocks.ensures, c.in_ok-cache_blocks.ensures, c.in_ok-processors.ensures, c.in_ok-sets.ensures, (rw (c.is_power_of_two.ensures) at c.in_ok-in_range.ensures), c.in_ok-ways.ensures) (leaves c.from_residual-in_err-owners.result _ _ _ c.from_residual-in_err-owners.ensures.1 (rw (c.as_slice.ensures.value, c.in_ok-each.ensures, c.saturating_sub-last_memory.ensures, c.len-memories.ensures) at c.in_err-owners.ensures))

pub returns-clause-gives : goal.returns-clause-gives
unfolding machine_of
returns-clause-gives c = rw (c.in_ok-_version.ensures, c.in_ok-frames.ensures, c.in_ok-log.ensures, c.in_ok-blocks.ensures, c.in_ok-cache_blocks.ensures, c.in_ok-processors.ensures, c.in_ok-sets.ensures, (rw (c.is_power_of_two.ensures) at c.in_ok-in_range.ensures), c.in_ok-ways.ensures, (rw (c.as_slice.ensures.value, c.in_ok-each.ensures, c.saturating_sub-last_memory.ensures, c.len-memories.ensures) at c.in_ok-owners.ensures)) (rw (c.in_ok-placement.ensures, c.as_slice-2.ensures) refl)

pub returns-clause-few : goal.returns-clause-few
returns-clause-few c =
    let self = c.args.object.now in
    field_few self.entry (view self.value.now) (codes "frames") 2 8 (number 16 16384) (4096 ∷ 4096 ∷ 4096 ∷ []) c.in_ok-frames.frames (lit≤ tt) c.in_ok-frames.ensures

pub overflow_cast-memories : goal.overflow_cast-memories
overflow_cast-memories c =
    let self = c.args.object.now in
    let few = field_few self.entry (view self.value.now) (codes "frames") 2 8 (number 16 16384) (4096 ∷ 4096 ∷ 4096 ∷ []) c.in_ok-frames.frames (lit≤ tt) c.in_ok-frames.ensures in
    omega (arith, few)
