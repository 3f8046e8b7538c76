use Rattle.std.proofs.Common.{refl}
use Rattle.desc_read.specs.declared.fault.DescKind.TheVariants.{Range}
use Rattle.desc_read.specs.Faults.{field_place}
use Rattle.desc_read.specs.Objects.{in_range}
use Rattle.desc_read.proofs.Fields.{fails_at}
use Rattle.desc_read.proofs.object_reader.ObjectReader.in_range.Goals as goal

pub returns-then-good : goal.returns-then-good
unfolding in_range
returns-then-good c = rw c.if-good.true refl

pub returns-else-good : goal.returns-else-good
unfolding in_range
returns-else-good c = fails_at Range (field_place c.args.self.now.entry c.args.name.now) c.fault.result _ c.fault.ensures (rw c.if-good.false refl)
