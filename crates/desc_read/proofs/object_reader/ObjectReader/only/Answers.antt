use Rattle.std.proofs.Common.{refl}
use Rattle.desc_read.specs.declared.fault.DescKind.TheVariants.{Object, Unknown}
use Rattle.desc_read.specs.Faults.{object_place, field_place}
use Rattle.desc_read.specs.Objects.{object}
use Rattle.desc_read.proofs.Fields.{fails_at}
use Rattle.desc_read.proofs.object_reader.ObjectReader.only.Goals as goal

pub returns-in-None : goal.returns-in-None
unfolding object
returns-in-None c = fails_at Object (object_place c.args.self.now.entry) c.at.result _ (c.at.ensures (object_place c.args.self.now.entry) c.place_of_object.ensures) (rw (← c.in-None.ensures) refl)

pub returns-in-Some-unknown_name : goal.returns-in-Some-unknown_name
unfolding object
returns-in-Some-unknown_name c =
    fails_at Unknown (field_place c.args.self.now.entry c.in-Some-unknown_name.name.now) c.fault.result _ c.fault.ensures
    (rw (← c.in-Some.ensures, ← c.in-Some-unknown_name.ensures) refl)

pub returns-in-None-unknown_name : goal.returns-in-None-unknown_name
unfolding object
returns-in-None-unknown_name c = rw (← c.in-Some.ensures, ← c.in-None-unknown_name.ensures) refl
