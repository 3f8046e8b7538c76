use Rattle.serde_json.specs.View.{view}
use Rattle.desc_read.specs.Checks.{number}
use Rattle.desc_read.proofs.Fields.{field_there, field_absent, gives_is}
use Rattle.desc_read.proofs.object_reader.ObjectReader.number.Goals as goal

pub returns-in-Some : goal.returns-in-Some
returns-in-Some c =
    let self = c.args.self.now in
    let check = number c.args.span.0 c.args.span.1 in
    gives_is c.placed.result _ _ (rw c.number_of.ensures at c.placed.ensures) (field_there self.entry (view self.value.now) c.args.name.now check c.args.other (view c.in-Some.value.now) c.in-Some.ensures)

pub returns-in-None : goal.returns-in-None
returns-in-None c =
    let self = c.args.self.now in
    gives_is c.default.result _ _ c.default.ensures (field_absent self.entry (view self.value.now) c.args.name.now (number c.args.span.0 c.args.span.1) c.args.other c.in-None.ensures)
