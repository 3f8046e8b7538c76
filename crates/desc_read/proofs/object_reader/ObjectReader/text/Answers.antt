use Rattle.std.proofs.Common.{None, Ok, ap, sym, ◌∙◌}
use Rattle.serde_json.specs.View.{view}
use Rattle.desc_read.specs.declared.fault.DescKind.TheVariants.{Absent}
use Rattle.desc_read.specs.Faults.{kind_of, field_place}
use Rattle.desc_read.specs.Checks.{text}
use Rattle.desc_read.specs.Objects.{placed}
use Rattle.desc_read.proofs.Fields.{fails_at, field_there, field_absent}
use Rattle.desc_read.proofs.object_reader.ObjectReader.text.Goals as goal

pub returns-in_ok-from_str-in-Ok : goal.returns-in_ok-from_str-in-Ok
returns-in_ok-from_str-in-Ok c =
    let self = c.args.self.now in
    let name = c.args.name.now in
    field_there self.entry (view self.value.now) name (text c.args.rule) None (view c.in-Some.value.now) c.in-Some.ensures ∙ ap (placed (field_place self.entry name)) c.in-Ok.ensures ∙ ap (λ t. Ok t) (sym c.in_ok-from_str-in-Ok.ensures)

pub returns-in-Err : goal.returns-in-Err
returns-in-Err c =
    let self = c.args.self.now in
    let name = c.args.name.now in
    fails_at (kind_of c.in-Err.flaw) (field_place self.entry name) c.fault.result _ (rw c.kind.ensures at c.fault.ensures)
    (field_there self.entry (view self.value.now) name (text c.args.rule) None (view c.in-Some.value.now) c.in-Some.ensures ∙ ap (placed (field_place self.entry name)) c.in-Err.ensures)

pub returns-in-None : goal.returns-in-None
returns-in-None c =
    let self = c.args.self.now in
    let name = c.args.name.now in
    fails_at Absent (field_place self.entry name) c.fault-in-None.result _ c.fault-in-None.ensures (field_absent self.entry (view self.value.now) name (text c.args.rule) None c.in-None.ensures)
