use Rattle.std.proofs.Common.{◌≡◌, Some, refl, ◌∙◌}
use Rattle.serde_json.specs.View.{view}
use Rattle.desc_read.specs.Checks.{number, list_of}
use Rattle.desc_read.proofs.Fields.{field_there, field_absent, gives_is}
use Rattle.desc_read.proofs.object_reader.ObjectReader.numbers.Goals as goal

pub returns-in-Some : goal.returns-in-Some
returns-in-Some c =
    let self = c.args.self.now in
    let check = list_of c.args.count.0 c.args.count.1 (number c.args.span.0 c.args.span.1) in
    gives_is c.numbers_of.result _ _ c.numbers_of.ensures (field_there self.entry (view self.value.now) c.args.name.now check (Some c.args.other.now) (view c.in-Some.value.now) c.in-Some.ensures)

pub returns-in_ok-from_slice-in-None : goal.returns-in_ok-from_slice-in-None
returns-in_ok-from_slice-in-None c =
    let self = c.args.self.now in
    let check = list_of c.args.count.0 c.args.count.1 (number c.args.span.0 c.args.span.1) in
    let made : c.from_vec.result ≡ c.args.other.now = c.from_vec.ensures ∙ c.in_ok-from_slice-in-None.ensures.items in
    rw (field_absent self.entry (view self.value.now) c.args.name.now check (Some c.args.other.now) c.in-None.ensures, made) refl
