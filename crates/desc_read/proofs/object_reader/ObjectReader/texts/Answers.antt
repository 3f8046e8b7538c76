use Rattle.std.proofs.Common.{ℕ, List, Some, refl, option_map, option_to_list}
use Rattle.serde_json.specs.View.{view}
use Rattle.desc_read.specs.declared.texts.TextRule.TheVariants.{Argument}
use Rattle.desc_read.specs.Checks.{text, list_of}
use Rattle.desc_read.proofs.Fields.{field_there, field_absent, gives_is}
use Rattle.desc_read.proofs.object_reader.ObjectReader.texts.Goals as goal

pub returns-in-Some : goal.returns-in-Some
returns-in-Some c =
    let self = c.args.self.now in
    let check = list_of c.args.count.0 c.args.count.1 (text Argument) in
    let other : List (List ℕ) = option_to_list (option_map (λ s. s.now) c.args.other) in
    gives_is c.texts_of.result _ _ c.texts_of.ensures (field_there self.entry (view self.value.now) c.args.name.now check (Some other) (view c.in-Some.value.now) c.in-Some.ensures)

pub returns-in_ok-alone-in-None : goal.returns-in_ok-alone-in-None
returns-in_ok-alone-in-None c =
    let self = c.args.self.now in
    let check = list_of c.args.count.0 c.args.count.1 (text Argument) in
    let other : List (List ℕ) = option_to_list (option_map (λ s. s.now) c.args.other) in
    rw (field_absent self.entry (view self.value.now) c.args.name.now check (Some other) c.in-None.ensures, c.in_ok-alone-in-None.ensures) refl
