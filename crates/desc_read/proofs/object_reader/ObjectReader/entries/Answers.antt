use Rattle.std.proofs.Common.{◌≡◌, ℕ, List, [], Option, Some, None, Ok, length, ◌<◌, ◌≤◌, refl, ◌∙◌, arith}
use Rattle.serde_json.specs.Data.{Data}
use Rattle.serde_json.specs.Find.{get}
use Rattle.serde_json.specs.View.{view}
use Rattle.desc_read.specs.declared.fault.DescKind.TheVariants.{Kind, Range}
use Rattle.desc_read.specs.declared.place.Entry.{Entry}
use Rattle.desc_read.specs.Faults.{field_place}
use Rattle.desc_read.specs.Checks.{list_up_to}
use Rattle.desc_read.specs.Objects.{field, placed}
use Rattle.desc_read.proofs.Lists.{up_none, up_some, up_long}
use Rattle.desc_read.proofs.Fields.{fails_at, field_there, field_absent}
use Rattle.desc_read.proofs.object_reader.ObjectReader.entries.Goals as goal

module _ (at : Option Entry) (d : Data) (most : ℕ) (name list : List ℕ) (same : name ≡ list) where
  there : (v : Data) → Some v ≡ get name d → field at d list (list_up_to most) (Some []) ≡ placed (field_place at name) (list_up_to most v)
  there v e = rw (← same) (field_there at d name (list_up_to most) (Some []) v e)

  absent : None ≡ get name d → field at d list (list_up_to most) (Some []) ≡ Ok []
  absent e = rw (← same) (field_absent at d name (list_up_to most) (Some []) e)

pub returns-then-len-most : goal.returns-then-len-most
returns-then-len-most c =
    let self = c.args.self.now in
    let name = c.name-name.result.now in
    let vs = c.in-Some-as_array.values.now.items in
    let few : length vs ≤ c.args.most = omega arith in
    there self.entry (view self.value.now) c.args.most name _ c.name-name.ensures (view c.in-Some.value.now) c.in-Some.ensures
    ∙ rw (up_some c.args.most (view c.in-Some.value.now) vs c.in-Some-as_array.ensures few, c.as_slice.ensures.value) refl

pub returns-else-len-most : goal.returns-else-len-most
returns-else-len-most c =
    let self = c.args.self.now in
    let name = c.name-name.result.now in
    let vs = c.in-Some-as_array.values.now.items in
    let many : c.args.most < length vs = omega arith in
    fails_at Range (field_place self.entry name) c.fault.result _ c.fault.ensures
    (there self.entry (view self.value.now) c.args.most name _ c.name-name.ensures (view c.in-Some.value.now) c.in-Some.ensures
    ∙ rw (up_long c.args.most (view c.in-Some.value.now) vs c.in-Some-as_array.ensures many) refl)

pub returns-in-None-as_array : goal.returns-in-None-as_array
returns-in-None-as_array c =
    let self = c.args.self.now in
    let name = c.name-name.result.now in
    fails_at Kind (field_place self.entry name) c.fault-in-None-as_array.result _ c.fault-in-None-as_array.ensures
    (there self.entry (view self.value.now) c.args.most name _ c.name-name.ensures (view c.in-Some.value.now) c.in-Some.ensures
    ∙ rw (up_none c.args.most (view c.in-Some.value.now) c.in-None-as_array.ensures) refl)

pub returns-in-None : goal.returns-in-None
returns-in-None c =
    absent c.args.self.now.entry (view c.args.self.now.value.now) c.args.most c.name-name.result.now _ c.name-name.ensures c.in-None.ensures
