use Rattle.std.proofs.Common.{◌≡◌, ℕ, List, Result, Ok, Err, ap, sym, refl, ◌∙◌}
use Rattle.serde_json.specs.View.{view}
use Rattle.desc_read.specs.declared.fault.Flaw.{Flaw}
use Rattle.desc_read.specs.declared.fault.Flaw.TheVariants.{WrongKind, OutOfRange}
use Rattle.desc_read.specs.declared.fault.DescKind.TheVariants.{Kind, Range}
use Rattle.desc_read.specs.declared.texts.TextRule.TheVariants.{Argument}
use Rattle.desc_read.specs.Faults.{field_place}
use Rattle.desc_read.specs.Checks.{text, list_of}
use Rattle.desc_read.specs.Objects.{placed}
use Rattle.desc_read.proofs.Fields.{fails_at}
use Rattle.desc_read.proofs.Lists.{seen, of_list, more_wrong, no_more, no_list}
use Rattle.desc_read.proofs.object_reader.ObjectReader.texts_of.Goals as goal

pub returns-in_default : goal.returns-in_default
returns-in_default c =
    let check = text Argument in
    let place = field_place c.args.self.now.entry c.args.name.now in
    let found : ◌≡◌ {A = Result (List (List ℕ)) Flaw} (Err WrongKind) (list_of c.args.count.0 c.args.count.1 check (view c.args.value.now)) =
    no_list c.args.count.0 c.args.count.1 check (view c.args.value.now) c.in_default.ensures in
    fails_at Kind place c.fault.result _ c.fault.ensures (ap (placed place) (sym found))

pub returns-in-Err-WrongKind : goal.returns-in-Err-WrongKind
returns-in-Err-WrongKind c =
    let check = text Argument in
    let place = field_place c.args.self.now.entry c.args.name.now in
    let vs = c.as_slice-items.result.now in
    let v = c.item-item.result in
    let is : text Argument (view v) ≡ Err WrongKind = rw c.in-Err-WrongKind.field-0-is at c.in-Err-WrongKind.ensures in
    let found : ◌≡◌ {A = Result (List (List ℕ)) Flaw} (Err WrongKind) (list_of c.args.count.0 c.args.count.1 check (view c.args.value.now)) =
    of_list c.args.count.0 c.args.count.1 check _ vs c.in-Some.list.now.items _ c.in-Some.ensures c.as_slice-items.ensures.value
    (more_wrong (seen check) vs c.loop-item.item-index _ c.loop-item.fits c.loop-item.texts.items c.loop-item.invariant v c.loop-item-test.true c.item-item.is is) in
    fails_at Kind place c.fault-in-Err-WrongKind.result _ c.fault-in-Err-WrongKind.ensures (ap (placed place) (sym found))

pub returns-then-fits : goal.returns-then-fits
returns-then-fits c =
    let check = text Argument in
    let place = field_place c.args.self.now.entry c.args.name.now in
    let vs = c.as_slice-items.result.now in
    let found : ◌≡◌ {A = Result (List (List ℕ)) Flaw} (Ok c.from_vec.result) (list_of c.args.count.0 c.args.count.1 check (view c.args.value.now)) =
    of_list c.args.count.0 c.args.count.1 check _ vs c.in-Some.list.now.items _ c.in-Some.ensures c.as_slice-items.ensures.value
    (no_more (seen check) vs c.loop-item.item-index _ c.loop-item.fits c.loop-item.texts.items c.loop-item.invariant c.loop-item-test.false ∙ rw (c.if-fits.true, c.from_vec.ensures) refl) in
    ap (placed place) (sym found)

pub returns-else-fits : goal.returns-else-fits
returns-else-fits c =
    let check = text Argument in
    let place = field_place c.args.self.now.entry c.args.name.now in
    let vs = c.as_slice-items.result.now in
    let found : ◌≡◌ {A = Result (List (List ℕ)) Flaw} (Err OutOfRange) (list_of c.args.count.0 c.args.count.1 check (view c.args.value.now)) =
    of_list c.args.count.0 c.args.count.1 check _ vs c.in-Some.list.now.items _ c.in-Some.ensures c.as_slice-items.ensures.value
    (no_more (seen check) vs c.loop-item.item-index _ c.loop-item.fits c.loop-item.texts.items c.loop-item.invariant c.loop-item-test.false ∙ rw c.if-fits.false refl) in
    fails_at Range place c.fault-else-fits.result _ c.fault-else-fits.ensures (ap (placed place) (sym found))
