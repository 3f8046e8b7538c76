use Rattle.std.proofs.Common.{◌≡◌, map, bytes_eq, sym, ◌∙◌}
use Rattle.std.specs.List.{list_any}
use Rattle.desc_read.proofs.Unknown.{unknown_is, any_map, unknown_found, unknown_later}
use Rattle.desc_read.proofs.unknown_fields.unknown_name.Goals as goal

pub returns-then-not-contains : goal.returns-then-not-contains
returns-then-not-contains c =
    let known = map (λ k. k.now) c.args.known.now in
    let name = c.as_str-name.result.now in
    let test : c.contains.result ≡ list_any (λ y. bytes_eq y.now name) c.args.known.now = c.contains.ensures.value in
    unknown_found known c.in-Some.name.now c.loop-name.name-iterator c.next.new.self _ name c.in-Some.ensures.steps c.loop-name.invariant.2 c.as_str-name.ensures.value
    (sym (any_map c.args.known.now name) ∙ sym test ∙ c.if-not-contains.true)
    ∙ unknown_is known c.args.members.now.entries

pub loop-name-preserved : goal.loop-name-preserved
loop-name-preserved c =
    let known = map (λ k. k.now) c.args.known.now in
    let name = c.as_str-name.result.now in
    let test : c.contains.result ≡ list_any (λ y. bytes_eq y.now name) c.args.known.now = c.contains.ensures.value in (
      tt,
      tt,
      unknown_later known c.in-Some.name.now c.loop-name.name-iterator c.next.new.self _ name c.in-Some.ensures.steps c.loop-name.invariant.2 c.as_str-name.ensures.value
          (sym (any_map c.args.known.now name) ∙ sym test ∙ c.if-not-contains.false),
    )

pub returns : goal.returns
returns c =
    let known = map (λ k. k.now) c.args.known.now in
    sym (rw c.in-None.ensures.steps.0 at c.loop-name.invariant.2) ∙ unknown_is known c.args.members.now.entries
