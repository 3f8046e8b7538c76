use Rattle.std.proofs.Common.{◌≡◌, ◌++◌, ◌∙◌, Err, List, Ok, ap, refl, subst, sym}
use Rattle.lego_msg.specs.declared.operation.Operation.{Operation}
use Rattle.placement.specs.Owners.{Owned}
use Rattle.cluster.specs.Askings.{asks_of}
use Rattle.cluster.specs.Sequences.{Asking, CallsEach, all_free, all_served, effects, served_each}
use Rattle.cluster.specs.Standing.{StandsFor}
use Rattle.cluster.specs.Unmapping.{regions_met}
use Rattle.cluster.proofs.Following.{all_free-append}
use Rattle.cluster.proofs.Progress.{SoFar, all_go_on, all_halt, ends_here, front_halts}
use Rattle.cluster.proofs.Telling.{same_table}
use Rattle.cluster.proofs.Unmapped.{may_part, met_granted, met_parts, met_played, met_table, parts_at, parts_told, told_owned, unmapping_makes}
use Rattle.cluster.proofs.cluster.Cluster.unmap.Goals as goal

pub returns-in-Err-clause-call : goal.returns-in-Err-clause-call
returns-in-Err-clause-call g c f stands =
    let t : Owned = c.args.self.now.table in
    let asks : List Operation = asks_of (regions_met t c.args.pid c.args.first.0 c.args.pages) in
    let parts : List Operation = parts_at c.args.self.now f c.args.pid c.args.first.0 c.args.pages in
    subst (λ (l : List Asking). CallsEach t {X = Unit {0}} g.W.Watch.told g.W.Watch.faults c.args.watch.now c.span_areas.new.watch c.args.self.now c.span_areas.new.self c.args.by l (λ done. all_served c.args.by (asks ++ parts)) (Err c.in-Err.halt)) (sym (all_free-append asks parts))
    (front_halts g.W.Watch.told g.W.Watch.faults t t c.args.watch.now c.span_areas.new.watch c.args.self.now c.span_areas.new.self c.args.by (all_free asks) (all_free parts)
    (λ areas. all_served c.args.by asks) (λ done. all_served c.args.by (asks ++ parts)) c.in-Err.halt c.in-Err.ensures.call)

pub unmap_parts-requires-clause-parts : goal.unmap_parts-requires-clause-parts
unmap_parts-requires-clause-parts g c =
    let calls = c.in-Ok.ensures.call in
    let rests = c.requires.rests calls.goes.0 in
    met_parts g.W.Watch.told g.W.Watch.faults c.args.watch.now c.span_areas.new.watch c.args.self.now c.span_areas.new.self c.args.by c.args.pid c.args.first.0 c.args.pages c.requires.most _ calls.serves calls.turns
    rests.0 rests.1 c.as_slice.result.now (c.as_slice.ensures ∙ c.in-Ok.ensures.areas rests.0 rests.1)

pub unmap_parts-requires-clause-may : goal.unmap_parts-requires-clause-may
unmap_parts-requires-clause-may g c =
    let calls = c.in-Ok.ensures.call in
    let rests = c.requires.rests calls.goes.0 in
    may_part c.span_areas.new.self rests.0 c.args.by c.as_slice.result.now c.args.pid c.args.first.0 c.args.pages
    (met_granted g.W.Watch.told g.W.Watch.faults c.args.watch.now c.span_areas.new.watch c.args.self.now c.span_areas.new.self c.args.by c.args.pid c.args.first.0 c.args.pages c.requires.most _ calls.serves calls.turns
    rests.0 rests.1 c.as_slice.result.now (c.as_slice.ensures ∙ c.in-Ok.ensures.areas rests.0 rests.1) c.requires.issuer)

pub returns-in-Err-unmap_parts-clause-call : goal.returns-in-Err-unmap_parts-clause-call
returns-in-Err-unmap_parts-clause-call g c f stands =
    let calls = c.in-Ok.ensures.call in
    let t : Owned = c.args.self.now.table in
    let asks : List Operation = asks_of (regions_met t c.args.pid c.args.first.0 c.args.pages) in
    let told : List Operation = parts_told c.span_areas.new.self c.as_slice.result.now c.args.pid c.args.first.0 c.args.pages in
    let parts : List Operation = parts_at c.args.self.now f c.args.pid c.args.first.0 c.args.pages in
    let played : told ≡ parts = met_played g.W.Watch.told g.W.Watch.faults c.args.watch.now c.span_areas.new.watch c.args.self.now c.span_areas.new.self c.args.by c.args.pid c.args.first.0 c.args.pages c.requires.most _ calls.serves calls.turns
    f stands c.as_slice.result.now (c.as_slice.ensures ∙ c.in-Ok.ensures.areas f stands) in
    let list : all_free asks ++ all_free told ≡ all_free (asks ++ parts) = ap (λ (l : List Operation). all_free asks ++ all_free l) played ∙ sym (all_free-append asks parts) in
    let so : SoFar t g.W.Watch.told g.W.Watch.faults c.args.watch.now c.span_areas.new.watch c.args.self.now c.span_areas.new.self c.args.by (all_free asks)
    = record { serves = calls.serves; turns = calls.turns; before = calls.goes.0; now = calls.goes.1 } in
    subst (λ (l : List Asking). CallsEach t {X = Unit {0}} g.W.Watch.told g.W.Watch.faults c.args.watch.now c.unmap_parts.new.watch c.args.self.now c.unmap_parts.new.self c.args.by l (λ done. all_served c.args.by (asks ++ parts)) (Err c.in-Err-unmap_parts.halt)) list
    (all_halt g.W.Watch.told g.W.Watch.faults t c.args.watch.now c.span_areas.new.watch c.args.self.now c.span_areas.new.self c.args.by (all_free asks) so
    c.span_areas.new.self.table t c.unmap_parts.new.watch c.unmap_parts.new.self (all_free told) (λ done. all_served c.args.by told) (λ done. all_served c.args.by (asks ++ parts)) c.in-Err-unmap_parts.halt c.in-Err-unmap_parts.ensures)

pub returns-in-Ok-unmap_parts-clause-call : goal.returns-in-Ok-unmap_parts-clause-call
returns-in-Ok-unmap_parts-clause-call g c f stands =
    let calls = c.in-Ok.ensures.call in
    let t : Owned = c.args.self.now.table in
    let asks : List Operation = asks_of (regions_met t c.args.pid c.args.first.0 c.args.pages) in
    let told : List Operation = parts_told c.span_areas.new.self c.as_slice.result.now c.args.pid c.args.first.0 c.args.pages in
    let parts : List Operation = parts_at c.args.self.now f c.args.pid c.args.first.0 c.args.pages in
    let played : told ≡ parts = met_played g.W.Watch.told g.W.Watch.faults c.args.watch.now c.span_areas.new.watch c.args.self.now c.span_areas.new.self c.args.by c.args.pid c.args.first.0 c.args.pages c.requires.most _ calls.serves calls.turns
    f stands c.as_slice.result.now (c.as_slice.ensures ∙ c.in-Ok.ensures.areas f stands) in
    let list : all_free asks ++ all_free told ≡ all_free (asks ++ parts) = ap (λ (l : List Operation). all_free asks ++ all_free l) played ∙ sym (all_free-append asks parts) in
    let so : SoFar t g.W.Watch.told g.W.Watch.faults c.args.watch.now c.span_areas.new.watch c.args.self.now c.span_areas.new.self c.args.by (all_free asks)
    = record { serves = calls.serves; turns = calls.turns; before = calls.goes.0; now = calls.goes.1 } in
    let all = all_go_on g.W.Watch.told g.W.Watch.faults t c.args.watch.now c.span_areas.new.watch c.args.self.now c.span_areas.new.self c.args.by (all_free asks) so
    c.unmap_parts.new.watch c.unmap_parts.new.self (all_free told) tt c.in-Ok-unmap_parts.ensures in
    subst (λ (l : List Asking). CallsEach t {X = Unit {0}} g.W.Watch.told g.W.Watch.faults c.args.watch.now c.unmap_parts.new.watch c.args.self.now c.unmap_parts.new.self c.args.by l (λ done. served_each c.args.by l) (Ok tt)) list
    (ends_here g.W.Watch.told g.W.Watch.faults t c.args.watch.now c.unmap_parts.new.watch c.args.self.now c.unmap_parts.new.self c.args.by (all_free asks ++ all_free told) all
    (λ done. served_each c.args.by (all_free asks ++ all_free told)) tt (λ b. refl))

pub returns-in-Ok-unmap_parts-clause-stands : goal.returns-in-Ok-unmap_parts-clause-stands
returns-in-Ok-unmap_parts-clause-stands g c f stands =
    let calls = c.in-Ok.ensures.call in
    let old = c.as_slice.ensures ∙ c.in-Ok.ensures.areas f stands in
    let played = met_played g.W.Watch.told g.W.Watch.faults c.args.watch.now c.span_areas.new.watch c.args.self.now c.span_areas.new.self c.args.by c.args.pid c.args.first.0 c.args.pages c.requires.most _ calls.serves calls.turns
    f stands c.as_slice.result.now old in
    let granted = met_granted g.W.Watch.told g.W.Watch.faults c.args.watch.now c.span_areas.new.watch c.args.self.now c.span_areas.new.self c.args.by c.args.pid c.args.first.0 c.args.pages c.requires.most _ calls.serves calls.turns
    f stands c.as_slice.result.now old c.requires.issuer in
    subst (StandsFor c.unmap_parts.new.self) (ap (λ (l : List Operation). effects l f) played ∙ unmapping_makes c.args.self.now f c.args.pid c.args.first.0 c.args.pages c.requires.most stands)
    (c.in-Ok-unmap_parts.ensures.serves.stands f granted)

pub returns-in-Ok-unmap_parts-clause-table : goal.returns-in-Ok-unmap_parts-clause-table
returns-in-Ok-unmap_parts-clause-table g c =
    let calls = c.in-Ok.ensures.call in
    let d = c.span_areas.new.self in
    same_table d.table c.unmap_parts.new.self.table c.in-Ok-unmap_parts.ensures.turns (c.in-Ok-unmap_parts.ensures.serves.owners ∙ told_owned d c.as_slice.result.now c.args.pid c.args.first.0 c.args.pages)
    ∙ met_table g.W.Watch.told g.W.Watch.faults c.args.watch.now c.span_areas.new.watch c.args.self.now d c.args.by c.args.pid c.args.first.0 c.args.pages c.requires.most _ calls.serves calls.turns
