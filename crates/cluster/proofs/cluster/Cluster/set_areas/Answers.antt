use Rattle.std.proofs.Common.{◌≡◌, ◌∙◌, Err, List, Ok, ap, refl, subst, sym}
use Rattle.lego_base.specs.declared.records.Area.{Area}
use Rattle.placement.specs.Owners.{Owned}
use Rattle.cluster.specs.Askings.{areas_among, asks_of}
use Rattle.cluster.specs.Mapping.{Covers, entries_in, maps_of, table_with, tells_of}
use Rattle.cluster.specs.Sequences.{Asking, CallsEach, all_free, effects_of, served_each}
use Rattle.cluster.specs.Standing.{StandsFor}
use Rattle.area_list.specs.Runs.{IsCanonical}
use Rattle.cluster.proofs.Progress.{SoFar, all_end, all_halt, ends_here, front_halts}
use Rattle.cluster.proofs.Telling.{asked_granted, asked_table, mapping_makes, may_tell, same_table, tells_owned}
use Rattle.cluster.proofs.cluster.Cluster.set_areas.Goals as goal

pub returns-in-Err-clause-call : goal.returns-in-Err-clause-call
returns-in-Err-clause-call g c f stands =
    let t : Owned = c.args.self.now.table in
    let asks : List Asking = all_free (asks_of (entries_in c.args.pid t)) in
    front_halts g.W.Watch.told g.W.Watch.faults t (table_with t c.args.pid c.args.want.now) c.args.watch.now c.areas.new.watch c.args.self.now c.areas.new.self c.args.by asks (tells_of t (areas_among f (entries_in c.args.pid t)) c.args.pid c.args.want.now)
    (λ areas. served_each c.args.by asks) (λ done. served_each c.args.by (maps_of f t c.args.pid c.args.want.now)) c.in-Err.halt c.in-Err.ensures.call

pub place-requires-clause-may : goal.place-requires-clause-may
place-requires-clause-may g c =
    let calls = c.in-Ok.ensures.call in
    let rests = c.requires.rests calls.goes.0 in
    may_tell c.areas.new.self rests.0 c.args.by c.args.pid c.as_slice.result.now c.runs.result.now
    (asked_granted g.W.Watch.told g.W.Watch.faults c.args.watch.now c.areas.new.watch c.args.self.now c.areas.new.self c.args.by c.args.pid _ calls.serves calls.turns c.requires.issuer (c.requires.placed calls.goes.0)
    c.as_slice.result.now c.runs.result.now (subst IsCanonical (sym c.runs.ensures.runs) c.runs.ensures.canonical) rests.0 rests.1 (subst (λ (l : List Area). Covers c.args.pid l rests.0) (sym c.runs.ensures.runs) rests.2))

pub returns-in-Err-place-clause-call : goal.returns-in-Err-place-clause-call
returns-in-Err-place-clause-call g c f stands =
    let calls = c.in-Ok.ensures.call in
    let t : Owned = c.args.self.now.table in
    let table : c.areas.new.self.table ≡ t = asked_table g.W.Watch.told g.W.Watch.faults c.args.watch.now c.areas.new.watch c.args.self.now c.areas.new.self c.args.by c.args.pid _ calls.serves calls.turns in
    let old : c.as_slice.result.now ≡ areas_among f (entries_in c.args.pid t) = c.as_slice.ensures ∙ c.in-Ok.ensures.areas f stands in
    let list : tells_of c.areas.new.self.table c.as_slice.result.now c.args.pid c.runs.result.now ≡ tells_of t (areas_among f (entries_in c.args.pid t)) c.args.pid c.args.want.now
    = λ i. tells_of (table i) (old i) c.args.pid (c.runs.ensures.runs i) in
    let so : SoFar t g.W.Watch.told g.W.Watch.faults c.args.watch.now c.areas.new.watch c.args.self.now c.areas.new.self c.args.by (all_free (asks_of (entries_in c.args.pid t)))
    = record { serves = calls.serves; turns = calls.turns; before = calls.goes.0; now = calls.goes.1 } in
    all_halt g.W.Watch.told g.W.Watch.faults t c.args.watch.now c.areas.new.watch c.args.self.now c.areas.new.self c.args.by (all_free (asks_of (entries_in c.args.pid t))) so
    (table_with c.areas.new.self.table c.args.pid c.runs.result.now) (table_with t c.args.pid c.args.want.now) c.place.new.watch c.place.new.self (tells_of t (areas_among f (entries_in c.args.pid t)) c.args.pid c.args.want.now)
    (λ done. served_each c.args.by (tells_of t (areas_among f (entries_in c.args.pid t)) c.args.pid c.args.want.now)) (λ done. served_each c.args.by (maps_of f t c.args.pid c.args.want.now)) c.in-Err-place.halt
    (subst (λ (l : List Asking). CallsEach (table_with c.areas.new.self.table c.args.pid c.runs.result.now) {X = Unit {0}} g.W.Watch.told g.W.Watch.faults c.areas.new.watch c.place.new.watch c.areas.new.self c.place.new.self c.args.by l (λ done. served_each c.args.by l) (Err c.in-Err-place.halt)) list c.in-Err-place.ensures)

pub returns-in-Ok-place-clause-call : goal.returns-in-Ok-place-clause-call
returns-in-Ok-place-clause-call g c f stands =
    let calls = c.in-Ok.ensures.call in
    let t : Owned = c.args.self.now.table in
    let table : c.areas.new.self.table ≡ t = asked_table g.W.Watch.told g.W.Watch.faults c.args.watch.now c.areas.new.watch c.args.self.now c.areas.new.self c.args.by c.args.pid _ calls.serves calls.turns in
    let old : c.as_slice.result.now ≡ areas_among f (entries_in c.args.pid t) = c.as_slice.ensures ∙ c.in-Ok.ensures.areas f stands in
    let so : SoFar t g.W.Watch.told g.W.Watch.faults c.args.watch.now c.areas.new.watch c.args.self.now c.areas.new.self c.args.by (all_free (asks_of (entries_in c.args.pid t)))
    = record { serves = calls.serves; turns = calls.turns; before = calls.goes.0; now = calls.goes.1 } in
    let all = all_end g.W.Watch.told g.W.Watch.faults t c.args.watch.now c.areas.new.watch c.args.self.now c.areas.new.self c.args.by (all_free (asks_of (entries_in c.args.pid t))) so
    (table_with t c.args.pid c.args.want.now) c.place.new.watch c.place.new.self (tells_of t (areas_among f (entries_in c.args.pid t)) c.args.pid c.args.want.now) tt
    (subst (λ (p : Owned × List Asking). CallsEach p.0 {X = Unit {0}} g.W.Watch.told g.W.Watch.faults c.areas.new.watch c.place.new.watch c.areas.new.self c.place.new.self c.args.by p.1 (λ done. served_each c.args.by p.1) (Ok tt))
    (λ i. (table_with (table i) c.args.pid (c.runs.ensures.runs i), tells_of (table i) (old i) c.args.pid (c.runs.ensures.runs i))) c.in-Ok-place.ensures) in
    ends_here g.W.Watch.told g.W.Watch.faults (table_with t c.args.pid c.args.want.now) c.args.watch.now c.place.new.watch c.args.self.now c.place.new.self c.args.by (maps_of f t c.args.pid c.args.want.now) all
    (λ done. served_each c.args.by (maps_of f t c.args.pid c.args.want.now)) tt (λ b. refl)

pub returns-in-Ok-place-clause-stands : goal.returns-in-Ok-place-clause-stands
returns-in-Ok-place-clause-stands g c f stands covers =
    let calls = c.in-Ok.ensures.call in
    let t : Owned = c.args.self.now.table in
    let canonical : IsCanonical c.args.want.now = c.runs.ensures.canonical in
    let table : c.areas.new.self.table ≡ t = asked_table g.W.Watch.told g.W.Watch.faults c.args.watch.now c.areas.new.watch c.args.self.now c.areas.new.self c.args.by c.args.pid _ calls.serves calls.turns in
    let old : c.as_slice.result.now ≡ areas_among f (entries_in c.args.pid t) = c.as_slice.ensures ∙ c.in-Ok.ensures.areas f stands in
    let list : tells_of c.areas.new.self.table c.as_slice.result.now c.args.pid c.runs.result.now ≡ tells_of t (areas_among f (entries_in c.args.pid t)) c.args.pid c.args.want.now
    = λ i. tells_of (table i) (old i) c.args.pid (c.runs.ensures.runs i) in
    let granted = asked_granted g.W.Watch.told g.W.Watch.faults c.args.watch.now c.areas.new.watch c.args.self.now c.areas.new.self c.args.by c.args.pid _ calls.serves calls.turns c.requires.issuer (c.requires.placed calls.goes.0)
    c.as_slice.result.now c.runs.result.now (subst IsCanonical (sym c.runs.ensures.runs) canonical) f stands (subst (λ (l : List Area). Covers c.args.pid l f) (sym c.runs.ensures.runs) covers) in
    subst (StandsFor c.place.new.self) (ap (λ (l : List Asking). effects_of l f) list ∙ mapping_makes c.args.self.now f c.args.pid c.args.want.now canonical (c.requires.placed calls.goes.0) stands)
    (c.in-Ok-place.ensures.serves.stands f granted)

pub returns-in-Ok-place-clause-table : goal.returns-in-Ok-place-clause-table
returns-in-Ok-place-clause-table g c =
    let calls = c.in-Ok.ensures.call in
    let t : Owned = c.args.self.now.table in
    let table : c.areas.new.self.table ≡ t = asked_table g.W.Watch.told g.W.Watch.faults c.args.watch.now c.areas.new.watch c.args.self.now c.areas.new.self c.args.by c.args.pid _ calls.serves calls.turns in
    same_table (table_with c.areas.new.self.table c.args.pid c.runs.result.now) c.place.new.self.table c.in-Ok-place.ensures.turns
    (c.in-Ok-place.ensures.serves.owners ∙ tells_owned c.areas.new.self.table c.as_slice.result.now c.args.pid c.runs.result.now)
    ∙ (λ i. table_with (table i) c.args.pid (c.runs.ensures.runs i))
