use Rattle.std.proofs.Common.{◌∙◌, ◌+◌, ◌<◌, List, ap, arith, false, sym, true}
use Rattle.std.proofs.lemmas.Bool.{ltb-true}
use Rattle.lego_base.specs.Keys.{is_of, those}
use Rattle.lego_base.specs.Space.{permits}
use Rattle.lego_base.specs.declared.records.Area.{Area}
use Rattle.lego_base.specs.declared.records.HomeEntry.{HomeEntry}
use Rattle.lego_base.specs.declared.sizes.TheConstants.{USER_END}
use Rattle.lego_msg.specs.Maps.{home_key}
use Rattle.cluster.specs.Permitted.{asked_for, bare}
use Rattle.cluster.proofs.Reaching.{asked_none, asked_past, met_permits, nothing_asked, past_refused}
use Rattle.cluster.proofs.cluster.Cluster.check_span.Goals as goal

pub returns-then-len-eq0-clause-call : goal.returns-then-len-eq0-clause-call
returns-then-len-eq0-clause-call g c =
    let entries : List HomeEntry = those home_key (is_of c.args.pid.0) c.args.self.now.table.owners in
    nothing_asked g.W.Watch.told g.W.Watch.faults c.args.watch.now c.args.self.now c.args.by (asked_for c.args.start c.args.len entries) true
    (asked_none c.args.start c.args.len entries c.if-len-eq0.true) (sym c.halted.ensures ∙ c.in-None.is)

pub returns-then-is_past-clause-call : goal.returns-then-is_past-clause-call
returns-then-is_past-clause-call g c =
    let entries : List HomeEntry = those home_key (is_of c.args.pid.0) c.args.self.now.table.owners in
    let past : USER_END < c.args.start + c.args.len = ltb-true USER_END (c.args.start + c.args.len) (sym c.is_past.ensures ∙ c.if-is_past.true) in
    nothing_asked g.W.Watch.told g.W.Watch.faults c.args.watch.now c.args.self.now c.args.by (asked_for c.args.start c.args.len entries) false
    (asked_past c.args.start c.args.len entries past) (sym c.halted.ensures ∙ c.in-None.is)

pub returns-then-is_past-clause-answer : goal.returns-then-is_past-clause-answer
returns-then-is_past-clause-answer g c f stands user =
    let past : USER_END < c.args.start + c.args.len = ltb-true USER_END (c.args.start + c.args.len) (sym c.is_past.ensures ∙ c.if-is_past.true) in
    sym (past_refused c.args.self.now f stands c.args.pid.0 c.args.need.0 c.args.start c.args.len user (omega (arith, c.if-len-eq0.false)) past)

pub returns-in-Ok-clause-answer : goal.returns-in-Ok-clause-answer
returns-in-Ok-clause-answer g c f stands user =
    c.permits.ensures
    ∙ ap (λ (areas : List Area). permits (bare areas) c.args.need.0 c.args.start c.args.len) (c.as_slice.ensures ∙ c.in-Ok.ensures.areas f stands)
    ∙ met_permits c.args.self.now f stands c.args.pid.0 c.args.need.0 c.args.start c.args.len
