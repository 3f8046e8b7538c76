use Rattle.std.proofs.Common.{List, ℕ, ◌+◌, Ok, sym, subst}
use Rattle.std.proofs.lemmas.List.{at_drop_all}
use Rattle.lego_base.specs.declared.report.FileOut.{FileOut}
use Rattle.desc_read.specs.declared.plan.FileFrom.{FileFrom}
use Rattle.lego_top.specs.Stages.{Unfetched, Fetched}
use Rattle.lego_top.proofs.Fetching.{FetchedSoFar, all_fetched, fetched_with, not_fetched_next, one_fetched}
use Rattle.lego_top.proofs.depot_file.fetch_files.Goals as goal

pub returns-in_err-bytes-clause-fetched : goal.returns-in_err-bytes-clause-fetched
returns-in_err-bytes-clause-fetched g c =
    let old = g.D.Depot.state c.args.depot.now in
    let now = g.D.Depot.state c.loop-source.depot in
    let new = g.D.Depot.state c.fetch.new.depot in
    fetched_with old new c.args.sources.now c.from_residual.result c.in_err-bytes.field-0.0 c.from_residual.ensures.1
    (not_fetched_next old now c.args.sources.now c.loop-source.source-index c.loop-source.files c.loop-source.invariant c.source-item.result c.loop-source-test.true c.source-item.is new c.fetch.ensures.later c.in_err-bytes.field-0.0
    (subst (λ (name : List ℕ). Unfetched now new name c.in_err-bytes.field-0.0) c.as_str.ensures c.in_err-bytes.ensures.fetched))

pub loop-source-preserved : goal.loop-source-preserved
loop-source-preserved g c =
    let old = g.D.Depot.state c.args.depot.now in
    let now = g.D.Depot.state c.loop-source.depot in
    let new = g.D.Depot.state c.fetch.new.depot in
    subst (λ (files : List FileOut). FetchedSoFar old new c.args.sources.now (c.loop-source.source-index + 1) files) (sym c.in_ok-add.ensures)
    (one_fetched old now c.args.sources.now c.loop-source.source-index c.loop-source.files c.loop-source.invariant c.source-item.result c.loop-source-test.true c.source-item.is new c.fetch.ensures.later c.in_ok-bytes.bytes c.fetch.ensures.same
    (subst (λ (name : List ℕ). Fetched now new name (Ok c.in_ok-bytes.bytes)) c.as_str.ensures c.in_ok-bytes.ensures.fetched))

pub returns-clause-fetched : goal.returns-clause-fetched
returns-clause-fetched g c =
    all_fetched (g.D.Depot.state c.args.depot.now) (g.D.Depot.state c.loop-source.depot) c.args.sources.now c.loop-source.source-index c.loop-source.files c.loop-source.invariant
    (at_drop_all (λ (sources : List FileFrom). sources) c.args.sources.now c.loop-source.source-index c.loop-source-test.false)
