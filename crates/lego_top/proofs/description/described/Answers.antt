use Rattle.std.proofs.Common.{ℕ, List, refl, sym, ◌∙◌, ap, subst}
use Rattle.desc_read.specs.Faults.{Fails}
use Rattle.desc_read.specs.Plans as plans
use Rattle.lego_top.specs.Outside.{with_depot}
use Rattle.lego_top.specs.Endings.{of_description}
use Rattle.lego_top.proofs.Causes.{quiet_depot, misdescribed, described_with}
use Rattle.lego_top.proofs.description.described.Goals as goal

pub returns-in_err-plan-clause-described : goal.returns-in_err-plan-clause-described
returns-in_err-plan-clause-described g c = λ world.
    described_with c.args.name.now (with_depot world (g.D.Depot.state c.args.depot.now)) (with_depot world (g.D.Depot.state c.fetch.new.depot)) c.from_residual-in_err-plan.result (of_description c.in_err-plan.field-0.0) c.from_residual-in_err-plan.ensures.1
    (misdescribed _ (with_depot world (g.D.Depot.state c.args.depot.now)) (with_depot world (g.D.Depot.state c.fetch.new.depot)) (record { name = c.args.name.now; bytes = c.in_ok-bytes.bytes; is_asked = refl; there = c.in_ok-bytes.ensures.fetched.0; fits = c.in_ok-bytes.ensures.fetched.1 }) c.in_err-plan.field-0.0 (quiet_depot world (g.D.Depot.state c.args.depot.now) (g.D.Depot.state c.fetch.new.depot) c.in_ok-bytes.ensures.same) refl
    (subst (λ (bytes : List ℕ). Fails c.in_err-plan.field-0.0 (plans.described bytes)) c.as_slice.ensures c.in_err-plan.ensures))

pub returns-clause-described : goal.returns-clause-described
returns-clause-described g c = λ world. (
  record {
    found = record { name = c.args.name.now; bytes = c.in_ok-bytes.bytes; is_asked = refl; there = c.in_ok-bytes.ensures.fetched.0; fits = c.in_ok-bytes.ensures.fetched.1 };
    plan = c.in_ok-plan.plan;
    reads = ap plans.described (sym c.as_slice.ensures) ∙ c.in_ok-plan.ensures;
  },
  refl,
)
