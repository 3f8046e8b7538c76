use Rattle.std.proofs.Common.{◌≡◌, ℕ, suc, ◌+◌, ◌-◌, ◌/◌, ◌<◌, length, drop, sym, ◌∙◌, ap, arith}
use Rattle.lego_base.specs.Space.{perms_of}
use Rattle.area_list.proofs.Lengths.{no_area}
use Rattle.area_list.proofs.Places.{at-run, past-run, between-runs}
use Rattle.area_list.proofs.search.perms_at.Goals as goal

pub returns-then-page-run-2 : goal.returns-then-page-run-2
returns-then-page-run-2 c =
    let middle : ℕ = c.loop-low.low + (c.loop-low.high - c.loop-low.low) / 2 in
    let inside : middle < length c.args.runs.now = omega arith in
    sym (at-run c.args.runs.now middle no_area c.args.page c.requires inside c.if-page-run.false (omega arith))

pub loop-low-preserved : goal.loop-low-preserved
loop-low-preserved c =
    let middle : ℕ = c.loop-low.low + (c.loop-low.high - c.loop-low.low) / 2 in
    let inside : middle < length c.args.runs.now = omega arith in
    record {
      order = omega arith;
      inside = c.loop-low.invariant.inside;
      left = ap (λ (n : ℕ). perms_of (drop n c.args.runs.now) c.args.page) (let e : middle + 1 ≡ suc middle = omega arith in e) ∙ past-run c.args.runs.now middle no_area c.args.page c.requires inside (omega arith);
      above = c.loop-low.invariant.above;
    }

pub returns : goal.returns
returns c =
    sym (between-runs c.args.runs.now c.loop-low.low no_area c.args.page c.requires (λ h. let e : c.loop-low.low ≡ c.loop-low.high = omega arith in rw e (c.loop-low.invariant.above (omega arith)))) ∙ c.loop-low.invariant.left
