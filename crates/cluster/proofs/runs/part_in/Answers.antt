use Rattle.std.proofs.Common.{◌≤◌, ◌*◌, ◌∙◌, arith, sym}
use Rattle.area_list.proofs.Canonical.{canonical-within}
use Rattle.lego_base.specs.declared.sizes.TheConstants.{PAGES_END}
use Rattle.cluster.proofs.Parts.{part_past}
use Rattle.cluster.proofs.runs.part_in.Goals as goal

pub returns-then-region-ge-REGIONS : goal.returns-then-region-ge-REGIONS
returns-then-region-ge-REGIONS c =
    let least = c.if-region-ge-REGIONS.true in
    let past : PAGES_END ≤ c.args.region.0 * 512 = omega (arith, least) in
    c.new.ensures ∙ sym (part_past c.args.region.0 0 c.args.runs.now (canonical-within c.args.runs.now c.requires) past)
