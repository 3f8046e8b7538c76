use Rattle.std.proofs.Common.{◌++◌, ◌∙◌, List, ap, sym}
use Rattle.area_list.specs.Runs.{above, below}
use Rattle.lego_base.specs.declared.records.Area.{Area}
use Rattle.cluster.proofs.Cutting.{cut_apart}
use Rattle.cluster.proofs.cuts.cut.Goals as goal

pub returns : goal.returns
returns c =
    c.in_ok-add_above.ensures ∙ ap (λ (l : List Area). l ++ above c.args.high c.args.runs.now) (c.in_ok-add_below.ensures ∙ ap (λ (l : List Area). l ++ below c.args.low c.args.runs.now) c.new-left.ensures)
    ∙ sym (cut_apart c.args.low c.args.high c.args.runs.now c.requires.canonical c.requires.some c.requires.end)
