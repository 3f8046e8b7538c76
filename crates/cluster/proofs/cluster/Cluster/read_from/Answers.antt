use Rattle.std.proofs.Common.{◌∙◌, refl, sym}
use Rattle.lego_msg.specs.declared.operation.Operation.TheVariants.{Reads}
use Rattle.cluster.proofs.Calling.{is_line}
use Rattle.cluster.proofs.Granting.{granted_plain}
use Rattle.cluster.proofs.cluster.Cluster.read_from.Goals as goal

pub line_in-requires : goal.line_in-requires
line_in-requires g c =
    let none = c.in-Ok.ensures.goes.0 in
    let rests = c.requires.rests none in
    is_line _ _ _ _ (c.in-Ok.ensures.serves.reply rests.0 (granted_plain c.args.self.now rests.0 c.args.by (Reads c.args.pid c.args.line c.args.owner) rests.1 c.requires.issuer tt (c.requires.owned none) (λ pid vpn. refl)))

pub returns-in-Ok-clause-got : goal.returns-in-Ok-clause-got
returns-in-Ok-clause-got g c =
    let none = c.in-Ok.ensures.goes.0 in
    λ f stands. (sym c.line_in.ensures ∙ c.in-Ok.ensures.serves.reply f (granted_plain c.args.self.now f c.args.by (Reads c.args.pid c.args.line c.args.owner) stands c.requires.issuer tt (c.requires.owned none) (λ pid vpn. refl)))
