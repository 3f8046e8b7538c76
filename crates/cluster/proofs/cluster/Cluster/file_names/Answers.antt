use Rattle.std.proofs.Common.{◌∙◌, refl, sym}
use Rattle.lego_msg.specs.declared.operation.Operation.TheVariants.{ListsNames}
use Rattle.protocol_engine.specs.Beyond.{nothing_cached}
use Rattle.cluster.proofs.Calling.{same_names_in}
use Rattle.cluster.proofs.Granting.{granted_plain}
use Rattle.cluster.proofs.cluster.Cluster.file_names.Goals as goal

pub ask-requires : goal.ask-requires
ask-requires g c none =
    let rests = c.requires.rests none in
    record { plain = rests.0; caches = nothing_cached; granted = granted_plain c.args.self.now rests.0 c.args.by ListsNames rests.1 c.requires.issuer tt (tt) (λ pid vpn. refl); fits = tt }

pub names_in-requires : goal.names_in-requires
names_in-requires g c =
    let none = c.in-Ok.ensures.goes.0 in
    let rests = c.requires.rests none in
    (_, c.in-Ok.ensures.serves.reply rests.0 (granted_plain c.args.self.now rests.0 c.args.by ListsNames rests.1 c.requires.issuer tt (tt) (λ pid vpn. refl)))

pub returns-in-Ok-clause-names : goal.returns-in-Ok-clause-names
returns-in-Ok-clause-names g c =
    λ f stands. same_names_in (sym c.names_in.ensures ∙ c.in-Ok.ensures.serves.reply f (granted_plain c.args.self.now f c.args.by ListsNames stands c.requires.issuer tt (tt) (λ pid vpn. refl)))
