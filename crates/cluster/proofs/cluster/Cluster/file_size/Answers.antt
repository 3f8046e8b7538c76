use Rattle.std.proofs.Common.{◌∙◌, refl, sym}
use Rattle.lego_msg.specs.declared.operation.Operation.TheVariants.{AsksSize}
use Rattle.protocol_engine.specs.Beyond.{nothing_cached}
use Rattle.cluster.proofs.Calling.{same_size_in}
use Rattle.cluster.proofs.Granting.{granted_plain}
use Rattle.cluster.proofs.cluster.Cluster.file_size.Goals as goal

pub ask-requires : goal.ask-requires
ask-requires g c none =
    let rests = c.requires.rests none in
    record { plain = rests.0; caches = nothing_cached; granted = granted_plain c.args.self.now rests.0 c.args.by (AsksSize c.args.file) rests.1 c.requires.issuer tt (rests.2) (λ pid vpn. refl); fits = tt }

pub size_in-requires : goal.size_in-requires
size_in-requires g c =
    let none = c.in-Ok.ensures.goes.0 in
    let rests = c.requires.rests none in
    (_, c.in-Ok.ensures.serves.reply rests.0 (granted_plain c.args.self.now rests.0 c.args.by (AsksSize c.args.file) rests.1 c.requires.issuer tt (rests.2) (λ pid vpn. refl)))

pub returns-in-Ok-clause-size : goal.returns-in-Ok-clause-size
returns-in-Ok-clause-size g c =
    λ f stands fit. same_size_in (sym c.size_in.ensures ∙ c.in-Ok.ensures.serves.reply f (granted_plain c.args.self.now f c.args.by (AsksSize c.args.file) stands c.requires.issuer tt (fit) (λ pid vpn. refl)))
