use Rattle.std.proofs.Common.{◌∙◌, refl, sym}
use Rattle.lego_msg.specs.declared.operation.Operation.TheVariants.{Finds}
use Rattle.protocol_engine.specs.Beyond.{nothing_cached}
use Rattle.cluster.proofs.Calling.{same_owner_in}
use Rattle.cluster.proofs.Granting.{granted_plain}
use Rattle.cluster.proofs.cluster.Cluster.find.Goals as goal

pub ask-requires : goal.ask-requires
ask-requires g c none =
    let rests = c.requires.rests none in
    record { plain = rests.0; caches = nothing_cached; granted = granted_plain c.args.self.now rests.0 c.args.by (Finds c.args.pid c.args.region) rests.1 c.requires.issuer tt (tt) (λ pid vpn. refl); fits = tt }

pub owner_in-requires : goal.owner_in-requires
owner_in-requires g c =
    let none = c.in-Ok.ensures.goes.0 in
    let rests = c.requires.rests none in
    (_, c.in-Ok.ensures.serves.reply rests.0 (granted_plain c.args.self.now rests.0 c.args.by (Finds c.args.pid c.args.region) rests.1 c.requires.issuer tt (tt) (λ pid vpn. refl)))

pub returns-in-Ok-clause-owner : goal.returns-in-Ok-clause-owner
returns-in-Ok-clause-owner g c =
    λ f stands. same_owner_in (sym c.owner_in.ensures ∙ c.in-Ok.ensures.serves.reply f (granted_plain c.args.self.now f c.args.by (Finds c.args.pid c.args.region) stands c.requires.issuer tt (tt) (λ pid vpn. refl)))
