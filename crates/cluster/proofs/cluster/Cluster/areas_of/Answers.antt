use Rattle.std.proofs.Common.{◌∙◌, refl, sym}
use Rattle.lego_msg.specs.declared.operation.Operation.TheVariants.{AsksAreas}
use Rattle.protocol_engine.specs.Beyond.{nothing_cached}
use Rattle.cluster.proofs.Calling.{same_areas_in}
use Rattle.cluster.proofs.Granting.{granted_plain}
use Rattle.cluster.proofs.cluster.Cluster.areas_of.Goals as goal

pub ask-requires : goal.ask-requires
ask-requires g c none =
    let rests = c.requires.rests none in
    record { plain = rests.0; caches = nothing_cached; granted = granted_plain c.args.self.now rests.0 c.args.by (AsksAreas c.args.pid c.args.region c.args.owner) rests.1 c.requires.issuer tt (c.requires.owned none) (λ pid vpn. refl); fits = tt }

pub areas_in-requires : goal.areas_in-requires
areas_in-requires g c =
    let none = c.in-Ok.ensures.goes.0 in
    let rests = c.requires.rests none in
    (_, c.in-Ok.ensures.serves.reply rests.0 (granted_plain c.args.self.now rests.0 c.args.by (AsksAreas c.args.pid c.args.region c.args.owner) rests.1 c.requires.issuer tt (c.requires.owned none) (λ pid vpn. refl)))

pub returns-in-Ok-clause-areas : goal.returns-in-Ok-clause-areas
returns-in-Ok-clause-areas g c =
    let none = c.in-Ok.ensures.goes.0 in
    λ f stands. same_areas_in (sym c.areas_in.ensures ∙ c.in-Ok.ensures.serves.reply f (granted_plain c.args.self.now f c.args.by (AsksAreas c.args.pid c.args.region c.args.owner) stands c.requires.issuer tt (c.requires.owned none) (λ pid vpn. refl)))
