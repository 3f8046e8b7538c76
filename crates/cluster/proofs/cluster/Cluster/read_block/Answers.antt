use Rattle.std.proofs.Common.{◌∙◌, refl, sym}
use Rattle.lego_msg.specs.declared.operation.Operation.TheVariants.{ReadsFile}
use Rattle.protocol_engine.specs.Beyond.{nothing_cached}
use Rattle.cluster.proofs.Calling.{same_bytes_in}
use Rattle.cluster.proofs.Granting.{granted_plain}
use Rattle.cluster.proofs.cluster.Cluster.read_block.Goals as goal

pub ask-requires : goal.ask-requires
ask-requires g c none =
    let rests = c.requires.rests none in
    record { plain = rests.0; caches = nothing_cached; granted = granted_plain c.args.self.now rests.0 c.args.by (ReadsFile c.args.file c.args.block c.args.off c.args.len) rests.1 c.requires.issuer tt ((rests.2, c.requires.within)) (λ pid vpn. refl); fits = tt }

pub bytes_in-requires : goal.bytes_in-requires
bytes_in-requires g c =
    let none = c.in-Ok.ensures.goes.0 in
    let rests = c.requires.rests none in
    (_, c.in-Ok.ensures.serves.reply rests.0 (granted_plain c.args.self.now rests.0 c.args.by (ReadsFile c.args.file c.args.block c.args.off c.args.len) rests.1 c.requires.issuer tt ((rests.2, c.requires.within)) (λ pid vpn. refl)))

pub returns-in-Ok-clause-bytes : goal.returns-in-Ok-clause-bytes
returns-in-Ok-clause-bytes g c =
    λ f stands fit. same_bytes_in (sym c.bytes_in.ensures ∙ c.in-Ok.ensures.serves.reply f (granted_plain c.args.self.now f c.args.by (ReadsFile c.args.file c.args.block c.args.off c.args.len) stands c.requires.issuer tt ((fit, c.requires.within)) (λ pid vpn. refl)))
