use Rattle.std.proofs.Common.{refl}
use Rattle.lego_msg.specs.declared.operation.Operation.TheVariants.{FreesFile}
use Rattle.protocol_engine.specs.Beyond.{nothing_cached}
use Rattle.cluster.proofs.Granting.{granted_plain}
use Rattle.cluster.proofs.cluster.Cluster.file_free.Goals as goal

pub ask-requires : goal.ask-requires
ask-requires g c none =
    let rests = c.requires.rests none in
    record { plain = rests.0; caches = nothing_cached; granted = granted_plain c.args.self.now rests.0 c.args.by (FreesFile c.args.file) rests.1 c.requires.issuer tt (tt) (λ pid vpn. refl); fits = tt }
