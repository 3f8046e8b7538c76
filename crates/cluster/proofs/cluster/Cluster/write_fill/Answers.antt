use Rattle.std.proofs.Common.{◌+◌, ◌*◌, Some, refl}
use Rattle.lego_msg.specs.declared.operation.Operation.TheVariants.{Writes}
use Rattle.lego_msg.specs.declared.operation.Origin.TheVariants.{Fill}
use Rattle.protocol_engine.specs.Beyond.{nothing_cached}
use Rattle.cluster.proofs.Granting.{granted_plain}
use Rattle.cluster.proofs.cluster.Cluster.write_fill.Goals as goal

pub ask-requires : goal.ask-requires
ask-requires g c none =
    let rests = c.requires.rests none in
    record {
      plain = rests.0;
      caches = record nothing_cached { filled = Some (record { pid = c.args.patch.pid.0; address = c.args.patch.vpn.0 * 4096 + c.args.patch.off; bytes = c.args.patch.bytes }) };
      granted = granted_plain c.args.self.now rests.0 c.args.by (Writes Fill c.args.patch c.args.owner) rests.1 c.requires.issuer tt (rests.2) (λ pid vpn. refl);
      fits = refl;
    }
