use Rattle.std.proofs.Common.{◌∙◌, [], List, ap, refl, subst, sym}
use Rattle.protocol_engine.specs.Beyond.{nothing_cached}
use Rattle.lego_msg.specs.Track.{memory_count}
use Rattle.lego_msg.specs.declared.operation.Operation.{Operation}
use Rattle.cluster.specs.Blocks.{writes_of}
use Rattle.cluster.specs.Sequences.{AreGrantedAt, MayAskAll, ReadNoLine, effects}
use Rattle.cluster.specs.Standing.{StandsFor}
use Rattle.cluster.proofs.Blockwise.{writes_caches, writes_fit, writes_lines, writes_make}
use Rattle.cluster.proofs.Progress.{lacks_in, starts}
use Rattle.cluster.proofs.cluster.Cluster.write_file.Goals as goal

pub returns-in-Err-clause-call : goal.returns-in-Err-clause-call
returns-in-Err-clause-call g c =
    lacks_in g.W.Watch.told g.W.Watch.faults c.args.watch.now c.args.watch.now c.args.self.now c.args.self.now c.args.by [] (starts g.W.Watch.told g.W.Watch.faults c.args.watch.now c.args.self.now c.args.by (sym c.halted.ensures ∙ c.in-None.is))
    c.out_of_memory.new.self (writes_of c.args.file c.args.off c.args.bytes.now) (writes_of c.args.file c.args.off c.args.bytes.now) refl c.out_of_memory.ensures

pub ask_all-requires-clause-may : goal.ask_all-requires-clause-may
ask_all-requires-clause-may g c none =
    let rests = c.requires.rests none in
    let may : MayAskAll c.args.self.now c.args.by (writes_of c.args.file c.args.off c.args.bytes.now) = record {
      plain = rests.0;
      caches = nothing_cached;
      granted = record {
        stands = rests.1;
        issuer = c.requires.issuer;
        drained = [];
        empty = tt;
        fit = writes_fit c.args.file c.args.off c.args.bytes.now (memory_count c.args.self.now.shape) c.args.self.now.table.owners rests.0 c.requires.most rests.2;
      };
      fits = writes_caches c.args.file c.args.off c.args.bytes.now c.args.by nothing_cached;
    } in
    subst (MayAskAll c.args.self.now c.args.by) (sym c.in-Ok.ensures) may

pub ask_all-requires-clause-lines : goal.ask_all-requires-clause-lines
ask_all-requires-clause-lines g c = subst ReadNoLine (sym c.in-Ok.ensures) (writes_lines c.args.file c.args.off c.args.bytes.now)

pub returns-in-Ok-ask_all-clause-stands : goal.returns-in-Ok-ask_all-clause-stands
returns-in-Ok-ask_all-clause-stands g c f stands there =
    let granted : AreGrantedAt c.args.self.now f c.args.by (writes_of c.args.file c.args.off c.args.bytes.now) = record {
      stands = stands;
      issuer = c.requires.issuer;
      drained = [];
      empty = tt;
      fit = writes_fit c.args.file c.args.off c.args.bytes.now (memory_count c.args.self.now.shape) c.args.self.now.table.owners f c.requires.most there;
    } in
    subst (StandsFor c.ask_all.new.self) (ap (λ (l : List Operation). effects l f) c.in-Ok.ensures ∙ writes_make c.args.file c.args.off c.args.bytes.now f there)
    (c.in-Ok-ask_all.ensures.call.serves.stands f (subst (AreGrantedAt c.args.self.now f c.args.by) (sym c.in-Ok.ensures) granted))
