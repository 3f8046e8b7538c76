use Rattle.std.proofs.Common.{◌∙◌, [], List, ap, refl, subst, sym}
use Rattle.protocol_engine.specs.Beyond.{nothing_cached}
use Rattle.lego_msg.specs.Track.{memory_count}
use Rattle.lego_msg.specs.declared.body.Body.{Body}
use Rattle.lego_msg.specs.declared.operation.Operation.{Operation}
use Rattle.cluster.specs.Blocks.{all_bytes, reads_of}
use Rattle.cluster.specs.Sequences.{AreGrantedAt, AreReplies, MayAskAll, ReadNoLine}
use Rattle.cluster.proofs.Blockwise.{reads_caches, reads_fit, reads_give, reads_lines}
use Rattle.cluster.proofs.Progress.{lacks_in, starts}
use Rattle.cluster.proofs.cluster.Cluster.read_file.Goals as goal

pub returns-in-Err-clause-call : goal.returns-in-Err-clause-call
returns-in-Err-clause-call g c =
    lacks_in g.W.Watch.told g.W.Watch.faults c.args.watch.now c.args.watch.now c.args.self.now c.args.self.now c.args.by [] (starts g.W.Watch.told g.W.Watch.faults c.args.watch.now c.args.self.now c.args.by (sym c.halted.ensures ∙ c.in-None.is))
    c.out_of_memory.new.self (reads_of c.args.file c.args.off c.args.len) (reads_of c.args.file c.args.off c.args.len) refl c.out_of_memory.ensures

pub ask_all-requires-clause-may : goal.ask_all-requires-clause-may
ask_all-requires-clause-may g c none =
    let rests = c.requires.rests none in
    let may : MayAskAll c.args.self.now c.args.by (reads_of c.args.file c.args.off c.args.len) = record {
      plain = rests.0;
      caches = nothing_cached;
      granted = record {
        stands = rests.1;
        issuer = c.requires.issuer;
        drained = [];
        empty = tt;
        fit = reads_fit c.args.file c.args.off c.args.len (memory_count c.args.self.now.shape) c.args.self.now.table.owners rests.0 c.requires.most rests.2;
      };
      fits = reads_caches c.args.file c.args.off c.args.len c.args.by nothing_cached;
    } in
    subst (MayAskAll c.args.self.now c.args.by) (sym c.in-Ok.ensures) may

pub ask_all-requires-clause-lines : goal.ask_all-requires-clause-lines
ask_all-requires-clause-lines g c = subst ReadNoLine (sym c.in-Ok.ensures) (reads_lines c.args.file c.args.off c.args.len)

pub returns-in-Ok-all_bytes-clause-bytes : goal.returns-in-Ok-all_bytes-clause-bytes
returns-in-Ok-all_bytes-clause-bytes g c f stands there within =
    let granted : AreGrantedAt c.args.self.now f c.args.by (reads_of c.args.file c.args.off c.args.len) = record {
      stands = stands;
      issuer = c.requires.issuer;
      drained = [];
      empty = tt;
      fit = reads_fit c.args.file c.args.off c.args.len (memory_count c.args.self.now.shape) c.args.self.now.table.owners f c.requires.most there;
    } in
    let replies : AreReplies f (reads_of c.args.file c.args.off c.args.len) c.in-Ok-ask_all.answers.items
    = subst (λ (l : List Operation). AreReplies f l c.in-Ok-ask_all.answers.items) c.in-Ok.ensures
    (c.in-Ok-ask_all.ensures.replies f (subst (AreGrantedAt c.args.self.now f c.args.by) (sym c.in-Ok.ensures) granted)) in
    c.in-Ok-all_bytes.ensures ∙ ap (λ (l : List Body). all_bytes l) c.as_slice.ensures.value ∙ reads_give f c.args.file c.args.off c.args.len c.in-Ok-ask_all.answers.items replies within
