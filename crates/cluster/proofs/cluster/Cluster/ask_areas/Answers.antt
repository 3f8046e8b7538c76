use Rattle.std.proofs.Common.{◌∙◌, [], List, ap, refl, subst, sym}
use Rattle.protocol_engine.specs.Beyond.{nothing_cached}
use Rattle.lego_msg.specs.Track.{memory_count}
use Rattle.lego_msg.specs.declared.body.Body.{Body}
use Rattle.lego_msg.specs.declared.operation.Operation.{Operation}
use Rattle.cluster.specs.Askings.{all_runs, asks_of}
use Rattle.cluster.specs.Sequences.{AreGrantedAt, AreReplies, MayAskAll, ReadNoLine}
use Rattle.cluster.proofs.Regionwise.{asks_caches, asks_fit, asks_lines, asks_say}
use Rattle.cluster.proofs.Progress.{lacks_in, starts}
use Rattle.cluster.proofs.cluster.Cluster.ask_areas.Goals as goal

pub returns-in-Err-clause-call : goal.returns-in-Err-clause-call
returns-in-Err-clause-call g c =
    lacks_in g.W.Watch.told g.W.Watch.faults c.args.watch.now c.args.watch.now c.args.self.now c.args.self.now c.args.by [] (starts g.W.Watch.told g.W.Watch.faults c.args.watch.now c.args.self.now c.args.by (sym c.halted.ensures ∙ c.in-None.is))
    c.out_of_memory.new.self (asks_of c.args.entries.now) (asks_of c.args.entries.now) refl c.out_of_memory.ensures

pub ask_all-requires-clause-may : goal.ask_all-requires-clause-may
ask_all-requires-clause-may g c none =
    let rests = c.requires.rests none in
    let may : MayAskAll c.args.self.now c.args.by (asks_of c.args.entries.now) = record {
      plain = rests.0;
      caches = nothing_cached;
      granted = record {
        stands = rests.1;
        issuer = c.requires.issuer;
        drained = [];
        empty = tt;
        fit = asks_fit (memory_count c.args.self.now.shape) c.args.self.now.table.owners rests.0 c.args.entries.now (c.requires.owned none);
      };
      fits = asks_caches c.args.entries.now c.args.by nothing_cached;
    } in
    subst (MayAskAll c.args.self.now c.args.by) (sym c.in-Ok.ensures) may

pub ask_all-requires-clause-lines : goal.ask_all-requires-clause-lines
ask_all-requires-clause-lines g c = subst ReadNoLine (sym c.in-Ok.ensures) (asks_lines c.args.entries.now)

pub returns-in-Ok-all_runs-clause-areas : goal.returns-in-Ok-all_runs-clause-areas
returns-in-Ok-all_runs-clause-areas g c f stands =
    let granted : AreGrantedAt c.args.self.now f c.args.by (asks_of c.args.entries.now) = record {
      stands = stands;
      issuer = c.requires.issuer;
      drained = [];
      empty = tt;
      fit = asks_fit (memory_count c.args.self.now.shape) c.args.self.now.table.owners f c.args.entries.now (c.requires.owned (sym c.halted.ensures ∙ c.in-None.is));
    } in
    let replies : AreReplies f (asks_of c.args.entries.now) c.in-Ok-ask_all.answers.items
    = subst (λ (l : List Operation). AreReplies f l c.in-Ok-ask_all.answers.items) c.in-Ok.ensures
    (c.in-Ok-ask_all.ensures.replies f (subst (AreGrantedAt c.args.self.now f c.args.by) (sym c.in-Ok.ensures) granted)) in
    c.in-Ok-all_runs.ensures ∙ ap (λ (l : List Body). all_runs l) c.as_slice.ensures.value ∙ asks_say f c.args.entries.now c.in-Ok-ask_all.answers.items replies
