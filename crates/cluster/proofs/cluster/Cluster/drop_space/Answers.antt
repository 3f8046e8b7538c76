use Rattle.std.proofs.Common.{◌≡◌, ◌∙◌, [], ℕ, Err, List, Ok, ap, refl, subst, sym}
use Rattle.protocol_engine.specs.Beyond.{nothing_cached}
use Rattle.lego_msg.specs.Track.{memory_count}
use Rattle.lego_msg.specs.declared.operation.Operation.{Operation}
use Rattle.cluster.specs.Dropping.{drops_of}
use Rattle.cluster.specs.Sequences.{AreGrantedAt, CallsAll, MayAskAll, ReadNoLine, all_free, all_served, effects, owners_after_all}
use Rattle.cluster.specs.Standing.{StandsFor}
use Rattle.cluster.proofs.Dropping.{drops_caches, drops_end, drops_fit, drops_leave, drops_lines}
use Rattle.cluster.proofs.Progress.{hands_end, hands_halt, lacks_in, starts}
use Rattle.cluster.proofs.cluster.Cluster.drop_space.Goals as goal

pub returns-in-Err-clause-call : goal.returns-in-Err-clause-call
returns-in-Err-clause-call g c =
    let all : List Operation = drops_of (memory_count c.args.self.now.shape) c.args.pid in
    lacks_in g.W.Watch.told g.W.Watch.faults c.args.watch.now c.args.watch.now c.args.self.now c.args.self.now c.args.by [] (starts g.W.Watch.told g.W.Watch.faults c.args.watch.now c.args.self.now c.args.by (sym c.halted.ensures ∙ c.in-None.is))
    c.out_of_memory.new.self all all refl c.out_of_memory.ensures

pub ask_all-requires-clause-may : goal.ask_all-requires-clause-may
ask_all-requires-clause-may g c none =
    let rests = c.requires.rests none in
    let n : ℕ = memory_count c.args.self.now.shape in
    let may : MayAskAll c.args.self.now c.args.by (drops_of n c.args.pid) = record {
      plain = rests.0;
      caches = nothing_cached;
      granted = record {
        stands = rests.1;
        issuer = c.requires.issuer;
        drained = [];
        empty = tt;
        fit = drops_fit n c.args.self.now.table.owners rests.0 c.args.pid;
      };
      fits = drops_caches n c.args.pid c.args.by nothing_cached;
    } in
    subst (MayAskAll c.args.self.now c.args.by) (sym (c.in-Ok.ensures ∙ ap (λ (k : ℕ). drops_of k c.args.pid) (c.memories.ensures none))) may

pub ask_all-requires-clause-lines : goal.ask_all-requires-clause-lines
ask_all-requires-clause-lines g c = subst ReadNoLine (sym c.in-Ok.ensures) (drops_lines c.memories.result c.args.pid)

pub returns-in-Err-ask_all-clause-call : goal.returns-in-Err-ask_all-clause-call
returns-in-Err-ask_all-clause-call g c =
    let is : c.in-Ok.operations.items ≡ drops_of (memory_count c.args.self.now.shape) c.args.pid = c.in-Ok.ensures ∙ ap (λ (k : ℕ). drops_of k c.args.pid) (c.memories.ensures (sym c.halted.ensures ∙ c.in-None.is)) in
    subst (λ (l : List Operation). CallsAll {X = Unit {0}} g.W.Watch.told g.W.Watch.faults c.args.watch.now c.ask_all.new.watch c.args.self.now c.ask_all.new.self c.args.by l (λ done. all_served c.args.by l) (Err c.in-Err-ask_all.halt)) is
    (hands_halt g.W.Watch.told g.W.Watch.faults c.args.self.now.table c.args.self.now.table c.args.watch.now c.ask_all.new.watch c.args.self.now c.ask_all.new.self c.args.by (all_free c.in-Ok.operations.items)
    (λ answers. all_served c.args.by c.in-Ok.operations.items) (λ done. all_served c.args.by c.in-Ok.operations.items) c.in-Err-ask_all.halt c.in-Err-ask_all.ensures.call)

pub returns-in-Ok-ask_all-clause-call : goal.returns-in-Ok-ask_all-clause-call
returns-in-Ok-ask_all-clause-call g c =
    let is : c.in-Ok.operations.items ≡ drops_of (memory_count c.args.self.now.shape) c.args.pid = c.in-Ok.ensures ∙ ap (λ (k : ℕ). drops_of k c.args.pid) (c.memories.ensures (sym c.halted.ensures ∙ c.in-None.is)) in
    subst (λ (l : List Operation). CallsAll {X = Unit {0}} g.W.Watch.told g.W.Watch.faults c.args.watch.now c.ask_all.new.watch c.args.self.now c.ask_all.new.self c.args.by l (λ done. all_served c.args.by l) (Ok tt)) is
    (hands_end g.W.Watch.told g.W.Watch.faults c.args.self.now.table c.args.watch.now c.ask_all.new.watch c.args.self.now c.ask_all.new.self c.args.by (all_free c.in-Ok.operations.items)
    (λ answers. all_served c.args.by c.in-Ok.operations.items) (λ done. all_served c.args.by c.in-Ok.operations.items) _ _ (λ b. refl) c.in-Ok-ask_all.ensures.call)

pub returns-in-Ok-ask_all-clause-stands : goal.returns-in-Ok-ask_all-clause-stands
returns-in-Ok-ask_all-clause-stands g c f stands =
    let n : ℕ = memory_count c.args.self.now.shape in
    let is : c.in-Ok.operations.items ≡ drops_of n c.args.pid = c.in-Ok.ensures ∙ ap (λ (k : ℕ). drops_of k c.args.pid) (c.memories.ensures (sym c.halted.ensures ∙ c.in-None.is)) in
    let granted : AreGrantedAt c.args.self.now f c.args.by (drops_of n c.args.pid) = record {
      stands = stands;
      issuer = c.requires.issuer;
      drained = [];
      empty = tt;
      fit = drops_fit n c.args.self.now.table.owners f c.args.pid;
    } in
    subst (StandsFor c.ask_all.new.self) (ap (λ (l : List Operation). effects l f) is ∙ drops_leave n c.args.pid f)
    (c.in-Ok-ask_all.ensures.call.serves.stands f (subst (AreGrantedAt c.args.self.now f c.args.by) (sym is) granted))

pub returns-in-Ok-ask_all-clause-owners : goal.returns-in-Ok-ask_all-clause-owners
returns-in-Ok-ask_all-clause-owners g c =
    c.in-Ok-ask_all.ensures.call.serves.owners ∙ ap (λ (l : List Operation). owners_after_all (all_free l) c.args.self.now.table.owners) c.in-Ok.ensures
    ∙ drops_end c.memories.result c.args.pid c.args.self.now.table.owners
