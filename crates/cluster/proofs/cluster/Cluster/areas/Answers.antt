use Rattle.std.proofs.Common.{◌≡◌, ◌∙◌, [], IfOk, List, refl, subst, sym}
use Rattle.lego_base.specs.Keys.{is_of, those}
use Rattle.lego_base.specs.declared.records.Area.{Area}
use Rattle.lego_base.specs.declared.records.HomeEntry.{HomeEntry}
use Rattle.lego_msg.specs.Maps.{home_key}
use Rattle.lego_msg.specs.Plain.{Plain}
use Rattle.cluster.specs.Askings.{AreOwned, areas_among, asks_of}
use Rattle.cluster.specs.Sequences.{CallsAll, all_served}
use Rattle.cluster.specs.Standing.{StandsFor}
use Rattle.cluster.proofs.Regionwise.{owned_those}
use Rattle.cluster.proofs.Progress.{lacks_in, starts}
use Rattle.cluster.proofs.cluster.Cluster.areas.Goals as goal

pub returns-in-Err-clause-call : goal.returns-in-Err-clause-call
returns-in-Err-clause-call g c =
    let entries : List HomeEntry = those home_key (is_of c.args.pid.0) c.args.self.now.table.owners in
    lacks_in g.W.Watch.told g.W.Watch.faults c.args.watch.now c.args.watch.now c.args.self.now c.args.self.now c.args.by [] (starts g.W.Watch.told g.W.Watch.faults c.args.watch.now c.args.self.now c.args.by (sym c.halted.ensures ∙ c.in-None.is))
    c.out_of_memory.new.self (asks_of entries) (asks_of entries) refl c.out_of_memory.ensures

pub ask_areas-requires-clause-owned : goal.ask_areas-requires-clause-owned
ask_areas-requires-clause-owned g c none =
    let rests = c.requires.rests none in
    subst (AreOwned c.args.self.now.table.owners) (sym (c.as_slice.ensures ∙ c.in-Ok.ensures)) (owned_those (is_of c.args.pid.0) c.args.self.now.table.owners rests.1.plain.rise)

pub returns-in-Ok-clause-call : goal.returns-in-Ok-clause-call
returns-in-Ok-clause-call g c =
    subst (λ (l : List HomeEntry). CallsAll g.W.Watch.told g.W.Watch.faults c.args.watch.now c.ask_areas.new.watch c.args.self.now c.ask_areas.new.self c.args.by (asks_of l) (λ (areas : List Area). all_served c.args.by (asks_of l)) c.ask_areas.result)
    (c.as_slice.ensures ∙ c.in-Ok.ensures) c.ask_areas.ensures.call

pub returns-in-Ok-clause-areas : goal.returns-in-Ok-clause-areas
returns-in-Ok-clause-areas g c =
    subst (λ (l : List HomeEntry). IfOk c.ask_areas.result (λ areas. (f : Plain) → StandsFor c.args.self.now f → areas ≡ areas_among f l))
    (c.as_slice.ensures ∙ c.in-Ok.ensures) c.ask_areas.ensures.areas
