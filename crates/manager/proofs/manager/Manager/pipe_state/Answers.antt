use Rattle.std.proofs.Common.{◌∙◌, ap, ltb}
use Rattle.manager.specs.Counting.{reads_from, writes_to}
use Rattle.manager.specs.declared.pipes.PipeState.{PipeState}
use Rattle.linux_model.specs.Processes.{has_reader, has_writer}
use Rattle.linux_model.specs.Managed.{Managed}
use Rattle.manager.proofs.Held.{with_some}
use Rattle.manager.proofs.manager.Manager.pipe_state.Goals as goal

pub returns-clause-readers : goal.returns-clause-readers
returns-clause-readers c =
    ap (λ (s : PipeState). ltb 0 s.readers) c.state.ensures
    ∙ ap (ltb 0) (c.self.invariant.counted.reading c.args.pipe)
    ∙ with_some (reads_from c.args.pipe) c.self.inside.descs.descs
    ∙ ap (λ (m : Managed). has_reader c.args.pipe m.descs) c.self.view_is

pub returns-clause-writers : goal.returns-clause-writers
returns-clause-writers c =
    ap (λ (s : PipeState). ltb 0 s.writers) c.state.ensures
    ∙ ap (ltb 0) (c.self.invariant.counted.writing c.args.pipe)
    ∙ with_some (writes_to c.args.pipe) c.self.inside.descs.descs
    ∙ ap (λ (m : Managed). has_writer c.args.pipe m.descs) c.self.view_is
