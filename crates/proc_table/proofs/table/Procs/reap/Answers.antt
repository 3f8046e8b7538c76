use Rattle.std.proofs.Common.{rules, ◌≡◌, ◌==◌, ◌∙◌, ℕ, ap, filter, map, not}
use Rattle.std.proofs.lemmas.Fn.{filter_same}
use Rattle.linux_model.specs.Processes.{without_process}
use Rattle.proc_table.specs.declared.entry.Entry.{Entry}
use Rattle.proc_table.specs.Entries.{Table, process_of}
use Rattle.proc_table.proofs.Mapped.{kept}
use Rattle.proc_table.proofs.table.Procs.reap.Goals as goal

pub returns-in-Child-clause-gone : goal.returns-in-Child-clause-gone
returns-in-Child-clause-gone c =
    let pid : ℕ = c.in-Child.pid.0 in
    let left : c.retain.new.self.items ≡ filter (λ (e : Entry). not ((process_of e).pid == pid)) c.self.inside.entries.items =
    filter_same _ (λ (e : Entry). not ((process_of e).pid == pid)) _ (λ x b q k. search rules) _ _ c.retain.ensures.filtered in
    (λ i. record { procs = map process_of (left i); last = c.self.inside.last })
    ∙ (λ i. record { procs = kept (λ p. not (p.pid == pid)) c.self.inside.entries.items i; last = c.self.inside.last })
    ∙ ap (λ (t : Table). record t { procs = without_process pid t.procs }) c.self.view_is
