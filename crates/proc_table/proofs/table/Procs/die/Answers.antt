use Rattle.std.proofs.Common.{rules, ◌≡◌, ◌∙◌, ℕ, List, ap, filter, map, take, drop, length, ◌++◌}
use Rattle.std.proofs.Math.Seq.{take-append_seam}
use Rattle.std.proofs.lemmas.Fn.{filter_same}
use Rattle.linux_model.specs.Processes.{after_death, heir, stays}
use Rattle.proc_table.specs.declared.entry.Entry.{Entry}
use Rattle.proc_table.specs.Changes.{after_one}
use Rattle.proc_table.specs.Entries.{Table, process_of}
use Rattle.proc_table.proofs.Mapped.{deaths, kept}
use Rattle.proc_table.proofs.table.Procs.die.Goals as goal

pub returns : goal.returns
returns c =
    let dead : ℕ = c.args.pid.0 in
    let status : ℕ = c.args.status in
    let before : List Entry = c.self.inside.entries.items in
    let mourned : map process_of c.mourn.new.entries ≡ map (after_one dead status (heir dead (map process_of before))) (map process_of before) = search rules in
    let all : c.self.inside.entries.len ≡ length c.mourn.new.entries = search rules in
    let written : take c.self.inside.entries.len (c.mourn.new.entries ++ drop (length c.mourn.new.entries) c.self.inside.entries.items) ≡ c.mourn.new.entries =
    ap (λ (n : ℕ). take n (c.mourn.new.entries ++ drop (length c.mourn.new.entries) c.self.inside.entries.items)) all
    ∙ take-append_seam c.mourn.new.entries (drop (length c.mourn.new.entries) c.self.inside.entries.items) in
    let left : c.retain.new.self.items ≡ filter (λ (e : Entry). stays (process_of e)) c.mourn.new.entries =
    filter_same _ (λ (e : Entry). stays (process_of e)) _ (λ x b q k. search rules) _ _ c.retain.ensures.filtered
    ∙ ap (filter (λ (e : Entry). stays (process_of e))) written in
    (λ i. record { procs = map process_of (left i); last = c.self.inside.last })
    ∙ (λ i. record { procs = kept stays c.mourn.new.entries i; last = c.self.inside.last })
    ∙ (λ i. record { procs = filter stays (mourned i); last = c.self.inside.last })
    ∙ (λ i. record { procs = filter stays (deaths dead status (heir dead (map process_of before)) (map process_of before) i); last = c.self.inside.last })
    ∙ ap (λ (t : Table). record t { procs = after_death dead status t.procs }) c.self.view_is
