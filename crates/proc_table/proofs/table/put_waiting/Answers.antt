use Rattle.std.proofs.Common.{rules, ◌∙◌, sym, map}
use Rattle.std.proofs.lemmas.List.{length-map}
use Rattle.proc_table.specs.Changes.{after_waiting}
use Rattle.proc_table.specs.Entries.{process_of}
use Rattle.proc_table.proofs.Mapped.{one_more}
use Rattle.proc_table.proofs.table.put_waiting.Goals as goal

pub loop-entry-preserved : goal.loop-entry-preserved
loop-entry-preserved c =
    one_more (after_waiting c.args.pid.0 c.args.waiting) (map process_of c.args.entries.now) c.loop-entry.entries c.loop-entry.entry-index c.entry-item.result c.takes_waiting.new.entry
    (search rules) (length-map c.args.entries.now process_of ∙ sym c.loop-entry.auto.entries) c.loop-entry.invariant (search rules)
