use Rattle.std.proofs.Common.{rules, ◌∙◌, sym, map}
use Rattle.std.proofs.lemmas.List.{length-map}
use Rattle.proc_table.specs.Changes.{after_fd}
use Rattle.proc_table.specs.Entries.{process_of}
use Rattle.proc_table.proofs.Mapped.{one_more}
use Rattle.proc_table.proofs.table.put_fd.Goals as goal

pub loop-entry-preserved : goal.loop-entry-preserved
loop-entry-preserved c =
    one_more (after_fd c.args.pid.0 c.args.fd c.args.slot) (map process_of c.args.entries.now) c.loop-entry.entries c.loop-entry.entry-index c.entry-item.result c.takes_fd.new.entry
    (search rules) (length-map c.args.entries.now process_of ∙ sym c.loop-entry.auto.entries) c.loop-entry.invariant (search rules)
