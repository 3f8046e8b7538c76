use Rattle.std.proofs.Common.{rules, ◌∙◌, ap, ℕ}
use Rattle.linux_model.specs.Processes.{dead_child, has_child}
use Rattle.proc_table.specs.Entries.{reaped_of}
use Rattle.sys_process.proofs.Waiting.{back_is}
use Rattle.sys_process.proofs.wait.find_child.Goals as goal

pub returns : goal.returns
returns c =
    c.child.ensures ∙ ap (λ (n : ℕ). reaped_of (has_child c.args.pid.0 n c.args.manager.now.procs) (dead_child c.args.pid.0 n c.args.manager.now.procs)) (back_is c.args.want c.cast_signed.result (search rules) c.cast_signed.ensures)
