-- What a run leaves.
use Rattle.std.specs.Prelude.{◌≡◌}
use Rattle.lego_base.specs.declared.report.Ended.{Ended}
use Rattle.linux_model.specs.Named.{files_named}
use Rattle.plain_kernel.specs.declared.kernel.PlainKernel.{PlainKernel}
use Rattle.plain_kernel.specs.declared.left.PlainEnd.{PlainEnd}

-- the end that was reached, the exits in their order, and the files that have a name
pub record Leaves (p : PlainKernel) (ended : Ended) (end : PlainEnd) : Type 0 where
  pub reached : end.ended ≡ ended
  pub exits : end.exits ≡ p.manager.exits
  pub files : end.files ≡ files_named p.machine.files.files p.machine.files.names
