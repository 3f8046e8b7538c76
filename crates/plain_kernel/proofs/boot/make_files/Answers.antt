use Rattle.std.proofs.Common.{refl, subst, [], ◌∷◌, ◌+◌}
use Rattle.lego_base.specs.declared.report.FileOut.{FileOut}
use Rattle.linux_model.specs.Boot.{file_effects}
use Rattle.plain_machine.specs.Plain.{Did}
use Rattle.plain_kernel.proofs.Making.{one_more}
use Rattle.plain_kernel.proofs.boot.make_files.Goals as goal

pub loop-i-preserved : goal.loop-i-preserved
loop-i-preserved c =
    one_more c.args.files.now c.loop-i.i (c.loop-i.i + 1) c.index-files-i.result c.args.machine.now c.loop-i.machine c.make_file.new.machine refl c.loop-i-test.true c.requires.can c.loop-i.invariant
    (subst (λ (f : FileOut). Did c.loop-i.machine c.make_file.new.machine (file_effects c.loop-i.i (f ∷ []))) c.index-files-i.is c.in_ok-make_file.ensures.does)
