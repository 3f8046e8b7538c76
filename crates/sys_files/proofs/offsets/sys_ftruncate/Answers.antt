use Rattle.std.proofs.Common.{subst}
use Rattle.kernel_objects.specs.declared.descriptor.Object.{Object}
use Rattle.linux_model.specs.Fits.{ObjectFits}
use Rattle.call_parts.proofs.Opened.{object_there}
use Rattle.sys_files.proofs.offsets.sys_ftruncate.Goals as goal

pub cut-requires-clause-there : goal.cut-requires-clause-there
cut-requires-clause-there g c =
    let man = c.args.man.now in
    let held = g.M.Machine.held c.args.machine.now in
    subst (λ (o : Object). ObjectFits held.files man.pipes o) c.in-Regular.is (object_there man held c.in-Some.open.desc c.in-Some.open.is c.requires.fit c.in-Some.ensures.there)
