use Rattle.std.proofs.Common.{subst}
use Rattle.kernel_objects.specs.declared.descriptor.Object.{Object}
use Rattle.kernel_objects.specs.declared.descriptor.Object.TheVariants.{Input, Regular, PipeRead}
use Rattle.linux_model.specs.FileCalls.{reads_object, reads_pieces}
use Rattle.linux_model.specs.Fits.{ObjectFits}
use Rattle.call_machine.specs.Lent.{kernel_of}
use Rattle.call_machine.proofs.Rows.{ends_handed, stops_handed}
use Rattle.call_parts.proofs.Opened.{object_there}
use Rattle.manager.specs.Words.{open_of}
use Rattle.sys_io.proofs.Moving.{object_read}
use Rattle.sys_io.proofs.reading.read_to.Goals as goal

pub read_file-requires-clause-file : goal.read_file-requires-clause-file
read_file-requires-clause-file g c =
    let man = c.args.man.now in
    let held = g.M.Machine.held c.args.machine.now in
    subst (λ (o : Object). ObjectFits held.files man.pipes o) c.in-Regular.is (object_there man held c.args.found.now.desc c.args.found.now.is c.requires.fit c.requires.there)

pub read_pipe-requires-clause-there : goal.read_pipe-requires-clause-there
read_pipe-requires-clause-there g c =
    let man = c.args.man.now in
    let held = g.M.Machine.held c.args.machine.now in
    subst (λ (o : Object). ObjectFits held.files man.pipes o) c.in-PipeRead.is (object_there man held c.args.found.now.desc c.args.found.now.is c.requires.fit c.requires.there)

pub returns-in-Input-clause-ends : goal.returns-in-Input-clause-ends
returns-in-Input-clause-ends g c k =
    ends_handed g.M.Machine.held g.M.Machine.does g.M.Machine.stops g.met.M.Machine.lawful c.args.machine.now c.read_input.new.machine c.args.man.now _ c.args.pid.0 (λ p k. reads_pieces p k (open_of c.args.found.now) c.args.pieces.now c.args.n) (λ p k. reads_object p k (open_of c.args.found.now) Input c.args.pieces.now c.args.n) c.read_input.result k
    (λ p own there. object_read p (kernel_of c.args.man.now (g.M.Machine.held c.args.machine.now) k) (open_of c.args.found.now) c.args.pieces.now c.args.n Input c.in-Input.is c.if-n-eq0.false)
    (c.read_input.ensures.ends k)

pub returns-in-Input-clause-stops : goal.returns-in-Input-clause-stops
returns-in-Input-clause-stops g c k =
    stops_handed g.M.Machine.held g.M.Machine.does g.M.Machine.stops g.met.M.Machine.lawful c.args.machine.now c.read_input.new.machine c.args.man.now c.args.pid.0 (λ p k. reads_pieces p k (open_of c.args.found.now) c.args.pieces.now c.args.n) (λ p k. reads_object p k (open_of c.args.found.now) Input c.args.pieces.now c.args.n) k
    (λ p own there. object_read p (kernel_of c.args.man.now (g.M.Machine.held c.args.machine.now) k) (open_of c.args.found.now) c.args.pieces.now c.args.n Input c.in-Input.is c.if-n-eq0.false)
    (c.read_input.ensures.stops k)

pub returns-in-Regular-clause-ends : goal.returns-in-Regular-clause-ends
returns-in-Regular-clause-ends g c k =
    ends_handed g.M.Machine.held g.M.Machine.does g.M.Machine.stops g.met.M.Machine.lawful c.args.machine.now c.read_file.new.machine c.args.man.now _ c.args.pid.0 (λ p k. reads_pieces p k (open_of c.args.found.now) c.args.pieces.now c.args.n) (λ p k. reads_object p k (open_of c.args.found.now) (Regular c.in-Regular.file) c.args.pieces.now c.args.n) c.read_file.result k
    (λ p own there. object_read p (kernel_of c.args.man.now (g.M.Machine.held c.args.machine.now) k) (open_of c.args.found.now) c.args.pieces.now c.args.n (Regular c.in-Regular.file) c.in-Regular.is c.if-n-eq0.false)
    (c.read_file.ensures.ends k)

pub returns-in-Regular-clause-stops : goal.returns-in-Regular-clause-stops
returns-in-Regular-clause-stops g c k =
    stops_handed g.M.Machine.held g.M.Machine.does g.M.Machine.stops g.met.M.Machine.lawful c.args.machine.now c.read_file.new.machine c.args.man.now c.args.pid.0 (λ p k. reads_pieces p k (open_of c.args.found.now) c.args.pieces.now c.args.n) (λ p k. reads_object p k (open_of c.args.found.now) (Regular c.in-Regular.file) c.args.pieces.now c.args.n) k
    (λ p own there. object_read p (kernel_of c.args.man.now (g.M.Machine.held c.args.machine.now) k) (open_of c.args.found.now) c.args.pieces.now c.args.n (Regular c.in-Regular.file) c.in-Regular.is c.if-n-eq0.false)
    (c.read_file.ensures.stops k)

pub returns-in-PipeRead-clause-ends : goal.returns-in-PipeRead-clause-ends
returns-in-PipeRead-clause-ends g c k =
    ends_handed g.M.Machine.held g.M.Machine.does g.M.Machine.stops g.met.M.Machine.lawful c.args.machine.now c.read_pipe.new.machine c.args.man.now _ c.args.pid.0 (λ p k. reads_pieces p k (open_of c.args.found.now) c.args.pieces.now c.args.n) (λ p k. reads_object p k (open_of c.args.found.now) (PipeRead c.in-PipeRead.pipe) c.args.pieces.now c.args.n) c.read_pipe.result k
    (λ p own there. object_read p (kernel_of c.args.man.now (g.M.Machine.held c.args.machine.now) k) (open_of c.args.found.now) c.args.pieces.now c.args.n (PipeRead c.in-PipeRead.pipe) c.in-PipeRead.is c.if-n-eq0.false)
    (c.read_pipe.ensures.ends k)

pub returns-in-PipeRead-clause-stops : goal.returns-in-PipeRead-clause-stops
returns-in-PipeRead-clause-stops g c k =
    stops_handed g.M.Machine.held g.M.Machine.does g.M.Machine.stops g.met.M.Machine.lawful c.args.machine.now c.read_pipe.new.machine c.args.man.now c.args.pid.0 (λ p k. reads_pieces p k (open_of c.args.found.now) c.args.pieces.now c.args.n) (λ p k. reads_object p k (open_of c.args.found.now) (PipeRead c.in-PipeRead.pipe) c.args.pieces.now c.args.n) k
    (λ p own there. object_read p (kernel_of c.args.man.now (g.M.Machine.held c.args.machine.now) k) (open_of c.args.found.now) c.args.pieces.now c.args.n (PipeRead c.in-PipeRead.pipe) c.in-PipeRead.is c.if-n-eq0.false)
    (c.read_pipe.ensures.stops k)
