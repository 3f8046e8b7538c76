use Rattle.std.proofs.Common.{subst}
use Rattle.kernel_objects.specs.declared.descriptor.Object.{Object}
use Rattle.kernel_objects.specs.declared.descriptor.Object.TheVariants.{Output, Regular, PipeWrite}
use Rattle.linux_model.specs.FileCalls.{writes_object, writes_pieces}
use Rattle.linux_model.specs.Fits.{ObjectFits}
use Rattle.call_machine.specs.Lent.{kernel_of}
use Rattle.call_machine.proofs.Rows.{ends_handed, stops_handed}
use Rattle.call_parts.proofs.Opened.{object_there}
use Rattle.manager.specs.Words.{open_of}
use Rattle.sys_io.proofs.Sending.{object_written}
use Rattle.sys_io.proofs.writing.write_from.Goals as goal

pub write_file-requires-clause-file : goal.write_file-requires-clause-file
write_file-requires-clause-file g c =
    let man = c.args.man.now in
    let held = g.M.Machine.held c.args.machine.now in
    subst (λ (o : Object). ObjectFits held.files man.pipes o) c.in-Regular.is (object_there man held c.args.found.now.desc c.args.found.now.is c.requires.fit c.requires.there)

pub write_pipe-requires-clause-there : goal.write_pipe-requires-clause-there
write_pipe-requires-clause-there g c =
    let man = c.args.man.now in
    let held = g.M.Machine.held c.args.machine.now in
    subst (λ (o : Object). ObjectFits held.files man.pipes o) c.in-PipeWrite.is (object_there man held c.args.found.now.desc c.args.found.now.is c.requires.fit c.requires.there)

pub returns-in-Output-clause-ends : goal.returns-in-Output-clause-ends
returns-in-Output-clause-ends g c k =
    ends_handed g.M.Machine.held g.M.Machine.does g.M.Machine.stops g.met.M.Machine.lawful c.args.machine.now c.write_stream.new.machine c.args.man.now c.args.man.now c.args.pid.0 (λ p k. writes_pieces p k (open_of c.args.found.now) c.args.pieces.now c.args.n) (λ p k. writes_object p k (open_of c.args.found.now) (Output c.in-Output.stream) c.args.pieces.now c.args.n) c.write_stream.result k
    (λ p own there. object_written p (kernel_of c.args.man.now (g.M.Machine.held c.args.machine.now) k) (open_of c.args.found.now) c.args.pieces.now c.args.n (Output c.in-Output.stream) c.in-Output.is c.if-n-eq0.false)
    (c.write_stream.ensures.ends k)

pub returns-in-Output-clause-stops : goal.returns-in-Output-clause-stops
returns-in-Output-clause-stops g c k =
    stops_handed g.M.Machine.held g.M.Machine.does g.M.Machine.stops g.met.M.Machine.lawful c.args.machine.now c.write_stream.new.machine c.args.man.now c.args.pid.0 (λ p k. writes_pieces p k (open_of c.args.found.now) c.args.pieces.now c.args.n) (λ p k. writes_object p k (open_of c.args.found.now) (Output c.in-Output.stream) c.args.pieces.now c.args.n) k
    (λ p own there. object_written p (kernel_of c.args.man.now (g.M.Machine.held c.args.machine.now) k) (open_of c.args.found.now) c.args.pieces.now c.args.n (Output c.in-Output.stream) c.in-Output.is c.if-n-eq0.false)
    (c.write_stream.ensures.stops k)

pub returns-in-Regular-clause-ends : goal.returns-in-Regular-clause-ends
returns-in-Regular-clause-ends g c k =
    ends_handed g.M.Machine.held g.M.Machine.does g.M.Machine.stops g.met.M.Machine.lawful c.args.machine.now c.write_file.new.machine c.args.man.now _ c.args.pid.0 (λ p k. writes_pieces p k (open_of c.args.found.now) c.args.pieces.now c.args.n) (λ p k. writes_object p k (open_of c.args.found.now) (Regular c.in-Regular.file) c.args.pieces.now c.args.n) c.write_file.result k
    (λ p own there. object_written p (kernel_of c.args.man.now (g.M.Machine.held c.args.machine.now) k) (open_of c.args.found.now) c.args.pieces.now c.args.n (Regular c.in-Regular.file) c.in-Regular.is c.if-n-eq0.false)
    (c.write_file.ensures.ends k)

pub returns-in-Regular-clause-stops : goal.returns-in-Regular-clause-stops
returns-in-Regular-clause-stops g c k =
    stops_handed g.M.Machine.held g.M.Machine.does g.M.Machine.stops g.met.M.Machine.lawful c.args.machine.now c.write_file.new.machine c.args.man.now c.args.pid.0 (λ p k. writes_pieces p k (open_of c.args.found.now) c.args.pieces.now c.args.n) (λ p k. writes_object p k (open_of c.args.found.now) (Regular c.in-Regular.file) c.args.pieces.now c.args.n) k
    (λ p own there. object_written p (kernel_of c.args.man.now (g.M.Machine.held c.args.machine.now) k) (open_of c.args.found.now) c.args.pieces.now c.args.n (Regular c.in-Regular.file) c.in-Regular.is c.if-n-eq0.false)
    (c.write_file.ensures.stops k)

pub returns-in-PipeWrite-clause-ends : goal.returns-in-PipeWrite-clause-ends
returns-in-PipeWrite-clause-ends g c k =
    ends_handed g.M.Machine.held g.M.Machine.does g.M.Machine.stops g.met.M.Machine.lawful c.args.machine.now c.write_pipe.new.machine c.args.man.now _ c.args.pid.0 (λ p k. writes_pieces p k (open_of c.args.found.now) c.args.pieces.now c.args.n) (λ p k. writes_object p k (open_of c.args.found.now) (PipeWrite c.in-PipeWrite.pipe) c.args.pieces.now c.args.n) c.write_pipe.result k
    (λ p own there. object_written p (kernel_of c.args.man.now (g.M.Machine.held c.args.machine.now) k) (open_of c.args.found.now) c.args.pieces.now c.args.n (PipeWrite c.in-PipeWrite.pipe) c.in-PipeWrite.is c.if-n-eq0.false)
    (c.write_pipe.ensures.ends k)

pub returns-in-PipeWrite-clause-stops : goal.returns-in-PipeWrite-clause-stops
returns-in-PipeWrite-clause-stops g c k =
    stops_handed g.M.Machine.held g.M.Machine.does g.M.Machine.stops g.met.M.Machine.lawful c.args.machine.now c.write_pipe.new.machine c.args.man.now c.args.pid.0 (λ p k. writes_pieces p k (open_of c.args.found.now) c.args.pieces.now c.args.n) (λ p k. writes_object p k (open_of c.args.found.now) (PipeWrite c.in-PipeWrite.pipe) c.args.pieces.now c.args.n) k
    (λ p own there. object_written p (kernel_of c.args.man.now (g.M.Machine.held c.args.machine.now) k) (open_of c.args.found.now) c.args.pieces.now c.args.n (PipeWrite c.in-PipeWrite.pipe) c.in-PipeWrite.is c.if-n-eq0.false)
    (c.write_pipe.ensures.stops k)
