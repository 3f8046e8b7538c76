-- What effects put out is what they write.
use Rattle.std.proofs.Common.{◌≡◌, ℕ, Bool, true, false, cond, ◌||◌, leb, refl, ◌∙◌, ap, List, [], ◌∷◌, length, Option, Some, None, is_some}
use Rattle.lego_base.specs.Files.{named, has_name}
use Rattle.rv64_step.specs.declared.cpu.Cpu.{Cpu}
use Rattle.kernel_objects.specs.declared.descriptor.Description.{Description}
use Rattle.kernel_objects.specs.declared.descriptor.Object.{Object}
use Rattle.kernel_objects.specs.declared.descriptor.Object.TheVariants.{PipeRead, PipeWrite}
use Rattle.kernel_objects.specs.Slots.{slot, freed}
use Rattle.linux_model.specs.Limits.{FILES}
use Rattle.linux_model.specs.State.{Kernel, Process, Written}
use Rattle.linux_model.specs.Processes.{process, fds_of, is_referred, has_reader, has_writer}
use Rattle.linux_model.specs.Effects.{Effect, MakesFile, FreesFile, Closes, Forks, apply, applies, desc_at, pipe_ends, object_ends, description_ends, let_go, forked}
use Rattle.plain_machine.specs.Shown.{after_put, after_puts, PutsAreWritten}

either : (b : Bool) (k l : Kernel) (w : Written) → k.written ≡ w → l.written ≡ w → (cond b k l).written ≡ w
either true k l w e f = e
either false k l w e f = f

pipe_writes : (pipe : ℕ) (k : Kernel) → (pipe_ends pipe k).written ≡ k.written
pipe_writes pipe k = either (has_reader pipe k.descs || has_writer pipe k.descs) k (record k { pipes = freed k.pipes pipe }) k.written refl refl

object_writes : (object : Object) (k : Kernel) → (object_ends object k).written ≡ k.written
object_writes (PipeRead pipe) k = pipe_writes pipe k
object_writes (PipeWrite pipe) k = pipe_writes pipe k
object_writes other k = refl

description_writes : (d : Option Description) (k : Kernel) → (description_ends d k).written ≡ k.written
description_writes None k = refl
description_writes (Some d) k = object_writes d.object k

let_go_writes : (desc : Option ℕ) (k : Kernel) → (let_go desc k).written ≡ k.written
let_go_writes None k = refl
let_go_writes (Some desc) k = either (is_referred desc k.procs) k _ k.written refl (description_writes (slot k.descs desc) (record k { descs = freed k.descs desc }))

forked_writes : (p : Option Process) (child : ℕ) (cpu : Cpu) (k : Kernel) → (forked p child cpu k).written ≡ k.written
forked_writes None child cpu k = refl
forked_writes (Some p) child cpu k = refl

one_writes : (e : Effect) (k : Kernel) → (apply e k).written ≡ after_put e k.written
one_writes (MakesFile name) k = either (is_some (named k.names name) || leb FILES (length k.files)) k _ k.written refl refl
one_writes (FreesFile file) k = either (has_name k.names file) k _ k.written refl refl
one_writes (Closes pid fd) k = let_go_writes (desc_at (slot (fds_of (process k.procs pid)) fd)) _
one_writes (Forks parent child cpu) k = forked_writes (process k.procs parent) child cpu k
one_writes e k = refl

all_write : (es : List Effect) (k : Kernel) → (applies es k).written ≡ after_puts es k.written
all_write [] k = refl
all_write (e ∷ es) k = all_write es (apply e k) ∙ ap (after_puts es) (one_writes e k)

pub puts_are_written : PutsAreWritten
puts_are_written = all_write
