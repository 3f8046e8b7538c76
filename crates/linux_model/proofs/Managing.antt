-- What an effect makes of the manager's part depends on that part alone.
use Rattle.std.proofs.Common.{◌≡◌, ℕ, Bool, true, false, cond, ◌||◌, leb, refl, sym, ◌∙◌, ap, List, [], ◌∷◌, ◌++◌, length, Option, Some, None, is_some}
use Rattle.lego_base.specs.Files.{named, has_name}
use Rattle.rv64_step.specs.declared.cpu.Cpu.{Cpu}
use Rattle.kernel_objects.specs.declared.descriptor.Description.{Description}
use Rattle.kernel_objects.specs.declared.descriptor.Object.{Object}
use Rattle.kernel_objects.specs.declared.descriptor.Object.TheVariants.{PipeRead, PipeWrite}
use Rattle.kernel_objects.specs.Slots.{slot, freed}
use Rattle.linux_model.specs.Limits.{FILES}
use Rattle.linux_model.specs.State.{Kernel, Process, unbooted}
use Rattle.linux_model.specs.Processes.{process, fds_of, at_pid, is_referred, has_reader, has_writer}
use Rattle.linux_model.specs.Effects.{Effect, Opens, Shares, Closes, Seeks, MakesPipe, PutsPipe, TakesPipe, Takes, Goes, Returns, Keeps, Breaks, Starts, Forks, Dies, Reaps, MakesFile, FreesFile, apply, applies, desc_at, at_fd, pipe_ends, object_ends, description_ends, let_go, forked, closed, with_new_file}
use Rattle.linux_model.specs.Held.{is_apart}
use Rattle.linux_model.specs.Managed.{Managed, managed_in, with_managed, managed_after, managed_after_all}

-- the manager's part with nothing beside it
abbrev bare : Kernel → Kernel
bare k = with_managed (managed_in k) (unbooted [])

-- a choice that both kernels make alike
alike : (b : Bool) (k k' l l' : Kernel) → managed_in k ≡ managed_in l → managed_in k' ≡ managed_in l' → managed_in (cond b k k') ≡ managed_in (cond b l l')
alike true k k' l l' e f = e
alike false k k' l l' e f = f

same : (b : Bool) (k l : Kernel) → managed_in k ≡ managed_in l → managed_in (cond b k l) ≡ managed_in k
same true k l e = refl
same false k l e = sym e

pipe_alone : (pipe : ℕ) (k : Kernel) → managed_in (pipe_ends pipe k) ≡ managed_in (pipe_ends pipe (bare k))
pipe_alone pipe k = alike (has_reader pipe k.descs || has_writer pipe k.descs) k (record k { pipes = freed k.pipes pipe }) (bare k) (bare (record k { pipes = freed k.pipes pipe })) refl refl

object_alone : (object : Object) (k : Kernel) → managed_in (object_ends object k) ≡ managed_in (object_ends object (bare k))
object_alone (PipeRead pipe) k = pipe_alone pipe k
object_alone (PipeWrite pipe) k = pipe_alone pipe k
object_alone other k = refl

description_alone : (d : Option Description) (k : Kernel) → managed_in (description_ends d k) ≡ managed_in (description_ends d (bare k))
description_alone None k = refl
description_alone (Some d) k = object_alone d.object k

let_go_alone : (desc : Option ℕ) (k : Kernel) → managed_in (let_go desc k) ≡ managed_in (let_go desc (bare k))
let_go_alone None k = refl
let_go_alone (Some desc) k =
    let l : Kernel = record k { descs = freed k.descs desc } in
    alike (is_referred desc k.procs) k (description_ends (slot k.descs desc) l) (bare k) (description_ends (slot k.descs desc) (bare l)) refl (description_alone (slot k.descs desc) l)

pub closed_alone : (pid fd : ℕ) (k : Kernel) → managed_in (closed pid fd k) ≡ managed_in (closed pid fd (bare k))
closed_alone pid fd k = let_go_alone (desc_at (slot (fds_of (process k.procs pid)) fd)) (record k { procs = at_pid pid (at_fd fd None) k.procs })

forked_alone : (p : Option Process) (child : ℕ) (cpu : Cpu) (k : Kernel) → managed_in (forked p child cpu k) ≡ managed_in (forked p child cpu (bare k))
forked_alone None child cpu k = refl
forked_alone (Some p) child cpu k = refl

new_file_apart : (name : List ℕ) (k : Kernel) → managed_in (with_new_file name k) ≡ managed_in k
new_file_apart name k = same (is_some (named k.names name) || leb FILES (length k.files)) k _ refl

freed_apart : (file : ℕ) (k : Kernel) → managed_in (apply (FreesFile file) k) ≡ managed_in k
freed_apart file k = same (has_name k.names file) k _ refl

pub managed_alone : (e : Effect) (k : Kernel) → managed_in (apply e k) ≡ managed_after e (managed_in k)
managed_alone (MakesFile name) k = new_file_apart name k ∙ sym (new_file_apart name (bare k))
managed_alone (FreesFile file) k = freed_apart file k ∙ sym (freed_apart file (bare k))
managed_alone (Closes pid fd) k = closed_alone pid fd k
managed_alone (Forks parent child cpu) k = forked_alone (process k.procs parent) child cpu k
managed_alone e k = refl

pub managed_goes_alone : (es : List Effect) (k : Kernel) → managed_in (applies es k) ≡ managed_after_all es (managed_in k)
managed_goes_alone [] k = refl
managed_goes_alone (e ∷ es) k = managed_goes_alone es (apply e k) ∙ ap (managed_after_all es) (managed_alone e k)

-- what isn't the manager's alone changes nothing of it
pub others_stay : (e : Effect) (m : Managed) → is_apart e ≡ false → managed_after e m ≡ m
others_stay (Opens pid fd object flags cloexec) m is = cc is
others_stay (Shares pid fd desc cloexec) m is = cc is
others_stay (Closes pid fd) m is = cc is
others_stay (Seeks desc offset) m is = cc is
others_stay MakesPipe m is = cc is
others_stay (PutsPipe pipe bytes) m is = cc is
others_stay (TakesPipe pipe n) m is = cc is
others_stay (Takes n) m is = cc is
others_stay (Goes pid cpu) m is = cc is
others_stay (Returns pid cpu) m is = cc is
others_stay (Keeps pid moved len) m is = cc is
others_stay (Breaks pid base now) m is = cc is
others_stay (Starts pid cpu brk) m is = cc is
others_stay (Forks parent child cpu) m is = cc is
others_stay (Dies pid status) m is = cc is
others_stay (Reaps pid) m is = cc is
others_stay (MakesFile name) m is = new_file_apart name (with_managed m (unbooted []))
others_stay (FreesFile file) m is = freed_apart file (with_managed m (unbooted []))
others_stay e m is = refl

pub managed-append : (es fs : List Effect) (m : Managed) → managed_after_all (es ++ fs) m ≡ managed_after_all fs (managed_after_all es m)
managed-append [] fs m = refl
managed-append (e ∷ es) fs m = managed-append es fs (managed_after e m)
