-- What an effect makes of spaces and files depends on spaces and files alone.
use Rattle.std.proofs.Common.{◌≡◌, ℕ, Bool, true, false, cond, ◌||◌, leb, refl, sym, ◌∙◌, ap, List, [], ◌∷◌, ◌++◌, length, Option, Some, None, is_some}
use Rattle.lego_base.specs.Files.{named, has_name}
use Rattle.rv64_step.specs.declared.cpu.Cpu.{Cpu}
use Rattle.kernel_objects.specs.declared.descriptor.Description.{Description}
use Rattle.kernel_objects.specs.declared.descriptor.Object.{Object}
use Rattle.kernel_objects.specs.declared.descriptor.Object.TheVariants.{PipeRead, PipeWrite}
use Rattle.kernel_objects.specs.Slots.{slot, freed}
use Rattle.linux_model.specs.Limits.{FILES}
use Rattle.linux_model.specs.State.{Kernel, Process, unbooted}
use Rattle.linux_model.specs.Processes.{process, fds_of, at_pid, is_referred, has_reader, has_writer}
use Rattle.linux_model.specs.Effects.{Effect, Writes, Maps, Protects, Unmaps, Fills, Copies, Drops, MakesFile, Unlinks, FreesFile, WritesFile, CutsFile, Closes, Forks, apply, applies, desc_at, at_fd, pipe_ends, object_ends, description_ends, let_go, forked, closed}
use Rattle.linux_model.specs.Held.{Held, held_in, with_held, held_after, held_after_all, is_apart}

either : (b : Bool) (k l : Kernel) (h : Held) → held_in k ≡ h → held_in l ≡ h → held_in (cond b k l) ≡ h
either true k l h e f = e
either false k l h e f = f

-- a choice that both kernels make alike
alike : (b : Bool) (k k' l l' : Kernel) → held_in k ≡ held_in l → held_in k' ≡ held_in l' → held_in (cond b k k') ≡ held_in (cond b l l')
alike true k k' l l' e f = e
alike false k k' l l' e f = f

-- descriptors, descriptions and pipes are no part of it
pipe_apart : (pipe : ℕ) (k : Kernel) → held_in (pipe_ends pipe k) ≡ held_in k
pipe_apart pipe k = either (has_reader pipe k.descs || has_writer pipe k.descs) k (record k { pipes = freed k.pipes pipe }) (held_in k) refl refl

object_apart : (object : Object) (k : Kernel) → held_in (object_ends object k) ≡ held_in k
object_apart (PipeRead pipe) k = pipe_apart pipe k
object_apart (PipeWrite pipe) k = pipe_apart pipe k
object_apart other k = refl

description_apart : (d : Option Description) (k : Kernel) → held_in (description_ends d k) ≡ held_in k
description_apart None k = refl
description_apart (Some d) k = object_apart d.object k

let_go_apart : (desc : Option ℕ) (k : Kernel) → held_in (let_go desc k) ≡ held_in k
let_go_apart None k = refl
let_go_apart (Some desc) k = either (is_referred desc k.procs) k _ (held_in k) refl (description_apart (slot k.descs desc) (record k { descs = freed k.descs desc }))

pub closed_apart : (pid fd : ℕ) (k : Kernel) → held_in (closed pid fd k) ≡ held_in k
closed_apart pid fd k = let_go_apart (desc_at (slot (fds_of (process k.procs pid)) fd)) (record k { procs = at_pid pid (at_fd fd None) k.procs })

pub forked_apart : (p : Option Process) (child : ℕ) (cpu : Cpu) (k : Kernel) → held_in (forked p child cpu k) ≡ held_in k
forked_apart None child cpu k = refl
forked_apart (Some p) child cpu k = refl

pub goes_alone : (e : Effect) (k : Kernel) → held_in (apply e k) ≡ held_after e (held_in k)
goes_alone (MakesFile name) k = alike (is_some (named k.names name) || leb FILES (length k.files)) k _ (with_held (held_in k) (unbooted [])) _ refl refl
goes_alone (FreesFile file) k = alike (has_name k.names file) k _ (with_held (held_in k) (unbooted [])) _ refl refl
goes_alone (Closes pid fd) k = closed_apart pid fd k ∙ sym (closed_apart pid fd (with_held (held_in k) (unbooted [])))
goes_alone (Forks parent child cpu) k = forked_apart (process k.procs parent) child cpu k ∙ sym (forked_apart (process [] parent) child cpu (with_held (held_in k) (unbooted [])))
goes_alone e k = refl

all_alone : (es : List Effect) (k : Kernel) → held_in (applies es k) ≡ held_after_all es (held_in k)
all_alone [] k = refl
all_alone (e ∷ es) k = all_alone es (apply e k) ∙ ap (held_after_all es) (goes_alone e k)

pub held_goes_alone : (es : List Effect) (k : Kernel) → held_in (applies es k) ≡ held_after_all es (held_in k)
held_goes_alone = all_alone

-- what is the manager's alone changes nothing of it
pub apart_stays : (e : Effect) (h : Held) → is_apart e ≡ true → held_after e h ≡ h
apart_stays (Closes pid fd) h is = closed_apart pid fd (with_held h (unbooted []))
apart_stays (Forks parent child cpu) h is = forked_apart (process [] parent) child cpu (with_held h (unbooted []))
apart_stays (Writes kind pid address bytes) h is = cc is
apart_stays (Maps pid areas) h is = cc is
apart_stays (Protects pid first pages areas) h is = cc is
apart_stays (Unmaps pid first pages) h is = cc is
apart_stays (Fills pid address bytes) h is = cc is
apart_stays (Copies parent child) h is = cc is
apart_stays (Drops pid) h is = cc is
apart_stays (MakesFile name) h is = cc is
apart_stays (Unlinks name) h is = cc is
apart_stays (FreesFile file) h is = cc is
apart_stays (WritesFile file off bytes) h is = cc is
apart_stays (CutsFile file size) h is = cc is
apart_stays e h is = refl

pub after-append : (es fs : List Effect) (h : Held) → held_after_all (es ++ fs) h ≡ held_after_all fs (held_after_all es h)
after-append [] fs h = refl
after-append (e ∷ es) fs h = after-append es fs (held_after e h)
