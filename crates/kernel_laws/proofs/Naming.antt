-- What a process's own effects leave of names: each file that they make has a short one.
use Rattle.std.proofs.Common.{ℕ, ◌+◌, ◌≤◌, ◌||◌, List, [], ◌∷◌, length, Option, Some, None}
use Rattle.std.specs.Prelude.{All}
use Rattle.std.proofs.lemmas.List.Elements.{All-head, All-tail}
use Rattle.lego_base.specs.declared.report.FileOut.{FileOut}
use Rattle.lego_base.specs.Files.{file_bytes, has_name, without_file}
use Rattle.lego_base.specs.Pieces.{of_size, written_at}
use Rattle.kernel_objects.specs.declared.descriptor.Description.{Description}
use Rattle.kernel_objects.specs.declared.descriptor.Object.{Object}
use Rattle.kernel_objects.specs.declared.descriptor.Object.TheVariants.{PipeRead, PipeWrite}
use Rattle.kernel_objects.specs.Slots.{slot, freed}
use Rattle.linux_model.specs.Limits.{NAME_BYTES}
use Rattle.linux_model.specs.State.{Kernel}
use Rattle.linux_model.specs.Processes.{process, fds_of, at_pid, is_referred, has_reader, has_writer}
use Rattle.linux_model.specs.Effects.{Effect, Copies, Starts, Forks, MakesFile, Unlinks, FreesFile, WritesFile, CutsFile, Closes, apply, applies, desc_at, at_fd, object_ends, description_ends, let_go, closed}
use Rattle.linux_model.specs.Boot.{file_effects}
use Rattle.kernel_laws.proofs.Own.{Own, AllOwn}
use Rattle.kernel_laws.proofs.Names.{Holds, either_holds, new_holds, unlinked_holds, changed_holds, freed_holds}

-- ---- closing leaves names and files

object_holds : (object : Object) (k : Kernel) → Holds k → Holds (object_ends object k)
object_holds (PipeRead pipe) k h = either_holds (has_reader pipe k.descs || has_writer pipe k.descs) k (record k { pipes = freed k.pipes pipe }) h (λ e. h)
object_holds (PipeWrite pipe) k h = either_holds (has_reader pipe k.descs || has_writer pipe k.descs) k (record k { pipes = freed k.pipes pipe }) h (λ e. h)
object_holds other k h = h

description_holds : (d : Option Description) (k : Kernel) → Holds k → Holds (description_ends d k)
description_holds None k h = h
description_holds (Some d) k h = object_holds d.object k h

let_go_holds : (desc : Option ℕ) (k : Kernel) → Holds k → Holds (let_go desc k)
let_go_holds None k h = h
let_go_holds (Some desc) k h =
    let l : Kernel = record k { descs = freed k.descs desc } in
    either_holds (is_referred desc k.procs) k (description_ends (slot k.descs desc) l) h (λ e. description_holds (slot k.descs desc) l h)

closed_holds : (pid fd : ℕ) (k : Kernel) → Holds k → Holds (closed pid fd k)
closed_holds pid fd k h = let_go_holds (desc_at (slot (fds_of (process k.procs pid)) fd)) (record k { procs = at_pid pid (at_fd fd None) k.procs }) h

-- ---- effects

own_hold : (e : Effect) (pid : ℕ) (k : Kernel) → Own pid e → Holds k → Holds (apply e k)
own_hold (MakesFile name) pid k own h = new_holds name k own h
own_hold (Unlinks name) pid k own h = unlinked_holds name k h
own_hold (FreesFile file) pid k own h = either_holds (has_name k.names file) k (record k { files = without_file file k.files }) h (λ e. freed_holds file k h)
own_hold (WritesFile file off bytes) pid k own h = changed_holds file (written_at (file_bytes k.files file) off bytes) k h
own_hold (CutsFile file size) pid k own h = changed_holds file (of_size size (file_bytes k.files file)) k h
own_hold (Closes q fd) pid k own h = closed_holds q fd k h
own_hold (Copies parent child) pid k own h = absurd own
own_hold (Starts q cpu brk) pid k own h = absurd own
own_hold (Forks parent child cpu) pid k own h = absurd own
own_hold e pid k own h = h

pub all_own_hold : (es : List Effect) (pid : ℕ) (k : Kernel) → AllOwn pid es → Holds k → Holds (applies es k)
all_own_hold [] pid k own h = h
all_own_hold (e ∷ es) pid k own h = all_own_hold es pid (apply e k) own.1 (own_hold e pid k own.0 h)

-- ---- files that are there from the start

pub files_own : (pid number : ℕ) (files : List FileOut) → All (λ file. length file.name ≤ NAME_BYTES) files → AllOwn pid (file_effects number files)
files_own pid number [] short = tt
files_own pid number (f ∷ files) short =
    (All-head (λ (file : FileOut). length file.name ≤ NAME_BYTES) f files short, (tt, files_own pid (number + 1) files (All-tail (λ (file : FileOut). length file.name ≤ NAME_BYTES) f files short)))
