-- What fits still fits after an effect that is allowed.
use Rattle.std.proofs.Common.{◌≡◌, ℕ, ◌+◌, ◌<◌, Bool, true, false, cond, leb, ◌||◌, refl, ap, List, [], ◌∷◌, ◌++◌, length, drop, Option, Some, None, is_some, arith}
use Rattle.lego_base.specs.Files.{File, with_file_bytes, without_file, file_bytes, named, has_name, with_name}
use Rattle.lego_base.specs.Pieces.{of_size, written_at}
use Rattle.rv64_step.specs.declared.cpu.Cpu.{Cpu}
use Rattle.kernel_objects.specs.declared.descriptor.Description.{Description}
use Rattle.kernel_objects.specs.declared.descriptor.FdEntry.{FdEntry}
use Rattle.kernel_objects.specs.declared.descriptor.Object.{Object}
use Rattle.kernel_objects.specs.declared.descriptor.Object.TheVariants.{PipeRead, PipeWrite}
use Rattle.kernel_objects.specs.Slots.{slot, freed, next_slot, with_next}
use Rattle.linux_model.specs.Limits.{FILES}
use Rattle.linux_model.specs.State.{Kernel, Process}
use Rattle.linux_model.specs.Processes.{at_pid, process, fds_of, is_referred, has_reader, has_writer, first_process, child_of}
use Rattle.linux_model.specs.Effects.{Effect, MakesFile, Unlinks, FreesFile, WritesFile, CutsFile, Opens, Shares, Closes, Seeks, MakesPipe, PutsPipe, TakesPipe, Goes, Returns, Keeps, Breaks, Starts, Forks, Dies, Reaps, apply, applies, at_fd, desc_at, pipe_ends, object_ends, description_ends, let_go, forked, pipe_bytes}
use Rattle.linux_model.specs.Fits.{Fits, ProcessFits, Allowed, AllAllowed}
use Rattle.linux_model.proofs.fits.Slots.{slot_set, next_keeps, next_holds, parts_false}
use Rattle.linux_model.proofs.fits.Processes.{pids_at, pids_filter, pids_more, procs_each, procs_grow, procs_open, procs_without, procs_filter, procs_more, closes_fits, death_rises, death_fits, process_fits, child_fits}
use Rattle.linux_model.proofs.fits.Files.{descs_grow, descs_next, descs_free, descs_sought, descs_without, descs_freed, sought_keeps, more_files, last_file, same_files, names_grow, names_freed, names_with, names_without, numbers_more, numbers_same, numbers_without}

fits_choice : (b : Bool) (k l : Kernel) → (b ≡ true → Fits k) → (b ≡ false → Fits l) → Fits (cond b k l)
fits_choice true k l f g = f refl
fits_choice false k l f g = g refl

-- a change of one process that keeps its pid, and that it fits
each_fits : (k : Kernel) (f : Process → Process) → ((p : Process) → (f p).pid ≡ p.pid) → ((p : Process) → ProcessFits k.descs p → ProcessFits k.descs (f p)) → (pid : ℕ) → Fits k → Fits (record k { procs = at_pid pid f k.procs })
each_fits k f same keeps pid g = record {
  pids = pids_at f same pid 0 k.last k.procs g.pids;
  procs_fit = procs_each k.descs f keeps pid k.procs g.procs_fit;
  descs_fit = g.descs_fit;
  names_fit = g.names_fit;
  numbers = g.numbers;
}

pipes_fit : (k : Kernel) (pipes : List (Option (List ℕ))) → ((n : ℕ) → is_some (slot k.pipes n) ≡ true → is_some (slot pipes n) ≡ true) → Fits k → Fits (record k { pipes = pipes })
pipes_fit k pipes more f = record {
  pids = f.pids;
  procs_fit = f.procs_fit;
  descs_fit = descs_grow k.files k.files k.pipes pipes (λ n is. is) more k.descs f.descs_fit;
  names_fit = f.names_fit;
  numbers = f.numbers;
}

bytes_fit : (k : Kernel) (file : ℕ) (bytes : List ℕ) → Fits k → Fits (record k { files = with_file_bytes k.files file bytes })
bytes_fit k file bytes f = record {
  pids = f.pids;
  procs_fit = f.procs_fit;
  descs_fit = descs_grow k.files (with_file_bytes k.files file bytes) k.pipes k.pipes (same_files k.files file bytes) (λ n is. is) k.descs f.descs_fit;
  names_fit = names_grow k.files (with_file_bytes k.files file bytes) (same_files k.files file bytes) k.names f.names_fit;
  numbers = numbers_same k.next k.files file bytes f.numbers;
}

new_file : (k : Kernel) (name : List ℕ) → Fits k → Fits (record k { files = k.files ++ record { file = k.next; bytes = [] } ∷ []; names = with_name (record { name = name; file = record { 0 = k.next } }) k.names; next = k.next + 1 })
new_file k name f =
    let made : File = record { file = k.next; bytes = [] } in
    record {
      pids = f.pids;
      procs_fit = f.procs_fit;
      descs_fit = descs_grow k.files (k.files ++ made ∷ []) k.pipes k.pipes (more_files k.files made) (λ n is. is) k.descs f.descs_fit;
      names_fit = names_with (k.files ++ made ∷ []) (record { name = name; file = record { 0 = k.next } }) k.names (last_file k.files made) (names_grow k.files (k.files ++ made ∷ []) (more_files k.files made) k.names f.names_fit);
      numbers = numbers_more k.next k.files made f.numbers (omega arith);
    }

freed_file : (k : Kernel) (file : ℕ) → Allowed (FreesFile file) k → has_name k.names file ≡ false → Fits k → Fits (record k { files = without_file file k.files })
freed_file k file none unnamed f = record {
  pids = f.pids;
  procs_fit = f.procs_fit;
  descs_fit = descs_freed k.files k.pipes file k.descs none f.descs_fit;
  names_fit = names_freed k.files file k.names unnamed f.names_fit;
  numbers = numbers_without k.next file k.files f.numbers;
}

opened_fits : (k : Kernel) (pid fd : ℕ) (object : Object) (flags : ℕ) (cloexec : Bool) → Allowed (Opens pid fd object flags cloexec) k → Fits k → Fits (apply (Opens pid fd object flags cloexec) k)
opened_fits k pid fd object flags cloexec allowed f =
    let d : Description = record { object = object; offset = 0; flags = flags } in
    let e : FdEntry = record { desc = next_slot k.descs; cloexec = cloexec } in
    record {
      pids = pids_at (at_fd fd (Some e)) (λ p. refl) pid 0 k.last k.procs f.pids;
      procs_fit = procs_open (with_next d k.descs) pid fd e k.procs allowed.1 (ap (λ (o : Option Description). is_some o) (next_holds d k.descs)) (procs_grow k.descs (with_next d k.descs) (next_keeps d k.descs) k.procs f.procs_fit);
      descs_fit = descs_next k.files k.pipes d k.descs allowed.0 f.descs_fit;
      names_fit = f.names_fit;
      numbers = f.numbers;
    }

shared_fits : (k : Kernel) (pid fd desc : ℕ) (cloexec : Bool) → Allowed (Shares pid fd desc cloexec) k → Fits k → Fits (apply (Shares pid fd desc cloexec) k)
shared_fits k pid fd desc cloexec allowed f =
    let e : FdEntry = record { desc = desc; cloexec = cloexec } in
    record {
      pids = pids_at (at_fd fd (Some e)) (λ p. refl) pid 0 k.last k.procs f.pids;
      procs_fit = procs_open k.descs pid fd e k.procs allowed.1 allowed.0 f.procs_fit;
      descs_fit = f.descs_fit;
      names_fit = f.names_fit;
      numbers = f.numbers;
    }

-- ---- the end of a description

pipe_fits : (pipe : ℕ) (k : Kernel) → Fits k → Fits (pipe_ends pipe k)
pipe_fits pipe k f =
    fits_choice (has_reader pipe k.descs || has_writer pipe k.descs) k (record k { pipes = freed k.pipes pipe }) (λ some. f)
    (λ none. let parts = parts_false (has_reader pipe k.descs) (has_writer pipe k.descs) none in record {
      pids = f.pids;
      procs_fit = f.procs_fit;
      descs_fit = descs_without k.files k.pipes pipe k.descs parts.0 parts.1 f.descs_fit;
      names_fit = f.names_fit;
      numbers = f.numbers;
    })

object_fits : (object : Object) (k : Kernel) → Fits k → Fits (object_ends object k)
object_fits (PipeRead pipe) k f = pipe_fits pipe k f
object_fits (PipeWrite pipe) k f = pipe_fits pipe k f
object_fits other k f = f

description_fits : (d : Option Description) (k : Kernel) → Fits k → Fits (description_ends d k)
description_fits None k f = f
description_fits (Some d) k f = object_fits d.object k f

let_go_fits : (desc : Option ℕ) (k : Kernel) → Fits k → Fits (let_go desc k)
let_go_fits None k f = f
let_go_fits (Some desc) k f =
    fits_choice (is_referred desc k.procs) k _ (λ some. f)
    (λ none. description_fits (slot k.descs desc) (record k { descs = freed k.descs desc }) (record {
      pids = f.pids;
      procs_fit = procs_without k.descs desc k.procs none f.procs_fit;
      descs_fit = descs_free k.files k.pipes k.descs desc f.descs_fit;
      names_fit = f.names_fit;
      numbers = f.numbers;
    }))

forked_fits : (p : Option Process) (parent child : ℕ) (cpu : Cpu) (k : Kernel) → process k.procs parent ≡ p → k.last < child → Fits k → Fits (forked p child cpu k)
forked_fits None parent child cpu k e new f = f
forked_fits (Some p) parent child cpu k e new f = record {
  pids = pids_more 0 k.last child k.procs (child_of p child cpu) f.pids (omega arith) new refl;
  procs_fit = procs_more k.descs k.procs (child_of p child cpu) f.procs_fit (child_fits k.descs p child cpu (process_fits k.descs k.procs parent p f.procs_fit e));
  descs_fit = f.descs_fit;
  names_fit = f.names_fit;
  numbers = f.numbers;
}

-- ---- all effects

pub one_keeps : (e : Effect) (k : Kernel) → Allowed e k → Fits k → Fits (apply e k)
one_keeps (MakesFile name) k allowed f = fits_choice (is_some (named k.names name) || leb FILES (length k.files)) k _ (λ full. f) (λ room. new_file k name f)
one_keeps (Unlinks name) k allowed f = record { pids = f.pids; procs_fit = f.procs_fit; descs_fit = f.descs_fit; names_fit = names_without k.files name k.names f.names_fit; numbers = f.numbers }
one_keeps (FreesFile file) k allowed f = fits_choice (has_name k.names file) k _ (λ stays. f) (λ goes. freed_file k file allowed goes f)
one_keeps (WritesFile file off bytes) k allowed f = bytes_fit k file (written_at (file_bytes k.files file) off bytes) f
one_keeps (CutsFile file size) k allowed f = bytes_fit k file (of_size size (file_bytes k.files file)) f
one_keeps (Opens pid fd object flags cloexec) k allowed f = opened_fits k pid fd object flags cloexec allowed f
one_keeps (Shares pid fd desc cloexec) k allowed f = shared_fits k pid fd desc cloexec allowed f
one_keeps (Closes pid fd) k allowed f =
    let_go_fits (desc_at (slot (fds_of (process k.procs pid)) fd)) (record k { procs = at_pid pid (at_fd fd None) k.procs })
    (each_fits k (at_fd fd None) (λ p. refl) (closes_fits k.descs fd) pid f)
one_keeps (Seeks desc offset) k allowed f = record {
  pids = f.pids;
  procs_fit = procs_grow k.descs _ (sought_keeps k.descs desc offset) k.procs f.procs_fit;
  descs_fit = descs_sought k.files k.pipes k.descs desc offset f.descs_fit;
  names_fit = f.names_fit;
  numbers = f.numbers;
}
one_keeps MakesPipe k allowed f = pipes_fit k (with_next [] k.pipes) (next_keeps [] k.pipes) f
one_keeps (PutsPipe pipe bytes) k allowed f = pipes_fit k _ (λ n is. slot_set k.pipes pipe n (pipe_bytes pipe k ++ bytes) is) f
one_keeps (TakesPipe pipe n) k allowed f = pipes_fit k _ (λ m is. slot_set k.pipes pipe m (drop n (pipe_bytes pipe k)) is) f
one_keeps (Goes pid cpu) k allowed f = each_fits k (λ p. record p { cpu = cpu }) (λ p. refl) (λ p g. record { slots = g.slots; entries = g.entries; zombie = g.zombie }) pid f
one_keeps (Returns pid cpu) k allowed f = each_fits k (λ p. record p { cpu = cpu; waiting = None }) (λ p. refl) (λ p g. record { slots = g.slots; entries = g.entries; zombie = g.zombie }) pid f
one_keeps (Keeps pid moved len) k allowed f = each_fits k (λ p. record p { waiting = Some (record { moved = moved; len = len }) }) (λ p. refl) (λ p g. record { slots = g.slots; entries = g.entries; zombie = g.zombie }) pid f
one_keeps (Breaks pid base now) k allowed f = each_fits k (λ p. record p { brk = record { base = base; now = now } }) (λ p. refl) (λ p g. record { slots = g.slots; entries = g.entries; zombie = g.zombie }) pid f
one_keeps (Starts pid cpu brk) k allowed f = record {
  pids = pids_more 0 k.last pid k.procs (first_process pid cpu brk) f.pids (omega arith) allowed refl;
  procs_fit = procs_more k.descs k.procs (first_process pid cpu brk) f.procs_fit (record { slots = refl; entries = tt; zombie = λ dead. refl });
  descs_fit = f.descs_fit;
  names_fit = f.names_fit;
  numbers = f.numbers;
}
one_keeps (Forks parent child cpu) k allowed f = forked_fits (process k.procs parent) parent child cpu k refl allowed f
one_keeps (Dies pid status) k allowed f = record {
  pids = death_rises pid status k.last k.procs f.pids;
  procs_fit = death_fits k.descs pid status k.procs allowed f.procs_fit;
  descs_fit = f.descs_fit;
  names_fit = f.names_fit;
  numbers = f.numbers;
}
one_keeps (Reaps pid) k allowed f = record {
  pids = pids_filter _ 0 k.last k.procs f.pids;
  procs_fit = procs_filter k.descs _ k.procs f.procs_fit;
  descs_fit = f.descs_fit;
  names_fit = f.names_fit;
  numbers = f.numbers;
}
one_keeps e k allowed f = f

pub all_keep : (es : List Effect) (k : Kernel) → AllAllowed es k → Fits k → Fits (applies es k)
all_keep [] k allowed f = f
all_keep (e ∷ es) k allowed f = all_keep es (apply e k) allowed.1 (one_keeps e k allowed.0 f)
