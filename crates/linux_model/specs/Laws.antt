-- What a reader may ask of the flat run.
use Rattle.std.specs.Prelude.{◌≡◌, ℕ, ◌+◌, true, false, List, [], ◌∷◌, ◌++◌}
use Rattle.lego_base.specs.declared.report.FileOut.{FileOut}
use Rattle.lego_base.specs.Space.{Space, no_space, with_space}
use Rattle.elf_image.specs.Image.{Program}
use Rattle.kernel_objects.specs.declared.piece.Piece.{Piece}
use Rattle.linux_model.specs.State.{Kernel, Written, joined, unbooted}
use Rattle.linux_model.specs.Effects.{Effect, applies}
use Rattle.linux_model.specs.Buffers.{asks_pieces, copies_in}
use Rattle.linux_model.specs.Paths.{text_at}
use Rattle.linux_model.specs.ProcessCalls.{list_at}
use Rattle.linux_model.specs.Loading.{loads_program, start_space}
use Rattle.linux_model.specs.Boot.{boot_of, file_effects, booted_process, streams}
use Rattle.linux_model.specs.Held.{Held, held_in, held_after, held_after_all, is_apart}
use Rattle.linux_model.specs.Managed.{Managed, managed_in, managed_after, managed_after_all}
use Rattle.linux_model.specs.Fits.{Fits, AllAllowed}
use Rattle.linux_model.specs.Turns.{Schedule, flat, flat_effects, is_over}

-- the run is what its effects, one after the other, make of the kernel that was booted
abbrev pub RunIsItsEffects : Type 0
RunIsItsEffects = (schedule : Schedule) (boot : Kernel) (n : ℕ) → applies (flat_effects schedule boot n) boot ≡ flat schedule boot n

-- later turns only add to what was written and to the exits
pub record Grows (old new : Kernel) : Type 0 where
  pub written : (more : Written) × (new.written ≡ joined old.written more)
  pub exits : (more : List _) × (new.exits ≡ old.exits ++ more)

abbrev pub OutputOnlyGrows : Type 0
OutputOnlyGrows = (schedule : Schedule) (boot : Kernel) (m n : ℕ) → Grows (flat schedule boot m) (flat schedule boot (m + n))

-- once no process lives, nothing changes any more
abbrev pub TheEndIsTheEnd : Type 0
TheEndIsTheEnd = (schedule : Schedule) (boot : Kernel) (m n : ℕ) → is_over (flat schedule boot m).procs ≡ true → flat schedule boot (m + n) ≡ flat schedule boot m

-- After turn 0 there are the description's files, as the effects of their making leave them, and process 1, which starts at
-- the program's entry in the program's space, with descriptors 0, 1 and 2 and no other one. Nothing was written.
abbrev pub BootingStartsTheFirst : Type 0
BootingStartsTheFirst =
    (program : Program) (args env : List (List ℕ)) (files : List FileOut) (input : List ℕ)
    → boot_of program args env files input ≡ record (applies (file_effects 0 files) (unbooted input)) {
      procs = booted_process program args env ∷ [];
      last = 1;
      space = with_space (λ pid. no_space) 1 (start_space program args env);
      descs = streams;
    }

-- Loading, page by page, comes to the space in which the program starts, for any process that has none.
abbrev pub LoadingBuildsTheSpace : Type 0
LoadingBuildsTheSpace = (pid : ℕ) (program : Program) (args env : List (List ℕ)) (k : Kernel) → k.space pid ≡ no_space → applies (loads_program pid program args env) k ≡ record k { space = with_space k.space pid (start_space program args env) }

-- effects that change nothing
abbrev pub Still : List Effect → Type 0
Still es = (k : Kernel) → applies es k ≡ k

-- the check of a buffer, the copies from one, and the reading of a path and of execve's lists change nothing
pub record LookingIsStill : Type 0 where
  pub checks : (pid : ℕ) (space : Space) (need : ℕ) (pieces : List Piece) → Still (asks_pieces pid space need pieces)
  pub copies : (pid : ℕ) (space : Space) (pieces : List Piece) → Still (copies_in pid space pieces)
  pub text : (pid : ℕ) (space : Space) (most address : ℕ) → Still (text_at pid space most address).reads
  pub strings : (pid : ℕ) (space : Space) (left address room : ℕ) → Still (list_at pid space left address room).reads

-- What effects make of spaces and files depends on spaces and files alone.
abbrev pub HeldGoesAlone : Type 0
HeldGoesAlone = (es : List Effect) (k : Kernel) → held_in (applies es k) ≡ held_after_all es (held_in k)

-- What is the manager's alone changes nothing of them.
abbrev pub ApartStays : Type 0
ApartStays = (e : Effect) (h : Held) → is_apart e ≡ true → held_after e h ≡ h

-- What effects make of the manager's part depends on that part alone, and an effect that isn't its own changes nothing of it.
pub record ManagedGoesAlone : Type 0 where
  pub alone : (es : List Effect) (k : Kernel) → managed_in (applies es k) ≡ managed_after_all es (managed_in k)
  pub others : (e : Effect) (m : Managed) → is_apart e ≡ false → managed_after e m ≡ m

-- ---- what holds of every kernel that a run reaches

-- An effect that is allowed keeps what fits.
abbrev pub AllowedKeepsWhatFits : Type 0
AllowedKeepsWhatFits = (es : List Effect) (k : Kernel) → AllAllowed es k → Fits k → Fits (applies es k)

-- Pids rise and are at most the last one, each descriptor names a description that is there, each description's file or pipe
-- is there, a process has 64 descriptors and a zombie none, each name's file is there, and numbers of files are below the
-- next: after every turn of every run.
abbrev pub EveryKernelFits : Type 0
EveryKernelFits =
    (schedule : Schedule) (program : Program) (args env : List (List ℕ)) (files : List FileOut) (input : List ℕ) (n : ℕ)
    → Fits (flat schedule (boot_of program args env files input) n)
