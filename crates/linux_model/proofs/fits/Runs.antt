-- Every kernel that a run reaches fits.
use Rattle.std.proofs.Common.{◌≡◌, ℕ, zero, suc, ◌+◌, ◌-◌, ◌<◌, Bool, true, false, cond, eqb, ◌%◌, ◌⊎◌, inl, inr, slice_index, mod-lt, refl, sym, ◌∙◌, ap, subst, List, [], ◌∷◌, ◌++◌, length, Option, Some, None, arith}
use Rattle.lego_base.specs.declared.report.FileOut.{FileOut}
use Rattle.elf_image.specs.Image.{Program}
use Rattle.rv64_step.specs.declared.cpu.StepEnd.{StepEnd}
use Rattle.rv64_step.specs.declared.cpu.StepEnd.TheVariants.{Next, Call as AtCall, Dead as DeadBy}
use Rattle.rv64_step.specs.Meaning.{next_pc, with_reg}
use Rattle.kernel_objects.specs.declared.process.Waiting.{Waiting}
use Rattle.linux_model.specs.State.{Kernel, Process, unbooted}
use Rattle.linux_model.specs.Processes.{process, fds_of, is_live}
use Rattle.linux_model.specs.Effects.{Effect, Begins, Starts, Returns, Keeps, Dies, Drops, applies}
use Rattle.linux_model.specs.Called.{Called, Gives, Becomes, Waits, Death}
use Rattle.linux_model.specs.Descriptors.{arg, closings}
use Rattle.linux_model.specs.ProcessCalls.{dying}
use Rattle.linux_model.specs.Instructions.{Ran}
use Rattle.linux_model.specs.Loading.{start_of, loads_program, break_of, start_space}
use Rattle.linux_model.specs.Boot.{boot_of, boot_effects, file_effects, standard_streams}
use Rattle.linux_model.specs.Calls.{Call, Dup, Dup3, Unlinkat, Ftruncate, Openat, Close, Pipe2, Lseek, Read, Write, Readv, Writev, Pread64, Pwrite64, Exit, ExitGroup, SetTidAddress, SchedYield, GetPid, GetPpid, GetTid, BrkCall, Munmap, Clone, Execve, Mmap, Mprotect, Wait4, call_by, row, called, call_effects}
use Rattle.linux_model.specs.Turns.{Schedule, flat, turn, turn_of, acts, at_stop, run_of, whose, chosen, ready, ready_in, is_ready}
use Rattle.linux_model.specs.Fits.{Fits, PidsRise, AllAllowed, LivesAt}
use Rattle.linux_model.specs.Laws.{EveryKernelFits}
use Rattle.linux_model.proofs.fits.Kept.{all_keep}
use Rattle.linux_model.proofs.fits.Found.{allowed-append, closings_allowed, found_pid, inside, no_other, none_after, none_absent, none_found}
use Rattle.linux_model.proofs.Booting.{Bare, files_bare}
use Rattle.linux_model.proofs.Folds.{applies-append}
use Rattle.linux_model.proofs.Loading.{loading}
use Rattle.linux_model.proofs.fits.Harmless.{Harmless, Steps, harmless-append, instructions, steps_harmless, steps_live, loads}
use Rattle.linux_model.proofs.fits.Calls as calls
use Rattle.linux_model.proofs.fits.Descriptors as descriptors
use Rattle.std.proofs.lemmas.Bool.{and_parts, eqb-true}
use Rattle.lego_base.specs.Space.{Space, with_space}

-- ---- death

dead_by : (pid status : ℕ) (p : Option Process) (k : Kernel) → process k.procs pid ≡ p → Fits k → AllAllowed (closings (λ e. true) pid 0 (fds_of p) k ++ Dies pid status ∷ Drops pid ∷ []) k
dead_by pid status None k is f = (none_absent pid k.procs is, (tt, tt))
dead_by pid status (Some p) k is f =
    let closed : List Effect = closings (λ e. true) pid 0 p.fds k in
    let after = none_after pid p k is in
    let fits : Fits (applies closed k) = all_keep closed k (closings_allowed (λ e. true) pid 0 p.fds k) f in
    allowed-append closed (Dies pid status ∷ Drops pid ∷ []) k (closings_allowed (λ e. true) pid 0 p.fds k)
    (none_found pid (applies closed k).last (applies closed k).procs after.0 fits.pids after.1.0 after.1.1, (tt, tt))

dying_allowed : (pid status : ℕ) (k : Kernel) → Fits k → AllAllowed (dying pid status k) k
dying_allowed pid status k f = dead_by pid status (process k.procs pid) k refl f

-- ---- a call

called_allowed : (p : Process) (c : Called) (k : Kernel) → Fits k → calls.Good c k → AllAllowed (called p c k) k
called_allowed p (Gives effects value) k f g = allowed-append effects (Returns p.pid (with_reg p.cpu 10 value (next_pc p.cpu)) ∷ []) k g (tt, tt)
called_allowed p (Becomes effects cpu) k f g = allowed-append effects (Returns p.pid cpu ∷ []) k g (tt, tt)
called_allowed p (Waits effects moved len) k f g = allowed-append effects (Keeps p.pid moved len ∷ []) k g (tt, tt)
called_allowed p (Death effects status) k f g = allowed-append effects (dying p.pid status (applies effects k)) k g (dying_allowed p.pid status (applies effects k) (all_keep effects k g f))

row_good : (c : Option Call) (k : Kernel) (p : Process) → Fits k → process k.procs p.pid ≡ Some p → is_live p.state ≡ true → calls.Good (row c p k) k
row_good None k p f is live = tt
row_good (Some Dup) k p f is live = descriptors.dup k p f is live (arg p 0)
row_good (Some Dup3) k p f is live = descriptors.dup3 k p f is live (arg p 0) (arg p 1) (arg p 2)
row_good (Some Unlinkat) k p f is live = calls.unlinkat p k (arg p 0) (arg p 1) (arg p 2)
row_good (Some Ftruncate) k p f is live = calls.ftruncate p k (arg p 0) (arg p 1)
row_good (Some Openat) k p f is live = descriptors.openat k p f is live (arg p 0) (arg p 1) (arg p 2)
row_good (Some Close) k p f is live = descriptors.close k p f is live (arg p 0)
row_good (Some Pipe2) k p f is live = descriptors.pipe2 k p f is live (arg p 0) (arg p 1)
row_good (Some Lseek) k p f is live = calls.lseek p k (arg p 0) (arg p 1) (arg p 2)
row_good (Some Read) k p f is live = calls.read p k (arg p 0) (arg p 1) (arg p 2)
row_good (Some Write) k p f is live = calls.write p k (arg p 0) (arg p 1) (arg p 2)
row_good (Some Readv) k p f is live = calls.readv p k (arg p 0) (arg p 1) (arg p 2)
row_good (Some Writev) k p f is live = calls.writev p k (arg p 0) (arg p 1) (arg p 2)
row_good (Some Pread64) k p f is live = calls.pread64 p k (arg p 0) (arg p 1) (arg p 2) (arg p 3)
row_good (Some Pwrite64) k p f is live = calls.pwrite64 p k (arg p 0) (arg p 1) (arg p 2) (arg p 3)
row_good (Some Exit) k p f is live = tt
row_good (Some ExitGroup) k p f is live = tt
row_good (Some SetTidAddress) k p f is live = tt
row_good (Some SchedYield) k p f is live = tt
row_good (Some GetPid) k p f is live = tt
row_good (Some GetPpid) k p f is live = tt
row_good (Some GetTid) k p f is live = tt
row_good (Some BrkCall) k p f is live = calls.brk p k (arg p 0)
row_good (Some Munmap) k p f is live = calls.munmap p k (arg p 0) (arg p 1)
row_good (Some Clone) k p f is live = calls.clone p k (arg p 0) (arg p 1)
row_good (Some Execve) k p f is live = calls.execve p k (arg p 0) (arg p 1) (arg p 2)
row_good (Some Mmap) k p f is live = calls.mmap p k (arg p 0) (arg p 1) (arg p 2) (arg p 3)
row_good (Some Mprotect) k p f is live = calls.mprotect p k (arg p 0) (arg p 1) (arg p 2)
row_good (Some Wait4) k p f is live = calls.wait4 p k (arg p 0) (arg p 1) (arg p 2) (arg p 3)

call_allowed : (p : Process) (k : Kernel) → Fits k → process k.procs p.pid ≡ Some p → is_live p.state ≡ true → AllAllowed (call_effects (Some p) k) k
call_allowed p k f is live = called_allowed p (row (call_by p) p k) k f (row_good (call_by p) k p f is live)

-- ---- a turn

lives_at : (b : Bool) (q p : Process) (rest : Option Process) (pid : ℕ) → eqb q.pid pid ≡ b → (eqb q.pid pid ≡ true → is_live q.state ≡ true) → (rest ≡ Some p → is_live p.state ≡ true) → cond b (Some q) rest ≡ Some p → is_live p.state ≡ true
lives_at true q p rest pid e here more is = subst (λ (x : Process). is_live x.state ≡ true) (inside q p is) (here e)
lives_at false q p rest pid e here more is = more is

found_lives : (procs : List Process) (pid : ℕ) (p : Process) → LivesAt pid procs → process procs pid ≡ Some p → is_live p.state ≡ true
found_lives [] pid p l is = cc is
found_lives (q ∷ procs) pid p l is = lives_at (eqb q.pid pid) q p (process procs pid) pid refl l.0 (found_lives procs pid p l.1) is

its_pid : (k : Kernel) (pid : ℕ) (p : Process) → process k.procs pid ≡ Some p → process k.procs p.pid ≡ Some p
its_pid k pid p is = ap (process k.procs) (eqb-true p.pid pid (found_pid k.procs pid p is)) ∙ is

called_by : (p : Option Process) (pid : ℕ) (k : Kernel) → process k.procs pid ≡ p → Fits k → LivesAt pid k.procs → AllAllowed (call_effects p k) k
called_by None pid k is f l = tt
called_by (Some p) pid k is f l = call_allowed p k f (its_pid k pid p is) (found_lives k.procs pid p l is)

stop_allowed : (stop : StepEnd) (pid : ℕ) (k : Kernel) → Fits k → LivesAt pid k.procs → AllAllowed (at_stop stop pid k) k
stop_allowed Next pid k f l = tt
stop_allowed AtCall pid k f l = called_by (process k.procs pid) pid k refl f l
stop_allowed (DeadBy signal) pid k f l = dying_allowed pid signal k f

acts_allowed : (schedule : Schedule) (p : Process) (w : Option Waiting) (k : Kernel) → Fits k → process k.procs p.pid ≡ Some p → LivesAt p.pid k.procs → AllAllowed (acts schedule p w k) k
acts_allowed schedule p None k f is l =
    let r : Ran = run_of schedule p k in
    let steps : Steps r.effects = instructions schedule.quantum p.pid p.cpu (k.space p.pid) in
    let allowed : AllAllowed r.effects k = steps_harmless r.effects steps k in
    allowed-append r.effects (at_stop r.stop p.pid (applies r.effects k)) k allowed
    (stop_allowed r.stop p.pid (applies r.effects k) (all_keep r.effects k allowed f) (steps_live r.effects p.pid k steps l))
acts_allowed schedule p (Some w) k f is l = call_allowed p k f is (found_lives k.procs p.pid p l is)

-- who has the turn lives
abbrev pub Has : ℕ → List ℕ → Type 0
Has n [] = ⊥
Has n (m ∷ numbers) = (n ≡ m) ⊎ Has n numbers

pub above_low : (k : Kernel) (low last : ℕ) (procs : List Process) (pid : ℕ) → PidsRise low last procs → Has pid (ready_in k procs) → low < pid
above_low k low last [] pid r has = absurd has
above_low k low last (q ∷ procs) pid r has = by (is_ready k q) has (above_low k q.pid last procs pid r.2)
  where
    by : (b : Bool) → Has pid (cond b (q.pid ∷ ready_in k procs) (ready_in k procs)) → (Has pid (ready_in k procs) → q.pid < pid) → low < pid
    by true (inl e) more = let a : low < q.pid = r.0 in omega (arith, e)
    by true (inr has) more = let a : low < q.pid = r.0 in let b : q.pid < pid = more has in omega arith
    by false has more = let a : low < q.pid = r.0 in let b : q.pid < pid = more has in omega arith

ready_lives : (k : Kernel) (low last : ℕ) (procs : List Process) (pid : ℕ) → PidsRise low last procs → Has pid (ready_in k procs) → LivesAt pid procs
ready_lives k low last [] pid r has = tt
ready_lives k low last (q ∷ procs) pid r has = by (is_ready k q) refl has (ready_lives k q.pid last procs pid r.2) (above_low k q.pid last procs pid r.2)
  where
    by : (b : Bool) → is_ready k q ≡ b → Has pid (cond b (q.pid ∷ ready_in k procs) (ready_in k procs)) → (Has pid (ready_in k procs) → LivesAt pid procs) → (Has pid (ready_in k procs) → q.pid < pid) → LivesAt pid (q ∷ procs)
    by true e (inl same) more high = ((λ is. (and_parts (is_live q.state) _ e).0), no_other q.pid last procs pid r.2 (omega (arith, same)))
    by true e (inr has) more high = ((λ is. (and_parts (is_live q.state) _ e).0), more has)
    by false e has more high = ((λ is. let same : q.pid ≡ pid = eqb-true q.pid pid is in let h : q.pid < pid = high has in absurd (omega arith)), more has)

pub has_index : (pids : List ℕ) (i : ℕ) → i < length pids → Has (slice_index pids i) pids
has_index [] i h = absurd (omega arith)
has_index (pid ∷ pids) zero h = inl refl
has_index (pid ∷ pids) (suc i) h = inr (has_index pids i (omega arith))

turn_allowed : (schedule : Schedule) (n : ℕ) (k : Kernel) (pids : List ℕ) → pids ≡ ready k → Fits k → AllAllowed (turn_of schedule n (whose schedule n k.procs pids) k) k
turn_allowed schedule n k [] e f = tt
turn_allowed schedule n k (pid ∷ pids) e f = by (process k.procs (chosen schedule n (pid ∷ pids))) refl
  where
    has : Has (chosen schedule n (pid ∷ pids)) (ready k)
    has = subst (Has (chosen schedule n (pid ∷ pids))) e (has_index (pid ∷ pids) (slice_index schedule.turns ((n - 1) % length schedule.turns) % length (pid ∷ pids)) (mod-lt (slice_index schedule.turns ((n - 1) % length schedule.turns)) {m = length (pid ∷ pids)} (omega arith)))

    lives : LivesAt (chosen schedule n (pid ∷ pids)) k.procs
    lives = ready_lives k 0 k.last k.procs (chosen schedule n (pid ∷ pids)) f.pids has

    by : (p : Option Process) → process k.procs (chosen schedule n (pid ∷ pids)) ≡ p → AllAllowed (turn_of schedule n p k) k
    by None is = tt
    by (Some p) is =
        let same : p.pid ≡ chosen schedule n (pid ∷ pids) = eqb-true p.pid (chosen schedule n (pid ∷ pids)) (found_pid k.procs (chosen schedule n (pid ∷ pids)) p is) in
        (tt, acts_allowed schedule p p.waiting k f (its_pid k (chosen schedule n (pid ∷ pids)) p is) (subst (λ (q : ℕ). LivesAt q k.procs) (sym same) lives))

-- ---- booting

files_harmless : (number : ℕ) (files : List FileOut) → Harmless (file_effects number files)
files_harmless number [] k = tt
files_harmless number (f ∷ files) k = (tt, (tt, files_harmless (number + 1) files _))

nothing_fits : (input : List ℕ) → Fits (unbooted input)
nothing_fits input = record { pids = tt; procs_fit = tt; descs_fit = tt; names_fit = tt; numbers = tt }

started : (program : Program) (args env : List (List ℕ)) (k : Kernel) → k.procs ≡ [] → k.last ≡ 0 → AllAllowed (Starts 1 (start_of program args env) (break_of program) ∷ standard_streams) k
started program args env k none zero_ =
    subst (AllAllowed (Starts 1 (start_of program args env) (break_of program) ∷ standard_streams)) (λ i. record k { procs = sym none i; last = sym zero_ i })
    ((omega arith), ((tt, ((λ is. refl), tt)), ((tt, ((λ is. refl), tt)), ((tt, ((λ is. refl), tt)), tt))))

module _ (program : Program) (args env : List (List ℕ)) (files : List FileOut) (input : List ℕ) where
  abbrev before : List Effect
  before = Begins 0 0 ∷ file_effects 0 files

  abbrev made : Kernel
  made = applies (file_effects 0 files) (unbooted input)

  bare : Bare made
  bare = files_bare 0 files (unbooted input) (record { procs = refl; space = refl; descs = refl; last = refl })

  loaded : applies (before ++ loads_program 1 program args env) (unbooted input) ≡ record made { space = with_space made.space 1 (start_space program args env) }
  loaded = applies-append before (loads_program 1 program args env) (unbooted input) ∙ loading 1 program args env made (ap (λ (spaces : ℕ → Space). spaces 1) bare.space)

  boot_allowed : AllAllowed (boot_effects program args env files) (unbooted input)
  boot_allowed =
      allowed-append (before ++ loads_program 1 program args env) (Starts 1 (start_of program args env) (break_of program) ∷ standard_streams) (unbooted input)
      (harmless-append before (loads_program 1 program args env) (λ k. (tt, files_harmless 0 files k)) (loads 1 program args env) (unbooted input))
      (subst (AllAllowed (Starts 1 (start_of program args env) (break_of program) ∷ standard_streams)) (sym loaded)
      (started program args env (record made { space = with_space made.space 1 (start_space program args env) }) bare.procs bare.last))

pub every_fits : EveryKernelFits
unfolding flat
every_fits schedule program args env files input zero = all_keep (boot_effects program args env files) (unbooted input) (boot_allowed program args env files input) (nothing_fits input)
every_fits schedule program args env files input (suc n) =
    let k : Kernel = flat schedule (boot_of program args env files input) n in
    let f : Fits k = every_fits schedule program args env files input n in
    all_keep (turn schedule (suc n) k) k (turn_allowed schedule (suc n) k (ready k) refl f) f
