-- After every turn of every run.
use Rattle.std.proofs.Common.{◌≡◌, ℕ, zero, suc, ◌+◌, ◌≤◌, Bool, true, false, cond, not, eqb, leb, ◌==◌, ◌&&◌, refl, sym, ◌∙◌, ap, subst, List, [], ◌∷◌, ◌++◌, length, Option, Some, None, arith}
use Rattle.std.specs.Prelude.{All}
use Rattle.std.proofs.lemmas.Bool.{cond-false, eqb-true, ne_eqb}
use Rattle.std.proofs.lemmas.List.Elements.{All-nil, All-cons}
use Rattle.lego_base.specs.declared.report.FileOut.{FileOut}
use Rattle.lego_base.specs.declared.sizes.TheConstants.{USER_END}
use Rattle.lego_base.specs.Space.{Space, no_space, permits, bytes_at, number_of, with_space}
use Rattle.elf_image.specs.Image.{Program}
use Rattle.rv64_decode.specs.declared.Instr.{Instr}
use Rattle.rv64_decode.specs.Table.{decoded}
use Rattle.rv64_step.specs.declared.cpu.Cpu.{Cpu}
use Rattle.rv64_step.specs.declared.cpu.StepEnd.{StepEnd}
use Rattle.rv64_step.specs.declared.cpu.StepEnd.TheVariants.{Next, Call as AtCall, Dead as DeadBy}
use Rattle.rv64_step.specs.Meaning.{Asks, Ends, Loads, Stores, asks, next_pc, with_reg}
use Rattle.kernel_objects.specs.declared.process.Waiting.{Waiting}
use Rattle.linux_model.specs.Limits.{EAGAIN, EINVAL, NAME_BYTES, PROCESSES, SIGCHLD}
use Rattle.linux_model.specs.State.{Kernel, Process, unbooted}
use Rattle.linux_model.specs.Processes.{process, fds_of, child_of}
use Rattle.linux_model.specs.Effects.{Effect, Copies, Forks, Returns, Keeps, Dies, Drops, apply, applies, forked}
use Rattle.linux_model.specs.Called.{Called, Gives, Becomes, Waits, Death}
use Rattle.linux_model.specs.Descriptors.{arg, closings}
use Rattle.linux_model.specs.ProcessCalls.{clone_row, dying}
use Rattle.linux_model.specs.Boot.{boot_of, booted_process, file_effects}
use Rattle.linux_model.specs.Loading.{start_space, break_of}
use Rattle.linux_model.specs.Calls.{Call, Dup, Dup3, Unlinkat, Ftruncate, Openat, Close, Pipe2, Lseek, Read, Write, Readv, Writev, Pread64, Pwrite64, Exit, ExitGroup, SetTidAddress, SchedYield, GetPid, GetPpid, GetTid, BrkCall, Munmap, Clone, Execve, Mmap, Mprotect, Wait4, call_by, row, called, call_effects}
use Rattle.linux_model.specs.Turns.{Schedule, flat, turn_of, acts, at_stop, run_of, whose, chosen, ready}
use Rattle.linux_model.specs.Fits.{Fits, PidsRise}
use Rattle.linux_model.specs.Instructions.{Ran, asked, obeyed, one, goes_on, many}
use Rattle.linux_model.proofs.Booting.{booting}
use Rattle.linux_model.proofs.Folds.{applies-append}
use Rattle.linux_model.proofs.fits.Found.{found_pid}
use Rattle.linux_model.proofs.fits.Runs.{every_fits}
use Rattle.kernel_laws.specs.Laws.{NoneAbove, BreaksInUserSpace, BreaksStayInUserSpace, NamedFilesCanBeArchived, PidsAreFew, UnbornHaveNoSpace}
use Rattle.kernel_laws.proofs.Own.{AllOwn, Good, Kept, all_own_keep, own-append}
use Rattle.kernel_laws.proofs.Breaks.{Within, breaks_at, breaks_more, break_found}
use Rattle.kernel_laws.proofs.Looks.{closings_own}
use Rattle.kernel_laws.proofs.Names.{Holds, archived}
use Rattle.kernel_laws.proofs.Naming.{all_own_hold, files_own}
use Rattle.kernel_laws.proofs.Rows as rows

-- ---- instructions

ran_pick : (pid : ℕ) (b : Bool) (r s : Ran) → AllOwn pid r.effects → AllOwn pid s.effects → AllOwn pid (cond b r s).effects
ran_pick pid true r s h m = h
ran_pick pid false r s h m = m

asked_own : (pid : ℕ) (cpu : Cpu) (space : Space) (want : Asks) → AllOwn pid (asked pid cpu space want).effects
asked_own pid cpu space (Ends stop after) = (tt, tt)
asked_own pid cpu space (Loads address n after) = ran_pick pid (permits space 1 address n) _ _ (tt, (tt, tt)) (tt, tt)
asked_own pid cpu space (Stores address n value after) = ran_pick pid (permits space 2 address n) _ _ (refl, (tt, tt)) (tt, tt)

obeyed_own : (pid : ℕ) (cpu : Cpu) (space : Space) (i : Option Instr) → AllOwn pid (obeyed pid cpu space i).effects
obeyed_own pid cpu space None = tt
obeyed_own pid cpu space (Some i) = asked_own pid cpu space (asks i cpu i.op)

one_own : (pid : ℕ) (cpu : Cpu) (space : Space) → AllOwn pid (one pid cpu space).effects
one_own pid cpu space =
    ran_pick pid (permits space 4 cpu.pc 4) _ _
    (tt, obeyed_own pid cpu space (decoded (number_of (bytes_at space cpu.pc 4))))
    (tt, tt)

goes_own : (pid : ℕ) (stop : StepEnd) (r rest : Ran) → AllOwn pid r.effects → AllOwn pid rest.effects → AllOwn pid (goes_on stop r rest).effects
goes_own pid Next r rest h m = own-append pid r.effects rest.effects h m
goes_own pid AtCall r rest h m = h
goes_own pid (DeadBy signal) r rest h m = h

pub instructions_own : (n pid : ℕ) (cpu : Cpu) (space : Space) → AllOwn pid (many n pid cpu space).effects
instructions_own zero pid cpu space = tt
instructions_own (suc n) pid cpu space =
    goes_own pid (one pid cpu space).stop (one pid cpu space) (many n pid (one pid cpu space).cpu (one pid cpu space).space)
    (one_own pid cpu space) (instructions_own n pid (one pid cpu space).cpu (one pid cpu space).space)

-- ---- calls

-- what a kernel is after another one of the same turn, or of the turn before: a turn bears one process at most
record Follows (k l : Kernel) : Type 0 where
  few : l.last ≤ k.last + 1
  above : NoneAbove k.last k.space → NoneAbove l.last l.space
  breaks : BreaksInUserSpace k.procs → BreaksInUserSpace l.procs
  names : Holds k → Holds l

kept_follows : (k l : Kernel) → Kept k l → (Holds k → Holds l) → Follows k l
kept_follows k l kept names = record { few = let same = kept.last in omega (arith, same); above = kept.above; breaks = kept.breaks; names = names }

kept_then : (k l m : Kernel) → Kept k l → (Holds k → Holds l) → Follows l m → Follows k m
kept_then k l m kept names next = record {
  few = let same = kept.last in let more = next.few in omega (arith, same, more);
  above = λ none. next.above (kept.above none);
  breaks = λ b. next.breaks (kept.breaks b);
  names = λ h. next.names (names h);
}

itself : (k : Kernel) → Follows k k
itself k = record { few = omega arith; above = λ none. none; breaks = λ b. b; names = λ h. h }

dying_own : (pid status : ℕ) (k : Kernel) → AllOwn pid (dying pid status k)
dying_own pid status k = own-append pid (closings (λ e. true) pid 0 (fds_of (process k.procs pid)) k) (Dies pid status ∷ Drops pid ∷ []) (closings_own (λ e. true) pid pid 0 (fds_of (process k.procs pid)) k) (tt, (refl, tt))

own_follows : (es : List Effect) (pid : ℕ) (k : Kernel) → AllOwn pid es → pid ≤ k.last → Follows k (applies es k)
own_follows es pid k own low = kept_follows k (applies es k) (all_own_keep es pid k own low) (all_own_hold es pid k own)

by_row : (p : Process) (c : Called) (k : Kernel) → Good p.pid c → p.pid ≤ k.last → Follows k (applies (called p c k) k)
by_row p (Gives effects value) k own low = own_follows (effects ++ Returns p.pid (with_reg p.cpu 10 value (next_pc p.cpu)) ∷ []) p.pid k (own-append p.pid effects _ own (tt, tt)) low
by_row p (Becomes effects cpu) k own low = own_follows (effects ++ Returns p.pid cpu ∷ []) p.pid k (own-append p.pid effects _ own (tt, tt)) low
by_row p (Waits effects moved len) k own low = own_follows (effects ++ Keeps p.pid moved len ∷ []) p.pid k (own-append p.pid effects _ own (tt, tt)) low
by_row p (Death effects status) k own low = own_follows (effects ++ dying p.pid status (applies effects k)) p.pid k (own-append p.pid effects _ own (dying_own p.pid status (applies effects k))) low

-- a child is the last one then, with its parent's break
born : (p : Process) (o : Option Process) (cpu after : Cpu) (k : Kernel) → process k.procs p.pid ≡ Some p → o ≡ Some p
    → Follows k (apply (Returns p.pid after) (forked o (k.last + 1) cpu (record k { space = with_space k.space (k.last + 1) (k.space p.pid) })))
born p o cpu after k there is =
    subst (λ (o : Option Process). Follows k (apply (Returns p.pid after) (forked o (k.last + 1) cpu (record k { space = with_space k.space (k.last + 1) (k.space p.pid) })))) (sym is)
    (record {
      few = omega arith;
      above = λ none q high. cond-false _ (k.space p.pid) (k.space q) (ne_eqb q (k.last + 1) (λ same. omega (arith, high, same))) ∙ none q (omega (arith, high));
      breaks = λ b. breaks_at (λ p. record p { cpu = after; waiting = None }) (λ p h. h) p.pid (k.procs ++ child_of p (k.last + 1) cpu ∷ [])
          (breaks_more k.procs (child_of p (k.last + 1) cpu) (break_found k.procs p.pid p b there) b);
      names = λ h. h;
    })

clone_keeps : (p : Process) (k : Kernel) (flags stack : ℕ) → process k.procs p.pid ≡ Some p → p.pid ≤ k.last → Follows k (applies (called p (clone_row p k flags stack) k) k)
clone_keeps p k flags stack there low = by (not (flags == SIGCHLD && stack == 0)) (leb PROCESSES (length k.procs))
  where
    by : (b c : Bool) → Follows k (applies (called p (cond b (Gives [] EINVAL) (cond c (Gives [] EAGAIN) (Gives (Copies p.pid (k.last + 1) ∷ Forks p.pid (k.last + 1) (with_reg p.cpu 10 0 (next_pc p.cpu)) ∷ []) (k.last + 1)))) k) k)
    by true c = by_row p (Gives [] EINVAL) k tt low
    by false true = by_row p (Gives [] EAGAIN) k tt low
    by false false = born p (process k.procs p.pid) (with_reg p.cpu 10 0 (next_pc p.cpu)) (with_reg p.cpu 10 (k.last + 1) (next_pc p.cpu)) k there there

row_keeps : (c : Option Call) (p : Process) (k : Kernel) → process k.procs p.pid ≡ Some p → p.pid ≤ k.last → Follows k (applies (called p (row c p k) k) k)
row_keeps None p k there low = by_row p (row None p k) k tt low
row_keeps (Some Dup) p k there low = by_row p (row (Some Dup) p k) k (rows.dup p k (arg p 0)) low
row_keeps (Some Dup3) p k there low = by_row p (row (Some Dup3) p k) k (rows.dup3 p k (arg p 0) (arg p 1) (arg p 2)) low
row_keeps (Some Unlinkat) p k there low = by_row p (row (Some Unlinkat) p k) k (rows.unlinkat p k (arg p 0) (arg p 1) (arg p 2)) low
row_keeps (Some Ftruncate) p k there low = by_row p (row (Some Ftruncate) p k) k (rows.ftruncate p k (arg p 0) (arg p 1)) low
row_keeps (Some Openat) p k there low = by_row p (row (Some Openat) p k) k (rows.openat p k (arg p 0) (arg p 1) (arg p 2)) low
row_keeps (Some Close) p k there low = by_row p (row (Some Close) p k) k (rows.close p k (arg p 0)) low
row_keeps (Some Pipe2) p k there low = by_row p (row (Some Pipe2) p k) k (rows.pipe2 p k (arg p 0) (arg p 1)) low
row_keeps (Some Lseek) p k there low = by_row p (row (Some Lseek) p k) k (rows.lseek p k (arg p 0) (arg p 1) (arg p 2)) low
row_keeps (Some Read) p k there low = by_row p (row (Some Read) p k) k (rows.read p k (arg p 0) (arg p 1) (arg p 2)) low
row_keeps (Some Write) p k there low = by_row p (row (Some Write) p k) k (rows.write p k (arg p 0) (arg p 1) (arg p 2)) low
row_keeps (Some Readv) p k there low = by_row p (row (Some Readv) p k) k (rows.readv p k (arg p 0) (arg p 1) (arg p 2)) low
row_keeps (Some Writev) p k there low = by_row p (row (Some Writev) p k) k (rows.writev p k (arg p 0) (arg p 1) (arg p 2)) low
row_keeps (Some Pread64) p k there low = by_row p (row (Some Pread64) p k) k (rows.pread64 p k (arg p 0) (arg p 1) (arg p 2) (arg p 3)) low
row_keeps (Some Pwrite64) p k there low = by_row p (row (Some Pwrite64) p k) k (rows.pwrite64 p k (arg p 0) (arg p 1) (arg p 2) (arg p 3)) low
row_keeps (Some BrkCall) p k there low = by_row p (row (Some BrkCall) p k) k (rows.brk p k (arg p 0)) low
row_keeps (Some Munmap) p k there low = by_row p (row (Some Munmap) p k) k (rows.munmap p k (arg p 0) (arg p 1)) low
row_keeps (Some Clone) p k there low = clone_keeps p k (arg p 0) (arg p 1) there low
row_keeps (Some Execve) p k there low = by_row p (row (Some Execve) p k) k (rows.execve p k (arg p 0) (arg p 1) (arg p 2)) low
row_keeps (Some Mmap) p k there low = by_row p (row (Some Mmap) p k) k (rows.mmap p k (arg p 0) (arg p 1) (arg p 2) (arg p 3)) low
row_keeps (Some Mprotect) p k there low = by_row p (row (Some Mprotect) p k) k (rows.mprotect p k (arg p 0) (arg p 1) (arg p 2)) low
row_keeps (Some Wait4) p k there low = by_row p (row (Some Wait4) p k) k (rows.wait4 p k (arg p 0) (arg p 1) (arg p 2) (arg p 3)) low
row_keeps (Some Exit) p k there low = by_row p (row (Some Exit) p k) k tt low
row_keeps (Some ExitGroup) p k there low = by_row p (row (Some ExitGroup) p k) k tt low
row_keeps (Some SetTidAddress) p k there low = by_row p (row (Some SetTidAddress) p k) k tt low
row_keeps (Some SchedYield) p k there low = by_row p (row (Some SchedYield) p k) k tt low
row_keeps (Some GetPid) p k there low = by_row p (row (Some GetPid) p k) k tt low
row_keeps (Some GetPpid) p k there low = by_row p (row (Some GetPpid) p k) k tt low
row_keeps (Some GetTid) p k there low = by_row p (row (Some GetTid) p k) k tt low

-- ---- a turn

its_pid : (k : Kernel) (pid : ℕ) (p : Process) → process k.procs pid ≡ Some p → p.pid ≡ pid
its_pid k pid p is = eqb-true p.pid pid (found_pid k.procs pid p is)

call_keeps : (o : Option Process) (pid : ℕ) (k : Kernel) → process k.procs pid ≡ o → pid ≤ k.last → Follows k (applies (call_effects o k) k)
call_keeps None pid k is low = itself k
call_keeps (Some p) pid k is low =
    let own : p.pid ≡ pid = its_pid k pid p is in
    row_keeps (call_by p) p k (ap (process k.procs) own ∙ is) (omega (arith, own, low))

stop_keeps : (stop : StepEnd) (pid : ℕ) (k : Kernel) → pid ≤ k.last → Follows k (applies (at_stop stop pid k) k)
stop_keeps Next pid k low = itself k
stop_keeps AtCall pid k low = call_keeps (process k.procs pid) pid k refl low
stop_keeps (DeadBy signal) pid k low = own_follows (dying pid signal k) pid k (dying_own pid signal k) low

acts_keep : (schedule : Schedule) (p : Process) (w : Option Waiting) (k : Kernel) → process k.procs p.pid ≡ Some p → p.pid ≤ k.last → Follows k (applies (acts schedule p w k) k)
acts_keep schedule p None k is low =
    let r : Ran = run_of schedule p k in
    let own = instructions_own schedule.quantum p.pid p.cpu (k.space p.pid) in
    let kept = all_own_keep r.effects p.pid k own low in
    let below : p.pid ≤ (applies r.effects k).last = let same = kept.last in omega (arith, same, low) in
    subst (Follows k) (sym (applies-append r.effects (at_stop r.stop p.pid (applies r.effects k)) k)) (kept_then k (applies r.effects k) _ kept (all_own_hold r.effects p.pid k own) (stop_keeps r.stop p.pid (applies r.effects k) below))
acts_keep schedule p (Some w) k is low = call_keeps (Some p) p.pid k is low

-- pids are at most the last one
low_first : (low last pid : ℕ) (b : Bool) (q p : Process) (rest : Option Process) → q.pid ≤ last → eqb q.pid pid ≡ b → (rest ≡ Some p → pid ≤ last) → cond b (Some q) rest ≡ Some p → pid ≤ last
low_first low last pid true q p rest h e more is = let same : q.pid ≡ pid = eqb-true q.pid pid e in omega (arith, h, same)
low_first low last pid false q p rest h e more is = more is

pub pid_low : (low last pid : ℕ) (procs : List Process) (p : Process) → PidsRise low last procs → process procs pid ≡ Some p → pid ≤ last
pid_low low last pid [] p r is = cc is
pid_low low last pid (q ∷ procs) p r is = low_first low last pid (eqb q.pid pid) q p (process procs pid) r.1 refl (pid_low q.pid last pid procs p r.2) is

turn_keeps : (schedule : Schedule) (n : ℕ) (k : Kernel) (pids : List ℕ) → Fits k → Follows k (applies (turn_of schedule n (whose schedule n k.procs pids) k) k)
turn_keeps schedule n k [] f = itself k
turn_keeps schedule n k (pid ∷ pids) f = by (process k.procs (chosen schedule n (pid ∷ pids))) refl
  where
    by : (o : Option Process) → process k.procs (chosen schedule n (pid ∷ pids)) ≡ o → Follows k (applies (turn_of schedule n o k) k)
    by None is = itself k
    by (Some p) is =
        let own : p.pid ≡ chosen schedule n (pid ∷ pids) = its_pid k (chosen schedule n (pid ∷ pids)) p is in
        let there : process k.procs p.pid ≡ Some p = ap (process k.procs) own ∙ is in
        acts_keep schedule p p.waiting k there (pid_low 0 k.last p.pid k.procs p f.pids there)

-- ---- a run

booted_above : (program : Program) (args env : List (List ℕ)) (files : List FileOut) (input : List ℕ) → NoneAbove (boot_of program args env files input).last (boot_of program args env files input).space
booted_above program args env files input =
    subst (λ (k : Kernel). NoneAbove k.last k.space) (sym (booting program args env files input))
    (λ q high. cond-false _ (start_space program args env) no_space (ne_eqb q 1 (λ same. omega (arith, high, same))))

pub unborn : UnbornHaveNoSpace
unfolding flat
unborn schedule program args env files input zero = booted_above program args env files input
unborn schedule program args env files input (suc n) =
    let k : Kernel = flat schedule (boot_of program args env files input) n in
    (turn_keeps schedule (suc n) k (ready k) (every_fits schedule program args env files input n)).above (unborn schedule program args env files input n)

booted_last : (program : Program) (args env : List (List ℕ)) (files : List FileOut) (input : List ℕ) → (boot_of program args env files input).last ≡ 1
booted_last program args env files input = ap (λ (k : Kernel). k.last) (booting program args env files input)

pub few : PidsAreFew
unfolding flat
few schedule program args env files input zero = let one = booted_last program args env files input in omega (arith, one)
few schedule program args env files input (suc n) =
    let k : Kernel = flat schedule (boot_of program args env files input) n in
    let before : k.last ≤ n + 1 = few schedule program args env files input n in
    let turn = (turn_keeps schedule (suc n) k (ready k) (every_fits schedule program args env files input n)).few in
    omega (arith, before, turn)

booted_breaks : (program : Program) (args env : List (List ℕ)) (files : List FileOut) (input : List ℕ) → (break_of program).now ≤ USER_END → BreaksInUserSpace (boot_of program args env files input).procs
booted_breaks program args env files input low =
    subst (λ (k : Kernel). BreaksInUserSpace k.procs) (sym (booting program args env files input))
    (All-cons Within (booted_process program args env) [] low (All-nil Within))

pub breaks_stay : BreaksStayInUserSpace
unfolding flat
breaks_stay schedule program args env files input zero low = booted_breaks program args env files input low
breaks_stay schedule program args env files input (suc n) low =
    let k : Kernel = flat schedule (boot_of program args env files input) n in
    (turn_keeps schedule (suc n) k (ready k) (every_fits schedule program args env files input n)).breaks (breaks_stay schedule program args env files input n low)

booted_holds : (program : Program) (args env : List (List ℕ)) (files : List FileOut) (input : List ℕ) → All (λ file. length file.name ≤ NAME_BYTES) files → Holds (boot_of program args env files input)
booted_holds program args env files input short =
    let none : Holds (unbooted input) = record { apart = tt; short = tt; few = omega arith } in
    subst Holds (sym (booting program args env files input)) (all_own_hold (file_effects 0 files) 1 (unbooted input) (files_own 1 0 files short) none)

names_hold : (schedule : Schedule) (program : Program) (args env : List (List ℕ)) (files : List FileOut) (input : List ℕ) (n : ℕ) → All (λ file. length file.name ≤ NAME_BYTES) files → Holds (flat schedule (boot_of program args env files input) n)
unfolding flat
names_hold schedule program args env files input zero short = booted_holds program args env files input short
names_hold schedule program args env files input (suc n) short =
    let k : Kernel = flat schedule (boot_of program args env files input) n in
    (turn_keeps schedule (suc n) k (ready k) (every_fits schedule program args env files input n)).names (names_hold schedule program args env files input n short)

pub can_be_archived : NamedFilesCanBeArchived
can_be_archived schedule program args env files input n short =
    archived (flat schedule (boot_of program args env files input) n) (every_fits schedule program args env files input n).names_fit (names_hold schedule program args env files input n short)
