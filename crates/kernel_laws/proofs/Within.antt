-- What holds after each turn holds where the turn comes to its call.
use Rattle.std.proofs.Common.{ℕ, suc, ◌+◌, ◌≤◌, refl, ◌∙◌, ap, Option, Some, None, arith}
use Rattle.kernel_objects.specs.declared.process.Waiting.{Waiting}
use Rattle.linux_model.specs.State.{Kernel, Process}
use Rattle.linux_model.specs.Processes.{process}
use Rattle.linux_model.specs.Effects.{applies}
use Rattle.linux_model.specs.Instructions.{Ran, many}
use Rattle.linux_model.specs.Boot.{boot_of}
use Rattle.linux_model.specs.Turns.{Schedule, flat, ready}
use Rattle.linux_model.specs.Fits.{Fits}
use Rattle.linux_model.proofs.fits.Found.{process_at}
use Rattle.linux_model.proofs.fits.Harmless.{instructions, steps_harmless}
use Rattle.linux_model.proofs.fits.Kept.{all_keep}
use Rattle.linux_model.proofs.fits.Runs.{every_fits}
use Rattle.kernel_laws.specs.Laws.{NoneAbove, BreaksInUserSpace, MayCall, CallsMayComeWithinTurns, ran_before}
use Rattle.kernel_laws.proofs.Own.{Kept, all_own_keep}
use Rattle.kernel_laws.proofs.Ready.{Acts, who_acts}
use Rattle.kernel_laws.proofs.Placed.{instructions_place}
use Rattle.kernel_laws.proofs.Runs.{instructions_own, pid_low, few, breaks_stay, unborn}

-- after m instructions of a process that acts
after : (n m : ℕ) (p : Process) (k : Kernel) → Fits k → NoneAbove k.last k.space → k.last ≤ n + 1 → BreaksInUserSpace k.procs → Acts k p → MayCall n (record p { cpu = (many m p.pid p.cpu (k.space p.pid)).cpu }) (applies (many m p.pid p.cpu (k.space p.pid)).effects k)
after n m p k f none few breaks acts =
    let r : Ran = many m p.pid p.cpu (k.space p.pid) in
    let kept : Kept k (applies r.effects k) = all_own_keep r.effects p.pid k (instructions_own m p.pid p.cpu (k.space p.pid)) (pid_low 0 k.last p.pid k.procs p f.pids acts.there) in
    record {
      fits = all_keep r.effects k (steps_harmless r.effects (instructions m p.pid p.cpu (k.space p.pid)) k) f;
      none_above = kept.above none;
      few = let same = kept.last in omega (arith, same, few);
      breaks = kept.breaks breaks;
      there = ap (λ (k : Kernel). process k.procs p.pid) (instructions_place m p k f.pids acts.there) ∙ process_at (λ q. record q { cpu = r.cpu }) (λ q. refl) k.procs p.pid p acts.there;
      lives = acts.lives;
    }

before : (schedule : Schedule) (n : ℕ) (p : Process) (w : Option Waiting) (k : Kernel) → Fits k → NoneAbove k.last k.space → k.last ≤ n + 1 → BreaksInUserSpace k.procs → Acts k p → MayCall n (record p { cpu = (ran_before schedule p w k).cpu }) (applies (ran_before schedule p w k).effects k)
before schedule n p None k f none few breaks acts = after n schedule.quantum p k f none few breaks acts
before schedule n p (Some w) k f none few breaks acts = after n 0 p k f none few breaks acts

pub may_call : CallsMayComeWithinTurns
may_call schedule program args env files input n p low is =
    let k : Kernel = flat schedule (boot_of program args env files input) n in
    let f : Fits k = every_fits schedule program args env files input n in
    before schedule n p p.waiting k f (unborn schedule program args env files input n) (few schedule program args env files input n) (breaks_stay schedule program args env files input n low) (who_acts schedule (suc n) k p (ready k) f.pids refl is)
