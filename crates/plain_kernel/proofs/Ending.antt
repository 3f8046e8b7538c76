-- How a run begins and ends: it stops before its first turn, or leaves what the flat run leaves.
use Rattle.std.proofs.Common.{◌≡◌, ℕ, ◌+◌, ◌<◌, ◌≤◌, Bool, true, false, cond, ◌||◌, leb, refl, sym, ◌∙◌, ap, subst, arith, List, [], ◌∷◌, length, is_some, Result, Ok, Err}
use Rattle.std.specs.Result.{IsErrAnd}
use Rattle.lego_base.specs.declared.report.Ended.{Ended}
use Rattle.lego_base.specs.declared.report.FileOut.{FileOut}
use Rattle.lego_base.specs.Files.{named}
use Rattle.elf_image.specs.Image.{Program}
use Rattle.host_io.proofs.SinkLaws.{TookAll-none}
use Rattle.linux_model.specs.Limits.{FILES}
use Rattle.linux_model.specs.State.{Kernel, Written, nothing, unbooted}
use Rattle.linux_model.specs.Effects.{WritesFile, apply, applies, with_new_file}
use Rattle.linux_model.specs.Boot.{boot_of, file_effects}
use Rattle.linux_model.specs.Turns.{Schedule, flat}
use Rattle.linux_model.specs.Fits.{NamesFit}
use Rattle.linux_model.specs.Named.{named_files}
use Rattle.linux_model.proofs.Booting.{booting}
use Rattle.linux_model.proofs.fits.Runs.{every_fits}
use Rattle.plain_kernel.specs.Outcomes.{Told, Took}
use Rattle.plain_kernel.specs.declared.kernel.PlainKernel.{PlainKernel}
use Rattle.plain_kernel.specs.declared.kernel.RunStop.{RunStop}
use Rattle.plain_kernel.specs.declared.kernel.RunStop.TheVariants.{NoMemory}
use Rattle.plain_kernel.specs.declared.left.PlainEnd.{PlainEnd}
use Rattle.plain_kernel.specs.Booted.{CanRun, IsBooted}
use Rattle.plain_kernel.specs.Left.{Leaves}
use Rattle.plain_kernel.specs.Runs.{CameToEnd, Ends, NamesStay, PlainRan, RanSoFar, Stops, StopsSo, TurnsMayCome}
use Rattle.plain_kernel.specs.Standing.{kernel_in}
use Rattle.plain_kernel.proofs.Chances.{turns_may_come}

written_either : (b : Bool) (k l : Kernel) → l.written ≡ k.written → (cond b k l).written ≡ k.written
written_either true k l e = refl
written_either false k l e = e

written_stays : (number : ℕ) (files : List FileOut) (k : Kernel) → (applies (file_effects number files) k).written ≡ k.written
written_stays number [] k = refl
written_stays number (f ∷ files) k =
    written_stays (number + 1) files (apply (WritesFile number 0 f.bytes) (with_new_file f.name k))
    ∙ written_either (is_some (named k.names f.name) || leb FILES (length k.files)) k _ refl

pub stops_at_once : (schedule : Schedule) (program : Program) (args env : List (List ℕ)) (files : List FileOut) (input : List ℕ) (told : Told) → Stops schedule (boot_of program args env files input) told told
unfolding flat
stops_at_once schedule program args env files input told =
    let none : (boot_of program args env files input).written ≡ nothing = ap (λ (k : Kernel). k.written) (booting program args env files input) ∙ written_stays 0 files (unbooted input) in
    record {
      turns = 0;
      through = record { few = omega arith; before = λ m less. absurd (omega (arith, less)) };
      took = subst (λ (w : Written). Took told told w) (sym none) (record { out = TookAll-none told.out told.out refl; err = TookAll-none told.err told.err refl });
    }

-- a failure that comes back
pub ran_so : (schedule : Schedule) (boot : Kernel) (before after : Told) (result : Result PlainEnd RunStop) (stop : RunStop) → IsErrAnd result (λ e. e ≡ stop) → StopsSo schedule boot before after stop → PlainRan schedule boot before after result
ran_so schedule boot before after (Ok end) stop is stops = absurd is
ran_so schedule boot before after (Err e) stop is stops = subst (StopsSo schedule boot before after) (sym is) stops

-- ---- the end

module _ (schedule : Schedule) (boot : Kernel) (before after : Told) (now : PlainKernel) (ended : Ended) (came : CameToEnd schedule boot before after now ended) where
  pub names_fit : NamesStay schedule boot → NamesFit now.machine.files.files now.machine.files.names
  names_fit stay = subst (λ (k : Kernel). NamesFit k.files k.names) (sym came.ran.stands) (stay ended.turns)

  pub stops : Stops schedule boot before after
  stops = record { turns = ended.turns; through = came.ran.through; took = came.ran.took }

  pub leaves : (end : PlainEnd) → Leaves now ended end → Ends schedule boot before after end
  leaves end left =
      let there : CameToEnd schedule boot before after now end.ended = subst (CameToEnd schedule boot before after now) (sym left.reached) came in
      record {
        ends = record { through = there.ran.through; ends = there.ends };
        took = there.ran.took;
        exits = left.exits ∙ ap (λ (k : Kernel). k.exits) there.ran.stands;
        files = left.files ∙ ap named_files there.ran.stands;
      }

-- ---- a run on a kernel that was booted

module _ (schedule : Schedule) (program : Program) (args env : List (List ℕ)) (files : List FileOut) (input : List ℕ) (kernel : PlainKernel) (booted : IsBooted kernel program args env files input) where
  pub can_run : 0 < length schedule.turns → schedule.max_turns ≤ 10000000 → CanRun schedule (kernel_in kernel nothing)
  can_run some few = record {
    some = some;
    few = few;
    may = subst (TurnsMayCome schedule) (sym booted.stands) (turns_may_come schedule program args env files input booted.low few);
    names = subst (NamesStay schedule) (sym booted.stands) (λ n. (every_fits schedule program args env files input n).names_fit);
  }

  pub ran_on : (before after : Told) (result : Result PlainEnd RunStop) → PlainRan schedule (kernel_in kernel nothing) before after result → PlainRan schedule (boot_of program args env files input) before after result
  ran_on before after result ran = subst (λ (k : Kernel). PlainRan schedule k before after result) booted.stands ran

-- with what is the same as the arguments and the environment of a plan
pub same_booted : (kernel : PlainKernel) (program : Program) (args env args' env' : List (List ℕ)) (files : List FileOut) (input : List ℕ) → args' ≡ args → env' ≡ env → IsBooted kernel program args' env' files input → IsBooted kernel program args env files input
same_booted kernel program args env args' env' files input same_args same_env booted =
    subst (λ (p : List (List ℕ) × List (List ℕ)). IsBooted kernel program p.0 p.1 files input) (λ i. (same_args i, same_env i)) booted

-- nor does one that isn't booted begin
pub not_begun : (schedule : Schedule) (program : Program) (args env : List (List ℕ)) (files : List FileOut) (input : List ℕ) (told : Told) (result : Result PlainEnd RunStop) → IsErrAnd result (λ e. e ≡ NoMemory) → PlainRan schedule (boot_of program args env files input) told told result
not_begun schedule program args env files input told result is = ran_so schedule (boot_of program args env files input) told told result NoMemory is (stops_at_once schedule program args env files input told)
