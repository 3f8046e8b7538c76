-- Turn after turn, the flat run.
use Rattle.std.proofs.Common.{◌≡◌, ℕ, suc, ◌+◌, ◌<◌, ◌≤◌, ◌⊎◌, inl, inr, Bool, true, false, cond, ◌==◌, refl, sym, ◌∙◌, ap, subst, List, length, Option, Some, None, IfSome, Result, Ok, Err, arith}
use Rattle.std.specs.Result.{IsErrAnd}
use Rattle.std.proofs.lemmas.Bool.{cases_lt, eqb-true, le-ltb}
use Rattle.lego_base.specs.declared.report.EndWord.{EndWord}
use Rattle.lego_base.specs.declared.report.EndWord.TheVariants.{Done, Stuck, Spent}
use Rattle.lego_base.specs.declared.report.Ended.{Ended}
use Rattle.kernel_objects.specs.declared.descriptor.Stream.{Stream}
use Rattle.kernel_objects.specs.declared.descriptor.Stream.TheVariants as streams
use Rattle.linux_model.specs.State.{Kernel, Process, Written, joined, nothing}
use Rattle.linux_model.specs.Processes.{process}
use Rattle.linux_model.specs.Effects.{applies}
use Rattle.linux_model.specs.Turns.{Schedule, ended, flat, is_over, ready, turn_of, whose}
use Rattle.linux_model.specs.Held.{held_in}
use Rattle.linux_model.specs.Managed.{managed_in}
use Rattle.linux_model.proofs.fits.Found.{found_pid}
use Rattle.call_machine.proofs.Rows.{of_process}
use Rattle.plain_machine.specs.Plain.{held_of}
use Rattle.plain_kernel.specs.declared.kernel.PlainKernel.{PlainKernel}
use Rattle.plain_kernel.specs.declared.kernel.RunStop.{RunStop}
use Rattle.plain_kernel.specs.declared.kernel.RunStop.TheVariants.{OutFault, ErrFault, NoMemory}
use Rattle.plain_kernel.specs.Outcomes.{Told, Took, Faults, Later, Cause, front_of}
use Rattle.plain_kernel.specs.Runs.{Through, GoesInto, Stops, StopsSo, Cuts, TurnsMayCome, RanSoFar, Run}
use Rattle.plain_kernel.specs.Standing.{kernel_in}
use Rattle.plain_kernel.specs.Turns.{CanTurn, HasTurn, acts_in}
use Rattle.plain_kernel.specs.Written.{IsEmpty, TurnWent, Went, Wrote, Cut}
use Rattle.plain_kernel.proofs.Writing.{took-nothing, took-more}

-- ---- counts of faults

pub later_both : (a b c : Faults) → Later a b → Later b c → Later a c
later_both a b c s t = record {
  out = let x = s.out in let y = t.out in omega (arith, x, y);
  err = let x = s.err in let y = t.err in omega (arith, x, y);
}

pub cause_since : (a b c : Faults) (stop : RunStop) → Later a b → Cause b c stop → Cause a c stop
cause_since a b c NoMemory s cause = tt
cause_since a b c OutFault s cause = let x = s.out in omega (arith, x, cause)
cause_since a b c ErrFault s cause = let x = s.err in omega (arith, x, cause)

-- ---- the flat run

-- where a run doesn't end turns are left
pub turns_left : (schedule : Schedule) (n : ℕ) (k : Kernel) → ended schedule n k ≡ None → n < schedule.max_turns
turns_left schedule n k none = by (cases_lt n schedule.max_turns)
  where
    spent : (over stuck : Bool) → cond over (Some Done) (cond stuck (Some Stuck) (Some Spent)) ≡ None → n < schedule.max_turns
    spent true stuck none = cc none
    spent false true none = cc none
    spent false false none = cc none

    by : ((n < schedule.max_turns) ⊎ (schedule.max_turns ≤ n)) → n < schedule.max_turns
    by (inl less) = less
    by (inr over) = spent (is_over k.procs) (length (ready k) == 0) (subst (λ (b : Bool). cond (is_over k.procs) (Some Done) (cond (length (ready k) == 0) (Some Stuck) (cond b None (Some Spent))) ≡ None) (le-ltb n schedule.max_turns over) none)

module _ (schedule : Schedule) (boot : Kernel) where
  none_yet : Through schedule boot 0
  none_yet = record { few = omega arith; before = λ m less. absurd (omega (arith, less)) }

  -- one turn more
  flat_next : (n : ℕ) (p : Process) → whose schedule (suc n) (flat schedule boot n).procs (ready (flat schedule boot n)) ≡ Some p → flat schedule boot (suc n) ≡ applies (acts_in schedule p (flat schedule boot n)) (flat schedule boot n)
  unfolding flat
  flat_next n p is = ap (λ (o : Option Process). applies (turn_of schedule (suc n) o (flat schedule boot n)) (flat schedule boot n)) is

  through_next : (n : ℕ) → Through schedule boot n → n < schedule.max_turns → ended schedule n (flat schedule boot n) ≡ None → Through schedule boot (suc n)
  through_next n t less none = record {
    few = omega (arith, less);
    before = λ m low. by m (cases_lt m n) low;
  }
    where
      by : (m : ℕ) → ((m < n) ⊎ (n ≤ m)) → m < suc n → ended schedule m (flat schedule boot m) ≡ None
      by m (inl low) high = t.before m low
      by m (inr low) high = let same : n ≡ m = omega (arith, low, high) in subst (λ (i : ℕ). ended schedule i (flat schedule boot i) ≡ None) same none

  -- ---- the kernel after n turns

  module _ (before : Told) where
    pub started : (now : PlainKernel) → kernel_in now nothing ≡ boot → RanSoFar schedule boot before before now 0
    unfolding flat
    started now is = record {
      through = none_yet;
      took = subst (Took before before) (ap (λ (k : Kernel). k.written) is) (took-nothing before);
      stands = ap (λ (k : Kernel). kernel_in now k.written) (sym is) ∙ is;
    }

    module _ (told : Told) (now : PlainKernel) (n : ℕ) (ran : RanSoFar schedule boot before told now n) where
      abbrev before_turn : Kernel
      before_turn = kernel_in now (flat schedule boot n).written

      pub came_to_end : (word : EndWord) → ended schedule n before_turn ≡ Some word → ended schedule n (flat schedule boot n) ≡ Some word
      came_to_end word is = ap (ended schedule n) (sym ran.stands) ∙ is

      module _ (pid : ℕ) (none : ended schedule n before_turn ≡ None) (has : HasTurn schedule n before_turn pid) where
        less : n < schedule.max_turns
        less = turns_left schedule n before_turn none

        not_ended : ended schedule n (flat schedule boot n) ≡ None
        not_ended = ap (ended schedule n) (sym ran.stands) ∙ none

        its_pid : has.p.pid ≡ pid
        its_pid = eqb-true has.p.pid pid (found_pid now.manager.procs pid has.p has.there)

        pub can_turn : TurnsMayCome schedule boot → CanTurn schedule pid now.manager (held_of now.machine)
        can_turn may =
            subst (λ (pid : ℕ). CanTurn schedule pid now.manager (held_of now.machine)) its_pid
            (subst (λ (o : Option Process). IfSome o (λ p. CanTurn schedule p.pid now.manager (held_of now.machine))) has.turn
            (subst (λ (k : Kernel). IfSome (whose schedule (suc n) k.procs (ready k)) (λ p. CanTurn schedule p.pid (managed_in k) (held_in k))) (sym ran.stands) (may n less)))

        flat_is : flat schedule boot (suc n) ≡ applies (acts_in schedule has.p before_turn) before_turn
        flat_is =
            flat_next n has.p (ap (λ (k : Kernel). whose schedule (suc n) k.procs (ready k)) (sym ran.stands) ∙ has.turn)
            ∙ ap (λ (k : Kernel). applies (acts_in schedule has.p k) k) (sym ran.stands)

        goes_into : GoesInto schedule boot n
        goes_into = record { through = ran.through; more = less; not_ended = not_ended }

        -- the turn was written
        pub one_more : (told' : Told) (new : PlainKernel) → Wrote told told' now new (flat schedule boot n).written (acts_in schedule has.p before_turn) → RanSoFar schedule boot before told' new (suc n)
        one_more told' new wrote =
            let w : Written = (flat schedule boot n).written in
            let next : flat schedule boot (suc n) ≡ kernel_in new (joined w wrote.piece) = flat_is ∙ wrote.does in
            let written : (flat schedule boot (suc n)).written ≡ joined w wrote.piece = ap (λ (k : Kernel). k.written) next in
            record {
              through = through_next n ran.through less not_ended;
              took = subst (Took before told') (sym written) (took-more before told told' w wrote.piece ran.took wrote.took);
              stands = ap (kernel_in new) written ∙ sym next;
            }

        -- a stream failed within it
        pub cuts : (told' : Told) (stream : Stream) → Cut told told' now (flat schedule boot n).written (acts_in schedule has.p before_turn) stream → Cuts schedule boot stream before told'
        cuts told' stream cut = record {
          turns = n;
          into = goes_into;
          piece = cut.piece;
          writes = ap (λ (k : Kernel). k.written) flat_is ∙ cut.writes;
          front = cut.cut.front;
          rest = cut.cut.rest;
          missing = cut.cut.more;
          whole = cut.cut.whole;
          took = took-more before told told' (flat schedule boot n).written (front_of stream cut.piece cut.cut.front) ran.took cut.cut.took;
        }

      -- memory ran out before anything was written
      pub stops : (told' : Told) → told' ≡ told → Stops schedule boot before told'
      stops told' same = record { turns = n; through = ran.through; took = subst (λ (t : Told). Took before t (flat schedule boot n).written) (sym same) ran.took }

-- ---- how a turn that failed ends the run

-- a turn of the process that has it failed so
pub failed : (schedule : Schedule) (boot : Kernel) (before told told' : Told) (now new : PlainKernel) (n pid : ℕ) (stop : RunStop) (ran : RanSoFar schedule boot before told now n) → ended schedule n (kernel_in now (flat schedule boot n).written) ≡ None → HasTurn schedule n (kernel_in now (flat schedule boot n).written) pid → TurnWent schedule pid told told' now new (flat schedule boot n).written (Err stop) → StopsSo schedule boot before told' stop
failed schedule boot before told told' now new n pid NoMemory ran none has went =
    stops schedule boot before told now n ran told' (of_process now.manager pid (λ p. Went told told' now new (flat schedule boot n).written (acts_in schedule p (kernel_in now (flat schedule boot n).written)) (Err NoMemory)) has.p has.there went)
failed schedule boot before told told' now new n pid OutFault ran none has went =
    cuts schedule boot before told now n ran pid none has told' streams.Out (of_process now.manager pid (λ p. Went told told' now new (flat schedule boot n).written (acts_in schedule p (kernel_in now (flat schedule boot n).written)) (Err OutFault)) has.p has.there went)
failed schedule boot before told told' now new n pid ErrFault ran none has went =
    cuts schedule boot before told now n ran pid none has told' streams.Err (of_process now.manager pid (λ p. Went told told' now new (flat schedule boot n).written (acts_in schedule p (kernel_in now (flat schedule boot n).written)) (Err ErrFault)) has.p has.there went)

-- one that was written is followed by the next
pub written : (schedule : Schedule) (boot : Kernel) (before told told' : Told) (now new : PlainKernel) (n m pid : ℕ) (ran : RanSoFar schedule boot before told now n) → m ≡ suc n → ended schedule n (kernel_in now (flat schedule boot n).written) ≡ None → HasTurn schedule n (kernel_in now (flat schedule boot n).written) pid → TurnWent schedule pid told told' now new (flat schedule boot n).written (Ok tt) → RanSoFar schedule boot before told' new m × IsEmpty new.machine.output
written schedule boot before told told' now new n m pid ran next none has went =
    let wrote : Wrote told told' now new (flat schedule boot n).written (acts_in schedule has.p (kernel_in now (flat schedule boot n).written)) =
    of_process now.manager pid (λ p. Went told told' now new (flat schedule boot n).written (acts_in schedule p (kernel_in now (flat schedule boot n).written)) (Ok tt)) has.p has.there went
    in
    (subst (RanSoFar schedule boot before told' new) (sym next) (one_more schedule boot before told now n ran pid none has told' new wrote), wrote.empty)

-- and what comes back is that failure
pub stops_so : (schedule : Schedule) (boot : Kernel) (before after : Told) (now : PlainKernel) (result : Result Ended RunStop) (stop : RunStop) → IsErrAnd result (λ e. e ≡ stop) → StopsSo schedule boot before after stop → Run schedule boot before after now result
stops_so schedule boot before after now (Ok end) stop is stops = absurd is
stops_so schedule boot before after now (Err e) stop is stops = subst (StopsSo schedule boot before after) (sym is) stops
