-- A crash of the next entry's memory may come at its moment, and leads to its healing.
use Rattle.std.proofs.Common.{◌≡◌, ◌+◌, ◌<◌, ◌∙◌, ◌&&◌, [], ◌∷◌, ℕ, List, None, Option, Some, ap, false, not, refl, slice_get, subst, sym, true}
use Rattle.std.specs.Prelude.{slice_set}
use Rattle.lego_base.specs.declared.shape.CrashAt.{CrashAt}
use Rattle.lego_msg.specs.Crashes.{IsEntry, IsNextInc, forgotten, is_crash_moment, memory_lost}
use Rattle.lego_msg.specs.Healing.{moves_of}
use Rattle.lego_msg.specs.Legal.{May}
use Rattle.lego_msg.specs.Places.{lose, memory}
use Rattle.lego_msg.specs.Run.{after}
use Rattle.lego_msg.specs.State.{Mem, lost}
use Rattle.lego_msg.specs.Track.{Track, is_any_done, memory_count, next_crash}
use Rattle.lego_msg.specs.Watching.{ShownTo}
use Rattle.lego_msg.specs.Went.{Came}
use Rattle.lego_msg.specs.declared.event.Event.{Event}
use Rattle.lego_msg.specs.declared.event.Event.TheVariants.{Crash}
use Rattle.lego_msg.specs.declared.healing.Healing.{Healing}
use Rattle.lego_msg.specs.declared.message.Message.{Message}
use Rattle.lego_msg.specs.declared.operation.Open.{Open}
use Rattle.lego_waits.proofs.Waits.{crashes-lower}
use Rattle.lego_waits.specs.Measure.{load}

-- the healing that begins, of n memories
abbrev pub heals_with : ℕ → CrashAt → Track → Option Healing
heals_with n e t = Some (record { memory = e.memory; moves = moves_of n e.memory.0 t.owners; current = None; got = None })

module _ {W : Type 0} (told : W → Option (List Event)) (faults : W → ℕ) (w w' : W) where
  pub crash_came : (t : Track) (e : CrashAt) (s : Mem) (inc passed n : ℕ) (mems : List Mem) (net : List Message) (current : Option Open) (healing : Option Healing) →
      ShownTo told faults w w' (Crash e.memory inc ∷ []) → t.owed ≡ [] → t.stopped ≡ false → is_any_done t ≡ false → is_crash_moment t ≡ true →
      next_crash t.shape t.clock ≡ Some e → slice_get t.mems e.memory.0 ≡ Some s → inc ≡ s.inc + 1 →
      mems ≡ slice_set t.mems e.memory.0 (lost s) → net ≡ lose (memory e.memory.0) t.net → current ≡ forgotten (memory e.memory.0) t.current → passed ≡ t.clock.passed + 1 →
      n ≡ memory_count t.shape → healing ≡ heals_with n e t →
      Came told faults w w' t (record t { mems = mems; net = net; current = current; clock = record t.clock { passed = passed }; healing = healing })
      × (load (record t { mems = mems; net = net; current = current; clock = record t.clock { passed = passed }; healing = healing }) < load t)
  crash_came t e s inc passed n mems net current healing shown owed goes none moment is at raised sets loses forgets counts count heals =
      let may : May t (Crash e.memory inc) = record {
        owed = owed;
        goes_on = λ i. not (goes i) && not (none i);
        entry = subst (λ (x : Option CrashAt). IsEntry x e.memory.0) (sym is) refl;
        moment = moment;
        raised = subst (λ (x : Option Mem). IsNextInc x inc) (sym at) raised;
      } in
      let ends : after t (Crash e.memory inc) ≡ record t { mems = mems; net = net; current = current; clock = record t.clock { passed = passed }; healing = healing } = λ i. record t {
        mems = (ap (memory_lost t.mems e.memory.0) at ∙ sym sets) i;
        net = sym loses i;
        current = sym forgets i;
        clock = record t.clock { passed = sym counts i };
        healing = (ap (λ (k : ℕ). heals_with k e t) (sym count) ∙ sym heals) i;
      } in
      (record { event = Crash e.memory inc; shown = shown; may = may; ends = ends }, subst (λ (x : Track). load x < load t) ends (crashes-lower t e.memory inc may))
