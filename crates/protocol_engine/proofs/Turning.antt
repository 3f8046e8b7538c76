-- A turn may begin where nothing is open and no crash of the one before is left.
use Rattle.std.proofs.Common.{◌≡◌, ◌+◌, [], ◌∷◌, ℕ, Bool, List, None, Option, ap, cond, false, ltb, refl, sym, true}
use Rattle.lego_base.specs.declared.ids.Pid.{Pid}
use Rattle.lego_base.specs.declared.shape.CrashAt.{CrashAt}
use Rattle.lego_msg.specs.Marks.{Mark, Show}
use Rattle.lego_msg.specs.Track.{Track, entries_below, is_calm, is_crash_left}
use Rattle.lego_msg.specs.Watching.{ShownTo}
use Rattle.lego_msg.specs.Went.{Came}
use Rattle.lego_msg.specs.declared.event.Event.{Event}
use Rattle.lego_msg.specs.declared.event.Event.TheVariants.{Turn}

module _ {W : Type 0} (told : W → Option (List Event)) (faults : W → ℕ) (w w' : W) where
  pub turn_came : (t : Track) (number : ℕ) (pid : Pid) (rest : List Mark) (passed : ℕ) → ShownTo told faults w w' (Turn number pid ∷ []) → t.owed ≡ [] → t.current ≡ None → t.healing ≡ None → is_calm t ≡ true → is_crash_left t ≡ false →
      passed ≡ entries_below number t.shape.crashes →
      Came told faults w w' (record t { due = Show (Turn number pid) ∷ rest }) (record t { due = rest; clock = record { begun = true; turn = number; since = 0; passed = passed } })
  turn_came t number pid rest passed shown owed closed healed calm left below = record {
    event = Turn number pid;
    shown = shown;
    may = ((record { owed = owed; closed = closed; healed = healed; calm = calm }, refl), left);
    ends = λ i. record t { due = rest; clock = record { begun = true; turn = number; since = 0; passed = sym below i } };
  }

-- entries of a list one by one
pub below_stops : (turn : ℕ) (e : CrashAt) (crashes : List CrashAt) → ltb e.turn turn ≡ false → entries_below turn (e ∷ crashes) ≡ 0
below_stops turn e crashes later = ap (λ (b : Bool). cond b (1 + entries_below turn crashes) 0) later

pub below_more : (turn : ℕ) (e : CrashAt) (crashes : List CrashAt) → ltb e.turn turn ≡ true → entries_below turn (e ∷ crashes) ≡ 1 + entries_below turn crashes
below_more turn e crashes sooner = ap (λ (b : Bool). cond b (1 + entries_below turn crashes) 0) sooner
