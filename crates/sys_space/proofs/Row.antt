-- What a call over a machine says where it answers and where it stops.
use Rattle.std.proofs.Common.{◌≡◌, ℕ, refl, sym, ◌∙◌, ap, subst, List, [], ◌∷◌, ◌++◌, Result, IfOk}
use Rattle.lego_base.specs.declared.stops.Halt.{Halt}
use Rattle.linux_model.specs.State.{Kernel}
use Rattle.kernel_objects.specs.declared.process.Brk.{Brk}
use Rattle.linux_model.specs.Processes.{at_pid}
use Rattle.linux_model.specs.Effects.{Effect, Breaks, applies}
use Rattle.linux_model.specs.Called.{Called, Gives, following}
use Rattle.linux_model.specs.Held.{Held, with_held, held_after_all}
use Rattle.call_machine.specs.Lawful.{Lawful}
use Rattle.call_machine.specs.Laws.{effects_of}
use Rattle.call_machine.specs.Made.{Answered}
use Rattle.call_machine.proofs.Stops.{stops_follow}
use Rattle.sys_space.specs.Calls.{kernel_with, with_break}
use Rattle.sys_space.proofs.Twice.{break_twice}

module _ {X : Type 0} (held : X → Held) (does stops : X → X → List Effect → Type 0) (laws : Lawful held does stops) where
  -- effects that change spaces alone
  pub answered : (old new : X) (es : List Effect) (row : Called) (k : Kernel) (value : ℕ) → row ≡ Gives es value → does old new es → applies es (with_held (held old) k) ≡ with_held (held_after_all es (held old)) k → Answered does old new row (with_held (held old) k) (with_held (held new) k) value
  answered old new es row k value is did spaces = record {
    effects = es;
    row_is = is;
    did = did;
    becomes = spaces ∙ ap (λ (h : Held). with_held h k) (sym (laws.holds old new es did));
  }

  -- a stop after effects that happened
  pub stopped : (old mid new : X) (es fs more : List Effect) (row : Called) (value : ℕ) → row ≡ Gives (es ++ (fs ++ more)) value → does old mid es → stops mid new fs → stops old new (effects_of row)
  stopped old mid new es fs more row value is did stop =
      subst (stops old new) (sym (ap effects_of is)) (laws.stops_then old mid new es (fs ++ more) did (laws.stops_front mid new fs more stop))

  -- a stop in the first effects of the row
  pub asked : (old new : X) (es : List Effect) (row rest : Called) → row ≡ following es rest → stops old new es → stops old new (effects_of row)
  asked = (stops_follow held does stops laws).following_row

  -- a stop after effects that happened, whatever would follow
  pub done : (old new : X) (es more : List Effect) (row : Called) (value : ℕ) → row ≡ Gives (es ++ more) value → does old new es → stops old new (effects_of row)
  done old new es more row value is did = (stops_follow held does stops laws).given_row old new es more row value is ((stops_follow held does stops laws).did old new es did)

  -- effects of which the last moves the break
  pub break_answered : (old new : X) (es : List Effect) (row : Called) (pid address : ℕ) (brk : Brk) (k : Kernel) → row ≡ Gives (es ++ Breaks pid brk.base address ∷ []) address → does old new es → applies (es ++ Breaks pid brk.base address ∷ []) (kernel_with pid brk (held old) k) ≡ record (with_held (held_after_all es (held old)) k) { procs = at_pid pid (with_break (record { base = brk.base; now = address })) (at_pid pid (with_break brk) k.procs) } → Answered does old new row (kernel_with pid brk (held old) k) (kernel_with pid (record { base = brk.base; now = address }) (held new) k) address
  break_answered old new es row pid address brk k is did spaces = record {
    effects = es ++ Breaks pid brk.base address ∷ [];
    row_is = is;
    did = laws.both old new new es (Breaks pid brk.base address ∷ []) did (laws.apart new (Breaks pid brk.base address) refl);
    becomes =
        spaces
        ∙ (λ i. record (with_held (sym (laws.holds old new es did) i) k) { procs = break_twice pid brk (record { base = brk.base; now = address }) k.procs i });
  }

  -- a call that hands on: its row is that of the other
  pub answered_as : (old new : X) (row row' : Called) (before after : Kernel) (result : Result ℕ Halt) → row ≡ row' → IfOk result (Answered does old new row' before after) → IfOk result (Answered does old new row before after)
  answered_as old new row row' before after result is answer = subst (λ (r : Called). IfOk result (Answered does old new r before after)) (sym is) answer

  pub stopped_as : (old new : X) (row row' : Called) → row ≡ row' → stops old new (effects_of row') → stops old new (effects_of row)
  stopped_as old new row row' is stop = subst (λ (r : Called). stops old new (effects_of r)) (sym is) stop
