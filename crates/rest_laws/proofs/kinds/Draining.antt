-- A drain: an empty log is drained at once, else the drain waits. The operation that only drains.
use Rattle.std.proofs.Common.{◌≡◌, ◌⊎◌, ◌<◌, ◌==◌, [], ◌∷◌, ◌++◌, ◌∙◌, ℕ, Bool, List, None, Option, Some, ap, append-nil, arith, cond, false, inl, inr, length, refl, subst, sym, true}
use Rattle.std.proofs.lemmas.Bool.{eqb-false}
use Rattle.std.proofs.lemmas.Bool.Decides.{eqb_tells}
use Rattle.lego_base.specs.declared.ids.MemId.{MemId}
use Rattle.lego_msg.specs.Operations.{patch_of}
use Rattle.lego_msg.specs.Places.{is_among, is_issuer, memory, secondary_of}
use Rattle.lego_msg.specs.State.{Mem, Waiter}
use Rattle.lego_msg.specs.Table.{answers, batched, drain_row}
use Rattle.lego_msg.specs.Track.{Track, healing_move, memory_count}
use Rattle.lego_msg.specs.declared.message.Message.{Message}
use Rattle.lego_msg.specs.declared.operation.Open.{Open}
use Rattle.lego_msg.specs.declared.operation.Operation.TheVariants.{Drains}
use Rattle.lego_rest.specs.Answers.{answers_to}
use Rattle.lego_rest.specs.Fits.{MemFits, WaiterFits, WaitsFor, WaitsForMove}
use Rattle.lego_rest.specs.Parts.{Areas, Cell, Home, Page, new_share, second_part, sides_of}
use Rattle.lego_rest.specs.Pending.{IsNot, Says}
use Rattle.rest_laws.proofs.Delivered.{RowGives, answers_for}
use Rattle.rest_laws.proofs.Meeting.{Met, met_fits, met_holds, met_main, met_open, met_second, met_some}
use Rattle.rest_laws.proofs.Opened.{all_both}
use Rattle.rest_laws.proofs.Replied.{Change, all_new, replied}
use Rattle.rest_laws.proofs.kinds.Asking.{alone}
use Rattle.rest_laws.proofs.kinds.Cells.{agreed}
use Rattle.rest_laws.proofs.kinds.Kind.{KindRows, MemoryGives, here, rows_of}
use Rattle.rest_laws.proofs.kinds.Logging.{carries_on, logging, ruled}
use Rattle.lego_msg.specs.declared.body.Body.TheVariants as body

module _ (lost : Option ℕ) (t : Track) (o : Open) (k : ℕ) (s : Mem) (m : Message) (met : Met lost t o k s m) where
  -- a drain that waits
  abbrev waiting : Waiter
  waiting = record { place = m.from; op = m.op.0 }

  -- more drains change no cell
  still : (drains : List Waiter) → Change t o (answers_for o k []) k s (logging s s.log s.out drains)
  still drains = record {
    main = λ c. inl refl;
    main_told = λ now. cc now;
    second = same;
    second_told = λ j below is now. cc now;
  }
    where
      same : (j : ℕ) → j < memory_count t.shape → secondary_of (memory_count t.shape) j ≡ k → (c : Cell) → (second_part t.owners t.disk.images j (logging s s.log s.out drains) c ≡ second_part t.owners t.disk.images j s c) ⊎ (second_part t.owners t.disk.images j (logging s s.log s.out drains) c ≡ new_share (sides_of (record t { current = Some o })) j c)
      same j below is (Home pid region) = inl refl
      same j below is (Areas pid region) = inl refl
      same j below is (Page pid vpn) = inl refl

  waiter_fits : m.from ≡ o.by → WaitsFor (memory_count t.shape) k o.operation → WaiterFits (memory_count t.shape) k t.next (Some o) (healing_move t.healing) waiting
  waiter_fits issued waits = record {
    some = met_some lost t o k s m met;
    below = subst (λ (n : ℕ). n < t.next) (sym met.number) (met_open lost t o k s m met).below;
    by = ap is_issuer issued ∙ (met_open lost t o k s m met).by;
    of_open = λ same. (issued, waits);
    of_move = other (healing_move t.healing) met.not_move;
  }
    where
      other : (move : Option Open) → IsNot move m.op.0 → WaitsForMove k waiting move
      other None none = tt
      other (Some p) none = λ same. absurd (eqb-false m.op.0 p.number.0 none same)

  pub drain_gives : m.from ≡ o.by → is_among (memory k) o.targets ≡ true → WaitsFor (memory_count t.shape) k o.operation → Says (memory_count t.shape) t.plain o.operation (memory k) body.Drained → Change t o (answers_to (patch_of o.operation) body.Drained) k s s → RowGives lost t o k s (drain_row s m).0 (drain_row s m).1
  drain_gives issued target waits says change = by (length s.log == 0) refl
    where
      was : MemFits t.shape k s
      was = met_fits lost t o k s m met

      some : (length s.log == 0) ≡ false → 0 < length s.log
      some e = elim (eqb_tells (length s.log) 0) [
        | inl same ↦ let both : true ≡ false = sym same.0 ∙ e in cc both
        | inr differ ↦ let not_none = differ.1 in omega (arith, not_none)
      ]

      by : (b : Bool) → (length s.log == 0) ≡ b → RowGives lost t o k s (cond b (answers s m body.Drained) (batched (logging s s.log s.out (s.drains ++ waiting ∷ [])) [])).0 (cond b (answers s m body.Drained) (batched (logging s s.log s.out (s.drains ++ waiting ∷ [])) [])).1
      by true none = replied lost t o k s m met s.main s.spare s.pages body.Drained issued target says (λ b. refl) was.main was.spare was.pages was.frames change
      by false more = ruled lost t o k s m met s.log (s.drains ++ waiting ∷ []) [] was.log was.room
          (all_both (WaiterFits (memory_count t.shape) k t.next (Some o) (healing_move t.healing)) s.drains (waiting ∷ []) (met.middle.waiting k s met.at) (waiter_fits issued waits, tt))
          (met.middle.current.1 k s met.at) (some more) (carries_on lost t o k s m met s.log [] (s.drains ++ waiting ∷ []) (sym (append-nil s.log))) tt tt tt (λ b. refl) (met_holds lost t o k s m met).log (still (s.drains ++ waiting ∷ []))

-- THE OPERATION THAT DRAINS
module _ (lost : Option ℕ) (t : Track) (o : Open) (m : MemId) where
  abbrev draining : Open
  draining = record o { operation = Drains m }

  abbrev drain_message : Message
  drain_message = record { from = o.by; to = memory m.0; op = o.number; body = body.Drain }

  drained : (s : Mem) → MemoryGives lost t draining m.0 s drain_message
  drained s met = drain_gives lost t draining m.0 s drain_message met refl (ap (is_among (memory m.0)) (met_open lost t draining m.0 s drain_message met).targets ∙ alone m.0) refl refl
      (all_new t draining true m.0 s s.main s.spare s.pages (λ c. agreed _ _ _ refl (met_main lost t draining m.0 s drain_message met c)) (λ j below is c speaks. agreed _ _ _ refl (met_second lost t draining m.0 s drain_message met j below is c)))

  pub drains_rows : KindRows lost t draining
  drains_rows = rows_of lost t draining (λ to what how. how) (λ m how. how) (here lost t draining drain_message m.0 refl drained, tt)
