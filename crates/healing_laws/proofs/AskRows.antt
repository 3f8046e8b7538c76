-- A memory that is up gets the move's message: it answers, or the drain waits there.
use Rattle.std.proofs.Common.{◌≡◌, ◌⊎◌, ◌+◌, ◌<◌, ◌==◌, ◌||◌, [], ◌∷◌, ◌++◌, ◌∙◌, ℕ, Bool, List, None, Option, Some, ap, append-nil, arith, cond, false, inl, inr, length, ltb, refl, slice_get, subst, sym, take, true}
use Rattle.std.proofs.lemmas.Bool.{eq-eqb, eqb-false, eqb-true, lt-ltb, ne_eqb}
use Rattle.std.proofs.lemmas.Bool.Decides.{eqb_tells}
use Rattle.std.proofs.lemmas.List.Elements.{filter-append}
use Rattle.std.specs.List.{AllByRecursion, list_any}
use Rattle.std.specs.Prelude.{slice_set}
use Rattle.lego_base.specs.declared.records.Patch.{Patch}
use Rattle.lego_msg.proofs.Senders.{get_set_other, same_some}
use Rattle.lego_msg.specs.Deliveries.{MayDeliver, taken}
use Rattle.lego_msg.specs.Places.{is_issuer, memory, same_place, secondary_of}
use Rattle.lego_msg.specs.State.{Block, Mem, Waiter}
use Rattle.lego_msg.specs.Table.{answers, backup, batched, drain_row, reply}
use Rattle.lego_msg.specs.Track.{Track, healing_move, memory_count}
use Rattle.lego_msg.specs.declared.body.Body.{Body}
use Rattle.lego_msg.specs.declared.healing.Healing.{Healing}
use Rattle.lego_msg.specs.declared.message.Message.{Message}
use Rattle.lego_msg.specs.declared.operation.Open.{Open}
use Rattle.lego_msg.specs.declared.operation.Operation.TheVariants.{Heals}
use Rattle.lego_rest.specs.Answers.{all_pending}
use Rattle.lego_rest.specs.Fits.{BatchFits, HasBatch, MemFits, WaiterFits, WaitsForMove, WaitsForOpen, background, batch_message, changes_block, is_background, receipt}
use Rattle.lego_rest.specs.Heals.{HasDone, IsDrained, MoveGot, count_drains, count_number, count_waiting, is_undone, is_unheard, open_patch, scene_of}
use Rattle.lego_rest.specs.Parts.{Areas, Cell, Home, IsEither, Page, main_part, second_part, sides_of}
use Rattle.lego_rest.specs.Pending.{Goes, IsNot, IsPlace, IsUp, MayPend, OfBackground}
use Rattle.lego_rest.specs.Rest.{CurrentFits, MemHolds, Middle}
use Rattle.rest_laws.proofs.Bare.{get_below}
use Rattle.rest_laws.proofs.Delivered.{ClearOf, Given, MemoryRow, answers_at, given_keeps, left_all, left_of, of_first, set_each}
use Rattle.rest_laws.proofs.Opened.{all_both, every}
use Rattle.rest_laws.proofs.Stepping.{batch_stays}
use Rattle.rest_laws.proofs.Taken.{background_more, batches_same, changes_less}
use Rattle.rest_laws.proofs.kinds.Logging.{Carries, by_rule, logging, other_background, rule_fits}
use Rattle.healing_laws.proofs.Beside.{lost_at, up_apart}
use Rattle.healing_laws.proofs.Leaves.{set_drains}
use Rattle.healing_laws.proofs.MoveSteps.{answer_pends, answers_none, heal_holds, heal_step, its_message, none_wait, not_current, the_move, the_way}
use Rattle.healing_laws.proofs.Onward.{ScenesAgree, done_kept, in_scene}
use Rattle.healing_laws.proofs.Passing.{none_numbered}
use Rattle.lego_msg.specs.declared.body.Body.TheVariants as body
use Rattle.lego_msg.specs.declared.place.Place.TheVariants as place

-- a log that is drained, with images old or new
pub drained_if : (t : Track) (mems : List Mem) (c : ℕ) (x : Mem) → slice_get mems (secondary_of (memory_count t.shape) c) ≡ Some x → x.log ≡ [] → ((pid vpn : ℕ) → IsEither (sides_of t) c (Page pid vpn) (second_part t.owners t.disk.images c x (Page pid vpn))) → IsDrained (sides_of t) (open_patch t.current) mems t.disk.images c
drained_if t mems c x at empty either = (
  λ y is. subst (λ (log : List Patch). AllByRecursion (λ (p : Patch). open_patch t.current ≡ Some p) log) (sym (ap (λ (z : Mem). z.log) (same_some y x (sym is ∙ at)) ∙ empty)) tt,
  λ pid vpn. subst (λ (log : List Patch). IsEither (sides_of t) c (Page pid vpn) (second_part t.owners t.disk.images c (record x { log = log }) (Page pid vpn))) empty (either pid vpn),
)

-- the clearness of a log for the open operation
pub clear_of_log : (t : Track) (k : ℕ) (s : Mem) → slice_get t.mems k ≡ Some s → (c : Option Open) → CurrentFits t c → ClearOf c s.log
clear_of_log t k s at None fits = tt
clear_of_log t k s at (Some o) fits = fits.1 k s at

module _ (lost : Option ℕ) (t : Track) (m : Message) (may : MayDeliver t m) (middle : Middle lost t) (h : Healing) (heals : t.healing ≡ Some h) (o : Open) (now : h.current ≡ Some o) (number : m.op.0 ≡ o.number.0) (k : ℕ) (s : Mem) (to : m.to ≡ memory k) (at : slice_get t.mems k ≡ Some s) (up : IsUp lost k) where
  its : (m.from ≡ place.Manager) × (m.to ≡ (the_way lost t m may middle h heals o now number).fits.to) × (m.body ≡ (the_way lost t m may middle h heals o now number).fits.told)
  its = its_message lost t m may middle h heals o now number (ap is_issuer to)

  was : MemFits t.shape k s
  was = middle.forms k s at

  holds : MemHolds t k s
  holds = middle.memories k s up at

  some : 0 < m.op.0
  some = subst (λ (n : ℕ). 0 < n) (sym number) (the_way lost t m may middle h heals o now number).fits.some

  id : memory s.id ≡ memory k
  id = ap memory was.id

  there : IsPlace (memory_count t.shape) (memory s.id)
  there = let inside = get_below t.mems k s at in let count = middle.count in let same = was.id in omega (arith, inside, count, same)

  apart : same_place (memory k) (memory h.memory.0) ≡ false
  apart = up_apart lost k h.memory.0 up (lost_at lost t h middle heals)

  left_background : (j : ℕ) → background j (left_of t) ≡ background j (all_pending t)
  left_background j = ap (background j) (left_all t m may) ∙ batches_same t m may some j

  pub left_more : (r : Message) → 0 < r.op.0 → (j : ℕ) → background j (left_of t ++ r ∷ []) ≡ background j (all_pending t)
  left_more r r_some j = background_more (left_of t) r r_some j ∙ left_background j

  -- no cell changes, and what is sent is no answer to the open operation
  same_cells : (s' : Mem) (out : List Message) → ((cell : Cell) → main_part s' cell ≡ main_part s cell) → ((j : ℕ) (cell : Cell) → second_part t.owners t.disk.images j s' cell ≡ second_part t.owners t.disk.images j s cell) → AllByRecursion (λ (r : Message). IsNot t.current r.op.0) out →
      BatchFits (left_of t ++ out) t.disk.images s' → ((b : Block) → list_any (λ (r : Message). changes_block b r.body) out ≡ false) → s'.blocks ≡ s.blocks → s'.log ≡ s.log → Given t k s s' out
  same_cells s' out main second none batch quiet blocks log = record {
    main = λ cell. inl (main cell);
    main_told = λ now. absurd (never now);
    second = λ j below is cell. inl (second j cell);
    second_told = λ j below is now. absurd (never now);
    batch = batch;
    blocks = subst (AllByRecursion _) (sym blocks) (every (λ b fit. record {
      place = fit.place;
      below = fit.below;
      same = fit.same;
      still = of_first (λ (r : Message). changes_block b r.body) (left_of t) out (quiet b) ∙ ap (list_any (λ (r : Message). changes_block b r.body)) (left_all t m may) ∙ changes_less t m may b fit.still;
    }) s.blocks holds.blocks);
    log = subst (AllByRecursion _) (sym log) holds.log;
  }
    where
      never : answers_at (memory k) t.current out ≡ true → ⊥
      never now = let both : true ≡ false = sym now ∙ answers_none (memory k) t.current out none in cc both

  -- THE ROW: the memory is s', and sends `out`
  pub up_comes : (s' : Mem) (out : List Message) → MemoryRow lost t k s s' out → (AllByRecursion (λ (p : Patch). open_patch t.current ≡ Some p) s.log → AllByRecursion (λ (p : Patch). open_patch t.current ≡ Some p) s'.log) →
      AllByRecursion (λ (r : Message). IsNot t.current r.op.0) out → count_number o.number.0 out + count_waiting o.number.0 s'.drains ≡ 1 + count_waiting o.number.0 s.drains →
      AllByRecursion (λ (r : Message). r.op.0 ≡ o.number.0 → r.to ≡ place.Manager → (r.from ≡ memory k) × MoveGot (in_scene (scene_of t) (slice_set t.mems k s') t.disk.images) h.memory.0 (the_way lost t m may middle h heals o now number).move r.body) out →
      (is_undone o.number.0 out (slice_set t.mems k s') ≡ false → HasDone (in_scene (scene_of t) (slice_set t.mems k s') t.disk.images) h.memory.0 (heal_holds lost t m may middle h heals o now number).stands.x (the_way lost t m may middle h heals o now number).move) →
      Middle lost (record (taken t) { mems = slice_set t.mems k s'; owed = out })
  up_comes s' out row log none count heard did = given_keeps lost t k s s' m out may to at middle row
      (heal_step lost t m may middle h heals o now number (slice_set t.mems k s') t.disk out (heal_holds lost t m may middle h heals o now number).stands.x (get_set_other t.mems k h.memory.0 s' (λ same. eqb-false k h.memory.0 apart same) ∙ (heal_holds lost t m may middle h heals o now number).stands.at) (heal_holds lost t m may middle h heals o now number).stands.log (heal_holds lost t m may middle h heals o now number).stands.out (heal_holds lost t m may middle h heals o now number).stands.drains (heal_holds lost t m may middle h heals o now number).stands.blocks
      agree (done_kept (scene_of t) (slice_set t.mems k s') t.disk.images h.memory.0 agree (heal_holds lost t m may middle h heals o now number).stands.x) (row.others h.memory.0 (λ same. eqb-false k h.memory.0 apart same)) (heal_holds lost t m may middle h heals o now number).pages none counted
      (every (λ r heard same to_manager. let it = heard same to_manager in (it.0 ∙ sym to ∙ its.1, it.1)) out heard) did)
    where
      set_ : count_drains o.number.0 (slice_set t.mems k s') + count_waiting o.number.0 s.drains ≡ count_drains o.number.0 t.mems + count_waiting o.number.0 s'.drains
      set_ = set_drains o.number.0 t.mems k s s' at

      counted : count_number o.number.0 out + count_drains o.number.0 (slice_set t.mems k s') ≡ 1
      counted = let zero_ = none_wait lost t m may middle h heals o now number in omega (arith, set_, zero_, count)

      agree : ScenesAgree (scene_of t) (slice_set t.mems k s') t.disk.images h.memory.0
      agree = record {
        drained = λ drained. (λ y is. set_each (λ (j : ℕ) (z : Mem). j ≡ secondary_of (memory_count t.shape) h.memory.0 → AllByRecursion (λ (p : Patch). open_patch t.current ≡ Some p) z.log) t.mems k s s' at (λ e. log (drained.0 s (ap (slice_get t.mems) (sym e) ∙ at))) (λ j z was e. drained.0 z (ap (slice_get t.mems) (sym e) ∙ was)) (secondary_of (memory_count t.shape) h.memory.0) y is refl, drained.1);
        anew = λ pid vpn mine either. either;
      }

  -- IT ANSWERS AT ONCE, and holds what it held
  pub it_answers : (told : Body) → ((b : Block) → changes_block b told ≡ false) → MoveGot (in_scene (scene_of t) (slice_set t.mems k s) t.disk.images) h.memory.0 (the_way lost t m may middle h heals o now number).move told →
      HasDone (in_scene (scene_of t) (slice_set t.mems k s) t.disk.images) h.memory.0 (heal_holds lost t m may middle h heals o now number).stands.x (the_way lost t m may middle h heals o now number).move →
      Middle lost (record (taken t) { mems = slice_set t.mems k s; owed = reply (memory s.id) m told ∷ [] })
  it_answers told still got did = up_comes s (reply (memory s.id) m told ∷ []) row (λ all. all) (not_current lost t m may middle h heals o now number m.op.0 number, tt) counted ((λ same to_manager. (id, got)), tt) (λ e. did)
    where
      counted : count_number o.number.0 (reply (memory s.id) m told ∷ []) + count_waiting o.number.0 s.drains ≡ 1 + count_waiting o.number.0 s.drains
      counted = let one : cond (m.op.0 == o.number.0) 1 0 ≡ 1 = ap (λ (b : Bool). cond b 1 0) (eq-eqb m.op.0 o.number.0 number) in by (cond (m.op.0 == o.number.0) 1 0) one
        where
          by : (one : ℕ) → one ≡ 1 → (one + 0) + count_waiting o.number.0 s.drains ≡ 1 + count_waiting o.number.0 s.drains
          by one e = omega (arith, e)

      row : MemoryRow lost t k s s (reply (memory s.id) m told ∷ [])
      row = record {
        fits = was;
        waiting = middle.waiting k s at;
        clear = clear_of_log t k s at t.current middle.current;
        sends = (answer_pends lost t m may middle h heals o now number (reply (memory s.id) m told) refl its.0 (id ∙ sym to ∙ its.1) there, tt);
        from = (id, tt);
        given = λ up_k. same_cells s (reply (memory s.id) m told ∷ []) (λ cell. refl) (λ j cell. refl) (not_current lost t m may middle h heals o now number m.op.0 number, tt)
            (batch_stays (all_pending t) (left_of t ++ reply (memory s.id) m told ∷ []) t.disk.images s (left_more (reply (memory s.id) m told) some s.id) holds.batch) (λ b. ap (λ (x : Bool). x || false) (still b)) refl refl;
        others = λ j other. left_more (reply (memory s.id) m told) some j;
        changes = λ b other. ap (λ (x : Bool). x || false) (still b);
      }

  -- A DRAIN WAITS
  abbrev waiter : Waiter
  waiter = record { place = m.from; op = m.op.0 }

  waiter_fits : o.operation ≡ Heals (memory k) body.Drain → WaiterFits (memory_count t.shape) k t.next t.current (healing_move t.healing) waiter
  waiter_fits is = record {
    some = some;
    below = subst (λ (n : ℕ). n < t.next) (sym number) (the_way lost t m may middle h heals o now number).fits.below;
    by = ap is_issuer its.0;
    of_open = other t.current (not_current lost t m may middle h heals o now number m.op.0 number);
    of_move = subst (WaitsForMove k waiter) (sym (the_move lost t m may middle h heals o now number)) (λ same. (its.0, is));
  }
    where
      other : (current : Option Open) → IsNot current m.op.0 → WaitsForOpen (memory_count t.shape) k waiter current
      other None none = tt
      other (Some p) none = λ same. absurd (eqb-false m.op.0 p.number.0 none same)

  carries : (drains : List Waiter) → Carries (left_of t) t.disk.images (logging s s.log s.out drains)
  carries drains = record {
    none = λ out. left_background s.id ∙ holds.batch.none out;
    once = λ out. by (holds.batch.once out);
    within = holds.batch.within;
  }
    where
      by : (background s.id (all_pending t) ≡ batch_message s ∷ []) ⊎ ((background s.id (all_pending t) ≡ receipt s ∷ []) × HasBatch t.disk.images (take s.out s.log)) → (background s.id (left_of t) ≡ batch_message s ∷ []) ⊎ ((background s.id (left_of t) ≡ receipt s ∷ []) × HasBatch t.disk.images (take s.out s.log))
      by (inl e) = inl (left_background s.id ∙ e)
      by (inr e) = inr (left_background s.id ∙ e.0, e.1)

  -- with a batch, or none
  waits_so : o.operation ≡ Heals (memory k) body.Drain → (out : ℕ) (sent : List Message) → AllByRecursion (MayPend lost (memory_count t.shape) t.plain t.current (healing_move t.healing) t.next) sent → AllByRecursion (λ (r : Message). r.from ≡ memory k) sent → AllByRecursion (λ (r : Message). r.op.0 ≡ 0) sent →
      ((j : ℕ) → (k ≡ j → ⊥) → background j (left_of t ++ sent) ≡ background j (all_pending t)) → ((b : Block) → list_any (λ (r : Message). changes_block b r.body) sent ≡ false) → BatchFits (left_of t ++ sent) t.disk.images (logging s s.log out (s.drains ++ waiter ∷ [])) →
      Middle lost (record (taken t) { mems = slice_set t.mems k (logging s s.log out (s.drains ++ waiter ∷ [])); owed = sent })
  waits_so is out sent pend from zeros others quiet batch = up_comes (logging s s.log out (s.drains ++ waiter ∷ [])) sent row (λ all. all) no_answer counted heard undone
    where
      numbers : (r : Message) → r.op.0 ≡ 0 → (r.op.0 == o.number.0) ≡ false
      numbers r zero_ = let positive = (the_way lost t m may middle h heals o now number).fits.some in ne_eqb r.op.0 o.number.0 (λ same. omega (arith, zero_, same, positive))

      current_some : (cur : Option Open) → CurrentFits t cur → (r : Message) → r.op.0 ≡ 0 → IsNot cur r.op.0
      current_some None fits r zero_ = tt
      current_some (Some p) fits r zero_ = let positive = fits.0.some in ne_eqb r.op.0 p.number.0 (λ same. omega (arith, zero_, same, positive))

      no_answer : AllByRecursion (λ (r : Message). IsNot t.current r.op.0) sent
      no_answer = every (current_some t.current middle.current) sent zeros

      none_of_move : AllByRecursion (λ (r : Message). (r.op.0 == o.number.0) ≡ false) sent
      none_of_move = every numbers sent zeros

      waiting_one : count_waiting o.number.0 (s.drains ++ waiter ∷ []) ≡ 1 + count_waiting o.number.0 s.drains
      waiting_one = each s.drains
        where
          each : (drains : List Waiter) → count_waiting o.number.0 (drains ++ waiter ∷ []) ≡ 1 + count_waiting o.number.0 drains
          each [] = let one : cond (m.op.0 == o.number.0) 1 0 ≡ 1 = ap (λ (b : Bool). cond b 1 0) (eq-eqb m.op.0 o.number.0 number) in by (cond (m.op.0 == o.number.0) 1 0) one
            where
              by : (one : ℕ) → one ≡ 1 → one + 0 ≡ 1 + 0
              by one e = omega (arith, e)
          each (w ∷ drains) = let rest = each drains in by (cond (w.op == o.number.0) 1 0) rest
            where
              by : (one : ℕ) → count_waiting o.number.0 (drains ++ waiter ∷ []) ≡ 1 + count_waiting o.number.0 drains → one + count_waiting o.number.0 (drains ++ waiter ∷ []) ≡ 1 + (one + count_waiting o.number.0 drains)
              by one rest = omega (arith, rest)

      counted : count_number o.number.0 sent + count_waiting o.number.0 (s.drains ++ waiter ∷ []) ≡ 1 + count_waiting o.number.0 s.drains
      counted = let zero_ = none_numbered o.number.0 sent none_of_move in omega (arith, zero_, waiting_one)

      heard : AllByRecursion (λ (r : Message). r.op.0 ≡ o.number.0 → r.to ≡ place.Manager → (r.from ≡ memory k) × MoveGot (in_scene (scene_of t) (slice_set t.mems k (logging s s.log out (s.drains ++ waiter ∷ []))) t.disk.images) h.memory.0 (the_way lost t m may middle h heals o now number).move r.body) sent
      heard = every (λ r differs same. absurd (eqb-false r.op.0 o.number.0 differs same)) sent none_of_move

      -- it is undone while it waits
      undone : is_undone o.number.0 sent (slice_set t.mems k (logging s s.log out (s.drains ++ waiter ∷ []))) ≡ false → HasDone (in_scene (scene_of t) (slice_set t.mems k (logging s s.log out (s.drains ++ waiter ∷ []))) t.disk.images) h.memory.0 (heal_holds lost t m may middle h heals o now number).stands.x (the_way lost t m may middle h heals o now number).move
      undone e = absurd (never (list_any (is_unheard o.number.0) sent) (ltb 0 (count_drains o.number.0 (slice_set t.mems k (logging s s.log out (s.drains ++ waiter ∷ []))))) waits e)
        where
          set_ : count_drains o.number.0 (slice_set t.mems k (logging s s.log out (s.drains ++ waiter ∷ []))) + count_waiting o.number.0 s.drains ≡ count_drains o.number.0 t.mems + count_waiting o.number.0 (s.drains ++ waiter ∷ [])
          set_ = set_drains o.number.0 t.mems k s (logging s s.log out (s.drains ++ waiter ∷ [])) at

          waits : ltb 0 (count_drains o.number.0 (slice_set t.mems k (logging s s.log out (s.drains ++ waiter ∷ [])))) ≡ true
          waits = lt-ltb 0 (count_drains o.number.0 (slice_set t.mems k (logging s s.log out (s.drains ++ waiter ∷ [])))) (omega (arith, set_, waiting_one))

          never : (a b : Bool) → b ≡ true → (a || b) ≡ false → ⊥
          never true b e f = cc f
          never false true e f = cc f
          never false false e f = cc e

      row : MemoryRow lost t k s (logging s s.log out (s.drains ++ waiter ∷ [])) sent
      row = record {
        fits = record {
          id = was.id;
          log_room = was.log_room;
          cache_room = was.cache_room;
          machine = was.machine;
          main = was.main;
          spare = was.spare;
          pages = was.pages;
          frames = was.frames;
          log = was.log;
          room = was.room;
        };
        waiting = all_both (WaiterFits (memory_count t.shape) k t.next t.current (healing_move t.healing)) s.drains (waiter ∷ []) (middle.waiting k s at) (waiter_fits is, tt);
        clear = clear_of_log t k s at t.current middle.current;
        sends = pend;
        from = from;
        given = λ up_k. same_cells (logging s s.log out (s.drains ++ waiter ∷ [])) sent (λ cell. refl) same_second no_answer batch quiet refl refl;
        others = others;
        changes = λ b other. quiet b;
      }
        where
          same_second : (j : ℕ) (cell : Cell) → second_part t.owners t.disk.images j (logging s s.log out (s.drains ++ waiter ∷ [])) cell ≡ second_part t.owners t.disk.images j s cell
          same_second j (Home pid region) = refl
          same_second j (Areas pid region) = refl
          same_second j (Page pid vpn) = refl

  -- THE DRAIN is answered at once where the log is empty, or waits
  pub drain_comes : o.operation ≡ Heals (memory k) body.Drain → (s.log ≡ [] → MoveGot (in_scene (scene_of t) (slice_set t.mems k s) t.disk.images) h.memory.0 (the_way lost t m may middle h heals o now number).move body.Drained × HasDone (in_scene (scene_of t) (slice_set t.mems k s) t.disk.images) h.memory.0 (heal_holds lost t m may middle h heals o now number).stands.x (the_way lost t m may middle h heals o now number).move) →
      Middle lost (record (taken t) { mems = slice_set t.mems k (drain_row s m).0; owed = (drain_row s m).1 })
  drain_comes is empty = by (length s.log == 0) refl
    where
      no_log : (log : List Patch) → (length log == 0) ≡ true → log ≡ []
      no_log [] e = refl
      no_log (p ∷ log) e = let none = eqb-true (length (p ∷ log)) 0 e in absurd (omega (arith, none))

      positive : (length s.log == 0) ≡ false → 0 < length s.log
      positive e = elim (eqb_tells (length s.log) 0) [
        | inl same ↦ let both : true ≡ false = sym same.0 ∙ e in cc both
        | inr differ ↦ let not_none = differ.1 in omega (arith, not_none)
      ]

      then_ : Mem × List Message → Type 0
      then_ p = Middle lost (record (taken t) { mems = slice_set t.mems k p.0; owed = p.1 })

      by : (b : Bool) → (length s.log == 0) ≡ b → then_ (cond b (answers s m body.Drained) (batched (logging s s.log s.out (s.drains ++ waiter ∷ [])) []))
      by true e = let it = empty (no_log s.log e) in it_answers body.Drained (λ b. refl) it.0 it.1
      by false e =
          by_rule (λ (p : Mem × List Message). BatchFits (left_of t ++ p.1) t.disk.images p.0 → then_ p) (logging s s.log s.out (s.drains ++ waiter ∷ [])) []
          (λ due batch. waits_so is (length s.log) (backup (logging s s.log s.out (s.drains ++ waiter ∷ [])) ∷ []) (
            record { from = there; to = tt; kind = OfBackground (record { number = refl; of = k; up = up; batch = Goes id refl s.log refl }) },
            tt,
          ) (id, tt) (refl, tt)
          (λ j other. filter-append (is_background j) (left_of t) (backup (logging s s.log s.out (s.drains ++ waiter ∷ [])) ∷ []) ∙ ap (λ (b : Bool). background j (left_of t) ++ cond b (backup (logging s s.log s.out (s.drains ++ waiter ∷ [])) ∷ []) []) (other_background (logging s s.log s.out (s.drains ++ waiter ∷ [])) k was.id j other) ∙ append-nil (background j (left_of t)) ∙ left_background j)
          (λ b. refl) batch)
          (λ waits batch. waits_so is s.out [] tt tt tt (λ j other. ap (background j) (append-nil (left_of t)) ∙ left_background j) (λ b. refl) batch)
          (rule_fits (left_of t) [] t.disk.images (logging s s.log s.out (s.drains ++ waiter ∷ [])) (positive e) (carries (s.drains ++ waiter ∷ [])) tt)
