-- A move of a healing is complete.
use Rattle.std.proofs.Common.{◌≡◌, ◌==◌, ◌||◌, [], ◌∷◌, ◌++◌, ◌∙◌, ℕ, Bool, List, None, Option, Some, ap, append-nil, append_assoc, arith, false, inl, inr, length, not, refl, subst, suc, sym, true}
use Rattle.std.proofs.Math.Dec.{eqb-suc-zero}
use Rattle.std.proofs.lemmas.Bool.{eqb-false}
use Rattle.std.specs.List.{AllByRecursion, list_any}
use Rattle.std.specs.Prelude.{nat_lt}
use Rattle.lego_msg.specs.Completions.{first_answer, move_finished}
use Rattle.lego_msg.specs.State.{Waiter}
use Rattle.lego_msg.specs.Track.{Track, all_answered, healing_move, is_complete, is_pending, memory_count}
use Rattle.lego_msg.specs.declared.body.Body.{Body}
use Rattle.lego_msg.specs.declared.healing.Healing.{Healing}
use Rattle.lego_msg.specs.declared.healing.Move.{Move}
use Rattle.lego_msg.specs.declared.message.Message.{Message}
use Rattle.lego_msg.specs.declared.operation.Answer.{Answer}
use Rattle.lego_msg.specs.declared.operation.Open.{Open}
use Rattle.lego_rest.specs.Answers.{all_pending, images_due}
use Rattle.lego_rest.specs.Fits.{WaiterFits}
use Rattle.lego_rest.specs.Heals.{GotLast, HasDone, HealFits, HealHolds, MoveGot, NumbersDiffer, Scene, count_drains, is_unheard, scene_of}
use Rattle.lego_rest.specs.Pending.{IsOfMove, Left, MayPend, OfBackground, OfMove, OfOperation, Pends}
use Rattle.lego_rest.specs.Rest.{CurrentFits, IsReady, Middle}
use Rattle.rest_laws.proofs.Opened.{all_both, every}
use Rattle.rest_laws.proofs.Stepping.{shift-keeps}
use Rattle.rest_laws.proofs.Truth.{both_true, not_true}
use Rattle.rest_laws.specs.Steps.{Moment, Shift}
use Rattle.healing_laws.proofs.OnItsWay.{OnItsWay, on_its_way}
use Rattle.healing_laws.proofs.Passing.{none_unheard}
use Rattle.healing_laws.specs.Moving.{MoveEnds}

-- nothing of a number is pending
pub none_pending : (number : ℕ) (xs : List Message) → is_pending number xs ≡ false → AllByRecursion (λ (r : Message). (r.op.0 == number) ≡ false) xs
none_pending number [] e = tt
none_pending number (x ∷ xs) e = by (x.op.0 == number) refl e (none_pending number xs)
  where
    by : (b : Bool) → (x.op.0 == number) ≡ b → (b || is_pending number xs) ≡ false → (is_pending number xs ≡ false → AllByRecursion (λ (r : Message). (r.op.0 == number) ≡ false) xs) → ((x.op.0 == number) ≡ false) × AllByRecursion (λ (r : Message). (r.op.0 == number) ≡ false) xs
    by true is e rest = cc e
    by false is e rest = (is, rest e)

-- the answer that the last move got
pub last_answer : (w : Scene) (c : ℕ) (done : List Move) (move : Move) (got : Body) → MoveGot w c move got → GotLast w c (done ++ move ∷ []) (Some got)
last_answer w c [] move got is = is
last_answer w c (d ∷ done) move got is = by d done (last_answer w c done move got is)
  where
    by : (d : Move) (done : List Move) → GotLast w c (done ++ move ∷ []) (Some got) → GotLast w c (d ∷ done ++ move ∷ []) (Some got)
    by d [] rest = rest
    by d (e ∷ done) rest = rest

module _ (lost : Option ℕ) (t : Track) (h : Healing) (heals : t.healing ≡ Some h) (o : Open) (now : h.current ≡ Some o) (settled : t.owed ≡ []) (goes_on : t.stopped ≡ false) (complete : is_complete t.net o ≡ true) (middle : Middle lost t) where
  pub end_holds : HealHolds t h.memory.0 h
  end_holds = (subst (HealFits lost t) heals middle.healing).1 goes_on

  pub end_way : OnItsWay t h.memory.0 h end_holds o
  end_way = on_its_way lost t h.memory.0 h end_holds o middle now

  pub all_net : all_pending t ≡ t.net
  all_net = ap (λ (ms : List Message). t.net ++ ms) settled ∙ append-nil t.net

  both : (all_answered o.targets o.answers ≡ true) × (not (is_pending o.number.0 t.net) ≡ true)
  both = both_true (all_answered o.targets o.answers) (not (is_pending o.number.0 t.net)) complete

  pub none_is_pending : AllByRecursion (λ (r : Message). (r.op.0 == o.number.0) ≡ false) (all_pending t)
  none_is_pending = subst (AllByRecursion (λ (r : Message). (r.op.0 == o.number.0) ≡ false)) (sym all_net) (none_pending o.number.0 t.net (not_true (is_pending o.number.0 t.net) both.1))

  -- its receiver answered
  pub record Answered : Type 0 where
    pub answer : Answer
    pub more : List Answer
    pub is : o.answers ≡ answer ∷ more

  pub was_answered : Answered
  was_answered = by o.answers refl
    where
      by : (answers : List Answer) → o.answers ≡ answers → Answered
      by [] is = let two_ : false ≡ true = sym (λ i. all_answered (end_way.fits.targets i) (is i)) ∙ both.0 in cc two_
      by (a ∷ more) is = record { answer = a; more = more; is = is }

  -- and it has done its part
  pub has_done : HasDone (scene_of t) h.memory.0 end_holds.stands.x end_way.move
  has_done = end_way.now ((λ i. none_unheard_of i || nat_lt 0 (dry i)))
    where
      none_unheard_of : list_any (is_unheard o.number.0) (all_pending t) ≡ false
      none_unheard_of = none_unheard o.number.0 (all_pending t) none_is_pending

      dry : count_drains o.number.0 t.mems ≡ 0
      dry =
          let it = was_answered in
          let some : length o.answers ≡ suc (length it.more) = ap length it.is in
          let once = end_way.fits.once in
          omega (arith, some, once)

  pub got_is_answer : MoveGot (scene_of t) h.memory.0 end_way.move was_answered.answer.body
  got_is_answer = (subst (AllByRecursion (λ (a : Answer). (a.place ≡ end_way.fits.to) × MoveGot (scene_of t) h.memory.0 end_way.move a.body)) was_answered.is end_way.fits.answers).0.1

  -- WITH MORE MOVES AHEAD
  module _ (next_ : Move) (moves : List Move) (more : h.moves ≡ next_ ∷ moves) where
    abbrev between_moves : Healing
    between_moves = record h { current = None; got = first_answer o.answers }

    abbrev then_track : Track
    then_track = record t { healing = Some (record h { current = None; got = first_answer o.answers }) }

    abbrev then_moment : Moment
    then_moment = record {
      net = t.net;
      owed = t.owed;
      delivered = t.delivered;
      next = t.next;
      current = t.current;
      healing = Some (record h { current = None; got = first_answer o.answers });
      clock = t.clock;
      stopped = t.stopped;
      caches = t.caches;
      due = t.due;
    }

    current_goes : (c : Option Open) → CurrentFits t c → CurrentFits then_track c
    current_goes None fits = tt
    current_goes (Some p) fits = (fits.0, fits.1, ready fits.2)
      where
        no_heals : Some h ≡ None → ⊥
        no_heals e = cc e

        ready : IsReady t p → IsReady then_track p
        ready (inl all) = inl all
        ready (inr e) = absurd (no_heals (sym heals ∙ e.2))

    the_move_is : healing_move t.healing ≡ Some o
    the_move_is = ap healing_move heals ∙ now

    pends_then : (x : Message) → (x.op.0 == o.number.0) ≡ false → MayPend lost (memory_count t.shape) t.plain t.current (healing_move t.healing) t.next x → MayPend lost (memory_count t.shape) t.plain t.current None t.next x
    pends_then x none may = record { from = may.from; to = may.to; kind = by may.kind }
      where
        by : Pends lost (memory_count t.shape) t.plain t.current (healing_move t.healing) t.next x → Pends lost (memory_count t.shape) t.plain t.current None t.next x
        by (OfOperation of) = OfOperation of
        by (OfMove of) = absurd (eqb-false x.op.0 o.number.0 none (subst (IsOfMove x) the_move_is of).0)
        by (OfBackground of) = OfBackground of
        by (Left old) = Left (record { some = old.some; below = old.below; not_current = old.not_current; not_move = tt; drained = old.drained; to = old.to; from_up = old.from_up })

    all_then : (xs : List Message) → AllByRecursion (λ (r : Message). (r.op.0 == o.number.0) ≡ false) xs → AllByRecursion (MayPend lost (memory_count t.shape) t.plain t.current (healing_move t.healing) t.next) xs → AllByRecursion (MayPend lost (memory_count t.shape) t.plain t.current None t.next) xs
    all_then [] none all = tt
    all_then (x ∷ xs) none all = (pends_then x none.0 all.0, all_then xs none.1 all.1)

    waits_then : (k : ℕ) (w : Waiter) → WaiterFits (memory_count t.shape) k t.next t.current (healing_move t.healing) w → WaiterFits (memory_count t.shape) k t.next t.current None w
    waits_then k w fits = record { some = fits.some; below = fits.below; by = fits.by; of_open = fits.of_open; of_move = tt }

    heal_goes : HealFits lost then_track (Some (record h { current = None; got = first_answer o.answers }))
    heal_goes = (
      (subst (HealFits lost t) heals middle.healing).0,
      λ goes. record {
        stands = record {
          x = end_holds.stands.x;
          at = end_holds.stands.at;
          done = end_holds.stands.done ++ end_way.move ∷ [];
          ahead = end_way.ahead;
          all = append_assoc end_holds.stands.done (end_way.move ∷ []) end_way.ahead ∙ ap (λ (ms : List Move). end_holds.stands.done ++ ms) (sym end_way.first) ∙ end_holds.stands.all;
          rest = end_way.rest;
          log = end_holds.stands.log;
          out = end_holds.stands.out;
          drains = end_holds.stands.drains;
          blocks = end_holds.stands.blocks;
        };
        between = (
          all_both (HasDone (scene_of t) h.memory.0 end_holds.stands.x) end_holds.stands.done (end_way.move ∷ []) end_way.did (has_done, tt),
          subst (GotLast (scene_of t) h.memory.0 (end_holds.stands.done ++ end_way.move ∷ [])) (sym (ap first_answer was_answered.is)) (last_answer (scene_of t) h.memory.0 end_holds.stands.done end_way.move was_answered.answer.body got_is_answer),
          ap (λ (ms : List Move). length ms == 0) (sym end_way.rest ∙ more) ∙ eqb-suc-zero _,
        );
        background = end_holds.background;
        pages = end_holds.pages;
        clear = end_holds.clear;
        forgotten = end_holds.forgotten;
        one_done = λ done. cc done;
        no_second = end_holds.no_second;
        apart = no_move t.current;
      },
    )
      where
        no_move : (c : Option Open) → NumbersDiffer c None
        no_move None = tt
        no_move (Some p) = tt

    images_same : (k : ℕ) → images_due then_track k ≡ true → images_due t k ≡ true
    images_same k e = ap (λ (g : Option Healing). images_due (record t { healing = g }) k) heals ∙ by t.current ∙ e
      where
        by : (c : Option Open) → images_due (record t { healing = Some h; current = c }) k ≡ images_due (record t { healing = Some (record h { current = None; got = first_answer o.answers }); current = c }) k
        by None = refl
        by (Some p) = refl

    then_keeps : Middle lost then_track
    then_keeps = shift-keeps lost t then_moment shift middle
      where
        no_healing : Some (record h { current = None; got = first_answer o.answers }) ≡ None → ⊥
        no_healing e = cc e

        shift : Shift lost t then_moment
        shift = record {
          goes = record {
            plain = refl;
            next = middle.next;
            current = current_goes t.current middle.current;
            pending = all_then (all_pending t) none_is_pending middle.pending;
            waiting = λ k s at. every (waits_then k) s.drains (middle.waiting k s at);
            healing = heal_goes;
            idle = λ closed quiet. absurd (no_healing quiet);
          };
          answered = λ p e. e;
          images = images_same;
          batches = λ k. refl;
          changes = λ b none. none;
        }

pub move-ends : MoveEnds
move-ends lost t h o move moves heals now more settled goes_on complete middle = subst (λ (ms : List Move). Middle lost (move_finished t h o ms)) (sym more) (then_keeps lost t h heals o now settled goes_on complete middle move moves more)
