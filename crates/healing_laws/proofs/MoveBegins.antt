-- A move of a healing begins, with what the move before it was answered.
use Rattle.std.proofs.Common.{◌≡◌, ◌+◌, ◌<◌, ◌≤◌, ◌==◌, ◌&&◌, ◌||◌, [], ◌∷◌, ◌++◌, ◌∙◌, ℕ, Bool, List, None, Option, Some, ap, append-nil, arith, cond, false, inl, inr, length, not, refl, slice_get, subst, suc, sym, true}
use Rattle.std.proofs.lemmas.Bool.{eq-eqb, eqb-false, ne_eqb}
use Rattle.std.proofs.lemmas.List.Folds.{list_any-append}
use Rattle.std.specs.List.{AllByRecursion, list_any}
use Rattle.std.specs.Prelude.{nat_lt}
use Rattle.lego_base.specs.declared.records.HomeEntry.{HomeEntry}
use Rattle.lego_msg.specs.Deliveries.{stops}
use Rattle.lego_msg.specs.Healing.{ask_of, homes_in, lists_in, moves_of, pages_in}
use Rattle.lego_msg.specs.Operations.{patch_of}
use Rattle.lego_msg.specs.Places.{guarded_by, is_issuer, memory, same_place, secondary_of}
use Rattle.lego_msg.specs.Sends.{IsMove, move_begins, open_move}
use Rattle.lego_msg.specs.State.{Mem, Waiter}
use Rattle.lego_msg.specs.Track.{Track, has_answered, healing_move, memory_count}
use Rattle.lego_msg.specs.declared.body.Body.{Body}
use Rattle.lego_msg.specs.declared.healing.Healing.{Healing}
use Rattle.lego_msg.specs.declared.healing.Move.{Move}
use Rattle.lego_msg.specs.declared.healing.Move.TheVariants.{Asks, HandsImages, HandsMeta, HandsPages}
use Rattle.lego_msg.specs.declared.message.Message.{Message}
use Rattle.lego_msg.specs.declared.operation.Open.{Open}
use Rattle.lego_msg.specs.declared.operation.Operation.TheVariants.{Heals}
use Rattle.lego_msg.specs.declared.place.Place.{Place}
use Rattle.lego_msg.specs.declared.place.Role.TheVariants.{Main, Spare}
use Rattle.lego_rest.specs.Answers.{all_pending, answers_to, gave_answer, images_due, is_answer_from, is_storage_true, is_writing}
use Rattle.lego_rest.specs.Fits.{WaiterFits, background, changes_block}
use Rattle.lego_rest.specs.Heals.{Ahead, Between, GotLast, HandsOver, HasDone, HealFits, HealHolds, MoveFits, MoveGot, NumbersDiffer, Scene, count_drains, count_number, count_waiting, is_undone, is_unheard, scene_of}
use Rattle.lego_rest.specs.Pending.{IsNot, IsOf, IsOfMove, IsPlace, Left, MayPend, OfBackground, OfMove, OfOperation, Pends}
use Rattle.lego_rest.specs.Rest.{CurrentFits, IsReady, Middle}
use Rattle.rest_laws.proofs.Around.{guards-its-own, secondaries-differ}
use Rattle.rest_laws.proofs.Bare.{get_below}
use Rattle.rest_laws.proofs.Opened.{all_both, every}
use Rattle.rest_laws.proofs.Sends.{storage_before}
use Rattle.rest_laws.proofs.Stepping.{shift-keeps}
use Rattle.rest_laws.proofs.Taken.{any_more, background_more, count_both}
use Rattle.rest_laws.proofs.Truth.{and_true, back_false, both_true}
use Rattle.rest_laws.specs.Steps.{Moment, Shift}
use Rattle.healing_laws.proofs.MovesAre.{AskIs, Follows, Linked, MoveIs, OfImages, OfLog, OfMain, OfPages, OfSpare, last_of, linked_at, moves_linked}
use Rattle.healing_laws.proofs.ManagerMoves.{to_component}
use Rattle.healing_laws.proofs.OnItsWay.{told_still}
use Rattle.healing_laws.proofs.Passing.{all_are, none_numbered}
use Rattle.healing_laws.specs.Moving.{MoveBegins}
use Rattle.lego_msg.specs.declared.body.Body.TheVariants as body
use Rattle.lego_msg.specs.declared.place.Place.TheVariants as place

-- WHAT THE LAST MOVE GOT

pub record LastGot (w : Scene) (c : ℕ) (got : Option Body) (move : Move) : Type 0 where
  pub what : Body
  pub is : got ≡ Some what
  pub fits : MoveGot w c move what

pub last_got : (w : Scene) (c : ℕ) (got : Option Body) (move : Move) (done : List Move) → GotLast w c done got → last_of None done ≡ Some move → LastGot w c got move
last_got w c got move [] last is = cc is
last_got w c got move (d ∷ done) last is = from d done last is
  where
    one_move : (a b : Move) → Some a ≡ Some b → a ≡ b
    one_move a b e = cc e

    single : (got : Option Body) (d : Move) → GotLast w c (d ∷ []) got → d ≡ move → LastGot w c got move
    single None d last e = absurd last
    single (Some what) d last e = record { what = what; is = refl; fits = subst (λ (x : Move). MoveGot w c x what) e last }

    from : (d : Move) (done : List Move) → GotLast w c (d ∷ done) got → last_of (Some d) done ≡ Some move → LastGot w c got move
    from d [] last is = single got d last (one_move d move is)
    from d (e ∷ done) last is = from e done last is

-- so what a move hands over is what that one got
pub hands_over : (w : Scene) (c : ℕ) (got : Option Body) (done : List Move) (move : Move) → GotLast w c done got → Follows w.sides.n c (last_of None done) move → HandsOver w.sides c move (ask_of move got).body
hands_over w c got done (Asks to what) last follows = refl
hands_over w c got done (HandsMeta to Main) last follows =
    let it = last_got w c got _ done last follows in
    let k = it.fits in
    (k.0, (λ i. body.PushMeta Main (homes_in (it.is i)) (lists_in (it.is i))) ∙ (λ i. body.PushMeta Main (homes_in (Some (k.1 i))) (lists_in (Some (k.1 i)))), k.2)
hands_over w c got done (HandsMeta to Spare) last follows =
    let it = last_got w c got _ done last follows in
    let k = it.fits in
    (k.0, (λ i. body.PushMeta Spare (homes_in (it.is i)) (lists_in (it.is i))) ∙ (λ i. body.PushMeta Spare (homes_in (Some (k.1 i))) (lists_in (Some (k.1 i)))), k.2)
hands_over w c got done (HandsImages to pid region) last follows =
    let it = last_got w c got _ done last follows in
    let k = it.fits in
    (k.0, (λ i. body.PushImages pid region (pages_in (it.is i))) ∙ (λ i. body.PushImages pid region (pages_in (Some (k.1 i)))), k.2)
hands_over w c got done (HandsPages pid region) last follows =
    let it = last_got w c got _ done last follows in
    let k = it.fits in
    (k.0, (λ i. body.ResetImages pid region (pages_in (it.is i))) ∙ (λ i. body.ResetImages pid region (pages_in (Some (k.1 i)))), k.2)

pub same_receiver : (move : Move) (got : Option Body) → (ask_of move got).to ≡ (ask_of move None).to
same_receiver (Asks to what) got = refl
same_receiver (HandsMeta to role) got = refl
same_receiver (HandsImages to pid region) got = refl
same_receiver (HandsPages pid region) got = refl

-- its receiver is there
receiver_there : (n c : ℕ) (owners : List HomeEntry) (move : Move) → 2 ≤ n → c < n → MoveIs n c owners move → IsPlace n (ask_of move None).to
receiver_there n c owners move two_ below is = by move is
  where
    second : IsPlace n (memory (secondary_of n c))
    second = (secondaries-differ n c c two_ below below).1

    guarded : IsPlace n (memory (guarded_by n c))
    guarded = (guards-its-own n c two_ below).0

    asks : (to : Place) (what : Body) → AskIs n c owners to what → IsPlace n to
    asks to what (OfLog e at) = subst (IsPlace n) (sym at) second
    asks to what (OfSpare who e at) = subst (IsPlace n) (sym at) second
    asks to what (OfMain who e at) = subst (IsPlace n) (sym at) guarded
    asks to what (OfImages pid region e at mine) = subst (IsPlace n) (sym at) tt
    asks to what (OfPages pid region e at mine) = subst (IsPlace n) (sym at) guarded

    by : (move : Move) → MoveIs n c owners move → IsPlace n (ask_of move None).to
    by (Asks to what) is = asks to what is
    by (HandsMeta to role) is = subst (IsPlace n) (sym is) below
    by (HandsImages to pid region) is = subst (IsPlace n) (sym is.0) below
    by (HandsPages pid region) is = tt

-- NO NUMBER is used before its time

no_drains : (number : ℕ) (mems : List Mem) → ((k : ℕ) (s : Mem) → slice_get mems k ≡ Some s → count_waiting number s.drains ≡ 0) → count_drains number mems ≡ 0
no_drains number [] none = refl
no_drains number (s ∷ mems) none =
    let here : count_waiting number s.drains ≡ 0 = none 0 s refl in
    let rest : count_drains number mems ≡ 0 = no_drains number mems (λ k x at. none (suc k) x at) in
    omega (arith, here, rest)

none_waiting : (n k next : ℕ) (current move : Option Open) (drains : List Waiter) → AllByRecursion (WaiterFits n k next current move) drains → count_waiting next drains ≡ 0
none_waiting n k next current move [] all = refl
none_waiting n k next current move (w ∷ drains) all =
    let less = all.0.below in
    let none : (w.op == next) ≡ false = ne_eqb w.op next (λ same. omega (arith, less, same)) in
    (λ i. cond (none i) 1 0 + none_waiting n k next current move drains all.1 i)

module _ (lost : Option ℕ) (t : Track) (h : Healing) (heals : t.healing ≡ Some h) (now : h.current ≡ None) (move : Move) (moves : List Move) (first : h.moves ≡ move ∷ moves) (settled : t.owed ≡ []) (goes_on : t.stopped ≡ false) (middle : Middle lost t) where
  -- the move as an operation, and its message
  abbrev begun : Open
  begun = record {
    number = record { 0 = t.next };
    by = place.Manager;
    operation = Heals (ask_of move h.got).to (ask_of move h.got).body;
    unsent = [];
    targets = (ask_of move h.got).to ∷ [];
    answers = [];
  }

  abbrev its_first : Message
  its_first = record { from = place.Manager; to = (ask_of move h.got).to; op = record { 0 = t.next }; body = (ask_of move h.got).body }

  abbrev then_healing : Healing
  then_healing = record h { moves = moves; current = Some begun; got = None }

  abbrev begun_track : Track
  begun_track = record t { net = t.net ++ its_first ∷ []; next = t.next + 1; healing = Some then_healing }

  abbrev begun_moment : Moment
  begun_moment = record {
    net = t.net ++ its_first ∷ [];
    owed = t.owed;
    delivered = t.delivered;
    next = t.next + 1;
    current = t.current;
    healing = Some then_healing;
    clock = t.clock;
    stopped = t.stopped;
    caches = t.caches;
    due = t.due;
  }

  holds : HealHolds t h.memory.0 h
  holds = (subst (HealFits lost t) heals middle.healing).1 goes_on

  no_move : healing_move t.healing ≡ None
  no_move = ap healing_move heals ∙ now

  -- the moves ahead
  ahead_is : holds.stands.ahead ≡ move ∷ moves
  ahead_is = sym (subst (λ (q : Option Open). Ahead q h.moves holds.stands.ahead) now holds.stands.rest) ∙ first

  all_is : holds.stands.done ++ move ∷ moves ≡ moves_of (memory_count t.shape) h.memory.0 t.owners
  all_is = ap (λ (ms : List Move). holds.stands.done ++ ms) (sym ahead_is) ∙ holds.stands.all

  of_move : MoveIs (memory_count t.shape) h.memory.0 t.owners move
  of_move = at holds.stands.done (all_are t lost h.memory.0 middle (holds.stands.done ++ move ∷ moves) all_is)
    where
      at : (done : List Move) → AllByRecursion (MoveIs (memory_count t.shape) h.memory.0 t.owners) (done ++ move ∷ moves) → MoveIs (memory_count t.shape) h.memory.0 t.owners move
      at [] all = all.0
      at (d ∷ done) all = at done all.1

  between : AllByRecursion (HasDone (scene_of t) h.memory.0 holds.stands.x) holds.stands.done × GotLast (scene_of t) h.memory.0 holds.stands.done h.got × ((length holds.stands.ahead == 0) ≡ false)
  between = subst (λ (q : Option Open). Between (scene_of t) h.memory.0 (all_pending t) t.next holds.stands.x holds.stands.done q h.got holds.stands.ahead) now holds.between

  below : h.memory.0 < memory_count t.shape
  below = let inside = get_below t.mems h.memory.0 holds.stands.x holds.stands.at in let count = middle.count in omega (arith, inside, count)

  hands : HandsOver (scene_of t).sides h.memory.0 move (ask_of move h.got).body
  hands = hands_over (scene_of t) h.memory.0 h.got holds.stands.done move between.1 (subst (λ (ms : List Move). Follows (memory_count t.shape) h.memory.0 (last_of None holds.stands.done) move) all_is (linked_at (memory_count t.shape) h.memory.0 None holds.stands.done move moves (subst (Linked (memory_count t.shape) h.memory.0 None) (sym all_is) (moves_linked (memory_count t.shape) h.memory.0 t.owners))))

  component : is_issuer its_first.to ≡ false
  component = ap is_issuer (same_receiver move h.got) ∙ to_component (memory_count t.shape) h.memory.0 t.owners move of_move

  some : 0 < t.next
  some = middle.next

  -- all that is pending then
  more : all_pending begun_track ≡ all_pending t ++ its_first ∷ []
  more = ap (λ (ms : List Message). (t.net ++ its_first ∷ []) ++ ms) settled ∙ append-nil (t.net ++ its_first ∷ []) ∙ ap (λ (ms : List Message). ms ++ its_first ∷ []) (sym (ap (λ (ms : List Message). t.net ++ ms) settled ∙ append-nil t.net))

  -- numbers of what is pending are lower
  lower : (x : Message) → MayPend lost (memory_count t.shape) t.plain t.current (healing_move t.healing) t.next x → (x.op.0 == t.next) ≡ false
  lower x may = by may.kind
    where
      differs : x.op.0 < t.next → (x.op.0 == t.next) ≡ false
      differs less = ne_eqb x.op.0 t.next (λ same. omega (arith, less, same))

      of_current : (c : Option Open) → CurrentFits t c → IsOf lost (memory_count t.shape) t.plain x c → x.op.0 < t.next
      of_current None fits of = absurd of
      of_current (Some p) fits of = subst (λ (k : ℕ). k < t.next) (sym of.0) fits.0.below

      by : Pends lost (memory_count t.shape) t.plain t.current (healing_move t.healing) t.next x → (x.op.0 == t.next) ≡ false
      by (OfOperation of) = differs (of_current t.current middle.current of)
      by (OfMove of) = absurd (subst (IsOfMove x) no_move of)
      by (OfBackground of) = let zero_ = of.number in differs (omega (arith, zero_, some))
      by (Left old) = differs old.below

  all_lower : AllByRecursion (λ (x : Message). (x.op.0 == t.next) ≡ false) (all_pending t)
  all_lower = every lower (all_pending t) middle.pending

  current_other : (c : Option Open) → CurrentFits t c → IsNot c t.next
  current_other None fits = tt
  current_other (Some p) fits = let less = fits.0.below in ne_eqb t.next p.number.0 (λ same. omega (arith, less, same))

  apart_then : (c : Option Open) → CurrentFits t c → NumbersDiffer c (Some begun)
  apart_then None fits = tt
  apart_then (Some p) fits = let less = fits.0.below in ne_eqb p.number.0 t.next (λ same. omega (arith, less, same))

  pends_then : (x : Message) → MayPend lost (memory_count t.shape) t.plain t.current (healing_move t.healing) t.next x → MayPend lost (memory_count t.shape) t.plain t.current (Some begun) (t.next + 1) x
  pends_then x may = record { from = may.from; to = may.to; kind = by may.kind }
    where
      by : Pends lost (memory_count t.shape) t.plain t.current (healing_move t.healing) t.next x → Pends lost (memory_count t.shape) t.plain t.current (Some begun) (t.next + 1) x
      by (OfOperation of) = OfOperation of
      by (OfMove of) = absurd (subst (IsOfMove x) no_move of)
      by (OfBackground of) = OfBackground of
      by (Left old) = Left (record { some = old.some; below = let less = old.below in omega (arith, less); not_current = old.not_current; not_move = lower x may; drained = old.drained; to = old.to; from_up = old.from_up })

  waits_then : (k : ℕ) (w : Waiter) → WaiterFits (memory_count t.shape) k t.next t.current (healing_move t.healing) w → WaiterFits (memory_count t.shape) k (t.next + 1) t.current (Some begun) w
  waits_then k w fits = record { some = fits.some; below = let less = fits.below in omega (arith, less); by = fits.by; of_open = fits.of_open; of_move = λ same. let less = fits.below in absurd (omega (arith, less, same)) }

  first_pends : MayPend lost (memory_count t.shape) t.plain t.current (Some begun) (t.next + 1) its_first
  first_pends = record {
    from = tt;
    to = subst (IsPlace (memory_count t.shape)) (sym (same_receiver move h.got)) (receiver_there (memory_count t.shape) h.memory.0 t.owners move middle.machine.two below of_move);
    kind = OfMove (refl, inl (inl refl));
  }

  current_goes : (c : Option Open) → CurrentFits t c → CurrentFits begun_track c
  current_goes None fits = tt
  current_goes (Some p) fits = (
    record {
      some = fits.0.some;
      below = let less = fits.0.below in omega (arith, less);
      by = fits.0.by;
      targets = fits.0.targets;
      sent = fits.0.sent;
      requests = fits.0.requests;
      fits = fits.0.fits;
      answers = fits.0.answers;
    },
    fits.1,
    ready fits.2,
  )
    where
      some_none_heals : Some h ≡ None → ⊥
      some_none_heals e = cc e

      ready : IsReady t p → IsReady begun_track p
      ready (inl all) = inl all
      ready (inr e) = absurd (some_none_heals (sym heals ∙ e.2))

  -- nobody answers the open operation with it
  gave_before : (p : Place) (c : Option Open) → CurrentFits t c → gave_answer p (all_pending begun_track) c ≡ true → gave_answer p (all_pending t) c ≡ true
  gave_before p None fits e = e
  gave_before p (Some q) fits e = sym (ap (λ (b : Bool). has_answered p q.answers || b) (ap (list_any (is_answer_from q p)) more ∙ any_more (all_pending t) its_first (is_answer_from q p) (ap (λ (b : Bool). b && same_place place.Manager p && same_place its_first.to q.by && answers_to (patch_of q.operation) its_first.body) (current_other (Some q) fits)))) ∙ e

  fits_begun : MoveFits (scene_of t) h.memory.0 (all_pending begun_track) (t.next + 1) begun move
  fits_begun = record {
    to = (ask_of move h.got).to;
    told = (ask_of move h.got).body;
    is = refl;
    receiver = same_receiver move h.got;
    hands = hands;
    by = refl;
    targets = refl;
    sent = refl;
    some = some;
    below = omega arith;
    once = once;
    answers = tt;
    answering = subst (AllByRecursion _) (sym more) (all_both _ (all_pending t) (its_first ∷ []) (every (λ x differs same. absurd (eqb-false x.op.0 t.next differs same)) (all_pending t) all_lower) (λ same to_manager. absurd (not_manager to_manager), tt));
  }
    where
      not_manager : its_first.to ≡ place.Manager → ⊥
      not_manager e = let both : false ≡ true = sym component ∙ ap is_issuer e in cc both

      once : count_number t.next (all_pending begun_track) + length begun.answers + count_drains t.next t.mems ≡ 1
      once =
          let both : count_number t.next (all_pending begun_track) ≡ count_number t.next (all_pending t) + count_number t.next (its_first ∷ []) = ap (count_number t.next) more ∙ count_both t.next (all_pending t) (its_first ∷ []) in
          let zero_ : count_number t.next (all_pending t) ≡ 0 = none_numbered t.next (all_pending t) all_lower in
          let one : cond (t.next == t.next) 1 0 ≡ 1 = ap (λ (b : Bool). cond b 1 0) (eq-eqb t.next t.next refl) in
          let dry : count_drains t.next t.mems ≡ 0 = no_drains t.next t.mems (λ k s at. none_waiting (memory_count t.shape) k t.next t.current (healing_move t.healing) s.drains (middle.waiting k s at)) in
          by (cond (t.next == t.next) 1 0) both zero_ one dry
        where
          by : (one : ℕ) → count_number t.next (all_pending begun_track) ≡ count_number t.next (all_pending t) + (one + 0) → count_number t.next (all_pending t) ≡ 0 → one ≡ 1 → count_drains t.next t.mems ≡ 0 → count_number t.next (all_pending begun_track) + 0 + count_drains t.next t.mems ≡ 1
          by one both zero_ e dry = omega (arith, both, zero_, e, dry)

  -- its message is on its way
  undone_begun : is_undone t.next (all_pending begun_track) t.mems ≡ true
  undone_begun = first_or (list_any (is_unheard t.next) (all_pending begun_track)) (nat_lt 0 (count_drains t.next t.mems)) (ap (list_any (is_unheard t.next)) more ∙ list_any-append (is_unheard t.next) (all_pending t) (its_first ∷ []) ∙ second_or (list_any (is_unheard t.next) (all_pending t)) (is_unheard t.next its_first) it_is)
    where
      first_or : (a b : Bool) → a ≡ true → (a || b) ≡ true
      first_or true b e = refl
      first_or false b e = cc e

      second_or : (a b : Bool) → b ≡ true → (a || (b || false)) ≡ true
      second_or true b e = refl
      second_or false true e = refl
      second_or false false e = cc e

      no_manager : (to : Place) → is_issuer to ≡ false → same_place to place.Manager ≡ false
      no_manager (place.Processor cpu) e = refl
      no_manager (place.Memory m) e = refl
      no_manager place.Storage e = refl
      no_manager place.Manager e = cc e

      it_is : is_unheard t.next its_first ≡ true
      it_is = λ i. eq-eqb t.next t.next refl i && (not (no_manager its_first.to component i) || stops its_first.body)

  heal_goes : HealFits lost begun_track (Some then_healing)
  heal_goes = (
    (subst (HealFits lost t) heals middle.healing).0,
    λ goes. record {
      stands = record {
        x = holds.stands.x;
        at = holds.stands.at;
        done = holds.stands.done;
        ahead = move ∷ moves;
        all = all_is;
        rest = refl;
        log = holds.stands.log;
        out = holds.stands.out;
        drains = holds.stands.drains;
        blocks = holds.stands.blocks;
      };
      between = (between.0, fits_begun, λ e. let both : true ≡ false = sym undone_begun ∙ e in cc both);
      background = ap (background h.memory.0) more ∙ background_more (all_pending t) its_first some h.memory.0 ∙ holds.background;
      pages = holds.pages;
      clear = holds.clear;
      forgotten = back_false (gave_answer (memory h.memory.0) (all_pending t) t.current) (gave_answer (memory h.memory.0) (all_pending begun_track) t.current) (gave_before (memory h.memory.0) t.current middle.current) holds.forgotten;
      one_done = λ done. cc done;
      no_second = holds.no_second;
      apart = apart_then t.current middle.current;
    },
  )

  images_before : (k : ℕ) → images_due begun_track k ≡ true → images_due t k ≡ true
  images_before k e = by (is_writing t.current) e
    where
      by : (b : Bool) → cond b (gave_answer (memory k) (all_pending begun_track) t.current) (is_storage_true (t.net ++ its_first ∷ []) (Some then_healing) t.current && gave_answer place.Storage (all_pending begun_track) t.current) ≡ true → cond b (gave_answer (memory k) (all_pending t) t.current) (is_storage_true t.net t.healing t.current && gave_answer place.Storage (all_pending t) t.current) ≡ true
      by true e = gave_before (memory k) t.current middle.current e
      by false e =
          let both = both_true (is_storage_true (t.net ++ its_first ∷ []) (Some then_healing) t.current) (gave_answer place.Storage (all_pending begun_track) t.current) e in
          and_true (is_storage_true t.net t.healing t.current) (gave_answer place.Storage (all_pending t) t.current)
          (ap (λ (g : Option Healing). is_storage_true t.net g t.current) heals ∙ storage_before t.net (its_first ∷ []) (Some h) t.current (same_heals t.current both.0)) (gave_before place.Storage t.current middle.current both.1)
        where
          same_heals : (c : Option Open) → is_storage_true (t.net ++ its_first ∷ []) (Some then_healing) c ≡ true → is_storage_true (t.net ++ its_first ∷ []) (Some h) c ≡ true
          same_heals None e = e
          same_heals (Some p) e = e

  begun_keeps : Middle lost begun_track
  begun_keeps = shift-keeps lost t begun_moment shift middle
    where
      no_healing : Some then_healing ≡ None → ⊥
      no_healing e = cc e

      shift : Shift lost t begun_moment
      shift = record {
        goes = record {
          plain = refl;
          next = omega arith;
          current = current_goes t.current middle.current;
          pending = subst (AllByRecursion (MayPend lost (memory_count t.shape) t.plain t.current (Some begun) (t.next + 1))) (sym more) (all_both _ (all_pending t) (its_first ∷ []) (every pends_then (all_pending t) middle.pending) (first_pends, tt));
          waiting = λ k s at. every (waits_then k) s.drains (middle.waiting k s at);
          healing = heal_goes;
          idle = λ closed quiet. absurd (no_healing quiet);
        };
        answered = λ p. gave_before p t.current middle.current;
        images = images_before;
        batches = λ k. ap (background k) more ∙ background_more (all_pending t) its_first some k;
        changes = λ b none. ap (list_any (λ (x : Message). changes_block b x.body)) more ∙ any_more (all_pending t) its_first (λ (x : Message). changes_block b x.body) (told_still (scene_of t).sides (memory_count t.shape) h.memory.0 t.owners move (ask_of move h.got).body of_move hands b) ∙ none;
      }

pub move-begins : MoveBegins
move-begins lost t h m heals now settled goes_on first middle = by h.moves refl first
  where
    by : (moves : List Move) → h.moves ≡ moves → IsMove t m h None moves → Middle lost (move_begins t m h moves)
    by [] is first = absurd first
    by (move ∷ moves) is first = subst (λ (x : Message). Middle lost (record t {
      net = t.net ++ x ∷ [];
      next = t.next + 1;
      healing = Some (record h { moves = moves; current = Some (record (open_move t move h.got) { unsent = [] }); got = None });
    })) (sym first) (begun_keeps lost t h heals now move moves is settled goes_on middle)
