-- As long as an operation or a move of a healing is open something is pending, whatever crashed.
use Rattle.std.proofs.Common.{◌≡◌, ◌⊎◌, ◌+◌, ◌<◌, ◌==◌, ◌&&◌, ◌||◌, [], ◌∷◌, ◌++◌, ◌∙◌, ℕ, Bool, List, None, Option, Some, ap, arith, cond, false, inl, inr, length, not, refl, slice_get, subst, suc, sym, true, zero}
use Rattle.std.proofs.lemmas.Bool.Decides.{eqb_tells}
use Rattle.std.specs.List.{AllByRecursion}
use Rattle.lego_msg.proofs.Senders.{same_some}
use Rattle.lego_msg.specs.Completions.{completed, completed_beside, finished, move_finished, sent_again}
use Rattle.lego_msg.specs.Deliveries.{MayDeliver, comes, is_sent, is_waiting, issuer_gets, memory_handles, noted, noted_by_move, noted_with, reaction_of, reacts, stops, taken}
use Rattle.lego_msg.specs.Legal.{May}
use Rattle.lego_msg.specs.Marks.{Call, Mark, Show}
use Rattle.lego_msg.specs.Operations.{patch_of}
use Rattle.lego_msg.specs.Places.{same_place}
use Rattle.lego_msg.specs.Run.{after}
use Rattle.lego_msg.specs.Sends.{MayBegin, MaySend, move_begins, sent}
use Rattle.lego_msg.specs.State.{Mem, Waiter}
use Rattle.lego_msg.specs.Track.{Track, all_answered, has_answered, healing_move, is_complete, is_done, is_pending}
use Rattle.lego_msg.specs.declared.event.Event.{Event}
use Rattle.lego_msg.specs.declared.event.Event.TheVariants.{Access, Complete, Crash, Deliver, Drop, Fill, Out, Send, Turn}
use Rattle.lego_msg.specs.declared.healing.Healing.{Healing}
use Rattle.lego_msg.specs.declared.healing.Move.{Move}
use Rattle.lego_msg.specs.declared.message.Message.{Message}
use Rattle.lego_msg.specs.declared.operation.Answer.{Answer}
use Rattle.lego_msg.specs.declared.operation.Open.{Open}
use Rattle.lego_msg.specs.declared.place.Place.{Place}
use Rattle.lego_msg.specs.declared.place.Place.TheVariants.{Manager, Memory, Processor, Storage}
use Rattle.lego_rest.specs.Answers.{all_pending}
use Rattle.lego_rest.specs.Fits.{background, batch_message, receipt}
use Rattle.lego_rest.specs.Heals.{Ahead, Between, HealFits, HealHolds, NumbersDiffer, count_drains, count_number, count_waiting, scene_of}
use Rattle.lego_rest.specs.Pending.{IsUp}
use Rattle.lego_rest.specs.Rest.{CurrentFits, MemHolds, Middle}
use Rattle.rest_laws.proofs.Bare.{calm_on}
use Rattle.rest_laws.proofs.Forward.{Awaited, Calls, again_awaits, begin_awaits, comes_on, deliver_awaits, send_awaits}
use Rattle.rest_laws.proofs.Goes.{called_of}
use Rattle.rest_laws.proofs.Noted.{calm_moves, eqb_sym, place_same}
use Rattle.rest_laws.specs.GoingOn.{BeginsGranted, owners_with}
use Rattle.healing_laws.proofs.ManagerMoves.{calm_current}
use Rattle.healing_laws.proofs.OnItsWay.{OnItsWay, on_its_way}
use Rattle.healing_laws.specs.Playing.{IsAwaited, MoveGoesOn, OtherNumber}
use Rattle.healing_laws.specs.Running.{GrantedBeside, InRelation, IsGrantedThere, lost_in}

-- A DRAIN THAT WAITS has its memory's batch on its way
pub record Draining (mems : List Mem) : Type 0 where
  pub k : ℕ
  pub s : Mem
  pub at : slice_get mems k ≡ Some s
  pub waits : 0 < length s.drains

drain_there : (number : ℕ) (mems : List Mem) → 0 < count_drains number mems → Draining mems
drain_there number [] some = absurd (omega (arith, some))
drain_there number (s ∷ mems) some = by s.drains refl some (drain_there number mems)
  where
    by : (drains : List Waiter) → s.drains ≡ drains → 0 < count_waiting number drains + count_drains number mems → (0 < count_drains number mems → Draining mems) → Draining (s ∷ mems)
    by [] is some rest = let there = rest (omega (arith, some)) in record { k = suc there.k; s = there.s; at = there.at; waits = there.waits }
    by (w ∷ drains) is some rest = record { k = zero; s = s; at = refl; waits = subst (λ (ds : List Waiter). 0 < length ds) (sym is) (omega arith) }

batch_comes : (t : Track) (m : ℕ) (s : Mem) → MemHolds t m s → 0 < length s.drains → all_pending t ≡ [] → ⊥
batch_comes t m s holds waits nothing = elim (holds.batch.once (holds.batch.waits waits)) [
  | inl batch ↦ empty (batch_message s) batch
  | inr receipt_ ↦ empty (receipt s) receipt_.0
]
  where
    empty : (x : Message) → background s.id (all_pending t) ≡ x ∷ [] → ⊥
    empty x e = let both : [] ≡ x ∷ [] = sym (ap (background s.id) nothing) ∙ e in cc both

-- THE MOVE ON ITS WAY
module _ (lost : Option ℕ) (t : Track) (h : Healing) (heals : t.healing ≡ Some h) (goes_on : t.stopped ≡ false) (middle : Middle lost t) where
  lost_is : lost ≡ Some h.memory.0
  lost_is = (subst (HealFits lost t) heals middle.healing).0

  holds : HealHolds t h.memory.0 h
  holds = (subst (HealFits lost t) heals middle.healing).1 goes_on

  pub apart : OtherNumber t.current h.current
  apart = by t.current h.current holds.apart
    where
      by : (c move : Option Open) → NumbersDiffer c move → OtherNumber c move
      by None move differ = tt
      by (Some o) None differ = tt
      by (Some o) (Some move) differ = eqb_sym move.number.0 o.number.0 ∙ differ

  pub goes : MoveGoesOn h.current h.moves
  goes = by h.current refl
    where
      some : (moves : List Move) → (length moves == 0) ≡ false → 0 < length moves
      some [] e = cc e
      some (move ∷ moves) e = omega arith

      by : (c : Option Open) → h.current ≡ c → MoveGoesOn c h.moves
      by (Some o) now = let way = on_its_way lost t h.memory.0 h holds o middle now in (way.fits.sent, subst (λ (ps : List Place). 0 < length ps) (sym way.fits.targets) (omega arith))
      by None now =
          let ahead : h.moves ≡ holds.stands.ahead = subst (λ (c : Option Open). Ahead c h.moves holds.stands.ahead) now holds.stands.rest in
          let between = subst (λ (c : Option Open). Between (scene_of t) h.memory.0 (all_pending t) t.next holds.stands.x holds.stands.done c h.got holds.stands.ahead) now holds.between in
          some h.moves (ap (λ (moves : List Move). length moves == 0) ahead ∙ between.2)

  -- it is there exactly once: pending, or as a drain that waits, or answered and so complete
  pub move_comes : (o : Open) → h.current ≡ Some o → is_complete t.net o ≡ false → t.owed ≡ [] → t.net ≡ [] → ⊥
  move_comes o now incomplete settled none = by o.answers refl
    where
      way : OnItsWay t h.memory.0 h holds o
      way = on_its_way lost t h.memory.0 h holds o middle now

      nothing : all_pending t ≡ []
      nothing = λ i. none i ++ settled i

      by : (answers : List Answer) → o.answers ≡ answers → ⊥
      by [] is =
          let once : count_number o.number.0 (all_pending t) + length o.answers + count_drains o.number.0 t.mems ≡ 1 = way.fits.once in
          let pending : count_number o.number.0 (all_pending t) ≡ 0 = ap (count_number o.number.0) nothing in
          let unanswered : length o.answers ≡ 0 = ap length is in
          let there = drain_there o.number.0 t.mems (omega (arith, once, pending, unanswered)) in
          elim (eqb_tells h.memory.0 there.k) [
            | inl same ↦
                let its : there.s ≡ holds.stands.x = same_some there.s holds.stands.x (sym there.at ∙ ap (slice_get t.mems) (sym same.1) ∙ holds.stands.at) in
                let dry : length there.s.drains ≡ 0 = ap (λ (s : Mem). length s.drains) its ∙ ap length holds.stands.drains in
                let some = there.waits in
                absurd (omega (arith, dry, some))
            | inr differ ↦ batch_comes t there.k there.s (middle.memories there.k there.s (subst (λ (l : Option ℕ). IsUp l there.k) (sym lost_is) differ.1) there.at) there.waits nothing
          ]
      by (a ∷ more) is =
          let from = (subst (AllByRecursion _) is way.fits.answers).0.0 in
          let answered : all_answered o.targets o.answers ≡ true = (λ i. all_answered (way.fits.targets i) (is i)) ∙ first (same_place way.fits.to a.place) (has_answered way.fits.to more) (ap (same_place way.fits.to) from ∙ place_same way.fits.to) in
          let complete : is_complete t.net o ≡ true = (λ i. answered i && not (is_pending o.number.0 (none i))) in
          let both : true ≡ false = sym complete ∙ incomplete in
          cc both
        where
          first : (x y : Bool) → x ≡ true → ((x || y) && true) ≡ true
          first true y e = refl
          first false y e = cc e

-- THE OPEN OPERATION, where nothing heals
abbrev pub AwaitsOpen : Track → Type 0
AwaitsOpen t = t.healing ≡ None → (t.current ≡ None) ⊎ Awaited t

no_open : (o : Option Open) → o ≡ None → is_sent o ≡ true → ⊥
no_open o closed e = let both : false ≡ true = sym (ap is_sent closed) ∙ e in cc both

open_comes : (t : Track) → t.healing ≡ None → Middle None t → AwaitsOpen t → IsAwaited t → t.net ≡ [] → ⊥
open_comes t healed middle awaits is none = by (awaits healed)
  where
    sent_ : is_sent t.current ≡ true
    sent_ = sym (ap (λ (h : Option Healing). is_waiting h t.current) healed) ∙ is.waiting

    by : (t.current ≡ None) ⊎ Awaited t → ⊥
    by (inl closed) = no_open t.current closed sent_
    by (inr awaited) = comes_on t (record { healed = healed; middle = middle }) awaited (record { owed = is.owed; goes_on = calm_on t is.calm; sent = sent_; incomplete = calm_current t is.calm }) none

pub something_pends : (t : Track) → InRelation t → AwaitsOpen t → IsAwaited t → 0 < length t.net
something_pends t middle awaits is = by t.net refl
  where
    never : t.net ≡ [] → ⊥
    never none = under t.healing refl
      where
        under : (g : Option Healing) → t.healing ≡ g → ⊥
        under None healed = open_comes t healed (subst (λ (g : Option Healing). Middle (lost_in g) t) healed middle) awaits is none
        under (Some h) heals = move h.current refl
          where
            waiting : is_waiting (Some h) t.current ≡ true
            waiting = sym (ap (λ (g : Option Healing). is_waiting g t.current) heals) ∙ is.waiting

            move : (c : Option Open) → h.current ≡ c → ⊥
            move None now = no_open h.current now waiting
            move (Some o) now = move_comes (lost_in t.healing) t h heals (calm_on t is.calm) middle o now (sym (ap (λ (g : Option Healing). is_done t.net (healing_move g)) heals ∙ ap (is_done t.net) now) ∙ calm_moves t is.calm) is.owed none

    by : (ms : List Message) → t.net ≡ ms → 0 < length t.net
    by [] e = absurd (never e)
    by (m ∷ ms) e = subst (λ (xs : List Message). 0 < length xs) (sym e) (omega arith)

-- WHAT A DELIVERY LEAVES: a healing goes on, and the run, unless a refusal stops it
pub record Leaves (t u : Track) : Type 0 where
  pub healing : u.healing ≡ None → t.healing ≡ None
  pub stopped : u.stopped ≡ t.stopped

noted_leaves : (t : Track) (m : Message) (c : Option Open) → Leaves t (noted t m c)
noted_leaves t m None = record { healing = λ none. none; stopped = refl }
noted_leaves t m (Some o) = by (m.op.0 == o.number.0) (reaction_of (patch_of o.operation) m.body)
  where
    by : (b : Bool) (r : Option _) → Leaves t (cond b (reacts t o m r) t)
    by true None = record { healing = λ none. none; stopped = refl }
    by true (Some what) = record { healing = λ none. none; stopped = refl }
    by false r = record { healing = λ none. none; stopped = refl }

no_healing : (h : Healing) → Some h ≡ None → ⊥
no_healing h e = cc e

beside_leaves : (t : Track) (m : Message) (h : Option Healing) → t.healing ≡ h → Leaves t (noted_with t m h)
beside_leaves t m None heals = noted_leaves t m t.current
beside_leaves t m (Some h) heals = by h.current
  where
    by : (move : Option Open) → Leaves t (noted_by_move t m h move)
    by None = noted_leaves t m t.current
    by (Some o) = under (m.op.0 == o.number.0)
      where
        under : (b : Bool) → Leaves t (cond b (record t { healing = Some (record h { current = Some (record o { answers = record { place = m.from; body = m.body } ∷ o.answers }) }) }) (noted t m t.current))
        under true = record { healing = λ none. absurd (no_healing _ none); stopped = refl }
        under false = noted_leaves t m t.current

pub delivery_leaves : (t : Track) (m : Message) (to : Place) → Leaves t (comes (taken t) m to) ⊎ (comes (taken t) m to ≡ record (taken t) { stopped = true })
delivery_leaves t m to = by to
  where
    issuer : Leaves t (issuer_gets (taken t) m) ⊎ (issuer_gets (taken t) m ≡ record (taken t) { stopped = true })
    issuer = under (stops m.body)
      where
        under : (b : Bool) → Leaves t (cond b (record (taken t) { stopped = true }) (noted_with (taken t) m t.healing)) ⊎ (cond b (record (taken t) { stopped = true }) (noted_with (taken t) m t.healing) ≡ record (taken t) { stopped = true })
        under true = inr refl
        under false = let leaves = beside_leaves (taken t) m t.healing refl in inl (record { healing = leaves.healing; stopped = leaves.stopped })

    at_memory : (k : ℕ) (s : Option Mem) → Leaves t (memory_handles (taken t) k m s)
    at_memory k None = record { healing = λ none. none; stopped = refl }
    at_memory k (Some s) = record { healing = λ none. none; stopped = refl }

    by : (to : Place) → Leaves t (comes (taken t) m to) ⊎ (comes (taken t) m to ≡ record (taken t) { stopped = true })
    by (Processor cpu) = issuer
    by (Memory number) = inl (at_memory number.0 (slice_get t.mems number.0))
    by Storage = inl (record { healing = λ none. none; stopped = refl })
    by Manager = issuer

delivery_heals : (t : Track) (m : Message) (to : Place) → (comes (taken t) m to).healing ≡ None → t.healing ≡ None
delivery_heals t m to none = elim (delivery_leaves t m to) [
  | inl leaves ↦ leaves.healing none
  | inr is ↦ sym (ap (λ (u : Track). u.healing) is) ∙ none
]

-- EVERY EVENT keeps it: where nothing heals
module _ (t : Track) (healed : t.healing ≡ None) (middle : Middle None t) (awaits : AwaitsOpen t) where
  finished_closed : (c : Option Open) → t.current ≡ c → (finished t c).current ≡ None
  finished_closed None is = is
  finished_closed (Some o) is = refl

  calls : (m : Message) (due : List Mark) → BeginsGranted t [] None due → MayBegin t m due → Calls due
  calls m [] granted may = may
  calls m (Show e ∷ due) granted may = may
  calls m (Call o ∷ due) granted may = called_of (owners_with o t.owners) t.plain o.operation granted.fits

  send_keeps : (m : Message) → MaySend t m t.owed t.healing t.current → BeginsGranted t t.owed t.current t.due → AwaitsOpen (sent t m t.owed t.healing t.current)
  send_keeps m may granted = by (awaits healed)
    where
      by : (t.current ≡ None) ⊎ Awaited t → AwaitsOpen (sent t m t.owed t.healing t.current)
      by (inr awaited) = λ none. inr (send_awaits t m may healed awaited)
      by (inl closed) = λ none. inr (subst Awaited (sym (λ i. sent t m (settled i) (healed i) (closed i))) (begin_awaits t m t.due begin (calls m t.due (subst (λ (p : List Message × Option Open). BeginsGranted t p.0 p.1 t.due) (λ i. (settled i, closed i)) granted) begin)))
        where
          settled : t.owed ≡ []
          settled = middle.idle closed healed

          begin : MayBegin t m t.due
          begin = (subst (λ (p : List Message × Option Healing × Option Open). MaySend t m p.0 p.1 p.2) (λ i. (settled i, healed i, closed i)) may).1

  deliver_keeps : (m : Message) → MayDeliver t m → AwaitsOpen (comes (taken t) m m.to)
  deliver_keeps m may = by (awaits healed)
    where
      by : (t.current ≡ None) ⊎ Awaited t → AwaitsOpen (comes (taken t) m m.to)
      by (inr awaited) = λ none. inr (deliver_awaits t m may (record { healed = healed; middle = middle }) awaited)
      by (inl closed) = absurd (no_open t.current closed (sym (ap (λ (h : Option Healing). is_waiting h t.current) healed) ∙ may.waiting))

  unhurt_keeps : (e : Event) → May t e → IsGrantedThere t e → AwaitsOpen (after t e)
  unhurt_keeps (Turn number pid) may granted = λ none. inl may.0.0.closed
  unhurt_keeps (Access cpu pid address kind bytes) may granted = λ none. inl may.0.0.closed
  unhurt_keeps (Fill pid address bytes) may granted = λ none. inl may.0.closed
  unhurt_keeps (Drop cpu pid line) may granted = λ none. inl may.0.0.closed
  unhurt_keeps (Send m) may granted = send_keeps m may (subst (GrantedBeside t) healed granted)
  unhurt_keeps (Deliver m) may granted = deliver_keeps m may
  unhurt_keeps (Crash number inc) may granted = λ none. absurd (no_healing _ none)
  unhurt_keeps (Complete op) may granted = λ none. inl (ap (λ (h : Option Healing). (completed t op.0 h).current) healed ∙ finished_closed t.current refl)
  unhurt_keeps (Out stream bytes) may granted = λ none. inl may.0.closed

-- and while a memory is healed: once that is over the open operation is sent again
module _ (t : Track) (h : Healing) (heals : t.healing ≡ Some h) (fits : CurrentFits t t.current) where
  still : {A : Type 0} → t.healing ≡ None → A
  still none = absurd (no_healing h (sym heals ∙ none))

  sent_heals : (m : Message) (owed : List Message) → (sent t m owed (Some h) t.current).healing ≡ None → ⊥
  sent_heals m (x ∷ more) none = no_healing h (sym heals ∙ none)
  sent_heals m [] none = by h.moves none
    where
      by : (moves : List Move) → (move_begins t m h moves).healing ≡ None → ⊥
      by [] none = no_healing h (sym heals ∙ none)
      by (move ∷ moves) none = no_healing _ none

  finished_heals : (c : Option Open) → (finished t c).healing ≡ None → ⊥
  finished_heals None none = no_healing h (sym heals ∙ none)
  finished_heals (Some o) none = no_healing h (sym heals ∙ none)

  moved : (o : Open) (moves : List Move) → AwaitsOpen (move_finished t h o moves)
  moved o [] = by t.current refl
    where
      by : (c : Option Open) → t.current ≡ c → AwaitsOpen (move_finished t h o [])
      by None is = λ none. inl (ap (sent_again t) is)
      by (Some one) is = λ none. inr (again_awaits t h o one is (subst (CurrentFits t) is fits))
  moved o (move ∷ moves) = λ none. absurd (no_healing _ none)

  complete_keeps : (number : ℕ) → AwaitsOpen (completed t number (Some h))
  complete_keeps number = by h.current
    where
      by : (c : Option Open) → AwaitsOpen (completed_beside t number h c)
      by None = λ none. absurd (finished_heals t.current none)
      by (Some o) = under (o.number.0 == number)
        where
          under : (b : Bool) → AwaitsOpen (cond b (move_finished t h o h.moves) (finished t t.current))
          under true = moved o h.moves
          under false = λ none. absurd (finished_heals t.current none)

  healing_keeps : (e : Event) → AwaitsOpen (after t e)
  healing_keeps (Turn number pid) = λ none. still none
  healing_keeps (Access cpu pid address kind bytes) = λ none. still none
  healing_keeps (Fill pid address bytes) = λ none. still none
  healing_keeps (Drop cpu pid line) = λ none. still none
  healing_keeps (Send m) = λ none. absurd (sent_heals m t.owed (subst (λ (g : Option Healing). (sent t m t.owed g t.current).healing ≡ None) heals none))
  healing_keeps (Deliver m) = λ none. still (delivery_heals t m m.to none)
  healing_keeps (Crash number inc) = λ none. absurd (no_healing _ none)
  healing_keeps (Complete op) = subst (λ (g : Option Healing). AwaitsOpen (completed t op.0 g)) (sym heals) (complete_keeps op.0)
  healing_keeps (Out stream bytes) = λ none. still none

pub awaits_after : (t : Track) (e : Event) → May t e → IsGrantedThere t e → InRelation t → AwaitsOpen t → AwaitsOpen (after t e)
awaits_after t e may granted middle awaits = by t.healing refl
  where
    by : (g : Option Healing) → t.healing ≡ g → AwaitsOpen (after t e)
    by None healed = unhurt_keeps t healed (subst (λ (g : Option Healing). Middle (lost_in g) t) healed middle) awaits e may granted
    by (Some h) heals = healing_keeps t h heals middle.current e
