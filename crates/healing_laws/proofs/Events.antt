-- Every event keeps the relation, and every legal list.
use Rattle.std.proofs.Common.{◌≡◌, ◌==◌, ◌&&◌, ◌||◌, [], ◌∷◌, ◌++◌, ◌∙◌, ℕ, Bool, List, None, Option, Some, ap, cond, false, not, refl, subst, sym, true}
use Rattle.std.proofs.lemmas.Bool.{eq-eqb}
use Rattle.lego_base.specs.declared.ids.OpNo.{OpNo}
use Rattle.lego_msg.specs.Completions.{MayComplete, completed, completed_beside, done_or, finished, move_finished}
use Rattle.lego_msg.specs.Crashes.{MayCrash, is_idle}
use Rattle.lego_msg.specs.Legal.{Legal, May}
use Rattle.lego_msg.specs.Marks.{is_turn_end}
use Rattle.lego_msg.specs.Run.{after, run}
use Rattle.lego_msg.specs.Sends.{IsMove, MaySend, sent}
use Rattle.lego_msg.specs.Track.{Track, healing_move, is_any_done, is_complete, is_crash_due, is_crash_left, next_crash}
use Rattle.lego_msg.specs.declared.event.Event.{Event}
use Rattle.lego_msg.specs.declared.event.Event.TheVariants.{Access, Complete, Crash, Deliver, Drop, Fill, Out, Send, Turn}
use Rattle.lego_msg.specs.declared.healing.Healing.{Healing}
use Rattle.lego_msg.specs.declared.healing.Move.{Move}
use Rattle.lego_msg.specs.declared.message.Message.{Message}
use Rattle.lego_msg.specs.declared.operation.Open.{Open}
use Rattle.lego_rest.proofs.Resting.{middle-is-rest, rest-is-middle}
use Rattle.lego_rest.specs.Heals.{HealFits, NumbersDiffer}
use Rattle.lego_rest.specs.Rest.{AtRest, Middle}
use Rattle.rest_laws.proofs.Bare.{calm_on}
use Rattle.rest_laws.proofs.Crashed.{crash-begins}
use Rattle.rest_laws.proofs.Goes.{complete_one, events-keep}
use Rattle.rest_laws.proofs.Noted.{eqb_sym}
use Rattle.rest_laws.proofs.Sends.{owed-is-sent}
use Rattle.healing_laws.proofs.EndsBeside.{operation-ends-beside}
use Rattle.healing_laws.proofs.HealingEnds.{healing-ends, not_due}
use Rattle.healing_laws.proofs.MoveBegins.{move-begins}
use Rattle.healing_laws.proofs.MoveDeliveries.{deliveries-keep}
use Rattle.healing_laws.proofs.MoveEnds.{move-ends}
use Rattle.healing_laws.specs.Running.{EveryEventKeeps, EveryListEndsAtRest, EveryListKeeps, GrantedAll, GrantedBeside, InRelation, IsGrantedThere, IsOver, lost_in}

-- whichever memory the relation speaks of, it is the one that is being healed
pub in_relation : (lost : Option ℕ) (t : Track) → Middle lost t → InRelation t
in_relation lost t middle = subst (λ (l : Option ℕ). Middle l t) (by t.healing middle.healing) middle
  where
    by : (h : Option Healing) → HealFits lost t h → lost ≡ lost_in h
    by None fits = fits
    by (Some h) fits = fits.0

-- WITH NOTHING LOST
calm_events : (t : Track) (e : Event) → May t e → IsGrantedThere t e → t.healing ≡ None → Middle None t → InRelation (after t e)
calm_events t (Turn number pid) may granted healed middle = in_relation None (after t (Turn number pid)) (events-keep t (Turn number pid) may tt tt healed middle).0
calm_events t (Access cpu pid address kind bytes) may granted healed middle = in_relation None (after t (Access cpu pid address kind bytes)) (events-keep t (Access cpu pid address kind bytes) may tt tt healed middle).0
calm_events t (Fill pid address bytes) may granted healed middle = in_relation None (after t (Fill pid address bytes)) (events-keep t (Fill pid address bytes) may tt tt healed middle).0
calm_events t (Drop cpu pid line) may granted healed middle = in_relation None (after t (Drop cpu pid line)) (events-keep t (Drop cpu pid line) may tt tt healed middle).0
calm_events t (Send m) may granted healed middle = in_relation None (after t (Send m)) (events-keep t (Send m) may tt (subst (GrantedBeside t) healed granted) healed middle).0
calm_events t (Deliver m) may granted healed middle = in_relation None (after t (Deliver m)) (events-keep t (Deliver m) may tt tt healed middle).0
calm_events t (Crash number inc) may granted healed middle = in_relation (Some number.0) (after t (Crash number inc)) (crash-begins t number.0 inc may middle)
calm_events t (Complete op) may granted healed middle = in_relation None (after t (Complete op)) (events-keep t (Complete op) may tt tt healed middle).0
calm_events t (Out stream bytes) may granted healed middle = in_relation None (after t (Out stream bytes)) (events-keep t (Out stream bytes) may tt tt healed middle).0

-- WHILE A MEMORY IS HEALED
module _ (lost : Option ℕ) (t : Track) (h : Healing) (heals : t.healing ≡ Some h) (middle : Middle lost t) where
  not_healed : {A : Type 0} → t.healing ≡ None → A
  not_healed healed = let both : Some h ≡ None = sym heals ∙ healed in cc both

  send_keeps : (m : Message) → MaySend t m t.owed t.healing t.current → InRelation (sent t m t.owed t.healing t.current)
  send_keeps m may = by t.owed refl may
    where
      by : (owed : List Message) → t.owed ≡ owed → MaySend t m owed t.healing t.current → InRelation (sent t m owed t.healing t.current)
      by (first ∷ more) owing may = subst (λ (x : Message). InRelation (record t { net = t.net ++ x ∷ []; owed = more })) (sym may) (in_relation lost (record t { net = t.net ++ first ∷ []; owed = more }) (owed-is-sent lost t first more owing middle))
      by [] settled may = subst (λ (g : Option Healing). InRelation (sent t m [] g t.current)) (sym heals) (moves (subst (λ (g : Option Healing). MaySend t m [] g t.current) heals may))
        where
          moves : MaySend t m [] (Some h) t.current → InRelation (sent t m [] (Some h) t.current)
          moves may = under h.current refl may.1
            where
              under : (current : Option Open) → h.current ≡ current → IsMove t m h current h.moves → InRelation (sent t m [] (Some h) t.current)
              under (Some o) now is = absurd is
              under None now is = in_relation lost (sent t m [] (Some h) t.current) (move-begins lost t h m heals now settled (calm_on t may.0) is middle)

  -- the completion of the move, or of the open operation
  complete_keeps : (op : OpNo) → MayComplete t op → InRelation (completed t op.0 t.healing)
  complete_keeps op may = subst (λ (g : Option Healing). InRelation (completed t op.0 g)) (sym heals) (by h.current refl (subst (λ (g : Option Healing). done_or t.net (healing_move g) (done_or t.net t.current None) ≡ Some op) heals may.complete))
    where
      one_number : (a b : OpNo) → Some a ≡ Some b → a ≡ b
      one_number a b e = cc e

      operation : (p : Open) → t.current ≡ Some p → is_complete t.net p ≡ true → InRelation (finished t t.current)
      operation p is complete = subst (λ (c : Option Open). InRelation (finished t c)) (sym is) (in_relation lost (finished t (Some p)) (operation-ends-beside lost t h p heals is may.owed may.goes_on complete middle))

      of_move : (o : Open) → h.current ≡ Some o → is_complete t.net o ≡ true → InRelation (move_finished t h o h.moves)
      of_move o now complete = under h.moves refl
        where
          under : (moves : List Move) → h.moves ≡ moves → InRelation (move_finished t h o h.moves)
          under [] last = in_relation None (move_finished t h o h.moves) (healing-ends lost t h o heals now last may.owed may.goes_on complete middle)
          under (move ∷ moves) more = in_relation lost (move_finished t h o h.moves) (move-ends lost t h o move moves heals now more may.owed may.goes_on complete middle)

      number_of : (c : Option Open) (p : Open) → c ≡ Some p → done_or t.net c None ≡ Some op → p.number.0 ≡ op.0
      number_of c p is done = by (is_complete t.net p) (sym (ap (λ (d : Option Open). done_or t.net d None) is) ∙ done)
        where
          by : (b : Bool) → cond b (Some p.number) None ≡ Some op → p.number.0 ≡ op.0
          by true e = ap (λ (n : OpNo). n.0) (one_number p.number op e)
          by false e = cc e

      by : (current : Option Open) → h.current ≡ current → done_or t.net current (done_or t.net t.current None) ≡ Some op → InRelation (completed_beside t op.0 h current)
      by None now done = let one = complete_one t.net t.current op done in operation one.0 one.1 one.2
      by (Some o) now done = under (is_complete t.net o) refl done
        where
          under : (b : Bool) → is_complete t.net o ≡ b → cond b (Some o.number) (done_or t.net t.current None) ≡ Some op → InRelation (cond (o.number.0 == op.0) (move_finished t h o h.moves) (finished t t.current))
          under true complete is = subst (λ (b : Bool). InRelation (cond b (move_finished t h o h.moves) (finished t t.current))) (sym (eq-eqb o.number.0 op.0 (ap (λ (n : OpNo). n.0) (one_number o.number op is)))) (of_move o now complete)
          under false incomplete is =
              let one = complete_one t.net t.current op is in
              let holds = (subst (HealFits lost t) heals middle.healing).1 may.goes_on in
              let differ : (one.0.number.0 == o.number.0) ≡ false = subst (λ (p : Option Open × Option Open). NumbersDiffer p.0 p.1) (λ i. (one.1 i, now i)) holds.apart in
              let apart : (o.number.0 == op.0) ≡ false = ap (λ (k : ℕ). o.number.0 == k) (sym (number_of t.current one.0 one.1 is)) ∙ eqb_sym o.number.0 one.0.number.0 ∙ differ in
              subst (λ (b : Bool). InRelation (cond b (move_finished t h o h.moves) (finished t t.current))) (sym apart) (operation one.0 one.1 one.2)

  -- no other crash comes
  no_crash : (number inc : ℕ) → MayCrash t number inc → ⊥
  no_crash number inc may = by (is_crash_due t) (is_crash_left t) (is_idle t.healing t.current) (is_turn_end t.due) due left may.moment
    where
      running : t.stopped ≡ false
      running = under t.stopped (is_any_done t) may.goes_on
        where
          under : (a b : Bool) → (not a && not b) ≡ true → a ≡ false
          under true b e = cc e
          under false b e = refl

      left : is_crash_left t ≡ false
      left = ((subst (HealFits lost t) heals middle.healing).1 running).no_second

      due : is_crash_due t ≡ false
      due = not_due t.clock (next_crash t.shape t.clock) left

      by : (a b x y : Bool) → a ≡ false → b ≡ false → (a || (b && x && y)) ≡ true → ⊥
      by true b x y e f g = cc e
      by false true x y e f g = cc f
      by false false x y e f g = cc g

  healing_events : (e : Event) → May t e → InRelation (after t e)
  healing_events (Turn number pid) may = not_healed may.0.0.healed
  healing_events (Access cpu pid address kind bytes) may = not_healed may.0.0.healed
  healing_events (Fill pid address bytes) may = not_healed may.0.healed
  healing_events (Drop cpu pid line) may = not_healed may.0.0.healed
  healing_events (Send m) may = send_keeps m may
  healing_events (Deliver m) may = in_relation lost (after t (Deliver m)) (deliveries-keep lost t m may middle)
  healing_events (Crash number inc) may = absurd (no_crash number.0 inc may)
  healing_events (Complete op) may = complete_keeps op may
  healing_events (Out stream bytes) may = not_healed may.0.healed

pub every-event-keeps : EveryEventKeeps
every-event-keeps t e may granted middle = by t.healing refl
  where
    by : (h : Option Healing) → t.healing ≡ h → InRelation (after t e)
    by None is = calm_events t e may granted is (subst (λ (h : Option Healing). Middle (lost_in h) t) is middle)
    by (Some h) is = healing_events (lost_in t.healing) t h is middle e may

-- LISTS
pub lists_from : (t : Track) (events : List Event) → InRelation t → Legal t events → GrantedAll t events → InRelation (run t events)
lists_from t [] middle legal granted = middle
lists_from t (e ∷ events) middle legal granted = lists_from (after t e) events (every-event-keeps t e legal.0 granted.0 middle) legal.1 granted.1

pub every-list-keeps : EveryListKeeps
every-list-keeps t events rest legal granted = lists_from t events (in_relation None t (rest-is-middle t rest)) legal granted

pub over_rests : (t : Track) → IsOver t → InRelation t → AtRest t
over_rests t over middle = middle-is-rest t over.closed over.healed over.goes_on (subst (λ (h : Option Healing). Middle (lost_in h) t) over.healed middle)

pub every-list-ends-at-rest : EveryListEndsAtRest
every-list-ends-at-rest t events rest legal granted over = over_rests (run t events) over (every-list-keeps t events rest legal granted)
