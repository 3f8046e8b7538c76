-- A receipt reaches a memory that is up while another one is healed: drains that wait are answered, that of the move too.
use Rattle.std.proofs.Common.{◌≡◌, ◌⊎◌, ◌+◌, ◌/◌, ◌<◌, ◌==◌, ◌&&◌, ◌||◌, [], ◌∷◌, ◌++◌, ◌∙◌, ℕ, Bool, List, None, Option, Some, ap, arith, cond, drop, false, inl, inr, length, map, not, refl, slice_get, subst, sym, true}
use Rattle.std.proofs.lemmas.Bool.{eqb-true}
use Rattle.std.proofs.lemmas.Bool.Decides.{eqb_tells}
use Rattle.std.specs.List.{AllByRecursion, list_any}
use Rattle.std.specs.Prelude.{nat_lt, slice_set}
use Rattle.lego_base.specs.declared.records.PageImage.{PageImage}
use Rattle.lego_base.specs.declared.records.Patch.{Patch}
use Rattle.lego_msg.proofs.Senders.{get_set, same_some}
use Rattle.lego_msg.specs.Deliveries.{MayDeliver, stops, taken}
use Rattle.lego_msg.specs.Healing.{ask_of}
use Rattle.lego_msg.specs.Maps.{page_in}
use Rattle.lego_msg.specs.Places.{memory, same_place, secondary_of}
use Rattle.lego_msg.specs.State.{Mem, Waiter}
use Rattle.lego_msg.specs.Table.{backed_up_row, batch_gone, batched, drained}
use Rattle.lego_msg.specs.Track.{Track, healing_move, memory_count}
use Rattle.lego_msg.specs.declared.body.Body.{Body}
use Rattle.lego_msg.specs.declared.healing.Move.{Move}
use Rattle.lego_msg.specs.declared.healing.Move.TheVariants.{Asks, HandsImages, HandsMeta, HandsPages}
use Rattle.lego_msg.specs.declared.message.Message.{Message}
use Rattle.lego_msg.specs.declared.operation.Open.{Open}
use Rattle.lego_msg.specs.declared.operation.Operation.TheVariants.{Heals}
use Rattle.lego_msg.specs.declared.place.Place.{Place}
use Rattle.lego_msg.specs.declared.place.Role.TheVariants.{Main, Spare}
use Rattle.lego_rest.specs.Answers.{all_pending}
use Rattle.lego_rest.specs.Fits.{WaiterFits}
use Rattle.lego_rest.specs.Heals.{HandsOver, HasDone, IsDrained, IsDrainedFor, MoveFits, MoveGot, Scene, count_drains, count_number, count_waiting, is_undone, is_unheard, open_patch, scene_of}
use Rattle.lego_rest.specs.Parts.{IsEither, Page, owns, second_part, sides_of}
use Rattle.rest_laws.proofs.Delivered.{Given, left_all, left_of, of_first}
use Rattle.rest_laws.proofs.Meeting.{memory_same}
use Rattle.rest_laws.proofs.Taken.{any_same, whole}
use Rattle.rest_laws.proofs.kinds.Logging.{by_rule, logging}
use Rattle.healing_laws.proofs.Leaves.{set_drains}
use Rattle.healing_laws.proofs.MovesAre.{AskIs, MoveIs, OfImages, OfLog, OfMain, OfPages, OfSpare}
use Rattle.healing_laws.proofs.Onward.{in_scene}
use Rattle.healing_laws.proofs.Passing.{MoveStays, none_unheard}
use Rattle.lego_msg.specs.declared.body.Body.TheVariants as body
use Rattle.lego_msg.specs.declared.place.Place.TheVariants as place

-- THE DRAIN OF THE MOVE waits at the secondary of c

pub record DrainsHere (w : Scene) (c k : ℕ) (move : Move) : Type 0 where
  pub here : k ≡ secondary_of w.sides.n c
  pub got : (mems : List Mem) (images : List PageImage) → IsDrained w.sides w.patch mems images c → MoveGot (in_scene w mems images) c move body.Drained
  pub did : (mems : List Mem) (images : List PageImage) (x : Mem) → IsDrained w.sides w.patch mems images c → HasDone (in_scene w mems images) c x move

pub drains_here : (w : Scene) (c k : ℕ) (pending : List Message) (next : ℕ) (o : Open) (move : Move) → MoveFits w c pending next o move → MoveIs w.sides.n c w.sides.owners move → o.operation ≡ Heals (memory k) body.Drain → DrainsHere w c k move
drains_here w c k pending next o move fits is waits = by move fits.hands fits.receiver is
  where
    place_is : fits.to ≡ memory k
    place_is = let both : Heals fits.to fits.told ≡ Heals (memory k) body.Drain = sym fits.is ∙ waits in cc both

    told_is : fits.told ≡ body.Drain
    told_is = let both : Heals fits.to fits.told ≡ Heals (memory k) body.Drain = sym fits.is ∙ waits in cc both

    asks : (to : Place) (what : Body) → what ≡ body.Drain → fits.to ≡ to → AskIs w.sides.n c w.sides.owners to what → DrainsHere w c k (Asks to what)
    asks to what drain receiver (OfLog e at) = record {
      here = memory_same k (secondary_of w.sides.n c) (sym place_is ∙ receiver ∙ at);
      got = λ mems images is. subst (λ (b : Body). MoveGot (in_scene w mems images) c (Asks to b) body.Drained) (sym drain) (refl, is);
      did = λ mems images x is. subst (λ (b : Body). HasDone (in_scene w mems images) c x (Asks to b)) (sym drain) is;
    }
    asks to what drain receiver (OfSpare who e at) = let both : body.Drain ≡ body.PullMeta who Spare = sym drain ∙ e in cc both
    asks to what drain receiver (OfMain who e at) = let both : body.Drain ≡ body.PullMeta who Main = sym drain ∙ e in cc both
    asks to what drain receiver (OfImages pid region e at mine) = let both : body.Drain ≡ body.PullImages pid region = sym drain ∙ e in cc both
    asks to what drain receiver (OfPages pid region e at mine) = let both : body.Drain ≡ body.PullPages pid region = sym drain ∙ e in cc both

    by : (move : Move) → HandsOver w.sides c move fits.told → fits.to ≡ (ask_of move None).to → MoveIs w.sides.n c w.sides.owners move → DrainsHere w c k move
    by (Asks to what) hands receiver is = asks to what (sym hands ∙ told_is) receiver is
    by (HandsMeta to role) hands receiver is = let both : body.Drain ≡ body.PushMeta role hands.0.homes hands.0.areas = sym told_is ∙ hands.1 in cc both
    by (HandsImages to pid region) hands receiver is = let both : body.Drain ≡ body.PushImages pid region hands.0 = sym told_is ∙ hands.1 in cc both
    by (HandsPages pid region) hands receiver is = let both : body.Drain ≡ body.ResetImages pid region hands.0 = sym told_is ∙ hands.1 in cc both

-- WHAT A RECEIPT DOES: the drains wait on, or the log is empty and all are answered
pub data Backed (s : Mem) (r : Mem × List Message) : Type 0 where
  WaitOn : AllByRecursion (λ (x : Message). x.op.0 ≡ 0) r.1 → r.0.drains ≡ s.drains → Backed s r
  Answered : r.0.log ≡ [] → r.0.drains ≡ [] → r.1 ≡ map (drained s.id) s.drains → Backed s r

no_length : {X : Type 0} (xs : List X) → (length xs == 0) ≡ true → xs ≡ []
no_length [] e = refl
no_length (x ∷ xs) e = let none = eqb-true (length (x ∷ xs)) 0 e in absurd (omega (arith, none))

pub backed : (s : Mem) → Backed s (backed_up_row s)
backed s = by (s.out == 0)
  where
    under : (b : Bool) → (length (drop s.out s.log) == 0) ≡ b → Backed s (cond b (logging s (drop s.out s.log) 0 [], map (drained s.id) s.drains) (batched (logging s (drop s.out s.log) 0 s.drains) []))
    under true e = Answered (no_length (drop s.out s.log) e) refl refl
    under false e = by_rule (λ (p : Mem × List Message). Backed s p) (logging s (drop s.out s.log) 0 s.drains) [] (λ due. WaitOn (refl, tt) refl) (λ waits. WaitOn tt refl)

    by : (b : Bool) → Backed s (cond b (s, []) (batch_gone (logging s (drop s.out s.log) 0 s.drains)))
    by true = WaitOn tt refl
    by false = under (length (drop s.out s.log) == 0) refl

-- what is answered was waiting
count_answered : (number id : ℕ) (drains : List Waiter) → count_number number (map (drained id) drains) ≡ count_waiting number drains
count_answered number id [] = refl
count_answered number id (w ∷ drains) = ap (λ (k : ℕ). cond (w.op == number) 1 0 + k) (count_answered number id drains)

-- one waits, or none does
one_waits : (P : Waiter → Type 0) → (number : ℕ) (drains : List Waiter) → AllByRecursion P drains → (count_waiting number drains ≡ 0) ⊎ ((w : Waiter) × (w.op ≡ number) × P w)
one_waits P number [] all = inl refl
one_waits P number (w ∷ drains) all = elim (eqb_tells w.op number) [
  | inl same ↦ inr (w, same.1, all.0)
  | inr differ ↦ by (one_waits P number drains all.1) differ.0
]
  where
    by : (count_waiting number drains ≡ 0) ⊎ ((v : Waiter) × (v.op ≡ number) × P v) → (w.op == number) ≡ false → (count_waiting number (w ∷ drains) ≡ 0) ⊎ ((v : Waiter) × (v.op ≡ number) × P v)
    by (inl none) e = inl ((λ i. cond (e i) 1 0 + none i))
    by (inr it) e = inr it

none_answered : (number id : ℕ) (drains : List Waiter) → count_waiting number drains ≡ 0 → AllByRecursion (λ (r : Message). (r.op.0 == number) ≡ false) (map (drained id) drains)
none_answered number id [] zero_ = tt
none_answered number id (w ∷ drains) zero_ = by (w.op == number) refl zero_ (none_answered number id drains)
  where
    by : (b : Bool) → (w.op == number) ≡ b → cond b 1 0 + count_waiting number drains ≡ 0 → (count_waiting number drains ≡ 0 → AllByRecursion (λ (r : Message). (r.op.0 == number) ≡ false) (map (drained id) drains)) → ((w.op == number) ≡ false) × AllByRecursion (λ (r : Message). (r.op.0 == number) ≡ false) (map (drained id) drains)
    by true e zero_ rest = absurd (omega (arith, zero_))
    by false e zero_ rest = (e, rest (omega (arith, zero_)))

module _ (t : Track) (c k : ℕ) (s s' : Mem) (m : Message) (out : List Message) (may : MayDeliver t m) (at : slice_get t.mems k ≡ Some s) (c_below : c < memory_count t.shape) (id : s.id ≡ k) (given : Given t k s s' out) (second : secondary_of (memory_count t.shape) c ≡ k → (pid vpn : ℕ) → IsEither (sides_of t) c (Page pid vpn) (second_part t.owners t.disk.images c s (Page pid vpn)))
    (empty : s'.log ≡ []) (none_wait : s'.drains ≡ []) (answers : out ≡ map (drained s.id) s.drains) (waiters : AllByRecursion (WaiterFits (memory_count t.shape) k t.next t.current (healing_move t.healing)) s.drains) where
  abbrev later_mems : List Mem
  later_mems = slice_set t.mems k s'

  now_drained : k ≡ secondary_of (memory_count t.shape) c → IsDrained (sides_of t) (open_patch t.current) (slice_set t.mems k s') t.disk.images c
  now_drained here = (log_empty, images)
    where
      log_empty : (y : Mem) → slice_get (slice_set t.mems k s') (secondary_of (memory_count t.shape) c) ≡ Some y → IsDrainedFor (open_patch t.current) y.log
      log_empty y is =
          let same : s' ≡ y = same_some s' y (sym (get_set t.mems k s s' at) ∙ ap (slice_get (slice_set t.mems k s')) here ∙ is) in
          subst (λ (log : List Patch). AllByRecursion (λ (p : Patch). open_patch t.current ≡ Some p) log) (sym (ap (λ (z : Mem). z.log) (sym same) ∙ empty)) tt

      images : (pid vpn : ℕ) → IsEither (sides_of t) c (Page pid vpn) (cond (owns t.owners c pid (vpn / 512)) (page_in t.disk.images pid vpn) None)
      images pid vpn = subst (λ (z : Option (List ℕ)). IsEither (sides_of t) c (Page pid vpn) z) part (either (given.second c c_below (sym here) (Page pid vpn)) (second (sym here) pid vpn))
        where
          part : second_part t.owners t.disk.images c s' (Page pid vpn) ≡ cond (owns t.owners c pid (vpn / 512)) (page_in t.disk.images pid vpn) None
          part = ap (λ (log : List Patch). second_part t.owners t.disk.images c (record s' { log = log }) (Page pid vpn)) empty

          either : (second_part t.owners t.disk.images c s' (Page pid vpn) ≡ second_part t.owners t.disk.images c s (Page pid vpn)) ⊎ (second_part t.owners t.disk.images c s' (Page pid vpn) ≡ cond (owns t.owners c pid (vpn / 512)) ((sides_of t).new.page pid vpn) None) → IsEither (sides_of t) c (Page pid vpn) (second_part t.owners t.disk.images c s (Page pid vpn)) → IsEither (sides_of t) c (Page pid vpn) (second_part t.owners t.disk.images c s' (Page pid vpn))
          either (inr e) was = inr e
          either (inl e) (inl was) = inl (e ∙ was)
          either (inl e) (inr was) = inr (e ∙ was)

  pub drained_stays : (o : Open) (move : Move) (x : Mem) → healing_move t.healing ≡ Some o → (m.op.0 == o.number.0) ≡ false → MoveIs (memory_count t.shape) c t.owners move → (fits : MoveFits (scene_of t) c (all_pending t) t.next o move) → MoveStays t c (slice_set t.mems k s') t.disk.images out x o move fits.to
  drained_stays o move x is none of fits = record {
    count =
        let sent : count_number o.number.0 out ≡ count_waiting o.number.0 s.drains = ap (count_number o.number.0) answers ∙ count_answered o.number.0 s.id s.drains in
        let set_ = set_drains o.number.0 t.mems k s s' at in
        let no_more : count_waiting o.number.0 s'.drains ≡ 0 = ap (count_waiting o.number.0) none_wait in
        omega (arith, sent, set_, no_more);
    heard = subst (AllByRecursion (λ (r : Message). r.op.0 ≡ o.number.0 → r.to ≡ place.Manager → (r.from ≡ fits.to) × MoveGot (in_scene (scene_of t) (slice_set t.mems k s') t.disk.images) c move r.body)) (sym answers) (each s.drains waiters);
    undone = undone (one_waits (WaiterFits (memory_count t.shape) k t.next t.current (healing_move t.healing)) o.number.0 s.drains waiters);
  }
    where
      of_waiter : (w : Waiter) → WaiterFits (memory_count t.shape) k t.next t.current (healing_move t.healing) w → w.op ≡ o.number.0 → o.operation ≡ Heals (memory k) body.Drain
      of_waiter w waits number = ((subst (λ (q : Option Open). WaiterFits (memory_count t.shape) k t.next t.current q w) is waits).of_move number).1

      each : (drains : List Waiter) → AllByRecursion (WaiterFits (memory_count t.shape) k t.next t.current (healing_move t.healing)) drains → AllByRecursion (λ (r : Message). r.op.0 ≡ o.number.0 → r.to ≡ place.Manager → (r.from ≡ fits.to) × MoveGot (in_scene (scene_of t) (slice_set t.mems k s') t.disk.images) c move r.body) (map (drained s.id) drains)
      each [] all = tt
      each (w ∷ drains) all = (one, each drains all.1)
        where
          one : w.op ≡ o.number.0 → w.place ≡ place.Manager → (memory s.id ≡ fits.to) × MoveGot (in_scene (scene_of t) (slice_set t.mems k s') t.disk.images) c move body.Drained
          one number to =
              let drains_ = of_waiter w all.0 number in
              let here = drains_here (scene_of t) c k (all_pending t) t.next o move fits of drains_ in
              (ap memory id ∙ to_is drains_, here.got (slice_set t.mems k s') t.disk.images (now_drained here.here))
            where
              to_is : o.operation ≡ Heals (memory k) body.Drain → memory k ≡ fits.to
              to_is e = let both : Heals (memory k) body.Drain ≡ Heals fits.to fits.told = sym e ∙ fits.is in cc both

      undone : (count_waiting o.number.0 s.drains ≡ 0) ⊎ ((w : Waiter) × (w.op ≡ o.number.0) × WaiterFits (memory_count t.shape) k t.next t.current (healing_move t.healing) w) → is_undone o.number.0 (left_of t ++ out) (slice_set t.mems k s') ≡ false → (is_undone o.number.0 (all_pending t) t.mems ≡ false) ⊎ HasDone (in_scene (scene_of t) (slice_set t.mems k s') t.disk.images) c x move
      undone (inr it) e =
          let here = drains_here (scene_of t) c k (all_pending t) t.next o move fits of (of_waiter it.0 it.2 it.1) in
          inr (here.did (slice_set t.mems k s') t.disk.images x (now_drained here.here))
      undone (inl zero_) e = inl (was ∙ e)
        where
          drains : count_drains o.number.0 (slice_set t.mems k s') ≡ count_drains o.number.0 t.mems
          drains =
              let set_ = set_drains o.number.0 t.mems k s s' at in
              let no_more : count_waiting o.number.0 s'.drains ≡ 0 = ap (count_waiting o.number.0) none_wait in
              omega (arith, set_, no_more, zero_)

          was : is_undone o.number.0 (all_pending t) t.mems ≡ is_undone o.number.0 (left_of t ++ out) (slice_set t.mems k s')
          was =
              (λ i. any_same (is_unheard o.number.0) (all_pending t) (all_pending (taken t)) m (whole t m may) (ap (λ (b : Bool). b && (not (same_place m.to place.Manager) || stops m.body)) none) i || nat_lt 0 (sym drains i))
              ∙ ap (λ (b : Bool). b || nat_lt 0 (count_drains o.number.0 (slice_set t.mems k s'))) (ap (list_any (is_unheard o.number.0)) (sym (left_all t m may)) ∙ sym (of_first (is_unheard o.number.0) (left_of t) out (ap (list_any (is_unheard o.number.0)) answers ∙ none_unheard o.number.0 (map (drained s.id) s.drains) (none_answered o.number.0 s.id s.drains zero_))))
