-- While a memory is healed: deliveries of messages that aren't the move's.
use Rattle.std.proofs.Common.{◌≡◌, ◌⊎◌, ◌<◌, ◌==◌, ◌||◌, [], ◌∷◌, ◌++◌, ◌∙◌, ℕ, Bool, List, None, Option, Some, ap, arith, false, inl, inr, refl, slice_get, subst, sym, true}
use Rattle.std.proofs.lemmas.Bool.{eq-eqb, eqb-false, ne_eqb}
use Rattle.std.proofs.lemmas.Bool.Decides.{eqb_tells}
use Rattle.std.specs.List.{AllByRecursion}
use Rattle.std.specs.Prelude.{slice_set}
use Rattle.lego_base.specs.declared.records.Patch.{Patch}
use Rattle.lego_msg.proofs.Senders.{get_set_other}
use Rattle.lego_msg.specs.Deliveries.{MayDeliver, memory_handles, taken}
use Rattle.lego_msg.specs.Places.{is_among, is_issuer, memory, same_place, secondary_of}
use Rattle.lego_msg.specs.State.{Mem, Waiter}
use Rattle.lego_msg.specs.Table.{drained, handled, handled_body}
use Rattle.lego_msg.specs.Track.{Track, healing_move, is_done, memory_count}
use Rattle.lego_msg.specs.declared.body.Body.{Body}
use Rattle.lego_msg.specs.declared.healing.Healing.{Healing}
use Rattle.lego_msg.specs.declared.message.Message.{Message}
use Rattle.lego_msg.specs.declared.operation.Open.{Open}
use Rattle.lego_msg.specs.declared.operation.Operation.TheVariants.{Heals}
use Rattle.lego_msg.specs.declared.place.Place.{Place}
use Rattle.lego_msg.specs.declared.place.Place.TheVariants.{Manager, Memory, Processor, Storage}
use Rattle.lego_rest.specs.Answers.{all_pending}
use Rattle.lego_rest.specs.Fits.{WaiterFits}
use Rattle.lego_rest.specs.Heals.{HealFits, IsDrained, count_drains, count_waiting, open_patch}
use Rattle.lego_rest.specs.Parts.{Page, sides_of}
use Rattle.lego_rest.specs.Pending.{Goes, IsAway, IsBackground, IsBatch, IsNot, IsOf, IsPlace, IsUp, Left, MayPend, OfBackground, OfMove, OfOperation, Pends, Returns}
use Rattle.lego_rest.specs.Rest.{Middle}
use Rattle.rest_laws.proofs.Bare.{calm_on, get_below}
use Rattle.rest_laws.proofs.Delivered.{MemoryRow, given_keeps, set_each}
use Rattle.rest_laws.proofs.Emptied.{logs-grow-by-writes}
use Rattle.rest_laws.proofs.Ended.{get_within}
use Rattle.rest_laws.proofs.Meeting.{memory_same}
use Rattle.rest_laws.specs.Logs.{IsEndOf}
use Rattle.rest_laws.proofs.Noted.{calm_moves}
use Rattle.rest_laws.proofs.Opened.{every}
use Rattle.rest_laws.proofs.Receipt.{receipt_gives}
use Rattle.rest_laws.proofs.Taken.{all_taken, not_of_move, whole}
use Rattle.rest_laws.proofs.kinds.EveryKind.{every_kind_rows}
use Rattle.healing_laws.proofs.Drains.{Answered, Backed, WaitOn, backed, drained_stays}
use Rattle.healing_laws.proofs.Leaves.{Leaves, leaves, set_drains}
use Rattle.healing_laws.proofs.OnItsWay.{moves_still, on_its_way}
use Rattle.healing_laws.proofs.Passing.{Passes, passing_heals, quiet_stays}
use Rattle.healing_laws.proofs.Writes.{logged}
use Rattle.lego_msg.specs.declared.body.Body.TheVariants as body
use Rattle.lego_msg.specs.declared.place.Place.TheVariants as place

pub lost_at : (lost : Option ℕ) (t : Track) (g : Healing) → Middle lost t → t.healing ≡ Some g → lost ≡ Some g.memory.0
lost_at lost t g middle is = (subst (HealFits lost t) is middle.healing).0

pub up_apart : (lost : Option ℕ) (k c : ℕ) → IsUp lost k → lost ≡ Some c → same_place (memory k) (memory c) ≡ false
up_apart lost k c up is = ne_eqb k c (λ same. subst (λ (l : Option ℕ). IsUp l k) is up (sym same))

-- c is a memory that is there, and its secondary is another one
pub lost_below : (lost : Option ℕ) (t : Track) (g : Healing) → t.stopped ≡ false → Middle lost t → t.healing ≡ Some g → g.memory.0 < memory_count t.shape
lost_below lost t g goes_on middle is =
    let holds = (subst (HealFits lost t) is middle.healing).1 goes_on in
    let inside = get_below t.mems g.memory.0 holds.stands.x holds.stands.at in
    let count = middle.count in
    omega (arith, inside, count)

pub memory_no_storage : (k : ℕ) → memory k ≡ place.Storage → ⊥
memory_no_storage k e = cc e

-- a message that is away from the lost memory goes to one that is up
pub away_up : (lost : Option ℕ) (m : Message) (k : ℕ) → m.to ≡ memory k → IsAway lost m → IsUp lost k
away_up None m k to away = tt
away_up (Some c) m k to away = λ same. let both : true ≡ false = sym (eq-eqb k c (sym same)) ∙ ap (λ (p : Place). same_place p (memory c)) (sym to) ∙ away.1 in cc both

-- what holds of all of a log holds of an end of it
end_all : (P : Patch → Type 0) → (log before : List Patch) → IsEndOf log before → AllByRecursion P before → AllByRecursion P log
end_all P log before ends all = by ends.0 (subst (AllByRecursion P) (sym ends.1) all)
  where
    by : (front : List Patch) → AllByRecursion P (front ++ log) → AllByRecursion P log
    by [] all = all
    by (x ∷ front) all = by front all.1

module _ (lost : Option ℕ) (t : Track) (m : Message) (may : MayDeliver t m) (not_move : IsNot (healing_move t.healing) m.op.0) (middle : Middle lost t) where
  goes_on : t.stopped ≡ false
  goes_on = calm_on t may.calm

  undone : is_done t.net (healing_move t.healing) ≡ false
  undone = calm_moves t may.calm

  pends : MayPend lost (memory_count t.shape) t.plain t.current (healing_move t.healing) t.next m
  pends = (all_taken (MayPend lost (memory_count t.shape) t.plain t.current (healing_move t.healing) t.next) (all_pending t) (all_pending (taken t)) m (whole t m may) middle.pending).0

  -- what is sent with the number of the message, or with none, isn't of the move
  pub none_of_it : (g : Healing) → t.healing ≡ Some g → (o : Open) → healing_move t.healing ≡ Some o → (m.op.0 == o.number.0) ≡ false → 0 < o.number.0 → (out : List Message) → AllByRecursion (λ (r : Message). (r.op.0 ≡ m.op.0) ⊎ (r.op.0 ≡ 0)) out → AllByRecursion (λ (r : Message). (r.op.0 == o.number.0) ≡ false) out
  none_of_it g heals o is none some out numbers = every each out numbers
    where
      each : (r : Message) → (r.op.0 ≡ m.op.0) ⊎ (r.op.0 ≡ 0) → (r.op.0 == o.number.0) ≡ false
      each r (inl e) = ap (λ (k : ℕ). k == o.number.0) e ∙ none
      each r (inr e) = ne_eqb r.op.0 o.number.0 (λ same. omega (arith, e, same, some))

  -- A MEMORY
  module _ (k : ℕ) (s : Mem) (to : m.to ≡ memory k) (at : slice_get t.mems k ≡ Some s) where
    row_keeps : (s' : Mem) (out : List Message) → MemoryRow lost t k s s' out → IsUp lost k → ((g : Healing) → t.healing ≡ Some g → Passes t m g.memory.0 (slice_set t.mems k s') t.disk.images out) → Middle lost (record (taken t) { mems = slice_set t.mems k s'; owed = out })
    row_keeps s' out row up passes = given_keeps lost t k s s' m out may to at middle row
        (passing_heals lost t (slice_set t.mems k s') t.disk m out (memory k) may row.from middle t.healing refl (λ g is. (up_apart lost k g.memory.0 up (lost_at lost t g middle is), passes g is)) not_move undone middle.healing)

    -- logs of the secondary stay drained
    drained_after : (c : ℕ) (s' : Mem) → (AllByRecursion (λ (p : Patch). open_patch t.current ≡ Some p) s.log → AllByRecursion (λ (p : Patch). open_patch t.current ≡ Some p) s'.log) → IsDrained (sides_of t) (open_patch t.current) t.mems t.disk.images c → IsDrained (sides_of t) (open_patch t.current) (slice_set t.mems k s') t.disk.images c
    drained_after c s' kept drained = (λ y is. set_each (λ (j : ℕ) (z : Mem). j ≡ secondary_of (memory_count t.shape) c → AllByRecursion (λ (p : Patch). open_patch t.current ≡ Some p) z.log) t.mems k s s' at (λ e. kept (drained.0 s (ap (slice_get t.mems) (sym e) ∙ at))) (λ j z was e. drained.0 z (ap (slice_get t.mems) (sym e) ∙ was)) (secondary_of (memory_count t.shape) c) y is refl, drained.1)

    still_there : (c : ℕ) (s' : Mem) → same_place (memory k) (memory c) ≡ false → (x : Mem) → slice_get t.mems c ≡ Some x → slice_get (slice_set t.mems k s') c ≡ Some x
    still_there c s' apart x was = get_set_other t.mems k c s' (λ same. eqb-false k c apart same) ∙ was

    passes_quiet : (s' : Mem) (out : List Message) → MemoryRow lost t k s s' out → IsUp lost k → AllByRecursion (λ (r : Message). (r.op.0 ≡ m.op.0) ⊎ (r.op.0 ≡ 0)) out →
        ((number : ℕ) → (m.op.0 == number) ≡ false → count_waiting number s'.drains ≡ count_waiting number s.drains) → (AllByRecursion (λ (p : Patch). open_patch t.current ≡ Some p) s.log → AllByRecursion (λ (p : Patch). open_patch t.current ≡ Some p) s'.log) →
        (g : Healing) → t.healing ≡ Some g → Passes t m g.memory.0 (slice_set t.mems k s') t.disk.images out
    passes_quiet s' out row up numbers drains log g heals =
        let apart = up_apart lost k g.memory.0 up (lost_at lost t g middle heals) in
        record {
          agree = record { drained = drained_after g.memory.0 s' log; anew = λ pid vpn mine either. either };
          at = still_there g.memory.0 s' apart;
          background = row.others g.memory.0 (λ same. eqb-false k g.memory.0 apart same);
          move = λ o move x is none of fits. quiet_stays t m may g.memory.0 (slice_set t.mems k s') t.disk.images out x o move fits.to (same_drains o none) (none_of_it g heals o is none fits.some out numbers) none;
        }
      where
        same_drains : (o : Open) → (m.op.0 == o.number.0) ≡ false → count_drains o.number.0 (slice_set t.mems k s') ≡ count_drains o.number.0 t.mems
        same_drains o none =
            let set_ = set_drains o.number.0 t.mems k s s' at in
            let same = drains o.number.0 none in
            omega (arith, set_, same)

    -- a receipt: drains wait on, or are answered
    passes_backed : (s' : Mem) (out : List Message) → MemoryRow lost t k s s' out → IsUp lost k → IsEndOf s'.log s.log → s.id ≡ k → AllByRecursion (WaiterFits (memory_count t.shape) k t.next t.current (healing_move t.healing)) s.drains → Backed s (s', out) → (g : Healing) → t.healing ≡ Some g → Passes t m g.memory.0 (slice_set t.mems k s') t.disk.images out
    passes_backed s' out row up ends id waiters (WaitOn zeros same) g heals = passes_quiet s' out row up (every (λ r e. inr e) out zeros) (λ number none. ap (count_waiting number) same) (end_all (λ (p : Patch). open_patch t.current ≡ Some p) s'.log s.log ends) g heals
    passes_backed s' out row up ends id waiters (Answered empty none_wait answers) g heals =
        let apart = up_apart lost k g.memory.0 up (lost_at lost t g middle heals) in
        let below = lost_below lost t g goes_on middle heals in
        record {
          agree = record { drained = drained_after g.memory.0 s' (end_all (λ (p : Patch). open_patch t.current ≡ Some p) s'.log s.log ends); anew = λ pid vpn mine either. either };
          at = still_there g.memory.0 s' apart;
          background = row.others g.memory.0 (λ same. eqb-false k g.memory.0 apart same);
          move = λ o move x is none of fits. drained_stays t g.memory.0 k s s' m out may at below id (row.given up) (λ here pid vpn. (middle.seconds g.memory.0 s below (subst (IsUp lost) (sym here) up) (ap (slice_get t.mems) here ∙ at)).part.either (Page pid vpn)) empty none_wait answers waiters o move x is none of fits;
        }

    passes_row : MemoryRow lost t k s (handled s m).0 (handled s m).1 → IsUp lost k → ((p : Patch) → m.body ≡ body.LogWrite p → open_patch t.current ≡ Some p) → (g : Healing) → t.healing ≡ Some g → Passes t m g.memory.0 (slice_set t.mems k (handled s m).0) t.disk.images (handled s m).1
    passes_row row up log g heals = by (leaves s m)
      where
        by : (m.body ≡ body.BackedUp) ⊎ Leaves s m (handled s m) → Passes t m g.memory.0 (slice_set t.mems k (handled s m).0) t.disk.images (handled s m).1
        by (inr left) = passes_quiet (handled s m).0 (handled s m).1 row up left.numbers left.drains (left.log (open_patch t.current) log) g heals
        by (inl told) = passes_backed (handled s m).0 (handled s m).1 row up (logs-grow-by-writes s m (λ patch is. no_log patch (sym told ∙ is))) (middle.forms k s at).id (middle.waiting k s at) (subst (λ (what : Body). Backed s (handled_body s m what)) (sym told) (backed s)) g heals
          where
            no_log : (patch : Patch) → body.BackedUp ≡ body.LogWrite patch → ⊥
            no_log patch e = cc e

    component : is_issuer m.to ≡ false
    component = ap is_issuer to

    row_comes : (up : IsUp lost k) → MemoryRow lost t k s (handled s m).0 (handled s m).1 → ((p : Patch) → m.body ≡ body.LogWrite p → open_patch t.current ≡ Some p) → Middle lost (memory_handles (taken t) k m (Some s))
    row_comes up row log = row_keeps (handled s m).0 (handled s m).1 row up (passes_row row up log)

    of_operation : (c : Option Open) → t.current ≡ c → IsOf lost (memory_count t.shape) t.plain m c → Middle lost (memory_handles (taken t) k m (Some s))
    of_operation None e of = absurd of
    of_operation (Some o) e of = by (subst (Middle lost) same middle) (subst (λ (u : Track). MayDeliver u m) same may)
      where
        same : t ≡ record t { current = Some o }
        same = λ i. record t { current = e i }

        by : Middle lost (record t { current = Some o }) → MayDeliver (record t { current = Some o }) m → Middle lost (memory_handles (taken t) k m (Some s))
        by busy may_busy =
            let row = (every_kind_rows lost t o busy).at_memory k s m of.2 (record { may = may_busy; to = to; at = at; middle = busy; number = of.0; away = of.1; not_move = not_move; moves = λ b. moves_still lost t goes_on middle b }) in
            row_comes (away_up lost m k to of.1) (subst (λ (u : Track). MemoryRow lost u k s (handled s m).0 (handled s m).1) (sym same) row)
            (λ p told. ap open_patch e ∙ logged (memory_count t.shape) t.owners t.plain o m busy.current.0.fits busy.current.0.by component of.2 p told)

    -- a drain of the move, which waits here, is answered to the manager
    answers_move : (w : Waiter) → WaiterFits (memory_count t.shape) k t.next t.current (healing_move t.healing) w → (IsNot (healing_move t.healing) w.op → MayPend lost (memory_count t.shape) t.plain t.current (healing_move t.healing) t.next (drained s.id w)) → MayPend lost (memory_count t.shape) t.plain t.current (healing_move t.healing) t.next (drained s.id w)
    answers_move w fits rest = by t.healing refl fits rest
      where
        id : s.id ≡ k
        id = (middle.forms k s at).id

        there : IsPlace (memory_count t.shape) (memory s.id)
        there = let inside = get_below t.mems k s at in let count = middle.count in omega (arith, inside, count, id)

        by : (h : Option Healing) → t.healing ≡ h → WaiterFits (memory_count t.shape) k t.next t.current (healing_move h) w → (IsNot (healing_move h) w.op → MayPend lost (memory_count t.shape) t.plain t.current (healing_move h) t.next (drained s.id w)) → MayPend lost (memory_count t.shape) t.plain t.current (healing_move h) t.next (drained s.id w)
        by None is fits rest = rest tt
        by (Some h) is fits rest = under h.current refl fits rest
          where
            under : (move : Option Open) → h.current ≡ move → WaiterFits (memory_count t.shape) k t.next t.current move w → (IsNot move w.op → MayPend lost (memory_count t.shape) t.plain t.current move t.next (drained s.id w)) → MayPend lost (memory_count t.shape) t.plain t.current move t.next (drained s.id w)
            under None now fits rest = rest tt
            under (Some o) now fits rest = elim (eqb_tells w.op o.number.0) [
              | inr differ ↦ rest differ.0
              | inl same ↦
                  let waits = fits.of_move same.1 in
                  let way = on_its_way lost t h.memory.0 h ((subst (HealFits lost t) is middle.healing).1 goes_on) o middle now in
                  record { from = there; to = subst (IsPlace (memory_count t.shape)) (sym waits.0) tt; kind = OfMove (same.1, inr (waits.0, ap (is_among (memory s.id)) (way.fits.targets ∙ ap (λ (p : Place). p ∷ []) (place_of way.fits.to way.fits.told (sym way.fits.is ∙ waits.1))) ∙ ap (λ (b : Bool). b || false) (eq-eqb s.id k id))) }
            ]
              where
                place_of : (to : Place) (told : Body) → Heals to told ≡ Heals (memory k) body.Drain → to ≡ memory k
                place_of to told e = cc e

    of_background : IsBackground lost m → Middle lost (memory_handles (taken t) k m (Some s))
    of_background of = by of.batch
      where
        by : IsBatch m of.of → Middle lost (memory_handles (taken t) k m (Some s))
        by (Goes from to' patches what) = absurd (memory_no_storage k (sym to ∙ to'))
        by (Returns from to' what) =
            let up : IsUp lost k = subst (IsUp lost) (memory_same of.of k (sym to' ∙ to)) of.up in
            row_comes up (subst (λ (told : Body). MemoryRow lost t k s (handled_body s m told).0 (handled_body s m told).1) (sym what) (receipt_gives lost t m k s may middle of.number up from to what at answers_move)) (λ p told. absurd (no_log p (sym what ∙ told)))
          where
            no_log : (patch : Patch) → body.BackedUp ≡ body.LogWrite patch → ⊥
            no_log patch e = cc e

    at_memory : Middle lost (memory_handles (taken t) k m (Some s))
    at_memory = by pends.kind
      where
        by : Pends lost (memory_count t.shape) t.plain t.current (healing_move t.healing) t.next m → Middle lost (memory_handles (taken t) k m (Some s))
        by (OfOperation of) = of_operation t.current refl of
        by (OfMove of) = absurd (not_of_move m (healing_move t.healing) of not_move)
        by (OfBackground of) = of_background of
        by (Left old) = let both : false ≡ true = ap is_issuer (sym to) ∙ old.to in cc both

  pub memory_comes : (k : ℕ) → m.to ≡ memory k → Middle lost (memory_handles (taken t) k m (slice_get t.mems k))
  memory_comes k to =
      let there = here in
      subst (λ (x : Option Mem). Middle lost (memory_handles (taken t) k m x)) (sym there.1) (at_memory k there.0 to there.1)
    where
      here : (s : Mem) × (slice_get t.mems k ≡ Some s)
      here =
          let below : k < memory_count t.shape = subst (IsPlace (memory_count t.shape)) to pends.to in
          let count = middle.count in
          get_within t.mems k (omega (arith, below, count))
