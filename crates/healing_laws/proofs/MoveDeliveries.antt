-- Every delivery, also while a memory is healed.
use Rattle.std.proofs.Common.{◌≡◌, ◌<◌, ◌∙◌, ℕ, None, Option, Some, ap, arith, inl, inr, refl, slice_get, subst, sym}
use Rattle.std.proofs.lemmas.Bool.Decides.{eqb_tells}
use Rattle.lego_base.specs.declared.ids.Pid.{Pid}
use Rattle.lego_base.specs.declared.ids.RegionNo.{RegionNo}
use Rattle.lego_msg.specs.Deliveries.{MayDeliver, comes, memory_handles, taken}
use Rattle.lego_msg.specs.Healing.{ask_of}
use Rattle.lego_msg.specs.Places.{guarded_by, is_issuer, memory, secondary_of}
use Rattle.lego_msg.specs.State.{Mem}
use Rattle.lego_msg.specs.Track.{Track, healing_move, memory_count}
use Rattle.lego_msg.specs.declared.body.Body.{Body}
use Rattle.lego_msg.specs.declared.healing.Healing.{Healing}
use Rattle.lego_msg.specs.declared.healing.Move.{Move}
use Rattle.lego_msg.specs.declared.healing.Move.TheVariants.{Asks, HandsImages, HandsMeta, HandsPages}
use Rattle.lego_msg.specs.declared.message.Message.{Message}
use Rattle.lego_msg.specs.declared.operation.Open.{Open}
use Rattle.lego_msg.specs.declared.place.Place.{Place}
use Rattle.lego_msg.specs.declared.place.Place.TheVariants.{Manager, Memory, Processor, Storage}
use Rattle.lego_rest.specs.Heals.{HandsOver}
use Rattle.lego_rest.specs.Parts.{sides_of}
use Rattle.lego_rest.specs.Pending.{IsNot, IsPlace, IsUp}
use Rattle.lego_rest.specs.Rest.{Middle}
use Rattle.rest_laws.proofs.Around.{guards-its-own, secondaries-differ}
use Rattle.rest_laws.proofs.Ended.{get_within}
use Rattle.rest_laws.proofs.Meeting.{memory_same}
use Rattle.healing_laws.proofs.Asked.{asked_comes}
use Rattle.healing_laws.proofs.Beside.{lost_at, lost_below, memory_no_storage}
use Rattle.healing_laws.proofs.BesideIssuer.{deliveries-beside}
use Rattle.healing_laws.proofs.LostRows.{handed_comes}
use Rattle.healing_laws.proofs.ManagerMoves.{manager_comes}
use Rattle.healing_laws.proofs.MovesAre.{AskIs, MoveIs, OfImages, OfLog, OfMain, OfPages, OfSpare}
use Rattle.healing_laws.proofs.MoveSteps.{heal_goes_on, its_kind, its_message, the_way}
use Rattle.healing_laws.proofs.StorageMoves.{storage_move_comes}
use Rattle.healing_laws.specs.Moving.{DeliveriesKeep}
use Rattle.lego_msg.specs.declared.place.Place.TheVariants as place

-- what c itself is given
abbrev IsGiven : Move → Type 0
IsGiven (Asks to what) = ⊥
IsGiven (HandsMeta to role) = Unit {0}
IsGiven (HandsImages to pid region) = Unit {0}
IsGiven (HandsPages pid region) = ⊥

module _ (lost : Option ℕ) (t : Track) (m : Message) (may : MayDeliver t m) (middle : Middle lost t) (h : Healing) (heals : t.healing ≡ Some h) (o : Open) (now : h.current ≡ Some o) (number : m.op.0 ≡ o.number.0) where
  -- A MEMORY: one that is up is asked, and the lost one is given what is handed over
  module _ (k : ℕ) (s : Mem) (to : m.to ≡ memory k) (at : slice_get t.mems k ≡ Some s) where
    its : (m.from ≡ place.Manager) × (m.to ≡ (the_way lost t m may middle h heals o now number).fits.to) × (m.body ≡ (the_way lost t m may middle h heals o now number).fits.told)
    its = its_message lost t m may middle h heals o now number (ap is_issuer to)

    below : h.memory.0 < memory_count t.shape
    below = lost_below lost t h (heal_goes_on lost t m may middle h heals o now number) middle heals

    up_if : (h.memory.0 ≡ k → ⊥) → IsUp lost k
    up_if differ = subst (λ (l : Option ℕ). IsUp l k) (sym (lost_at lost t h middle heals)) differ

    -- neither the secondary of c nor the memory that c guards is c
    second_other : memory k ≡ memory (secondary_of (memory_count t.shape) h.memory.0) → h.memory.0 ≡ k → ⊥
    second_other e same = (secondaries-differ (memory_count t.shape) h.memory.0 h.memory.0 middle.machine.two below below).0 (sym (same ∙ memory_same k (secondary_of (memory_count t.shape) h.memory.0) e))

    guarded_other : memory k ≡ memory (guarded_by (memory_count t.shape) h.memory.0) → h.memory.0 ≡ k → ⊥
    guarded_other e same =
        let own = guards-its-own (memory_count t.shape) h.memory.0 middle.machine.two below in
        let q_is : guarded_by (memory_count t.shape) h.memory.0 ≡ h.memory.0 = sym (same ∙ memory_same k (guarded_by (memory_count t.shape) h.memory.0) e) in
        (secondaries-differ (memory_count t.shape) h.memory.0 h.memory.0 middle.machine.two below below).0 (ap (secondary_of (memory_count t.shape)) (sym q_is) ∙ own.1)

    lost_one : memory k ≡ memory h.memory.0 → (move : Move) → (the_way lost t m may middle h heals o now number).move ≡ move → MoveIs (memory_count t.shape) h.memory.0 t.owners move → HandsOver (sides_of t) h.memory.0 move m.body → ((receiver : Place) (what : Body) → move ≡ Asks receiver what → ⊥) → ((pid : Pid) (region : RegionNo) → move ≡ HandsPages pid region → ⊥) → Middle lost (memory_handles (taken t) k m (Some s))
    lost_one e move is of hands no_ask no_page =
        let same : k ≡ h.memory.0 = memory_same k h.memory.0 e in
        subst (λ (j : ℕ). Middle lost (memory_handles (taken t) j m (Some s))) (sym same) (handed_comes lost t m may middle h heals o now number s (to ∙ e) (ap (slice_get t.mems) (sym same) ∙ at) move is of hands no_ask no_page)

    pub at_memory : Middle lost (memory_handles (taken t) k m (Some s))
    at_memory = by (the_way lost t m may middle h heals o now number).move refl (the_way lost t m may middle h heals o now number).of (subst (HandsOver (sides_of t) h.memory.0 (the_way lost t m may middle h heals o now number).move) (sym its.2) (the_way lost t m may middle h heals o now number).fits.hands) (sym to ∙ its.1 ∙ (the_way lost t m may middle h heals o now number).fits.receiver)
      where
        no_ask : (move : Move) (receiver : Place) (what : Body) → IsGiven move → move ≡ Asks receiver what → ⊥
        no_ask move receiver what given e = subst IsGiven e given

        no_page : (move : Move) (pid : Pid) (region : RegionNo) → IsGiven move → move ≡ HandsPages pid region → ⊥
        no_page move pid region given e = subst IsGiven e given

        by : (move : Move) → (the_way lost t m may middle h heals o now number).move ≡ move → MoveIs (memory_count t.shape) h.memory.0 t.owners move → HandsOver (sides_of t) h.memory.0 move m.body → memory k ≡ (ask_of move None).to → Middle lost (memory_handles (taken t) k m (Some s))
        by (Asks receiver what) is of hands there = asked_comes lost t m may middle h heals o now number k s to at (up_if (other of)) receiver what is
          where
            other : AskIs (memory_count t.shape) h.memory.0 t.owners receiver what → h.memory.0 ≡ k → ⊥
            other (OfLog e at_) = second_other (there ∙ at_)
            other (OfSpare who e at_) = second_other (there ∙ at_)
            other (OfMain who e at_) = guarded_other (there ∙ at_)
            other (OfImages pid region e at_ mine) = absurd (memory_no_storage k (there ∙ at_))
            other (OfPages pid region e at_ mine) = guarded_other (there ∙ at_)
        by (HandsMeta receiver role) is of hands there = lost_one (there ∙ of) (HandsMeta receiver role) is of hands (λ r what. no_ask (HandsMeta receiver role) r what tt) (λ pid region. no_page (HandsMeta receiver role) pid region tt)
        by (HandsImages receiver pid region) is of hands there = lost_one (there ∙ of.0) (HandsImages receiver pid region) is of hands (λ r what. no_ask (HandsImages receiver pid region) r what tt) (λ p r. no_page (HandsImages receiver pid region) p r tt)
        by (HandsPages pid region) is of hands there = absurd (memory_no_storage k there)

  memory_move_comes : (k : ℕ) → m.to ≡ memory k → Middle lost (memory_handles (taken t) k m (slice_get t.mems k))
  memory_move_comes k to =
      let there = here in
      subst (λ (x : Option Mem). Middle lost (memory_handles (taken t) k m x)) (sym there.1) (at_memory k there.0 to there.1)
    where
      here : (s : Mem) × (slice_get t.mems k ≡ Some s)
      here =
          let below : k < memory_count t.shape = subst (IsPlace (memory_count t.shape)) to (its_kind lost t m may middle h heals o now number).to in
          let count = middle.count in
          get_within t.mems k (omega (arith, below, count))

  pub move_comes : Middle lost (comes (taken t) m m.to)
  move_comes = by m.to refl
    where
      by : (to : Place) → m.to ≡ to → Middle lost (comes (taken t) m to)
      by (Processor cpu) is = manager_comes lost t m may middle h heals o now number (ap is_issuer is)
      by (Memory number_) is = memory_move_comes number_.0 is
      by Storage is = storage_move_comes lost t m may middle h heals o now number is
      by Manager is = manager_comes lost t m may middle h heals o now number (ap is_issuer is)

pub deliveries-keep : DeliveriesKeep
deliveries-keep lost t m may middle = by t.healing refl
  where
    beside : IsNot (healing_move t.healing) m.op.0 → Middle lost (comes (taken t) m m.to)
    beside none = deliveries-beside lost t m may none middle

    by : (g : Option Healing) → t.healing ≡ g → Middle lost (comes (taken t) m m.to)
    by None is = beside (subst (λ (g : Option Healing). IsNot (healing_move g) m.op.0) (sym is) tt)
    by (Some h) is = under h.current refl
      where
        under : (move : Option Open) → h.current ≡ move → Middle lost (comes (taken t) m m.to)
        under None now = beside (subst (λ (q : Option Open). IsNot q m.op.0) (sym (ap healing_move is ∙ now)) tt)
        under (Some o) now = elim (eqb_tells m.op.0 o.number.0) [
          | inl same ↦ move_comes lost t m may middle h is o now same.1
          | inr differ ↦ beside (subst (λ (q : Option Open). IsNot q m.op.0) (sym (ap healing_move is ∙ now)) differ.0)
        ]
