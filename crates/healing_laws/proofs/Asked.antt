-- The move's questions to memories that are up: what they answer is old or new.
use Rattle.std.proofs.Common.{◌≡◌, ◌/◌, ◌<◌, [], ◌∷◌, ◌∙◌, ℕ, List, None, Option, Some, ap, false, refl, slice_get, subst, sym}
use Rattle.std.specs.Prelude.{slice_set}
use Rattle.lego_msg.proofs.Senders.{get_set}
use Rattle.lego_msg.specs.Deliveries.{MayDeliver, memory_handles, taken}
use Rattle.lego_msg.specs.Healing.{ask_of}
use Rattle.lego_msg.specs.Maps.{page_in, pages_of}
use Rattle.lego_msg.specs.Places.{guarded_by, is_issuer, memory, secondary_of}
use Rattle.lego_msg.specs.State.{Block, Mem}
use Rattle.lego_msg.specs.Table.{handled_body}
use Rattle.lego_msg.specs.Track.{Track, memory_count}
use Rattle.lego_msg.specs.declared.body.Body.{Body}
use Rattle.lego_msg.specs.declared.healing.Healing.{Healing}
use Rattle.lego_msg.specs.declared.healing.Move.{Move}
use Rattle.lego_msg.specs.declared.healing.Move.TheVariants.{Asks}
use Rattle.lego_msg.specs.declared.message.Message.{Message}
use Rattle.lego_msg.specs.declared.operation.Open.{Open}
use Rattle.lego_msg.specs.declared.operation.Operation.TheVariants.{Heals}
use Rattle.lego_msg.specs.declared.place.Place.{Place}
use Rattle.lego_rest.specs.Heals.{HandsOver, HasDone, MetaFits, MoveGot, scene_of}
use Rattle.lego_rest.specs.Fits.{changes_block}
use Rattle.lego_rest.specs.Parts.{Areas, Cell, Home, IsEither, Page, second_part, sides_of}
use Rattle.lego_rest.specs.Pending.{IsUp}
use Rattle.lego_rest.specs.Rest.{Middle}
use Rattle.rest_laws.proofs.Meeting.{memory_same}
use Rattle.healing_laws.proofs.AskRows.{drain_comes, drained_if, it_answers}
use Rattle.healing_laws.proofs.Beside.{lost_below, memory_no_storage}
use Rattle.healing_laws.proofs.Handed.{pages_taken}
use Rattle.healing_laws.proofs.MovesAre.{AskIs, MoveIs, OfImages, OfLog, OfMain, OfPages, OfSpare}
use Rattle.healing_laws.proofs.MoveSteps.{heal_goes_on, heal_holds, its_message, the_way}
use Rattle.healing_laws.proofs.Onward.{in_scene}
use Rattle.lego_msg.specs.declared.body.Body.TheVariants as body
use Rattle.lego_msg.specs.declared.place.Place.TheVariants as place

module _ (lost : Option ℕ) (t : Track) (m : Message) (may : MayDeliver t m) (middle : Middle lost t) (h : Healing) (heals : t.healing ≡ Some h) (o : Open) (now : h.current ≡ Some o) (number : m.op.0 ≡ o.number.0) (k : ℕ) (s : Mem) (to : m.to ≡ memory k) (at : slice_get t.mems k ≡ Some s) (up : IsUp lost k)
    (receiver : Place) (what : Body) (is : (the_way lost t m may middle h heals o now number).move ≡ Asks receiver what) where
  asked : AskIs (memory_count t.shape) h.memory.0 t.owners receiver what
  asked = subst (MoveIs (memory_count t.shape) h.memory.0 t.owners) is (the_way lost t m may middle h heals o now number).of

  its : (m.from ≡ place.Manager) × (m.to ≡ (the_way lost t m may middle h heals o now number).fits.to) × (m.body ≡ (the_way lost t m may middle h heals o now number).fits.told)
  its = its_message lost t m may middle h heals o now number (ap is_issuer to)

  told_is : (the_way lost t m may middle h heals o now number).fits.told ≡ what
  told_is = subst (λ (move : Move). HandsOver (sides_of t) h.memory.0 move (the_way lost t m may middle h heals o now number).fits.told) is (the_way lost t m may middle h heals o now number).fits.hands

  body_is : m.body ≡ what
  body_is = its.2 ∙ told_is

  here : memory k ≡ receiver
  here = sym to ∙ its.1 ∙ (the_way lost t m may middle h heals o now number).fits.receiver ∙ ap (λ (move : Move). (ask_of move None).to) is

  below : h.memory.0 < memory_count t.shape
  below = lost_below lost t h (heal_goes_on lost t m may middle h heals o now number) middle heals

  second_either : k ≡ secondary_of (memory_count t.shape) h.memory.0 → (cell : Cell) → IsEither (sides_of t) h.memory.0 cell (second_part t.owners t.disk.images h.memory.0 s cell)
  second_either at_second cell = (middle.seconds h.memory.0 s below (subst (IsUp lost) at_second up) (ap (slice_get t.mems) (sym at_second) ∙ at)).part.either cell

  -- it answers, and nothing more is asked of a question
  tells : (told : Body) → (handled_body s m what ≡ (s, record { from = memory s.id; to = m.from; op = m.op; body = told } ∷ [])) → ((b : Block) → changes_block b told ≡ false) → MoveGot (in_scene (scene_of t) (slice_set t.mems k s) t.disk.images) h.memory.0 (Asks receiver what) told → HasDone (in_scene (scene_of t) (slice_set t.mems k s) t.disk.images) h.memory.0 (heal_holds lost t m may middle h heals o now number).stands.x (Asks receiver what) →
      Middle lost (record (taken t) { mems = slice_set t.mems k (handled_body s m what).0; owed = (handled_body s m what).1 })
  tells told row still got did = subst (λ (p : Mem × List Message). Middle lost (record (taken t) { mems = slice_set t.mems k p.0; owed = p.1 })) (sym row)
      (it_answers lost t m may middle h heals o now number k s to at up told still (subst (λ (move : Move). MoveGot (in_scene (scene_of t) (slice_set t.mems k s) t.disk.images) h.memory.0 move told) (sym is) got) (subst (HasDone (in_scene (scene_of t) (slice_set t.mems k s) t.disk.images) h.memory.0 (heal_holds lost t m may middle h heals o now number).stands.x) (sym is) did))

  abbrev Comes : Body → Type 0
  Comes told = Middle lost (record (taken t) { mems = slice_set t.mems k (handled_body s m told).0; owed = (handled_body s m told).1 })

  pub asked_comes : Middle lost (memory_handles (taken t) k m (Some s))
  asked_comes = subst Comes (sym body_is) (by asked)
    where
      main_fits : k ≡ guarded_by (memory_count t.shape) h.memory.0 → MetaFits (sides_of t) (guarded_by (memory_count t.shape) h.memory.0) s.main
      main_fits same = subst (λ (j : ℕ). MetaFits (sides_of t) j s.main) same (record { form = (middle.forms k s at).main; homes = λ pid region. (middle.memories k s up at).part.either (Home pid region); areas = λ pid region. (middle.memories k s up at).part.either (Areas pid region) })

      by : AskIs (memory_count t.shape) h.memory.0 t.owners receiver what → Comes what
      by (OfLog e there) = subst Comes (sym e) (drain_comes lost t m may middle h heals o now number k s to at up drains now_empty)
        where
          here_is : k ≡ secondary_of (memory_count t.shape) h.memory.0
          here_is = memory_same k (secondary_of (memory_count t.shape) h.memory.0) (here ∙ there)

          drains : o.operation ≡ Heals (memory k) body.Drain
          drains = (the_way lost t m may middle h heals o now number).fits.is ∙ (λ i. Heals ((sym its.1 ∙ to) i) ((told_is ∙ e) i))

          move_is : (the_way lost t m may middle h heals o now number).move ≡ Asks receiver body.Drain
          move_is = is ∙ ap (Asks receiver) e

          now_empty : s.log ≡ [] → MoveGot (in_scene (scene_of t) (slice_set t.mems k s) t.disk.images) h.memory.0 (the_way lost t m may middle h heals o now number).move body.Drained × HasDone (in_scene (scene_of t) (slice_set t.mems k s) t.disk.images) h.memory.0 (heal_holds lost t m may middle h heals o now number).stands.x (the_way lost t m may middle h heals o now number).move
          now_empty empty =
              let drained = drained_if t (slice_set t.mems k s) h.memory.0 s (ap (slice_get (slice_set t.mems k s)) (sym here_is) ∙ get_set t.mems k s s at) empty (λ pid vpn. second_either here_is (Page pid vpn)) in
              (subst (λ (move : Move). MoveGot (in_scene (scene_of t) (slice_set t.mems k s) t.disk.images) h.memory.0 move body.Drained) (sym move_is) (refl, drained), subst (HasDone (in_scene (scene_of t) (slice_set t.mems k s) t.disk.images) h.memory.0 (heal_holds lost t m may middle h heals o now number).stands.x) (sym move_is) drained)
      by (OfSpare who e there) = tells (body.Meta s.spare.homes s.spare.areas) (ap (handled_body s m) e) (λ b. refl) (subst (λ (b : Body). MoveGot (in_scene (scene_of t) (slice_set t.mems k s) t.disk.images) h.memory.0 (Asks receiver b) (body.Meta s.spare.homes s.spare.areas)) (sym e) (s.spare, refl, spare_fits)) (subst (λ (b : Body). HasDone (in_scene (scene_of t) (slice_set t.mems k s) t.disk.images) h.memory.0 (heal_holds lost t m may middle h heals o now number).stands.x (Asks receiver b)) (sym e) tt)
        where
          here_is : k ≡ secondary_of (memory_count t.shape) h.memory.0
          here_is = memory_same k (secondary_of (memory_count t.shape) h.memory.0) (here ∙ there)

          spare_fits : MetaFits (sides_of t) h.memory.0 s.spare
          spare_fits = record { form = (middle.forms k s at).spare; homes = λ pid region. second_either here_is (Home pid region); areas = λ pid region. second_either here_is (Areas pid region) }
      by (OfMain who e there) = tells (body.Meta s.main.homes s.main.areas) (ap (handled_body s m) e) (λ b. refl) (subst (λ (b : Body). MoveGot (in_scene (scene_of t) (slice_set t.mems k s) t.disk.images) h.memory.0 (Asks receiver b) (body.Meta s.main.homes s.main.areas)) (sym e) (s.main, refl, main_fits (memory_same k (guarded_by (memory_count t.shape) h.memory.0) (here ∙ there)))) (subst (λ (b : Body). HasDone (in_scene (scene_of t) (slice_set t.mems k s) t.disk.images) h.memory.0 (heal_holds lost t m may middle h heals o now number).stands.x (Asks receiver b)) (sym e) tt)
      by (OfImages pid region e there mine) = absurd (memory_no_storage k (here ∙ there))
      by (OfPages pid region e there mine) = tells (body.Images (pages_of pid.0 region.0 s.pages)) (ap (handled_body s m) e) (λ b. refl) (subst (λ (b : Body). MoveGot (in_scene (scene_of t) (slice_set t.mems k s) t.disk.images) h.memory.0 (Asks receiver b) (body.Images (pages_of pid.0 region.0 s.pages))) (sym e) (pages_of pid.0 region.0 s.pages, refl, pages_taken (sides_of t) (guarded_by (memory_count t.shape) h.memory.0) pid region s.pages (middle.forms k s at).pages either)) (subst (λ (b : Body). HasDone (in_scene (scene_of t) (slice_set t.mems k s) t.disk.images) h.memory.0 (heal_holds lost t m may middle h heals o now number).stands.x (Asks receiver b)) (sym e) tt)
        where
          either : (vpn : ℕ) → vpn / 512 ≡ region.0 → IsEither (sides_of t) (guarded_by (memory_count t.shape) h.memory.0) (Page pid.0 vpn) (page_in s.pages pid.0 vpn)
          either vpn of = subst (λ (j : ℕ). IsEither (sides_of t) j (Page pid.0 vpn) (page_in s.pages pid.0 vpn)) (memory_same k (guarded_by (memory_count t.shape) h.memory.0) (here ∙ there)) ((middle.memories k s up at).part.either (Page pid.0 vpn))
