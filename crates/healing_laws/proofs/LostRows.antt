-- The memory that is healed gets what its moves hand over.
use Rattle.std.proofs.Common.{◌≡◌, ◌+◌, ◌/◌, ◌<◌, ◌==◌, ◌&&◌, ◌||◌, [], ◌∷◌, ◌++◌, ◌∙◌, ℕ, Bool, List, None, Option, Some, ap, arith, cond, false, inl, inr, leb, length, ltb, not, refl, slice_get, subst, sym, true}
use Rattle.std.proofs.lemmas.Bool.{eq-eqb, eqb-true, leb-true}
use Rattle.std.specs.List.{AllByRecursion}
use Rattle.std.specs.Prelude.{slice_set}
use Rattle.lego_base.specs.Keys.{is_page_of, key_at}
use Rattle.lego_base.specs.declared.ids.Pid.{Pid}
use Rattle.lego_base.specs.declared.ids.RegionNo.{RegionNo}
use Rattle.lego_base.specs.declared.records.PageImage.{PageImage}
use Rattle.lego_base.specs.declared.records.Patch.{Patch}
use Rattle.lego_msg.proofs.Senders.{get_set, get_set_other, same_some}
use Rattle.lego_msg.specs.Deliveries.{MayDeliver, memory_handles, stops, taken}
use Rattle.lego_msg.specs.Maps.{page_in, with_all_areas, with_pages}
use Rattle.lego_msg.specs.Places.{guarded_by, is_issuer, memory, same_place, secondary_of}
use Rattle.lego_msg.specs.State.{Block, Kept, Mem}
use Rattle.lego_msg.specs.Table.{answers, handled_body, reply}
use Rattle.lego_msg.specs.Track.{Track, healing_move, memory_count}
use Rattle.lego_msg.specs.declared.body.Body.{Body}
use Rattle.lego_msg.specs.declared.healing.Healing.{Healing}
use Rattle.lego_msg.specs.declared.healing.Move.{Move}
use Rattle.lego_msg.specs.declared.healing.Move.TheVariants.{Asks, HandsImages, HandsMeta, HandsPages}
use Rattle.lego_msg.specs.declared.message.Message.{Message}
use Rattle.lego_msg.specs.declared.operation.Open.{Open}
use Rattle.lego_msg.specs.declared.place.Place.{Place}
use Rattle.lego_msg.specs.declared.place.Role.TheVariants.{Main, Spare}
use Rattle.lego_rest.specs.Answers.{all_pending}
use Rattle.lego_rest.specs.Fits.{MemFits, WaiterFits, background, changes_block}
use Rattle.lego_rest.specs.Heals.{HandsOver, HasDone, MetaFits, MoveGot, PagesHanded, RegionFits, count_drains, count_number, count_waiting, is_undone, scene_of}
use Rattle.lego_rest.specs.Parts.{IsEither, Page, new_share, old_share, sides_of}
use Rattle.lego_rest.specs.Pending.{IsPlace, IsUp}
use Rattle.lego_rest.specs.Rest.{Middle}
use Rattle.rest_laws.proofs.Around.{secondaries-differ}
use Rattle.rest_laws.proofs.Bare.{get_below}
use Rattle.rest_laws.proofs.Delivered.{ClearOf, MemoryRow, given_keeps, left_all, left_of}
use Rattle.rest_laws.proofs.Taken.{background_more, batches_same}
use Rattle.rest_laws.proofs.Truth.{both_true}
use Rattle.healing_laws.proofs.AskRows.{clear_of_log}
use Rattle.healing_laws.proofs.Beside.{lost_at, lost_below}
use Rattle.healing_laws.proofs.Handed.{fit_with, meta_put, others_with, region_fits}
use Rattle.healing_laws.proofs.Leaves.{set_drains}
use Rattle.healing_laws.proofs.MovesAre.{MoveIs}
use Rattle.healing_laws.proofs.MoveSteps.{answer_pends, heal_goes_on, heal_holds, heal_step, its_message, none_wait, not_current, the_way}
use Rattle.healing_laws.proofs.Onward.{ScenesAgree, done_kept, in_scene}
use Rattle.lego_base.specs.Keys.{put_all}
use Rattle.lego_msg.specs.Maps.{home_key}
use Rattle.lego_msg.specs.declared.body.Body.TheVariants as body
use Rattle.lego_msg.specs.declared.place.Place.TheVariants as place
use Rattle.lego_msg.specs.declared.place.Why.TheVariants as why

module _ (lost : Option ℕ) (t : Track) (m : Message) (may : MayDeliver t m) (middle : Middle lost t) (h : Healing) (heals : t.healing ≡ Some h) (o : Open) (now : h.current ≡ Some o) (number : m.op.0 ≡ o.number.0) (x : Mem) (to : m.to ≡ memory h.memory.0) (at : slice_get t.mems h.memory.0 ≡ Some x) where
  its : (m.from ≡ place.Manager) × (m.to ≡ (the_way lost t m may middle h heals o now number).fits.to) × (m.body ≡ (the_way lost t m may middle h heals o now number).fits.told)
  its = its_message lost t m may middle h heals o now number (ap is_issuer to)

  was : MemFits t.shape h.memory.0 x
  was = middle.forms h.memory.0 x at

  -- it is what its healing speaks of
  it : (heal_holds lost t m may middle h heals o now number).stands.x ≡ x
  it = same_some (heal_holds lost t m may middle h heals o now number).stands.x x (sym (heal_holds lost t m may middle h heals o now number).stands.at ∙ at)

  id : memory x.id ≡ memory h.memory.0
  id = ap memory was.id

  some : 0 < m.op.0
  some = subst (λ (n : ℕ). 0 < n) (sym number) (the_way lost t m may middle h heals o now number).fits.some

  there : IsPlace (memory_count t.shape) (memory x.id)
  there = let inside = get_below t.mems h.memory.0 x at in let count = middle.count in let same = was.id in omega (arith, inside, count, same)

  below : h.memory.0 < memory_count t.shape
  below = lost_below lost t h (heal_goes_on lost t m may middle h heals o now number) middle heals

  not_up : IsUp lost h.memory.0 → ⊥
  not_up up = subst (λ (l : Option ℕ). IsUp l h.memory.0) (lost_at lost t h middle heals) up refl

  left_more : (r : Message) → 0 < r.op.0 → (j : ℕ) → background j (left_of t ++ r ∷ []) ≡ background j (all_pending t)
  left_more r r_some j = background_more (left_of t) r r_some j ∙ ap (background j) (left_all t m may) ∙ batches_same t m may some j

  -- THE ROW: the memory is x' and answers
  lost_comes : (x' : Mem) (told : Body) → MemFits t.shape h.memory.0 x' → x'.log ≡ x.log → x'.out ≡ x.out → x'.drains ≡ x.drains → x'.blocks ≡ x.blocks → ((b : Block) → changes_block b told ≡ false) →
      ((move : Move) → MoveIs (memory_count t.shape) h.memory.0 t.owners move → HasDone (scene_of t) h.memory.0 x move → HasDone (scene_of t) h.memory.0 x' move) →
      ((pid vpn : ℕ) → old_share (sides_of t) h.memory.0 (Page pid vpn) ≡ None → new_share (sides_of t) h.memory.0 (Page pid vpn) ≡ None → page_in x'.pages pid vpn ≡ None) →
      MoveGot (in_scene (scene_of t) (slice_set t.mems h.memory.0 x') t.disk.images) h.memory.0 (the_way lost t m may middle h heals o now number).move told →
      (stops told ≡ false → HasDone (scene_of t) h.memory.0 x' (the_way lost t m may middle h heals o now number).move) →
      Middle lost (record (taken t) { mems = slice_set t.mems h.memory.0 x'; owed = reply (memory x.id) m told ∷ [] })
  lost_comes x' told fits log out drains blocks still has pages got did = given_keeps lost t h.memory.0 x x' m (reply (memory x.id) m told ∷ []) may to at middle row
      (heal_step lost t m may middle h heals o now number (slice_set t.mems h.memory.0 x') t.disk (reply (memory x.id) m told ∷ []) x' (get_set t.mems h.memory.0 x x' at)
      (log ∙ ap (λ (y : Mem). y.log) (sym it) ∙ (heal_holds lost t m may middle h heals o now number).stands.log) (out ∙ ap (λ (y : Mem). y.out) (sym it) ∙ (heal_holds lost t m may middle h heals o now number).stands.out) (drains ∙ ap (λ (y : Mem). y.drains) (sym it) ∙ (heal_holds lost t m may middle h heals o now number).stands.drains) (blocks ∙ ap (λ (y : Mem). y.blocks) (sym it) ∙ (heal_holds lost t m may middle h heals o now number).stands.blocks)
      agree (λ move of done. later x' move of (has move of (subst (λ (y : Mem). HasDone (scene_of t) h.memory.0 y move) it done))) (left_more (reply (memory x.id) m told) some h.memory.0) pages
      (not_current lost t m may middle h heals o now number m.op.0 number, tt) counted ((λ same to_manager. (id ∙ sym to ∙ its.1, got)), tt) (λ e. later x' (the_way lost t m may middle h heals o now number).move (the_way lost t m may middle h heals o now number).of (did (stops_not (stops told) refl e))))
    where
      second_differs : h.memory.0 ≡ secondary_of (memory_count t.shape) h.memory.0 → ⊥
      second_differs same = (secondaries-differ (memory_count t.shape) h.memory.0 h.memory.0 middle.machine.two below below).0 (sym same)

      agree : ScenesAgree (scene_of t) (slice_set t.mems h.memory.0 x') t.disk.images h.memory.0
      agree = record {
        drained = λ drained. (λ y is. drained.0 y (sym (get_set_other t.mems h.memory.0 (secondary_of (memory_count t.shape) h.memory.0) x' second_differs) ∙ is), drained.1);
        anew = λ pid vpn mine either. either;
      }

      later : (y : Mem) (move : Move) → MoveIs (memory_count t.shape) h.memory.0 t.owners move → HasDone (scene_of t) h.memory.0 y move → HasDone (in_scene (scene_of t) (slice_set t.mems h.memory.0 x') t.disk.images) h.memory.0 y move
      later y = done_kept (scene_of t) (slice_set t.mems h.memory.0 x') t.disk.images h.memory.0 agree y

      set_ : count_drains o.number.0 (slice_set t.mems h.memory.0 x') + count_waiting o.number.0 x.drains ≡ count_drains o.number.0 t.mems + count_waiting o.number.0 x'.drains
      set_ = set_drains o.number.0 t.mems h.memory.0 x x' at

      same_waiting : count_waiting o.number.0 x'.drains ≡ count_waiting o.number.0 x.drains
      same_waiting = ap (count_waiting o.number.0) drains

      counted : count_number o.number.0 (reply (memory x.id) m told ∷ []) + count_drains o.number.0 (slice_set t.mems h.memory.0 x') ≡ 1
      counted = let zero_ = none_wait lost t m may middle h heals o now number in let one : cond (m.op.0 == o.number.0) 1 0 ≡ 1 = ap (λ (b : Bool). cond b 1 0) (eq-eqb m.op.0 o.number.0 number) in by (cond (m.op.0 == o.number.0) 1 0) one zero_
        where
          by : (one : ℕ) → one ≡ 1 → count_drains o.number.0 t.mems ≡ 0 → (one + 0) + count_drains o.number.0 (slice_set t.mems h.memory.0 x') ≡ 1
          by one e zero_ = omega (arith, e, zero_, set_, same_waiting)

      -- a refusal leaves the move undone
      stops_not : (b : Bool) → stops told ≡ b → is_undone o.number.0 (reply (memory x.id) m told ∷ []) (slice_set t.mems h.memory.0 x') ≡ false → b ≡ false
      stops_not false e undone = refl
      stops_not true e undone = by (m.op.0 == o.number.0) (same_place m.from place.Manager) (stops told) (ltb 0 (count_drains o.number.0 (slice_set t.mems h.memory.0 x'))) (eq-eqb m.op.0 o.number.0 number) e undone
        where
          by : (a b s d : Bool) → a ≡ true → s ≡ true → (((a && (not b || s)) || false) || d) ≡ false → true ≡ false
          by true true true d e f g = g
          by true false true d e f g = g
          by true b false d e f g = cc f
          by false b s d e f g = cc e

      row : MemoryRow lost t h.memory.0 x x' (reply (memory x.id) m told ∷ [])
      row = record {
        fits = fits;
        waiting = subst (AllByRecursion (WaiterFits (memory_count t.shape) h.memory.0 t.next t.current (healing_move t.healing))) (sym drains) (middle.waiting h.memory.0 x at);
        clear = subst (λ (l : List Patch). ClearOf t.current l) (sym log) (clear_of_log t h.memory.0 x at t.current middle.current);
        sends = (answer_pends lost t m may middle h heals o now number (reply (memory x.id) m told) refl its.0 (id ∙ sym to ∙ its.1) there, tt);
        from = (id, tt);
        given = λ up. absurd (not_up up);
        others = λ j other. left_more (reply (memory x.id) m told) some j;
        changes = λ b other. ap (λ (y : Bool). y || false) (still b);
      }

  abbrev Comes : Body → Type 0
  Comes told = Middle lost (record (taken t) { mems = slice_set t.mems h.memory.0 (handled_body x m told).0; owed = (handled_body x m told).1 })

  -- OWNERS AND AREAS
  module _ (k : Kept) where
    abbrev new : Kept
    new = record { homes = put_all home_key k.homes []; areas = with_all_areas k.areas [] }

    main_comes : MetaFits (sides_of t) h.memory.0 k → (receiver : Place) → (the_way lost t m may middle h heals o now number).move ≡ HandsMeta receiver Main → Comes (body.PushMeta Main k.homes k.areas)
    main_comes fit receiver is = lost_comes (record x { main = new }) body.Done (record {
      id = was.id;
      log_room = was.log_room;
      cache_room = was.cache_room;
      machine = was.machine;
      main = new_fits.form;
      spare = was.spare;
      pages = was.pages;
      frames = was.frames;
      log = was.log;
      room = was.room;
    }) refl refl refl refl (λ b. refl) has (subst (λ (y : Mem). (pid vpn : ℕ) → old_share (sides_of t) h.memory.0 (Page pid vpn) ≡ None → new_share (sides_of t) h.memory.0 (Page pid vpn) ≡ None → page_in y.pages pid vpn ≡ None) it (heal_holds lost t m may middle h heals o now number).pages)
        (subst (λ (move : Move). MoveGot (in_scene (scene_of t) (slice_set t.mems h.memory.0 (record x { main = new })) t.disk.images) h.memory.0 move body.Done) (sym is) refl) (λ goes. subst (HasDone (scene_of t) h.memory.0 (record x { main = new })) (sym is) new_fits)
      where
        new_fits : MetaFits (sides_of t) h.memory.0 new
        new_fits = meta_put (sides_of t) h.memory.0 k fit

        has : (move : Move) → MoveIs (memory_count t.shape) h.memory.0 t.owners move → HasDone (scene_of t) h.memory.0 x move → HasDone (scene_of t) h.memory.0 (record x { main = new }) move
        has (Asks to_ what) of did = did
        has (HandsMeta to_ Main) of did = new_fits
        has (HandsMeta to_ Spare) of did = did
        has (HandsImages to_ pid region) of did = did
        has (HandsPages pid region) of did = did

    spare_comes : MetaFits (sides_of t) (guarded_by (memory_count t.shape) h.memory.0) k → (receiver : Place) → (the_way lost t m may middle h heals o now number).move ≡ HandsMeta receiver Spare → Comes (body.PushMeta Spare k.homes k.areas)
    spare_comes fit receiver is = lost_comes (record x { spare = new }) body.Done (record {
      id = was.id;
      log_room = was.log_room;
      cache_room = was.cache_room;
      machine = was.machine;
      main = was.main;
      spare = new_fits.form;
      pages = was.pages;
      frames = was.frames;
      log = was.log;
      room = was.room;
    }) refl refl refl refl (λ b. refl) has (subst (λ (y : Mem). (pid vpn : ℕ) → old_share (sides_of t) h.memory.0 (Page pid vpn) ≡ None → new_share (sides_of t) h.memory.0 (Page pid vpn) ≡ None → page_in y.pages pid vpn ≡ None) it (heal_holds lost t m may middle h heals o now number).pages)
        (subst (λ (move : Move). MoveGot (in_scene (scene_of t) (slice_set t.mems h.memory.0 (record x { spare = new })) t.disk.images) h.memory.0 move body.Done) (sym is) refl) (λ goes. subst (HasDone (scene_of t) h.memory.0 (record x { spare = new })) (sym is) new_fits)
      where
        new_fits : MetaFits (sides_of t) (guarded_by (memory_count t.shape) h.memory.0) new
        new_fits = meta_put (sides_of t) (guarded_by (memory_count t.shape) h.memory.0) k fit

        has : (move : Move) → MoveIs (memory_count t.shape) h.memory.0 t.owners move → HasDone (scene_of t) h.memory.0 x move → HasDone (scene_of t) h.memory.0 (record x { spare = new }) move
        has (Asks to_ what) of did = did
        has (HandsMeta to_ Main) of did = did
        has (HandsMeta to_ Spare) of did = new_fits
        has (HandsImages to_ pid region) of did = did
        has (HandsPages pid region) of did = did

  -- PAGES OF A REGION
  module _ (pid : Pid) (region : RegionNo) (pages : List PageImage) (handed : PagesHanded (sides_of t) h.memory.0 pid.0 region.0 pages) (receiver : Place) (is : (the_way lost t m may middle h heals o now number).move ≡ HandsImages receiver pid region) where
    abbrev filled : Mem
    filled = record x { pages = with_pages pid.0 region.0 pages x.pages }

    old_pages : (p vpn : ℕ) → old_share (sides_of t) h.memory.0 (Page p vpn) ≡ None → new_share (sides_of t) h.memory.0 (Page p vpn) ≡ None → page_in x.pages p vpn ≡ None
    old_pages = subst (λ (y : Mem). (pid vpn : ℕ) → old_share (sides_of t) h.memory.0 (Page pid vpn) ≡ None → new_share (sides_of t) h.memory.0 (Page pid vpn) ≡ None → page_in y.pages pid vpn ≡ None) it (heal_holds lost t m may middle h heals o now number).pages

    -- inside the region what was handed over, outside it what was there
    inside : (p vpn : ℕ) → is_page_of pid.0 region.0 (key_at p vpn) ≡ true → IsEither (sides_of t) h.memory.0 (Page p vpn) (page_in (with_pages pid.0 region.0 pages x.pages) p vpn)
    inside p vpn e =
        let both = both_true (p == pid.0) (vpn / 512 == region.0) e in
        subst (λ (q : ℕ). IsEither (sides_of t) h.memory.0 (Page q vpn) (page_in (with_pages pid.0 region.0 pages x.pages) q vpn)) (sym (eqb-true p pid.0 both.0)) (region_fits (sides_of t) h.memory.0 pid region pages x.pages handed vpn (eqb-true (vpn / 512) region.0 both.1))

    pub new_pages : (p vpn : ℕ) → old_share (sides_of t) h.memory.0 (Page p vpn) ≡ None → new_share (sides_of t) h.memory.0 (Page p vpn) ≡ None → page_in (with_pages pid.0 region.0 pages x.pages) p vpn ≡ None
    new_pages p vpn old new_ = by (is_page_of pid.0 region.0 (key_at p vpn)) refl
      where
        either : IsEither (sides_of t) h.memory.0 (Page p vpn) (page_in (with_pages pid.0 region.0 pages x.pages) p vpn) → page_in (with_pages pid.0 region.0 pages x.pages) p vpn ≡ None
        either (inl e) = e ∙ old
        either (inr e) = e ∙ new_

        by : (b : Bool) → is_page_of pid.0 region.0 (key_at p vpn) ≡ b → page_in (with_pages pid.0 region.0 pages x.pages) p vpn ≡ None
        by true e = either (inside p vpn e)
        by false e = others_with (sides_of t) h.memory.0 pid region pages x.pages handed p vpn e ∙ old_pages p vpn old new_

    region_stays : (p r : ℕ) → RegionFits (sides_of t) h.memory.0 p r x.pages → RegionFits (sides_of t) h.memory.0 p r (with_pages pid.0 region.0 pages x.pages)
    region_stays p r did vpn of = by (is_page_of pid.0 region.0 (key_at p vpn)) refl
      where
        by : (b : Bool) → is_page_of pid.0 region.0 (key_at p vpn) ≡ b → IsEither (sides_of t) h.memory.0 (Page p vpn) (page_in (with_pages pid.0 region.0 pages x.pages) p vpn)
        by true e = inside p vpn e
        by false e = subst (λ (held : Option (List ℕ)). IsEither (sides_of t) h.memory.0 (Page p vpn) held) (sym (others_with (sides_of t) h.memory.0 pid region pages x.pages handed p vpn e)) (did vpn of)

    has : (move : Move) → MoveIs (memory_count t.shape) h.memory.0 t.owners move → HasDone (scene_of t) h.memory.0 x move → HasDone (scene_of t) h.memory.0 filled move
    has (Asks to_ what) of did = did
    has (HandsMeta to_ Main) of did = did
    has (HandsMeta to_ Spare) of did = did
    has (HandsPages p r) of did = did
    has (HandsImages to_ p r) of did = region_stays p.0 r.0 did

    images_come : Comes (body.PushImages pid region pages)
    images_come = by (leb (length (with_pages pid.0 region.0 pages x.pages)) x.frames) refl
      where
        refused_got : MoveGot (in_scene (scene_of t) (slice_set t.mems h.memory.0 x) t.disk.images) h.memory.0 (the_way lost t m may middle h heals o now number).move (body.Refused why.Full)
        refused_got = subst (λ (move : Move). MoveGot (in_scene (scene_of t) (slice_set t.mems h.memory.0 x) t.disk.images) h.memory.0 move (body.Refused why.Full)) (sym is) (inr (inl refl))

        done_got : MoveGot (in_scene (scene_of t) (slice_set t.mems h.memory.0 filled) t.disk.images) h.memory.0 (the_way lost t m may middle h heals o now number).move body.Done
        done_got = subst (λ (move : Move). MoveGot (in_scene (scene_of t) (slice_set t.mems h.memory.0 filled) t.disk.images) h.memory.0 move body.Done) (sym is) (inl refl)

        by : (b : Bool) → leb (length (with_pages pid.0 region.0 pages x.pages)) x.frames ≡ b → Middle lost (record (taken t) { mems = slice_set t.mems h.memory.0 (cond b (answers filled m body.Done) (answers x m (body.Refused why.Full))).0; owed = (cond b (answers filled m body.Done) (answers x m (body.Refused why.Full))).1 })
        by true room = lost_comes filled body.Done (record {
          id = was.id;
          log_room = was.log_room;
          cache_room = was.cache_room;
          machine = was.machine;
          main = was.main;
          spare = was.spare;
          pages = fit_with (sides_of t) h.memory.0 pid region pages x.pages handed was.pages;
          frames = leb-true (length (with_pages pid.0 region.0 pages x.pages)) x.frames room;
          log = was.log;
          room = was.room;
        }) refl refl refl refl (λ b. refl) has new_pages done_got (λ goes. subst (HasDone (scene_of t) h.memory.0 filled) (sym is) (region_fits (sides_of t) h.memory.0 pid region pages x.pages handed))
        by false room = lost_comes x (body.Refused why.Full) was refl refl refl refl (λ b. refl) (λ move of did. did) old_pages refused_got (λ goes. absurd (no_stop goes))
          where
            no_stop : true ≡ false → ⊥
            no_stop e = cc e

  -- WHAT IS HANDED OVER comes
  pub handed_comes : (move : Move) → (the_way lost t m may middle h heals o now number).move ≡ move → MoveIs (memory_count t.shape) h.memory.0 t.owners move → HandsOver (sides_of t) h.memory.0 move m.body → ((receiver : Place) (what : Body) → move ≡ Asks receiver what → ⊥) → ((pid : Pid) (region : RegionNo) → move ≡ HandsPages pid region → ⊥) → Middle lost (memory_handles (taken t) h.memory.0 m (Some x))
  handed_comes (Asks receiver what) is of hands no_ask no_page = absurd (no_ask receiver what refl)
  handed_comes (HandsMeta receiver Main) is of hands no_ask no_page = subst Comes (sym hands.1) (main_comes hands.0 hands.2 receiver is)
  handed_comes (HandsMeta receiver Spare) is of hands no_ask no_page = subst Comes (sym hands.1) (spare_comes hands.0 hands.2 receiver is)
  handed_comes (HandsImages receiver pid region) is of hands no_ask no_page = subst Comes (sym hands.1) (images_come pid region hands.0 hands.2 receiver is)
  handed_comes (HandsPages pid region) is of hands no_ask no_page = absurd (no_page pid region refl)
