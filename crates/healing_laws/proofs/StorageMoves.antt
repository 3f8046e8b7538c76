-- Storage gets the move's message: images of a region are asked for, or become the pages of the memory that c guards.
use Rattle.std.proofs.Common.{◌≡◌, ◌⊎◌, ◌+◌, ◌/◌, ◌<◌, ◌==◌, ◌&&◌, ◌||◌, [], ◌∷◌, ◌++◌, ◌∙◌, ℕ, Bool, List, None, Option, Some, ap, arith, cond, false, inl, inr, not, refl, slice_get, subst, sym, take, true}
use Rattle.std.proofs.lemmas.Bool.{eq-eqb, eqb-true}
use Rattle.std.specs.List.{AllByRecursion, list_any}
use Rattle.lego_base.specs.Keys.{is_page_of, key_at}
use Rattle.lego_base.specs.declared.ids.MemId.{MemId}
use Rattle.lego_base.specs.declared.ids.Pid.{Pid}
use Rattle.lego_base.specs.declared.ids.RegionNo.{RegionNo}
use Rattle.lego_base.specs.declared.records.HomeEntry.{HomeEntry}
use Rattle.lego_base.specs.declared.records.PageImage.{PageImage}
use Rattle.lego_msg.specs.Deliveries.{MayDeliver, stops, taken}
use Rattle.lego_msg.specs.Healing.{ask_of, moves_of}
use Rattle.lego_msg.specs.Maps.{overlaid, owner_of, page_in, pages_of, with_pages}
use Rattle.lego_msg.specs.Places.{guarded_by, is_issuer, memory, same_place, secondary_of}
use Rattle.lego_msg.specs.State.{Block, Mem}
use Rattle.lego_msg.specs.Table.{stored, stored_body}
use Rattle.lego_msg.specs.Track.{Track, memory_count}
use Rattle.lego_msg.specs.declared.body.Body.{Body}
use Rattle.lego_msg.specs.declared.healing.Healing.{Healing}
use Rattle.lego_msg.specs.declared.healing.Move.{Move}
use Rattle.lego_msg.specs.declared.healing.Move.TheVariants.{Asks, HandsImages, HandsMeta, HandsPages}
use Rattle.lego_msg.specs.declared.message.Message.{Message}
use Rattle.lego_msg.specs.declared.operation.Open.{Open}
use Rattle.lego_rest.specs.Answers.{all_pending, asks_storage_by, gave_answer, heals_target, is_storage_true}
use Rattle.lego_rest.specs.Fits.{BatchFits, HasBatch, LogFits, PagesFit, background, batch_message, changes_block, over, receipt}
use Rattle.lego_rest.specs.Heals.{HandsOver, HasDone, IsDrained, MoveGot, PagesHanded, RegionFits, Scene, count_drains, count_number, open_patch, scene_of}
use Rattle.lego_rest.specs.Parts.{IsEither, Page, is_owner, owns, second_part, sides_of}
use Rattle.lego_rest.specs.Pending.{IsNot, IsUp}
use Rattle.lego_rest.specs.Rest.{Middle}
use Rattle.rest_laws.proofs.Around.{guards-its-own, secondaries-differ}
use Rattle.rest_laws.proofs.Delivered.{answers_at, gave_then, left_all, left_of, of_first}
use Rattle.rest_laws.proofs.Filed.{FileRow, filed_keeps}
use Rattle.rest_laws.proofs.Lookup.{page-overlaid}
use Rattle.rest_laws.proofs.Opened.{every}
use Rattle.rest_laws.proofs.Bare.{guarded_is}
use Rattle.rest_laws.proofs.Pages.{touch_cases, untouched}
use Rattle.rest_laws.proofs.Taken.{any_same, background_more, batches_same, changes_less, split}
use Rattle.rest_laws.proofs.Truth.{and_true, both_true}
use Rattle.rest_laws.proofs.kinds.Images.{all_front}
use Rattle.healing_laws.proofs.Beside.{lost_at, lost_below, memory_no_storage}
use Rattle.healing_laws.proofs.Handed.{fit_with, others_with, pages_taken, region_fits}
use Rattle.healing_laws.proofs.MovesAre.{AskIs, MoveIs, OfImages, OfLog, OfMain, OfPages, OfSpare}
use Rattle.healing_laws.proofs.MoveSteps.{answer_pends, answers_none, heal_goes_on, heal_holds, heal_step, its_message, none_wait, not_current, the_way}
use Rattle.healing_laws.proofs.Onward.{ScenesAgree, done_kept, in_scene}
use Rattle.lego_msg.specs.declared.body.Body.TheVariants as body
use Rattle.lego_msg.specs.declared.place.Place.TheVariants as place

-- the drain comes before all other moves
pub drained_before : (n c : ℕ) (owners : List HomeEntry) (w : Scene) (x : Mem) (done ahead : List Move) (move : Move) → done ++ move ∷ ahead ≡ moves_of n c owners → (move ≡ Asks (memory (secondary_of n c)) body.Drain → ⊥) → AllByRecursion (HasDone w c x) done → IsDrained w.sides w.patch w.mems w.images c
drained_before n c owners w x [] ahead move all other did = absurd (other (first move (Asks (memory (secondary_of n c)) body.Drain) ahead _ all))
  where
    first : (a b : Move) (xs ys : List Move) → a ∷ xs ≡ b ∷ ys → a ≡ b
    first a b xs ys e = cc e
drained_before n c owners w x (d ∷ done) ahead move all other did = subst (HasDone w c x) (first d (Asks (memory (secondary_of n c)) body.Drain) (done ++ move ∷ ahead) _ all) did.0
  where
    first : (a b : Move) (xs ys : List Move) → a ∷ xs ≡ b ∷ ys → a ≡ b
    first a b xs ys e = cc e

-- who owns a region, alone does
pub one_owner : (owners : List HomeEntry) (j q pid region : ℕ) → owns owners j pid region ≡ true → owns owners q pid region ≡ true → j ≡ q
one_owner owners j q pid region mine its = by (owner_of owners pid region) mine its
  where
    by : (o : Option MemId) → is_owner j o ≡ true → is_owner q o ≡ true → j ≡ q
    by None e f = cc e
    by (Some o) e f = sym (eqb-true o.0 j e) ∙ eqb-true o.0 q f

module _ (lost : Option ℕ) (t : Track) (m : Message) (may : MayDeliver t m) (middle : Middle lost t) (h : Healing) (heals : t.healing ≡ Some h) (o : Open) (now : h.current ≡ Some o) (number : m.op.0 ≡ o.number.0) (to : m.to ≡ place.Storage) where
  its : (m.from ≡ place.Manager) × (m.to ≡ (the_way lost t m may middle h heals o now number).fits.to) × (m.body ≡ (the_way lost t m may middle h heals o now number).fits.told)
  its = its_message lost t m may middle h heals o now number (ap is_issuer to)

  some : 0 < m.op.0
  some = subst (λ (n : ℕ). 0 < n) (sym number) (the_way lost t m may middle h heals o now number).fits.some

  left_more : (r : Message) → 0 < r.op.0 → (j : ℕ) → background j (left_of t ++ r ∷ []) ≡ background j (all_pending t)
  left_more r r_some j = background_more (left_of t) r r_some j ∙ ap (background j) (left_all t m may) ∙ batches_same t m may some j

  below : h.memory.0 < memory_count t.shape
  below = lost_below lost t h (heal_goes_on lost t m may middle h heals o now number) middle heals

  -- the memory that c guards
  own : (guarded_by (memory_count t.shape) h.memory.0 < memory_count t.shape) × (secondary_of (memory_count t.shape) (guarded_by (memory_count t.shape) h.memory.0) ≡ h.memory.0)
  own = guards-its-own (memory_count t.shape) h.memory.0 middle.machine.two below

  not_up : IsUp lost h.memory.0 → ⊥
  not_up up = subst (λ (l : Option ℕ). IsUp l h.memory.0) (lost_at lost t h middle heals) up refl

  abbrev answer : Body → Message
  answer told = record { from = place.Storage; to = m.from; op = m.op; body = told }

  -- what storage had said stays said
  said : (r : Message) → IsNot t.current r.op.0 → (c : Option Open) → IsNot c r.op.0 → IsNot c m.op.0 → (is_storage_true (left_of t) t.healing c && gave_answer place.Storage (left_of t ++ r ∷ []) c) ≡ true → (is_storage_true t.net t.healing c && gave_answer place.Storage (all_pending t) c) ≡ true
  said r other None none none_m e = cc e
  said r other (Some p) none none_m e =
      let both = both_true (is_storage_true (left_of t) t.healing (Some p)) (gave_answer place.Storage (left_of t ++ r ∷ []) (Some p)) e in
      and_true (is_storage_true t.net t.healing (Some p)) (gave_answer place.Storage (all_pending t) (Some p)) (storage ∙ both.0) (by (gave_then t m may (r ∷ []) (Some p) place.Storage both.1))
    where
      storage : is_storage_true t.net t.healing (Some p) ≡ is_storage_true (left_of t) t.healing (Some p)
      storage = ap (λ (b : Bool). not (heals_target t.healing (Some p)) && not (list_any (asks_storage_by p.number.0) p.unsent || b)) (any_same (asks_storage_by p.number.0) t.net (left_of t) m (split t m may) (ap (λ (b : Bool). b && same_place m.to place.Storage) none_m))

      by : (gave_answer place.Storage (all_pending t) (Some p) ≡ true) ⊎ (answers_at place.Storage (Some p) (r ∷ []) ≡ true) → gave_answer place.Storage (all_pending t) (Some p) ≡ true
      by (inl before) = before
      by (inr now_) = let two_ : true ≡ false = sym now_ ∙ answers_none place.Storage (Some p) (r ∷ []) (none, tt) in cc two_

  -- THE ROW: the images become these, where those of up memories' pages stay
  images_come : (after : List PageImage) (told : Body) → ((b : Block) → changes_block b told ≡ false) → stops told ≡ false →
      ((j : ℕ) → j < memory_count t.shape → IsUp lost (secondary_of (memory_count t.shape) j) → (pid vpn : ℕ) → owns t.owners j pid (vpn / 512) ≡ true → page_in after pid vpn ≡ page_in t.disk.images pid vpn) →
      ((pid vpn : ℕ) → owner_of t.owners pid (vpn / 512) ≡ None → page_in after pid vpn ≡ page_in t.disk.images pid vpn) →
      ((pid vpn : ℕ) → owns t.owners (guarded_by (memory_count t.shape) h.memory.0) pid (vpn / 512) ≡ true → IsEither (sides_of t) (guarded_by (memory_count t.shape) h.memory.0) (Page pid vpn) (page_in t.disk.images pid vpn) → IsEither (sides_of t) (guarded_by (memory_count t.shape) h.memory.0) (Page pid vpn) (page_in after pid vpn)) →
      PagesFit after →
      MoveGot (in_scene (scene_of t) t.mems after) h.memory.0 (the_way lost t m may middle h heals o now number).move told →
      HasDone (in_scene (scene_of t) t.mems after) h.memory.0 (heal_holds lost t m may middle h heals o now number).stands.x (the_way lost t m may middle h heals o now number).move →
      Middle lost (record (taken t) { disk = record { images = after; files = t.disk.files }; owed = answer told ∷ [] })
  images_come after told still goes same unowned anew form got did = filed_keeps lost t (record { images = after; files = t.disk.files }) m (answer told ∷ []) may middle row
      (heal_step lost t m may middle h heals o now number t.mems (record { images = after; files = t.disk.files }) (answer told ∷ []) (heal_holds lost t m may middle h heals o now number).stands.x (heal_holds lost t m may middle h heals o now number).stands.at (heal_holds lost t m may middle h heals o now number).stands.log (heal_holds lost t m may middle h heals o now number).stands.out (heal_holds lost t m may middle h heals o now number).stands.drains (heal_holds lost t m may middle h heals o now number).stands.blocks
      agree (done_kept (scene_of t) t.mems after h.memory.0 agree (heal_holds lost t m may middle h heals o now number).stands.x) (left_more (answer told) some h.memory.0) (heal_holds lost t m may middle h heals o now number).pages
      (not_current lost t m may middle h heals o now number m.op.0 number, tt) counted ((λ same_ to_manager. (sym to ∙ its.1, got)), tt) (λ e. did))
    where
      none : AllByRecursion (λ (r : Message). IsNot t.current r.op.0) (answer told ∷ [])
      none = (not_current lost t m may middle h heals o now number m.op.0 number, tt)

      second_up : IsUp lost (secondary_of (memory_count t.shape) h.memory.0)
      second_up = subst (λ (l : Option ℕ). IsUp l (secondary_of (memory_count t.shape) h.memory.0)) (sym (lost_at lost t h middle heals)) (λ same_. (secondaries-differ (memory_count t.shape) h.memory.0 h.memory.0 middle.machine.two below below).0 (sym same_))

      agree : ScenesAgree (scene_of t) t.mems after h.memory.0
      agree = record { drained = λ drained. (drained.0, λ pid vpn. subst (λ (held : Option (List ℕ)). IsEither (sides_of t) h.memory.0 (Page pid vpn) held) (of_lost pid vpn) (drained.1 pid vpn)); anew = anew }
        where
          of_lost : (pid vpn : ℕ) → cond (owns t.owners h.memory.0 pid (vpn / 512)) (page_in t.disk.images pid vpn) None ≡ cond (owns t.owners h.memory.0 pid (vpn / 512)) (page_in after pid vpn) None
          of_lost pid vpn = by (owns t.owners h.memory.0 pid (vpn / 512)) refl
            where
              by : (b : Bool) → owns t.owners h.memory.0 pid (vpn / 512) ≡ b → cond b (page_in t.disk.images pid vpn) None ≡ cond b (page_in after pid vpn) None
              by false e = refl
              by true e = sym (same h.memory.0 below second_up pid vpn e)

      counted : count_number o.number.0 (answer told ∷ []) + count_drains o.number.0 t.mems ≡ 1
      counted = let zero_ = none_wait lost t m may middle h heals o now number in let one : cond (m.op.0 == o.number.0) 1 0 ≡ 1 = ap (λ (b : Bool). cond b 1 0) (eq-eqb m.op.0 o.number.0 number) in by (cond (m.op.0 == o.number.0) 1 0) one zero_
        where
          by : (one : ℕ) → one ≡ 1 → count_drains o.number.0 t.mems ≡ 0 → (one + 0) + count_drains o.number.0 t.mems ≡ 1
          by one e zero_ = omega (arith, e, zero_)

      second_same : (j : ℕ) (x : Mem) → j < memory_count t.shape → IsUp lost (secondary_of (memory_count t.shape) j) → (pid vpn : ℕ) → second_part t.owners after j x (Page pid vpn) ≡ second_part t.owners t.disk.images j x (Page pid vpn)
      second_same j x less up pid vpn = by (owns t.owners j pid (vpn / 512)) refl
        where
          by : (b : Bool) → owns t.owners j pid (vpn / 512) ≡ b → cond b (page_in (overlaid x.log after) pid vpn) None ≡ cond b (page_in (overlaid x.log t.disk.images) pid vpn) None
          by false e = refl
          by true e = page-overlaid x.log after pid vpn ∙ ap (over x.log pid vpn) (same j less up pid vpn e) ∙ sym (page-overlaid x.log t.disk.images pid vpn)

      -- a batch is of pages whose images stay
      has_batch : (k : ℕ) (s : Mem) → IsUp lost k → slice_get t.mems k ≡ Some s → AllByRecursion (LogFits (memory_count t.shape) t.owners k) s.log → HasBatch t.disk.images (take s.out s.log) → HasBatch after (take s.out s.log)
      has_batch k s up at log has pid vpn = elim (touch_cases (memory_count t.shape) k t.owners pid vpn (take s.out s.log) (all_front (LogFits (memory_count t.shape) t.owners k) s.out s.log log)) [
        | inl quiet ↦ untouched (take s.out s.log) pid vpn (page_in after pid vpn) quiet
        | inr it ↦
            let mine : owns t.owners it.0.0 pid (vpn / 512) ≡ true = ap (is_owner it.0.0) it.1 ∙ eq-eqb it.0.0 it.0.0 refl in
            let stays = same it.0.0 (middle.plain.within pid (vpn / 512) it.0 it.1) (subst (IsUp lost) (sym it.2) up) pid vpn mine in
            ap (over (take s.out s.log) pid vpn) stays ∙ has pid vpn ∙ sym stays
      ]

      row : FileRow lost t (record { images = after; files = t.disk.files }) (answer told ∷ [])
      row = record {
        sends = (answer_pends lost t m may middle h heals o now number (answer told) refl its.0 (sym to ∙ its.1) tt, tt);
        from = (refl, tt);
        pages = λ j x less up at pid vpn. inl (second_same j x less up pid vpn);
        pages_told = λ unwritten due. inl (said (answer told) none.0 t.current none.0 none.0 due);
        bare = λ j less is pid vpn mine either. bare j less is pid vpn mine either;
        background = λ j is. left_more (answer told) some j;
        batches = λ k s up at. batch_after k s up at (middle.memories k s up at).batch;
        blocks = λ k s up at. every (λ b fit. record {
          place = fit.place;
          below = fit.below;
          same = fit.same;
          still = of_first (λ (r : Message). changes_block b r.body) (left_of t) (answer told ∷ []) (ap (λ (x : Bool). x || false) (still b)) ∙ ap (list_any (λ (r : Message). changes_block b r.body)) (left_all t m may) ∙ changes_less t m may b fit.still;
        }) s.blocks (middle.memories k s up at).blocks;
        files = inl refl;
        told = λ now_. absurd (never now_);
        images = λ pid vpn none_. unowned pid vpn none_ ∙ middle.disk.images pid vpn none_;
        form = form;
      }
        where
          never : answers_at place.Storage t.current (answer told ∷ []) ≡ true → ⊥
          never now_ = let both : true ≡ false = sym now_ ∙ answers_none place.Storage t.current (answer told ∷ []) none in cc both

          bare : (j : ℕ) → j < memory_count t.shape → lost ≡ Some (secondary_of (memory_count t.shape) j) → (pid vpn : ℕ) → owns t.owners j pid (vpn / 512) ≡ true → IsEither (sides_of t) j (Page pid vpn) (page_in t.disk.images pid vpn) → IsEither (sides_of t) j (Page pid vpn) (page_in after pid vpn)
          bare j less is pid vpn mine either =
              let q : guarded_by (memory_count t.shape) h.memory.0 ≡ j = guarded_is (memory_count t.shape) j h.memory.0 middle.machine.two less (same_number (secondary_of (memory_count t.shape) j) h.memory.0 (sym is ∙ lost_at lost t h middle heals)) in
              subst (λ (k : ℕ). IsEither (sides_of t) k (Page pid vpn) (page_in after pid vpn)) q (anew pid vpn (subst (λ (k : ℕ). owns t.owners k pid (vpn / 512) ≡ true) (sym q) mine) (subst (λ (k : ℕ). IsEither (sides_of t) k (Page pid vpn) (page_in t.disk.images pid vpn)) (sym q) either))
            where
              same_number : (a b : ℕ) → Some a ≡ Some b → a ≡ b
              same_number a b e = cc e

          batch_after : (k : ℕ) (s : Mem) → IsUp lost k → slice_get t.mems k ≡ Some s → BatchFits (all_pending t) t.disk.images s → BatchFits (left_of t ++ answer told ∷ []) after s
          batch_after k s up at fits = record {
            none = λ out. left_more (answer told) some s.id ∙ fits.none out;
            once = λ out. by (fits.once out);
            within = fits.within;
            waits = fits.waits;
          }
            where
              by : (background s.id (all_pending t) ≡ batch_message s ∷ []) ⊎ ((background s.id (all_pending t) ≡ receipt s ∷ []) × HasBatch t.disk.images (take s.out s.log)) → (background s.id (left_of t ++ answer told ∷ []) ≡ batch_message s ∷ []) ⊎ ((background s.id (left_of t ++ answer told ∷ []) ≡ receipt s ∷ []) × HasBatch after (take s.out s.log))
              by (inl e) = inl (left_more (answer told) some s.id ∙ e)
              by (inr e) = inr (left_more (answer told) some s.id ∙ e.0, has_batch k s up at (middle.memories k s up at).log e.1)

  abbrev Comes : Body → Type 0
  Comes told = Middle lost (record (taken t) { disk = (stored_body t.disk m told).0; owed = (stored_body t.disk m told).1 })

  -- IMAGES ARE ASKED FOR, once the drain has made them whole
  asked_for : (pid : Pid) (region : RegionNo) → owns t.owners h.memory.0 pid.0 region.0 ≡ true → (the_way lost t m may middle h heals o now number).move ≡ Asks place.Storage (body.PullImages pid region) → Comes (body.PullImages pid region)
  asked_for pid region mine is = images_come t.disk.images (body.Images (pages_of pid.0 region.0 t.disk.images)) (λ b. refl) refl (λ j less up p vpn owned. refl) (λ p vpn none. refl) (λ p vpn owned either. either) middle.disk.form
      (subst (λ (move : Move). MoveGot (scene_of t) h.memory.0 move (body.Images (pages_of pid.0 region.0 t.disk.images))) (sym is) (pages_of pid.0 region.0 t.disk.images, refl, pages_taken (sides_of t) h.memory.0 pid region t.disk.images middle.disk.form either))
      (subst (HasDone (scene_of t) h.memory.0 (heal_holds lost t m may middle h heals o now number).stands.x) (sym is) tt)
    where
      drained : IsDrained (sides_of t) (open_patch t.current) t.mems t.disk.images h.memory.0
      drained = drained_before (memory_count t.shape) h.memory.0 t.owners (scene_of t) (heal_holds lost t m may middle h heals o now number).stands.x (heal_holds lost t m may middle h heals o now number).stands.done (the_way lost t m may middle h heals o now number).ahead (the_way lost t m may middle h heals o now number).move
          (ap (λ (moves : List Move). (heal_holds lost t m may middle h heals o now number).stands.done ++ moves) (sym (the_way lost t m may middle h heals o now number).first) ∙ (heal_holds lost t m may middle h heals o now number).stands.all)
          (λ drain. no_drain (sym is ∙ drain)) (the_way lost t m may middle h heals o now number).did
        where
          no_drain : Asks place.Storage (body.PullImages pid region) ≡ Asks (memory (secondary_of (memory_count t.shape) h.memory.0)) body.Drain → ⊥
          no_drain e = cc e

      either : (vpn : ℕ) → vpn / 512 ≡ region.0 → IsEither (sides_of t) h.memory.0 (Page pid.0 vpn) (page_in t.disk.images pid.0 vpn)
      either vpn of = subst (λ (b : Bool). IsEither (sides_of t) h.memory.0 (Page pid.0 vpn) (cond b (page_in t.disk.images pid.0 vpn) None)) (ap (owns t.owners h.memory.0 pid.0) of ∙ mine) (drained.1 pid.0 vpn)

  -- IMAGES BECOME the pages of the memory that c guards
  handed_over : (pid : Pid) (region : RegionNo) (pages : List PageImage) → owns t.owners (guarded_by (memory_count t.shape) h.memory.0) pid.0 region.0 ≡ true → PagesHanded (sides_of t) (guarded_by (memory_count t.shape) h.memory.0) pid.0 region.0 pages → (the_way lost t m may middle h heals o now number).move ≡ HandsPages pid region → Comes (body.ResetImages pid region pages)
  handed_over pid region pages mine handed is = images_come (with_pages pid.0 region.0 pages t.disk.images) body.Done (λ b. refl) refl same unowned anew (fit_with (sides_of t) (guarded_by (memory_count t.shape) h.memory.0) pid region pages t.disk.images handed middle.disk.form)
      (subst (λ (move : Move). MoveGot (in_scene (scene_of t) t.mems (with_pages pid.0 region.0 pages t.disk.images)) h.memory.0 move body.Done) (sym is) refl)
      (subst (HasDone (in_scene (scene_of t) t.mems (with_pages pid.0 region.0 pages t.disk.images)) h.memory.0 (heal_holds lost t m may middle h heals o now number).stands.x) (sym is) fits)
    where
      fits : RegionFits (sides_of t) (guarded_by (memory_count t.shape) h.memory.0) pid.0 region.0 (with_pages pid.0 region.0 pages t.disk.images)
      fits = region_fits (sides_of t) (guarded_by (memory_count t.shape) h.memory.0) pid region pages t.disk.images handed

      -- in the region the owner is that memory
      of_region : (p vpn : ℕ) → is_page_of pid.0 region.0 (key_at p vpn) ≡ true → (p ≡ pid.0) × (vpn / 512 ≡ region.0) × (owns t.owners (guarded_by (memory_count t.shape) h.memory.0) p (vpn / 512) ≡ true)
      of_region p vpn e =
          let both = both_true (p == pid.0) (vpn / 512 == region.0) e in
          let process = eqb-true p pid.0 both.0 in
          let place_ = eqb-true (vpn / 512) region.0 both.1 in
          (process, place_, (λ i. owns t.owners (guarded_by (memory_count t.shape) h.memory.0) (process i) (place_ i)) ∙ mine)

      others : (p vpn : ℕ) → is_page_of pid.0 region.0 (key_at p vpn) ≡ false → page_in (with_pages pid.0 region.0 pages t.disk.images) p vpn ≡ page_in t.disk.images p vpn
      others p vpn e = others_with (sides_of t) (guarded_by (memory_count t.shape) h.memory.0) pid region pages t.disk.images handed p vpn e

      same : (j : ℕ) → j < memory_count t.shape → IsUp lost (secondary_of (memory_count t.shape) j) → (p vpn : ℕ) → owns t.owners j p (vpn / 512) ≡ true → page_in (with_pages pid.0 region.0 pages t.disk.images) p vpn ≡ page_in t.disk.images p vpn
      same j less up p vpn owned = by (is_page_of pid.0 region.0 (key_at p vpn)) refl
        where
          by : (b : Bool) → is_page_of pid.0 region.0 (key_at p vpn) ≡ b → page_in (with_pages pid.0 region.0 pages t.disk.images) p vpn ≡ page_in t.disk.images p vpn
          by false e = others p vpn e
          by true e =
              let j_is : j ≡ guarded_by (memory_count t.shape) h.memory.0 = one_owner t.owners j (guarded_by (memory_count t.shape) h.memory.0) p (vpn / 512) owned (of_region p vpn e).2 in
              absurd (not_up (subst (IsUp lost) (ap (secondary_of (memory_count t.shape)) j_is ∙ own.1) up))

      unowned : (p vpn : ℕ) → owner_of t.owners p (vpn / 512) ≡ None → page_in (with_pages pid.0 region.0 pages t.disk.images) p vpn ≡ page_in t.disk.images p vpn
      unowned p vpn none = by (is_page_of pid.0 region.0 (key_at p vpn)) refl
        where
          by : (b : Bool) → is_page_of pid.0 region.0 (key_at p vpn) ≡ b → page_in (with_pages pid.0 region.0 pages t.disk.images) p vpn ≡ page_in t.disk.images p vpn
          by false e = others p vpn e
          by true e = let both : false ≡ true = sym (ap (is_owner (guarded_by (memory_count t.shape) h.memory.0)) none) ∙ (of_region p vpn e).2 in cc both

      anew : (p vpn : ℕ) → owns t.owners (guarded_by (memory_count t.shape) h.memory.0) p (vpn / 512) ≡ true → IsEither (sides_of t) (guarded_by (memory_count t.shape) h.memory.0) (Page p vpn) (page_in t.disk.images p vpn) → IsEither (sides_of t) (guarded_by (memory_count t.shape) h.memory.0) (Page p vpn) (page_in (with_pages pid.0 region.0 pages t.disk.images) p vpn)
      anew p vpn owned either = by (is_page_of pid.0 region.0 (key_at p vpn)) refl
        where
          by : (b : Bool) → is_page_of pid.0 region.0 (key_at p vpn) ≡ b → IsEither (sides_of t) (guarded_by (memory_count t.shape) h.memory.0) (Page p vpn) (page_in (with_pages pid.0 region.0 pages t.disk.images) p vpn)
          by false e = subst (λ (held : Option (List ℕ)). IsEither (sides_of t) (guarded_by (memory_count t.shape) h.memory.0) (Page p vpn) held) (sym (others p vpn e)) either
          by true e =
              let of = of_region p vpn e in
              subst (λ (r : ℕ). IsEither (sides_of t) (guarded_by (memory_count t.shape) h.memory.0) (Page r vpn) (page_in (with_pages pid.0 region.0 pages t.disk.images) r vpn)) (sym of.0) (fits vpn of.1)

  -- WHICHEVER MOVE it is that storage gets
  pub storage_move_comes : Middle lost (record (taken t) { disk = (stored t.disk m).0; owed = (stored t.disk m).1 })
  storage_move_comes = subst Comes (sym its.2) (by (the_way lost t m may middle h heals o now number).move refl (the_way lost t m may middle h heals o now number).of (the_way lost t m may middle h heals o now number).fits.hands (sym to ∙ its.1 ∙ (the_way lost t m may middle h heals o now number).fits.receiver))
    where
      by : (move : Move) → (the_way lost t m may middle h heals o now number).move ≡ move → MoveIs (memory_count t.shape) h.memory.0 t.owners move → HandsOver (sides_of t) h.memory.0 move (the_way lost t m may middle h heals o now number).fits.told → place.Storage ≡ (ask_of move None).to → Comes (the_way lost t m may middle h heals o now number).fits.told
      by (Asks receiver what) is of hands at = subst Comes (sym hands) (asks of)
        where
          asks : AskIs (memory_count t.shape) h.memory.0 t.owners receiver what → Comes what
          asks (OfLog e there) = absurd (memory_no_storage _ (sym there ∙ sym at))
          asks (OfSpare who e there) = absurd (memory_no_storage _ (sym there ∙ sym at))
          asks (OfMain who e there) = absurd (memory_no_storage _ (sym there ∙ sym at))
          asks (OfPages pid region e there mine) = absurd (memory_no_storage _ (sym there ∙ sym at))
          asks (OfImages pid region e there mine) = subst Comes (sym e) (asked_for pid region mine (is ∙ (λ i. Asks (there i) (e i))))
      by (HandsMeta receiver role) is of hands at = absurd (memory_no_storage _ (sym of ∙ sym at))
      by (HandsImages receiver pid region) is of hands at = absurd (memory_no_storage _ (sym of.0 ∙ sym at))
      by (HandsPages pid region) is of hands at = subst Comes (sym hands.1) (handed_over pid region hands.0 of hands.2 is)
