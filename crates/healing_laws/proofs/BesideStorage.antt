-- While a memory is healed: storage gets what isn't the move's.
use Rattle.std.proofs.Common.{◌≡◌, ◌⊎◌, ◌/◌, ◌<◌, [], ◌∷◌, ◌∙◌, ℕ, Bool, List, None, Option, Some, ap, arith, cond, eqb, false, inl, inr, length, refl, slice_get, subst, sym, true}
use Rattle.std.proofs.lemmas.Bool.{eqb-true}
use Rattle.std.specs.List.{AllByRecursion}
use Rattle.lego_base.specs.declared.records.PageImage.{PageImage}
use Rattle.lego_base.specs.declared.records.Patch.{Patch}
use Rattle.lego_msg.specs.Deliveries.{MayDeliver, taken}
use Rattle.lego_msg.specs.Granted.{PatchFits}
use Rattle.lego_msg.specs.Maps.{laid_on, overlaid, page_in}
use Rattle.lego_msg.specs.Places.{guarded_by, is_issuer, memory, secondary_of}
use Rattle.lego_msg.specs.State.{Disk, Mem}
use Rattle.lego_msg.specs.Table.{stored, stored_body}
use Rattle.lego_msg.specs.Track.{Track, healing_move, memory_count}
use Rattle.lego_msg.specs.declared.body.Body.{Body}
use Rattle.lego_msg.specs.declared.healing.Healing.{Healing}
use Rattle.lego_msg.specs.declared.message.Message.{Message}
use Rattle.lego_msg.specs.declared.operation.Open.{Open}
use Rattle.lego_rest.specs.Answers.{all_pending}
use Rattle.lego_rest.specs.Fits.{over}
use Rattle.lego_rest.specs.Heals.{IsDrained, open_patch}
use Rattle.lego_rest.specs.Parts.{IsEither, Page, is_owner, owns, plain_with, second_part, sides_of}
use Rattle.lego_rest.specs.Pending.{Goes, IsBatch, IsNot, IsOf, IsUp, Left, MayPend, OfBackground, OfMove, OfOperation, Pends, Returns}
use Rattle.lego_rest.specs.Rest.{Middle}
use Rattle.rest_laws.proofs.Around.{guards-its-own, secondaries-differ}
use Rattle.rest_laws.proofs.Backing.{backup_gives, batch, page_after, patches_fit, patches_log, there}
use Rattle.rest_laws.proofs.Ended.{get_within}
use Rattle.rest_laws.proofs.Filed.{FileRow, filed_keeps}
use Rattle.rest_laws.proofs.Noted.{calm_moves}
use Rattle.rest_laws.proofs.Opened.{every}
use Rattle.rest_laws.proofs.Pages.{over_twice, touch_cases, untouched}
use Rattle.rest_laws.proofs.Taken.{all_taken, not_of_move, whole}
use Rattle.rest_laws.proofs.kinds.EveryKind.{every_kind_rows}
use Rattle.rest_laws.proofs.kinds.Images.{all_front}
use Rattle.healing_laws.proofs.Beside.{lost_at, lost_below, memory_no_storage, none_of_it}
use Rattle.healing_laws.proofs.Passing.{passing_heals, quiet_stays}
use Rattle.healing_laws.proofs.Stored.{stored_numbers}
use Rattle.healing_laws.proofs.Writes.{page_written, patch_none, unwritten}
use Rattle.rest_laws.proofs.Bare.{calm_on}
use Rattle.lego_msg.specs.declared.body.Body.TheVariants as body
use Rattle.lego_msg.specs.declared.place.Place.TheVariants as place

-- a log drained for no patch is empty
none_logged : (patch : Option Patch) (log : List Patch) → patch ≡ None → AllByRecursion (λ (p : Patch). patch ≡ Some p) log → log ≡ []
none_logged patch [] none all = refl
none_logged patch (p ∷ log) none all = let both : None ≡ Some p = sym none ∙ all.0 in cc both

-- the patch of an open write laid over old or new is old or new
over_all : (p : Patch) (pid vpn : ℕ) (f : Option (List ℕ)) → PatchFits p → ((bytes : List ℕ) → f ≡ Some bytes → length bytes ≡ 4096) → (ps : List Patch) → AllByRecursion (λ (q : Patch). Some p ≡ Some q) ps → (page : Option (List ℕ)) → (page ≡ f) ⊎ (page ≡ laid_on p pid vpn f) → (over ps pid vpn page ≡ f) ⊎ (over ps pid vpn page ≡ laid_on p pid vpn f)
over_all p pid vpn f fits whole_ [] all page either = either
over_all p pid vpn f fits whole_ (q ∷ ps) all page either = over_all p pid vpn f fits whole_ ps all.1 (laid_on q pid vpn page) (inr (ap (λ (r : Patch). laid_on r pid vpn page) (one q p (sym all.0)) ∙ laid either))
  where
    one : (a b : Patch) → Some a ≡ Some b → a ≡ b
    one a b e = cc e

    laid : (page ≡ f) ⊎ (page ≡ laid_on p pid vpn f) → laid_on p pid vpn page ≡ laid_on p pid vpn f
    laid (inl e) = ap (laid_on p pid vpn) e
    laid (inr e) = ap (laid_on p pid vpn) e ∙ over_twice (p ∷ []) pid vpn f (fits, tt) whole_

module _ (lost : Option ℕ) (t : Track) (m : Message) (may : MayDeliver t m) (not_move : IsNot (healing_move t.healing) m.op.0) (middle : Middle lost t) (to : m.to ≡ place.Storage) where
  goes_on : t.stopped ≡ false
  goes_on = calm_on t may.calm

  pends : MayPend lost (memory_count t.shape) t.plain t.current (healing_move t.healing) t.next m
  pends = (all_taken (MayPend lost (memory_count t.shape) t.plain t.current (healing_move t.healing) t.next) (all_pending t) (all_pending (taken t)) m (whole t m may) middle.pending).0

  -- the secondary of the lost memory
  pub record SecondOf (c : ℕ) : Type 0 where
    pub x : Mem
    pub at : slice_get t.mems (secondary_of (memory_count t.shape) c) ≡ Some x
    pub below : c < memory_count t.shape
    pub up : IsUp lost (secondary_of (memory_count t.shape) c)

  second_of : (g : Healing) → t.healing ≡ Some g → SecondOf g.memory.0
  second_of g heals =
      let below = lost_below lost t g goes_on middle heals in
      let away = secondaries-differ (memory_count t.shape) g.memory.0 g.memory.0 middle.machine.two below below in
      let second = away.1 in
      let count = middle.count in
      let there_ = get_within t.mems (secondary_of (memory_count t.shape) g.memory.0) (omega (arith, second, count)) in
      record { x = there_.0; at = there_.1; below = below; up = subst (λ (l : Option ℕ). IsUp l (secondary_of (memory_count t.shape) g.memory.0)) (sym (lost_at lost t g middle heals)) (λ same. away.0 (sym same)) }

  -- THE HEALING GOES ON where the images that a drained log leaves alone stay old or new
  file_keeps : (d : Disk) (out : List Message) → FileRow lost t d out → AllByRecursion (λ (r : Message). r.op.0 ≡ m.op.0) out →
      ((g : Healing) → t.healing ≡ Some g → IsDrained (sides_of t) (open_patch t.current) t.mems t.disk.images g.memory.0 → (pid vpn : ℕ) → IsEither (sides_of t) g.memory.0 (Page pid vpn) (cond (owns t.owners g.memory.0 pid (vpn / 512)) (page_in d.images pid vpn) None)) →
      Middle lost (record (taken t) { disk = d; owed = out })
  file_keeps d out row numbers images = filed_keeps lost t d m out may middle row
      (passing_heals lost t t.mems d m out place.Storage may row.from middle t.healing refl (λ g heals. (
        refl,
        record {
          agree = record { drained = λ was. (was.0, images g heals was); anew = anew g heals };
          at = λ x was. was;
          background = row.background g.memory.0 (lost_at lost t g middle heals);
          move = λ o move x is none of fits. quiet_stays t m may g.memory.0 t.mems d.images out x o move fits.to refl (none_of_it lost t m may not_move middle g heals o is none fits.some out (every (λ r e. inl e) out numbers)) none;
        },
      )) not_move (calm_moves t may.calm) middle.healing)
    where
      anew : (g : Healing) → t.healing ≡ Some g → (pid vpn : ℕ) → owns t.owners (guarded_by (memory_count t.shape) g.memory.0) pid (vpn / 512) ≡ true → IsEither (sides_of t) (guarded_by (memory_count t.shape) g.memory.0) (Page pid vpn) (page_in t.disk.images pid vpn) → IsEither (sides_of t) (guarded_by (memory_count t.shape) g.memory.0) (Page pid vpn) (page_in d.images pid vpn)
      anew g heals pid vpn mine = row.bare (guarded_by (memory_count t.shape) g.memory.0) own.0 (lost_at lost t g middle heals ∙ ap (λ (k : ℕ). Some k) (sym own.1)) pid vpn mine
        where
          own : (guarded_by (memory_count t.shape) g.memory.0 < memory_count t.shape) × (secondary_of (memory_count t.shape) (guarded_by (memory_count t.shape) g.memory.0) ≡ g.memory.0)
          own = guards-its-own (memory_count t.shape) g.memory.0 middle.machine.two (lost_below lost t g goes_on middle heals)

  -- OF THE OPEN OPERATION, which doesn't write: the secondary's log is empty once it is drained
  images_by_row : (d : Disk) (out : List Message) → FileRow lost t d out → open_patch t.current ≡ None → (g : Healing) → t.healing ≡ Some g → IsDrained (sides_of t) (open_patch t.current) t.mems t.disk.images g.memory.0 → (pid vpn : ℕ) → IsEither (sides_of t) g.memory.0 (Page pid vpn) (cond (owns t.owners g.memory.0 pid (vpn / 512)) (page_in d.images pid vpn) None)
  images_by_row d out row none g heals was pid vpn = by (row.pages g.memory.0 it.x it.below it.up it.at pid vpn) (was.1 pid vpn)
    where
      it : SecondOf g.memory.0
      it = second_of g heals

      empty : it.x.log ≡ []
      empty = none_logged (open_patch t.current) it.x.log none (was.0 it.x it.at)

      part : (images : List PageImage) → second_part t.owners images g.memory.0 it.x (Page pid vpn) ≡ cond (owns t.owners g.memory.0 pid (vpn / 512)) (page_in images pid vpn) None
      part images = ap (λ (log : List Patch). cond (owns t.owners g.memory.0 pid (vpn / 512)) (page_in (overlaid log images) pid vpn) None) empty

      by : (second_part t.owners d.images g.memory.0 it.x (Page pid vpn) ≡ second_part t.owners t.disk.images g.memory.0 it.x (Page pid vpn)) ⊎ (second_part t.owners d.images g.memory.0 it.x (Page pid vpn) ≡ cond (owns t.owners g.memory.0 pid (vpn / 512)) ((sides_of t).new.page pid vpn) None) → IsEither (sides_of t) g.memory.0 (Page pid vpn) (cond (owns t.owners g.memory.0 pid (vpn / 512)) (page_in t.disk.images pid vpn) None) → IsEither (sides_of t) g.memory.0 (Page pid vpn) (cond (owns t.owners g.memory.0 pid (vpn / 512)) (page_in d.images pid vpn) None)
      by (inr new) was = inr (sym (part d.images) ∙ new)
      by (inl same) (inl e) = inl (sym (part d.images) ∙ same ∙ part t.disk.images ∙ e)
      by (inl same) (inr e) = inr (sym (part d.images) ∙ same ∙ part t.disk.images ∙ e)

  of_operation : (c : Option Open) → t.current ≡ c → IsOf lost (memory_count t.shape) t.plain m c → Middle lost (record (taken t) { disk = (stored t.disk m).0; owed = (stored t.disk m).1 })
  of_operation None e of = absurd of
  of_operation (Some o) e of = by (subst (Middle lost) same middle) (subst (λ (u : Track). MayDeliver u m) same may)
    where
      same : t ≡ record t { current = Some o }
      same = λ i. record t { current = e i }

      by : Middle lost (record t { current = Some o }) → MayDeliver (record t { current = Some o }) m → Middle lost (record (taken t) { disk = (stored t.disk m).0; owed = (stored t.disk m).1 })
      by busy may_busy =
          let gives = (every_kind_rows lost t o busy).at_storage m of.2 (record { may = may_busy; to = to; middle = busy; number = of.0; away = of.1; not_move = not_move }) in
          let row : FileRow lost t (stored t.disk m).0 (stored t.disk m).1 = subst (λ (u : Track). FileRow lost u (stored t.disk m).0 (stored t.disk m).1) (sym same) gives in
          let none : open_patch t.current ≡ None = ap open_patch e ∙ patch_none o.operation (unwritten (memory_count t.shape) t.owners t.plain o m busy.current.0.fits busy.current.0.by (ap is_issuer to) of.2 to) in
          file_keeps (stored t.disk m).0 (stored t.disk m).1 row (stored_numbers t.disk m) (images_by_row (stored t.disk m).0 (stored t.disk m).1 row none)

  -- A BATCH: what a drained log still has is the open write's patch
  module _ (k : ℕ) (patches : List Patch) (number : m.op.0 ≡ 0) (up : IsUp lost k) (from : m.from ≡ memory k) (what : m.body ≡ body.Backup patches) where
    images_backed : (g : Healing) → t.healing ≡ Some g → IsDrained (sides_of t) (open_patch t.current) t.mems t.disk.images g.memory.0 → (pid vpn : ℕ) → IsEither (sides_of t) g.memory.0 (Page pid vpn) (cond (owns t.owners g.memory.0 pid (vpn / 512)) (page_in (overlaid patches t.disk.images) pid vpn) None)
    images_backed g heals was pid vpn = by (owns t.owners g.memory.0 pid (vpn / 512)) refl (was.1 pid vpn)
      where
        its : (x : Mem) × (slice_get t.mems k ≡ Some x)
        its = there lost t m k patches may middle number up from to what

        all_patch : k ≡ secondary_of (memory_count t.shape) g.memory.0 → AllByRecursion (λ (q : Patch). open_patch t.current ≡ Some q) patches
        all_patch here = subst (AllByRecursion (λ (q : Patch). open_patch t.current ≡ Some q)) (sym (batch lost t m k patches may middle number up from to what)) (all_front (λ (q : Patch). open_patch t.current ≡ Some q) its.0.out its.0.log (was.0 its.0 (ap (slice_get t.mems) (sym here) ∙ its.1)))

        new_page : (c : Option Open) (p : Patch) → open_patch c ≡ Some p → (plain_with c t.plain).page pid vpn ≡ laid_on p pid vpn (t.plain.page pid vpn)
        new_page None p e = cc e
        new_page (Some o) p e = page_written o.operation t.plain p e pid vpn

        laid : AllByRecursion (λ (q : Patch). open_patch t.current ≡ Some q) patches → (page_in t.disk.images pid vpn ≡ t.plain.page pid vpn) ⊎ (page_in t.disk.images pid vpn ≡ (sides_of t).new.page pid vpn) → (over patches pid vpn (page_in t.disk.images pid vpn) ≡ t.plain.page pid vpn) ⊎ (over patches pid vpn (page_in t.disk.images pid vpn) ≡ (sides_of t).new.page pid vpn)
        laid all either = under (open_patch t.current) refl
          where
            none_at_all : (ps : List Patch) → AllByRecursion (λ (q : Patch). None ≡ Some q) ps → over ps pid vpn (page_in t.disk.images pid vpn) ≡ page_in t.disk.images pid vpn
            none_at_all [] all = refl
            none_at_all (q ∷ ps) all = let e = all.0 in cc e

            turned : (p : Patch) → open_patch t.current ≡ Some p → (over patches pid vpn (page_in t.disk.images pid vpn) ≡ t.plain.page pid vpn) ⊎ (over patches pid vpn (page_in t.disk.images pid vpn) ≡ laid_on p pid vpn (t.plain.page pid vpn)) → (over patches pid vpn (page_in t.disk.images pid vpn) ≡ t.plain.page pid vpn) ⊎ (over patches pid vpn (page_in t.disk.images pid vpn) ≡ (sides_of t).new.page pid vpn)
            turned p e (inl old) = inl old
            turned p e (inr new) = inr (new ∙ sym (new_page t.current p e))

            given : (p : Patch) → open_patch t.current ≡ Some p → (page_in t.disk.images pid vpn ≡ t.plain.page pid vpn) ⊎ (page_in t.disk.images pid vpn ≡ laid_on p pid vpn (t.plain.page pid vpn))
            given p e = side either
              where
                side : (page_in t.disk.images pid vpn ≡ t.plain.page pid vpn) ⊎ (page_in t.disk.images pid vpn ≡ (sides_of t).new.page pid vpn) → (page_in t.disk.images pid vpn ≡ t.plain.page pid vpn) ⊎ (page_in t.disk.images pid vpn ≡ laid_on p pid vpn (t.plain.page pid vpn))
                side (inl old) = inl old
                side (inr new) = inr (new ∙ new_page t.current p e)

            same_side : over patches pid vpn (page_in t.disk.images pid vpn) ≡ page_in t.disk.images pid vpn → (page_in t.disk.images pid vpn ≡ t.plain.page pid vpn) ⊎ (page_in t.disk.images pid vpn ≡ (sides_of t).new.page pid vpn) → (over patches pid vpn (page_in t.disk.images pid vpn) ≡ t.plain.page pid vpn) ⊎ (over patches pid vpn (page_in t.disk.images pid vpn) ≡ (sides_of t).new.page pid vpn)
            same_side stays (inl e) = inl (stays ∙ e)
            same_side stays (inr e) = inr (stays ∙ e)

            -- each patch of the batch is the open write's, and so in form
            first_fits : (p : Patch) (ps : List Patch) → AllByRecursion (λ (q : Patch). Some p ≡ Some q) ps → AllByRecursion PatchFits ps → (page : Option (List ℕ)) → (page ≡ t.plain.page pid vpn) ⊎ (page ≡ laid_on p pid vpn (t.plain.page pid vpn)) → (over ps pid vpn page ≡ t.plain.page pid vpn) ⊎ (over ps pid vpn page ≡ laid_on p pid vpn (t.plain.page pid vpn))
            first_fits p [] all fit page either = either
            first_fits p (q ∷ ps) all fit page either = over_all p pid vpn (t.plain.page pid vpn) (subst PatchFits (one q p (sym all.0)) fit.0) (middle.plain.whole pid vpn) (q ∷ ps) all page either
              where
                one : (a b : Patch) → Some a ≡ Some b → a ≡ b
                one a b e = cc e

            under : (c : Option Patch) → open_patch t.current ≡ c → (over patches pid vpn (page_in t.disk.images pid vpn) ≡ t.plain.page pid vpn) ⊎ (over patches pid vpn (page_in t.disk.images pid vpn) ≡ (sides_of t).new.page pid vpn)
            under None e = same_side (none_at_all patches (subst (λ (c : Option Patch). AllByRecursion (λ (q : Patch). c ≡ Some q) patches) e all)) either
            under (Some p) e = turned p e (first_fits p patches (subst (λ (c : Option Patch). AllByRecursion (λ (q : Patch). c ≡ Some q) patches) e all) (patches_fit lost t m k patches may middle number up from to what) (page_in t.disk.images pid vpn) (given p e))

        stays_either : over patches pid vpn (page_in t.disk.images pid vpn) ≡ page_in t.disk.images pid vpn → (page_in t.disk.images pid vpn ≡ t.plain.page pid vpn) ⊎ (page_in t.disk.images pid vpn ≡ (sides_of t).new.page pid vpn) → (over patches pid vpn (page_in t.disk.images pid vpn) ≡ t.plain.page pid vpn) ⊎ (over patches pid vpn (page_in t.disk.images pid vpn) ≡ (sides_of t).new.page pid vpn)
        stays_either stays (inl e) = inl (stays ∙ e)
        stays_either stays (inr e) = inr (stays ∙ e)

        mine : owns t.owners g.memory.0 pid (vpn / 512) ≡ true → (page_in t.disk.images pid vpn ≡ t.plain.page pid vpn) ⊎ (page_in t.disk.images pid vpn ≡ (sides_of t).new.page pid vpn) → (over patches pid vpn (page_in t.disk.images pid vpn) ≡ t.plain.page pid vpn) ⊎ (over patches pid vpn (page_in t.disk.images pid vpn) ≡ (sides_of t).new.page pid vpn)
        mine owned either = elim (touch_cases (memory_count t.shape) k t.owners pid vpn patches (patches_log lost t m k patches may middle number up from to what)) [
          | inl quiet ↦ stays_either (untouched patches pid vpn (page_in t.disk.images pid vpn) quiet) either
          | inr by_owner ↦
              let owner : eqb by_owner.0.0 g.memory.0 ≡ true = sym (ap (is_owner g.memory.0) by_owner.1) ∙ owned in
              laid (all_patch (sym by_owner.2 ∙ ap (secondary_of (memory_count t.shape)) (eqb-true by_owner.0.0 g.memory.0 owner))) either
        ]

        after_page : (over patches pid vpn (page_in t.disk.images pid vpn) ≡ t.plain.page pid vpn) ⊎ (over patches pid vpn (page_in t.disk.images pid vpn) ≡ (sides_of t).new.page pid vpn) → (page_in (overlaid patches t.disk.images) pid vpn ≡ t.plain.page pid vpn) ⊎ (page_in (overlaid patches t.disk.images) pid vpn ≡ (sides_of t).new.page pid vpn)
        after_page (inl e) = inl (page_after lost t m k patches may middle number up from to what pid vpn ∙ e)
        after_page (inr e) = inr (page_after lost t m k patches may middle number up from to what pid vpn ∙ e)

        by : (b : Bool) → owns t.owners g.memory.0 pid (vpn / 512) ≡ b → (cond b (page_in t.disk.images pid vpn) None ≡ cond b (t.plain.page pid vpn) None) ⊎ (cond b (page_in t.disk.images pid vpn) None ≡ cond b ((sides_of t).new.page pid vpn) None) → (cond b (page_in (overlaid patches t.disk.images) pid vpn) None ≡ cond b (t.plain.page pid vpn) None) ⊎ (cond b (page_in (overlaid patches t.disk.images) pid vpn) None ≡ cond b ((sides_of t).new.page pid vpn) None)
        by false none either = inl refl
        by true owned either = after_page (mine owned either)

    of_batch : Middle lost (record (taken t) { disk = (stored t.disk m).0; owed = (stored t.disk m).1 })
    of_batch = subst (λ (told : Body). Middle lost (record (taken t) { disk = (stored_body t.disk m told).0; owed = (stored_body t.disk m told).1 })) (sym what)
        (file_keeps (record { images = overlaid patches t.disk.images; files = t.disk.files }) (record { from = place.Storage; to = m.from; op = m.op; body = body.BackedUp } ∷ []) (backup_gives lost t m k patches may middle number up from to what) (refl, tt) images_backed)

  pub storage_comes : Middle lost (record (taken t) { disk = (stored t.disk m).0; owed = (stored t.disk m).1 })
  storage_comes = by pends.kind
    where
      by : Pends lost (memory_count t.shape) t.plain t.current (healing_move t.healing) t.next m → Middle lost (record (taken t) { disk = (stored t.disk m).0; owed = (stored t.disk m).1 })
      by (OfOperation of) = of_operation t.current refl of
      by (OfMove of) = absurd (not_of_move m (healing_move t.healing) of not_move)
      by (Left old) = let both : false ≡ true = ap is_issuer (sym to) ∙ old.to in cc both
      by (OfBackground of) = batch_ of.batch
        where
          batch_ : IsBatch m of.of → Middle lost (record (taken t) { disk = (stored t.disk m).0; owed = (stored t.disk m).1 })
          batch_ (Goes from to' patches what) = of_batch of.of patches of.number of.up from what
          batch_ (Returns from to' what) = absurd (memory_no_storage of.of (sym to' ∙ to))
