-- Operations that copy regions for a child: areas at the owner and its secondary, pages at the owner, images at storage.
use Rattle.std.proofs.Common.{◌≡◌, ◌⊎◌, ◌/◌, ◌<◌, ◌==◌, ◌&&◌, ◌||◌, [], ◌∷◌, ◌∙◌, ℕ, Bool, List, None, Option, Some, ap, cond, false, inl, inr, leb, length, refl, slice_get, subst, sym, true}
use Rattle.std.proofs.lemmas.Bool.{eq-eqb, eqb-true, leb-true}
use Rattle.std.specs.List.{AllByRecursion}
use Rattle.lego_base.specs.declared.ids.MemId.{MemId}
use Rattle.lego_base.specs.declared.ids.Pid.{Pid}
use Rattle.lego_base.specs.declared.ids.RegionNo.{RegionNo}
use Rattle.lego_base.specs.declared.records.Area.{Area}
use Rattle.lego_base.specs.declared.records.HomeEntry.{HomeEntry}
use Rattle.lego_base.specs.declared.records.Patch.{Patch}
use Rattle.lego_msg.specs.Granted.{CopyFits, is_region_in}
use Rattle.lego_msg.specs.Maps.{areas_at, copied_areas, copied_pages, owner_of, page_in}
use Rattle.lego_msg.specs.Places.{home_of, is_among, memory, secondary_of}
use Rattle.lego_msg.specs.Plain.{Plain, with_region_of, with_regions_of}
use Rattle.lego_msg.specs.State.{Kept, Mem}
use Rattle.lego_msg.specs.Table.{answers}
use Rattle.lego_msg.specs.Track.{Track, memory_count}
use Rattle.lego_msg.specs.declared.message.Message.{Message}
use Rattle.lego_msg.specs.declared.operation.Open.{Open}
use Rattle.lego_msg.specs.declared.operation.Operation.TheVariants.{Copies}
use Rattle.lego_msg.specs.declared.place.Role.TheVariants.{Main, Spare}
use Rattle.lego_rest.specs.Fits.{KeptFits, MemFits, over}
use Rattle.lego_rest.specs.Parts.{Areas, Cell, Home, IsEither, Page, is_owner, new_share, owns, part_of, second_part, share, sides_of}
use Rattle.lego_rest.specs.Pending.{IsUp}
use Rattle.rest_laws.proofs.Copying.{same_copied}
use Rattle.rest_laws.proofs.Delivered.{RowGives, speaks_of}
use Rattle.rest_laws.proofs.Lookup.{page-overlaid}
use Rattle.rest_laws.proofs.Meeting.{met_fits, met_main, met_open, met_second}
use Rattle.rest_laws.proofs.Noted.{eqb_sym}
use Rattle.rest_laws.proofs.Pages.{untouched}
use Rattle.rest_laws.proofs.Replied.{all_new, keeping, none_changes, replied}
use Rattle.rest_laws.proofs.Truth.{both_true, some_none}
use Rattle.rest_laws.proofs.kinds.Asking.{owner_owns}
use Rattle.rest_laws.proofs.kinds.Cells.{agreed}
use Rattle.rest_laws.proofs.kinds.Copied.{areas_copied_in, copied_fit, copied_form, copied_rise, pages_copied_in, plain_areas_in, plain_pages_in}
use Rattle.rest_laws.proofs.Bare.{calm_on, clear_images}
use Rattle.rest_laws.proofs.kinds.Images.{clear_of, imaged}
use Rattle.rest_laws.proofs.kinds.Kind.{KindRows, MemoryGives, StorageGives, here, rows_of, there}
use Rattle.rest_laws.proofs.kinds.Twice.{first_two, is_guarded, own_stays, seconds_stay}
use Rattle.rest_laws.proofs.kinds.Unmapping.{third}
use Rattle.lego_msg.specs.declared.body.Body.TheVariants as body
use Rattle.lego_msg.specs.declared.place.Place.TheVariants as place
use Rattle.lego_msg.specs.declared.place.Why.TheVariants as why

-- a cell that is copied: both memories' regions are this one's, and the parent's is as it was
copied_cell : {X : Type 0} (this keep keep' : Bool) (from was source old nothing : X) → (this ≡ true → keep ≡ true) → (this ≡ true → keep' ≡ true) → from ≡ cond keep' source nothing →
    (was ≡ cond keep old nothing) ⊎ (was ≡ cond keep (cond this source old) nothing) → cond this from was ≡ cond keep (cond this source old) nothing
copied_cell true true true from was source old nothing kept kept' is either = is
copied_cell true true false from was source old nothing kept kept' is either = let both : false ≡ true = kept' refl in cc both
copied_cell true false keep' from was source old nothing kept kept' is either = let both : false ≡ true = kept refl in cc both
copied_cell false keep keep' from was source old nothing kept kept' is (inl e) = e
copied_cell false keep keep' from was source old nothing kept kept' is (inr e) = e

-- who owns a region that is copied
copy_owned : (owners : List HomeEntry) (parent child : ℕ) (owner : MemId) (regions : List RegionNo) (q : ℕ) → CopyFits owners parent child owner regions → is_region_in q regions ≡ true → (owner_of owners parent q ≡ Some owner) × (owner_of owners child q ≡ Some owner)
copy_owned owners parent child owner [] q fits is = cc is
copy_owned owners parent child owner (r ∷ regions) q fits is = by (r.0 == q) refl is (copy_owned owners parent child owner regions q fits.2)
  where
    by : (b : Bool) → (r.0 == q) ≡ b → (b || is_region_in q regions) ≡ true → (is_region_in q regions ≡ true → (owner_of owners parent q ≡ Some owner) × (owner_of owners child q ≡ Some owner)) → (owner_of owners parent q ≡ Some owner) × (owner_of owners child q ≡ Some owner)
    by true e is rest = (subst (λ (k : ℕ). owner_of owners parent k ≡ Some owner) (eqb-true r.0 q e) fits.0, subst (λ (k : ℕ). owner_of owners child k ≡ Some owner) (eqb-true r.0 q e) fits.1)
    by false e is rest = rest is

homes_stay : (parent child : ℕ) (regions : List RegionNo) (f : Plain) (p r : ℕ) → f.homes p r ≡ (with_regions_of parent child regions f).homes p r
homes_stay parent child [] f p r = refl
homes_stay parent child (q ∷ regions) f p r = homes_stay parent child regions (with_region_of parent child q.0 f) p r

files_stay : (parent child : ℕ) (regions : List RegionNo) (f : Plain) → (with_regions_of parent child regions f).files ≡ f.files
files_stay parent child [] f = refl
files_stay parent child (r ∷ regions) f = files_stay parent child regions (with_region_of parent child r.0 f)

module _ (lost : Option ℕ) (t : Track) (o : Open) (parent child : Pid) (regions : List RegionNo) (owner : MemId) where
  abbrev copying : Open
  copying = record o { operation = Copies parent child regions owner }

  abbrev second : ℕ
  second = secondary_of (memory_count t.shape) owner.0

  abbrev main_message : Message
  main_message = record { from = o.by; to = memory owner.0; op = o.number; body = body.CopySpace parent child regions Main }

  abbrev spare_message : Message
  spare_message = record { from = o.by; to = memory second; op = o.number; body = body.CopySpace parent child regions Spare }

  abbrev image_message : Message
  image_message = record { from = o.by; to = place.Storage; op = o.number; body = body.ImageCopy parent child regions }

  abbrev with_copies : Kept → Kept
  with_copies k = record { homes = k.homes; areas = copied_areas parent.0 child regions k.areas }

  abbrev after : Plain
  after = with_regions_of parent.0 child.0 regions t.plain

  module _ (differ : (parent.0 == child.0) ≡ false) (fits : CopyFits t.owners parent.0 child.0 owner regions) (below : owner.0 < memory_count t.shape) where
    apart : (child.0 == parent.0) ≡ false
    apart = eqb_sym child.0 parent.0 ∙ differ

    copies_fit : (k : Kept) → KeptFits k → KeptFits (with_copies k)
    copies_fit k was = record { homes = was.homes; areas = copied_rise parent.0 child regions k.areas was.areas; lists = copied_form parent.0 child regions k.areas was.lists }

    other : (j : ℕ) → (j ≡ owner.0 → ⊥) → (c : Cell) → share (memory_count t.shape) t.owners t.plain j c ≡ share (memory_count t.shape) t.owners after j c
    other j elsewhere c = same_copied (memory_count t.shape) t.owners parent.0 child.0 regions t.plain owner j fits elsewhere c

    -- the regions that are copied are this memory's
    owned : (j : ℕ) → owner.0 ≡ j → (p q : ℕ) → (child.0 == p && is_region_in q regions) ≡ true → (owns t.owners j p q ≡ true) × (owns t.owners j parent.0 q ≡ true)
    owned j is p q this =
        let both = both_true (child.0 == p) (is_region_in q regions) this in
        let two_ = copy_owned t.owners parent.0 child.0 owner regions q fits both.1 in (
          ap (λ (k : ℕ). owns t.owners k p q) (sym is) ∙ owner_owns t.owners p q owner (ap (λ (k : ℕ). owner_of t.owners k q) (sym (eqb-true child.0 p both.0)) ∙ two_.1),
          ap (λ (k : ℕ). owns t.owners k parent.0 q) (sym is) ∙ owner_owns t.owners parent.0 q owner two_.0,
        )

    -- the parent's regions are as before
    parent_areas : (q : ℕ) → after.areas parent.0 q ≡ t.plain.areas parent.0 q
    parent_areas q = plain_areas_in parent.0 child.0 apart regions t.plain parent.0 q ∙ ap (λ (b : Bool). cond (b && is_region_in q regions) (t.plain.areas parent.0 q) (t.plain.areas parent.0 q)) apart

    parent_pages : (v : ℕ) → after.page parent.0 v ≡ t.plain.page parent.0 v
    parent_pages v = plain_pages_in parent.0 child.0 apart regions t.plain parent.0 v ∙ ap (λ (b : Bool). cond (b && is_region_in (v / 512) regions) (t.plain.page parent.0 v) (t.plain.page parent.0 v)) apart

    -- cells of a memory j whose lists are copied
    areas_new : (j : ℕ) → owner.0 ≡ j → (held : ℕ → ℕ → List Area) → ((p q : ℕ) → (held p q ≡ cond (owns t.owners j p q) (t.plain.areas p q) []) ⊎ (held p q ≡ cond (owns t.owners j p q) (after.areas p q) [])) → (p q : ℕ) → cond (child.0 == p && is_region_in q regions) (held parent.0 q) (held p q) ≡ cond (owns t.owners j p q) (after.areas p q) []
    areas_new j is held either p q =
        copied_cell (child.0 == p && is_region_in q regions) (owns t.owners j p q) (owns t.owners j parent.0 q) (held parent.0 q) (held p q) (t.plain.areas parent.0 q) (t.plain.areas p q) [] (λ this. (owned j is p q this).0) (λ this. (owned j is p q this).1)
        (agreed (held parent.0 q) (cond (owns t.owners j parent.0 q) (after.areas parent.0 q) []) (cond (owns t.owners j parent.0 q) (t.plain.areas parent.0 q) []) (ap (λ (l : List Area). cond (owns t.owners j parent.0 q) l []) (parent_areas q)) (turned (either parent.0 q)))
        (there_ (either p q))
        ∙ ap (λ (l : List Area). cond (owns t.owners j p q) l []) (sym (plain_areas_in parent.0 child.0 apart regions t.plain p q))
      where
        turned : {A B : Type 0} → A ⊎ B → B ⊎ A
        turned (inl a) = inr a
        turned (inr b) = inl b

        there_ : (held p q ≡ cond (owns t.owners j p q) (t.plain.areas p q) []) ⊎ (held p q ≡ cond (owns t.owners j p q) (after.areas p q) []) → (held p q ≡ cond (owns t.owners j p q) (t.plain.areas p q) []) ⊎ (held p q ≡ cond (owns t.owners j p q) (cond (child.0 == p && is_region_in q regions) (t.plain.areas parent.0 q) (t.plain.areas p q)) [])
        there_ (inl e) = inl e
        there_ (inr e) = inr (e ∙ ap (λ (l : List Area). cond (owns t.owners j p q) l []) (plain_areas_in parent.0 child.0 apart regions t.plain p q))

    pub pages_new : (held : ℕ → ℕ → Option (List ℕ)) → ((p v : ℕ) → (held p v ≡ cond (owns t.owners owner.0 p (v / 512)) (t.plain.page p v) None) ⊎ (held p v ≡ cond (owns t.owners owner.0 p (v / 512)) (after.page p v) None)) → (p v : ℕ) → cond (child.0 == p && is_region_in (v / 512) regions) (held parent.0 v) (held p v) ≡ cond (owns t.owners owner.0 p (v / 512)) (after.page p v) None
    pages_new held either p v =
        copied_cell (child.0 == p && is_region_in (v / 512) regions) (owns t.owners owner.0 p (v / 512)) (owns t.owners owner.0 parent.0 (v / 512)) (held parent.0 v) (held p v) (t.plain.page parent.0 v) (t.plain.page p v) None (λ this. (owned owner.0 refl p (v / 512) this).0) (λ this. (owned owner.0 refl p (v / 512) this).1)
        (agreed (held parent.0 v) (cond (owns t.owners owner.0 parent.0 (v / 512)) (after.page parent.0 v) None) (cond (owns t.owners owner.0 parent.0 (v / 512)) (t.plain.page parent.0 v) None) (ap (λ (l : Option (List ℕ)). cond (owns t.owners owner.0 parent.0 (v / 512)) l None) (parent_pages v)) (turned (either parent.0 v)))
        (there_ (either p v))
        ∙ ap (λ (l : Option (List ℕ)). cond (owns t.owners owner.0 p (v / 512)) l None) (sym (plain_pages_in parent.0 child.0 apart regions t.plain p v))
      where
        turned : {A B : Type 0} → A ⊎ B → B ⊎ A
        turned (inl a) = inr a
        turned (inr b) = inl b

        there_ : (held p v ≡ cond (owns t.owners owner.0 p (v / 512)) (t.plain.page p v) None) ⊎ (held p v ≡ cond (owns t.owners owner.0 p (v / 512)) (after.page p v) None) → (held p v ≡ cond (owns t.owners owner.0 p (v / 512)) (t.plain.page p v) None) ⊎ (held p v ≡ cond (owns t.owners owner.0 p (v / 512)) (cond (child.0 == p && is_region_in (v / 512) regions) (t.plain.page parent.0 v) (t.plain.page p v)) None)
        there_ (inl e) = inl e
        there_ (inr e) = inr (e ∙ ap (λ (l : Option (List ℕ)). cond (owns t.owners owner.0 p (v / 512)) l None) (plain_pages_in parent.0 child.0 apart regions t.plain p v))

    at_owner : (s : Mem) → MemoryGives lost t copying owner.0 s main_message
    at_owner s met = by (leb (length (copied_pages parent.0 child regions s.pages)) s.frames) refl
      where
        was : MemFits t.shape owner.0 s
        was = met_fits lost t copying owner.0 s main_message met

        target : is_among (memory owner.0) o.targets ≡ true
        target = ap (is_among (memory owner.0)) (met_open lost t copying owner.0 s main_message met).targets ∙ (first_two (memory_count t.shape) owner.0 (place.Storage ∷ [])).1

        own : (c : Cell) → part_of (with_copies s.main) (copied_pages parent.0 child regions s.pages) c ≡ new_share (sides_of (record t { current = Some copying })) owner.0 c
        own (Home p r) = agreed _ _ _ (ap (λ (h : Option MemId). cond (home_of (memory_count t.shape) p == owner.0) h None) (homes_stay parent.0 child.0 regions t.plain p r)) (met_main lost t copying owner.0 s main_message met (Home p r))
        own (Areas p q) = areas_copied_in parent.0 child apart regions s.main.areas p q ∙ areas_new owner.0 refl (areas_at s.main.areas) (λ p q. met_main lost t copying owner.0 s main_message met (Areas p q)) p q
        own (Page p v) = pages_copied_in parent.0 child apart regions s.pages p v was.pages ∙ pages_new (page_in s.pages) (λ p v. met_main lost t copying owner.0 s main_message met (Page p v)) p v

        seconds : (j : ℕ) → j < memory_count t.shape → secondary_of (memory_count t.shape) j ≡ owner.0 → (c : Cell) → speaks_of false c ≡ true → second_part t.owners t.disk.images j (keeping s (with_copies s.main) s.spare (copied_pages parent.0 child regions s.pages)) c ≡ new_share (sides_of (record t { current = Some copying })) j c
        seconds j less is (Home p r) speaks = seconds_stay lost t copying owner.0 below other s main_message met j less is (Home p r)
        seconds j less is (Areas p r) speaks = seconds_stay lost t copying owner.0 below other s main_message met j less is (Areas p r)
        seconds j less is (Page p vpn) speaks = cc speaks

        by : (b : Bool) → leb (length (copied_pages parent.0 child regions s.pages)) s.frames ≡ b → RowGives lost t copying owner.0 s (cond b (answers (keeping s (with_copies s.main) s.spare (copied_pages parent.0 child regions s.pages)) main_message body.Done) (answers s main_message (body.Refused why.Full))).0 (cond b (answers (keeping s (with_copies s.main) s.spare (copied_pages parent.0 child regions s.pages)) main_message body.Done) (answers s main_message (body.Refused why.Full))).1
        by true room = replied lost t copying owner.0 s main_message met (with_copies s.main) s.spare (copied_pages parent.0 child regions s.pages) body.Done refl target (inl refl) (λ b. refl)
            (copies_fit s.main was.main) was.spare (copied_fit parent.0 child regions s.pages was.pages) (leb-true (length (copied_pages parent.0 child regions s.pages)) s.frames room)
            (all_new t copying true owner.0 s (with_copies s.main) s.spare (copied_pages parent.0 child regions s.pages) own seconds)
        by false full = replied lost t copying owner.0 s main_message met s.main s.spare s.pages (body.Refused why.Full) refl target (inr (inl refl)) (λ b. refl) was.main was.spare was.pages was.frames (none_changes t copying false owner.0 s refl)

    at_second : (s : Mem) → MemoryGives lost t copying second s spare_message
    at_second s met = replied lost t copying second s spare_message met s.main (with_copies s.spare) s.pages body.Done refl
        (ap (is_among (memory second)) (met_open lost t copying second s spare_message met).targets ∙ (first_two (memory_count t.shape) owner.0 (place.Storage ∷ [])).0) (inl refl) (λ b. refl) was.main (copies_fit s.spare was.spare) was.pages was.frames
        (all_new t copying true second s s.main (with_copies s.spare) s.pages (own_stays lost t copying owner.0 below other s spare_message met) seconds)
      where
        was : MemFits t.shape second s
        was = met_fits lost t copying second s spare_message met

        seconds : (j : ℕ) → j < memory_count t.shape → secondary_of (memory_count t.shape) j ≡ second → (c : Cell) → speaks_of false c ≡ true → second_part t.owners t.disk.images j (keeping s s.main (with_copies s.spare) s.pages) c ≡ new_share (sides_of (record t { current = Some copying })) j c
        seconds j less is (Home p r) speaks = agreed _ _ _ (ap (λ (h : Option MemId). cond (home_of (memory_count t.shape) p == j) h None) (homes_stay parent.0 child.0 regions t.plain p r)) (met_second lost t copying second s spare_message met j less is (Home p r))
        seconds j less is (Areas p q) speaks = areas_copied_in parent.0 child apart regions s.spare.areas p q ∙ areas_new j (is_guarded lost t copying owner.0 below other met.middle.machine.two j less is) (areas_at s.spare.areas) (λ p q. met_second lost t copying second s spare_message met j less is (Areas p q)) p q
        seconds j less is (Page p vpn) speaks = cc speaks

    -- IMAGES
    abbrev concerned : ℕ → ℕ → Bool
    concerned p v = (parent.0 == p || child.0 == p) && is_region_in (v / 512) regions

    at_storage : StorageGives lost t copying image_message
    at_storage reaches = imaged lost t copying image_message reaches concerned (copied_pages parent.0 child regions t.disk.images)
        (ap (is_among place.Storage) reaches.middle.current.0.targets ∙ third (memory second) (memory owner.0)) (inl refl) (files_stay parent.0 child.0 regions t.plain) (λ k s at. reaches.middle.current.1 k s at) same new bare absent (copied_fit parent.0 child regions t.disk.images reaches.middle.disk.form)
      where
        found : (p v : ℕ) → page_in (copied_pages parent.0 child regions t.disk.images) p v ≡ cond (child.0 == p && is_region_in (v / 512) regions) (page_in t.disk.images parent.0 v) (page_in t.disk.images p v)
        found p v = pages_copied_in parent.0 child apart regions t.disk.images p v reaches.middle.disk.form

        same : (p v : ℕ) → concerned p v ≡ false → page_in (copied_pages parent.0 child regions t.disk.images) p v ≡ page_in t.disk.images p v
        same p v none = found p v ∙ by (parent.0 == p) (child.0 == p) (is_region_in (v / 512) regions) none
          where
            by : (a b c : Bool) → ((a || b) && c) ≡ false → cond (b && c) (page_in t.disk.images parent.0 v) (page_in t.disk.images p v) ≡ page_in t.disk.images p v
            by a false c e = refl
            by a true false e = refl
            by true true true e = cc e
            by false true true e = cc e

        bare : (j : ℕ) → j < memory_count t.shape → lost ≡ Some (secondary_of (memory_count t.shape) j) → (p v : ℕ) → owns t.owners j p (v / 512) ≡ true → (page_in (copied_pages parent.0 child regions t.disk.images) p v ≡ page_in t.disk.images p v) ⊎ (page_in (copied_pages parent.0 child regions t.disk.images) p v ≡ after.page p v)
        bare j less is p v mine = by (child.0 == p && is_region_in (v / 512) regions) refl
          where
            by : (b : Bool) → (child.0 == p && is_region_in (v / 512) regions) ≡ b → (page_in (copied_pages parent.0 child regions t.disk.images) p v ≡ page_in t.disk.images p v) ⊎ (page_in (copied_pages parent.0 child regions t.disk.images) p v ≡ after.page p v)
            by false other = inl (found p v ∙ ap (λ (b : Bool). cond b (page_in t.disk.images parent.0 v) (page_in t.disk.images p v)) other)
            by true this =
                let both = both_true (child.0 == p) (is_region_in (v / 512) regions) this in
                let owners_ = copy_owned t.owners parent.0 child.0 owner regions (v / 512) fits both.1 in
                let of_parent : owns t.owners j parent.0 (v / 512) ≡ true = ap (is_owner j) (owners_.0 ∙ sym owners_.1) ∙ ap (λ (q : ℕ). owns t.owners j q (v / 512)) (eqb-true child.0 p both.0) ∙ mine in
                inr (found p v ∙ ap (λ (b : Bool). cond b (page_in t.disk.images parent.0 v) (page_in t.disk.images p v)) this
                ∙ source of_parent (clear_images lost (record t { current = Some copying }) j (calm_on (record t { current = Some copying }) reaches.may.calm) less is reaches.middle parent.0 v (concerned_parent both.1) of_parent)
                ∙ sym (plain_pages_in parent.0 child.0 apart regions t.plain p v ∙ ap (λ (b : Bool). cond b (t.plain.page parent.0 v) (t.plain.page p v)) this))
              where
                concerned_parent : is_region_in (v / 512) regions ≡ true → concerned parent.0 v ≡ true
                concerned_parent inside = (λ i. (eq-eqb parent.0 parent.0 refl i || child.0 == parent.0) && inside i)

                source : owns t.owners j parent.0 (v / 512) ≡ true → IsEither (sides_of (record t { current = Some copying })) j (Page parent.0 v) (page_in t.disk.images parent.0 v) → page_in t.disk.images parent.0 v ≡ t.plain.page parent.0 v
                source of_parent (inl e) = e ∙ ap (λ (b : Bool). cond b (t.plain.page parent.0 v) None) of_parent
                source of_parent (inr e) = e ∙ ap (λ (b : Bool). cond b (after.page parent.0 v) None) of_parent ∙ parent_pages v

        absent : (p v : ℕ) → owner_of t.owners p (v / 512) ≡ None → page_in (copied_pages parent.0 child regions t.disk.images) p v ≡ None
        absent p v none = found p v ∙ by (child.0 == p && is_region_in (v / 512) regions) refl
          where
            by : (b : Bool) → (child.0 == p && is_region_in (v / 512) regions) ≡ b → cond b (page_in t.disk.images parent.0 v) (page_in t.disk.images p v) ≡ None
            by true this =
                let both = both_true (child.0 == p) (is_region_in (v / 512) regions) this in
                let owner_is = (copy_owned t.owners parent.0 child.0 owner regions (v / 512) fits both.1).1 in
                absurd (some_none owner (sym owner_is ∙ ap (λ (q : ℕ). owner_of t.owners q (v / 512)) (eqb-true child.0 p both.0) ∙ none))
            by false other = reaches.middle.disk.images p v none

        new : (j : ℕ) (x : Mem) → j < memory_count t.shape → IsUp lost (secondary_of (memory_count t.shape) j) → slice_get t.mems (secondary_of (memory_count t.shape) j) ≡ Some x → (p v : ℕ) → second_part t.owners (copied_pages parent.0 child regions t.disk.images) j x (Page p v) ≡ new_share (sides_of (record t { current = Some copying })) j (Page p v)
        new j x less up at p v =
            ap (λ (page : Option (List ℕ)). cond (owns t.owners j p (v / 512)) page None) (page-overlaid x.log (copied_pages parent.0 child regions t.disk.images) p v ∙ ap (over x.log p v) (found p v))
            ∙ by (child.0 == p && is_region_in (v / 512) regions) refl
            ∙ ap (λ (page : Option (List ℕ)). cond (owns t.owners j p (v / 512)) page None) (sym (plain_pages_in parent.0 child.0 apart regions t.plain p v))
          where
            clear : AllByRecursion (λ (q : Patch). concerned q.pid.0 q.vpn.0 ≡ false) x.log
            clear = reaches.middle.current.1 (secondary_of (memory_count t.shape) j) x at

            either : (p v : ℕ) → IsEither (sides_of (record t { current = Some copying })) j (Page p v) (second_part t.owners t.disk.images j x (Page p v))
            either p v = (reaches.middle.seconds j x less up at).part.either (Page p v)

            concerns : (a b c : Bool) → ((a ≡ true) ⊎ (b ≡ true)) → c ≡ true → ((a || b) && c) ≡ true
            concerns true b true e f = refl
            concerns false true true e f = refl
            concerns false false true (inl e) f = cc e
            concerns false false true (inr e) f = cc e
            concerns a b false e f = by_false a b f
              where
                by_false : (a b : Bool) → false ≡ true → ((a || b) && false) ≡ true
                by_false a b f = cc f

            -- the parent's page, of which no log has a patch
            source : is_region_in (v / 512) regions ≡ true → cond (owns t.owners j parent.0 (v / 512)) (page_in t.disk.images parent.0 v) None ≡ cond (owns t.owners j parent.0 (v / 512)) (t.plain.page parent.0 v) None
            source inside =
                ap (λ (page : Option (List ℕ)). cond (owns t.owners j parent.0 (v / 512)) page None) (sym (page-overlaid x.log t.disk.images parent.0 v ∙ untouched x.log parent.0 v (page_in t.disk.images parent.0 v) (clear_of concerned parent.0 v (concerns (parent.0 == parent.0) (child.0 == parent.0) (is_region_in (v / 512) regions) (inl (eq-eqb parent.0 parent.0 refl)) inside) x.log clear)))
                ∙ old (either parent.0 v)
              where
                old : (second_part t.owners t.disk.images j x (Page parent.0 v) ≡ cond (owns t.owners j parent.0 (v / 512)) (t.plain.page parent.0 v) None) ⊎ (second_part t.owners t.disk.images j x (Page parent.0 v) ≡ cond (owns t.owners j parent.0 (v / 512)) (after.page parent.0 v) None) → second_part t.owners t.disk.images j x (Page parent.0 v) ≡ cond (owns t.owners j parent.0 (v / 512)) (t.plain.page parent.0 v) None
                old (inl e) = e
                old (inr e) = e ∙ ap (λ (page : Option (List ℕ)). cond (owns t.owners j parent.0 (v / 512)) page None) (parent_pages v)

            by : (b : Bool) → (child.0 == p && is_region_in (v / 512) regions) ≡ b → cond (owns t.owners j p (v / 512)) (over x.log p v (cond b (page_in t.disk.images parent.0 v) (page_in t.disk.images p v))) None ≡ cond (owns t.owners j p (v / 512)) (cond b (t.plain.page parent.0 v) (t.plain.page p v)) None
            by true this =
                let both = both_true (child.0 == p) (is_region_in (v / 512) regions) this in
                let owners_ = copy_owned t.owners parent.0 child.0 owner regions (v / 512) fits both.1 in
                let alike : owns t.owners j p (v / 512) ≡ owns t.owners j parent.0 (v / 512) = ap (λ (q : ℕ). owns t.owners j q (v / 512)) (sym (eqb-true child.0 p both.0)) ∙ ap (is_owner j) (owners_.1 ∙ sym owners_.0) in
                ap (λ (page : Option (List ℕ)). cond (owns t.owners j p (v / 512)) page None) (untouched x.log p v (page_in t.disk.images parent.0 v) (clear_of concerned p v (concerns (parent.0 == p) (child.0 == p) (is_region_in (v / 512) regions) (inr both.0) both.1) x.log clear))
                ∙ ap (λ (b : Bool). cond b (page_in t.disk.images parent.0 v) None) alike ∙ source both.1 ∙ ap (λ (b : Bool). cond b (t.plain.page parent.0 v) None) (sym alike)
            by false other = ap (λ (page : Option (List ℕ)). cond (owns t.owners j p (v / 512)) page None) (sym (page-overlaid x.log t.disk.images p v)) ∙ old (either p v)
              where
                old : (second_part t.owners t.disk.images j x (Page p v) ≡ cond (owns t.owners j p (v / 512)) (t.plain.page p v) None) ⊎ (second_part t.owners t.disk.images j x (Page p v) ≡ cond (owns t.owners j p (v / 512)) (after.page p v) None) → second_part t.owners t.disk.images j x (Page p v) ≡ cond (owns t.owners j p (v / 512)) (t.plain.page p v) None
                old (inl e) = e
                old (inr e) = e ∙ ap (λ (page : Option (List ℕ)). cond (owns t.owners j p (v / 512)) page None) (plain_pages_in parent.0 child.0 apart regions t.plain p v ∙ ap (λ (b : Bool). cond b (t.plain.page parent.0 v) (t.plain.page p v)) other)

    pub copies_rows : KindRows lost t copying
    copies_rows = rows_of lost t copying (λ to what how. how) (λ m how. how) (here lost t copying spare_message second refl at_second, (here lost t copying main_message owner.0 refl at_owner, (there lost t copying image_message refl at_storage, tt)))
