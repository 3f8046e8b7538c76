-- Operations that unmap pages of a region: its areas become others at the owner and its secondary, the pages go at the
-- owner, and their images at storage.
use Rattle.std.proofs.Common.{◌≡◌, ◌/◌, ◌<◌, ◌==◌, ◌&&◌, ◌||◌, [], ◌∷◌, ◌∙◌, ℕ, Bool, List, None, Option, Some, ap, false, refl, sym, true}
use Rattle.lego_base.specs.Keys.{is_page_from, key_at, without}
use Rattle.lego_base.specs.declared.ids.MemId.{MemId}
use Rattle.lego_base.specs.declared.ids.Pid.{Pid}
use Rattle.lego_base.specs.declared.ids.RegionNo.{RegionNo}
use Rattle.lego_base.specs.declared.ids.Vpn.{Vpn}
use Rattle.lego_base.specs.declared.records.Area.{Area}
use Rattle.lego_msg.specs.Granted.{UnmapFits}
use Rattle.lego_msg.specs.Maps.{areas_at, page_in, page_key, with_areas}
use Rattle.lego_msg.specs.Places.{is_among, memory, secondary_of}
use Rattle.lego_msg.specs.Plain.{with_region, without_pages}
use Rattle.lego_msg.specs.State.{Kept, Mem}
use Rattle.lego_msg.specs.Track.{Track, memory_count}
use Rattle.lego_msg.specs.declared.message.Message.{Message}
use Rattle.lego_msg.specs.declared.operation.Open.{Open}
use Rattle.lego_msg.specs.declared.operation.Operation.TheVariants.{Unmaps}
use Rattle.lego_msg.specs.declared.place.Place.{Place}
use Rattle.lego_msg.specs.declared.place.Role.TheVariants.{Main, Spare}
use Rattle.lego_rest.specs.Fits.{KeptFits, MemFits}
use Rattle.lego_rest.specs.Parts.{Areas, Cell, Home, Page, new_share, owns, part_of, second_part, share, sides_of}
use Rattle.rest_laws.proofs.Changed.{same_unmapped}
use Rattle.rest_laws.proofs.Delivered.{speaks_of}
use Rattle.rest_laws.proofs.Lookup.{areas-with}
use Rattle.rest_laws.proofs.Meeting.{met_fits, met_main, met_open, met_second}
use Rattle.rest_laws.proofs.Replied.{all_new, keeping, replied}
use Rattle.rest_laws.proofs.kinds.Cells.{agreed, areas_form, areas_rise, fewer_pages, gone_cell, owns_this, page_without, pages_left_fit, set_cell}
use Rattle.rest_laws.proofs.kinds.Images.{images_gone}
use Rattle.rest_laws.proofs.kinds.Kind.{KindRows, MemoryGives, StorageGives, here, rows_of, there}
use Rattle.rest_laws.proofs.kinds.Twice.{first_two, is_guarded, own_stays, seconds_stay}
use Rattle.lego_msg.specs.declared.body.Body.TheVariants as body
use Rattle.lego_msg.specs.declared.place.Place.TheVariants as place

-- storage is the third target
pub third : (a b : Place) → is_among place.Storage (a ∷ b ∷ place.Storage ∷ []) ≡ true
third a b = by (is_among place.Storage (a ∷ [])) (is_among place.Storage (b ∷ []))
  where
    last : (x y : Bool) → (x || (y || true)) ≡ true
    last true y = refl
    last false true = refl
    last false false = refl

    by : (x y : Bool) → is_among place.Storage (a ∷ b ∷ place.Storage ∷ []) ≡ true
    by x y = last _ _

module _ (lost : Option ℕ) (t : Track) (o : Open) (pid : Pid) (region : RegionNo) (first : Vpn) (pages : ℕ) (areas : List Area) (owner : MemId) where
  abbrev unmapping : Open
  unmapping = record o { operation = Unmaps pid region first pages areas owner }

  abbrev second : ℕ
  second = secondary_of (memory_count t.shape) owner.0

  abbrev main_message : Message
  main_message = record { from = o.by; to = memory owner.0; op = o.number; body = body.Unmap pid region first pages areas Main }

  abbrev spare_message : Message
  spare_message = record { from = o.by; to = memory second; op = o.number; body = body.Unmap pid region first pages areas Spare }

  abbrev image_message : Message
  image_message = record { from = o.by; to = place.Storage; op = o.number; body = body.ImageDrop pid first pages }

  abbrev with_list : Kept → Kept
  with_list k = record { homes = k.homes; areas = with_areas pid region areas k.areas }

  module _ (fits : UnmapFits t.owners t.plain pid.0 region.0 first.0 pages areas owner) (below : owner.0 < memory_count t.shape) where
    list_fits : (k : Kept) → KeptFits k → KeptFits (with_list k)
    list_fits k was = record { homes = was.homes; areas = areas_rise pid region areas k.areas was.areas; lists = areas_form pid region areas k.areas fits.form was.lists }

    other : (j : ℕ) → (j ≡ owner.0 → ⊥) → (c : Cell) → share (memory_count t.shape) t.owners t.plain j c ≡ share (memory_count t.shape) t.owners (without_pages pid.0 first.0 pages (with_region pid.0 region.0 areas t.plain)) j c
    other j differ c = same_unmapped (memory_count t.shape) t.owners t.plain pid.0 region.0 first.0 pages areas owner j fits differ c

    owned_by : (j : ℕ) → owner.0 ≡ j → (p r : ℕ) → (pid.0 == p && region.0 == r) ≡ true → owns t.owners j p r ≡ true
    owned_by j is p r this = ap (λ (q : ℕ). owns t.owners q p r) (sym is) ∙ owns_this t.owners pid.0 region.0 p r owner fits.owned this

    at_owner : (s : Mem) → MemoryGives lost t unmapping owner.0 s main_message
    at_owner s met = replied lost t unmapping owner.0 s main_message met (with_list s.main) s.spare (without page_key (is_page_from pid.0 first.0 pages) s.pages) body.Done refl
        (ap (is_among (memory owner.0)) (met_open lost t unmapping owner.0 s main_message met).targets ∙ (first_two (memory_count t.shape) owner.0 (place.Storage ∷ [])).1) refl (λ b. refl)
        (list_fits s.main was.main) was.spare (pages_left_fit (is_page_from pid.0 first.0 pages) s.pages was.pages) (fewer_pages (is_page_from pid.0 first.0 pages) s.pages s.frames was.frames)
        (all_new t unmapping true owner.0 s (with_list s.main) s.spare (without page_key (is_page_from pid.0 first.0 pages) s.pages) own seconds)
      where
        was : MemFits t.shape owner.0 s
        was = met_fits lost t unmapping owner.0 s main_message met

        own : (c : Cell) → part_of (with_list s.main) (without page_key (is_page_from pid.0 first.0 pages) s.pages) c ≡ new_share (sides_of (record t { current = Some unmapping })) owner.0 c
        own (Home p r) = agreed _ _ _ refl (met_main lost t unmapping owner.0 s main_message met (Home p r))
        own (Areas p r) = areas-with pid region areas s.main.areas p r ∙ set_cell (pid.0 == p && region.0 == r) (owns t.owners owner.0 p r) areas (areas_at s.main.areas p r) (t.plain.areas p r) [] (owned_by owner.0 refl p r) (met_main lost t unmapping owner.0 s main_message met (Areas p r))
        own (Page p vpn) = page_without (is_page_from pid.0 first.0 pages) s.pages p vpn ∙ gone_cell (is_page_from pid.0 first.0 pages (key_at p vpn)) (owns t.owners owner.0 p (vpn / 512)) (page_in s.pages p vpn) (t.plain.page p vpn) None (met_main lost t unmapping owner.0 s main_message met (Page p vpn))

        seconds : (j : ℕ) → j < memory_count t.shape → secondary_of (memory_count t.shape) j ≡ owner.0 → (c : Cell) → speaks_of false c ≡ true → second_part t.owners t.disk.images j (keeping s (with_list s.main) s.spare (without page_key (is_page_from pid.0 first.0 pages) s.pages)) c ≡ new_share (sides_of (record t { current = Some unmapping })) j c
        seconds j less is (Home p r) speaks = seconds_stay lost t unmapping owner.0 below other s main_message met j less is (Home p r)
        seconds j less is (Areas p r) speaks = seconds_stay lost t unmapping owner.0 below other s main_message met j less is (Areas p r)
        seconds j less is (Page p vpn) speaks = cc speaks

    at_second : (s : Mem) → MemoryGives lost t unmapping second s spare_message
    at_second s met = replied lost t unmapping second s spare_message met s.main (with_list s.spare) s.pages body.Done refl
        (ap (is_among (memory second)) (met_open lost t unmapping second s spare_message met).targets ∙ (first_two (memory_count t.shape) owner.0 (place.Storage ∷ [])).0) refl (λ b. refl) was.main (list_fits s.spare was.spare) was.pages was.frames
        (all_new t unmapping true second s s.main (with_list s.spare) s.pages (own_stays lost t unmapping owner.0 below other s spare_message met) seconds)
      where
        was : MemFits t.shape second s
        was = met_fits lost t unmapping second s spare_message met

        seconds : (j : ℕ) → j < memory_count t.shape → secondary_of (memory_count t.shape) j ≡ second → (c : Cell) → speaks_of false c ≡ true → second_part t.owners t.disk.images j (keeping s s.main (with_list s.spare) s.pages) c ≡ new_share (sides_of (record t { current = Some unmapping })) j c
        seconds j less is (Home p r) speaks = agreed _ _ _ refl (met_second lost t unmapping second s spare_message met j less is (Home p r))
        seconds j less is (Areas p r) speaks = areas-with pid region areas s.spare.areas p r ∙ set_cell (pid.0 == p && region.0 == r) (owns t.owners j p r) areas (areas_at s.spare.areas p r) (t.plain.areas p r) [] (owned_by j (is_guarded lost t unmapping owner.0 below other met.middle.machine.two j less is) p r) (met_second lost t unmapping second s spare_message met j less is (Areas p r))
        seconds j less is (Page p vpn) speaks = cc speaks

    at_storage : StorageGives lost t unmapping image_message
    at_storage reaches = images_gone lost t unmapping image_message reaches (is_page_from pid.0 first.0 pages) (ap (is_among place.Storage) reaches.middle.current.0.targets ∙ third (memory second) (memory owner.0)) refl refl (λ k s at. reaches.middle.current.1 k s at) (λ p vpn. refl)

    pub unmaps_rows : KindRows lost t unmapping
    unmaps_rows = rows_of lost t unmapping (λ to what how. how) (λ m how. how) (here lost t unmapping spare_message second refl at_second, (here lost t unmapping main_message owner.0 refl at_owner, (there lost t unmapping image_message refl at_storage, tt)))
