-- Operations that set the owner of a region at its home, or the areas of a region at its owner.
use Rattle.std.proofs.Common.{◌≡◌, ◌<◌, ◌==◌, ◌&&◌, [], ◌∙◌, ℕ, List, None, Option, Some, ap, false, refl, sym, true}
use Rattle.std.proofs.Math.Nat.{mod-lt}
use Rattle.std.proofs.lemmas.Bool.{eq-eqb, eqb-true}
use Rattle.keyed_list.proofs.Listed.{Rises-put}
use Rattle.lego_base.specs.Keys.{put}
use Rattle.lego_base.specs.declared.ids.MemId.{MemId}
use Rattle.lego_base.specs.declared.ids.Pid.{Pid}
use Rattle.lego_base.specs.declared.ids.RegionNo.{RegionNo}
use Rattle.lego_base.specs.declared.records.Area.{Area}
use Rattle.lego_base.specs.declared.records.HomeEntry.{HomeEntry}
use Rattle.lego_msg.specs.Granted.{AreasFit}
use Rattle.lego_msg.specs.Maps.{areas_at, home_key, owner_of, with_areas}
use Rattle.lego_msg.specs.Places.{home_of, is_among, memory, secondary_of}
use Rattle.lego_msg.specs.Plain.{with_home_of, with_region}
use Rattle.lego_msg.specs.State.{Kept, Mem}
use Rattle.lego_msg.specs.Track.{Track, memory_count}
use Rattle.lego_msg.specs.declared.message.Message.{Message}
use Rattle.lego_msg.specs.declared.operation.Open.{Open}
use Rattle.lego_msg.specs.declared.operation.Operation.TheVariants.{SetsAreas, SetsHome}
use Rattle.lego_msg.specs.declared.place.Role.TheVariants.{Main, Spare}
use Rattle.lego_rest.specs.Fits.{KeptFits, MemFits}
use Rattle.lego_rest.specs.Parts.{Areas, Cell, Home, Page, new_share, owns, part_of, second_part, share, sides_of}
use Rattle.rest_laws.proofs.Changed.{same_areas, same_homes}
use Rattle.rest_laws.proofs.Delivered.{speaks_of}
use Rattle.rest_laws.proofs.Lookup.{areas-with}
use Rattle.rest_laws.proofs.Meeting.{met_fits, met_main, met_open, met_second}
use Rattle.rest_laws.proofs.Replied.{all_new, keeping, replied}
use Rattle.rest_laws.proofs.Truth.{both_true}
use Rattle.rest_laws.proofs.kinds.Cells.{agreed, areas_form, areas_rise, owner_put, owns_this, set_cell}
use Rattle.rest_laws.proofs.kinds.Kind.{KindRows, MemoryGives, here, rows_of}
use Rattle.rest_laws.proofs.kinds.Twice.{first_two, is_guarded, own_stays, seconds_stay}
use Rattle.lego_msg.specs.declared.body.Body.TheVariants as body

module _ (lost : Option ℕ) (t : Track) (o : Open) (below_two : 0 < memory_count t.shape) where
  -- THE OWNER OF A REGION
  module _ (pid : Pid) (region : RegionNo) (owner : MemId) where
    abbrev homing : Open
    homing = record o { operation = SetsHome pid region owner }

    abbrev n : ℕ
    n = memory_count t.shape

    abbrev home : ℕ
    home = home_of (memory_count t.shape) pid.0

    abbrev entry : HomeEntry
    entry = record { pid = pid; region = region; owner = owner }

    abbrev main_message : Message
    main_message = record { from = o.by; to = memory home; op = o.number; body = body.SetHome pid region owner Main }

    abbrev spare_message : Message
    spare_message = record { from = o.by; to = memory (secondary_of (memory_count t.shape) home); op = o.number; body = body.SetHome pid region owner Spare }

    abbrev with_entry : Kept → Kept
    with_entry k = record { homes = put home_key entry k.homes; areas = k.areas }

    entry_fits : (k : Kept) → KeptFits k → KeptFits (with_entry k)
    entry_fits k fits = record { homes = Rises-put home_key entry k.homes fits.homes; areas = fits.areas; lists = fits.lists }

    below : home < memory_count t.shape
    below = mod-lt pid.0 below_two

    elsewhere : (j : ℕ) → (j ≡ home → ⊥) → (c : Cell) → share (memory_count t.shape) t.owners t.plain j c ≡ share (memory_count t.shape) t.owners (with_home_of pid.0 region.0 owner t.plain) j c
    elsewhere j differ c = same_homes (memory_count t.shape) t.owners t.plain pid.0 region.0 owner j differ c

    -- the region's entry is kept at this home
    kept_at : (j : ℕ) → home ≡ j → (p r : ℕ) → (pid.0 == p && region.0 == r) ≡ true → (home_of (memory_count t.shape) p == j) ≡ true
    kept_at j is p r this = eq-eqb (home_of (memory_count t.shape) p) j (ap (home_of (memory_count t.shape)) (sym (eqb-true pid.0 p (both_true (pid.0 == p) (region.0 == r) this).0)) ∙ is)

    at_home : (s : Mem) → MemoryGives lost t homing home s main_message
    at_home s met = replied lost t homing home s main_message met (with_entry s.main) s.spare s.pages body.Done refl (ap (is_among (memory home)) (met_open lost t homing home s main_message met).targets ∙ (first_two n home []).1) refl (λ b. refl) (entry_fits s.main was.main) was.spare was.pages was.frames
        (all_new t homing true home s (with_entry s.main) s.spare s.pages own (λ j less is c speaks. seconds_stay lost t homing home below elsewhere s main_message met j less is c))
      where
        was : MemFits t.shape home s
        was = met_fits lost t homing home s main_message met

        own : (c : Cell) → part_of (with_entry s.main) s.pages c ≡ new_share (sides_of (record t { current = Some homing })) home c
        own (Home p r) = owner_put entry s.main.homes p r ∙ set_cell (pid.0 == p && region.0 == r) (home_of n p == home) (Some owner) (owner_of s.main.homes p r) (t.plain.homes p r) None (kept_at home refl p r) (met_main lost t homing home s main_message met (Home p r))
        own (Areas p r) = agreed _ _ _ refl (met_main lost t homing home s main_message met (Areas p r))
        own (Page p vpn) = agreed _ _ _ refl (met_main lost t homing home s main_message met (Page p vpn))

    at_second : (s : Mem) → MemoryGives lost t homing (secondary_of (memory_count t.shape) home) s spare_message
    at_second s met = replied lost t homing second s spare_message met s.main (with_entry s.spare) s.pages body.Done refl (ap (is_among (memory second)) (met_open lost t homing second s spare_message met).targets ∙ (first_two n home []).0) refl (λ b. refl) was.main (entry_fits s.spare was.spare) was.pages was.frames
        (all_new t homing true second s s.main (with_entry s.spare) s.pages (own_stays lost t homing home below elsewhere s spare_message met) seconds)
      where
        second : ℕ
        second = secondary_of (memory_count t.shape) home

        was : MemFits t.shape (secondary_of (memory_count t.shape) home) s
        was = met_fits lost t homing (secondary_of (memory_count t.shape) home) s spare_message met

        seconds : (j : ℕ) → j < n → secondary_of n j ≡ secondary_of n home → (c : Cell) → speaks_of false c ≡ true → second_part t.owners t.disk.images j (keeping s s.main (with_entry s.spare) s.pages) c ≡ new_share (sides_of (record t { current = Some homing })) j c
        seconds j less is (Home p r) speaks = owner_put entry s.spare.homes p r ∙ set_cell (pid.0 == p && region.0 == r) (home_of n p == j) (Some owner) (owner_of s.spare.homes p r) (t.plain.homes p r) None (kept_at j (is_guarded lost t homing home below elsewhere met.middle.machine.two j less is) p r) (met_second lost t homing (secondary_of n home) s spare_message met j less is (Home p r))
        seconds j less is (Areas p r) speaks = agreed _ _ _ refl (met_second lost t homing (secondary_of n home) s spare_message met j less is (Areas p r))
        seconds j less is (Page p vpn) speaks = cc speaks

    pub homes_rows : KindRows lost t homing
    homes_rows = rows_of lost t homing (λ to what how. how) (λ m how. how) (here lost t homing spare_message (secondary_of n home) refl at_second, (here lost t homing main_message home refl at_home, tt))

  -- THE AREAS OF A REGION
  module _ (pid : Pid) (region : RegionNo) (areas : List Area) (owner : MemId) where
    abbrev setting : Open
    setting = record o { operation = SetsAreas pid region areas owner }

    abbrev set_main : Message
    set_main = record { from = o.by; to = memory owner.0; op = o.number; body = body.SetAreas pid region areas Main }

    abbrev set_spare : Message
    set_spare = record { from = o.by; to = memory (secondary_of (memory_count t.shape) owner.0); op = o.number; body = body.SetAreas pid region areas Spare }

    abbrev with_list : Kept → Kept
    with_list k = record { homes = k.homes; areas = with_areas pid region areas k.areas }

    module _ (fits : AreasFit t.owners t.plain pid.0 region.0 areas owner) (there : owner.0 < memory_count t.shape) where
      list_fits : (k : Kept) → KeptFits k → KeptFits (with_list k)
      list_fits k was = record { homes = was.homes; areas = areas_rise pid region areas k.areas was.areas; lists = areas_form pid region areas k.areas fits.form was.lists }

      other : (j : ℕ) → (j ≡ owner.0 → ⊥) → (c : Cell) → share (memory_count t.shape) t.owners t.plain j c ≡ share (memory_count t.shape) t.owners (with_region pid.0 region.0 areas t.plain) j c
      other j differ c = same_areas (memory_count t.shape) t.owners t.plain pid.0 region.0 areas owner j fits.owned differ c

      owned_by : (j : ℕ) → owner.0 ≡ j → (p r : ℕ) → (pid.0 == p && region.0 == r) ≡ true → owns t.owners j p r ≡ true
      owned_by j is p r this = ap (λ (q : ℕ). owns t.owners q p r) (sym is) ∙ owns_this t.owners pid.0 region.0 p r owner fits.owned this

      at_owner : (s : Mem) → MemoryGives lost t setting owner.0 s set_main
      at_owner s met = replied lost t setting owner.0 s set_main met (with_list s.main) s.spare s.pages body.Done refl (ap (is_among (memory owner.0)) (met_open lost t setting owner.0 s set_main met).targets ∙ (first_two (memory_count t.shape) owner.0 []).1) refl (λ b. refl) (list_fits s.main was.main) was.spare was.pages was.frames
          (all_new t setting true owner.0 s (with_list s.main) s.spare s.pages own (λ j less is c speaks. seconds_stay lost t setting owner.0 there other s set_main met j less is c))
        where
          was : MemFits t.shape owner.0 s
          was = met_fits lost t setting owner.0 s set_main met

          own : (c : Cell) → part_of (with_list s.main) s.pages c ≡ new_share (sides_of (record t { current = Some setting })) owner.0 c
          own (Home p r) = agreed _ _ _ refl (met_main lost t setting owner.0 s set_main met (Home p r))
          own (Areas p r) = areas-with pid region areas s.main.areas p r ∙ set_cell (pid.0 == p && region.0 == r) (owns t.owners owner.0 p r) areas (areas_at s.main.areas p r) (t.plain.areas p r) [] (owned_by owner.0 refl p r) (met_main lost t setting owner.0 s set_main met (Areas p r))
          own (Page p vpn) = agreed _ _ _ refl (met_main lost t setting owner.0 s set_main met (Page p vpn))

      at_its_second : (s : Mem) → MemoryGives lost t setting (secondary_of (memory_count t.shape) owner.0) s set_spare
      at_its_second s met = replied lost t setting (secondary_of (memory_count t.shape) owner.0) s set_spare met s.main (with_list s.spare) s.pages body.Done refl (ap (is_among (memory (secondary_of (memory_count t.shape) owner.0))) (met_open lost t setting (secondary_of (memory_count t.shape) owner.0) s set_spare met).targets ∙ (first_two (memory_count t.shape) owner.0 []).0) refl (λ b. refl) was.main (list_fits s.spare was.spare) was.pages was.frames
          (all_new t setting true (secondary_of (memory_count t.shape) owner.0) s s.main (with_list s.spare) s.pages (own_stays lost t setting owner.0 there other s set_spare met) seconds)
        where
          was : MemFits t.shape (secondary_of (memory_count t.shape) owner.0) s
          was = met_fits lost t setting (secondary_of (memory_count t.shape) owner.0) s set_spare met

          seconds : (j : ℕ) → j < memory_count t.shape → secondary_of (memory_count t.shape) j ≡ secondary_of (memory_count t.shape) owner.0 → (c : Cell) → speaks_of false c ≡ true → second_part t.owners t.disk.images j (keeping s s.main (with_list s.spare) s.pages) c ≡ new_share (sides_of (record t { current = Some setting })) j c
          seconds j less is (Home p r) speaks = agreed _ _ _ refl (met_second lost t setting (secondary_of (memory_count t.shape) owner.0) s set_spare met j less is (Home p r))
          seconds j less is (Areas p r) speaks = areas-with pid region areas s.spare.areas p r ∙ set_cell (pid.0 == p && region.0 == r) (owns t.owners j p r) areas (areas_at s.spare.areas p r) (t.plain.areas p r) [] (owned_by j (is_guarded lost t setting owner.0 there other met.middle.machine.two j less is) p r) (met_second lost t setting (secondary_of (memory_count t.shape) owner.0) s set_spare met j less is (Areas p r))
          seconds j less is (Page p vpn) speaks = cc speaks

      pub areas_rows : KindRows lost t setting
      areas_rows = rows_of lost t setting (λ to what how. how) (λ m how. how) (here lost t setting set_spare (secondary_of (memory_count t.shape) owner.0) refl at_its_second, (here lost t setting set_main owner.0 refl at_owner, tt))
