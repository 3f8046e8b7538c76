-- The end of a space: every memory drops what it keeps of it in both roles, and storage its images.
use Rattle.std.proofs.Common.{◌≡◌, ◌+◌, ◌/◌, ◌<◌, ◌==◌, [], ◌∙◌, ℕ, None, Option, Some, ap, arith, false, not, refl, suc, true, zero}
use Rattle.std.specs.List.{AllByRecursion}
use Rattle.keyed_list.proofs.Listed.{Rises-without}
use Rattle.lego_base.specs.Keys.{Key, is_of, key_at, without}
use Rattle.lego_base.specs.declared.ids.Pid.{Pid}
use Rattle.lego_msg.specs.Maps.{areas_at, areas_key, home_key, owner_of, page_in, page_key}
use Rattle.lego_msg.specs.Operations.{each_from, messages_of}
use Rattle.lego_msg.specs.Places.{home_of, is_among, memory, secondary_of}
use Rattle.lego_msg.specs.State.{Kept, Mem}
use Rattle.lego_msg.specs.Table.{kept_without}
use Rattle.lego_msg.specs.Track.{Track, memory_count}
use Rattle.lego_msg.specs.declared.message.Message.{Message}
use Rattle.lego_msg.specs.declared.operation.Open.{Open}
use Rattle.lego_msg.specs.declared.operation.Operation.TheVariants.{Drops}
use Rattle.lego_rest.specs.Fits.{KeptFits, ListFits, MemFits}
use Rattle.lego_rest.specs.Parts.{Areas, Cell, Home, Page, new_share, owns, part_of, second_part, sides_of}
use Rattle.rest_laws.proofs.Delivered.{speaks_of}
use Rattle.rest_laws.proofs.Dropping.{each_among, storage_among}
use Rattle.rest_laws.proofs.Meeting.{met_below, met_fits, met_main, met_open, met_second}
use Rattle.rest_laws.proofs.Replied.{all_new, keeping, replied}
use Rattle.rest_laws.proofs.kinds.Cells.{all_those, areas_without, fewer_pages, gone_cell, owner_without, page_without, pages_left_fit}
use Rattle.rest_laws.proofs.kinds.Images.{images_gone}
use Rattle.rest_laws.proofs.kinds.Kind.{FirstGives, KindRows, MemoryGives, StorageGives, here, rows_of, there}
use Rattle.lego_msg.specs.declared.body.Body.TheVariants as body
use Rattle.lego_msg.specs.declared.place.Place.TheVariants as place

kept_fits : (pid : ℕ) (k : Kept) → KeptFits k → KeptFits (kept_without pid k)
kept_fits pid k fits = record {
  homes = Rises-without home_key (is_of pid) k.homes fits.homes;
  areas = Rises-without areas_key (is_of pid) k.areas fits.areas;
  lists = all_those areas_key ListFits (λ (q : Key). not (is_of pid q)) k.areas fits.lists;
}

module _ (lost : Option ℕ) (t : Track) (o : Open) (pid : Pid) where
  abbrev dropping : Open
  dropping = record o { operation = Drops pid }

  abbrev drop_message : ℕ → Message
  drop_message k = record { from = o.by; to = memory k; op = o.number; body = body.DropSpace pid }

  abbrev free_message : Message
  free_message = record { from = o.by; to = place.Storage; op = o.number; body = body.ImageFree pid }

  at_memory : (k : ℕ) (s : Mem) → MemoryGives lost t dropping k s (drop_message k)
  at_memory k s met = replied lost t dropping k s (drop_message k) met (kept_without pid.0 s.main) (kept_without pid.0 s.spare) (without page_key (is_of pid.0) s.pages) body.Done refl
      (ap (is_among (memory k)) (met_open lost t dropping k s (drop_message k) met).targets ∙ each_among (memory_count t.shape) 0 (body.DropSpace pid) (body.ImageFree pid) k (omega arith) (omega (arith, below))) refl (λ b. refl)
      (kept_fits pid.0 s.main was.main) (kept_fits pid.0 s.spare was.spare) (pages_left_fit (is_of pid.0) s.pages was.pages) (fewer_pages (is_of pid.0) s.pages s.frames was.frames)
      (all_new t dropping true k s (kept_without pid.0 s.main) (kept_without pid.0 s.spare) (without page_key (is_of pid.0) s.pages) own seconds)
    where
      below : k < memory_count t.shape
      below = met_below lost t dropping k s (drop_message k) met

      was : MemFits t.shape k s
      was = met_fits lost t dropping k s (drop_message k) met

      own : (c : Cell) → part_of (kept_without pid.0 s.main) (without page_key (is_of pid.0) s.pages) c ≡ new_share (sides_of (record t { current = Some dropping })) k c
      own (Home p r) = owner_without (is_of pid.0) s.main.homes p r ∙ gone_cell (is_of pid.0 (key_at p r)) (home_of (memory_count t.shape) p == k) (owner_of s.main.homes p r) (t.plain.homes p r) None (met_main lost t dropping k s (drop_message k) met (Home p r))
      own (Areas p r) = areas_without (is_of pid.0) s.main.areas p r ∙ gone_cell (is_of pid.0 (key_at p r)) (owns t.owners k p r) (areas_at s.main.areas p r) (t.plain.areas p r) [] (met_main lost t dropping k s (drop_message k) met (Areas p r))
      own (Page p vpn) = page_without (is_of pid.0) s.pages p vpn ∙ gone_cell (is_of pid.0 (key_at p vpn)) (owns t.owners k p (vpn / 512)) (page_in s.pages p vpn) (t.plain.page p vpn) None (met_main lost t dropping k s (drop_message k) met (Page p vpn))

      seconds : (j : ℕ) → j < memory_count t.shape → secondary_of (memory_count t.shape) j ≡ k → (c : Cell) → speaks_of false c ≡ true → second_part t.owners t.disk.images j (keeping s (kept_without pid.0 s.main) (kept_without pid.0 s.spare) (without page_key (is_of pid.0) s.pages)) c ≡ new_share (sides_of (record t { current = Some dropping })) j c
      seconds j less is (Home p r) speaks = owner_without (is_of pid.0) s.spare.homes p r ∙ gone_cell (is_of pid.0 (key_at p r)) (home_of (memory_count t.shape) p == j) (owner_of s.spare.homes p r) (t.plain.homes p r) None (met_second lost t dropping k s (drop_message k) met j less is (Home p r))
      seconds j less is (Areas p r) speaks = areas_without (is_of pid.0) s.spare.areas p r ∙ gone_cell (is_of pid.0 (key_at p r)) (owns t.owners j p r) (areas_at s.spare.areas p r) (t.plain.areas p r) [] (met_second lost t dropping k s (drop_message k) met j less is (Areas p r))
      seconds j less is (Page p vpn) speaks = cc speaks

  at_storage : StorageGives lost t dropping free_message
  at_storage reaches = images_gone lost t dropping free_message reaches (is_of pid.0) (ap (is_among place.Storage) reaches.middle.current.0.targets ∙ storage_among (memory_count t.shape) 0 (body.DropSpace pid) (body.ImageFree pid)) refl refl (λ k s at. reaches.middle.current.1 k s at) (λ p vpn. refl)

  each : (count number : ℕ) → AllByRecursion (FirstGives lost t dropping) (messages_of o.by o.number (each_from count number (body.DropSpace pid) (body.ImageFree pid)))
  each zero number = (there lost t dropping free_message refl at_storage, tt)
  each (suc count) number = (here lost t dropping (drop_message number) number refl (at_memory number), each count (number + 1))

  pub drops_rows : KindRows lost t dropping
  drops_rows = rows_of lost t dropping (λ to what how. how) (λ m how. how) (each (memory_count t.shape) 0)
