-- An operation is complete while a memory is healed that it doesn't ask: neither that memory nor the one that it guards
-- changes.
use Rattle.std.proofs.Common.{◌≡◌, ◌⊎◌, ◌+◌, ◌/◌, ◌<◌, ◌==◌, ◌&&◌, ◌||◌, [], ◌∷◌, ◌∙◌, ℕ, Bool, List, None, Option, Some, ap, append-nil, arith, cond, false, inl, inr, length, not, refl, subst, suc, sym, true}
use Rattle.std.proofs.lemmas.Bool.{eqb-false, eqb-true}
use Rattle.std.proofs.lemmas.Bool.Decides.{eqb_tells}
use Rattle.std.proofs.Math.Nat.{mod-lt}
use Rattle.std.specs.List.{AllByRecursion, list_any}
use Rattle.lego_base.specs.declared.ids.MemId.{MemId}
use Rattle.lego_base.specs.declared.records.HomeEntry.{HomeEntry}
use Rattle.lego_base.specs.declared.records.Patch.{Patch}
use Rattle.lego_msg.specs.Completions.{brought, finished, owners_after}
use Rattle.lego_msg.specs.Granted.{OpFits}
use Rattle.lego_msg.specs.Maps.{owner_of, page_in}
use Rattle.lego_msg.specs.Operations.{has_patch, is_write, patch_of, targets_of}
use Rattle.lego_msg.specs.Places.{guarded_by, home_of, is_among, memory, same_place, secondary_of}
use Rattle.lego_msg.specs.Plain.{Plain, effect}
use Rattle.lego_msg.specs.State.{Mem, Waiter}
use Rattle.lego_msg.specs.Track.{Track, all_answered, is_complete, is_pending, memory_count}
use Rattle.lego_msg.specs.declared.healing.Healing.{Healing}
use Rattle.lego_msg.specs.declared.message.Message.{Message}
use Rattle.lego_msg.specs.declared.operation.Open.{Open}
use Rattle.lego_msg.specs.declared.operation.Operation.{Operation}
use Rattle.lego_msg.specs.declared.operation.Operation.TheVariants.{AsksAreas, AsksSize, Copies, CutsFile, CutsName, Drains, Drops, Finds, FreesFile, GetsName, Heals, ListsNames, MakesName, Reads, ReadsFile, SetsAreas, SetsHome, Unmaps, Writes, WritesFile}
use Rattle.lego_msg.specs.declared.place.Place.{Place}
use Rattle.lego_rest.specs.Answers.{all_pending, asks_storage_by, gave_answer, images_due, is_answer_from, is_storage_true, second_due}
use Rattle.lego_rest.specs.Fits.{LogFits, PlainFits, WaiterFits}
use Rattle.lego_rest.specs.Heals.{HealFits, IsDrained}
use Rattle.lego_rest.specs.Parts.{Areas, Cell, Held, Home, IsEither, Page, main_part, owns, second_part, share, sides_of}
use Rattle.lego_rest.specs.Pending.{IsUp, Left, MayPend, OfBackground, OfMove, OfOperation, Pends}
use Rattle.lego_rest.specs.Rest.{CurrentFits, IsReady, MemHolds, Middle, SecondHolds}
use Rattle.rest_laws.proofs.Around.{guards-its-own, secondaries-differ}
use Rattle.rest_laws.proofs.Changed.{at_main, at_second, same_areas, same_homes, same_patched, same_unmapped}
use Rattle.rest_laws.proofs.Copying.{same_copied}
use Rattle.rest_laws.proofs.Dropping.{each_among}
use Rattle.rest_laws.proofs.Ended.{target_answered}
use Rattle.rest_laws.proofs.Ends.{every-kind-ends}
use Rattle.rest_laws.proofs.Goes.{called_of}
use Rattle.rest_laws.proofs.Opened.{every}
use Rattle.rest_laws.proofs.Truth.{and_true, both_true, not_true}
use Rattle.rest_laws.proofs.Unchanged.{same_kept}
use Rattle.rest_laws.specs.Completing.{KindEnds, SameEntries, SamePages, pages_at}
use Rattle.healing_laws.proofs.Beside.{lost_below}
use Rattle.healing_laws.proofs.MoveEnds.{none_pending}
use Rattle.healing_laws.proofs.Settled.{between_then, settled}
use Rattle.healing_laws.proofs.Writes.{IsWrite, write_is}
use Rattle.healing_laws.specs.Moving.{OperationEndsBeside}
use Rattle.lego_msg.specs.declared.place.Place.TheVariants as place

mod_below : (n j : ℕ) → 0 < n → secondary_of n j < 0 + n
mod_below n j some = let less = mod-lt (j + 1) some in omega (arith, less)

-- the memory that changes is a target, or another one keeps what it has
apart_or : (n : ℕ) (owners : List HomeEntry) (f g : Plain) (j h : ℕ) (there : Bool) → (j ≡ h → there ≡ true) → ((j ≡ h → ⊥) → (cell : Cell) → share n owners f j cell ≡ share n owners g j cell) → (there ≡ true) ⊎ ((cell : Cell) → share n owners f j cell ≡ share n owners g j cell)
apart_or n owners f g j h there target same = elim (eqb_tells j h) [
  | inl e ↦ inl (target e.1)
  | inr e ↦ inr (same e.1)
]

-- THE LAW OF EACH KIND: whose secondary isn't asked keeps all its cells
pub guarded_ends : (n : ℕ) (owners : List HomeEntry) (f : Plain) (o : Operation) → 0 < n → OpFits owners f o → (j : ℕ) → (is_among (memory (secondary_of n j)) (targets_of n o) ≡ true) ⊎ ((cell : Cell) → share n owners f j cell ≡ share n owners (effect o f) j cell)
guarded_ends n owners f (Finds pid region) some fits j = inr (λ cell. refl)
guarded_ends n owners f (Reads pid line owner) some fits j = inr (λ cell. refl)
guarded_ends n owners f (Writes origin patch owner) some fits j = apart_or n owners f (effect (Writes origin patch owner) f) j owner.0 _ (at_second n j owner.0 _) (same_patched n owners f patch owner j fits.owned)
guarded_ends n owners f (SetsHome pid region owner) some fits j = apart_or n owners f (effect (SetsHome pid region owner) f) j (home_of n pid.0) _ (at_second n j (home_of n pid.0) _) (same_homes n owners f pid.0 region.0 owner j)
guarded_ends n owners f (SetsAreas pid region areas owner) some fits j = apart_or n owners f (effect (SetsAreas pid region areas owner) f) j owner.0 _ (at_second n j owner.0 _) (same_areas n owners f pid.0 region.0 areas owner j fits.owned)
guarded_ends n owners f (AsksAreas pid region owner) some fits j = inr (λ cell. refl)
guarded_ends n owners f (Drains m) some fits j = inr (λ cell. refl)
guarded_ends n owners f (Unmaps pid region first pages areas owner) some fits j = apart_or n owners f (effect (Unmaps pid region first pages areas owner) f) j owner.0 _ (at_second n j owner.0 _) (same_unmapped n owners f pid.0 region.0 first.0 pages areas owner j fits)
guarded_ends n owners f (Copies parent child regions owner) some fits j = apart_or n owners f (effect (Copies parent child regions owner) f) j owner.0 _ (at_second n j owner.0 _) (same_copied n owners parent.0 child.0 regions f owner j fits.1)
guarded_ends n owners f (Drops pid) some fits j = inl (each_among n 0 _ _ (secondary_of n j) (omega arith) (mod_below n j some))
guarded_ends n owners f (ReadsFile file block off len) some fits j = inr (λ cell. refl)
guarded_ends n owners f (WritesFile file block off bytes) some fits j = inr (same_kept n owners f (effect (WritesFile file block off bytes) f).files j)
guarded_ends n owners f (CutsFile file size) some fits j = inr (same_kept n owners f (effect (CutsFile file size) f).files j)
guarded_ends n owners f (AsksSize file) some fits j = inr (λ cell. refl)
guarded_ends n owners f (GetsName name) some fits j = inr (λ cell. refl)
guarded_ends n owners f (MakesName name) some fits j = inr (same_kept n owners f (effect (MakesName name) f).files j)
guarded_ends n owners f (CutsName name) some fits j = inr (same_kept n owners f (effect (CutsName name) f).files j)
guarded_ends n owners f ListsNames some fits j = inr (λ cell. refl)
guarded_ends n owners f (FreesFile file) some fits j = inr (same_kept n owners f (effect (FreesFile file) f).files j)
guarded_ends n owners f (Heals to what) some fits j = absurd fits

-- and owners end only where all memories are asked
pub owners_same : (n : ℕ) (owners : List HomeEntry) (c : ℕ) (o : Operation) → c < n → is_among (memory c) (targets_of n o) ≡ false → owners_after o owners ≡ owners
owners_same n owners c (Finds pid region) below none = refl
owners_same n owners c (Reads pid line owner) below none = refl
owners_same n owners c (Writes origin patch owner) below none = refl
owners_same n owners c (SetsHome pid region owner) below none = refl
owners_same n owners c (SetsAreas pid region areas owner) below none = refl
owners_same n owners c (AsksAreas pid region owner) below none = refl
owners_same n owners c (Drains m) below none = refl
owners_same n owners c (Unmaps pid region first pages areas owner) below none = refl
owners_same n owners c (Copies parent child regions owner) below none = refl
owners_same n owners c (Drops pid) below none = let both : true ≡ false = sym (each_among n 0 _ _ c (omega arith) (omega (arith, below))) ∙ none in cc both
owners_same n owners c (ReadsFile file block off len) below none = refl
owners_same n owners c (WritesFile file block off bytes) below none = refl
owners_same n owners c (CutsFile file size) below none = refl
owners_same n owners c (AsksSize file) below none = refl
owners_same n owners c (GetsName name) below none = refl
owners_same n owners c (MakesName name) below none = refl
owners_same n owners c (CutsName name) below none = refl
owners_same n owners c ListsNames below none = refl
owners_same n owners c (FreesFile file) below none = refl
owners_same n owners c (Heals to what) below none = refl

module _ (lost : Option ℕ) (t : Track) (o : Open) (h : Healing) (goes_on : t.stopped ≡ false) (complete : is_complete t.net o ≡ true) (middle : Middle lost (record t { current = Some o; healing = Some h; owed = [] })) where
  abbrev busy : Track
  busy = record t { current = Some o; healing = Some h; owed = [] }

  abbrev g : Plain
  g = effect o.operation t.plain

  abbrev ended : Track
  ended = record t { current = None; healing = Some h; owed = []; plain = effect o.operation t.plain; caches = brought o o.operation t.caches }

  fits : CurrentFits busy (Some o)
  fits = middle.current

  below : h.memory.0 < memory_count t.shape
  below = lost_below lost busy h goes_on middle refl

  law : KindEnds (memory_count t.shape) t.owners t.plain o.operation
  law = every-kind-ends (memory_count t.shape) t.owners t.plain o.operation (omega (arith, below)) middle.plain fits.0.fits (called_of t.owners t.plain o.operation fits.0.fits)

  both : (all_answered o.targets o.answers ≡ true) × (not (is_pending o.number.0 t.net) ≡ true)
  both = both_true (all_answered o.targets o.answers) (not (is_pending o.number.0 t.net)) complete

  -- a target has answered
  gave : (p : Place) → is_among p (targets_of (memory_count t.shape) o.operation) ≡ true → gave_answer p (all_pending busy) (Some o) ≡ true
  gave p among = ap (λ (b : Bool). b || list_any (is_answer_from o p) (all_pending busy)) (target_answered p o.targets o.answers (ap (is_among p) fits.0.targets ∙ among) both.0)

  -- and so the lost memory is none
  no_target : is_among (memory h.memory.0) (targets_of (memory_count t.shape) o.operation) ≡ false
  no_target = by (is_among (memory h.memory.0) (targets_of (memory_count t.shape) o.operation)) refl
    where
      by : (b : Bool) → is_among (memory h.memory.0) (targets_of (memory_count t.shape) o.operation) ≡ b → b ≡ false
      by false e = refl
      by true e = let two_ : true ≡ false = sym (gave (memory h.memory.0) e) ∙ (middle.healing.1 goes_on).forgotten in cc two_

  pub same_owners : owners_after o.operation t.owners ≡ t.owners
  same_owners = owners_same (memory_count t.shape) t.owners h.memory.0 o.operation below no_target

  pub same_lost : (cell : Cell) → share (memory_count t.shape) t.owners t.plain h.memory.0 cell ≡ share (memory_count t.shape) t.owners (effect o.operation t.plain) h.memory.0 cell
  same_lost cell = elim (law.main h.memory.0) [
    | inl target ↦ let two_ : true ≡ false = sym target ∙ no_target in cc two_
    | inr same ↦ same cell
  ]

  same_guarded : (cell : Cell) → share (memory_count t.shape) t.owners t.plain (guarded_by (memory_count t.shape) h.memory.0) cell ≡ share (memory_count t.shape) t.owners (effect o.operation t.plain) (guarded_by (memory_count t.shape) h.memory.0) cell
  same_guarded cell = elim (guarded_ends (memory_count t.shape) t.owners t.plain o.operation (omega (arith, below)) fits.0.fits (guarded_by (memory_count t.shape) h.memory.0)) [
    | inl target ↦
        let own = (guards-its-own (memory_count t.shape) h.memory.0 middle.machine.two below).1 in
        let two_ : true ≡ false = sym target ∙ ap (λ (k : ℕ). is_among (memory k) (targets_of (memory_count t.shape) o.operation)) own ∙ no_target in
        cc two_
    | inr same ↦ same cell
  ]

  -- THE COMPONENTS hold the new
  either_new : (j : ℕ) (cell : Cell) (held : Held cell) → share (memory_count t.shape) t.owners t.plain j cell ≡ share (memory_count t.shape) t.owners (effect o.operation t.plain) j cell → IsEither (sides_of busy) j cell held → held ≡ share (memory_count t.shape) t.owners (effect o.operation t.plain) j cell
  either_new j cell held same (inl e) = e ∙ same
  either_new j cell held same (inr e) = e

  main_new : (k : ℕ) (s : Mem) → MemHolds busy k s → (cell : Cell) → main_part s cell ≡ share (memory_count t.shape) t.owners (effect o.operation t.plain) k cell
  main_new k s holds cell = elim (law.main k) [
    | inl target ↦ holds.part.told cell (gave (memory k) target)
    | inr same ↦ either_new k cell (main_part s cell) (same cell) (holds.part.either cell)
  ]

  new_where : (j : ℕ) (x : Mem) (cell : Cell) → SecondHolds busy j x → ((second_due busy (secondary_of (memory_count t.shape) j) cell ≡ true) ⊎ (share (memory_count t.shape) t.owners t.plain j cell ≡ share (memory_count t.shape) t.owners (effect o.operation t.plain) j cell)) → second_part t.owners t.disk.images j x cell ≡ share (memory_count t.shape) t.owners (effect o.operation t.plain) j cell
  new_where j x cell holds (inl due) = holds.part.told cell due
  new_where j x cell holds (inr same) = either_new j cell (second_part t.owners t.disk.images j x cell) same (holds.part.either cell)

  unsent_none : (ms : List Message) → (length ms == 0) ≡ true → list_any (asks_storage_by o.number.0) ms ≡ false
  unsent_none [] e = refl
  unsent_none (m ∷ ms) e = let none : suc (length ms) ≡ 0 = eqb-true (suc (length ms)) 0 e in absurd (omega (arith, none))

  none_asks : (ms : List Message) → AllByRecursion (λ (r : Message). (r.op.0 == o.number.0) ≡ false) ms → list_any (asks_storage_by o.number.0) ms ≡ false
  none_asks [] none = refl
  none_asks (m ∷ ms) none = (λ i. (none.0 i && same_place m.to place.Storage) || none_asks ms none.1 i)

  nothing_pending : AllByRecursion (λ (r : Message). (r.op.0 == o.number.0) ≡ false) t.net
  nothing_pending = none_pending o.number.0 t.net (not_true (is_pending o.number.0 t.net) both.1)

  -- storage's answer speaks of its images
  storage_is_true : is_storage_true t.net (Some h) (Some o) ≡ true
  storage_is_true = (λ i. not (unasked_lost i) && not (unsent_none o.unsent all_sent i || none_asks t.net nothing_pending i))
    where
      unasked_lost : is_among (memory h.memory.0) o.targets ≡ false
      unasked_lost = ap (is_among (memory h.memory.0)) fits.0.targets ∙ no_target

      all_sent : (length o.unsent == 0) ≡ true
      all_sent = ready fits.2
        where
          ready : IsReady busy o → (length o.unsent == 0) ≡ true
          ready (inl all) = all
          ready (inr e) = let two_ : true ≡ false = sym complete ∙ e.0 in cc two_

  images_are_due : (j : ℕ) → is_among (pages_at (memory_count t.shape) o.operation j) (targets_of (memory_count t.shape) o.operation) ≡ true → images_due busy (secondary_of (memory_count t.shape) j) ≡ true
  images_are_due j target = by (is_write o.operation) target
    where
      by : (b : Bool) → is_among (cond b (memory (secondary_of (memory_count t.shape) j)) place.Storage) (targets_of (memory_count t.shape) o.operation) ≡ true → cond b (gave_answer (memory (secondary_of (memory_count t.shape) j)) (all_pending busy) (Some o)) (is_storage_true t.net (Some h) (Some o) && gave_answer place.Storage (all_pending busy) (Some o)) ≡ true
      by true target = gave (memory (secondary_of (memory_count t.shape) j)) target
      by false target = and_true (is_storage_true t.net (Some h) (Some o)) (gave_answer place.Storage (all_pending busy) (Some o)) storage_is_true (gave place.Storage target)

  second_new : (j : ℕ) (x : Mem) → SecondHolds busy j x → (cell : Cell) → second_part t.owners t.disk.images j x cell ≡ share (memory_count t.shape) t.owners (effect o.operation t.plain) j cell
  second_new j x holds (Home pid region) = new_where j x (Home pid region) holds (by (law.second j))
    where
      by : (is_among (memory (secondary_of (memory_count t.shape) j)) (targets_of (memory_count t.shape) o.operation) ≡ true) ⊎ SameEntries (memory_count t.shape) t.owners t.plain (effect o.operation t.plain) j → (gave_answer (memory (secondary_of (memory_count t.shape) j)) (all_pending busy) (Some o) ≡ true) ⊎ (share (memory_count t.shape) t.owners t.plain j (Home pid region) ≡ share (memory_count t.shape) t.owners (effect o.operation t.plain) j (Home pid region))
      by (inl target) = inl (gave (memory (secondary_of (memory_count t.shape) j)) target)
      by (inr same) = inr (same.0 pid region)
  second_new j x holds (Areas pid region) = new_where j x (Areas pid region) holds (by (law.second j))
    where
      by : (is_among (memory (secondary_of (memory_count t.shape) j)) (targets_of (memory_count t.shape) o.operation) ≡ true) ⊎ SameEntries (memory_count t.shape) t.owners t.plain (effect o.operation t.plain) j → (gave_answer (memory (secondary_of (memory_count t.shape) j)) (all_pending busy) (Some o) ≡ true) ⊎ (share (memory_count t.shape) t.owners t.plain j (Areas pid region) ≡ share (memory_count t.shape) t.owners (effect o.operation t.plain) j (Areas pid region))
      by (inl target) = inl (gave (memory (secondary_of (memory_count t.shape) j)) target)
      by (inr same) = inr (same.1 pid region)
  second_new j x holds (Page pid vpn) = new_where j x (Page pid vpn) holds (by (law.pages j))
    where
      by : (is_among (pages_at (memory_count t.shape) o.operation j) (targets_of (memory_count t.shape) o.operation) ≡ true) ⊎ SamePages (memory_count t.shape) t.owners t.plain (effect o.operation t.plain) j → (images_due busy (secondary_of (memory_count t.shape) j) ≡ true) ⊎ (share (memory_count t.shape) t.owners t.plain j (Page pid vpn) ≡ share (memory_count t.shape) t.owners (effect o.operation t.plain) j (Page pid vpn))
      by (inl target) = inl (images_are_due j target)
      by (inr same) = inr (same pid vpn)

  files_new : t.disk.files ≡ (effect o.operation t.plain).files
  files_new = elim law.files [
    | inl target ↦ middle.disk.told (gave place.Storage target)
    | inr same ↦ by same middle.disk.files
  ]
    where
      by : t.plain.files ≡ (effect o.operation t.plain).files → (t.disk.files ≡ t.plain.files) ⊎ (t.disk.files ≡ (effect o.operation t.plain).files) → t.disk.files ≡ (effect o.operation t.plain).files
      by same (inl e) = e ∙ same
      by same (inr e) = e

  -- WHAT IS PENDING is of the move, or of no operation
  pends_on : (r : Message) → (r.op.0 == o.number.0) ≡ false → MayPend lost (memory_count t.shape) t.plain (Some o) h.current t.next r → MayPend lost (memory_count t.shape) (effect o.operation t.plain) None h.current t.next r
  pends_on r none may = record { from = may.from; to = may.to; kind = by may.kind }
    where
      by : Pends lost (memory_count t.shape) t.plain (Some o) h.current t.next r → Pends lost (memory_count t.shape) (effect o.operation t.plain) None h.current t.next r
      by (OfOperation of) = absurd (eqb-false r.op.0 o.number.0 none of.0)
      by (OfMove of) = OfMove of
      by (OfBackground of) = OfBackground of
      by (Left old) = Left (record { some = old.some; below = old.below; not_current = tt; not_move = old.not_move; drained = old.drained; to = old.to; from_up = old.from_up })

  all_on : (rs : List Message) → AllByRecursion (λ (r : Message). (r.op.0 == o.number.0) ≡ false) rs → AllByRecursion (MayPend lost (memory_count t.shape) t.plain (Some o) h.current t.next) rs → AllByRecursion (MayPend lost (memory_count t.shape) (effect o.operation t.plain) None h.current t.next) rs
  all_on [] none all = tt
  all_on (r ∷ rs) none all = (pends_on r none.0 all.0, all_on rs none.1 all.1)

  waits_on : (k : ℕ) (w : Waiter) → WaiterFits (memory_count t.shape) k t.next (Some o) h.current w → WaiterFits (memory_count t.shape) k t.next None h.current w
  waits_on k w fits = record { some = fits.some; below = fits.below; by = fits.by; of_open = tt; of_move = fits.of_move }

  -- A DRAINED LOG is empty: a patch of the open write would be of a page of the lost memory
  log_empty : (log : List Patch) → AllByRecursion (LogFits (memory_count t.shape) t.owners (secondary_of (memory_count t.shape) h.memory.0)) log → AllByRecursion (λ (p : Patch). patch_of o.operation ≡ Some p) log → AllByRecursion (λ (p : Patch). None ≡ Some p) log
  log_empty [] of all = tt
  log_empty (p ∷ log) of all = absurd (by (write_is o.operation (ap has_patch all.0)))
    where
      one_owner_ : (a b : MemId) → Some a ≡ Some b → a ≡ b
      one_owner_ a b e = cc e

      one_patch : (a b : Patch) → Some a ≡ Some b → a ≡ b
      one_patch a b e = cc e

      by : IsWrite o.operation → ⊥
      by write =
          let fit = subst (OpFits t.owners t.plain) write.same fits.0.fits in
          let patch_is : write.patch ≡ p = one_patch write.patch p (sym (ap patch_of write.same) ∙ all.0) in
          let owner_is : of.0.0 ≡ write.owner = one_owner_ of.0.0 write.owner (sym of.0.1 ∙ ap (λ (q : Patch). owner_of t.owners q.pid.0 (q.vpn.0 / 512)) (sym patch_is) ∙ fit.owned) in
          let less : of.0.0.0 < memory_count t.shape = middle.plain.within p.pid.0 (p.vpn.0 / 512) of.0.0 of.0.1 in
          let same : of.0.0.0 ≡ h.memory.0 = (secondaries-differ (memory_count t.shape) of.0.0.0 h.memory.0 middle.machine.two less below).2 of.0.2 in
          let owner_lost : write.owner.0 ≡ h.memory.0 = ap (λ (q : MemId). q.0) (sym owner_is) ∙ same in
          let target : is_among (memory h.memory.0) (targets_of (memory_count t.shape) o.operation) ≡ true = ap (λ (q : Operation). is_among (memory h.memory.0) (targets_of (memory_count t.shape) q)) write.same ∙ at_main (memory_count t.shape) h.memory.0 write.owner.0 false (sym owner_lost) in
          no_both (sym target ∙ no_target)
        where
          no_both : true ≡ false → ⊥
          no_both e = cc e

  drained_then : IsDrained (sides_of busy) (patch_of o.operation) t.mems t.disk.images h.memory.0 → IsDrained (settled (sides_of busy)) None t.mems t.disk.images h.memory.0
  drained_then drained = (λ y at. log_empty y.log (middle.memories (secondary_of (memory_count t.shape) h.memory.0) y second_up at).log (drained.0 y at), λ pid vpn. by pid vpn (drained.1 pid vpn))
    where
      second_up : IsUp lost (secondary_of (memory_count t.shape) h.memory.0)
      second_up = subst (λ (l : Option ℕ). IsUp l (secondary_of (memory_count t.shape) h.memory.0)) (sym middle.healing.0) (λ same. (secondaries-differ (memory_count t.shape) h.memory.0 h.memory.0 middle.machine.two below below).0 (sym same))

      by : (pid vpn : ℕ) → IsEither (sides_of busy) h.memory.0 (Page pid vpn) (cond (owns t.owners h.memory.0 pid (vpn / 512)) (page_in t.disk.images pid vpn) None) → IsEither (settled (sides_of busy)) h.memory.0 (Page pid vpn) (cond (owns t.owners h.memory.0 pid (vpn / 512)) (page_in t.disk.images pid vpn) None)
      by pid vpn (inl e) = inl (e ∙ same_lost (Page pid vpn))
      by pid vpn (inr e) = inr e

  heal_goes : HealFits lost ended (Some h)
  heal_goes = (
    middle.healing.0,
    λ goes.
        let holds = middle.healing.1 goes in
        record {
          stands = holds.stands;
          between = between_then (sides_of busy) h.memory.0 (patch_of o.operation) t.mems t.disk.images same_lost same_guarded drained_then (all_pending busy) t.next holds.stands.x holds.stands.done h.current h.got holds.stands.ahead holds.between;
          background = holds.background;
          pages = λ pid vpn old new_. holds.pages pid vpn (same_lost (Page pid vpn) ∙ old) new_;
          clear = λ pid vpn asks. cc asks;
          forgotten = refl;
          one_done = λ done. refl;
          no_second = holds.no_second;
          apart = tt;
        },
  )

  ended_keeps : Middle lost ended
  ended_keeps = record {
    machine = middle.machine;
    count = middle.count;
    next = middle.next;
    plain = subst (λ (owners : List HomeEntry). PlainFits (memory_count t.shape) owners (effect o.operation t.plain)) same_owners law.owners_end.plain;
    forms = middle.forms;
    current = tt;
    memories = λ k s up at.
        let was = middle.memories k s up at in
        record {
          part = record { either = λ cell. inl (main_new k s was cell); told = λ cell due. main_new k s was cell };
          batch = was.batch;
          blocks = was.blocks;
          log = was.log;
        };
    seconds = λ j x less up at.
        let was = middle.seconds j x less up at in
        record { part = record { either = λ cell. inl (second_new j x was cell); told = λ cell due. second_new j x was cell } };
    disk = record { files = inl files_new; told = λ has. files_new; images = middle.disk.images; form = middle.disk.form };
    pending = all_on (all_pending busy) (subst (AllByRecursion (λ (r : Message). (r.op.0 == o.number.0) ≡ false)) (sym (append-nil t.net)) nothing_pending) middle.pending;
    waiting = λ k s at. every (waits_on k) s.drains (middle.waiting k s at);
    healing = heal_goes;
    idle = λ closed quiet. refl;
  }

  finished_keeps : Middle lost (finished (record t { current = Some o; healing = Some h; owed = [] }) (Some o))
  finished_keeps = subst (λ (owners : List HomeEntry). Middle lost (record t { current = None; healing = Some h; owed = []; plain = effect o.operation t.plain; caches = brought o o.operation t.caches; owners = owners })) (sym same_owners) ended_keeps

pub operation-ends-beside : OperationEndsBeside
operation-ends-beside lost t h o heals is settled_ goes_on complete middle =
    subst (λ (p : List Message × Option Open × Option Healing). Middle lost (finished (record t { owed = p.0; current = p.1; healing = p.2 }) (Some o))) (λ i. (sym settled_ i, sym is i, sym heals i))
    (finished_keeps lost t o h goes_on complete (subst (λ (p : List Message × Option Open × Option Healing). Middle lost (record t { owed = p.0; current = p.1; healing = p.2 })) (λ i. (settled_ i, is i, heals i)) middle))
