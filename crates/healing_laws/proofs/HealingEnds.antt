-- A healing ends: the memory holds its share again, and the open operation is sent again.
use Rattle.std.proofs.Common.{◌≡◌, ◌⊎◌, ◌+◌, ◌/◌, ◌<◌, ◌==◌, ◌&&◌, ◌||◌, [], ◌∷◌, ◌++◌, ◌∙◌, ℕ, Bool, List, None, Option, Some, ap, arith, cond, false, inl, inr, length, not, refl, slice_get, subst, suc, sym, true, zero}
use Rattle.std.proofs.lemmas.Bool.{eq-eqb, eqb-false, eqb-true}
use Rattle.std.proofs.lemmas.Bool.Decides.{eqb_tells}
use Rattle.std.specs.List.{AllByRecursion, list_any}
use Rattle.lego_base.specs.Keys.{Key, find, key_at, same_key}
use Rattle.lego_base.specs.declared.ids.OpNo.{OpNo}
use Rattle.lego_base.specs.declared.ids.Pid.{Pid}
use Rattle.lego_base.specs.declared.records.HomeEntry.{HomeEntry}
use Rattle.lego_base.specs.declared.records.Patch.{Patch}
use Rattle.lego_base.specs.declared.shape.CrashAt.{CrashAt}
use Rattle.lego_msg.proofs.Senders.{same_some}
use Rattle.lego_msg.specs.Completions.{move_finished, sent_again}
use Rattle.lego_msg.specs.Healing.{images_anew, images_back, moves_of}
use Rattle.lego_msg.specs.Maps.{home_key, overlaid, owned_by, owner_in, page_in}
use Rattle.lego_msg.specs.Operations.{asks_of, each_from, is_write, messages_of}
use Rattle.lego_msg.specs.Places.{guarded_by, memory, secondary_of}
use Rattle.lego_msg.specs.Plain.{Plain, effect}
use Rattle.lego_msg.specs.State.{Mem, Waiter}
use Rattle.lego_msg.specs.Track.{Track, healing_move, is_complete, is_crash_left, is_done, is_now, is_of_turn, memory_count, next_crash}
use Rattle.lego_msg.specs.declared.clock.Clock.{Clock}
use Rattle.lego_msg.specs.declared.healing.Healing.{Healing}
use Rattle.lego_msg.specs.declared.healing.Move.{Move}
use Rattle.lego_msg.specs.declared.message.Message.{Message}
use Rattle.lego_msg.specs.declared.operation.Open.{Open}
use Rattle.lego_msg.specs.declared.operation.Operation.{Operation}
use Rattle.lego_msg.specs.declared.place.Place.{Place}
use Rattle.lego_rest.specs.Answers.{all_pending, asks_storage_by, gave_answer, images_due, is_storage_true, is_writing, second_due}
use Rattle.lego_rest.specs.Fits.{WaiterFits, background}
use Rattle.lego_rest.specs.Heals.{HasDone, MetaFits, RegionFits, Scene, scene_of}
use Rattle.lego_rest.specs.Parts.{Areas, Cell, Held, Home, IsEither, Page, is_owner, main_part, new_share, old_share, owns, plain_with, second_part, share, sides_of}
use Rattle.lego_rest.specs.Pending.{FromUp, IsNot, IsOf, IsOfMove, IsUp, Left, MayPend, OfBackground, OfMove, OfOperation, Pends}
use Rattle.lego_rest.specs.Rest.{CurrentFits, MemHolds, Middle, SecondHolds}
use Rattle.rest_laws.proofs.Around.{guards-its-own}
use Rattle.rest_laws.proofs.Bare.{guarded_is}
use Rattle.rest_laws.proofs.Opened.{all_both, answers_as_before, every, of_open}
use Rattle.rest_laws.proofs.Truth.{both_true}
use Rattle.healing_laws.proofs.Beside.{lost_at, lost_below}
use Rattle.healing_laws.proofs.MoveEnds.{end_holds, end_way, has_done, none_is_pending}
use Rattle.healing_laws.specs.Moving.{HealingEnds}
use Rattle.lego_msg.specs.declared.body.Body.TheVariants as body
use Rattle.lego_msg.specs.declared.operation.Operation.TheVariants as op
use Rattle.lego_msg.specs.declared.place.Place.TheVariants as place

-- AN OPERATION THAT CHANGES PAGES asks storage first, or writes

third : (a : Bool) → a ≡ true → ((a && false) || ((a && false) || ((a && true) || false))) ≡ true
third true e = refl
third false e = cc e

each : (n k : ℕ) (by : Place) (number : OpNo) (pid : Pid) → list_any (asks_storage_by number.0) (messages_of by number (each_from n k (body.DropSpace pid) (body.ImageFree pid))) ≡ true
each zero k by number pid = λ i. (eq-eqb number.0 number.0 refl i && true) || false
each (suc n) k by number pid = (λ i. (eq-eqb number.0 number.0 refl i && false) || each n (k + 1) by number pid i)

pub pages_or_asks : (n : ℕ) (o : Operation) → is_write o ≡ false → ((f : Plain) (pid vpn : ℕ) → (effect o f).page pid vpn ≡ f.page pid vpn) ⊎ ((by : Place) (number : OpNo) → list_any (asks_storage_by number.0) (messages_of by number (asks_of n o)) ≡ true)
pages_or_asks n (op.Finds pid region) none = inl (λ f pid_ vpn. refl)
pages_or_asks n (op.Reads pid line owner) none = inl (λ f pid_ vpn. refl)
pages_or_asks n (op.Writes origin patch owner) none = cc none
pages_or_asks n (op.SetsHome pid region owner) none = inl (λ f pid_ vpn. refl)
pages_or_asks n (op.SetsAreas pid region areas owner) none = inl (λ f pid_ vpn. refl)
pages_or_asks n (op.AsksAreas pid region owner) none = inl (λ f pid_ vpn. refl)
pages_or_asks n (op.Drains m) none = inl (λ f pid_ vpn. refl)
pages_or_asks n (op.Unmaps pid region first pages areas owner) none = inr (λ by number. third (number.0 == number.0) (eq-eqb number.0 number.0 refl))
pages_or_asks n (op.Copies parent child regions owner) none = inr (λ by number. third (number.0 == number.0) (eq-eqb number.0 number.0 refl))
pages_or_asks n (op.Drops pid) none = inr (λ by number. each n 0 by number pid)
pages_or_asks n (op.ReadsFile file block off len) none = inl (λ f pid_ vpn. refl)
pages_or_asks n (op.WritesFile file block off bytes) none = inl (λ f pid_ vpn. refl)
pages_or_asks n (op.CutsFile file size) none = inl (λ f pid_ vpn. refl)
pages_or_asks n (op.AsksSize file) none = inl (λ f pid_ vpn. refl)
pages_or_asks n (op.GetsName name) none = inl (λ f pid_ vpn. refl)
pages_or_asks n (op.MakesName name) none = inl (λ f pid_ vpn. refl)
pages_or_asks n (op.CutsName name) none = inl (λ f pid_ vpn. refl)
pages_or_asks n op.ListsNames none = inl (λ f pid_ vpn. refl)
pages_or_asks n (op.FreesFile file) none = inl (λ f pid_ vpn. refl)
pages_or_asks n (op.Heals to what) none = inl (λ f pid_ vpn. refl)

-- WHAT IS DONE FOR EACH ENTRY of a memory's is done for each region that it owns

owned_found : (P : HomeEntry → Type 0) → (c : ℕ) (es : List HomeEntry) (k : Key) → AllByRecursion P (owned_by c es) → is_owner c (owner_in (find home_key k es)) ≡ true → (e : HomeEntry) × (same_key (home_key e) k ≡ true) × P e
owned_found P c [] k all mine = cc mine
owned_found P c (e ∷ es) k all mine = by (same_key (home_key e) k) (e.owner.0 == c) refl refl all mine (owned_found P c es k)
  where
    by : (a b : Bool) → same_key (home_key e) k ≡ a → (e.owner.0 == c) ≡ b → AllByRecursion P (cond b (e ∷ owned_by c es) (owned_by c es)) → is_owner c (owner_in (cond a (Some e) (find home_key k es))) ≡ true → (AllByRecursion P (owned_by c es) → is_owner c (owner_in (find home_key k es)) ≡ true → (x : HomeEntry) × (same_key (home_key x) k ≡ true) × P x) → (x : HomeEntry) × (same_key (home_key x) k ≡ true) × P x
    by true true here own all mine rest = (e, here, all.0)
    by true false here own all mine rest = let both : true ≡ false = sym mine ∙ own in cc both
    by false true here own all mine rest = rest all.1 mine
    by false false here own all mine rest = rest all mine

back_done : (w : Scene) (c : ℕ) (x : Mem) (es : List HomeEntry) → AllByRecursion (HasDone w c x) (images_back c es) → AllByRecursion (λ (e : HomeEntry). RegionFits w.sides c e.pid.0 e.region.0 x.pages) es
back_done w c x [] all = tt
back_done w c x (e ∷ es) all = (all.1.0, back_done w c x es all.1.1)

anew_done : (w : Scene) (c q : ℕ) (x : Mem) (es : List HomeEntry) → AllByRecursion (HasDone w c x) (images_anew q es) → AllByRecursion (λ (e : HomeEntry). RegionFits w.sides (guarded_by w.sides.n c) e.pid.0 e.region.0 w.images) es
anew_done w c q x [] all = tt
anew_done w c q x (e ∷ es) all = (all.1.0, anew_done w c q x es all.1.1)

front_all : {X : Type 0} (P : X → Type 0) → (xs ys : List X) → AllByRecursion P (xs ++ ys) → AllByRecursion P xs × AllByRecursion P ys
front_all P [] ys all = (tt, all)
front_all P (x ∷ xs) ys all = let rest = front_all P xs ys all.1 in ((all.0, rest.0), rest.1)

-- THE OPEN OPERATION IS SENT AGAIN
module _ (t : Track) where
  gave_again : (p : Place) (pending : List Message) (c : Option Open) → gave_answer p pending (sent_again t c) ≡ gave_answer p pending c
  gave_again p pending None = refl
  gave_again p pending (Some o) = refl

  plain_again : (c : Option Open) → plain_with (sent_again t c) t.plain ≡ plain_with c t.plain
  plain_again None = refl
  plain_again (Some o) = refl

  writing_again : (c : Option Open) → is_writing (sent_again t c) ≡ is_writing c
  writing_again None = refl
  writing_again (Some o) = refl

  -- storage's word holds only where the operation changes no page
  pages_again : (c : Option Open) → is_writing c ≡ false → is_storage_true t.net None (sent_again t c) ≡ true → (pid vpn : ℕ) → (plain_with c t.plain).page pid vpn ≡ t.plain.page pid vpn
  pages_again None unwritten storage pid vpn = refl
  pages_again (Some o) unwritten storage pid vpn = elim (pages_or_asks (memory_count t.shape) o.operation unwritten) [
    | inl stay ↦ stay t.plain pid vpn
    | inr asks ↦ absurd (asked (list_any (asks_storage_by o.number.0) (messages_of o.by o.number (asks_of (memory_count t.shape) o.operation))) (list_any (asks_storage_by o.number.0) t.net) (asks o.by o.number) storage)
  ]
    where
      asked : (a b : Bool) → a ≡ true → (true && not (a || b)) ≡ true → ⊥
      asked true b e f = cc f
      asked false b e f = cc e

-- a crash that isn't left isn't due
pub not_due : (clock : Clock) (e : Option CrashAt) → is_of_turn clock e ≡ false → is_now clock e ≡ false
not_due clock None none = refl
not_due clock (Some e) none = ap (λ (b : Bool). b && e.after == clock.since) none

-- WHAT IS WHOLE AGAIN: what the lost memory c holds, and that no move is on its way
pub record IsWhole (t : Track) (c : ℕ) (x : Mem) : Type 0 where
  pub at : slice_get t.mems c ≡ Some x
  pub below : c < memory_count t.shape
  pub main : MetaFits (sides_of t) c x.main
  pub spare : MetaFits (sides_of t) (guarded_by (memory_count t.shape) c) x.spare
  pub back : (pid region : ℕ) → owns t.owners c pid region ≡ true → RegionFits (sides_of t) c pid region x.pages
  pub anew : (pid region : ℕ) → owns t.owners (guarded_by (memory_count t.shape) c) pid region ≡ true → RegionFits (sides_of t) (guarded_by (memory_count t.shape) c) pid region t.disk.images
  pub pages : (pid vpn : ℕ) → old_share (sides_of t) c (Page pid vpn) ≡ None → new_share (sides_of t) c (Page pid vpn) ≡ None → page_in x.pages pid vpn ≡ None
  pub log : x.log ≡ []
  pub out : x.out ≡ 0
  pub drains : x.drains ≡ []
  pub blocks : x.blocks ≡ []
  pub background : background c (all_pending t) ≡ []
  pub forgotten : gave_answer (memory c) (all_pending t) t.current ≡ false
  pub no_crash : is_crash_left t ≡ false
  pub incomplete : is_done t.net t.current ≡ false
  pub no_move : AllByRecursion (λ (r : Message). IsOfMove r (healing_move t.healing) → ⊥) (all_pending t)

module _ (lost : Option ℕ) (t : Track) (c : ℕ) (x : Mem) (lost_is : lost ≡ Some c) (whole : IsWhole t c x) (settled : t.owed ≡ []) (middle : Middle lost t) where
  abbrev q : ℕ
  q = guarded_by (memory_count t.shape) c

  abbrev whole_track : Track
  whole_track = record t { healing = None; current = sent_again t t.current }

  -- the new side is the same
  new_same : (j : ℕ) (cell : Cell) → new_share (sides_of whole_track) j cell ≡ new_share (sides_of t) j cell
  new_same j cell = ap (λ (f : Plain). share (memory_count t.shape) t.owners f j cell) (plain_again t t.current)

  gave_same : (p : Place) → gave_answer p (all_pending t) (sent_again t t.current) ≡ gave_answer p (all_pending t) t.current
  gave_same p = gave_again t p (all_pending t) t.current

  none_forgotten : {A : Type 0} → gave_answer (memory c) (all_pending t) (sent_again t t.current) ≡ true → A
  none_forgotten e = let both : true ≡ false = sym e ∙ gave_same (memory c) ∙ whole.forgotten in cc both

  either_then : (j : ℕ) (cell : Cell) (held : Held cell) → IsEither (sides_of t) j cell held → (held ≡ old_share (sides_of whole_track) j cell) ⊎ (held ≡ new_share (sides_of whole_track) j cell)
  either_then j cell held (inl e) = inl e
  either_then j cell held (inr e) = inr (e ∙ sym (new_same j cell))

  -- THE MEMORY ITSELF
  main_either : (cell : Cell) → IsEither (sides_of t) c cell (main_part x cell)
  main_either (Home pid region) = whole.main.homes pid region
  main_either (Areas pid region) = whole.main.areas pid region
  main_either (Page pid vpn) = by (owns t.owners c pid (vpn / 512)) refl
    where
      none_of_it : owns t.owners c pid (vpn / 512) ≡ false → (f : Plain) → share (memory_count t.shape) t.owners f c (Page pid vpn) ≡ None
      none_of_it e f = ap (λ (b : Bool). cond b (f.page pid vpn) None) e

      by : (b : Bool) → owns t.owners c pid (vpn / 512) ≡ b → IsEither (sides_of t) c (Page pid vpn) (page_in x.pages pid vpn)
      by true e = whole.back pid (vpn / 512) e vpn refl
      by false e = inl (whole.pages pid vpn (none_of_it e t.plain) (none_of_it e (plain_with t.current t.plain)) ∙ sym (none_of_it e t.plain))

  its_id : x.id ≡ c
  its_id = (middle.forms c x whole.at).id

  mine : MemHolds whole_track c x
  mine = record {
    part = record { either = λ cell. either_then c cell (main_part x cell) (main_either cell); told = λ cell due. none_forgotten due };
    batch = record {
      none = λ out. ap (λ (k : ℕ). background k (all_pending t)) its_id ∙ whole.background;
      once = λ some. let zero_ = whole.out in absurd (omega (arith, some, zero_));
      within = let zero_ = whole.out in omega (arith, zero_);
      waits = λ some. let none : length x.drains ≡ 0 = ap length whole.drains in absurd (omega (arith, some, none));
    };
    blocks = subst (AllByRecursion _) (sym whole.blocks) tt;
    log = subst (AllByRecursion _) (sym whole.log) tt;
  }

  other_mem : (m : ℕ) (s : Mem) → MemHolds t m s → MemHolds whole_track m s
  other_mem m s holds = record {
    part = record { either = λ cell. either_then m cell (main_part s cell) (holds.part.either cell); told = λ cell due. holds.part.told cell (sym (gave_same (memory m)) ∙ due) ∙ sym (new_same m cell) };
    batch = holds.batch;
    blocks = holds.blocks;
    log = holds.log;
  }

  -- AS A SECONDARY
  second_either : (cell : Cell) → IsEither (sides_of t) (guarded_by (memory_count t.shape) c) cell (second_part t.owners t.disk.images (guarded_by (memory_count t.shape) c) x cell)
  second_either (Home pid region) = whole.spare.homes pid region
  second_either (Areas pid region) = whole.spare.areas pid region
  second_either (Page pid vpn) = subst (λ (log : List Patch). IsEither (sides_of t) (guarded_by (memory_count t.shape) c) (Page pid vpn) (cond (owns t.owners (guarded_by (memory_count t.shape) c) pid (vpn / 512)) (page_in (overlaid log t.disk.images) pid vpn) None)) (sym whole.log) (by (owns t.owners (guarded_by (memory_count t.shape) c) pid (vpn / 512)) refl)
    where
      by : (b : Bool) → owns t.owners (guarded_by (memory_count t.shape) c) pid (vpn / 512) ≡ b → (cond b (page_in t.disk.images pid vpn) None ≡ cond (owns t.owners (guarded_by (memory_count t.shape) c) pid (vpn / 512)) (t.plain.page pid vpn) None) ⊎ (cond b (page_in t.disk.images pid vpn) None ≡ cond (owns t.owners (guarded_by (memory_count t.shape) c) pid (vpn / 512)) ((plain_with t.current t.plain).page pid vpn) None)
      by true e = whole.anew pid (vpn / 512) e vpn refl
      by false e = inl (sym (ap (λ (b : Bool). cond b (t.plain.page pid vpn) None) e))

  -- where the operation changes no page, old and new are one
  same_page : (j pid vpn : ℕ) (held : Option (List ℕ)) → (plain_with t.current t.plain).page pid vpn ≡ t.plain.page pid vpn → IsEither (sides_of t) j (Page pid vpn) held → held ≡ new_share (sides_of t) j (Page pid vpn)
  same_page j pid vpn held stay (inl e) = e ∙ ap (λ (page : Option (List ℕ)). cond (owns t.owners j pid (vpn / 512)) page None) (sym stay)
  same_page j pid vpn held stay (inr e) = e

  -- what is due of a secondary was due, or no page changes
  due_then : (k : ℕ) (cell : Cell) → second_due whole_track k cell ≡ true → (gave_answer (memory k) (all_pending t) t.current ≡ true) × (second_due t k cell ≡ true) ⊎ ((pid : ℕ) × (vpn : ℕ) × (cell ≡ Page pid vpn) × ((plain_with t.current t.plain).page pid vpn ≡ t.plain.page pid vpn))
  due_then k (Home pid region) due = inl (sym (gave_same (memory k)) ∙ due, sym (gave_same (memory k)) ∙ due)
  due_then k (Areas pid region) due = inl (sym (gave_same (memory k)) ∙ due, sym (gave_same (memory k)) ∙ due)
  due_then k (Page pid vpn) due = by (is_writing t.current) refl (is_writing (sent_again t t.current)) (writing_again t t.current) due
    where
      by : (a : Bool) → is_writing t.current ≡ a → (b : Bool) → b ≡ is_writing t.current → cond b (gave_answer (memory k) (all_pending t) (sent_again t t.current)) (is_storage_true t.net None (sent_again t t.current) && gave_answer place.Storage (all_pending t) (sent_again t t.current)) ≡ true → (gave_answer (memory k) (all_pending t) t.current ≡ true) × (images_due t k ≡ true) ⊎ ((p : ℕ) × (v : ℕ) × (Page pid vpn ≡ Page p v) × ((plain_with t.current t.plain).page p v ≡ t.plain.page p v))
      by true write true same due =
          let gave : gave_answer (memory k) (all_pending t) t.current ≡ true = sym (gave_same (memory k)) ∙ due in
          inl (gave, ap (λ (b : Bool). cond b (gave_answer (memory k) (all_pending t) t.current) (is_storage_true t.net t.healing t.current && gave_answer place.Storage (all_pending t) t.current)) write ∙ gave)
      by true write false same due = let both : false ≡ true = same ∙ write in cc both
      by false write true same due = let both : true ≡ false = same ∙ write in cc both
      by false write false same due = inr (pid, vpn, refl, pages_again t t.current write (both_true (is_storage_true t.net None (sent_again t t.current)) (gave_answer place.Storage (all_pending t) (sent_again t t.current)) due).0 pid vpn)

  my_second : SecondHolds whole_track (guarded_by (memory_count t.shape) c) x
  my_second = record {
    part = record {
      either = λ cell. either_then (guarded_by (memory_count t.shape) c) cell (second_part t.owners t.disk.images (guarded_by (memory_count t.shape) c) x cell) (second_either cell);
      told = λ cell due. by cell (due_then c cell (subst (λ (k : ℕ). second_due whole_track k cell ≡ true) own due)) ∙ sym (new_same (guarded_by (memory_count t.shape) c) cell);
    };
  }
    where
      own : secondary_of (memory_count t.shape) (guarded_by (memory_count t.shape) c) ≡ c
      own = (guards-its-own (memory_count t.shape) c middle.machine.two whole.below).1

      by : (cell : Cell) → (gave_answer (memory c) (all_pending t) t.current ≡ true) × (second_due t c cell ≡ true) ⊎ ((pid : ℕ) × (vpn : ℕ) × (cell ≡ Page pid vpn) × ((plain_with t.current t.plain).page pid vpn ≡ t.plain.page pid vpn)) → second_part t.owners t.disk.images (guarded_by (memory_count t.shape) c) x cell ≡ new_share (sides_of t) (guarded_by (memory_count t.shape) c) cell
      by cell (inl gave) = let both : true ≡ false = sym gave.0 ∙ whole.forgotten in cc both
      by cell (inr it) = subst (λ (d : Cell). second_part t.owners t.disk.images (guarded_by (memory_count t.shape) c) x d ≡ new_share (sides_of t) (guarded_by (memory_count t.shape) c) d) (sym it.2) (same_page (guarded_by (memory_count t.shape) c) it.0 it.1 (second_part t.owners t.disk.images (guarded_by (memory_count t.shape) c) x (Page it.0 it.1)) it.3 (second_either (Page it.0 it.1)))

  other_second : (j : ℕ) (y : Mem) → SecondHolds t j y → SecondHolds whole_track j y
  other_second j y holds = record {
    part = record {
      either = λ cell. either_then j cell (second_part t.owners t.disk.images j y cell) (holds.part.either cell);
      told = λ cell due. by cell (due_then (secondary_of (memory_count t.shape) j) cell due) ∙ sym (new_same j cell);
    };
  }
    where
      by : (cell : Cell) → (gave_answer (memory (secondary_of (memory_count t.shape) j)) (all_pending t) t.current ≡ true) × (second_due t (secondary_of (memory_count t.shape) j) cell ≡ true) ⊎ ((pid : ℕ) × (vpn : ℕ) × (cell ≡ Page pid vpn) × ((plain_with t.current t.plain).page pid vpn ≡ t.plain.page pid vpn)) → second_part t.owners t.disk.images j y cell ≡ new_share (sides_of t) j cell
      by cell (inl gave) = holds.part.told cell gave.1
      by cell (inr it) = subst (λ (d : Cell). second_part t.owners t.disk.images j y d ≡ new_share (sides_of t) j d) (sym it.2) (same_page j it.0 it.1 (second_part t.owners t.disk.images j y (Page it.0 it.1)) it.3 (holds.part.either (Page it.0 it.1)))

  -- WHAT IS OPEN AND PENDING
  current_then : (d : Option Open) → is_done t.net d ≡ false → CurrentFits t d → CurrentFits whole_track (sent_again t d)
  current_then None incomplete fits = tt
  current_then (Some o) incomplete fits = (
    record {
      some = fits.0.some;
      below = fits.0.below;
      by = fits.0.by;
      targets = fits.0.targets;
      sent = ([], refl);
      requests = fits.0.requests;
      fits = fits.0.fits;
      answers = every (answers_as_before o (messages_of o.by o.number (asks_of (memory_count t.shape) o.operation)) o.answers (memory_count t.shape) t.plain) o.answers fits.0.answers;
    },
    fits.1,
    inr (incomplete, not_due t.clock (next_crash t.shape t.clock) whole.no_crash, refl),
  )

  up_back : (p : Place) → FromUp lost p → FromUp None p
  up_back (place.Processor cpu) up = up
  up_back (place.Memory m) up = tt
  up_back place.Storage up = up
  up_back place.Manager up = up

  pends_then : (d : Option Open) (r : Message) → (IsOfMove r (healing_move t.healing) → ⊥) → MayPend lost (memory_count t.shape) t.plain d (healing_move t.healing) t.next r → MayPend None (memory_count t.shape) t.plain (sent_again t d) None t.next r
  pends_then d r none may = record { from = may.from; to = may.to; kind = by may.kind }
    where
      of_then : (d : Option Open) → IsOf lost (memory_count t.shape) t.plain r d → IsOf None (memory_count t.shape) t.plain r (sent_again t d)
      of_then None of = of
      of_then (Some o) of = (of.0, tt, of_open o (messages_of o.by o.number (asks_of (memory_count t.shape) o.operation)) o.answers (memory_count t.shape) t.plain r of.2)

      not_then : (d : Option Open) → IsNot d r.op.0 → IsNot (sent_again t d) r.op.0
      not_then None none = none
      not_then (Some o) none = none

      by : Pends lost (memory_count t.shape) t.plain d (healing_move t.healing) t.next r → Pends None (memory_count t.shape) t.plain (sent_again t d) None t.next r
      by (OfOperation of) = OfOperation (of_then d of)
      by (OfMove of) = absurd (none of)
      by (OfBackground of) = OfBackground (record { number = of.number; of = of.of; up = tt; batch = of.batch })
      by (Left old) = Left (record { some = old.some; below = old.below; not_current = not_then d old.not_current; not_move = tt; drained = old.drained; to = old.to; from_up = up_back r.from old.from_up })

  all_then : (rs : List Message) → AllByRecursion (λ (r : Message). IsOfMove r (healing_move t.healing) → ⊥) rs → AllByRecursion (MayPend lost (memory_count t.shape) t.plain t.current (healing_move t.healing) t.next) rs → AllByRecursion (MayPend None (memory_count t.shape) t.plain (sent_again t t.current) None t.next) rs
  all_then [] none all = tt
  all_then (r ∷ rs) none all = (pends_then t.current r none.0 all.0, all_then rs none.1 all.1)

  waits_then : (k : ℕ) (d : Option Open) (w : Waiter) → WaiterFits (memory_count t.shape) k t.next d (healing_move t.healing) w → WaiterFits (memory_count t.shape) k t.next (sent_again t d) None w
  waits_then k None w fits = record { some = fits.some; below = fits.below; by = fits.by; of_open = tt; of_move = tt }
  waits_then k (Some o) w fits = record { some = fits.some; below = fits.below; by = fits.by; of_open = fits.of_open; of_move = tt }

  up_if : (k : ℕ) → (c ≡ k → ⊥) → IsUp lost k
  up_if k differ = subst (λ (l : Option ℕ). IsUp l k) (sym lost_is) differ

  pub whole_again : Middle None whole_track
  whole_again = record {
    machine = middle.machine;
    count = middle.count;
    next = middle.next;
    plain = middle.plain;
    forms = middle.forms;
    current = current_then t.current whole.incomplete middle.current;
    memories = λ m s up at. elim (eqb_tells c m) [
      | inl e ↦ subst (λ (p : ℕ × Mem). MemHolds whole_track p.0 p.1) (λ i. (e.1 i, same_some x s (sym whole.at ∙ ap (slice_get t.mems) e.1 ∙ at) i)) mine
      | inr e ↦ other_mem m s (middle.memories m s (up_if m e.1) at)
    ];
    seconds = λ j y less up at. elim (eqb_tells c (secondary_of (memory_count t.shape) j)) [
      | inl e ↦ subst (λ (p : ℕ × Mem). SecondHolds whole_track p.0 p.1) (λ i. (guarded_is (memory_count t.shape) j c middle.machine.two less (sym e.1) i, same_some x y (sym whole.at ∙ ap (slice_get t.mems) e.1 ∙ at) i)) my_second
      | inr e ↦ other_second j y (middle.seconds j y less (up_if (secondary_of (memory_count t.shape) j) e.1) at)
    ];
    disk = record {
      files = files middle.disk.files;
      told = λ gave. middle.disk.told (sym (gave_same place.Storage) ∙ gave) ∙ sym files_same;
      images = middle.disk.images;
      form = middle.disk.form;
    };
    pending = all_then (all_pending t) whole.no_move middle.pending;
    waiting = λ k s at. every (waits_then k t.current) s.drains (middle.waiting k s at);
    healing = refl;
    idle = λ closed quiet. settled;
  }
    where
      files_same : (sides_of whole_track).new.files ≡ (sides_of t).new.files
      files_same = ap (λ (f : Plain). f.files) (plain_again t t.current)

      files : (t.disk.files ≡ t.plain.files) ⊎ (t.disk.files ≡ (sides_of t).new.files) → (t.disk.files ≡ t.plain.files) ⊎ (t.disk.files ≡ (sides_of whole_track).new.files)
      files (inl e) = inl e
      files (inr e) = inr (e ∙ sym files_same)

-- THE LAST MOVE is complete
module _ (lost : Option ℕ) (t : Track) (h : Healing) (heals : t.healing ≡ Some h) (o : Open) (now : h.current ≡ Some o) (last : h.moves ≡ []) (settled : t.owed ≡ []) (goes_on : t.stopped ≡ false) (complete : is_complete t.net o ≡ true) (middle : Middle lost t) where
  -- all moves are done
  all_done : AllByRecursion (HasDone (scene_of t) h.memory.0 (end_holds lost t h heals o now settled goes_on complete middle).stands.x) (moves_of (memory_count t.shape) h.memory.0 t.owners)
  all_done =
      let way = end_way lost t h heals o now settled goes_on complete middle in
      let stands = (end_holds lost t h heals o now settled goes_on complete middle).stands in
      subst (AllByRecursion (HasDone (scene_of t) h.memory.0 stands.x)) (ap (λ (ms : List Move). stands.done ++ ms) (sym (way.first ∙ ap (λ (ms : List Move). way.move ∷ ms) (sym way.rest ∙ last))) ∙ stands.all)
      (all_both (HasDone (scene_of t) h.memory.0 stands.x) stands.done (way.move ∷ []) way.did (has_done lost t h heals o now settled goes_on complete middle, tt))

  is_whole : IsWhole t h.memory.0 (end_holds lost t h heals o now settled goes_on complete middle).stands.x
  is_whole =
      let holds = end_holds lost t h heals o now settled goes_on complete middle in
      let parts = front_all (HasDone (scene_of t) h.memory.0 holds.stands.x) (images_back h.memory.0 (owned_by h.memory.0 t.owners)) _ all_done.1.1.1 in
      record {
        at = holds.stands.at;
        below = lost_below lost t h goes_on middle heals;
        main = all_done.1.1.0;
        spare = parts.1.1.0;
        back = λ pid region mine. region_of (λ p r. RegionFits (sides_of t) h.memory.0 p r holds.stands.x.pages) pid region (owned_found (λ (e : HomeEntry). RegionFits (sides_of t) h.memory.0 e.pid.0 e.region.0 holds.stands.x.pages) h.memory.0 t.owners (key_at pid region) (back_done (scene_of t) h.memory.0 holds.stands.x (owned_by h.memory.0 t.owners) parts.0) mine);
        anew = λ pid region mine. region_of (λ p r. RegionFits (sides_of t) (guarded_by (memory_count t.shape) h.memory.0) p r t.disk.images) pid region (owned_found (λ (e : HomeEntry). RegionFits (sides_of t) (guarded_by (memory_count t.shape) h.memory.0) e.pid.0 e.region.0 t.disk.images) (guarded_by (memory_count t.shape) h.memory.0) t.owners (key_at pid region) (anew_done (scene_of t) h.memory.0 (guarded_by (memory_count t.shape) h.memory.0) holds.stands.x (owned_by (guarded_by (memory_count t.shape) h.memory.0) t.owners) parts.1.1.1) mine);
        pages = holds.pages;
        log = holds.stands.log;
        out = holds.stands.out;
        drains = holds.stands.drains;
        blocks = holds.stands.blocks;
        background = holds.background;
        forgotten = holds.forgotten;
        no_crash = holds.no_second;
        incomplete = holds.one_done (ap (is_done t.net) now ∙ complete);
        no_move = every (λ r differs of. eqb-false r.op.0 o.number.0 differs (subst (IsOfMove r) (ap healing_move heals ∙ now) of).0) (all_pending t) (none_is_pending lost t h heals o now settled goes_on complete middle);
      }
    where
      region_of : (P : ℕ → ℕ → Type 0) (pid region : ℕ) → (e : HomeEntry) × (same_key (home_key e) (key_at pid region) ≡ true) × P e.pid.0 e.region.0 → P pid region
      region_of P pid region it =
          let same = both_true (it.0.pid.0 == pid) (it.0.region.0 == region) it.1 in
          subst (λ (p : ℕ × ℕ). P p.0 p.1) (λ i. (eqb-true it.0.pid.0 pid same.0 i, eqb-true it.0.region.0 region same.1 i)) it.2

  healing_over : Middle None (record t { healing = None; current = sent_again t t.current })
  healing_over = whole_again lost t h.memory.0 (end_holds lost t h heals o now settled goes_on complete middle).stands.x (lost_at lost t h middle heals) is_whole settled middle

pub healing-ends : HealingEnds
healing-ends lost t h o heals now last settled goes_on complete middle = subst (λ (ms : List Move). Middle None (move_finished t h o ms)) (sym last) (healing_over lost t h heals o now last settled goes_on complete middle)
