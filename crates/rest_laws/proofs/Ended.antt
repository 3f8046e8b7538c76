-- An operation is complete.
use Rattle.std.proofs.Common.{◌≡◌, ◌⊎◌, ◌+◌, ◌/◌, ◌<◌, ◌==◌, ◌&&◌, ◌||◌, [], ◌∷◌, ◌∙◌, ℕ, Bool, List, None, Option, Some, ap, append-nil, arith, cond, false, inl, inr, length, not, refl, slice_get, subst, suc, sym, true, zero}
use Rattle.std.proofs.Math.Nat.{mod-lt}
use Rattle.std.proofs.lemmas.Bool.{eq-eqb, eqb-true}
use Rattle.std.specs.List.{AllByRecursion, list_any}
use Rattle.lego_base.specs.declared.ids.MemId.{MemId}
use Rattle.lego_base.specs.declared.records.HomeEntry.{HomeEntry}
use Rattle.lego_base.specs.declared.records.Patch.{Patch}
use Rattle.lego_base.specs.Pieces.{laid_over}
use Rattle.lego_msg.specs.Completions.{finished, owners_after}
use Rattle.lego_msg.specs.Granted.{IsClear}
use Rattle.lego_msg.specs.Maps.{overlaid, owner_of, page_in}
use Rattle.lego_msg.specs.Operations.{is_write, targets_of}
use Rattle.lego_msg.specs.Places.{is_among, memory, same_place, secondary_of}
use Rattle.lego_msg.specs.Plain.{Plain, effect}
use Rattle.lego_msg.specs.State.{Mem, Waiter}
use Rattle.lego_msg.specs.Track.{Track, all_answered, has_answered, is_complete, is_pending, memory_count}
use Rattle.lego_msg.specs.declared.healing.Healing.{Healing}
use Rattle.lego_msg.specs.declared.message.Message.{Message}
use Rattle.lego_msg.specs.declared.operation.Answer.{Answer}
use Rattle.lego_msg.specs.declared.operation.Open.{Open}
use Rattle.lego_msg.specs.declared.place.Place.{Place}
use Rattle.lego_msg.specs.declared.place.Place.TheVariants.{Manager, Memory, Processor, Storage}
use Rattle.lego_rest.specs.Answers.{all_pending, asks_storage_by, gave_answer, images_due, is_answer_from, is_storage_asked, is_storage_true, second_due}
use Rattle.lego_rest.specs.Fits.{LogFits, WaiterFits, over}
use Rattle.lego_rest.specs.Parts.{Areas, Cell, Home, Page, is_owner, main_part, owns, second_part, share}
use Rattle.lego_rest.specs.Pending.{Left, MayPend, OfBackground, OfMove, OfOperation, Pends}
use Rattle.lego_rest.specs.Rest.{CurrentFits, IsReady, MemHolds, Middle, SecondHolds}
use Rattle.rest_laws.proofs.Lookup.{page-overlaid}
use Rattle.rest_laws.proofs.Opened.{every}
use Rattle.rest_laws.proofs.Truth.{and_true, both_true, not_true}
use Rattle.rest_laws.specs.Completing.{KindEnds, OperationEnds, SameEntries, SamePages, pages_at}
use Rattle.lego_msg.specs.declared.place.Place.TheVariants as place

-- WHO HAS ANSWERED: every target

same_number : (a b : MemId) → a.0 ≡ b.0 → a ≡ b
same_number a b e = λ i. record { 0 = e i }

pub place_is : (a b : Place) → same_place a b ≡ true → a ≡ b
place_is (Processor a) (Processor b) e = λ i. Processor (record { 0 = eqb-true a.0 b.0 e i })
place_is (Processor a) (Memory b) e = cc e
place_is (Processor a) Storage e = cc e
place_is (Processor a) Manager e = cc e
place_is (Memory a) (Processor b) e = cc e
place_is (Memory a) (Memory b) e = λ i. Memory (record { 0 = eqb-true a.0 b.0 e i })
place_is (Memory a) Storage e = cc e
place_is (Memory a) Manager e = cc e
place_is Storage (Processor b) e = cc e
place_is Storage (Memory b) e = cc e
place_is Storage Storage e = refl
place_is Storage Manager e = cc e
place_is Manager (Processor b) e = cc e
place_is Manager (Memory b) e = cc e
place_is Manager Storage e = cc e
place_is Manager Manager e = refl

pub target_answered : (p : Place) (targets : List Place) (answers : List Answer) → is_among p targets ≡ true → all_answered targets answers ≡ true → has_answered p answers ≡ true
target_answered p [] answers among all = cc among
target_answered p (q ∷ targets) answers among all =
    let both = both_true (has_answered q answers) (all_answered targets answers) all in
    by (same_place p q) refl among both.0 (λ there. target_answered p targets answers there both.1)
  where
    by : (b : Bool) → same_place p q ≡ b → (b || is_among p targets) ≡ true → has_answered q answers ≡ true → (is_among p targets ≡ true → has_answered p answers ≡ true) → has_answered p answers ≡ true
    by true e among here rest = ap (λ (x : Place). has_answered x answers) (place_is p q e) ∙ here
    by false e among here rest = rest among

-- a page that is there stays there under a log
over_there : (log : List Patch) (pid vpn : ℕ) (bytes : List ℕ) → over log pid vpn (Some bytes) ≡ None → ⊥
over_there [] pid vpn bytes e = cc e
over_there (p ∷ log) pid vpn bytes e = by (p.pid.0 == pid && p.vpn.0 == vpn) e (over_there log pid vpn)
  where
    by : (b : Bool) → over log pid vpn (cond b (Some (laid_over bytes p.off p.bytes)) (Some bytes)) ≡ None → ((bytes : List ℕ) → over log pid vpn (Some bytes) ≡ None → ⊥) → ⊥
    by true e rest = rest (laid_over bytes p.off p.bytes) e
    by false e rest = rest bytes e

absent_under : (log : List Patch) (pid vpn : ℕ) (page : Option (List ℕ)) → over log pid vpn page ≡ None → page ≡ None
absent_under log pid vpn None e = refl
absent_under log pid vpn (Some bytes) e = absurd (over_there log pid vpn bytes e)

pub get_within : {X : Type 0} (xs : List X) (i : ℕ) → i < length xs → (x : X) × (slice_get xs i ≡ Some x)
get_within [] i less = absurd (omega (arith, less))
get_within (x ∷ xs) zero less = (x, refl)
get_within (x ∷ xs) (suc i) less = get_within xs i (omega (arith, less))

module _ (t : Track) (o : Open) (complete : is_complete t.net o ≡ true) (law : KindEnds (memory_count t.shape) t.owners t.plain o.operation) (middle : Middle None (record t { current = Some o; healing = None; owed = [] })) where
  abbrev busy : Track
  busy = record t { current = Some o; healing = None; owed = [] }

  abbrev ended : Track
  ended = finished (record t { current = Some o; healing = None; owed = [] }) (Some o)

  abbrev after : List HomeEntry
  after = owners_after o.operation t.owners

  abbrev g : Plain
  g = effect o.operation t.plain

  fits : CurrentFits busy (Some o)
  fits = middle.current

  both : (all_answered o.targets o.answers ≡ true) × (not (is_pending o.number.0 t.net) ≡ true)
  both = both_true (all_answered o.targets o.answers) (not (is_pending o.number.0 t.net)) complete

  -- a target has answered
  gave : (p : Place) → is_among p (targets_of (memory_count t.shape) o.operation) ≡ true → gave_answer p (all_pending busy) (Some o) ≡ true
  gave p among = ap (λ (b : Bool). b || list_any (is_answer_from o p) (all_pending busy)) (target_answered p o.targets o.answers (ap (is_among p) fits.0.targets ∙ among) both.0)

  main_new : (k : ℕ) (s : Mem) → MemHolds busy k s → (c : Cell) → main_part s c ≡ share (memory_count t.shape) after g k c
  main_new k s holds c = by (law.main k) ∙ law.owners_end.shares k c
    where
      by : (is_among (memory k) (targets_of (memory_count t.shape) o.operation) ≡ true) ⊎ ((c : Cell) → share (memory_count t.shape) t.owners t.plain k c ≡ share (memory_count t.shape) t.owners g k c) → main_part s c ≡ share (memory_count t.shape) t.owners g k c
      by (inl target) = holds.part.told c (gave (memory k) target)
      by (inr same) = either (holds.part.either c)
        where
          either : (main_part s c ≡ share (memory_count t.shape) t.owners t.plain k c) ⊎ (main_part s c ≡ share (memory_count t.shape) t.owners g k c) → main_part s c ≡ share (memory_count t.shape) t.owners g k c
          either (inl e) = e ∙ same c
          either (inr e) = e

  -- the same where the old and the new agree, or the new is due
  new_where : (j k : ℕ) (x : Mem) (c : Cell) → SecondHolds busy j x → ((second_due busy (secondary_of (memory_count t.shape) j) c ≡ true) ⊎ (share (memory_count t.shape) t.owners t.plain j c ≡ share (memory_count t.shape) t.owners g j c)) → second_part t.owners t.disk.images j x c ≡ share (memory_count t.shape) t.owners g j c
  new_where j k x c holds (inl due) = holds.part.told c due
  new_where j k x c holds (inr same) = either (holds.part.either c)
    where
      either : (second_part t.owners t.disk.images j x c ≡ share (memory_count t.shape) t.owners t.plain j c) ⊎ (second_part t.owners t.disk.images j x c ≡ share (memory_count t.shape) t.owners g j c) → second_part t.owners t.disk.images j x c ≡ share (memory_count t.shape) t.owners g j c
      either (inl e) = e ∙ same
      either (inr e) = e

  -- storage's answer speaks of its images, since no message of the operation is pending
  storage_is_true : is_storage_true t.net None (Some o) ≡ true
  storage_is_true = ap not asked
    where
      no_first : list_any (asks_storage_by o.number.0) o.unsent ≡ false
      no_first = unsent_none o.unsent all_sent
        where
          all_sent : (length o.unsent == 0) ≡ true
          all_sent = ready fits.2
            where
              ready : IsReady busy o → (length o.unsent == 0) ≡ true
              ready (inl all) = all
              ready (inr e) = let two_ : true ≡ false = sym complete ∙ e.0 in cc two_

          unsent_none : (ms : List Message) → (length ms == 0) ≡ true → list_any (asks_storage_by o.number.0) ms ≡ false
          unsent_none [] e = refl
          unsent_none (m ∷ ms) e = let none : suc (length ms) ≡ 0 = eqb-true (suc (length ms)) 0 e in absurd (omega (arith, none))

      none_asks : (ms : List Message) → is_pending o.number.0 ms ≡ false → list_any (asks_storage_by o.number.0) ms ≡ false
      none_asks [] e = refl
      none_asks (m ∷ ms) e = step (m.op.0 == o.number.0) (same_place m.to place.Storage) e (none_asks ms)
        where
          step : (a b : Bool) → (a || is_pending o.number.0 ms) ≡ false → (is_pending o.number.0 ms ≡ false → list_any (asks_storage_by o.number.0) ms ≡ false) → ((a && b) || list_any (asks_storage_by o.number.0) ms) ≡ false
          step true b e rest = cc e
          step false b e rest = rest e

      asked : is_storage_asked t.net (Some o) ≡ false
      asked = ap (λ (b : Bool). b || list_any (asks_storage_by o.number.0) t.net) no_first ∙ none_asks t.net (not_true (is_pending o.number.0 t.net) both.1)

  images_are_due : (j : ℕ) → is_among (pages_at (memory_count t.shape) o.operation j) (targets_of (memory_count t.shape) o.operation) ≡ true → images_due busy (secondary_of (memory_count t.shape) j) ≡ true
  images_are_due j target = by (is_write o.operation) target
    where
      by : (b : Bool) → is_among (cond b (memory (secondary_of (memory_count t.shape) j)) place.Storage) (targets_of (memory_count t.shape) o.operation) ≡ true → cond b (gave_answer (memory (secondary_of (memory_count t.shape) j)) (all_pending busy) (Some o)) (is_storage_true t.net None (Some o) && gave_answer place.Storage (all_pending busy) (Some o)) ≡ true
      by true target = gave (memory (secondary_of (memory_count t.shape) j)) target
      by false target = and_true (is_storage_true t.net None (Some o)) (gave_answer place.Storage (all_pending busy) (Some o)) storage_is_true (gave place.Storage target)

  second_new : (j : ℕ) (x : Mem) → SecondHolds busy j x → (c : Cell) → second_part t.owners t.disk.images j x c ≡ share (memory_count t.shape) t.owners g j c
  second_new j x holds (Home pid region) = new_where j j x (Home pid region) holds (by (law.second j))
    where
      by : (is_among (memory (secondary_of (memory_count t.shape) j)) (targets_of (memory_count t.shape) o.operation) ≡ true) ⊎ SameEntries (memory_count t.shape) t.owners t.plain g j → (gave_answer (memory (secondary_of (memory_count t.shape) j)) (all_pending busy) (Some o) ≡ true) ⊎ (share (memory_count t.shape) t.owners t.plain j (Home pid region) ≡ share (memory_count t.shape) t.owners g j (Home pid region))
      by (inl target) = inl (gave (memory (secondary_of (memory_count t.shape) j)) target)
      by (inr same) = inr (same.0 pid region)
  second_new j x holds (Areas pid region) = new_where j j x (Areas pid region) holds (by (law.second j))
    where
      by : (is_among (memory (secondary_of (memory_count t.shape) j)) (targets_of (memory_count t.shape) o.operation) ≡ true) ⊎ SameEntries (memory_count t.shape) t.owners t.plain g j → (gave_answer (memory (secondary_of (memory_count t.shape) j)) (all_pending busy) (Some o) ≡ true) ⊎ (share (memory_count t.shape) t.owners t.plain j (Areas pid region) ≡ share (memory_count t.shape) t.owners g j (Areas pid region))
      by (inl target) = inl (gave (memory (secondary_of (memory_count t.shape) j)) target)
      by (inr same) = inr (same.1 pid region)
  second_new j x holds (Page pid vpn) = new_where j j x (Page pid vpn) holds (by (law.pages j))
    where
      by : (is_among (pages_at (memory_count t.shape) o.operation j) (targets_of (memory_count t.shape) o.operation) ≡ true) ⊎ SamePages (memory_count t.shape) t.owners t.plain g j → (images_due busy (secondary_of (memory_count t.shape) j) ≡ true) ⊎ (share (memory_count t.shape) t.owners t.plain j (Page pid vpn) ≡ share (memory_count t.shape) t.owners g j (Page pid vpn))
      by (inl target) = inl (images_are_due j target)
      by (inr same) = inr (same pid vpn)

  -- OWNERS that end
  owns_before : (j pid region : ℕ) → owns after j pid region ≡ true → owns t.owners j pid region ≡ true
  owns_before j pid region e = by (owner_of after pid region) refl e
    where
      by : (c : Option MemId) → owner_of after pid region ≡ c → is_owner j c ≡ true → is_owner j (owner_of t.owners pid region) ≡ true
      by None is e = cc e
      by (Some x) is e = ap (is_owner j) (law.owners_end.shrink pid region x is) ∙ e

  second_after : (j : ℕ) (x : Mem) → SecondHolds busy j x → (c : Cell) → second_part after t.disk.images j x c ≡ share (memory_count t.shape) after g j c
  second_after j x holds (Home pid region) = second_new j x holds (Home pid region) ∙ law.owners_end.shares j (Home pid region)
  second_after j x holds (Areas pid region) = second_new j x holds (Areas pid region) ∙ law.owners_end.shares j (Areas pid region)
  second_after j x holds (Page pid vpn) = by (owns after j pid (vpn / 512)) refl
    where
      whole : cond (owns t.owners j pid (vpn / 512)) (page_in (overlaid x.log t.disk.images) pid vpn) None ≡ cond (owns after j pid (vpn / 512)) (g.page pid vpn) None
      whole = second_new j x holds (Page pid vpn) ∙ law.owners_end.shares j (Page pid vpn)

      by : (b : Bool) → owns after j pid (vpn / 512) ≡ b → cond b (page_in (overlaid x.log t.disk.images) pid vpn) None ≡ cond b (g.page pid vpn) None
      by true e =
          let before : owns t.owners j pid (vpn / 512) ≡ true = owns_before j pid (vpn / 512) e in
          ap (λ (b : Bool). cond b (page_in (overlaid x.log t.disk.images) pid vpn) None) (sym before) ∙ whole ∙ ap (λ (b : Bool). cond b (g.page pid vpn) None) e
      by false e = refl

  -- an image whose region has no owner any more is gone
  image_gone : (pid vpn : ℕ) → owner_of after pid (vpn / 512) ≡ None → page_in t.disk.images pid vpn ≡ None
  image_gone pid vpn none = by (owner_of t.owners pid (vpn / 512)) refl
    where
      by : (c : Option MemId) → owner_of t.owners pid (vpn / 512) ≡ c → page_in t.disk.images pid vpn ≡ None
      by None e = middle.disk.images pid vpn e
      by (Some x) e =
          let n = memory_count t.shape in
          let below : x.0 < n = middle.plain.within pid (vpn / 512) x e in
          let second : secondary_of n x.0 < n = mod-lt (x.0 + 1) (omega (arith, below)) in
          let count = middle.count in
          let there = get_within t.mems (secondary_of n x.0) (omega (arith, second, count)) in
          let holds = middle.seconds x.0 there.0 below tt there.1 in
          let owned : owns t.owners x.0 pid (vpn / 512) ≡ true = ap (is_owner x.0) e ∙ eq-eqb x.0 x.0 refl in
          let unowned : owns after x.0 pid (vpn / 512) ≡ false = ap (is_owner x.0) none in
          let part : page_in (overlaid there.0.log t.disk.images) pid vpn ≡ None =
          ap (λ (b : Bool). cond b (page_in (overlaid there.0.log t.disk.images) pid vpn) None) (sym owned)
          ∙ second_new x.0 there.0 holds (Page pid vpn) ∙ law.owners_end.shares x.0 (Page pid vpn)
          ∙ ap (λ (b : Bool). cond b (g.page pid vpn) None) unowned in
          absent_under there.0.log pid vpn (page_in t.disk.images pid vpn) (sym (page-overlaid there.0.log t.disk.images pid vpn) ∙ part)

  log_after : (k : ℕ) (log : List Patch) → IsClear o.operation log → AllByRecursion (LogFits (memory_count t.shape) t.owners k) log → AllByRecursion (LogFits (memory_count t.shape) after k) log
  log_after k [] clear of = tt
  log_after k (p ∷ log) clear of = ((of.0.0, law.owners_end.logs p of.0.0 clear.0 of.0.1, of.0.2), log_after k log clear.1 of.1)

  files_new : t.disk.files ≡ g.files
  files_new = by law.files
    where
      by : (is_among place.Storage (targets_of (memory_count t.shape) o.operation) ≡ true) ⊎ (t.plain.files ≡ g.files) → t.disk.files ≡ g.files
      by (inl target) = middle.disk.told (gave place.Storage target)
      by (inr same) = either middle.disk.files
        where
          either : (t.disk.files ≡ t.plain.files) ⊎ (t.disk.files ≡ g.files) → t.disk.files ≡ g.files
          either (inl e) = e ∙ same
          either (inr e) = e

  -- WHAT IS PENDING is of no operation any more
  pends_on : (ms : List Message) → is_pending o.number.0 ms ≡ false → AllByRecursion (MayPend None (memory_count t.shape) t.plain (Some o) None t.next) ms → AllByRecursion (MayPend None (memory_count t.shape) g None None t.next) ms
  pends_on [] none all = tt
  pends_on (m ∷ ms) none all = (record { from = all.0.from; to = all.0.to; kind = by all.0.kind }, pends_on ms (rest (m.op.0 == o.number.0) none) all.1)
    where
      rest : (a : Bool) → (a || is_pending o.number.0 ms) ≡ false → is_pending o.number.0 ms ≡ false
      rest true e = cc e
      rest false e = e

      own : (a : Bool) → (m.op.0 == o.number.0) ≡ a → (a || is_pending o.number.0 ms) ≡ false → m.op.0 ≡ o.number.0 → ⊥
      own true e none same = cc none
      own false e none same = let two_ : true ≡ false = sym (eq-eqb m.op.0 o.number.0 same) ∙ e in cc two_

      by : Pends None (memory_count t.shape) t.plain (Some o) None t.next m → Pends None (memory_count t.shape) g None None t.next m
      by (OfOperation of) = absurd (own (m.op.0 == o.number.0) refl none of.0)
      by (OfMove of) = absurd of
      by (OfBackground of) = OfBackground of
      by (Left old) = Left (record {
        some = old.some;
        below = old.below;
        not_current = tt;
        not_move = tt;
        drained = old.drained;
        to = old.to;
        from_up = old.from_up;
      })

  none_pending : is_pending o.number.0 (all_pending busy) ≡ false
  none_pending = ap (is_pending o.number.0) (append-nil t.net) ∙ not_true (is_pending o.number.0 t.net) both.1

  waits_on : (k : ℕ) (w : Waiter) → WaiterFits (memory_count t.shape) k t.next (Some o) None w → WaiterFits (memory_count t.shape) k t.next None None w
  waits_on k w fits = record { some = fits.some; below = fits.below; by = fits.by; of_open = tt; of_move = fits.of_move }

  none_due : (k : ℕ) (c : Cell) → second_due ended k c ≡ true → ⊥
  none_due k (Home pid region) e = cc e
  none_due k (Areas pid region) e = cc e
  none_due k (Page pid vpn) e = cc e

  end_keeps : Middle None ended
  end_keeps = record {
    machine = middle.machine;
    count = middle.count;
    next = middle.next;
    plain = law.owners_end.plain;
    forms = middle.forms;
    current = tt;
    memories = λ k s up at.
        let was = middle.memories k s up at in
        record {
          part = record { either = λ c. inl (main_new k s was c); told = λ c due. main_new k s was c };
          batch = was.batch;
          blocks = was.blocks;
          log = log_after k s.log (fits.1 k s at) was.log;
        };
    seconds = λ j x below up at.
        let was = middle.seconds j x below up at in
        record { part = record { either = λ c. inl (second_after j x was c); told = λ c due. second_after j x was c } };
    disk = record { files = inl files_new; told = λ has. files_new; images = image_gone; form = middle.disk.form };
    pending = pends_on (all_pending busy) none_pending middle.pending;
    waiting = λ k s at. every (waits_on k) s.drains (middle.waiting k s at);
    healing = refl;
    idle = λ closed quiet. refl;
  }

pub operation-ends : OperationEnds
operation-ends t o is healed settled complete law middle =
    subst (λ (p : List Message × Option Open × Option Healing). Middle None (finished (record t { owed = p.0; current = p.1; healing = p.2 }) (Some o))) (λ i. (sym settled i, sym is i, sym healed i))
    (end_keeps t o complete law (subst (λ (p : List Message × Option Open × Option Healing). Middle None (record t { owed = p.0; current = p.1; healing = p.2 })) (λ i. (settled i, is i, healed i)) middle))
