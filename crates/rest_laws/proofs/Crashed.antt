-- A crash: what the memory held is gone, and its healing begins.
use Rattle.std.proofs.Common.{◌≡◌, ◌⊎◌, ◌+◌, ◌/◌, ◌<◌, ◌==◌, ◌&&◌, ◌||◌, [], ◌∷◌, ◌∙◌, ℕ, Bool, List, None, Option, Some, ap, append-nil, arith, cond, eqb, false, inl, inr, length, not, refl, slice_get, subst, suc, sym, true, zero}
use Rattle.std.proofs.Math.Dec.{eqb-suc-zero}
use Rattle.std.proofs.lemmas.Bool.{eq-eqb, eqb-true, ne_eqb}
use Rattle.std.proofs.lemmas.Bool.Decides.{eqb_tells}
use Rattle.std.specs.List.{AllByRecursion, list_any}
use Rattle.std.specs.Prelude.{slice_set}
use Rattle.lego_base.specs.declared.shape.CrashAt.{CrashAt}
use Rattle.lego_msg.proofs.Senders.{get_set, get_set_other, same_some}
use Rattle.lego_msg.specs.Granted.{IsClear, asks_clear}
use Rattle.lego_msg.specs.Maps.{overlaid, page_in}
use Rattle.lego_msg.specs.Crashes.{IsEntry, IsNextInc, crashed, forgotten, is_crash_moment, is_idle, memory_lost}
use Rattle.lego_msg.specs.Healing.{moves_of}
use Rattle.lego_msg.specs.Marks.{is_turn_end}
use Rattle.lego_msg.specs.Operations.{asks_of}
use Rattle.lego_msg.specs.Places.{guarded_by, is_issuer, lose, memory, same_place, secondary_of}
use Rattle.lego_msg.specs.Plain.{Plain, effect}
use Rattle.lego_msg.specs.State.{Block, Mem, Waiter, lost}
use Rattle.lego_msg.specs.Track.{Track, forget, is_crash_due, is_crash_left, is_now, is_of_turn, memory_count, next_crash}
use Rattle.lego_msg.specs.declared.healing.Healing.{Healing}
use Rattle.lego_msg.specs.declared.message.Message.{Message}
use Rattle.lego_msg.specs.declared.operation.Open.{Open}
use Rattle.lego_msg.specs.declared.operation.Operation.{Operation}
use Rattle.lego_msg.specs.declared.operation.Operation.TheVariants.{AsksAreas, AsksSize, Copies, CutsFile, CutsName, Drains, Drops, Finds, FreesFile, GetsName, Heals, ListsNames, MakesName, Reads, ReadsFile, SetsAreas, SetsHome, Unmaps, Writes, WritesFile}
use Rattle.lego_msg.specs.declared.place.Place.{Place}
use Rattle.lego_msg.specs.declared.place.Place.TheVariants.{Manager, Memory, Processor, Storage}
use Rattle.lego_rest.specs.Answers.{all_pending, asks_storage_by, gave_answer, heals_target, is_storage_asked, is_storage_true, is_writing, second_due}
use Rattle.lego_rest.specs.Fits.{CrashesRise, MemFits, WaiterFits, background, changes_block, is_background}
use Rattle.lego_rest.specs.Heals.{HealFits, NumbersDiffer, open_clear}
use Rattle.lego_rest.specs.Parts.{Areas, Cell, Home, IsEither, Page, new_share, old_share, owns, plain_with, second_part, sides_of}
use Rattle.lego_rest.specs.Pending.{AnAnswer, First, FromUp, Goes as BatchGoes, HandedOn, HandsOn, IsBatch, IsNot, IsOf, Left, MayPend, OfBackground, OfMove, OfOpen, OfOperation, Pends, Reaction, Returns}
use Rattle.lego_rest.specs.Rest.{CurrentFits, IsReady, Middle, SecondHolds}
use Rattle.rest_laws.proofs.Around.{guards-its-own}
use Rattle.rest_laws.proofs.Bare.{get_below}
use Rattle.rest_laws.proofs.Lookup.{page-overlaid}
use Rattle.rest_laws.proofs.Pages.{untouched}
use Rattle.rest_laws.proofs.kinds.Images.{clear_of}
use Rattle.rest_laws.proofs.Lost.{IsApart, all_kept, all_left, any_left, background_gone, background_stays, gave_before, gave_none, plain_stays}
use Rattle.rest_laws.proofs.Opened.{answers_as_before, every, first_from, of_open, waits_as_before}
use Rattle.rest_laws.proofs.Truth.{and_true, back_false, both_true, not_true}
use Rattle.rest_laws.proofs.Stepping.{disk_stays, mem_stays, seconded, set_length}
use Rattle.rest_laws.specs.Crashing.{CrashBegins}
use Rattle.rest_laws.specs.Steps.{Goes, Moment, stepped}
use Rattle.lego_msg.specs.declared.place.Place.TheVariants as place

-- A QUESTION TO STORAGE MAY BE LOST, but only where the operation changes no page: only what a file's memory hands on comes
-- from a memory

abbrev PagesStay : Operation → Type 0
PagesStay o = (f : Plain) (pid vpn : ℕ) → (effect o f).page pid vpn ≡ f.page pid vpn

handed_by_files : (n : ℕ) (f : Plain) (by : Place) (o : Operation) (m : Message) → HandsOn n f by o m → PagesStay o
handed_by_files n f by (Finds pid region) m how = absurd how
handed_by_files n f by (Reads pid line owner) m how = absurd how
handed_by_files n f by (Writes origin patch owner) m how = absurd how
handed_by_files n f by (SetsHome pid region owner) m how = absurd how
handed_by_files n f by (SetsAreas pid region areas owner) m how = absurd how
handed_by_files n f by (AsksAreas pid region owner) m how = absurd how
handed_by_files n f by (Drains memory_) m how = absurd how
handed_by_files n f by (Unmaps pid region first pages areas owner) m how = absurd how
handed_by_files n f by (Copies parent child regions owner) m how = absurd how
handed_by_files n f by (Drops pid) m how = absurd how
handed_by_files n f by (ReadsFile file block off len) m how = λ g pid vpn. refl
handed_by_files n f by (WritesFile file block off bytes) m how = λ g pid vpn. refl
handed_by_files n f by (CutsFile file size) m how = λ g pid vpn. refl
handed_by_files n f by (AsksSize file) m how = absurd how
handed_by_files n f by (GetsName name) m how = absurd how
handed_by_files n f by (MakesName name) m how = absurd how
handed_by_files n f by (CutsName name) m how = absurd how
handed_by_files n f by ListsNames m how = absurd how
handed_by_files n f by (FreesFile file) m how = absurd how
handed_by_files n f by (Heals to_ what_) m how = absurd how

no_place : (to : Place) (c : ℕ) → same_place to (memory c) ≡ true → is_issuer to ≡ true → ⊥
no_place (Processor cpu) c e f = cc e
no_place (Memory m) c e f = cc f
no_place Storage c e f = cc e
no_place Manager c e f = cc e

storage_apart : (to : Place) (c : ℕ) → same_place to place.Storage ≡ true → same_place to (memory c) ≡ false
storage_apart (Processor cpu) c e = cc e
storage_apart (Memory m) c e = cc e
storage_apart Storage c e = refl
storage_apart Manager c e = cc e

issuer_away : (from : Place) (c : ℕ) → is_issuer from ≡ true → same_place from (memory c) ≡ false
issuer_away (Processor cpu) c e = refl
issuer_away (Memory m) c e = cc e
issuer_away Storage c e = cc e
issuer_away Manager c e = refl

issuer_no_storage : (to : Place) → is_issuer to ≡ true → same_place to place.Storage ≡ true → ⊥
issuer_no_storage (Processor cpu) e f = cc f
issuer_no_storage (Memory m) e f = cc f
issuer_no_storage Storage e f = cc e
issuer_no_storage Manager e f = cc f

-- of a question to storage: it is apart from c, or the operation changes no page
is_question_apart : (n : ℕ) (f : Plain) (next c : ℕ) (o : Open) (m : Message) → 0 < o.number.0 → is_issuer o.by ≡ true → m.op.0 ≡ o.number.0 → same_place m.to place.Storage ≡ true → Pends None n f (Some o) None next m → ((same_place m.from (memory c) || same_place m.to (memory c)) ≡ false) ⊎ PagesStay o.operation
is_question_apart n f next c o m some issuer number storage (OfMove of) = absurd of
is_question_apart n f next c o m some issuer number storage (OfBackground of) = let zero : m.op.0 ≡ 0 = of.number in absurd (omega (arith, zero, number, some))
is_question_apart n f next c o m some issuer number storage (Left old) = absurd (issuer_no_storage m.to old.to storage)
is_question_apart n f next c o m some issuer number storage (OfOperation of) = by of.2
  where
    from_issuer : is_issuer m.from ≡ true → (same_place m.from (memory c) || same_place m.to (memory c)) ≡ false
    from_issuer e = (λ i. issuer_away m.from c e i || storage_apart m.to c storage i)

    by : OfOpen n f m o → ((same_place m.from (memory c) || same_place m.to (memory c)) ≡ false) ⊎ PagesStay o.operation
    by (First among) = inl (from_issuer (ap is_issuer (first_from o.by o.number (asks_of n o.operation) m among).0 ∙ issuer))
    by (Reaction from how) = inl (from_issuer (ap is_issuer from ∙ issuer))
    by (HandedOn how) = inr (handed_by_files n f o.by o.operation m how)
    by (AnAnswer to target says) = absurd (issuer_no_storage m.to (ap is_issuer to ∙ issuer) storage)

-- a question that was pending is left, or the operation changes no page
question_left : (n : ℕ) (f : Plain) (next c : ℕ) (o : Open) (ms : List Message) → 0 < o.number.0 → is_issuer o.by ≡ true → AllByRecursion (MayPend None n f (Some o) None next) ms → list_any (asks_storage_by o.number.0) ms ≡ true → (list_any (asks_storage_by o.number.0) (lose (memory c) ms) ≡ true) ⊎ PagesStay o.operation
question_left n f next c o [] some issuer all e = cc e
question_left n f next c o (m ∷ ms) some issuer all e = by (m.op.0 == o.number.0) (same_place m.to place.Storage) refl refl e (question_left n f next c o ms some issuer all.1)
  where
    kept : (b : Bool) → list_any (asks_storage_by o.number.0) (lose (memory c) ms) ≡ true → list_any (asks_storage_by o.number.0) (cond b (lose (memory c) ms) (m ∷ lose (memory c) ms)) ≡ true
    kept true rest = rest
    kept false rest = later (asks_storage_by o.number.0 m) rest
      where
        later : (a : Bool) → list_any (asks_storage_by o.number.0) (lose (memory c) ms) ≡ true → (a || list_any (asks_storage_by o.number.0) (lose (memory c) ms)) ≡ true
        later true rest = refl
        later false rest = rest

    this_one : (m.op.0 == o.number.0) ≡ true → same_place m.to place.Storage ≡ true → ((same_place m.from (memory c) || same_place m.to (memory c)) ≡ false) ⊎ PagesStay o.operation → (list_any (asks_storage_by o.number.0) (cond (same_place m.from (memory c) || same_place m.to (memory c)) (lose (memory c) ms) (m ∷ lose (memory c) ms)) ≡ true) ⊎ PagesStay o.operation
    this_one number storage (inr stay) = inr stay
    this_one number storage (inl apart) = inl ((λ i. list_any (asks_storage_by o.number.0) (cond (apart i) (lose (memory c) ms) (m ∷ lose (memory c) ms))) ∙ (λ i. (number i && storage i) || list_any (asks_storage_by o.number.0) (lose (memory c) ms)))

    rest_of : (list_any (asks_storage_by o.number.0) (lose (memory c) ms) ≡ true) ⊎ PagesStay o.operation → (list_any (asks_storage_by o.number.0) (cond (same_place m.from (memory c) || same_place m.to (memory c)) (lose (memory c) ms) (m ∷ lose (memory c) ms)) ≡ true) ⊎ PagesStay o.operation
    rest_of (inr stay) = inr stay
    rest_of (inl there) = inl (kept (same_place m.from (memory c) || same_place m.to (memory c)) there)

    by : (a b : Bool) → (m.op.0 == o.number.0) ≡ a → same_place m.to place.Storage ≡ b → ((a && b) || list_any (asks_storage_by o.number.0) ms) ≡ true → (list_any (asks_storage_by o.number.0) ms ≡ true → (list_any (asks_storage_by o.number.0) (lose (memory c) ms) ≡ true) ⊎ PagesStay o.operation) → (list_any (asks_storage_by o.number.0) (cond (same_place m.from (memory c) || same_place m.to (memory c)) (lose (memory c) ms) (m ∷ lose (memory c) ms)) ≡ true) ⊎ PagesStay o.operation
    by true true number storage e rest = this_one number storage (is_question_apart n f next c o m some issuer (eqb-true m.op.0 o.number.0 number) storage all.0.kind)
    by true false number storage e rest = rest_of (rest e)
    by false b number storage e rest = rest_of (rest e)

-- BACKGROUND of a memory is apart from every other one
batch_apart : (k c : ℕ) (m : Message) (of : ℕ) → (k ≡ c → ⊥) → IsBatch m of → (same_place m.from (memory k) || same_place m.to (memory k)) ≡ true → (same_place m.from (memory c) || same_place m.to (memory c)) ≡ false
batch_apart k c m of differ (BatchGoes from to patches body) e =
    let is : eqb of k ≡ true = or_no (eqb of k) (sym (λ i. same_place (from i) (memory k) || same_place (to i) (memory k)) ∙ e) in
    (λ i. same_place (from i) (memory c) || same_place (to i) (memory c)) ∙ ap (λ (b : Bool). b || false) (ne_eqb of c (λ same. differ (sym (eqb-true of k is) ∙ same)))
  where
    or_no : (a : Bool) → (a || false) ≡ true → a ≡ true
    or_no true f = refl
    or_no false f = cc f
batch_apart k c m of differ (Returns from to body) e =
    let is : eqb of k ≡ true = sym (λ i. same_place (from i) (memory k) || same_place (to i) (memory k)) ∙ e in
    (λ i. same_place (from i) (memory c) || same_place (to i) (memory c)) ∙ ne_eqb of c (λ same. differ (sym (eqb-true of k is) ∙ same))

background_apart : (n : ℕ) (f : Plain) (current : Option Open) (next k c : ℕ) (m : Message) → ((o : Open) → current ≡ Some o → 0 < o.number.0) → (k ≡ c → ⊥) → Pends None n f current None next m → is_background k m ≡ true → (same_place m.from (memory c) || same_place m.to (memory c)) ≡ false
background_apart n f current next k c m some differ (OfMove of) is = absurd of
background_apart n f current next k c m some differ (OfBackground of) is = batch_apart k c m of.of differ of.batch (both_true (m.op.0 == 0) (same_place m.from (memory k) || same_place m.to (memory k)) is).1
background_apart n f current next k c m some differ (Left old) is =
    let zero : m.op.0 ≡ 0 = eqb-true m.op.0 0 (both_true (m.op.0 == 0) (same_place m.from (memory k) || same_place m.to (memory k)) is).0 in
    let above = old.some in
    absurd (omega (arith, zero, above))
background_apart n f current next k c m some differ (OfOperation of) is = absurd (by current refl of)
  where
    by : (d : Option Open) → current ≡ d → IsOf None n f m d → ⊥
    by None e of = of
    by (Some o) e of =
        let zero : m.op.0 ≡ 0 = eqb-true m.op.0 0 (both_true (m.op.0 == 0) (same_place m.from (memory k) || same_place m.to (memory k)) is).0 in
        let number : m.op.0 ≡ o.number.0 = of.0 in
        let above = some o e in
        omega (arith, zero, number, above)

-- WHAT IS LEFT pends with c lost
batch_of_other : (c of : ℕ) (m : Message) → IsApart (memory c) m → IsBatch m of → c ≡ of → ⊥
batch_of_other c of m apart (BatchGoes from to patches body) same =
    let there : true ≡ false = sym (eq-eqb of c (sym same)) ∙ ap (λ (p : Place). same_place p (memory c)) (sym from) ∙ apart.from in
    cc there
batch_of_other c of m apart (Returns from to body) same =
    let there : true ≡ false = sym (eq-eqb of c (sym same)) ∙ ap (λ (p : Place). same_place p (memory c)) (sym to) ∙ apart.to in
    cc there

from_other : (c : ℕ) (p : Place) → same_place p (memory c) ≡ false → FromUp None p → FromUp (Some c) p
from_other c (Processor cpu) e up = up
from_other c (Memory m) e up = λ same. (let there : true ≡ false = sym (eq-eqb m.0 c (sym same)) ∙ e in cc there)
from_other c Storage e up = up
from_other c Manager e up = up

not_current : (p : Place) (current : Option Open) (number : ℕ) → IsNot current number → IsNot (forgotten p current) number
not_current p None number none = none
not_current p (Some o) number none = none

of_current : (n : ℕ) (f : Plain) (c : ℕ) (m : Message) (current : Option Open) → IsApart (memory c) m → IsOf None n f m current → IsOf (Some c) n f m (forgotten (memory c) current)
of_current n f c m None apart of = of
of_current n f c m (Some o) apart of = (of.0, (apart.from, apart.to), of_open o o.unsent (forget (memory c) o.answers) n f m of.2)

pends_left : (n : ℕ) (f : Plain) (c next : ℕ) (current : Option Open) (m : Message) → MayPend None n f current None next m × IsApart (memory c) m → MayPend (Some c) n f (forgotten (memory c) current) None next m
pends_left n f c next current m (may, apart) = record { from = may.from; to = may.to; kind = by may.kind }
  where
    by : Pends None n f current None next m → Pends (Some c) n f (forgotten (memory c) current) None next m
    by (OfOperation of) = OfOperation (of_current n f c m current apart of)
    by (OfMove of) = OfMove of
    by (OfBackground of) = OfBackground (record { number = of.number; of = of.of; up = batch_of_other c of.of m apart of.batch; batch = of.batch })
    by (Left old) = Left (record {
      some = old.some;
      below = old.below;
      not_current = not_current (memory c) current m.op.0 old.not_current;
      not_move = old.not_move;
      drained = old.drained;
      to = old.to;
      from_up = from_other c m.from apart.from old.from_up;
    })

waits_left : (n k next : ℕ) (p : Place) (current : Option Open) (w : Waiter) → WaiterFits n k next current None w → WaiterFits n k next (forgotten p current) None w
waits_left n k next p None w fits = fits
waits_left n k next p (Some o) w fits = waits_as_before o o.unsent (forget p o.answers) n k next None w fits

-- NO SECOND CRASH in a turn: the turns of the crash list rise
later_turn : (crashes : List CrashAt) (i : ℕ) (e f : CrashAt) → CrashesRise crashes → slice_get crashes i ≡ Some e → slice_get crashes (i + 1) ≡ Some f → e.turn < f.turn
later_turn [] i e f rise at next_ = cc at
later_turn (x ∷ []) zero e f rise at next_ = cc next_
later_turn (x ∷ []) (suc i) e f rise at next_ = cc at
later_turn (x ∷ y ∷ crashes) zero e f rise at next_ = subst (λ (p : CrashAt × CrashAt). p.0.turn < p.1.turn) (λ i. (same_some x e at i, same_some y f next_ i)) rise.0
later_turn (x ∷ y ∷ crashes) (suc i) e f rise at next_ = later_turn (y ∷ crashes) i e f rise.1 at (sym (ap (slice_get (x ∷ y ∷ crashes)) (shifted i)) ∙ next_)
  where
    shifted : (i : ℕ) → suc i + 1 ≡ suc (i + 1)
    shifted i = omega arith

module _ (t : Track) (c : ℕ) (s : Mem) (at_c : slice_get t.mems c ≡ Some s) (all_sent : (o : Open) → t.current ≡ Some o → (length o.unsent == 0) ≡ true) (middle : Middle None (record t { owed = []; healing = None })) where
  abbrev before : Track
  before = record t { owed = []; healing = None }

  abbrev p : Place
  p = memory c

  abbrev beginning : Healing
  beginning = record { memory = record { 0 = c }; moves = moves_of (memory_count t.shape) c t.owners; current = None; got = None }

  abbrev now : Moment
  now = record {
    net = lose (memory c) t.net;
    owed = [];
    delivered = t.delivered;
    next = t.next;
    current = forgotten (memory c) t.current;
    healing = Some beginning;
    clock = record t.clock { passed = t.clock.passed + 1 };
    stopped = t.stopped;
    caches = t.caches;
    due = t.due;
  }

  abbrev mems : List Mem
  mems = slice_set t.mems c (lost s)

  abbrev struck : Track
  struck = stepped before mems t.disk now

  old_pending : all_pending before ≡ t.net
  old_pending = append-nil t.net

  new_pending : all_pending struck ≡ lose (memory c) t.net
  new_pending = append-nil (lose (memory c) t.net)

  -- the memory itself, or another one as it was
  at_each : (P : ℕ → Mem → Type 0) (m : ℕ) (x : Mem) → slice_get mems m ≡ Some x → P c (lost s) → ((c ≡ m → ⊥) → slice_get t.mems m ≡ Some x → P m x) → P m x
  at_each P m x at mine other = elim (eqb_tells c m) [
    | inl e ↦
        let is : lost s ≡ x = same_some (lost s) x (sym (get_set t.mems c s (lost s) at_c) ∙ ap (slice_get mems) e.1 ∙ at) in
        subst (λ (q : ℕ × Mem). P q.0 q.1) (λ i. (e.1 i, is i)) mine
    | inr e ↦ other e.1 (sym (get_set_other t.mems c m (lost s) e.1) ∙ at)
  ]

  gave : (q : Place) → gave_answer q (all_pending struck) (forgotten (memory c) t.current) ≡ true → gave_answer q (all_pending before) t.current ≡ true
  gave q e =
      subst (λ (ms : List Message). gave_answer q ms t.current ≡ true) (sym old_pending)
      (gave_before q (memory c) t.net t.current (subst (λ (ms : List Message). gave_answer q ms (forgotten (memory c) t.current) ≡ true) new_pending e))

  pend : AllByRecursion (MayPend None (memory_count t.shape) t.plain t.current None t.next) t.net
  pend = subst (AllByRecursion (MayPend None (memory_count t.shape) t.plain t.current None t.next)) old_pending middle.pending

  numbered : (o : Open) → t.current ≡ Some o → 0 < o.number.0
  numbered o is = (subst (CurrentFits before) is middle.current).0.some

  batches : (k : ℕ) → (k ≡ c → ⊥) → background k (all_pending struck) ≡ background k (all_pending before)
  batches k differ =
      ap (background k) new_pending
      ∙ background_stays k (memory c) t.net (every (λ (m : Message) (may : MayPend None (memory_count t.shape) t.plain t.current None t.next m). background_apart (memory_count t.shape) t.plain t.current t.next k c m numbered differ may.kind) t.net pend)
      ∙ ap (background k) (sym old_pending)

  changes : (b : Block) → list_any (λ (m : Message). changes_block b m.body) (all_pending before) ≡ false → list_any (λ (m : Message). changes_block b m.body) (all_pending struck) ≡ false
  changes b none =
      ap (list_any (λ (m : Message). changes_block b m.body)) new_pending
      ∙ back_false (list_any (λ (m : Message). changes_block b m.body) t.net) (list_any (λ (m : Message). changes_block b m.body) (lose (memory c) t.net)) (any_left (λ (m : Message). changes_block b m.body) (memory c) t.net)
      (sym (ap (list_any (λ (m : Message). changes_block b m.body)) old_pending) ∙ none)

  -- THE OPEN OPERATION forgets the answers of the memory
  current_left : (d : Option Open) → t.current ≡ d → CurrentFits before d → CurrentFits struck (forgotten (memory c) d)
  current_left None is fits = tt
  current_left (Some o) is fits = (
    record {
      some = fits.0.some;
      below = fits.0.below;
      by = fits.0.by;
      targets = fits.0.targets;
      sent = fits.0.sent;
      requests = fits.0.requests;
      fits = fits.0.fits;
      answers = every (answers_as_before o o.unsent (forget (memory c) o.answers) (memory_count t.shape) t.plain) (forget (memory c) o.answers) (all_kept _ (memory c) o.answers fits.0.answers);
    },
    λ m x at. at_each (λ (m : ℕ) (x : Mem). IsClear o.operation x.log) m x at tt (λ differ was. fits.1 m x was),
    inl (all_sent o is),
  )

  goes : is_crash_left struck ≡ false → Goes (Some c) before mems t.disk now
  goes no_second = record {
    plain = plain_stays (memory c) t.current t.plain;
    next = middle.next;
    current = current_left t.current refl middle.current;
    pending = subst (AllByRecursion (MayPend (Some c) (memory_count t.shape) t.plain (forgotten (memory c) t.current) None t.next)) (sym new_pending) (every (pends_left (memory_count t.shape) t.plain c t.next t.current) (lose (memory c) t.net) (all_left _ (memory c) t.net pend));
    waiting = λ m x at. at_each (λ (m : ℕ) (x : Mem). AllByRecursion (WaiterFits (memory_count t.shape) m t.next (forgotten (memory c) t.current) None) x.drains) m x at tt (λ differ was. every (waits_left (memory_count t.shape) m t.next (memory c) t.current) x.drains (middle.waiting m x was));
    healing = (
      refl,
      λ goes_on. record {
        stands = record { x = lost s; at = get_set t.mems c s (lost s) at_c; done = []; ahead = moves_of (memory_count t.shape) c t.owners; all = refl; rest = refl; log = refl; out = refl; drains = refl; blocks = refl };
        between = (tt, tt, eqb-suc-zero _);
        background = ap (background c) new_pending ∙ background_gone c t.net;
        pages = λ pid vpn old new. refl;
        clear = λ pid vpn is mine. clear t.current refl pid vpn is mine;
        forgotten = ap (λ (ms : List Message). gave_answer (memory c) ms (forgotten (memory c) t.current)) new_pending ∙ gave_none (memory c) t.net t.current;
        one_done = λ done. cc done;
        no_second = no_second;
        apart = no_move t.current;
      },
    );
    idle = λ closed quiet. absurd (no_healing quiet);
  }
    where
      no_healing : Some beginning ≡ None → ⊥
      no_healing e = cc e

      -- no log had a patch of such a page, so its image is what the log was laid over
      clear : (d : Option Open) → t.current ≡ d → (pid vpn : ℕ) → open_clear (forgotten (memory c) d) pid vpn ≡ true → owns t.owners (guarded_by (memory_count t.shape) c) pid (vpn / 512) ≡ true →
          IsEither (record { n = memory_count t.shape; owners = t.owners; old = t.plain; new = plain_with (forgotten (memory c) d) t.plain }) (guarded_by (memory_count t.shape) c) (Page pid vpn) (page_in t.disk.images pid vpn)
      clear None is pid vpn asks mine = cc asks
      clear (Some o) is pid vpn asks mine =
          let q = guarded_by (memory_count t.shape) c in
          let count = middle.count in
          let inside = get_below t.mems c s at_c in
          let own = guards-its-own (memory_count t.shape) c middle.machine.two (omega (arith, count, inside)) in
          let fits : CurrentFits before (Some o) = subst (CurrentFits before) is middle.current in
          let either = (middle.seconds q s own.0 tt (ap (slice_get t.mems) own.1 ∙ at_c)).part.either (Page pid vpn) in
          let part : second_part t.owners t.disk.images q s (Page pid vpn) ≡ page_in t.disk.images pid vpn =
          ap (λ (b : Bool). cond b (page_in (overlaid s.log t.disk.images) pid vpn) None) mine ∙ page-overlaid s.log t.disk.images pid vpn
          ∙ untouched s.log pid vpn (page_in t.disk.images pid vpn) (clear_of (asks_clear o.operation) pid vpn asks s.log (fits.1 c s at_c)) in
          by (subst (λ (d : Option Open). IsEither (record { n = memory_count t.shape; owners = t.owners; old = t.plain; new = plain_with d t.plain }) q (Page pid vpn) (second_part t.owners t.disk.images q s (Page pid vpn))) is either) part
        where
          by : IsEither (record { n = memory_count t.shape; owners = t.owners; old = t.plain; new = effect o.operation t.plain }) (guarded_by (memory_count t.shape) c) (Page pid vpn) (second_part t.owners t.disk.images (guarded_by (memory_count t.shape) c) s (Page pid vpn)) → second_part t.owners t.disk.images (guarded_by (memory_count t.shape) c) s (Page pid vpn) ≡ page_in t.disk.images pid vpn → IsEither (record { n = memory_count t.shape; owners = t.owners; old = t.plain; new = effect o.operation t.plain }) (guarded_by (memory_count t.shape) c) (Page pid vpn) (page_in t.disk.images pid vpn)
          by (inl e) part = inl (sym part ∙ e)
          by (inr e) part = inr (sym part ∙ e)

      no_move : (current : Option Open) → NumbersDiffer (forgotten (memory c) current) None
      no_move None = tt
      no_move (Some o) = tt

  -- SECONDARIES that are up: what was due is due, or the operation changes no page
  same_page : (j : ℕ) (pid vpn : ℕ) (x : Mem) (o : Open) → t.current ≡ Some o → PagesStay o.operation → SecondHolds before j x → second_part t.owners t.disk.images j x (Page pid vpn) ≡ new_share (sides_of before) j (Page pid vpn)
  same_page j pid vpn x o is stay holds = either (holds.part.either (Page pid vpn))
    where
      both_sides : old_share (sides_of before) j (Page pid vpn) ≡ new_share (sides_of before) j (Page pid vpn)
      both_sides = ap (λ (page : Option (List ℕ)). cond (owns t.owners j pid (vpn / 512)) page None) (sym (ap (λ (d : Option Open). (plain_with d t.plain).page pid vpn) is ∙ stay t.plain pid vpn))

      either : (second_part t.owners t.disk.images j x (Page pid vpn) ≡ old_share (sides_of before) j (Page pid vpn)) ⊎ (second_part t.owners t.disk.images j x (Page pid vpn) ≡ new_share (sides_of before) j (Page pid vpn)) → second_part t.owners t.disk.images j x (Page pid vpn) ≡ new_share (sides_of before) j (Page pid vpn)
      either (inl e) = e ∙ both_sides
      either (inr e) = e

  -- storage's word is the same unless a question to it was lost
  storage_said : (d : Option Open) → t.current ≡ d → is_storage_true (lose (memory c) t.net) (Some beginning) (forgotten (memory c) d) ≡ true → (is_storage_true t.net None d ≡ true) ⊎ ((o : Open) × (d ≡ Some o) × PagesStay o.operation)
  storage_said None is e = inl refl
  storage_said (Some o) is e = by (list_any (asks_storage_by o.number.0) t.net) refl
    where
      unasked : is_storage_asked (lose (memory c) t.net) (Some (record o { answers = forget (memory c) o.answers })) ≡ false
      unasked = not_true (is_storage_asked (lose (memory c) t.net) (Some (record o { answers = forget (memory c) o.answers }))) (both_true (not (heals_target (Some beginning) (Some (record o { answers = forget (memory c) o.answers })))) (not (is_storage_asked (lose (memory c) t.net) (Some (record o { answers = forget (memory c) o.answers })))) e).1

      first_none : list_any (asks_storage_by o.number.0) o.unsent ≡ false
      first_none = or_first (list_any (asks_storage_by o.number.0) o.unsent) (list_any (asks_storage_by o.number.0) (lose (memory c) t.net)) unasked
        where
          or_first : (a b : Bool) → (a || b) ≡ false → a ≡ false
          or_first true b f = cc f
          or_first false b f = refl

      left_none : list_any (asks_storage_by o.number.0) (lose (memory c) t.net) ≡ false
      left_none = or_second (list_any (asks_storage_by o.number.0) o.unsent) (list_any (asks_storage_by o.number.0) (lose (memory c) t.net)) unasked
        where
          or_second : (a b : Bool) → (a || b) ≡ false → b ≡ false
          or_second true b f = cc f
          or_second false b f = f

      fits : CurrentFits before (Some o)
      fits = subst (CurrentFits before) is middle.current

      lost_one : (list_any (asks_storage_by o.number.0) (lose (memory c) t.net) ≡ true) ⊎ PagesStay o.operation → (is_storage_true t.net None (Some o) ≡ true) ⊎ ((o' : Open) × (Some o ≡ Some o') × PagesStay o'.operation)
      lost_one (inl there) = let two_ : true ≡ false = sym there ∙ left_none in cc two_
      lost_one (inr stay) = inr (o, refl, stay)

      by : (a : Bool) → list_any (asks_storage_by o.number.0) t.net ≡ a → (is_storage_true t.net None (Some o) ≡ true) ⊎ ((o' : Open) × (Some o ≡ Some o') × PagesStay o'.operation)
      by false none = inl (ap not ((λ i. first_none i || none i)))
      by true there = lost_one (question_left (memory_count t.shape) t.plain t.next c o t.net fits.0.some fits.0.by (subst (λ (d : Option Open). AllByRecursion (MayPend None (memory_count t.shape) t.plain d None t.next) t.net) is pend) there)

  due_before : (j k : ℕ) (x : Mem) → SecondHolds before j x → (cell : Cell) → second_due struck k cell ≡ true → (second_due before k cell ≡ true) ⊎ (second_part t.owners t.disk.images j x cell ≡ new_share (sides_of before) j cell)
  due_before j k x holds (Home pid region) due = inl (gave (memory k) due)
  due_before j k x holds (Areas pid region) due = inl (gave (memory k) due)
  due_before j k x holds (Page pid vpn) due = by (is_writing (forgotten (memory c) t.current)) (is_writing t.current) (same_writing t.current) due
    where
      same_writing : (d : Option Open) → is_writing (forgotten (memory c) d) ≡ is_writing d
      same_writing None = refl
      same_writing (Some o) = refl

      said : (is_storage_true t.net None t.current ≡ true) ⊎ ((o : Open) × (t.current ≡ Some o) × PagesStay o.operation) → gave_answer place.Storage (all_pending before) t.current ≡ true → ((is_storage_true t.net None t.current && gave_answer place.Storage (all_pending before) t.current) ≡ true) ⊎ (second_part t.owners t.disk.images j x (Page pid vpn) ≡ new_share (sides_of before) j (Page pid vpn))
      said (inl true_still) answered = inl (and_true (is_storage_true t.net None t.current) (gave_answer place.Storage (all_pending before) t.current) true_still answered)
      said (inr stays) answered = inr (same_page j pid vpn x stays.0 stays.1 stays.2 holds)

      by : (a b : Bool) → a ≡ b → cond a (gave_answer (memory k) (all_pending struck) (forgotten (memory c) t.current)) (is_storage_true (lose (memory c) t.net) (Some beginning) (forgotten (memory c) t.current) && gave_answer place.Storage (all_pending struck) (forgotten (memory c) t.current)) ≡ true → (cond b (gave_answer (memory k) (all_pending before) t.current) (is_storage_true t.net None t.current && gave_answer place.Storage (all_pending before) t.current) ≡ true) ⊎ (second_part t.owners t.disk.images j x (Page pid vpn) ≡ new_share (sides_of before) j (Page pid vpn))
      by true true same e = inl (gave (memory k) e)
      by true false same e = cc same
      by false true same e = cc same
      by false false same e =
          let both = both_true (is_storage_true (lose (memory c) t.net) (Some beginning) (forgotten (memory c) t.current)) (gave_answer place.Storage (all_pending struck) (forgotten (memory c) t.current)) e in
          said (storage_said t.current refl both.0) (gave place.Storage both.1)

  struck_keeps : is_crash_left struck ≡ false → Middle (Some c) struck
  struck_keeps no_second =
      let on = goes no_second in
      record {
        machine = middle.machine;
        count = set_length t.mems c (lost s) ∙ middle.count;
        next = middle.next;
        plain = middle.plain;
        forms = λ m x at. at_each (MemFits t.shape) m x at lost_fits (λ differ was. middle.forms m x was);
        current = on.current;
        memories = λ m x up at.
            let was : slice_get t.mems m ≡ Some x = sym (get_set_other t.mems c m (lost s) up) ∙ at in
            let id : x.id ≡ m = (middle.forms m x was).id in
            mem_stays (Some c) before mems now on m x (gave (memory m)) (batches x.id (λ same. up (sym (sym id ∙ same)))) (λ b place. changes b) (middle.memories m x tt was);
        seconds = λ j x below up at.
            let was : slice_get t.mems (secondary_of (memory_count t.shape) j) ≡ Some x = sym (get_set_other t.mems c (secondary_of (memory_count t.shape) j) (lost s) up) ∙ at in
            let holds = middle.seconds j x below tt was in
            record { part = seconded (Some c) before mems t.disk now on j (secondary_of (memory_count t.shape) j) (second_part t.owners t.disk.images j x) (second_part t.owners t.disk.images j x) (λ cell. inl refl) (due_before j (secondary_of (memory_count t.shape) j) x holds) holds.part };
        disk = disk_stays (Some c) before mems now on (gave place.Storage) middle.disk;
        pending = on.pending;
        waiting = on.waiting;
        healing = on.healing;
        idle = on.idle;
      }
    where
      lost_fits : MemFits t.shape c (lost s)
      lost_fits =
          let fits = middle.forms c s at_c in
          record {
            id = fits.id;
            log_room = fits.log_room;
            cache_room = fits.cache_room;
            machine = fits.machine;
            main = record { homes = tt; areas = tt; lists = tt };
            spare = record { homes = tt; areas = tt; lists = tt };
            pages = record { rise = tt; whole = tt };
            frames = omega arith;
            log = tt;
            room = omega arith;
          }

-- FROM WHAT A CRASH MAY COME IN

no_heal : (t : Track) (h : Option Healing) → HealFits None t h → h ≡ None
no_heal t None fits = refl
no_heal t (Some h) fits = absurd (none_some fits.0)
  where
    none_some : None ≡ Some h.memory.0 → ⊥
    none_some e = cc e

-- the entry is of this turn
of_this_turn : (t : Track) → is_crash_moment t ≡ true → (e : CrashAt) → next_crash t.shape t.clock ≡ Some e → e.turn ≡ t.clock.turn
of_this_turn t moment e at = eqb-true e.turn t.clock.turn (by t.clock.begun (e.turn == t.clock.turn) (e.after == t.clock.since) (is_idle t.healing t.current) (is_turn_end t.due) (subst (λ (d : Option CrashAt). (is_now t.clock d || (is_of_turn t.clock d && is_idle t.healing t.current && is_turn_end t.due)) ≡ true) at moment))
  where
    by : (a b x y z : Bool) → ((a && b && x) || (a && b && y && z)) ≡ true → b ≡ true
    by true true x y z f = refl
    by true false x y z f = cc f
    by false b x y z f = cc f

no_second_crash : (t : Track) (e : CrashAt) → CrashesRise t.shape.crashes → next_crash t.shape t.clock ≡ Some e → e.turn ≡ t.clock.turn → is_of_turn (record t.clock { passed = t.clock.passed + 1 }) (next_crash t.shape (record t.clock { passed = t.clock.passed + 1 })) ≡ false
no_second_crash t e rise at turn = by (next_crash t.shape (record t.clock { passed = t.clock.passed + 1 })) refl
  where
    off : (a b : Bool) → b ≡ false → (a && b) ≡ false
    off true b f = f
    off false b f = refl

    by : (d : Option CrashAt) → next_crash t.shape (record t.clock { passed = t.clock.passed + 1 }) ≡ d → is_of_turn (record t.clock { passed = t.clock.passed + 1 }) d ≡ false
    by None is = refl
    by (Some f) is =
        let less : e.turn < f.turn = later_turn t.shape.crashes t.clock.passed e f rise at is in
        off t.clock.begun (f.turn == t.clock.turn) (ne_eqb f.turn t.clock.turn (λ same. omega (arith, less, turn, same)))

-- all first messages are sent where a crash comes
sent_at_crash : (t : Track) (o : Open) → t.healing ≡ None → t.current ≡ Some o → is_crash_moment t ≡ true → IsReady t o → (length o.unsent == 0) ≡ true
sent_at_crash t o healed is moment (inl all) = all
sent_at_crash t o healed is moment (inr e) = absurd (by (is_crash_due t) (is_crash_left t) (is_idle t.healing t.current) (is_turn_end t.due) e.1 (λ i. is_idle (healed i) (is i)) moment)
  where
    by : (a b x y : Bool) → a ≡ false → x ≡ false → (a || (b && x && y)) ≡ true → ⊥
    by true b x y f g h = cc f
    by false true true y f g h = cc g
    by false true false y f g h = cc h
    by false false x y f g h = cc h

pub crash-begins : CrashBegins
crash-begins t c inc may middle =
    let healed = no_heal t t.healing middle.healing in
    by (slice_get t.mems c) (next_crash t.shape t.clock) refl refl may.raised may.entry healed
  where
    sent : (h : t.healing ≡ None) → (o : Open) → t.current ≡ Some o → (length o.unsent == 0) ≡ true
    sent h o is = sent_at_crash t o h is may.moment (subst (CurrentFits t) is middle.current).2

    by : (d : Option Mem) (e : Option CrashAt) → slice_get t.mems c ≡ d → next_crash t.shape t.clock ≡ e → IsNextInc d inc → IsEntry e c → t.healing ≡ None → Middle (Some c) (crashed t c)
    by None e at is raised entry h = absurd raised
    by (Some s) None at is raised entry h = absurd entry
    by (Some s) (Some e) at is raised entry h =
        let second = no_second_crash t e middle.machine.rise is (of_this_turn t may.moment e is) in
        let settled = struck_keeps t c s at (sent h) (subst (λ (q : List Message × Option Healing). Middle None (record t { owed = q.0; healing = q.1 })) (λ i. (may.owed i, h i)) middle) second in
        subst (λ (q : List Message × Option Mem). Middle (Some c) (record t {
          mems = memory_lost t.mems c q.1;
          net = lose (memory c) t.net;
          owed = q.0;
          current = forgotten (memory c) t.current;
          clock = record t.clock { passed = t.clock.passed + 1 };
          healing = Some (record { memory = record { 0 = c }; moves = moves_of (memory_count t.shape) c t.owners; current = None; got = None });
        })) (λ i. (sym may.owed i, sym at i)) settled
