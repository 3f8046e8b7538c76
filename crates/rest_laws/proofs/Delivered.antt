-- A memory gets a message while an operation is open: what its row of the message table must give so that the relation is
-- kept.
use Rattle.std.proofs.Common.{◌≡◌, ◌⊎◌, ◌+◌, ◌<◌, ◌==◌, ◌&&◌, ◌||◌, [], ◌∷◌, ◌++◌, ◌∙◌, ℕ, Bool, List, None, Option, Some, ap, append-nil, cond, false, inl, inr, not, refl, slice_get, subst, sym, true}
use Rattle.std.proofs.lemmas.Bool.{eq-eqb}
use Rattle.std.proofs.lemmas.Bool.Decides.{eqb_tells}
use Rattle.std.proofs.lemmas.List.Folds.{list_any-append}
use Rattle.std.specs.List.{AllByRecursion, list_any}
use Rattle.std.specs.Prelude.{slice_set}
use Rattle.lego_msg.proofs.Senders.{get_set, get_set_other, same_some}
use Rattle.lego_base.specs.declared.records.Patch.{Patch}
use Rattle.lego_msg.specs.Deliveries.{MayDeliver, is_waiting, taken}
use Rattle.lego_msg.specs.Granted.{IsClear}
use Rattle.lego_msg.specs.Operations.{patch_of}
use Rattle.lego_msg.specs.Places.{cache_of, is_issuer, memory, same_place, secondary_of}
use Rattle.lego_msg.specs.State.{Block, Mem}
use Rattle.lego_msg.specs.Track.{Track, has_answered, healing_move, memory_count, taken_out}
use Rattle.lego_msg.specs.declared.message.Message.{Message}
use Rattle.lego_msg.specs.declared.operation.Open.{Open}
use Rattle.lego_msg.specs.declared.place.Place.{Place}
use Rattle.lego_rest.specs.Answers.{all_pending, answers_to, asks_storage_by, gave_answer, heals_target, images_due, is_answer_from, is_storage_true, is_writing, second_due}
use Rattle.lego_rest.specs.Fits.{BatchFits, BlockFits, LogFits, MemFits, WaiterFits, background, changes_block}
use Rattle.lego_rest.specs.Heals.{HealFits}
use Rattle.lego_rest.specs.Parts.{Areas, Cell, Home, Page, main_part, new_share, second_part, sides_of}
use Rattle.lego_rest.specs.Pending.{IsUp, MayPend}
use Rattle.lego_rest.specs.Rest.{CurrentFits, Middle}
use Rattle.rest_laws.proofs.Opened.{all_both}
use Rattle.rest_laws.proofs.Stepping.{row-keeps}
use Rattle.rest_laws.proofs.Taken.{all_sent, all_taken, any_less, any_same, split, whole}
use Rattle.rest_laws.proofs.Truth.{and_true, both_true}
use Rattle.rest_laws.specs.Moves.{Moves}
use Rattle.rest_laws.specs.Steps.{Moment, Row}
use Rattle.lego_msg.specs.declared.place.Place.TheVariants as place

-- whether a cell's old or new is due with a memory's own answer: of a page only in a write
abbrev pub speaks_of : Bool → Cell → Bool
speaks_of write (Home pid region) = true
speaks_of write (Areas pid region) = true
speaks_of write (Page pid vpn) = write

-- what is pending once the message is delivered
abbrev pub left_of : Track → List Message
left_of t = taken_out t.shape.deliveries t.delivered t.net

-- whether what is sent answers the open operation for a place
abbrev pub answers_at : Place → Option Open → List Message → Bool
answers_at p None out = false
answers_at p (Some o) out = list_any (is_answer_from o p) out

abbrev pub answers_for : Open → ℕ → List Message → Bool
answers_for o k out = list_any (is_answer_from o (memory k)) out

abbrev pub ClearOf : Option Open → List Patch → Type 0
ClearOf None log = Unit {0}
ClearOf (Some o) log = IsClear o.operation log

-- WHAT A ROW GIVES: memory k was s and is s', and sends `out`
pub record Given (t : Track) (k : ℕ) (s s' : Mem) (out : List Message) : Type 0 where
  pub main : Moves (main_part s) (main_part s') (new_share (sides_of t) k)
  pub main_told : answers_at (memory k) t.current out ≡ true → (c : Cell) → main_part s' c ≡ new_share (sides_of t) k c
  pub second : (j : ℕ) → j < memory_count t.shape → secondary_of (memory_count t.shape) j ≡ k → Moves (second_part t.owners t.disk.images j s) (second_part t.owners t.disk.images j s') (new_share (sides_of t) j)
  pub second_told : (j : ℕ) → j < memory_count t.shape → secondary_of (memory_count t.shape) j ≡ k → answers_at (memory k) t.current out ≡ true → (c : Cell) → speaks_of (is_writing t.current) c ≡ true → second_part t.owners t.disk.images j s' c ≡ new_share (sides_of t) j c
  pub batch : BatchFits (left_of t ++ out) t.disk.images s'
  pub blocks : AllByRecursion (BlockFits (memory_count t.shape) k t.disk.files (left_of t ++ out)) s'.blocks
  pub log : AllByRecursion (LogFits (memory_count t.shape) t.owners k) s'.log

pub record MemoryRow (lost : Option ℕ) (t : Track) (k : ℕ) (s s' : Mem) (out : List Message) : Type 0 where
  pub fits : MemFits t.shape k s'
  pub waiting : AllByRecursion (WaiterFits (memory_count t.shape) k t.next t.current (healing_move t.healing)) s'.drains
  pub clear : ClearOf t.current s'.log
  pub sends : AllByRecursion (MayPend lost (memory_count t.shape) t.plain t.current (healing_move t.healing) t.next) out
  pub from : AllByRecursion (λ (r : Message). r.from ≡ memory k) out
  pub given : IsUp lost k → Given t k s s' out
  -- of the other memories
  pub others : (j : ℕ) → (k ≡ j → ⊥) → background j (left_of t ++ out) ≡ background j (all_pending t)
  pub changes : (b : Block) → (k ≡ cache_of (memory_count t.shape) b.file → ⊥) → list_any (λ (r : Message). changes_block b r.body) out ≡ false

abbrev pub RowGives : Option ℕ → Track → Open → ℕ → Mem → Mem → List Message → Type 0
RowGives lost t o k s s' out = MemoryRow lost (record t { current = Some o }) k s s' out

-- what holds of the memory that is set, and of each other one, holds of all
pub set_each : (P : ℕ → Mem → Type 0) (mems : List Mem) (k : ℕ) (s s' : Mem) → slice_get mems k ≡ Some s → P k s' → ((j : ℕ) (x : Mem) → slice_get mems j ≡ Some x → P j x) → (j : ℕ) (x : Mem) → slice_get (slice_set mems k s') j ≡ Some x → P j x
set_each P mems k s s' at mine other j x is = elim (eqb_tells k j) [
  | inl e ↦ subst (λ (p : ℕ × Mem). P p.0 p.1) (λ i. (e.1 i, same_some s' x (sym (get_set mems k s s' at) ∙ ap (slice_get (slice_set mems k s')) e.1 ∙ is) i)) mine
  | inr e ↦ other j x (sym (get_set_other mems k j s' e.1) ∙ is)
]

-- a test that fails of each
pub none_of : (test : Message → Bool) (out : List Message) → AllByRecursion (λ (r : Message). test r ≡ false) out → list_any test out ≡ false
none_of test [] all = refl
none_of test (r ∷ out) all = ap (λ (b : Bool). b || list_any test out) all.0 ∙ none_of test out all.1

-- what is of the messages of one list, or of another, is of both; and what fails of the second is of the first
pub of_first : (test : Message → Bool) (net out : List Message) → list_any test out ≡ false → list_any test (net ++ out) ≡ list_any test net
of_first test net out none = list_any-append test net out ∙ ap (λ (b : Bool). list_any test net || b) none ∙ nothing (list_any test net)
  where
    nothing : (b : Bool) → (b || false) ≡ b
    nothing true = refl
    nothing false = refl

pub component_apart : (k : ℕ) (by : Place) → is_issuer by ≡ true → same_place (memory k) by ≡ false
component_apart k by issuer = go by issuer
  where
    go : (by : Place) → is_issuer by ≡ true → same_place (memory k) by ≡ false
    go (place.Processor cpu) e = refl
    go (place.Memory m) e = cc e
    go place.Storage e = cc e
    go place.Manager e = refl

-- WHO HAS ANSWERED once a message is taken and others are sent from one place

module _ (t : Track) (m : Message) (may : MayDeliver t m) where
  -- what is pending without what is sent
  pub left_all : left_of t ≡ all_pending (taken t)
  left_all = sym (ap (λ (ms : List Message). left_of t ++ ms) may.owed ∙ append-nil (left_of t))

  pub less_left : (test : Message → Bool) → list_any test (left_of t) ≡ true → list_any test (all_pending t) ≡ true
  less_left test e = any_less test (all_pending t) (all_pending (taken t)) m (whole t m may) (ap (list_any test) (sym left_all) ∙ e)

  -- who has answered then had before, or answers now
  pub gave_then : (out : List Message) (c : Option Open) (p : Place) → gave_answer p (left_of t ++ out) c ≡ true → (gave_answer p (all_pending t) c ≡ true) ⊎ (answers_at p c out ≡ true)
  gave_then out None p e = inl e
  gave_then out (Some o) p e = by (has_answered p o.answers) (list_any (is_answer_from o p) (left_of t)) (list_any (is_answer_from o p) out) (less_left (is_answer_from o p)) (ap (λ (b : Bool). has_answered p o.answers || b) (sym (list_any-append (is_answer_from o p) (left_of t) out)) ∙ e)
    where
      by : (h a b : Bool) → (a ≡ true → list_any (is_answer_from o p) (all_pending t) ≡ true) → (h || (a || b)) ≡ true → ((h || list_any (is_answer_from o p) (all_pending t)) ≡ true) ⊎ (b ≡ true)
      by true a b back e = inl refl
      by false true b back e = inl (back refl)
      by false false b back e = inr e

  pub no_other : (from : Place) (out : List Message) → AllByRecursion (λ (r : Message). r.from ≡ from) out → (c : Option Open) (p : Place) → same_place from p ≡ false → answers_at p c out ≡ false
  no_other from out all None p apart = refl
  no_other from out all (Some o) p apart = none_of (is_answer_from o p) out (each out all)
    where
      second_false : (a b c d : Bool) → b ≡ false → (a && b && c && d) ≡ false
      second_false true b c d e = ap (λ (x : Bool). x && c && d) e
      second_false false b c d e = refl

      each : (out : List Message) → AllByRecursion (λ (r : Message). r.from ≡ from) out → AllByRecursion (λ (r : Message). is_answer_from o p r ≡ false) out
      each [] all = tt
      each (r ∷ out) all = (second_false (r.op.0 == o.number.0) (same_place r.from p) (same_place r.to o.by) (answers_to (patch_of o.operation) r.body) (ap (λ (q : Place). same_place q p) all.0 ∙ apart), each out all.1)

  pub gave_other : (from : Place) (out : List Message) → AllByRecursion (λ (r : Message). r.from ≡ from) out → (c : Option Open) (p : Place) → same_place from p ≡ false → gave_answer p (left_of t ++ out) c ≡ true → gave_answer p (all_pending t) c ≡ true
  gave_other from out all c p apart e = by (gave_then out c p e)
    where
      by : (gave_answer p (all_pending t) c ≡ true) ⊎ (answers_at p c out ≡ true) → gave_answer p (all_pending t) c ≡ true
      by (inl e) = e
      by (inr e) = let both : true ≡ false = sym e ∙ no_other from out all c p apart in cc both

  -- something is open or healing where a message is delivered
  pub some_waits : t.current ≡ None → t.healing ≡ None → ⊥
  some_waits closed quiet = let both : false ≡ true = sym (λ i. is_waiting (quiet i) (closed i)) ∙ may.waiting in cc both

  -- the message isn't storage's
  pub storage_left : same_place m.to place.Storage ≡ false → (c : Option Open) → is_storage_true (left_of t) t.healing c ≡ is_storage_true t.net t.healing c
  storage_left apart None = refl
  storage_left apart (Some o) =
      ap (λ (b : Bool). not (heals_target t.healing (Some o)) && not (list_any (asks_storage_by o.number.0) o.unsent || b))
      (sym (any_same (asks_storage_by o.number.0) t.net (left_of t) m (split t m may) (unasked (m.op.0 == o.number.0) apart)))
    where
      unasked : (a : Bool) → same_place m.to place.Storage ≡ false → (a && same_place m.to place.Storage) ≡ false
      unasked true e = e
      unasked false e = refl

module _ (lost : Option ℕ) (t : Track) (k : ℕ) (s s' : Mem) (m : Message) (out : List Message) (may : MayDeliver t m) (to : m.to ≡ memory k) (at : slice_get t.mems k ≡ Some s) (middle : Middle lost t) (gives : MemoryRow lost t k s s' out) where
  abbrev row_moment : Moment
  row_moment = record {
    net = left_of t;
    owed = out;
    delivered = t.delivered + 1;
    next = t.next;
    current = t.current;
    healing = t.healing;
    clock = record t.clock { since = t.clock.since + 1 };
    stopped = t.stopped;
    caches = t.caches;
    due = t.due;
  }

  abbrev pub row_track : Track
  row_track = record (taken t) { mems = slice_set t.mems k s'; owed = out }

  -- what images are due of where storage had answered
  stored_before : (is_storage_true (left_of t) t.healing t.current && gave_answer place.Storage (left_of t ++ out) t.current) ≡ true → (is_storage_true t.net t.healing t.current && gave_answer place.Storage (all_pending t) t.current) ≡ true
  stored_before e =
      let both = both_true (is_storage_true (left_of t) t.healing t.current) (gave_answer place.Storage (left_of t ++ out) t.current) e in
      and_true (is_storage_true t.net t.healing t.current) (gave_answer place.Storage (all_pending t) t.current) (sym (storage_left t m may (ap (λ (p : Place). same_place p place.Storage) to) t.current) ∙ both.0) (gave_other t m may (memory k) out gives.from t.current place.Storage refl both.1)

  images_other : (j : ℕ) → (k ≡ j → ⊥) → images_due row_track j ≡ true → images_due t j ≡ true
  images_other j differ e = by (is_writing t.current) e
    where
      apart : same_place (memory k) (memory j) ≡ false
      apart = elim (eqb_tells k j) [
        | inl same ↦ absurd (differ same.1)
        | inr other ↦ other.0
      ]

      by : (b : Bool) → cond b (gave_answer (memory j) (left_of t ++ out) t.current) (is_storage_true (left_of t) t.healing t.current && gave_answer place.Storage (left_of t ++ out) t.current) ≡ true → cond b (gave_answer (memory j) (all_pending t) t.current) (is_storage_true t.net t.healing t.current && gave_answer place.Storage (all_pending t) t.current) ≡ true
      by true e = gave_other t m may (memory k) out gives.from t.current (memory j) apart e
      by false e = stored_before e

  second_then : Given t k s s' out → (j : ℕ) → j < memory_count t.shape → secondary_of (memory_count t.shape) j ≡ k → (c : Cell) → second_due row_track k c ≡ true → (second_due t k c ≡ true) ⊎ (second_part t.owners t.disk.images j s' c ≡ new_share (sides_of t) j c)
  second_then given j below is (Home pid region) due = by (gave_then t m may out t.current (memory k) due)
    where
      by : (gave_answer (memory k) (all_pending t) t.current ≡ true) ⊎ (answers_at (memory k) t.current out ≡ true) → (gave_answer (memory k) (all_pending t) t.current ≡ true) ⊎ (second_part t.owners t.disk.images j s' (Home pid region) ≡ new_share (sides_of t) j (Home pid region))
      by (inl e) = inl e
      by (inr e) = inr (given.second_told j below is e (Home pid region) refl)
  second_then given j below is (Areas pid region) due = by (gave_then t m may out t.current (memory k) due)
    where
      by : (gave_answer (memory k) (all_pending t) t.current ≡ true) ⊎ (answers_at (memory k) t.current out ≡ true) → (gave_answer (memory k) (all_pending t) t.current ≡ true) ⊎ (second_part t.owners t.disk.images j s' (Areas pid region) ≡ new_share (sides_of t) j (Areas pid region))
      by (inl e) = inl e
      by (inr e) = inr (given.second_told j below is e (Areas pid region) refl)
  second_then given j below is (Page pid vpn) due = by (is_writing t.current) refl due
    where
      by : (b : Bool) → is_writing t.current ≡ b → cond b (gave_answer (memory k) (left_of t ++ out) t.current) (is_storage_true (left_of t) t.healing t.current && gave_answer place.Storage (left_of t ++ out) t.current) ≡ true → (cond b (gave_answer (memory k) (all_pending t) t.current) (is_storage_true t.net t.healing t.current && gave_answer place.Storage (all_pending t) t.current) ≡ true) ⊎ (second_part t.owners t.disk.images j s' (Page pid vpn) ≡ new_share (sides_of t) j (Page pid vpn))
      by true write e = elim (gave_then t m may out t.current (memory k) e) [
        | inl before ↦ inl before
        | inr now ↦ inr (given.second_told j below is now (Page pid vpn) write)
      ]
      by false write e = inl (stored_before e)

  pend : AllByRecursion (MayPend lost (memory_count t.shape) t.plain t.current (healing_move t.healing) t.next) (left_of t)
  pend = subst (AllByRecursion (MayPend lost (memory_count t.shape) t.plain t.current (healing_move t.healing) t.next)) (sym (left_all t m may))
      (all_taken (MayPend lost (memory_count t.shape) t.plain t.current (healing_move t.healing) t.next) (all_pending t) (all_pending (taken t)) m (whole t m may) middle.pending).1

  current_goes : (c : Option Open) → is_waiting t.healing c ≡ true → ClearOf c s'.log → CurrentFits t c → CurrentFits row_track c
  current_goes None waits clear fits = tt
  current_goes (Some o) waits clear fits = (fits.0, set_each (λ (j : ℕ) (x : Mem). IsClear o.operation x.log) t.mems k s s' at clear (λ j x is. fits.1 j x is), inl (all_sent t m may o waits fits.2))

  pub given_keeps : HealFits lost row_track t.healing → Middle lost row_track
  given_keeps heal = row-keeps lost t k s s' row_moment at row middle
    where
      apart_from : (p : Place) → same_place p (memory k) ≡ false → same_place (memory k) p ≡ false
      apart_from (place.Processor cpu) e = refl
      apart_from (place.Memory j) e = elim (eqb_tells k j.0) [
        | inl same ↦ let both : false ≡ true = sym e ∙ eq-eqb j.0 k (sym same.1) in cc both
        | inr other ↦ other.0
      ]
      apart_from place.Storage e = refl
      apart_from place.Manager e = refl

      changed : (b : Block) → (k ≡ cache_of (memory_count t.shape) b.file → ⊥) → list_any (λ (r : Message). changes_block b r.body) (all_pending t) ≡ false → list_any (λ (r : Message). changes_block b r.body) (left_of t ++ out) ≡ false
      changed b other none = of_first (λ (r : Message). changes_block b r.body) (left_of t) out (gives.changes b other) ∙ fewer (list_any (λ (r : Message). changes_block b r.body) (left_of t)) (less_left t m may (λ (r : Message). changes_block b r.body))
        where
          fewer : (a : Bool) → (a ≡ true → list_any (λ (r : Message). changes_block b r.body) (all_pending t) ≡ true) → a ≡ false
          fewer true back = let both : true ≡ false = sym (back refl) ∙ none in cc both
          fewer false back = refl

      row : Row lost t k s s' row_moment
      row = record {
        goes = record {
          plain = refl;
          next = middle.next;
          current = current_goes t.current may.waiting gives.clear middle.current;
          pending = all_both (MayPend lost (memory_count t.shape) t.plain t.current (healing_move t.healing) t.next) (left_of t) out pend gives.sends;
          waiting = set_each (λ (j : ℕ) (x : Mem). AllByRecursion (WaiterFits (memory_count t.shape) j t.next t.current (healing_move t.healing)) x.drains) t.mems k s s' at gives.waiting (λ j x is. middle.waiting j x is);
          healing = heal;
          idle = λ closed quiet. absurd (some_waits t m may closed quiet);
        };
        fits = gives.fits;
        holding = λ up.
            let given = gives.given up in
            record {
              main = given.main;
              told = λ e. elim (gave_then t m may out t.current (memory k) e) [
                | inl before ↦ inl before
                | inr now ↦ inr (given.main_told now)
              ];
              second = given.second;
              second_told = second_then given;
              batch = given.batch;
              blocks = given.blocks;
              log = given.log;
            };
        answered = λ p apart. gave_other t m may (memory k) out gives.from t.current p (apart_from p apart);
        images = images_other;
        batches = gives.others;
        changes = changed;
      }
