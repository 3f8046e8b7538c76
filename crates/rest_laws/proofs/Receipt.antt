-- A receipt reaches its memory: the batch goes from the log, and drains that wait are answered where the log is empty then.
use Rattle.std.proofs.Common.{◌≡◌, ◌⊎◌, ◌-◌, ◌/◌, ◌<◌, ◌==◌, ◌&&◌, ◌||◌, [], ◌∷◌, ◌++◌, ◌∙◌, ℕ, Bool, List, None, Option, Some, ap, append-nil, arith, cond, drop, false, inl, inr, length, map, refl, slice_get, subst, suc, sym, take, true, zero}
use Rattle.std.proofs.lemmas.Bool.{eq-eqb, eqb-true}
use Rattle.std.proofs.lemmas.Bool.Decides.{eqb_tells}
use Rattle.std.proofs.lemmas.List.Elements.{filter-append}
use Rattle.std.proofs.lemmas.List.{length-drop, take-append-drop}
use Rattle.std.specs.List.{AllByRecursion, list_any}
use Rattle.lego_base.specs.declared.records.Patch.{Patch}
use Rattle.lego_msg.specs.Deliveries.{MayDeliver, taken}
use Rattle.lego_msg.specs.Granted.{PatchFits, asks_clear}
use Rattle.lego_msg.specs.Maps.{page_in, overlaid}
use Rattle.lego_msg.specs.Operations.{patch_of, targets_of}
use Rattle.lego_msg.specs.Places.{is_among, is_issuer, memory, same_place, secondary_of}
use Rattle.lego_msg.specs.Plain.{Plain, effect}
use Rattle.lego_msg.specs.State.{Block, Mem, Waiter}
use Rattle.lego_msg.specs.Table.{backed_up_row, backup, batch_gone, batched, drained}
use Rattle.lego_msg.specs.Track.{Track, healing_move, memory_count}
use Rattle.lego_msg.specs.declared.message.Message.{Message}
use Rattle.lego_msg.specs.declared.operation.Open.{Open}
use Rattle.lego_msg.specs.declared.operation.Operation.{Operation}
use Rattle.lego_msg.specs.declared.operation.Operation.TheVariants.{AsksAreas, AsksSize, Copies, CutsFile, CutsName, Drains, Drops, Finds, FreesFile, GetsName, Heals, ListsNames, MakesName, Reads, ReadsFile, SetsAreas, SetsHome, Unmaps, Writes, WritesFile}
use Rattle.lego_msg.specs.declared.place.Place.{Place}
use Rattle.lego_rest.specs.Answers.{all_pending, answers_to}
use Rattle.lego_rest.specs.Fits.{BatchFits, HasBatch, LogFits, MemFits, WaiterFits, WaitsFor, background, batch_message, changes_block, is_background, over, receipt}
use Rattle.lego_rest.specs.Parts.{Areas, Cell, Home, Page, main_part, new_share, old_share, owns, plain_with, second_part, share, sides_of}
use Rattle.lego_rest.specs.Pending.{AnAnswer, Goes, IsAway, IsNot, IsPlace, IsUp, Left, MayPend, OfBackground, OfOperation, Pends, Says}
use Rattle.lego_rest.specs.Rest.{CurrentFits, MemHolds, Middle}
use Rattle.rest_laws.proofs.Backing.{not_none, only_one}
use Rattle.rest_laws.proofs.Delivered.{ClearOf, MemoryRow, answers_at, left_of, of_first}
use Rattle.rest_laws.proofs.Lookup.{page-overlaid}
use Rattle.rest_laws.proofs.Net.{background-taken}
use Rattle.rest_laws.proofs.Opened.{every, issuer_there, numbered_is_no_batch}
use Rattle.rest_laws.proofs.Pages.{over_append}
use Rattle.rest_laws.proofs.Taken.{all_taken, changes_less, whole}
use Rattle.rest_laws.proofs.kinds.Asking.{alone}
use Rattle.rest_laws.proofs.kinds.Cells.{agreed}
use Rattle.rest_laws.proofs.kinds.Logging.{by_rule, logging, nothing_more, other_background, rule_fits}
use Rattle.rest_laws.proofs.kinds.Twice.{first_two}
use Rattle.lego_msg.specs.declared.body.Body.TheVariants as body
use Rattle.lego_msg.specs.declared.place.Place.TheVariants as place

-- WHAT A DRAIN OF THE OPEN OPERATION says: it only drains, or it writes and the drained log isn't its answer yet
pub record Awaits (n k : ℕ) (f : Plain) (o : Operation) : Type 0 where
  pub target : (targets : List Place) → targets ≡ targets_of n o → is_among (memory k) targets ≡ true
  pub says : Says n f o (memory k) body.Drained
  pub still : answers_to (patch_of o) body.Drained ≡ true → effect o f ≡ f

pub awaits : (n k : ℕ) (f : Plain) (o : Operation) → WaitsFor n k o → Awaits n k f o
awaits n k f (Drains m) waits = record { target = λ targets is. ap (is_among (memory k)) (is ∙ ap (λ (q : ℕ). memory q ∷ []) waits) ∙ alone k; says = refl; still = λ now. refl }
awaits n k f (Writes origin patch owner) waits = record {
  target = λ targets is. ap (is_among (memory k)) is ∙ ap (λ (q : ℕ). is_among (memory q) (memory (secondary_of n owner.0) ∷ memory owner.0 ∷ [])) (sym waits) ∙ (first_two n owner.0 []).0;
  says = inl (ap memory (sym waits), inr (inr (inl refl)));
  still = λ now. cc now;
}
awaits n k f (Finds pid region) waits = absurd waits
awaits n k f (Reads pid line owner) waits = absurd waits
awaits n k f (SetsHome pid region owner) waits = absurd waits
awaits n k f (SetsAreas pid region areas owner) waits = absurd waits
awaits n k f (AsksAreas pid region owner) waits = absurd waits
awaits n k f (Unmaps pid region first pages areas owner) waits = absurd waits
awaits n k f (Copies parent child regions owner) waits = absurd waits
awaits n k f (Drops pid) waits = absurd waits
awaits n k f (ReadsFile file block off len) waits = absurd waits
awaits n k f (WritesFile file block off bytes) waits = absurd waits
awaits n k f (CutsFile file size) waits = absurd waits
awaits n k f (AsksSize file) waits = absurd waits
awaits n k f (GetsName name) waits = absurd waits
awaits n k f (MakesName name) waits = absurd waits
awaits n k f (CutsName name) waits = absurd waits
awaits n k f ListsNames waits = absurd waits
awaits n k f (FreesFile file) waits = absurd waits
awaits n k f (Heals to what) waits = absurd waits

pub all_dropped : {X : Type 0} (P : X → Type 0) (n : ℕ) (xs : List X) → AllByRecursion P xs → AllByRecursion P (drop n xs)
all_dropped P zero xs all = all
all_dropped P (suc n) [] all = tt
all_dropped P (suc n) (x ∷ xs) all = all_dropped P n xs all.1

module _ (lost : Option ℕ) (t : Track) (m : Message) (k : ℕ) (s : Mem) (may : MayDeliver t m) (middle : Middle lost t) (number : m.op.0 ≡ 0) (up : IsUp lost k) (from : m.from ≡ place.Storage) (to : m.to ≡ memory k) (what : m.body ≡ body.BackedUp) (at : slice_get t.mems k ≡ Some s)
    -- a drain of the move is this memory's
    (of_move : (w : Waiter) → WaiterFits (memory_count t.shape) k t.next t.current (healing_move t.healing) w → (IsNot (healing_move t.healing) w.op → MayPend lost (memory_count t.shape) t.plain t.current (healing_move t.healing) t.next (drained s.id w)) → MayPend lost (memory_count t.shape) t.plain t.current (healing_move t.healing) t.next (drained s.id w)) where
  pends : MayPend lost (memory_count t.shape) t.plain t.current (healing_move t.healing) t.next m
  pends = (all_taken (MayPend lost (memory_count t.shape) t.plain t.current (healing_move t.healing) t.next) (all_pending t) (all_pending (taken t)) m (whole t m may) middle.pending).0

  below : k < memory_count t.shape
  below = subst (IsPlace (memory_count t.shape)) to pends.to

  holds : MemHolds t k s
  holds = middle.memories k s up at

  was : MemFits t.shape k s
  was = middle.forms k s at

  id : memory s.id ≡ memory k
  id = ap memory was.id

  own : is_background s.id m ≡ true
  own = both (m.op.0 == 0) (same_place m.from (memory s.id)) (same_place m.to (memory s.id)) (eq-eqb m.op.0 0 number) (ap (λ (p : Place). same_place p (memory s.id)) to ∙ eq-eqb k s.id (sym was.id))
    where
      both : (a b c : Bool) → a ≡ true → c ≡ true → (a && (b || c)) ≡ true
      both true true c e f = refl
      both true false c e f = f
      both false b c e f = cc e

  -- the batch that is out is at storage
  is_receipt : (0 < s.out) × (background s.id (all_pending t) ≡ receipt s ∷ []) × HasBatch t.disk.images (take s.out s.log)
  is_receipt = elim (eqb_tells s.out 0) [
    | inl none ↦ absurd (not_none s.id (all_pending t) (all_pending (taken t)) m (whole t m may) own (holds.batch.none none.1))
    | inr some ↦ let differ = some.1 in let out : 0 < s.out = omega (arith, differ) in by out (holds.batch.once out)
  ]
    where
      by : 0 < s.out → (background s.id (all_pending t) ≡ batch_message s ∷ []) ⊎ ((background s.id (all_pending t) ≡ receipt s ∷ []) × HasBatch t.disk.images (take s.out s.log)) → (0 < s.out) × (background s.id (all_pending t) ≡ receipt s ∷ []) × HasBatch t.disk.images (take s.out s.log)
      by out (inr e) = (out, e.0, e.1)
      by out (inl e) = absurd (apart (sym what ∙ ap (λ (y : Message). y.body) (only_one s.id (all_pending t) (all_pending (taken t)) m (batch_message s) (whole t m may) own e)))
        where
          apart : body.BackedUp ≡ body.Backup (take s.out s.log) → ⊥
          apart e = cc e

  left : left_of t ≡ all_pending (taken t)
  left = sym (ap (λ (ms : List Message). left_of t ++ ms) may.owed ∙ append-nil (left_of t))

  none_left : background s.id (left_of t) ≡ []
  none_left = ap (background s.id) left ∙ (background-taken s.id (all_pending t) (all_pending (taken t)) m (whole t m may)).1 own (ap length is_receipt.1)

  other_left : (j : ℕ) → (k ≡ j → ⊥) → background j (left_of t) ≡ background j (all_pending t)
  other_left j differ = ap (background j) left ∙ (background-taken j (all_pending t) (all_pending (taken t)) m (whole t m may)).0 (two_ (m.op.0 == 0) (same_place m.from (memory j)) (same_place m.to (memory j)) (ap (λ (p : Place). same_place p (memory j)) from) (ap (λ (p : Place). same_place p (memory j)) to ∙ apart))
    where
      apart : same_place (memory k) (memory j) ≡ false
      apart = elim (eqb_tells k j) [
        | inl same ↦ absurd (differ same.1)
        | inr other ↦ other.0
      ]

      two_ : (a b c : Bool) → b ≡ false → c ≡ false → (a && (b || c)) ≡ false
      two_ true true c e f = cc e
      two_ true false c e f = f
      two_ false b c e f = refl

  -- what is left of the log
  abbrev rest : List Patch
  rest = drop s.out s.log

  -- the pages under the log are as before, since the images have the batch
  page_stays : (pid vpn : ℕ) → page_in (overlaid rest t.disk.images) pid vpn ≡ page_in (overlaid s.log t.disk.images) pid vpn
  page_stays pid vpn =
      page-overlaid rest t.disk.images pid vpn ∙ ap (over rest pid vpn) (sym (is_receipt.2 pid vpn))
      ∙ sym (over_append (take s.out s.log) rest pid vpn (page_in t.disk.images pid vpn)) ∙ ap (λ (ps : List Patch). over ps pid vpn (page_in t.disk.images pid vpn)) (take-append-drop s.out s.log)
      ∙ sym (page-overlaid s.log t.disk.images pid vpn)

  second_stays : (j out : ℕ) (drains : List Waiter) (c : Cell) → second_part t.owners t.disk.images j (logging s rest out drains) c ≡ second_part t.owners t.disk.images j s c
  second_stays j out drains (Home p r) = refl
  second_stays j out drains (Areas p r) = refl
  second_stays j out drains (Page p v) = ap (λ (page : Option (List ℕ)). cond (owns t.owners j p (v / 512)) page None) (page_stays p v)

  -- WHAT THE MEMORY BECOMES, whichever it sends
  gives : (out : ℕ) (drains : List Waiter) (sent : List Message) → AllByRecursion (WaiterFits (memory_count t.shape) k t.next t.current (healing_move t.healing)) drains →
      AllByRecursion (MayPend lost (memory_count t.shape) t.plain t.current (healing_move t.healing) t.next) sent → AllByRecursion (λ (r : Message). r.from ≡ memory k) sent → ((j : ℕ) → (k ≡ j → ⊥) → background j (left_of t ++ sent) ≡ background j (left_of t)) → ((b : Block) → list_any (λ (r : Message). changes_block b r.body) sent ≡ false) →
      (answers_at (memory k) t.current sent ≡ true → plain_with t.current t.plain ≡ t.plain) → BatchFits (left_of t ++ sent) t.disk.images (logging s rest out drains) →
      MemoryRow lost t k s (logging s rest out drains) sent
  gives out drains sent waiters send from_here others quiet still batch = record {
    fits = record {
      id = was.id;
      log_room = was.log_room;
      cache_room = was.cache_room;
      machine = was.machine;
      main = was.main;
      spare = was.spare;
      pages = was.pages;
      frames = was.frames;
      log = all_dropped PatchFits s.out s.log was.log;
      room = let less : length rest ≡ length s.log - s.out = length-drop s.out s.log in let room = was.room in omega (arith, less, room);
    };
    waiting = waiters;
    clear = clear_rest t.current middle.current;
    sends = send;
    from = from_here;
    given = λ up_k. record {
      main = λ c. inl refl;
      main_told = λ now c. agreed (main_part s c) (old_share (sides_of t) k c) (new_share (sides_of t) k c) (same now k c) (holds.part.either c);
      second = λ j less is c. inl (second_stays j out drains c);
      second_told = λ j less is now c speaks. second_stays j out drains c ∙ agreed (second_part t.owners t.disk.images j s c) (old_share (sides_of t) j c) (new_share (sides_of t) j c) (same now j c) ((middle.seconds j s less (subst (IsUp lost) (sym is) up) (ap (slice_get t.mems) is ∙ at)).part.either c);
      batch = batch;
      blocks = every (λ b fit. record {
        place = fit.place;
        below = fit.below;
        same = fit.same;
        still = of_first (λ (x : Message). changes_block b x.body) (left_of t) sent (quiet b) ∙ ap (list_any (λ (x : Message). changes_block b x.body)) left ∙ changes_less t m may b fit.still;
      }) s.blocks holds.blocks;
      log = all_dropped (LogFits (memory_count t.shape) t.owners k) s.out s.log holds.log;
    };
    others = λ j other. others j other ∙ other_left j other;
    changes = λ b other. quiet b;
  }
    where
      clear_rest : (c : Option Open) → CurrentFits t c → ClearOf c rest
      clear_rest None fits = tt
      clear_rest (Some o) fits = all_dropped (λ (p : Patch). asks_clear o.operation p.pid.0 p.vpn.0 ≡ false) s.out s.log (fits.1 k s at)

      same : answers_at (memory k) t.current sent ≡ true → (j : ℕ) (c : Cell) → old_share (sides_of t) j c ≡ new_share (sides_of t) j c
      same now j c = ap (λ (f : Plain). share (memory_count t.shape) t.owners f j c) (sym (still now))

  -- DRAINS ARE ANSWERED
  waiters : AllByRecursion (WaiterFits (memory_count t.shape) k t.next t.current (healing_move t.healing)) s.drains
  waiters = middle.waiting k s at

  answer_pends : (w : Waiter) → WaiterFits (memory_count t.shape) k t.next t.current (healing_move t.healing) w → MayPend lost (memory_count t.shape) t.plain t.current (healing_move t.healing) t.next (drained s.id w)
  answer_pends w fits = of_move w fits other
    where
      here : IsPlace (memory_count t.shape) (memory s.id)
      here = subst (IsPlace (memory_count t.shape)) (sym id) below

      away : (lost : Option ℕ) → IsUp lost k → IsAway lost (drained s.id w)
      away None up = tt
      away (Some c) up = (ap (λ (p : Place). same_place p (memory c)) id ∙ apart, not_memory w.place fits.by)
        where
          apart : same_place (memory k) (memory c) ≡ false
          apart = elim (eqb_tells k c) [
            | inl same ↦ absurd (up (sym same.1))
            | inr differ ↦ differ.0
          ]

          not_memory : (p : Place) → is_issuer p ≡ true → same_place p (memory c) ≡ false
          not_memory (place.Processor cpu) e = refl
          not_memory (place.Memory q) e = cc e
          not_memory place.Storage e = cc e
          not_memory place.Manager e = refl

      other : IsNot (healing_move t.healing) w.op → MayPend lost (memory_count t.shape) t.plain t.current (healing_move t.healing) t.next (drained s.id w)
      other not_move = record { from = here; to = issuer_there (memory_count t.shape) w.place fits.by; kind = by t.current middle.current fits }
        where
          old : (c : Option Open) → IsNot c w.op → Pends lost (memory_count t.shape) t.plain c (healing_move t.healing) t.next (drained s.id w)
          old c not_current = Left (record {
            some = fits.some;
            below = fits.below;
            not_current = not_current;
            not_move = not_move;
            drained = refl;
            to = fits.by;
            from_up = subst (IsUp lost) (sym was.id) up;
          })

          by : (c : Option Open) → CurrentFits t c → WaiterFits (memory_count t.shape) k t.next c (healing_move t.healing) w → Pends lost (memory_count t.shape) t.plain c (healing_move t.healing) t.next (drained s.id w)
          by None current waits = old None tt
          by (Some o) current waits = elim (eqb_tells w.op o.number.0) [
            | inl same ↦
                let of = waits.of_open same.1 in
                let it = awaits (memory_count t.shape) k t.plain o.operation of.1 in
                OfOperation (same.1, away lost up, AnAnswer of.0 (ap (λ (p : Place). is_among p o.targets) id ∙ it.target o.targets current.0.targets) (subst (λ (p : Place). Says (memory_count t.shape) t.plain o.operation p body.Drained) (sym id) it.says))
            | inr differ ↦ old (Some o) differ.0
          ]

  answers_pend : (drains : List Waiter) → AllByRecursion (WaiterFits (memory_count t.shape) k t.next t.current (healing_move t.healing)) drains → AllByRecursion (MayPend lost (memory_count t.shape) t.plain t.current (healing_move t.healing) t.next) (map (drained s.id) drains)
  answers_pend [] all = tt
  answers_pend (w ∷ drains) all = (answer_pends w all.0, answers_pend drains all.1)

  from_here : (drains : List Waiter) → AllByRecursion (λ (r : Message). r.from ≡ memory k) (map (drained s.id) drains)
  from_here [] = tt
  from_here (w ∷ drains) = (id, from_here drains)

  unbacked : (j : ℕ) (drains : List Waiter) → AllByRecursion (WaiterFits (memory_count t.shape) k t.next t.current (healing_move t.healing)) drains → AllByRecursion (λ (r : Message). is_background j r ≡ false) (map (drained s.id) drains)
  unbacked j [] all = tt
  unbacked j (w ∷ drains) all = (numbered_is_no_batch (drained s.id w) all.0.some j, unbacked j drains all.1)

  unchanging : (b : Block) (drains : List Waiter) → list_any (λ (r : Message). changes_block b r.body) (map (drained s.id) drains) ≡ false
  unchanging b [] = refl
  unchanging b (w ∷ drains) = unchanging b drains

  -- an answer among them is that of an operation that only drains
  answer_still : (c : Option Open) (drains : List Waiter) → AllByRecursion (WaiterFits (memory_count t.shape) k t.next c (healing_move t.healing)) drains → answers_at (memory k) c (map (drained s.id) drains) ≡ true → plain_with c t.plain ≡ t.plain
  answer_still None drains all now = cc now
  answer_still (Some o) [] all now = cc now
  answer_still (Some o) (w ∷ drains) all now = by (w.op == o.number.0) (same_place (memory s.id) (memory k)) (same_place w.place o.by) (answers_to (patch_of o.operation) body.Drained) refl refl now (answer_still (Some o) drains all.1)
    where
      by : (a b c d : Bool) → (w.op == o.number.0) ≡ a → answers_to (patch_of o.operation) body.Drained ≡ d → ((a && b && c && d) || answers_at (memory k) (Some o) (map (drained s.id) drains)) ≡ true → (answers_at (memory k) (Some o) (map (drained s.id) drains) ≡ true → effect o.operation t.plain ≡ t.plain) → effect o.operation t.plain ≡ t.plain
      by true b c true ea ed now others = (awaits (memory_count t.shape) k t.plain o.operation (all.0.of_open (eqb-true w.op o.number.0 ea)).1).still ed
      by true true true false ea ed now others = others now
      by true true false false ea ed now others = others now
      by true false c false ea ed now others = others now
      by false b c d ea ed now others = others now

  -- a batch answers nothing
  batch_quiet : (c : Option Open) → CurrentFits t c → answers_at (memory k) c (backup (logging s rest 0 s.drains) ∷ []) ≡ false
  batch_quiet None fits = refl
  batch_quiet (Some o) fits = ap (λ (b : Bool). (b && same_place (memory s.id) (memory k) && same_place place.Storage o.by && answers_to (patch_of o.operation) (body.Backup rest)) || false) not_number
    where
      not_number : (0 == o.number.0) ≡ false
      not_number = elim (eqb_tells 0 o.number.0) [
        | inl same ↦ let is = same.1 in let some = fits.0.some in absurd (omega (arith, is, some))
        | inr other ↦ other.0
      ]

  none_answers : (c : Option Open) → answers_at (memory k) c [] ≡ true → ⊥
  none_answers None now = cc now
  none_answers (Some o) now = cc now

  pub receipt_gives : MemoryRow lost t k s (backed_up_row s).0 (backed_up_row s).1
  receipt_gives = by (s.out == 0) refl
    where
      by : (b : Bool) → (s.out == 0) ≡ b → MemoryRow lost t k s (cond b (s, []) (batch_gone (logging s rest 0 s.drains))).0 (cond b (s, []) (batch_gone (logging s rest 0 s.drains))).1
      by true e = let none = eqb-true s.out 0 e in let some = is_receipt.0 in absurd (omega (arith, none, some))
      by false e = under (length rest == 0) refl
        where
          under : (b : Bool) → (length rest == 0) ≡ b → MemoryRow lost t k s (cond b (logging s rest 0 [], map (drained s.id) s.drains) (batched (logging s rest 0 s.drains) [])).0 (cond b (logging s rest 0 [], map (drained s.id) s.drains) (batched (logging s rest 0 s.drains) [])).1
          under true empty = gives 0 [] (map (drained s.id) s.drains) tt (answers_pend s.drains waiters) (from_here s.drains) (λ j other. nothing_more j (left_of t) (map (drained s.id) s.drains) (unbacked j s.drains waiters)) (λ b. unchanging b s.drains) (answer_still t.current s.drains waiters)
              (record {
                none = λ out. nothing_more s.id (left_of t) (map (drained s.id) s.drains) (unbacked s.id s.drains waiters) ∙ none_left;
                once = λ some. absurd (omega (arith, some));
                within = omega arith;
                waits = λ some. absurd (omega (arith, some));
              })
          under false more =
              by_rule (λ (p : Mem × List Message). BatchFits (left_of t ++ p.1) t.disk.images p.0 → MemoryRow lost t k s p.0 p.1) (logging s rest 0 s.drains) []
              (λ due batch. gives (length rest) s.drains (backup (logging s rest 0 s.drains) ∷ []) waiters (
                record {
                  from = subst (IsPlace (memory_count t.shape)) (sym id) below;
                  to = tt;
                  kind = OfBackground (record { number = refl; of = k; up = up; batch = Goes id refl rest refl });
                },
                tt,
              ) (id, tt)
              (λ j other. filter-append (is_background j) (left_of t) (backup (logging s rest 0 s.drains) ∷ []) ∙ ap (λ (b : Bool). background j (left_of t) ++ cond b (backup (logging s rest 0 s.drains) ∷ []) []) (other_background (logging s rest 0 s.drains) k was.id j other) ∙ append-nil (background j (left_of t)))
              (λ b. refl) (λ now. absurd (no_answer now)) batch)
              (λ waits batch. gives 0 s.drains [] waiters tt tt (λ j other. ap (background j) (append-nil (left_of t))) (λ b. refl) (λ now. absurd (none_answers t.current now)) batch)
              (rule_fits (left_of t) [] t.disk.images (logging s rest 0 s.drains) some (record { none = λ out. none_left; once = λ some. absurd (omega (arith, some)); within = omega arith }) tt)
            where
              some : 0 < length rest
              some = elim (eqb_tells (length rest) 0) [
                | inl same ↦ let both : true ≡ false = sym same.0 ∙ more in cc both
                | inr differ ↦ let not_none = differ.1 in omega (arith, not_none)
              ]

              no_answer : answers_at (memory k) t.current (backup (logging s rest 0 s.drains) ∷ []) ≡ true → ⊥
              no_answer now = let both : false ≡ true = sym (batch_quiet t.current middle.current) ∙ now in cc both
