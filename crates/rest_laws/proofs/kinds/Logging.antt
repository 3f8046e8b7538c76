-- Rows by which only a memory's log, its batch and its waiting drains change: the log rule.
use Rattle.std.proofs.Common.{◌≡◌, ◌⊎◌, ◌+◌, ◌/◌, ◌<◌, ◌≤◌, ◌==◌, ◌&&◌, ◌||◌, [], ◌∷◌, ◌++◌, ◌∙◌, ℕ, Bool, List, Option, Some, ap, append-nil, arith, cond, false, inl, inr, leb, length, length-append, ltb, refl, subst, sym, take, true}
use Rattle.std.proofs.lemmas.Bool.{eq-eqb, eqb-true, lt-ltb}
use Rattle.std.proofs.lemmas.Bool.Decides.{eqb_tells}
use Rattle.std.proofs.lemmas.List.Elements.{filter-append}
use Rattle.std.proofs.lemmas.List.{take-append-le, take_all}
use Rattle.std.specs.List.{AllByRecursion, list_any}
use Rattle.lego_base.specs.declared.records.PageImage.{PageImage}
use Rattle.lego_base.specs.declared.records.Patch.{Patch}
use Rattle.lego_msg.specs.Granted.{IsClear, PatchFits}
use Rattle.lego_msg.specs.Operations.{patch_of}
use Rattle.lego_msg.specs.Places.{memory, same_place}
use Rattle.lego_msg.specs.State.{Block, Mem, Waiter}
use Rattle.lego_msg.specs.Table.{backup, batched, is_batch_due}
use Rattle.lego_msg.specs.Track.{Track, healing_move, memory_count}
use Rattle.lego_msg.specs.declared.message.Message.{Message}
use Rattle.lego_msg.specs.declared.operation.Open.{Open}
use Rattle.lego_rest.specs.Answers.{all_pending, answers_to}
use Rattle.lego_rest.specs.Fits.{BatchFits, HasBatch, LogFits, MemFits, WaiterFits, background, batch_message, changes_block, is_background, receipt}
use Rattle.lego_rest.specs.Pending.{Goes, IsPlace, MayPend, OfBackground}
use Rattle.rest_laws.proofs.Delivered.{RowGives, answers_for, left_of}
use Rattle.rest_laws.proofs.Meeting.{Met, met_below, met_fits, met_holds, met_id, met_left, met_open, met_up}
use Rattle.rest_laws.proofs.Opened.{numbered_is_no_batch}
use Rattle.rest_laws.proofs.Replied.{Change, blocks_as_before}
use Rattle.lego_msg.specs.declared.body.Body.TheVariants as body
use Rattle.lego_msg.specs.declared.place.Place.TheVariants as place

-- the memory with another log, batch and drains
abbrev pub logging : Mem → List Patch → ℕ → List Waiter → Mem
logging s log out drains = record s { log = log; out = out; drains = drains }

-- THE LOG RULE by its two cases
pub by_rule : (P : Mem × List Message → Type 0) → (s : Mem) (after : List Message) → (is_batch_due s ≡ true → P (record s { out = length s.log }, backup s ∷ after)) → (is_batch_due s ≡ false → P (s, after)) → P (batched s after)
by_rule P s after due waits = by (is_batch_due s) refl
  where
    by : (b : Bool) → is_batch_due s ≡ b → P (cond b (record s { out = length s.log }, backup s ∷ after) (s, after))
    by true e = due e
    by false e = waits e

-- a batch is due only where none is out
pub none_out : (s : Mem) → is_batch_due s ≡ true → s.out ≡ 0
none_out s due = eqb-true s.out 0 (first (s.out == 0) (ltb 0 (length s.log)) (leb ((s.log_room + 1) / 2) (length s.log) || ltb 0 (length s.drains)) due)
  where
    first : (a b c : Bool) → (a && b && c) ≡ true → a ≡ true
    first true b c e = refl
    first false b c e = cc e

-- and is due where none is out, the log isn't empty and a drain waits
pub drain_due : (s : Mem) → is_batch_due s ≡ false → 0 < length s.log → 0 < length s.drains → 0 < s.out
drain_due s none some waits = elim (eqb_tells s.out 0) [
  | inl e ↦ let both : true ≡ false = sym (due (s.out == 0) (ltb 0 (length s.log)) (ltb 0 (length s.drains)) (leb ((s.log_room + 1) / 2) (length s.log)) e.0 (lt-ltb 0 (length s.log) some) (lt-ltb 0 (length s.drains) waits)) ∙ none in cc both
  | inr e ↦ let differ = e.1 in omega (arith, differ)
]
  where
    due : (a b d c : Bool) → a ≡ true → b ≡ true → d ≡ true → (a && b && (c || d)) ≡ true
    due true true true true e f g = refl
    due true true true false e f g = refl
    due true true false c e f g = cc g
    due true false d c e f g = cc f
    due false b d c e f g = cc e

-- a backup isn't another memory's
pub other_background : (s : Mem) (k : ℕ) → s.id ≡ k → (j : ℕ) → (k ≡ j → ⊥) → is_background j (backup s) ≡ false
other_background s k id j differ = elim (eqb_tells s.id j) [
  | inl same ↦ absurd (differ (sym id ∙ same.1))
  | inr other ↦ ap (λ (b : Bool). b || false) other.0
]

pub own_background : (s : Mem) → is_background s.id (backup s) ≡ true
own_background s = ap (λ (b : Bool). b || false) (eq-eqb s.id s.id refl)

-- WHAT IS ON ITS WAY before the log rule: nothing of this memory where none is out, else the batch or its receipt
pub record Carries (pending : List Message) (images : List PageImage) (s : Mem) : Type 0 where
  pub none : s.out ≡ 0 → background s.id pending ≡ []
  pub once : 0 < s.out → (background s.id pending ≡ batch_message s ∷ []) ⊎ ((background s.id pending ≡ receipt s ∷ []) × HasBatch images (take s.out s.log))
  pub within : s.out ≤ length s.log

-- messages that are no batch and no receipt change nothing of that
pub nothing_more : (j : ℕ) (pending after : List Message) → AllByRecursion (λ (r : Message). is_background j r ≡ false) after → background j (pending ++ after) ≡ background j pending
nothing_more j pending after none = filter-append (is_background j) pending after ∙ ap (λ (l : List Message). background j pending ++ l) (gone after none) ∙ append-nil (background j pending)
  where
    gone : (after : List Message) → AllByRecursion (λ (r : Message). is_background j r ≡ false) after → background j after ≡ []
    gone [] none = refl
    gone (r ∷ after) none = ap (λ (b : Bool). cond b (r ∷ background j after) (background j after)) none.0 ∙ gone after none.1

-- after the log rule the batch fits
pub rule_fits : (pending after : List Message) (images : List PageImage) (s : Mem) → 0 < length s.log → Carries pending images s → AllByRecursion (λ (r : Message). is_background s.id r ≡ false) after → BatchFits (pending ++ (batched s after).1) images (batched s after).0
rule_fits pending after images s some carries quiet = by_rule (λ (p : Mem × List Message). BatchFits (pending ++ p.1) images p.0) s after goes stays
  where
    goes : is_batch_due s ≡ true → BatchFits (pending ++ backup s ∷ after) images (record s { out = length s.log })
    goes due = record {
      none = λ out. absurd (omega (arith, out, some));
      once = λ out. inl (
          filter-append (is_background s.id) pending (backup s ∷ after)
          ∙ ap (λ (l : List Message). l ++ background s.id (backup s ∷ after)) (carries.none (none_out s due))
          ∙ ap (λ (b : Bool). cond b (backup s ∷ background s.id after) (background s.id after)) (own_background s)
          ∙ ap (λ (l : List Message). backup s ∷ l) (nothing_more s.id [] after quiet)
          ∙ ap (λ (log : List Patch). record { from = memory s.id; to = place.Storage; op = record { 0 = 0 }; body = body.Backup log } ∷ []) (sym (take_all (length s.log) s.log (omega arith)))
          );
      within = omega arith;
      waits = λ waiting. some;
    }

    stays : is_batch_due s ≡ false → BatchFits (pending ++ after) images s
    stays none = record {
      none = λ out. nothing_more s.id pending after quiet ∙ carries.none out;
      once = λ out. by (carries.once out);
      within = carries.within;
      waits = λ waiting. drain_due s none some waiting;
    }
      where
        by : (background s.id pending ≡ batch_message s ∷ []) ⊎ ((background s.id pending ≡ receipt s ∷ []) × HasBatch images (take s.out s.log)) → (background s.id (pending ++ after) ≡ batch_message s ∷ []) ⊎ ((background s.id (pending ++ after) ≡ receipt s ∷ []) × HasBatch images (take s.out s.log))
        by (inl e) = inl (nothing_more s.id pending after quiet ∙ e)
        by (inr e) = inr (nothing_more s.id pending after quiet ∙ e.0, e.1)

-- A ROW that changes the log and what goes with it, by the log rule
module _ (lost : Option ℕ) (t : Track) (o : Open) (k : ℕ) (s : Mem) (m : Message) (met : Met lost t o k s m) where
  -- a batch on its way from here
  pub backup_pends : (log : List Patch) (out : ℕ) (drains : List Waiter) → MayPend lost (memory_count t.shape) t.plain (Some o) (healing_move t.healing) t.next (backup (logging s log out drains))
  backup_pends log out drains = record {
    from = subst (IsPlace (memory_count t.shape)) (sym (met_id lost t o k s m met)) (met_below lost t o k s m met);
    to = tt;
    kind = OfBackground (record { number = refl; of = k; up = met_up lost t o k s m met; batch = Goes (met_id lost t o k s m met) refl log refl });
  }

  -- what is on its way before the log rule, where the log only grew at its end
  pub carries_on : (log more : List Patch) (drains : List Waiter) → log ≡ s.log ++ more → Carries (left_of t) t.disk.images (logging s log s.out drains)
  carries_on log more drains grown = record {
    none = λ out. met_left lost t o k s m met s.id ∙ batch.none out;
    once = λ some. by some (batch.once some);
    within = let whole : length log ≡ length s.log + length more = ap length grown ∙ length-append s.log more in let within = batch.within in omega (arith, whole, within);
  }
    where
      batch : BatchFits (all_pending t) t.disk.images s
      batch = (met_holds lost t o k s m met).batch

      same : take s.out s.log ≡ take s.out log
      same = sym (ap (take s.out) grown ∙ take-append-le s.out s.log more batch.within)

      by : 0 < s.out → (background s.id (all_pending t) ≡ batch_message s ∷ []) ⊎ ((background s.id (all_pending t) ≡ receipt s ∷ []) × HasBatch t.disk.images (take s.out s.log)) → (background s.id (left_of t) ≡ batch_message (logging s log s.out drains) ∷ []) ⊎ ((background s.id (left_of t) ≡ receipt s ∷ []) × HasBatch t.disk.images (take s.out log))
      by some (inl e) = inl (met_left lost t o k s m met s.id ∙ e ∙ ap (λ (batch : List Patch). record { from = memory s.id; to = place.Storage; op = record { 0 = 0 }; body = body.Backup batch } ∷ []) same)
      by some (inr e) = inr (met_left lost t o k s m met s.id ∙ e.0, subst (HasBatch t.disk.images) same e.1)

  pub ruled : (log : List Patch) (drains : List Waiter) (after : List Message) →
      AllByRecursion PatchFits log → length log ≤ s.log_room → AllByRecursion (WaiterFits (memory_count t.shape) k t.next (Some o) (healing_move t.healing)) drains → IsClear o.operation log →
      0 < length log → Carries (left_of t) t.disk.images (logging s log s.out drains) →
      AllByRecursion (MayPend lost (memory_count t.shape) t.plain (Some o) (healing_move t.healing) t.next) after → AllByRecursion (λ (r : Message). r.from ≡ memory k) after → AllByRecursion (λ (r : Message). 0 < r.op.0) after → ((b : Block) → list_any (λ (r : Message). changes_block b r.body) after ≡ false) →
      AllByRecursion (LogFits (memory_count t.shape) t.owners k) log → Change t o (answers_for o k after) k s (logging s log s.out drains) →
      RowGives lost t o k s (batched (logging s log s.out drains) after).0 (batched (logging s log s.out drains) after).1
  ruled log drains after patches room waiters clear some carries sends from numbered quiet logs change =
      by_rule (λ (p : Mem × List Message). BatchFits (left_of t ++ p.1) t.disk.images p.0 → RowGives lost t o k s p.0 p.1) (logging s log s.out drains) after
      (λ due. gives (length log) (backup (logging s log s.out drains) ∷ after) (backup_pends log s.out drains, sends) (met_id lost t o k s m met, from)
      (λ j other. filter-append (is_background j) (left_of t) (backup (logging s log s.out drains) ∷ after)
      ∙ ap (λ (b : Bool). background j (left_of t) ++ cond b (backup (logging s log s.out drains) ∷ background j after) (background j after)) (other_background (logging s log s.out drains) k was.id j other)
      ∙ sym (filter-append (is_background j) (left_of t) after) ∙ nothing_more j (left_of t) after (unbacked j after numbered) ∙ met_left lost t o k s m met j)
      quiet (λ e. sym (ap (λ (b : Bool). (b && same_place (memory s.id) (memory k) && same_place place.Storage o.by && answers_to (patch_of o.operation) (body.Backup log)) || answers_for o k after) (not_number o.number.0 (met_open lost t o k s m met).some)) ∙ e))
      (λ waits. gives s.out after sends from (λ j other. nothing_more j (left_of t) after (unbacked j after numbered) ∙ met_left lost t o k s m met j) quiet (λ e. e))
      (rule_fits (left_of t) after t.disk.images (logging s log s.out drains) some carries (unbacked s.id after numbered))
    where
      was : MemFits t.shape k s
      was = met_fits lost t o k s m met

      not_number : (n : ℕ) → 0 < n → (0 == n) ≡ false
      not_number n some = elim (eqb_tells 0 n) [
        | inl e ↦ let none = e.1 in absurd (omega (arith, none, some))
        | inr e ↦ e.0
      ]

      unbacked : (j : ℕ) (after : List Message) → AllByRecursion (λ (r : Message). 0 < r.op.0) after → AllByRecursion (λ (r : Message). is_background j r ≡ false) after
      unbacked j [] all = tt
      unbacked j (r ∷ after) all = (numbered_is_no_batch r all.0 j, unbacked j after all.1)

      gives : (out : ℕ) (sent : List Message) → AllByRecursion (MayPend lost (memory_count t.shape) t.plain (Some o) (healing_move t.healing) t.next) sent → AllByRecursion (λ (r : Message). r.from ≡ memory k) sent → ((j : ℕ) → (k ≡ j → ⊥) → background j (left_of t ++ sent) ≡ background j (all_pending t)) → ((b : Block) → list_any (λ (r : Message). changes_block b r.body) sent ≡ false) → (answers_for o k sent ≡ true → answers_for o k after ≡ true) →
          BatchFits (left_of t ++ sent) t.disk.images (logging s log out drains) → RowGives lost t o k s (logging s log out drains) sent
      gives out sent pend from_here others unchanged answered batch = record {
        fits = record {
          id = was.id;
          log_room = was.log_room;
          cache_room = was.cache_room;
          machine = was.machine;
          main = was.main;
          spare = was.spare;
          pages = was.pages;
          frames = was.frames;
          log = patches;
          room = room;
        };
        waiting = waiters;
        clear = clear;
        sends = pend;
        from = from_here;
        given = λ up. record {
          main = change.main;
          main_told = λ now. change.main_told (answered now);
          second = change.second;
          second_told = λ j below is now. change.second_told j below is (answered now);
          batch = batch;
          blocks = blocks_as_before lost t o k s m met sent unchanged;
          log = logs;
        };
        others = others;
        changes = λ b other. unchanged b;
      }
