-- A drain leaves the log of its memory empty: its answer is sent only where the log is.
use Rattle.std.proofs.Common.{◌≡◌, ◌⊎◌, ◌<◌, ◌==◌, ◌&&◌, ◌||◌, [], ◌∷◌, ◌++◌, ◌∙◌, ℕ, Bool, List, None, Option, Some, ap, append-nil, append_assoc, arith, cond, drop, false, inl, inr, length, map, refl, slice_get, subst, sym, true}
use Rattle.std.proofs.lemmas.Bool.{eq-eqb, eqb-true, ne_eqb}
use Rattle.std.proofs.lemmas.Bool.Decides.{eqb_tells}
use Rattle.std.proofs.lemmas.List.Folds.{list_any-append}
use Rattle.std.specs.List.{AllByRecursion, list_any}
use Rattle.std.specs.Prelude.{slice_set}
use Rattle.lego_base.specs.declared.ids.MemId.{MemId}
use Rattle.lego_base.specs.declared.records.Patch.{Patch}
use Rattle.lego_msg.proofs.Senders.{get_set, same_some}
use Rattle.lego_msg.specs.Completions.{done_or}
use Rattle.lego_msg.specs.Deliveries.{MayDeliver, answered, comes, issuer_gets, memory_handles, noted, noted_with, reaction_of, reacts, stops, taken}
use Rattle.lego_msg.specs.Granted.{Granted}
use Rattle.lego_msg.specs.Legal.{May}
use Rattle.lego_msg.specs.Marks.{Call, Mark, Order}
use Rattle.lego_msg.specs.Operations.{asks_of, is_write, messages_of, patch_of, targets_of}
use Rattle.lego_msg.specs.Places.{is_among, is_issuer, memory, same_place}
use Rattle.lego_msg.specs.Run.{after}
use Rattle.lego_msg.specs.Sends.{IsFirst, MayBegin, MaySend, begins, sent}
use Rattle.lego_msg.specs.State.{Mem}
use Rattle.lego_msg.specs.Table.{answers, backup, batch_gone, batched, drained, handled, handled_body, stored}
use Rattle.lego_msg.specs.Track.{Track, all_answered, has_answered, healing_move, is_complete, memory_count, opened}
use Rattle.lego_msg.specs.declared.body.Body.{Body}
use Rattle.lego_msg.specs.declared.event.Event.{Event}
use Rattle.lego_msg.specs.declared.event.Event.TheVariants.{Access, Complete, Crash, Deliver, Drop, Fill, Out, Send, Turn}
use Rattle.lego_msg.specs.declared.healing.Healing.{Healing}
use Rattle.lego_msg.specs.declared.message.Message.{Message}
use Rattle.lego_msg.specs.declared.operation.Open.{Open}
use Rattle.lego_msg.specs.declared.operation.Operation.{Operation}
use Rattle.lego_msg.specs.declared.operation.Operation.TheVariants.{Drains}
use Rattle.lego_msg.specs.declared.place.Place.{Place}
use Rattle.lego_msg.specs.declared.place.Place.TheVariants.{Manager, Memory, Processor, Storage}
use Rattle.lego_rest.specs.Answers.{all_pending}
use Rattle.lego_rest.specs.Fits.{OpenFits}
use Rattle.lego_rest.specs.Pending.{Among, AnAnswer, First, Goes, HandedOn, HandsOn, IsBatch, Left, MayPend, OfBackground, OfMove, OfOpen, OfOperation, Pends, Reaction, Reacts, Returns}
use Rattle.lego_rest.specs.Rest.{AtRest, CurrentFits, Middle}
use Rattle.rest_laws.proofs.Comes.{file_comes, row_comes}
use Rattle.rest_laws.proofs.Delivered.{left_of, none_of}
use Rattle.rest_laws.proofs.Emptied.{along, delivered_at, end_of_none, ended_mems, logs-grow-by-writes, on_its_way, quiet}
use Rattle.rest_laws.proofs.Ended.{target_answered}
use Rattle.rest_laws.proofs.Goes.{complete_one}
use Rattle.rest_laws.proofs.kinds.Asking.{alone}
use Rattle.rest_laws.proofs.Leads.{Way}
use Rattle.rest_laws.proofs.Net.{any-taken}
use Rattle.rest_laws.proofs.Noted.{place_sym}
use Rattle.rest_laws.proofs.Taken.{any_less, whole}
use Rattle.rest_laws.proofs.Truth.{both_true}
use Rattle.rest_laws.proofs.kinds.Logging.{by_rule, logging}
use Rattle.rest_laws.specs.GoingOn.{IsOfMessages, owners_with}
use Rattle.rest_laws.specs.Logs.{DrainsEmpty, IsEmptyAt}
use Rattle.lego_msg.specs.declared.body.Body.TheVariants as body
use Rattle.lego_msg.specs.declared.place.Place.TheVariants as place

-- a message of an operation from memory k
abbrev pub is_from : ℕ → ℕ → Message → Bool
is_from number k x = x.op.0 == number && same_place x.from (memory k)

-- whether an answer from memory k was noted, or something from it is on its way
abbrev pub is_told : ℕ → List Message → Open → Bool
is_told k pending one = has_answered (memory k) one.answers || list_any (is_from one.number.0 k) pending

pub record IsDry (k : ℕ) (now : Track) : Type 0 where
  pub one : Open
  pub current : now.current ≡ Some one
  pub unsent : one.unsent ≡ []
  pub empty : is_told k (all_pending now) one ≡ true → IsEmptyAt now k

-- A ROW sends a message with the open number only from an empty log, where it drains
no_backup : (number : ℕ) (k : ℕ) (s : Mem) → 0 < number → is_from number k (backup s) ≡ false
no_backup number k s some = elim (eqb_tells 0 number) [
  | inl same ↦ let is = same.1 in absurd (omega (arith, is, some))
  | inr other ↦ ap (λ (b : Bool). b && same_place (memory s.id) (memory k)) other.0
]

ruled : (number k : ℕ) (s : Mem) → 0 < number → list_any (is_from number k) (batched s []).1 ≡ true → (batched s []).0.log ≡ []
ruled number k s some = by_rule (λ (p : Mem × List Message). list_any (is_from number k) p.1 ≡ true → p.0.log ≡ []) s [] (λ due e. let both : false ≡ true = sym (ap (λ (b : Bool). b || false) (no_backup number k s some)) ∙ e in cc both) (λ waits e. cc e)

no_length : (log : List Patch) → (length log == 0) ≡ true → log ≡ []
no_length [] e = refl
no_length (p ∷ log) e = let none = eqb-true (length (p ∷ log)) 0 e in absurd (omega (arith, none))

pub drain_dry : (number k : ℕ) (s : Mem) (m : Message) → 0 < number → list_any (is_from number k) (handled_body s m body.Drain).1 ≡ true → (handled_body s m body.Drain).0.log ≡ []
drain_dry number k s m some = by (length s.log == 0) refl
  where
    by : (b : Bool) → (length s.log == 0) ≡ b → list_any (is_from number k) (cond b (answers s m body.Drained) (batched (logging s s.log s.out (s.drains ++ record { place = m.from; op = m.op.0 } ∷ [])) [])).1 ≡ true → (cond b (answers s m body.Drained) (batched (logging s s.log s.out (s.drains ++ record { place = m.from; op = m.op.0 } ∷ [])) [])).0.log ≡ []
    by true none e = no_length s.log none
    by false more e = ruled number k (logging s s.log s.out (s.drains ++ record { place = m.from; op = m.op.0 } ∷ [])) some e

pub receipt_dry : (number k : ℕ) (s : Mem) (m : Message) → 0 < number → list_any (is_from number k) (handled_body s m body.BackedUp).1 ≡ true → (handled_body s m body.BackedUp).0.log ≡ []
receipt_dry number k s m some = by (s.out == 0)
  where
    under : (b : Bool) → (length (drop s.out s.log) == 0) ≡ b → list_any (is_from number k) (cond b (logging s (drop s.out s.log) 0 [], map (drained s.id) s.drains) (batched (logging s (drop s.out s.log) 0 s.drains) [])).1 ≡ true → (cond b (logging s (drop s.out s.log) 0 [], map (drained s.id) s.drains) (batched (logging s (drop s.out s.log) 0 s.drains) [])).0.log ≡ []
    under true none e = no_length (drop s.out s.log) none
    under false more e = ruled number k (logging s (drop s.out s.log) 0 s.drains) some e

    by : (b : Bool) → list_any (is_from number k) (cond b (s, []) (batch_gone (logging s (drop s.out s.log) 0 s.drains))).1 ≡ true → (cond b (s, []) (batch_gone (logging s (drop s.out s.log) 0 s.drains))).0.log ≡ []
    by true e = cc e
    by false e = under (length (drop s.out s.log) == 0) refl e

module _ (t : Track) (o : Order) (rest : List Mark) (m : MemId) (drains : o.operation ≡ Drains m) where
  not_write : is_write o.operation ≡ false
  not_write = ap is_write drains

  module _ (now : Track) (way : Way t o rest now) (dry : IsDry m.0 now) where
    same_open : (a b : Open) → Some a ≡ Some b → a ≡ b
    same_open a b e = cc e

    is_one : way.stands.one ≡ dry.one
    is_one = same_open way.stands.one dry.one (sym way.stands.current ∙ dry.current)

    operation : dry.one.operation ≡ Drains m
    operation = ap (λ (x : Open). x.operation) (sym is_one) ∙ way.stands.operation ∙ drains

    fits : OpenFits (memory_count now.shape) now.owners now.plain now.next dry.one
    fits = (subst (CurrentFits now) dry.current way.middle.current).0

    -- SENDS
    send_dry : (x : Message) → MaySend now x now.owed now.healing now.current → IsDry m.0 (sent now x now.owed now.healing now.current)
    send_dry x may = subst (IsDry m.0) (sym is) (by now.owed refl (subst (λ (p : Option Healing × Option Open). MaySend now x now.owed p.0 p.1) (λ i. (way.healed i, dry.current i)) may))
      where
        is : sent now x now.owed now.healing now.current ≡ sent now x now.owed None (Some dry.one)
        is = λ i. sent now x now.owed (way.healed i) (dry.current i)

        by : (owed : List Message) → now.owed ≡ owed → MaySend now x owed None (Some dry.one) → IsDry m.0 (sent now x owed None (Some dry.one))
        by (y ∷ more) owing may = record { one = dry.one; current = dry.current; unsent = dry.unsent; empty = λ told. dry.empty (ap (λ (ms : List Message). is_told m.0 ms dry.one) (ap (λ (ms : List Message). now.net ++ ms) owing ∙ sym (ap (λ (z : Message). (now.net ++ z ∷ []) ++ more) may ∙ append_assoc now.net (y ∷ []) more)) ∙ told) }
        by [] owing may = absurd (subst (IsFirst x) dry.unsent may.1)

    -- DELIVERIES
    module _ (x : Message) (may : MayDeliver now x) where
      left : left_of now ≡ all_pending (taken now)
      left = sym (ap (λ (ms : List Message). left_of now ++ ms) may.owed ∙ append-nil (left_of now))

      told_less : is_told m.0 (left_of now) dry.one ≡ true → is_told m.0 (all_pending now) dry.one ≡ true
      told_less e = by (has_answered (memory m.0) dry.one.answers) e
        where
          by : (a : Bool) → (a || list_any (is_from dry.one.number.0 m.0) (left_of now)) ≡ true → (a || list_any (is_from dry.one.number.0 m.0) (all_pending now)) ≡ true
          by true e = refl
          by false e = any_less (is_from dry.one.number.0 m.0) (all_pending now) (all_pending (taken now)) x (whole now x may) (ap (list_any (is_from dry.one.number.0 m.0)) (sym left) ∙ e)

      -- what was empty is still, since nothing writes
      stays_empty : IsEmptyAt now m.0 → (s : Mem) → slice_get (comes (taken now) x x.to).mems m.0 ≡ Some s → s.log ≡ []
      stays_empty empty s at = delivered_at now x m.0 (λ (y : Mem). y.log ≡ []) way.healed empty row s at
        where
          row : (y : Mem) → slice_get now.mems m.0 ≡ Some y → x.to ≡ memory m.0 → (handled y x).0.log ≡ []
          row y at to =
              let grows = logs-grow-by-writes y x (quiet now way.stands.one x may way.healed way.stands.current way.middle m.0 to (ap is_write way.stands.operation ∙ not_write)) in
              end_of_none (handled y x).0.log (grows.0, grows.1 ∙ empty y at)

      -- what is sent with the open number from there
      told_split : (out : List Message) → is_told m.0 (left_of now ++ out) dry.one ≡ true → (is_told m.0 (all_pending now) dry.one ≡ true) ⊎ (list_any (is_from dry.one.number.0 m.0) out ≡ true)
      told_split out e = by (is_told m.0 (left_of now) dry.one) (list_any (is_from dry.one.number.0 m.0) out) told_less (sym (grouped (has_answered (memory m.0) dry.one.answers) (list_any (is_from dry.one.number.0 m.0) (left_of now)) (list_any (is_from dry.one.number.0 m.0) out)) ∙ ap (λ (b : Bool). has_answered (memory m.0) dry.one.answers || b) (sym (list_any-append (is_from dry.one.number.0 m.0) (left_of now) out)) ∙ e)
        where
          grouped : (a b c : Bool) → (a || (b || c)) ≡ ((a || b) || c)
          grouped true b c = refl
          grouped false b c = refl

          by : (a b : Bool) → (a ≡ true → is_told m.0 (all_pending now) dry.one ≡ true) → (a || b) ≡ true → (is_told m.0 (all_pending now) dry.one ≡ true) ⊎ (b ≡ true)
          by true b back e = inl (back refl)
          by false b back e = inr e

      -- the message that a memory gets drains its log, or is a receipt
      out_dry : (s : Mem) → x.to ≡ memory m.0 → list_any (is_from dry.one.number.0 m.0) (handled s x).1 ≡ true → (handled s x).0.log ≡ []
      out_dry s to = by (on_its_way now dry.one x may way.healed dry.current way.middle).kind
        where
          drain : (first : List Message) → Among x (messages_of dry.one.by dry.one.number (asks_of (memory_count now.shape) dry.one.operation)) → x.body ≡ body.Drain
          drain first among = one_of (subst (λ (p : Operation). Among x (messages_of dry.one.by dry.one.number (asks_of (memory_count now.shape) p))) operation among)
            where
              one_of : (x ≡ record { from = dry.one.by; to = memory m.0; op = dry.one.number; body = body.Drain }) ⊎ ⊥ → x.body ≡ body.Drain
              one_of (inl e) = ap (λ (y : Message). y.body) e
              one_of (inr nobody) = absurd nobody

          of_open : OfOpen (memory_count now.shape) now.plain x dry.one → list_any (is_from dry.one.number.0 m.0) (handled s x).1 ≡ true → (handled s x).0.log ≡ []
          of_open (First among) = subst (λ (told : Body). list_any (is_from dry.one.number.0 m.0) (handled_body s x told).1 ≡ true → (handled_body s x told).0.log ≡ []) (sym (drain [] among)) (drain_dry dry.one.number.0 m.0 s x fits.some)
          of_open (Reaction from how) = absurd (subst (λ (p : Operation). Reacts (memory_count now.shape) p x.to x.body) operation how)
          of_open (HandedOn how) = absurd (subst (λ (p : Operation). HandsOn (memory_count now.shape) now.plain dry.one.by p x) operation how)
          of_open (AnAnswer back target says) = let both : false ≡ true = ap is_issuer (sym to ∙ back) ∙ fits.by in cc both

          by : Pends None (memory_count now.shape) now.plain (Some dry.one) None now.next x → list_any (is_from dry.one.number.0 m.0) (handled s x).1 ≡ true → (handled s x).0.log ≡ []
          by (OfOperation of) = of_open of.2
          by (OfMove of) = absurd of
          by (OfBackground of) = batch of.batch
            where
              batch : IsBatch x of.of → list_any (is_from dry.one.number.0 m.0) (handled s x).1 ≡ true → (handled s x).0.log ≡ []
              batch (Goes from to' patches is) = let both : memory m.0 ≡ place.Storage = sym to ∙ to' in cc both
              batch (Returns from to' is) = subst (λ (told : Body). list_any (is_from dry.one.number.0 m.0) (handled_body s x told).1 ≡ true → (handled_body s x told).0.log ≡ []) (sym is) (receipt_dry dry.one.number.0 m.0 s x fits.some)
          by (Left old) = let both : false ≡ true = ap is_issuer (sym to) ∙ old.to in cc both

      -- an issuer notes an answer that was on its way, or drops it
      was_on_its_way : x.op.0 ≡ dry.one.number.0 → same_place (memory m.0) x.from ≡ true → is_told m.0 (all_pending now) dry.one ≡ true
      was_on_its_way number from = later (has_answered (memory m.0) dry.one.answers) (any-taken (is_from dry.one.number.0 m.0) (all_pending now) (all_pending (taken now)) x (whole now x may) ∙ ap (λ (b : Bool). b || list_any (is_from dry.one.number.0 m.0) (all_pending (taken now))) own)
        where
          own : is_from dry.one.number.0 m.0 x ≡ true
          own = ap (λ (b : Bool). b && same_place x.from (memory m.0)) (eq-eqb x.op.0 dry.one.number.0 number) ∙ place_sym x.from (memory m.0) ∙ from

          later : (a : Bool) → list_any (is_from dry.one.number.0 m.0) (all_pending now) ≡ true → (a || list_any (is_from dry.one.number.0 m.0) (all_pending now)) ≡ true
          later true e = refl
          later false e = e

      told_noted : x.op.0 ≡ dry.one.number.0 → is_told m.0 (left_of now) (answered dry.one x) ≡ true → is_told m.0 (all_pending now) dry.one ≡ true
      told_noted number e = by (same_place (memory m.0) x.from) refl e
        where
          by : (b : Bool) → same_place (memory m.0) x.from ≡ b → ((b || has_answered (memory m.0) dry.one.answers) || list_any (is_from dry.one.number.0 m.0) (left_of now)) ≡ true → is_told m.0 (all_pending now) dry.one ≡ true
          by true from e = was_on_its_way number from
          by false from e = told_less e

      no_owed : all_pending (taken now) ≡ left_of now
      no_owed = sym left

      issuer_dry : IsDry m.0 (issuer_gets (taken now) x)
      issuer_dry = by (stops x.body)
        where
          as_before : IsDry m.0 (taken now)
          as_before = record { one = dry.one; current = dry.current; unsent = dry.unsent; empty = λ told. dry.empty (told_less (ap (λ (ms : List Message). is_told m.0 ms dry.one) left ∙ told)) }

          reaction_none : reaction_of (patch_of dry.one.operation) x.body ≡ None
          reaction_none = ap (λ (p : Operation). reaction_of (patch_of p) x.body) operation

          answers_dry : x.op.0 ≡ dry.one.number.0 → IsDry m.0 (reacts (taken now) dry.one x (reaction_of (patch_of dry.one.operation) x.body))
          answers_dry number = subst (λ (r : Option Body). IsDry m.0 (reacts (taken now) dry.one x r)) (sym reaction_none) (record {
            one = answered dry.one x;
            current = refl;
            unsent = dry.unsent;
            empty = λ told. dry.empty (told_noted number (ap (λ (ms : List Message). is_told m.0 ms (answered dry.one x)) left ∙ told));
          })

          of_number : (b : Bool) → (x.op.0 == dry.one.number.0) ≡ b → IsDry m.0 (cond b (reacts (taken now) dry.one x (reaction_of (patch_of dry.one.operation) x.body)) (taken now))
          of_number true number = answers_dry (eqb-true x.op.0 dry.one.number.0 number)
          of_number false number = as_before

          by : (b : Bool) → IsDry m.0 (cond b (record (taken now) { stopped = true }) (noted_with (taken now) x now.healing))
          by true = record { one = dry.one; current = dry.current; unsent = dry.unsent; empty = λ told. dry.empty (told_less (ap (λ (ms : List Message). is_told m.0 ms dry.one) left ∙ told)) }
          by false = subst (IsDry m.0) (sym is) (of_number (x.op.0 == dry.one.number.0) refl)
            where
              is : noted_with (taken now) x now.healing ≡ noted (taken now) x (Some dry.one)
              is = ap (noted_with (taken now) x) way.healed ∙ ap (noted (taken now) x) dry.current

      calm_may : MayDeliver (record now { healing = None; current = Some dry.one }) x
      calm_may = subst (λ (p : Option Healing × Option Open). MayDeliver (record now { healing = p.0; current = p.1 }) x) (λ i. (way.healed i, dry.current i)) may

      calm_middle : Middle None (record now { healing = None; current = Some dry.one })
      calm_middle = subst (λ (p : Option Healing × Option Open). Middle None (record now { healing = p.0; current = p.1 })) (λ i. (way.healed i, dry.current i)) way.middle

      from_other : (place_ : Place) (out : List Message) → same_place place_ (memory m.0) ≡ false → AllByRecursion (λ (r : Message). r.from ≡ place_) out → list_any (is_from dry.one.number.0 m.0) out ≡ false
      from_other place_ out apart from = none_of (is_from dry.one.number.0 m.0) out (each out from)
        where
          no : (a b : Bool) → b ≡ false → (a && b) ≡ false
          no true b e = e
          no false b e = refl

          each : (out : List Message) → AllByRecursion (λ (r : Message). r.from ≡ place_) out → AllByRecursion (λ (r : Message). is_from dry.one.number.0 m.0 r ≡ false) out
          each [] all = tt
          each (r ∷ out) all = (no (r.op.0 == dry.one.number.0) (same_place r.from (memory m.0)) (ap (λ (q : Place). same_place q (memory m.0)) all.0 ∙ apart), each out all.1)

      never : {X : Type 0} (b : Bool) → b ≡ false → b ≡ true → X
      never b e f = let both : false ≡ true = sym e ∙ f in cc both

      memory_dry : (k : ℕ) → x.to ≡ memory k → (is_told m.0 (all_pending now) dry.one ≡ true → IsEmptyAt (memory_handles (taken now) k x (slice_get now.mems k)) m.0) → IsDry m.0 (memory_handles (taken now) k x (slice_get now.mems k))
      memory_dry k to = by (slice_get now.mems k) refl
        where
          by : (c : Option Mem) → slice_get now.mems k ≡ c → (is_told m.0 (all_pending now) dry.one ≡ true → IsEmptyAt (memory_handles (taken now) k x c) m.0) → IsDry m.0 (memory_handles (taken now) k x c)
          by None there kept = record { one = dry.one; current = dry.current; unsent = dry.unsent; empty = λ told. kept (told_less (ap (λ (ms : List Message). is_told m.0 ms dry.one) left ∙ told)) }
          by (Some s) there kept = record {
            one = dry.one;
            current = dry.current;
            unsent = dry.unsent;
            empty = λ told. elim (told_split (handled s x).1 told) [
              | inl before ↦ kept before
              | inr sent_now ↦
                  elim (eqb_tells k m.0) [
                    | inl same ↦ (λ y at. ap (λ (z : Mem). z.log) (sym (same_some (handled s x).0 y (sym (get_set now.mems k s (handled s x).0 there) ∙ ap (slice_get (slice_set now.mems k (handled s x).0)) same.1 ∙ at))) ∙ out_dry s (to ∙ ap memory same.1) sent_now)
                    | inr differ ↦ never (list_any (is_from dry.one.number.0 m.0) (handled s x).1) (from_other (memory k) (handled s x).1 differ.0 (row_comes now dry.one x calm_may calm_middle k s to there).from) sent_now
                  ]
            ];
          }

      storage_dry : x.to ≡ place.Storage → IsDry m.0 (record (taken now) { disk = (stored now.disk x).0; owed = (stored now.disk x).1 })
      storage_dry to = record {
        one = dry.one;
        current = dry.current;
        unsent = dry.unsent;
        empty = λ told. elim (told_split (stored now.disk x).1 told) [
          | inl before ↦ dry.empty before
          | inr sent_now ↦ never (list_any (is_from dry.one.number.0 m.0) (stored now.disk x).1) (from_other place.Storage (stored now.disk x).1 refl (file_comes now dry.one x calm_may calm_middle to).from) sent_now
        ];
      }

      deliver_dry : IsDry m.0 (comes (taken now) x x.to)
      deliver_dry = by x.to refl (λ told. stays_empty (dry.empty told))
        where
          by : (to : Place) → x.to ≡ to → (is_told m.0 (all_pending now) dry.one ≡ true → IsEmptyAt (comes (taken now) x to) m.0) → IsDry m.0 (comes (taken now) x to)
          by (Processor cpu) is kept = issuer_dry
          by (Memory number) is kept = memory_dry number.0 is kept
          by Storage is kept = storage_dry is
          by Manager is kept = issuer_dry

  step : (now : Track) (e : Event) → May now e → IsOfMessages e → Way t o rest now → IsDry m.0 now → IsDry m.0 (after now e)
  step now (Send x) may of way dry = send_dry now way dry x may
  step now (Deliver x) may of way dry = deliver_dry now way dry x may
  step now (Turn number pid) may of way dry = absurd of
  step now (Access cpu pid address kind bytes) may of way dry = absurd of
  step now (Fill pid address bytes) may of way dry = absurd of
  step now (Drop cpu pid line) may of way dry = absurd of
  step now (Crash number inc) may of way dry = absurd of
  step now (Complete number) may of way dry = absurd of
  step now (Out stream bytes) may of way dry = absurd of

  -- AT ITS FIRST MESSAGE nothing with its number is pending but that
  module _ (at_rest : AtRest t) (due : t.due ≡ Call o ∷ rest) (granted : Granted t o.by o.operation (owners_with o t.owners)) where
    base : (x : Message) → May t (Send x) → IsDry m.0 (after t (Send x))
    base x may = subst (IsDry m.0) (sym begun) (record {
      one = record (opened t.shape t.next o.by o.operation) { unsent = drop 1 (opened t.shape t.next o.by o.operation).unsent };
      current = refl;
      unsent = ap (λ (p : Operation). drop 1 (messages_of o.by (record { 0 = t.next }) (asks_of (memory_count t.shape) p))) drains;
      empty = λ told. never_told told;
    })
      where
        begun : sent t x t.owed t.healing t.current ≡ begins t x (Call o ∷ rest)
        begun = (λ i. sent t x (at_rest.owed i) (at_rest.healed i) (at_rest.closed i)) ∙ ap (begins t x) due

        is_first : IsFirst x (messages_of o.by (record { 0 = t.next }) (asks_of (memory_count t.shape) o.operation))
        is_first = (subst (λ (d : List Mark). MayBegin t x d) due (subst (λ (p : List Message × Option Healing × Option Open). MaySend t x p.0 p.1 p.2) (λ i. (at_rest.owed i, at_rest.healed i, at_rest.closed i)) may).1).0

        from : x.from ≡ o.by
        from = first (subst (λ (p : Operation). IsFirst x (messages_of o.by (record { 0 = t.next }) (asks_of (memory_count t.shape) p))) drains is_first)
          where
            first : x ≡ record { from = o.by; to = memory m.0; op = record { 0 = t.next }; body = body.Drain } → x.from ≡ o.by
            first e = ap (λ (y : Message). y.from) e

        not_memory : (by : Place) → is_issuer by ≡ true → same_place by (memory m.0) ≡ false
        not_memory (Processor cpu) e = refl
        not_memory (Memory q) e = cc e
        not_memory Storage e = cc e
        not_memory Manager e = refl

        old_number : (y : Message) → MayPend None (memory_count t.shape) t.plain None None t.next y → is_from t.next m.0 y ≡ false
        old_number y pend = by pend.kind
          where
            less : y.op.0 < t.next → is_from t.next m.0 y ≡ false
            less below = ap (λ (b : Bool). b && same_place y.from (memory m.0)) (ne_eqb y.op.0 t.next (λ same. omega (arith, below, same)))

            by : Pends None (memory_count t.shape) t.plain None None t.next y → is_from t.next m.0 y ≡ false
            by (OfOperation of) = absurd of
            by (OfMove of) = absurd of
            by (OfBackground of) = let zero_ : y.op.0 ≡ 0 = of.number in let some = at_rest.next in less (omega (arith, zero_, some))
            by (Left old) = less old.below

        none_of_net : (ms : List Message) → AllByRecursion (MayPend None (memory_count t.shape) t.plain None None t.next) ms → AllByRecursion (λ (y : Message). is_from t.next m.0 y ≡ false) ms
        none_of_net [] all = tt
        none_of_net (y ∷ ms) all = (old_number y all.0, none_of_net ms all.1)

        no : (a b : Bool) → b ≡ false → (a && b) ≡ false
        no true b e = e
        no false b e = refl

        none_told : list_any (is_from t.next m.0) ((t.net ++ x ∷ []) ++ t.owed) ≡ false
        none_told =
            ap (λ (ms : List Message). list_any (is_from t.next m.0) ((t.net ++ x ∷ []) ++ ms)) at_rest.owed
            ∙ ap (list_any (is_from t.next m.0)) (append-nil (t.net ++ x ∷ []))
            ∙ list_any-append (is_from t.next m.0) t.net (x ∷ [])
            ∙ ap (λ (b : Bool). b || (is_from t.next m.0 x || false)) (none_of (is_from t.next m.0) t.net (none_of_net t.net at_rest.pending))
            ∙ ap (λ (b : Bool). b || false) (no (x.op.0 == t.next) (same_place x.from (memory m.0)) (ap (λ (q : Place). same_place q (memory m.0)) from ∙ not_memory o.by granted.issuer))

        never_told : list_any (is_from t.next m.0) ((t.net ++ x ∷ []) ++ t.owed) ≡ true → IsEmptyAt (begins t x (Call o ∷ rest)) m.0
        never_told told = let both : false ≡ true = sym none_told ∙ told in cc both

pub drains-empty : DrainsEmpty
drains-empty t o rest events op m is legal all drains =
    let end = along t o rest (IsDry m.0) is.rests is.due is.granted (base t o rest m drains is.rests is.due is.granted) (step t o rest m drains) events op legal all in
    subst (λ (x : Track). IsEmptyAt x m.0) (sym end.4) (λ s at. emptied end.0 end.1 end.2 end.3 s (ap (λ (mems : List Mem). slice_get mems m.0) (sym (ended_mems end.0 op end.1.healed)) ∙ at))
  where
    emptied : (last : Track) → Way t o rest last → IsDry m.0 last → May last (Complete op) → IsEmptyAt last m.0
    emptied last way dry may = dry.empty (ap (λ (b : Bool). b || list_any (is_from dry.one.number.0 m.0) (all_pending last)) answered_)
      where
        done : (x : Open) × (last.current ≡ Some x) × (is_complete last.net x ≡ true)
        done = complete_one last.net last.current op (ap (λ (h : Option Healing). done_or last.net (healing_move h) (done_or last.net last.current None)) (sym way.healed) ∙ may.complete)

        same_open : (a b : Open) → Some a ≡ Some b → a ≡ b
        same_open a b e = cc e

        complete : is_complete last.net dry.one ≡ true
        complete = subst (λ (x : Open). is_complete last.net x ≡ true) (same_open done.0 dry.one (sym done.1 ∙ dry.current)) done.2

        answered_ : has_answered (memory m.0) dry.one.answers ≡ true
        answered_ = target_answered (memory m.0) dry.one.targets dry.one.answers (ap (is_among (memory m.0)) targets ∙ alone m.0) (both_true (all_answered dry.one.targets dry.one.answers) _ complete).0
          where
            fits_ : OpenFits (memory_count last.shape) last.owners last.plain last.next dry.one
            fits_ = (subst (CurrentFits last) dry.current way.middle.current).0

            targets : dry.one.targets ≡ memory m.0 ∷ []
            targets = fits_.targets ∙ ap (targets_of (memory_count last.shape)) (ap (λ (x : Open). x.operation) (sym (same_open way.stands.one dry.one (sym way.stands.current ∙ dry.current))) ∙ way.stands.operation ∙ drains)
