-- A drain leaves the log of its memory empty, whatever crashes and is healed on the way.
use Rattle.std.proofs.Common.{◌≡◌, ◌⊎◌, ◌<◌, ◌==◌, ◌&&◌, ◌||◌, [], ◌∷◌, ◌++◌, ◌∙◌, ℕ, Bool, List, None, Option, Some, ap, append-nil, append_assoc, arith, cond, drop, false, inl, inr, leb, length, refl, slice_get, subst, sym, true}
use Rattle.std.proofs.lemmas.Bool.{eq-eqb, eqb-true, ne_eqb}
use Rattle.std.proofs.lemmas.Bool.Decides.{eqb_tells}
use Rattle.std.proofs.lemmas.List.Folds.{list_any-append}
use Rattle.std.specs.List.{AllByRecursion, list_any}
use Rattle.std.specs.Prelude.{slice_set}
use Rattle.lego_base.specs.declared.ids.MemId.{MemId}
use Rattle.lego_base.specs.declared.ids.OpNo.{OpNo}
use Rattle.lego_base.specs.declared.records.HomeEntry.{HomeEntry}
use Rattle.lego_msg.proofs.Senders.{get_set, same_some}
use Rattle.lego_msg.specs.Completions.{MayComplete, completed, completed_beside, finished, move_finished, sent_again}
use Rattle.lego_msg.specs.Crashes.{crashed, forgotten}
use Rattle.lego_msg.specs.Deliveries.{MayDeliver, answered, comes, issuer_gets, memory_handles, noted, noted_by_move, noted_with, reaction_of, reacts, stops, taken}
use Rattle.lego_msg.specs.Legal.{Legal, May}
use Rattle.lego_msg.specs.Maps.{with_pages}
use Rattle.lego_msg.specs.Marks.{Call, Mark, Order}
use Rattle.lego_msg.specs.Operations.{asks_of, is_write, messages_of, patch_of, targets_of}
use Rattle.lego_msg.specs.Places.{is_among, is_issuer, lose, memory, same_place}
use Rattle.lego_msg.specs.Run.{after, run}
use Rattle.lego_msg.specs.Sends.{IsFirst, IsMove, MayBegin, MaySend, begins, move_begins, sent}
use Rattle.lego_msg.specs.State.{Mem}
use Rattle.lego_msg.specs.Table.{handled, handled_body, stored}
use Rattle.lego_msg.specs.Track.{Track, all_answered, forget, has_answered, healing_move, is_complete, memory_count}
use Rattle.lego_msg.specs.declared.body.Body.{Body}
use Rattle.lego_msg.specs.declared.event.Event.{Event}
use Rattle.lego_msg.specs.declared.event.Event.TheVariants.{Access, Complete, Crash, Deliver, Drop, Fill, Out, Send, Turn}
use Rattle.lego_msg.specs.declared.healing.Healing.{Healing}
use Rattle.lego_msg.specs.declared.healing.Move.{Move}
use Rattle.lego_msg.specs.declared.healing.Move.TheVariants.{Asks, HandsImages, HandsMeta, HandsPages}
use Rattle.lego_msg.specs.declared.message.Message.{Message}
use Rattle.lego_msg.specs.declared.operation.Answer.{Answer}
use Rattle.lego_msg.specs.declared.operation.Open.{Open}
use Rattle.lego_msg.specs.declared.operation.Operation.{Operation}
use Rattle.lego_msg.specs.declared.operation.Operation.TheVariants.{Drains}
use Rattle.lego_msg.specs.declared.place.Place.{Place}
use Rattle.lego_msg.specs.declared.place.Place.TheVariants.{Manager, Memory, Processor, Storage}
use Rattle.lego_msg.specs.declared.place.Role.TheVariants.{Main, Spare}
use Rattle.lego_rest.specs.Answers.{all_pending}
use Rattle.lego_rest.specs.Fits.{OpenFits}
use Rattle.lego_rest.specs.Heals.{HandsOver, HealFits, NumbersDiffer, scene_of}
use Rattle.lego_rest.specs.Parts.{Sides}
use Rattle.lego_rest.specs.Pending.{Among, AnAnswer, First, Goes, HandedOn, HandsOn, IsBatch, IsOf, IsOfMove, Left, MayPend, OfBackground, OfMove, OfOpen, OfOperation, Pends, Reaction, Reacts, Returns}
use Rattle.lego_rest.specs.Rest.{CurrentFits}
use Rattle.rest_laws.proofs.Bare.{calm_on}
use Rattle.rest_laws.proofs.Delivered.{left_of, none_of}
use Rattle.rest_laws.proofs.Dried.{drain_dry, is_from, is_told, receipt_dry}
use Rattle.rest_laws.proofs.Ended.{target_answered}
use Rattle.rest_laws.proofs.Net.{any-taken}
use Rattle.rest_laws.proofs.Noted.{eqb_sym, place_sym}
use Rattle.rest_laws.proofs.Opened.{every}
use Rattle.rest_laws.proofs.Taken.{all_taken, any_less, whole}
use Rattle.rest_laws.proofs.Truth.{both_true}
use Rattle.rest_laws.proofs.kinds.Asking.{alone}
use Rattle.rest_laws.specs.GoingOn.{IsDue}
use Rattle.rest_laws.specs.Logs.{IsEmptyAt}
use Rattle.healing_laws.proofs.Emptying.{delivered_empty, empty_after, lost_at, stands_unwritten}
use Rattle.healing_laws.proofs.LeadsBack.{Ends, IsDone, IsOpen, Shrinks, StandsSo, Stays, Steps, Way, completed_due, completed_steps, list_never_grows, operation_in, sets_out, step}
use Rattle.healing_laws.proofs.MoveSteps.{its_message, the_way}
use Rattle.healing_laws.proofs.MovesAre.{AskIs, MoveIs, OfImages, OfLog, OfMain, OfPages, OfSpare}
use Rattle.healing_laws.proofs.Origins.{AllFrom, memory_sends, storage_sends}
use Rattle.healing_laws.specs.Emptying.{DrainsEmptyThere}
use Rattle.healing_laws.specs.Running.{InRelation, IsOver, lost_in}
use Rattle.lego_msg.specs.declared.body.Body.TheVariants as body
use Rattle.lego_msg.specs.declared.place.Place.TheVariants as place
use Rattle.lego_msg.specs.declared.place.Why.TheVariants as why

abbrev Empty : ℕ → List Mem → Type 0
Empty d mems = (s : Mem) → slice_get mems d ≡ Some s → s.log ≡ []

-- WHERE MEMORY d HAS ANSWERED its log is empty, and so it is once nothing is open
abbrev pub DryIn : ℕ → List Message → List Mem → Option Open → Type 0
DryIn d pending mems None = Empty d mems
DryIn d pending mems (Some one) = is_told d pending one ≡ true → Empty d mems

abbrev pub Dry : ℕ → Track → Type 0
Dry d t = DryIn d (all_pending t) t.mems t.current

never : {X : Type 0} (b : Bool) → b ≡ false → b ≡ true → X
never b e f = let both : false ≡ true = sym e ∙ f in cc both

-- more messages, none of them from d, and fewer
more_less : (P : Message → Bool) (net owed : List Message) (m : Message) → P m ≡ false → list_any P ((net ++ m ∷ []) ++ owed) ≡ true → list_any P (net ++ owed) ≡ true
more_less P [] owed m none e = by (P m) none e
  where
    by : (b : Bool) → b ≡ false → (b || list_any P owed) ≡ true → list_any P owed ≡ true
    by true none e = cc none
    by false none e = e
more_less P (x ∷ net) owed m none e = by (P x) e (more_less P net owed m none)
  where
    by : (b : Bool) → (b || list_any P ((net ++ m ∷ []) ++ owed)) ≡ true → (list_any P ((net ++ m ∷ []) ++ owed) ≡ true → list_any P (net ++ owed) ≡ true) → (b || list_any P (net ++ owed)) ≡ true
    by true e rest = refl
    by false e rest = rest e

told_by : (d : ℕ) (pending pending' : List Message) (one : Open) → (list_any (is_from one.number.0 d) pending' ≡ true → list_any (is_from one.number.0 d) pending ≡ true) → is_told d pending' one ≡ true → is_told d pending one ≡ true
told_by d pending pending' one less e = by (has_answered (memory d) one.answers) e
  where
    by : (a : Bool) → (a || list_any (is_from one.number.0 d) pending') ≡ true → (a || list_any (is_from one.number.0 d) pending) ≡ true
    by true e = refl
    by false e = less e

issuer_no_memory : (p : Place) (d : ℕ) → is_issuer p ≡ true → same_place p (memory d) ≡ false
issuer_no_memory (Processor cpu) d e = refl
issuer_no_memory (Memory q) d e = cc e
issuer_no_memory Storage d e = cc e
issuer_no_memory Manager d e = refl

not_from : (number d : ℕ) (m : Message) → same_place m.from (memory d) ≡ false → is_from number d m ≡ false
not_from number d m e = by (m.op.0 == number) (same_place m.from (memory d)) e
  where
    by : (a b : Bool) → b ≡ false → (a && b) ≡ false
    by true b e = e
    by false b e = refl

none_from : (number d : ℕ) (p : Place) (out : List Message) → same_place p (memory d) ≡ false → AllFrom p out → list_any (is_from number d) out ≡ false
none_from number d p out apart from = none_of (is_from number d) out (each out from)
  where
    each : (out : List Message) → AllFrom p out → AllByRecursion (λ (r : Message). is_from number d r ≡ false) out
    each [] all = tt
    each (r ∷ out) all = (not_from number d r (ap (λ (q : Place). same_place q (memory d)) all.0 ∙ apart), each out all.1)

-- A MOVE'S MESSAGE at d sends nothing with the open number but from an empty log
one_other : (number d : ℕ) (op : OpNo) (from : Place) (P : Type 0) → (op.0 == number) ≡ false → ((op.0 == number && same_place from (memory d)) || false) ≡ true → P
one_other number d op from P e told = never ((op.0 == number && same_place from (memory d)) || false) (ap (λ (b : Bool). (b && same_place from (memory d)) || false) e) told

abbrev RowDry : ℕ → ℕ → Mem → Message → Body → Type 0
RowDry number d s m told = list_any (is_from number d) (handled_body s m told).1 ≡ true → (handled_body s m told).0.log ≡ []

asked_dry : (number d n c : ℕ) (owners : List HomeEntry) (s : Mem) (m : Message) (to : Place) (what : Body) → 0 < number → (m.op.0 == number) ≡ false → AskIs n c owners to what → RowDry number d s m what
asked_dry number d n c owners s m to what some apart (OfLog e at) = subst (RowDry number d s m) (sym e) (drain_dry number d s m some)
asked_dry number d n c owners s m to what some apart (OfSpare who e at) = subst (RowDry number d s m) (sym e) (one_other number d m.op (memory s.id) _ apart)
asked_dry number d n c owners s m to what some apart (OfMain who e at) = subst (RowDry number d s m) (sym e) (one_other number d m.op (memory s.id) _ apart)
asked_dry number d n c owners s m to what some apart (OfImages pid region e at mine) = subst (RowDry number d s m) (sym e) (λ told. cc told)
asked_dry number d n c owners s m to what some apart (OfPages pid region e at mine) = subst (RowDry number d s m) (sym e) (one_other number d m.op (memory s.id) _ apart)

told_dry : (number d n c : ℕ) (w : Sides) (owners : List HomeEntry) (s : Mem) (m : Message) (move : Move) (told : Body) → 0 < number → (m.op.0 == number) ≡ false → MoveIs n c owners move → HandsOver w c move told → RowDry number d s m told
told_dry number d n c w owners s m (Asks to what) told some apart is hands = subst (RowDry number d s m) (sym hands) (asked_dry number d n c owners s m to what some apart is)
told_dry number d n c w owners s m (HandsMeta to Main) told some apart is hands = subst (RowDry number d s m) (sym hands.1) (one_other number d m.op (memory s.id) _ apart)
told_dry number d n c w owners s m (HandsMeta to Spare) told some apart is hands = subst (RowDry number d s m) (sym hands.1) (one_other number d m.op (memory s.id) _ apart)
told_dry number d n c w owners s m (HandsImages to pid region) told some apart is hands = subst (RowDry number d s m) (sym hands.1) (by (leb (length (with_pages pid.0 region.0 hands.0 s.pages)) s.frames))
  where
    by : (b : Bool) → list_any (is_from number d) (cond {A = Mem × List Message} b (record s { pages = with_pages pid.0 region.0 hands.0 s.pages }, record { from = memory s.id; to = m.from; op = m.op; body = body.Done } ∷ []) (s, record { from = memory s.id; to = m.from; op = m.op; body = body.Refused why.Full } ∷ [])).1 ≡ true → (cond {A = Mem × List Message} b (record s { pages = with_pages pid.0 region.0 hands.0 s.pages }, record { from = memory s.id; to = m.from; op = m.op; body = body.Done } ∷ []) (s, record { from = memory s.id; to = m.from; op = m.op; body = body.Refused why.Full } ∷ [])).0.log ≡ []
    by true = one_other number d m.op (memory s.id) _ apart
    by false = one_other number d m.op (memory s.id) _ apart
told_dry number d n c w owners s m (HandsPages pid region) told some apart is hands = subst (RowDry number d s m) (sym hands.1) (λ told. cc told)

-- EVERY EVENT on the way of the drain keeps it
module _ (d : MemId) (now : Track) (middle : InRelation now) (one : Open) (current : now.current ≡ Some one) (drains : one.operation ≡ Drains d) (dry : is_told d.0 (all_pending now) one ≡ true → Empty d.0 now.mems) where
  fits : OpenFits (memory_count now.shape) now.owners now.plain now.next one
  fits = (subst (CurrentFits now) current middle.current).0

  dry_to : (pending : List Message) (mems : List Mem) → (is_told d.0 pending one ≡ true → Empty d.0 mems) → DryIn d.0 pending mems now.current
  dry_to pending mems this = subst (DryIn d.0 pending mems) (sym current) this

  -- DELIVERIES
  module _ (x : Message) (may : MayDeliver now x) where
    left : left_of now ≡ all_pending (taken now)
    left = sym (ap (λ (ms : List Message). left_of now ++ ms) may.owed ∙ append-nil (left_of now))

    told_less : is_told d.0 (left_of now) one ≡ true → is_told d.0 (all_pending now) one ≡ true
    told_less = told_by d.0 (all_pending now) (left_of now) one (λ e. any_less (is_from one.number.0 d.0) (all_pending now) (all_pending (taken now)) x (whole now x may) (ap (list_any (is_from one.number.0 d.0)) (sym left) ∙ e))

    told_split : (out : List Message) → is_told d.0 (left_of now ++ out) one ≡ true → (is_told d.0 (all_pending now) one ≡ true) ⊎ (list_any (is_from one.number.0 d.0) out ≡ true)
    told_split out e = by (is_told d.0 (left_of now) one) (list_any (is_from one.number.0 d.0) out) told_less (sym (grouped (has_answered (memory d.0) one.answers) (list_any (is_from one.number.0 d.0) (left_of now)) (list_any (is_from one.number.0 d.0) out)) ∙ ap (λ (b : Bool). has_answered (memory d.0) one.answers || b) (sym (list_any-append (is_from one.number.0 d.0) (left_of now) out)) ∙ e)
      where
        grouped : (a b c : Bool) → (a || (b || c)) ≡ ((a || b) || c)
        grouped true b c = refl
        grouped false b c = refl

        by : (a b : Bool) → (a ≡ true → is_told d.0 (all_pending now) one ≡ true) → (a || b) ≡ true → (is_told d.0 (all_pending now) one ≡ true) ⊎ (b ≡ true)
        by true b back e = inl (back refl)
        by false b back e = inr e

    taken_dry : DryIn d.0 (left_of now ++ now.owed) now.mems now.current
    taken_dry = dry_to (left_of now ++ now.owed) now.mems (λ told. dry (told_less (ap (λ (ms : List Message). is_told d.0 ms one) left ∙ told)))

    -- an issuer notes an answer that was on its way
    was_on_its_way : x.op.0 ≡ one.number.0 → same_place (memory d.0) x.from ≡ true → is_told d.0 (all_pending now) one ≡ true
    was_on_its_way number from = later (has_answered (memory d.0) one.answers) (any-taken (is_from one.number.0 d.0) (all_pending now) (all_pending (taken now)) x (whole now x may) ∙ ap (λ (b : Bool). b || list_any (is_from one.number.0 d.0) (all_pending (taken now))) own)
      where
        own : is_from one.number.0 d.0 x ≡ true
        own = ap (λ (b : Bool). b && same_place x.from (memory d.0)) (eq-eqb x.op.0 one.number.0 number) ∙ place_sym x.from (memory d.0) ∙ from

        later : (a : Bool) → list_any (is_from one.number.0 d.0) (all_pending now) ≡ true → (a || list_any (is_from one.number.0 d.0) (all_pending now)) ≡ true
        later true e = refl
        later false e = e

    told_noted : x.op.0 ≡ one.number.0 → is_told d.0 (left_of now) (answered one x) ≡ true → is_told d.0 (all_pending now) one ≡ true
    told_noted number e = by (same_place (memory d.0) x.from) refl e
      where
        by : (b : Bool) → same_place (memory d.0) x.from ≡ b → ((b || has_answered (memory d.0) one.answers) || list_any (is_from one.number.0 d.0) (left_of now)) ≡ true → is_told d.0 (all_pending now) one ≡ true
        by true from e = was_on_its_way number from
        by false from e = told_less e

    noted_dry : Dry d.0 (noted (taken now) x now.current)
    noted_dry = subst (λ (c : Option Open). Dry d.0 (noted (taken now) x c)) (sym current) (by (x.op.0 == one.number.0) refl)
      where
        none : reaction_of (patch_of one.operation) x.body ≡ None
        none = ap (λ (p : Operation). reaction_of (patch_of p) x.body) drains

        by : (b : Bool) → (x.op.0 == one.number.0) ≡ b → Dry d.0 (cond b (reacts (taken now) one x (reaction_of (patch_of one.operation) x.body)) (taken now))
        by true number = subst (λ (r : Option Body). Dry d.0 (reacts (taken now) one x r)) (sym none) (λ told. dry (told_noted (eqb-true x.op.0 one.number.0 number) (ap (λ (ms : List Message). is_told d.0 ms (answered one x)) left ∙ told)))
        by false number = taken_dry

    beside_dry : (g : Option Healing) → Dry d.0 (noted_with (taken now) x g)
    beside_dry None = noted_dry
    beside_dry (Some h) = by h.current
      where
        by : (move : Option Open) → Dry d.0 (noted_by_move (taken now) x h move)
        by None = noted_dry
        by (Some o) = under (x.op.0 == o.number.0)
          where
            under : (b : Bool) → Dry d.0 (cond b (record (taken now) { healing = Some (record h { current = Some (record o { answers = record { place = x.from; body = x.body } ∷ o.answers }) }) }) (noted (taken now) x now.current))
            under true = taken_dry
            under false = noted_dry

    issuer_dry : Dry d.0 (issuer_gets (taken now) x)
    issuer_dry = by (stops x.body)
      where
        by : (b : Bool) → Dry d.0 (cond b (record (taken now) { stopped = true }) (noted_with (taken now) x now.healing))
        by true = taken_dry
        by false = beside_dry now.healing

    -- what d sends with the open number it sends from an empty log
    out_dry : (s : Mem) → x.to ≡ memory d.0 → RowDry one.number.0 d.0 s x x.body
    out_dry s to = by pend.kind
      where
        pend : MayPend (lost_in now.healing) (memory_count now.shape) now.plain now.current (healing_move now.healing) now.next x
        pend = (all_taken (MayPend (lost_in now.healing) (memory_count now.shape) now.plain now.current (healing_move now.healing) now.next) (all_pending now) (all_pending (taken now)) x (whole now x may) middle.pending).0

        drain : Among x (messages_of one.by one.number (asks_of (memory_count now.shape) one.operation)) → x.body ≡ body.Drain
        drain among = one_of (subst (λ (p : Operation). Among x (messages_of one.by one.number (asks_of (memory_count now.shape) p))) drains among)
          where
            one_of : (x ≡ record { from = one.by; to = memory d.0; op = one.number; body = body.Drain }) ⊎ ⊥ → x.body ≡ body.Drain
            one_of (inl e) = ap (λ (y : Message). y.body) e
            one_of (inr nobody) = absurd nobody

        of_open : OfOpen (memory_count now.shape) now.plain x one → RowDry one.number.0 d.0 s x x.body
        of_open (First among) = subst (RowDry one.number.0 d.0 s x) (sym (drain among)) (drain_dry one.number.0 d.0 s x fits.some)
        of_open (Reaction from how) = absurd (subst (λ (p : Operation). Reacts (memory_count now.shape) p x.to x.body) drains how)
        of_open (HandedOn how) = absurd (subst (λ (p : Operation). HandsOn (memory_count now.shape) now.plain one.by p x) drains how)
        of_open (AnAnswer back target says) = let both : false ≡ true = ap is_issuer (sym to ∙ back) ∙ fits.by in cc both

        of_move : IsOfMove x (healing_move now.healing) → RowDry one.number.0 d.0 s x x.body
        of_move of = healing now.healing refl of
          where
            healing : (g : Option Healing) → now.healing ≡ g → IsOfMove x (healing_move g) → RowDry one.number.0 d.0 s x x.body
            healing None heals of = absurd of
            healing (Some h) heals of = under h.current refl of
              where
                under : (c : Option Open) → h.current ≡ c → IsOfMove x c → RowDry one.number.0 d.0 s x x.body
                under None runs of = absurd of
                under (Some o) runs of =
                    let way = the_way (lost_in now.healing) now x may middle h heals o runs of.0 in
                    let its = its_message (lost_in now.healing) now x may middle h heals o runs of.0 (ap is_issuer to) in
                    let holds = (subst (HealFits (lost_in now.healing) now) heals middle.healing).1 (calm_on now may.calm) in
                    let differ : (one.number.0 == o.number.0) ≡ false = subst (λ (p : Option Open × Option Open). NumbersDiffer p.0 p.1) (λ i. (current i, runs i)) holds.apart in
                    let apart : (x.op.0 == one.number.0) ≡ false = ap (λ (k : ℕ). k == one.number.0) of.0 ∙ eqb_sym o.number.0 one.number.0 ∙ differ in
                    told_dry one.number.0 d.0 (memory_count now.shape) h.memory.0 (scene_of now).sides now.owners s x way.move x.body fits.some apart way.of (subst (HandsOver (scene_of now).sides h.memory.0 way.move) (sym its.2) way.fits.hands)

        batch : (j : ℕ) → IsBatch x j → RowDry one.number.0 d.0 s x x.body
        batch j (Goes from to' patches is) = let both : memory d.0 ≡ place.Storage = sym to ∙ to' in cc both
        batch j (Returns from to' is) = subst (RowDry one.number.0 d.0 s x) (sym is) (receipt_dry one.number.0 d.0 s x fits.some)

        of_current : (c : Option Open) → c ≡ Some one → IsOf (lost_in now.healing) (memory_count now.shape) now.plain x c → OfOpen (memory_count now.shape) now.plain x one
        of_current c is of = (subst (IsOf (lost_in now.healing) (memory_count now.shape) now.plain x) is of).2

        by : Pends (lost_in now.healing) (memory_count now.shape) now.plain now.current (healing_move now.healing) now.next x → RowDry one.number.0 d.0 s x x.body
        by (OfOperation of) = of_open (of_current now.current current of)
        by (OfMove of) = of_move of
        by (OfBackground of) = batch of.of of.batch
        by (Left old) = let both : false ≡ true = ap is_issuer (sym to) ∙ old.to in cc both

    memory_dry : (k : ℕ) → x.to ≡ memory k → (c : Option Mem) → slice_get now.mems k ≡ c → (is_told d.0 (all_pending now) one ≡ true → Empty d.0 (memory_handles (taken now) k x c).mems) → Dry d.0 (memory_handles (taken now) k x c)
    memory_dry k to None there kept = taken_dry
    memory_dry k to (Some s) there kept = dry_to (left_of now ++ (handled s x).1) (slice_set now.mems k (handled s x).0) (λ told. elim (told_split (handled s x).1 told) [
      | inl before ↦ kept before
      | inr sent_now ↦
          elim (eqb_tells k d.0) [
            | inl same ↦ (λ y at. ap (λ (z : Mem). z.log) (sym (same_some (handled s x).0 y (sym (get_set now.mems k s (handled s x).0 there) ∙ ap (slice_get (slice_set now.mems k (handled s x).0)) same.1 ∙ at))) ∙ out_dry s (to ∙ ap memory same.1) sent_now)
            | inr differ ↦ never (list_any (is_from one.number.0 d.0) (handled s x).1) (none_from one.number.0 d.0 (memory s.id) (handled s x).1 (ap (λ (j : ℕ). j == d.0) (middle.forms k s there).id ∙ differ.0) (memory_sends s x x.body)) sent_now
          ]
    ])

    storage_dry : DryIn d.0 (left_of now ++ (stored now.disk x).1) now.mems now.current
    storage_dry = dry_to (left_of now ++ (stored now.disk x).1) now.mems (λ told. elim (told_split (stored now.disk x).1 told) [
      | inl before ↦ dry before
      | inr sent_now ↦ never (list_any (is_from one.number.0 d.0) (stored now.disk x).1) (none_from one.number.0 d.0 place.Storage (stored now.disk x).1 refl (storage_sends now.disk x x.body)) sent_now
    ])

    deliver_dry : (is_told d.0 (all_pending now) one ≡ true → IsEmptyAt (comes (taken now) x x.to) d.0) → Dry d.0 (comes (taken now) x x.to)
    deliver_dry kept = by x.to refl kept
      where
        by : (to : Place) → x.to ≡ to → (is_told d.0 (all_pending now) one ≡ true → IsEmptyAt (comes (taken now) x to) d.0) → Dry d.0 (comes (taken now) x to)
        by (Processor cpu) is kept = issuer_dry
        by (Memory k) is kept = memory_dry k.0 is (slice_get now.mems k.0) refl kept
        by Storage is kept = storage_dry
        by Manager is kept = issuer_dry

  -- SENDS
  sent_dry : (m : Message) → MaySend now m now.owed now.healing now.current → Dry d.0 (sent now m now.owed now.healing now.current)
  sent_dry m may = by now.owed now.healing refl may
    where
      one_more : same_place m.from (memory d.0) ≡ false → is_told d.0 ((now.net ++ m ∷ []) ++ now.owed) one ≡ true → is_told d.0 (all_pending now) one ≡ true
      one_more apart = told_by d.0 (all_pending now) ((now.net ++ m ∷ []) ++ now.owed) one (more_less (is_from one.number.0 d.0) now.net now.owed m (not_from one.number.0 d.0 m apart))

      moved : (h : Healing) (c : Option Open) (moves : List Move) → IsMove now m h c moves → Dry d.0 (move_begins now m h moves)
      moved h (Some o) moves is = absurd is
      moved h None [] is = absurd is
      moved h None (move ∷ moves) is = dry_to ((now.net ++ m ∷ []) ++ now.owed) now.mems (λ told. dry (one_more (ap (λ (y : Message). same_place y.from (memory d.0)) is) told))

      opened_first : (ms : List Message) → (first : AllByRecursion (λ (y : Message). y.from ≡ one.by) ms) → IsFirst m ms → m.from ≡ one.by
      opened_first [] first is = absurd is
      opened_first (y ∷ ms) first is = ap (λ (z : Message). z.from) is ∙ first.0

      open_dry : (c : Option Open) → c ≡ Some one → MaySend now m [] None c → Dry d.0 (sent now m [] None c)
      open_dry None is may = cc is
      open_dry (Some p) is may = λ told. dry (one_more (ap (λ (q : Place). same_place q (memory d.0)) from ∙ issuer_no_memory one.by d.0 fits.by) (subst (λ (q : Open). is_told d.0 ((now.net ++ m ∷ []) ++ now.owed) (record q { unsent = drop 1 q.unsent }) ≡ true) same told))
        where
          same : p ≡ one
          same = cc is

          unsent_from : (front ms : List Message) → AllByRecursion (λ (y : Message). y.from ≡ one.by) (front ++ ms) → AllByRecursion (λ (y : Message). y.from ≡ one.by) ms
          unsent_from [] ms all = all
          unsent_from (y ∷ front) ms all = unsent_from front ms all.1

          from : m.from ≡ one.by
          from = opened_first one.unsent (unsent_from fits.sent.0 one.unsent (subst (AllByRecursion (λ (y : Message). y.from ≡ one.by)) (sym fits.sent.1) (subst (λ (q : Operation). AllByRecursion (λ (y : Message). y.from ≡ one.by) (messages_of one.by one.number (asks_of (memory_count now.shape) q))) (sym drains) (refl, tt)))) (subst (λ (q : Open). IsFirst m q.unsent) same may.1)

      by : (owed : List Message) (h : Option Healing) → now.owed ≡ owed → MaySend now m owed h now.current → Dry d.0 (sent now m owed h now.current)
      by (y ∷ more) h owing may = dry_to ((now.net ++ m ∷ []) ++ more) now.mems (λ told. dry (ap (λ (ms : List Message). is_told d.0 ms one) (ap (λ (ms : List Message). now.net ++ ms) owing ∙ sym (ap (λ (z : Message). (now.net ++ z ∷ []) ++ more) may ∙ append_assoc now.net (y ∷ []) more)) ∙ told))
      by [] (Some h) owing may = moved h h.current h.moves may.1
      by [] None owing may = open_dry now.current current may

  -- CRASHES
  crash_dry : (number : MemId) → Dry d.0 (crashed now number.0)
  crash_dry number = subst (λ (c : Option Open). DryIn d.0 (lose (memory number.0) now.net ++ now.owed) (crashed now number.0).mems (forgotten (memory number.0) c)) (sym current) (λ told. lost_at now.mems number.0 d.0 (λ (s : Mem). s.log ≡ []) (λ s. refl) (dry (less told)) (slice_get now.mems number.0) refl)
    where
      forget_less : (p q : Place) (answers : List Answer) → has_answered p (forget q answers) ≡ true → has_answered p answers ≡ true
      forget_less p q [] e = e
      forget_less p q (a ∷ answers) e = by (same_place a.place q) (same_place p a.place) e (forget_less p q answers)
        where
          by : (b c : Bool) → has_answered p (cond b (forget q answers) (a ∷ forget q answers)) ≡ true → (has_answered p (forget q answers) ≡ true → has_answered p answers ≡ true) → (same_place p a.place || has_answered p answers) ≡ true
          by true c e rest = second (same_place p a.place) (has_answered p answers) (rest e)
            where
              second : (a b : Bool) → b ≡ true → (a || b) ≡ true
              second true b e = refl
              second false b e = e
          by false c e rest = either (same_place p a.place) (has_answered p (forget q answers)) (has_answered p answers) e rest
            where
              either : (a b c : Bool) → (a || b) ≡ true → (b ≡ true → c ≡ true) → (a || c) ≡ true
              either true b c e rest = refl
              either false b c e rest = rest e

      lose_less : (P : Message → Bool) (q : Place) (net owed : List Message) → list_any P (lose q net ++ owed) ≡ true → list_any P (net ++ owed) ≡ true
      lose_less P q [] owed e = e
      lose_less P q (x ∷ net) owed e = by (same_place x.from q || same_place x.to q) e (lose_less P q net owed)
        where
          second : (a b : Bool) → b ≡ true → (a || b) ≡ true
          second true b e = refl
          second false b e = e

          either : (a b c : Bool) → (a || b) ≡ true → (b ≡ true → c ≡ true) → (a || c) ≡ true
          either true b c e rest = refl
          either false b c e rest = rest e

          by : (b : Bool) → list_any P (cond b (lose q net) (x ∷ lose q net) ++ owed) ≡ true → (list_any P (lose q net ++ owed) ≡ true → list_any P (net ++ owed) ≡ true) → (P x || list_any P (net ++ owed)) ≡ true
          by true e rest = second (P x) (list_any P (net ++ owed)) (rest e)
          by false e rest = either (P x) (list_any P (lose q net ++ owed)) (list_any P (net ++ owed)) e rest

      less : is_told d.0 (lose (memory number.0) now.net ++ now.owed) (record one { answers = forget (memory number.0) one.answers }) ≡ true → is_told d.0 (all_pending now) one ≡ true
      less told = by (has_answered (memory d.0) (forget (memory number.0) one.answers)) refl told
        where
          first : (a b : Bool) → a ≡ true → (a || b) ≡ true
          first true b e = refl
          first false b e = cc e

          second : (a b : Bool) → b ≡ true → (a || b) ≡ true
          second true b e = refl
          second false b e = e

          by : (a : Bool) → has_answered (memory d.0) (forget (memory number.0) one.answers) ≡ a → (a || list_any (is_from one.number.0 d.0) (lose (memory number.0) now.net ++ now.owed)) ≡ true → is_told d.0 (all_pending now) one ≡ true
          by true is told = first (has_answered (memory d.0) one.answers) _ (forget_less (memory d.0) (memory number.0) one.answers is)
          by false is told = second (has_answered (memory d.0) one.answers) _ (lose_less (is_from one.number.0 d.0) (memory number.0) now.net now.owed told)

  -- COMPLETIONS
  ended_dry : is_complete now.net one ≡ true → Empty d.0 now.mems
  ended_dry complete = dry (ap (λ (b : Bool). b || list_any (is_from one.number.0 d.0) (all_pending now)) answered_)
    where
      targets : one.targets ≡ memory d.0 ∷ []
      targets = fits.targets ∙ ap (targets_of (memory_count now.shape)) drains

      answered_ : has_answered (memory d.0) one.answers ≡ true
      answered_ = target_answered (memory d.0) one.targets one.answers (ap (is_among (memory d.0)) targets ∙ alone d.0) (both_true (all_answered one.targets one.answers) _ complete).0

  completed_dry : (op : OpNo) → MayComplete now op → Dry d.0 (completed now op.0 now.healing)
  completed_dry op may = by now.healing refl (completed_steps now op may)
    where
      same_open : (a b : Open) → Some a ≡ Some b → a ≡ b
      same_open a b e = cc e

      same_due : length (completed now op.0 now.healing).due < length now.due → ⊥
      same_due less = let same : length (completed now op.0 now.healing).due ≡ length now.due = ap length (completed_due now op.0 now.healing) in omega (arith, less, same)

      -- the operation ends only where it is complete
      over : (u : Track) → u ≡ completed now op.0 now.healing → u ≡ finished now now.current → Steps now (completed now op.0 now.healing) → Dry d.0 (finished now now.current)
      over u is ends (Ends p p_is complete ended) = subst (λ (c : Option Open). Dry d.0 (finished now c)) (sym current) (ended_dry (subst (λ (q : Open). is_complete now.net q ≡ true) (same_open p one (sym p_is ∙ current)) complete))
      over u is ends (Shrinks less) = absurd (same_due less)
      over u is ends (Stays same) =
          let both : None ≡ Some one.operation = sym (ap (λ (c : Option Open). operation_in (finished now c).current) current) ∙ ap (λ (v : Track). operation_in v.current) (sym ends ∙ is) ∙ same.operation ∙ ap operation_in current in
          cc both

      again_dry : Dry d.0 (record now { healing = None; current = sent_again now now.current })
      again_dry = subst (λ (c : Option Open). DryIn d.0 (all_pending now) now.mems (sent_again now c)) (sym current) dry

      moved : (h : Healing) (o : Open) (moves : List Move) → Dry d.0 (move_finished now h o moves)
      moved h o [] = again_dry
      moved h o (move ∷ moves) = dry_to (all_pending now) now.mems dry

      by : (g : Option Healing) → now.healing ≡ g → Steps now (completed now op.0 now.healing) → Dry d.0 (completed now op.0 now.healing)
      by None heals steps = subst (λ (g : Option Healing). Dry d.0 (completed now op.0 g)) (sym heals) (over (finished now now.current) (ap (completed now op.0) (sym heals)) refl steps)
      by (Some h) heals steps = subst (λ (g : Option Healing). Dry d.0 (completed now op.0 g)) (sym heals) (beside h.current refl)
        where
          beside : (c : Option Open) → h.current ≡ c → Dry d.0 (completed_beside now op.0 h c)
          beside None runs = over (finished now now.current) (ap (completed_beside now op.0 h) (sym runs) ∙ ap (completed now op.0) (sym heals)) refl steps
          beside (Some o) runs = under (o.number.0 == op.0) refl
            where
              under : (b : Bool) → (o.number.0 == op.0) ≡ b → Dry d.0 (cond b (move_finished now h o h.moves) (finished now now.current))
              under true e = moved h o h.moves
              under false e = over (finished now now.current) (sym (ap (λ (b : Bool). cond b (move_finished now h o h.moves) (finished now now.current)) e) ∙ ap (completed_beside now op.0 h) (sym runs) ∙ ap (completed now op.0) (sym heals)) refl steps

-- AN EMPTY LOG is dry, whatever is open
dry_of_empty : (d : ℕ) (pending : List Message) (mems : List Mem) (c : Option Open) → Empty d mems → DryIn d pending mems c
dry_of_empty d pending mems None empty = empty
dry_of_empty d pending mems (Some one) empty = λ told. empty

module _ (t : Track) (o : Order) (rest : List Mark) (d : MemId) (drains : o.operation ≡ Drains d) where
  not_write : is_write o.operation ≡ false
  not_write = ap is_write drains

  open_after : (now : Track) (e : Event) → May now e → Way t o rest now → Dry d.0 now → (one : Open) → now.current ≡ Some one → one.operation ≡ Drains d → Dry d.0 (after now e)
  open_after now e may way dry one current is = by e may
    where
      told : is_told d.0 (all_pending now) one ≡ true → Empty d.0 now.mems
      told = subst (DryIn d.0 (all_pending now) now.mems) current dry

      by : (e : Event) → May now e → Dry d.0 (after now e)
      by (Turn number pid) may = dry
      by (Access cpu pid address kind bytes) may = dry
      by (Fill pid address bytes) may = dry
      by (Drop cpu pid line) may = dry
      by (Send m) may = sent_dry d now way.middle one current is told m may
      by (Deliver m) may = deliver_dry d now way.middle one current is told m may (λ answered_. delivered_empty now d.0 way.middle (stands_unwritten t o now not_write way.stands) (told answered_) m may)
      by (Crash number inc) may = crash_dry d now way.middle one current is told number
      by (Complete op) may = completed_dry d now way.middle one current is told op may
      by (Out stream bytes) may = dry

  dry_after : (now : Track) (e : Event) → May now e → Way t o rest now → Dry d.0 now → Dry d.0 (after now e)
  dry_after now e may way dry = by now.current refl way.stands
    where
      one_operation : (a b : Operation) → Some a ≡ Some b → a ≡ b
      one_operation a b e = cc e

      by : (c : Option Open) → now.current ≡ c → StandsSo t o now → Dry d.0 (after now e)
      by None is stands = dry_of_empty d.0 (all_pending (after now e)) (after now e).mems (after now e).current (empty_after now d.0 way.middle (stands_unwritten t o now not_write way.stands) (subst (DryIn d.0 (all_pending now) now.mems) is dry) e may)
      by (Some one) is (IsOpen operation plain owners) = open_after now e may way dry one is (one_operation one.operation o.operation (ap operation_in (sym is) ∙ operation) ∙ drains)
      by (Some one) is (IsDone operation plain owners) = let both : Some one.operation ≡ None = ap operation_in (sym is) ∙ operation in cc both

  dries : (now : Track) (events : List Event) → Legal now events → (run now events).due ≡ rest → Way t o rest now → Dry d.0 now → Dry d.0 (run now events)
  dries now [] legal last way dry = dry
  dries now (e ∷ events) legal last way dry = by (step t o rest now e legal.0 way) (λ next. dries (after now e) events legal.1 last next (dry_after now e legal.0 way dry))
    where
      by : Way t o rest (after now e) ⊎ (length (after now e).due < length now.due) → (Way t o rest (after now e) → Dry d.0 (run (after now e) events)) → Dry d.0 (run (after now e) events)
      by (inl next) on = on next
      by (inr less) on =
          let shorter = list_never_grows (after now e) events legal.1 in
          let all : length (run (after now e) events).due ≡ length rest = ap length last in
          let was : length now.due ≡ length rest = ap length way.due in
          absurd (omega (arith, less, shorter, all, was))

  module _ (is_due : IsDue t o rest) where
    old_number : (y : Message) → MayPend None (memory_count t.shape) t.plain None None t.next y → is_from t.next d.0 y ≡ false
    old_number y pend = by pend.kind
      where
        less : y.op.0 < t.next → is_from t.next d.0 y ≡ false
        less below = ap (λ (b : Bool). b && same_place y.from (memory d.0)) (ne_eqb y.op.0 t.next (λ same. omega (arith, below, same)))

        by : Pends None (memory_count t.shape) t.plain None None t.next y → is_from t.next d.0 y ≡ false
        by (OfOperation of) = absurd of
        by (OfMove of) = absurd of
        by (OfBackground of) = let zero_ : y.op.0 ≡ 0 = of.number in let some = is_due.rests.next in less (omega (arith, zero_, some))
        by (Left old) = less old.below

    -- at its first message nothing with its number is pending but that
    base : (m : Message) → May t (Send m) → Dry d.0 (after t (Send m))
    base m may = subst (Dry d.0) (sym begun) (λ told. never (list_any (is_from t.next d.0) (all_pending t)) none_told (more_less (is_from t.next d.0) t.net t.owed m (not_from t.next d.0 m (ap (λ (q : Place). same_place q (memory d.0)) from ∙ issuer_no_memory o.by d.0 is_due.granted.issuer)) told))
      where
        begun : sent t m t.owed t.healing t.current ≡ begins t m (Call o ∷ rest)
        begun = (λ i. sent t m (is_due.rests.owed i) (is_due.rests.healed i) (is_due.rests.closed i)) ∙ ap (begins t m) is_due.due

        is_first : IsFirst m (messages_of o.by (record { 0 = t.next }) (asks_of (memory_count t.shape) o.operation))
        is_first = (subst (λ (due : List Mark). MayBegin t m due) is_due.due (subst (λ (p : List Message × Option Healing × Option Open). MaySend t m p.0 p.1 p.2) (λ i. (is_due.rests.owed i, is_due.rests.healed i, is_due.rests.closed i)) may).1).0

        from : m.from ≡ o.by
        from = ap (λ (y : Message). y.from) (subst (λ (p : Operation). IsFirst m (messages_of o.by (record { 0 = t.next }) (asks_of (memory_count t.shape) p))) drains is_first)

        none_told : list_any (is_from t.next d.0) (all_pending t) ≡ false
        none_told = ap (λ (ms : List Message). list_any (is_from t.next d.0) (t.net ++ ms)) is_due.rests.owed ∙ ap (list_any (is_from t.next d.0)) (append-nil t.net) ∙ none_of (is_from t.next d.0) t.net (every old_number t.net is_due.rests.pending)

    pub drained : (m : Message) (events : List Event) → Legal t (Send m ∷ events) → (run t (Send m ∷ events)).due ≡ rest → IsOver (run t (Send m ∷ events)) → IsEmptyAt (run t (Send m ∷ events)) d.0
    drained m events legal last over = subst (DryIn d.0 (all_pending (run t (Send m ∷ events))) (run t (Send m ∷ events)).mems) over.closed (dries (after t (Send m)) events legal.1 last (sets_out t o rest is_due m legal.0) (base m legal.0))

pub drains-empty-there : DrainsEmptyThere
drains-empty-there t o rest m events d is_due legal last over drains = drained t o rest d drains is_due m events legal last over
