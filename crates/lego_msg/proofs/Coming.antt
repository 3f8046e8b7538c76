-- The event that `next` says may come, where the caches hold what it needs.
use Rattle.std.proofs.Common.{◌≡◌, ◌⊎◌, ◌+◌, ◌*◌, ◌/◌, ◌%◌, ◌&&◌, ◌||◌, [], ◌∷◌, ◌∙◌, ℕ, Bool, List, None, Option, Some, ap, bytes_eq, cond, drop, eqb, false, inl, inr, is_none, length, nat_le, not, refl, slice_get, subst, suc, sym, take, true, zero}
use Rattle.std.proofs.lemmas.Bool.{eqb-true}
use Rattle.std.proofs.lemmas.Slice.Eq.{bytes_eq-Decides}
use Rattle.lego_base.specs.declared.ids.OpNo.{OpNo}
use Rattle.lego_base.specs.declared.records.Patch.{Patch}
use Rattle.lego_base.specs.declared.shape.CrashAt.{CrashAt}
use Rattle.lego_msg.proofs.Senders.{same_some}
use Rattle.lego_msg.specs.Completions.{done_or, first_done}
use Rattle.lego_msg.specs.Crashes.{IsEntry, IsNextInc, is_crash_moment, is_idle}
use Rattle.lego_msg.specs.Deliveries.{is_sent, is_waiting}
use Rattle.lego_msg.specs.Laws.{NextMayCome, PlayedIsLegal, shows}
use Rattle.lego_msg.specs.Legal.{Legal, May}
use Rattle.lego_msg.specs.Marks.{Call, Mark, Order, Show, is_turn, is_turn_end}
use Rattle.lego_msg.specs.Next.{all_fit, all_fit_on, carries, complete_next, crash_at, crash_next, crash_of, crash_or_open, deliver_next, delivered_next, due_next, fits, fits_begin, fits_caches, fits_origin, fits_send, has_bytes, in_line, meets, move_next, next, open_next, owed_next, played, played_on, reads_absent, send_first, showable, writes_fill, writes_line}
use Rattle.lego_msg.specs.Places.{is_issuer}
use Rattle.lego_msg.specs.Run.{after}
use Rattle.lego_msg.specs.Sends.{FitsCaches, FitsOrigin, IsFirst, IsMove, MayBegin, MaySend, ReadsAbsent, WritesLine, open_move, sent}
use Rattle.lego_msg.specs.ShownEvents.{Carries, InLine, IsNext, Meets}
use Rattle.lego_msg.specs.State.{Mem}
use Rattle.lego_msg.specs.Track.{Caches, Filled, Quiet, Track, healing_move, is_any_done, is_calm, is_complete, is_crash_due, is_crash_left, is_done, next_crash, opened, picked}
use Rattle.lego_msg.specs.declared.event.Event.{Event}
use Rattle.lego_msg.specs.declared.event.Event.TheVariants.{Access, Complete, Crash, Deliver, Drop, Fill, Out, Send, Turn}
use Rattle.lego_msg.specs.declared.event.Kind.{Kind}
use Rattle.lego_msg.specs.declared.event.Kind.TheVariants.{CopyIn, CopyOut, Fetch, Load, Probe, Store}
use Rattle.lego_msg.specs.declared.healing.Healing.{Healing}
use Rattle.lego_msg.specs.declared.healing.Move.{Move}
use Rattle.lego_msg.specs.declared.message.Message.{Message}
use Rattle.lego_msg.specs.declared.operation.Open.{Open}
use Rattle.lego_msg.specs.declared.operation.Operation.{Operation}
use Rattle.lego_msg.specs.declared.operation.Operation.TheVariants.{Reads, Writes}
use Rattle.lego_msg.specs.declared.operation.Origin.{Origin}
use Rattle.lego_msg.specs.declared.place.Place.{Place}
use Rattle.lego_msg.specs.declared.place.Place.TheVariants.{Manager, Memory, Processor, Storage}
use Rattle.lego_msg.specs.declared.operation.Origin.TheVariants as origin

none_some : {X : Type 0} (x : X) → None ≡ Some x → ⊥
none_some x e = cc e

first_is : (a b : Bool) → (a && b) ≡ true → a ≡ true
first_is true b e = refl
first_is false b e = cc e

second_is : (a b : Bool) → (a && b) ≡ true → b ≡ true
second_is true b e = e
second_is false b e = cc e

all_three : (a b c : Bool) → (a && b && c) ≡ true → (a ≡ true) × (b ≡ true) × (c ≡ true)
all_three false b c e = cc e
all_three true false c e = cc e
all_three true true c e = (refl, refl, e)

not_is : (b : Bool) → not b ≡ true → b ≡ false
not_is true e = cc e
not_is false e = refl

-- THE TESTS of caches

bytes_are : (xs ys : List ℕ) → bytes_eq xs ys ≡ true → xs ≡ ys
bytes_are xs ys e = (bytes_eq-Decides xs ys).0 e

carries_is : (line : Option (List ℕ)) (address : ℕ) (bytes : List ℕ) → carries line address bytes ≡ true → Carries line address bytes
carries_is None address bytes e = cc e
carries_is (Some line) address bytes e = (first_is _ _ e, bytes_are bytes (take (length bytes) (drop (address % 64) line)) (second_is (nat_le (address % 64 + length bytes) 64) _ e))

meets_is : (line : Option (List ℕ)) (address : ℕ) (bytes : List ℕ) → meets line address bytes ≡ true → Meets line address bytes
meets_is None address bytes e = cc e
meets_is (Some line) address bytes e = e

in_line_is : (line : Option (List ℕ)) (address : ℕ) (kind : Kind) (bytes : List ℕ) → in_line line address kind bytes ≡ true → InLine line address kind bytes
in_line_is line address Load bytes e = carries_is line address bytes e
in_line_is line address Store bytes e = meets_is line address bytes e
in_line_is line address Fetch bytes e = carries_is line address bytes e
in_line_is line address CopyIn bytes e = carries_is line address bytes e
in_line_is line address CopyOut bytes e = meets_is line address bytes e
in_line_is line address Probe bytes e = bytes_are bytes [] e

none_is : (o : Option (List ℕ)) → is_none o ≡ true → o ≡ None
none_is None e = refl
none_is (Some x) e = cc e

has_is : (o : Option (List ℕ)) (bytes : List ℕ) → has_bytes o bytes ≡ true → o ≡ Some bytes
has_is None bytes e = cc e
has_is (Some line) bytes e = ap Some (bytes_are line bytes e)

absent_is : (caches : Caches) (by : Place) (pid line : ℕ) → reads_absent caches by pid line ≡ true → ReadsAbsent caches by pid line
absent_is caches (Processor cpu) pid line e = none_is (caches.line cpu.0 pid line) e
absent_is caches (Memory number) pid line e = tt
absent_is caches Storage pid line e = tt
absent_is caches Manager pid line e = tt

line_is : (caches : Caches) (by : Place) (p : Patch) → writes_line caches by p ≡ true → WritesLine caches by p
line_is caches (Processor cpu) p e = (eqb-true (p.off % 64) 0 (first_is _ _ e), has_is (caches.line cpu.0 p.pid.0 (p.vpn.0 * 64 + p.off / 64)) p.bytes (second_is (eqb (p.off % 64) 0) _ e))
line_is caches (Memory number) p e = tt
line_is caches Storage p e = tt
line_is caches Manager p e = tt

fill_is : (filled : Option Filled) (p : Patch) → writes_fill filled p ≡ true → filled ≡ Some (record { pid = p.pid.0; address = p.vpn.0 * 4096 + p.off; bytes = p.bytes })
fill_is None p e = cc e
fill_is (Some f) p e =
    let all = all_three (eqb f.pid p.pid.0) (eqb f.address (p.vpn.0 * 4096 + p.off)) (bytes_eq f.bytes p.bytes) e in
    let pid : f.pid ≡ p.pid.0 = eqb-true f.pid p.pid.0 all.0 in
    let address : f.address ≡ p.vpn.0 * 4096 + p.off = eqb-true f.address (p.vpn.0 * 4096 + p.off) all.1 in
    let bytes : f.bytes ≡ p.bytes = bytes_are f.bytes p.bytes all.2 in
    λ i. Some (record { pid = pid i; address = address i; bytes = bytes i })

origin_is : (caches : Caches) (by : Place) (p : Patch) (from_ : Origin) → fits_origin caches by p from_ ≡ true → FitsOrigin caches by p from_
origin_is caches by p origin.Line e = line_is caches by p e
origin_is caches by p origin.Fill e = fill_is caches.filled p e
origin_is caches by p origin.Run e = tt

fits_is : (caches : Caches) (by : Place) (o : Operation) → fits_caches caches by o ≡ true → FitsCaches caches by o
fits_is caches by (Reads pid line owner) e = absent_is caches by pid.0 line.0 e
fits_is caches by (Writes from_ patch owner) e = origin_is caches by patch from_ e
fits_is caches by other e = tt

-- WHAT COMES

-- a completion, or what stands behind it
complete_or : (net : List Message) (o : Option Open) (rest : Option Event) (e : Event) → complete_next net o rest ≡ Some e → ((x : Open) × (o ≡ Some x) × (is_complete net x ≡ true) × (Complete x.number ≡ e)) ⊎ ((is_done net o ≡ false) × (rest ≡ Some e))
complete_or net None rest e next = inr (refl, next)
complete_or net (Some x) rest e next = by (is_complete net x) refl next
  where
    by : (b : Bool) → is_complete net x ≡ b → cond b (Some (Complete x.number)) rest ≡ Some e → ((y : Open) × (Some x ≡ Some y) × (is_complete net y ≡ true) × (Complete y.number ≡ e)) ⊎ ((is_complete net x ≡ false) × (rest ≡ Some e))
    by true is next = inl (x, refl, is, same_some _ _ next)
    by false is next = inr (is, next)

done_here : (net : List Message) (o : Option Open) (x : Open) (else_ : Option OpNo) → o ≡ Some x → is_complete net x ≡ true → done_or net o else_ ≡ Some x.number
done_here net o x else_ e is = subst (λ (o : Option Open). done_or net o else_ ≡ Some x.number) (sym e) (subst (λ (b : Bool). cond b (Some x.number) else_ ≡ Some x.number) (sym is) refl)

done_behind : (net : List Message) (o : Option Open) (else_ : Option OpNo) → is_done net o ≡ false → done_or net o else_ ≡ else_
done_behind net None else_ e = refl
done_behind net (Some o) else_ e = subst (λ (b : Bool). cond b (Some o.number) else_ ≡ else_) (sym e) refl

-- a crash that comes is of the next entry, and raises the incarnation
crash_parts : (t : Track) (entry : CrashAt) (o : Option Mem) (e : Event) → slice_get t.mems entry.memory.0 ≡ o → crash_of entry o ≡ Some e → (inc : ℕ) × (Crash entry.memory inc ≡ e) × IsNextInc (slice_get t.mems entry.memory.0) inc
crash_parts t entry None e at next = absurd (none_some e next)
crash_parts t entry (Some s) e at next = (s.inc + 1, same_some _ _ next, subst (λ (o : Option Mem). IsNextInc o (s.inc + 1)) (sym at) refl)

crash_may : (t : Track) (o : Option CrashAt) (e : Event) → t.owed ≡ [] → (not t.stopped && not (is_any_done t)) ≡ true → is_crash_moment t ≡ true → next_crash t.shape t.clock ≡ o → crash_at t o ≡ Some e → May t e
crash_may t None e owed goes moment is next = absurd (none_some e next)
crash_may t (Some entry) e owed goes moment is next =
    let p = crash_parts t entry (slice_get t.mems entry.memory.0) e refl next in
    subst (May t) p.1 (record {
      owed = owed;
      goes_on = goes;
      entry = subst (λ (o : Option CrashAt). IsEntry o entry.memory.0) (sym is) refl;
      moment = moment;
      raised = p.2;
    })

-- DELIVERIES and SENDS

deliver_may : (t : Track) (o : Option Message) (e : Event) → (picked t.shape.deliveries t.delivered t.net ≡ o) → ((m : Message) → picked t.shape.deliveries t.delivered t.net ≡ Some m → May t (Deliver m)) → delivered_next o ≡ Some e → May t e
deliver_may t None e is may next = absurd (none_some e next)
deliver_may t (Some m) e is may next = subst (May t) (same_some _ _ next) (may m is)

send_may : (t : Track) (messages : List Message) (else_ : Option Event) (e : Event) → ((m : Message) → IsFirst m messages → May t (Send m)) → (messages ≡ [] → else_ ≡ Some e → May t e) → send_first messages else_ ≡ Some e → May t e
send_may t [] else_ e may other next = other refl next
send_may t (m ∷ messages) else_ e may other next = subst (May t) (same_some _ _ next) (may m refl)

-- nothing open or healing
quiet : (t : Track) → t.owed ≡ [] → is_calm t ≡ true → t.healing ≡ None → t.current ≡ None → Quiet t
quiet t owed calm healed closed = record { owed = owed; closed = closed; healed = healed; calm = calm }

-- a mark's event
shown_may : (t : Track) (x e : Event) → Quiet t → IsNext x t.due → (is_turn x && is_crash_left t) ≡ false → fits t e ≡ true → showable x ≡ Some e → May t e
shown_may t (Turn number pid) e q next ends fit shows = subst (May t) (same_some _ _ shows) ((q, next), ends)
shown_may t (Access cpu pid address kind bytes) e q next ends fit shows =
    let same : Access cpu pid address kind bytes ≡ e = same_some _ _ shows in
    subst (May t) same ((q, next), in_line_is (t.caches.line cpu.0 pid.0 (address / 64)) address kind bytes (ap (fits t) same ∙ fit))
shown_may t (Fill pid address bytes) e q next ends fit shows = subst (May t) (same_some _ _ shows) (q, next)
shown_may t (Drop cpu pid line) e q next ends fit shows =
    let same : Drop cpu pid line ≡ e = same_some _ _ shows in
    subst (May t) same ((q, next), ap (fits t) same ∙ fit)
shown_may t (Send m) e q next ends fit shows = absurd (none_some e shows)
shown_may t (Deliver m) e q next ends fit shows = absurd (none_some e shows)
shown_may t (Crash number inc) e q next ends fit shows = absurd (none_some e shows)
shown_may t (Complete op) e q next ends fit shows = absurd (none_some e shows)
shown_may t (Out stream bytes) e q next ends fit shows = subst (May t) (same_some _ _ shows) (q, next)

-- an operation that is called for
call_may : (t : Track) (due : List Mark) (m : Message) (o : Order) (rest : List Mark) → due ≡ Call o ∷ rest → fits_begin t.caches due ≡ true → (o.late && is_crash_left t) ≡ false → IsFirst m (opened t.shape t.next o.by o.operation).unsent → MayBegin t m due
call_may t due m o rest is fit late first =
    let both : (fits_caches t.caches o.by o.operation && is_issuer o.by) ≡ true = subst (λ (due : List Mark). fits_begin t.caches due ≡ true) is fit in
    subst (λ (due : List Mark). MayBegin t m due) (sym is)
    (first, fits_is t.caches o.by o.operation (first_is _ _ both), late, second_is (fits_caches t.caches o.by o.operation) _ both)

begin_may : (t : Track) (m : Message) → t.owed ≡ [] → is_calm t ≡ true → t.healing ≡ None → t.current ≡ None → MayBegin t m t.due → May t (Send m)
begin_may t m owed calm healed closed may =
    subst (λ (p : List Message × Option Healing × Option Open). MaySend t m p.0 p.1 p.2) (λ i. (sym owed i, sym healed i, sym closed i))
    (calm, may)

fits_of : (t : Track) (m : Message) → t.owed ≡ [] → t.healing ≡ None → t.current ≡ None → fits t (Send m) ≡ true → fits_begin t.caches t.due ≡ true
fits_of t m owed healed closed fit =
    subst (λ (p : List Message × Option Healing × Option Open). fits_send t p.0 p.1 p.2 ≡ true) (λ i. (owed i, healed i, closed i)) fit

-- the first of some messages
first_sent : (messages : List Message) (e : Event) → send_first messages None ≡ Some e → (m : Message) × IsFirst m messages × (Send m ≡ e)
first_sent [] e next = absurd (none_some e next)
first_sent (m ∷ messages) e next = (m, refl, same_some _ _ next)

-- WITH NOTHING OPEN

module _ (t : Track) (e : Event) (owed : t.owed ≡ []) (goes : (not t.stopped && not (is_any_done t)) ≡ true) (calm : is_calm t ≡ true) (healed : t.healing ≡ None) (closed : t.current ≡ None) (fit : fits t e ≡ true) where
  over_moment : is_crash_left t ≡ true → is_turn_end t.due ≡ true → is_crash_moment t ≡ true
  over_moment left over = by (is_crash_due t)
    where
      idle : is_idle t.healing t.current ≡ true
      idle = λ i. is_idle (healed i) (closed i)

      by : (b : Bool) → (b || (is_crash_left t && is_idle t.healing t.current && is_turn_end t.due)) ≡ true
      by true = refl
      by false = λ i. left i && idle i && over i

  over_may : is_crash_left t ≡ true → is_turn_end t.due ≡ true → crash_next t ≡ Some e → May t e
  over_may left over next = crash_may t (next_crash t.shape t.clock) e owed goes (over_moment left over) refl next

  due_may : (due : List Mark) → t.due ≡ due → due_next t due ≡ Some e → May t e
  due_may [] is next = by (is_crash_left t) refl next
    where
      by : (b : Bool) → is_crash_left t ≡ b → cond b (crash_next t) None ≡ Some e → May t e
      by true left next = over_may left (ap is_turn_end is) next
      by false left next = absurd (none_some e next)
  due_may (Show x ∷ due) is next = by (is_turn x && is_crash_left t) refl next
    where
      by : (b : Bool) → (is_turn x && is_crash_left t) ≡ b → cond b (crash_next t) (showable x) ≡ Some e → May t e
      by true both next = over_may (second_is (is_turn x) _ both) (ap is_turn_end is ∙ first_is _ (is_crash_left t) both) next
      by false both next = shown_may t x e (quiet t owed calm healed closed) (subst (IsNext x) (sym is) refl) both fit next
  due_may (Call o ∷ due) is next = by (o.late && is_crash_left t) refl next
    where
      by : (b : Bool) → (o.late && is_crash_left t) ≡ b → cond b (crash_next t) (send_first (opened t.shape t.next o.by o.operation).unsent None) ≡ Some e → May t e
      by true both next = over_may (second_is o.late _ both) (ap is_turn_end is ∙ first_is _ (is_crash_left t) both) next
      by false both next =
          let sent = first_sent (opened t.shape t.next o.by o.operation).unsent e next in
          let f = fits_of t sent.0 owed healed closed (ap (fits t) sent.2 ∙ fit) in
          subst (May t) sent.2 (begin_may t sent.0 owed calm healed closed (call_may t t.due sent.0 o due is f both sent.1))

-- WITH SOMETHING OPEN

module _ (t : Track) (e : Event) (owed : t.owed ≡ []) (calm : is_calm t ≡ true) where
  send_open : (m : Message) (h : Option Healing) (o : Option Open) → t.healing ≡ h → t.current ≡ o → MaySend t m [] h o → May t (Send m)
  send_open m h o healing current may = subst (λ (p : List Message × Option Healing × Option Open). MaySend t m p.0 p.1 p.2) (λ i. (sym owed i, sym healing i, sym current i)) may

  deliver_open : is_waiting t.healing t.current ≡ true → deliver_next t ≡ Some e → May t e
  deliver_open waiting next = deliver_may t (picked t.shape.deliveries t.delivered t.net) e refl (λ m is. record { owed = owed; waiting = waiting; calm = calm; chosen = is }) next

  move_may : (h : Healing) (o : Option Open) (moves : List Move) → t.healing ≡ Some h → h.current ≡ o → h.moves ≡ moves → move_next t h o moves ≡ Some e → May t e
  move_may h (Some x) moves healing current is next = by (eqb (length x.unsent) 0) refl next
    where
      by : (b : Bool) → eqb (length x.unsent) 0 ≡ b → cond b (deliver_next t) None ≡ Some e → May t e
      by true sent next = deliver_open (ap (λ (h : Option Healing). is_waiting h t.current) healing ∙ ap is_sent current ∙ sent) next
      by false sent next = absurd (none_some e next)
  move_may h None [] healing current is next = absurd (none_some e next)
  move_may h None (move ∷ moves) healing current is next =
      let sent = first_sent (open_move t move h.got).unsent e next in
      let may : IsMove t sent.0 h h.current h.moves = subst (λ (p : Option Open × List Move). IsMove t sent.0 h p.0 p.1) (λ i. (sym current i, sym is i)) sent.1 in
      subst (May t) sent.2 (send_open sent.0 (Some h) t.current healing refl (calm, may))

  current_may : (o : Open) (messages : List Message) → t.healing ≡ None → t.current ≡ Some o → o.unsent ≡ messages → send_first messages (deliver_next t) ≡ Some e → May t e
  current_may o [] healed current is next =
      deliver_open (ap (λ (h : Option Healing). is_waiting h t.current) healed ∙ ap is_sent current ∙ ap (λ (ms : List Message). eqb (length ms) 0) is) next
  current_may o (m ∷ messages) healed current is next =
      subst (May t) (same_some _ _ next) (send_open m None (Some o) healed current (calm, subst (IsFirst m) (sym is) refl))

open_may : (t : Track) (e : Event) (h : Option Healing) (o : Option Open) → t.owed ≡ [] → (not t.stopped && not (is_any_done t)) ≡ true → is_calm t ≡ true → t.healing ≡ h → t.current ≡ o → fits t e ≡ true → open_next t h o ≡ Some e → May t e
open_may t e (Some h) o owed goes calm healing current fit next = move_may t e owed calm h h.current h.moves healing refl refl next
open_may t e None (Some o) owed goes calm healing current fit next = current_may t e owed calm o o.unsent healing current refl next
open_may t e None None owed goes calm healing current fit next = due_may t e owed goes calm healing current fit t.due refl next

goes_so : (a b : Bool) → a ≡ false → b ≡ false → (not a && not b) ≡ true
goes_so true b e f = cc e
goes_so false true e f = cc f
goes_so false false e f = refl

calm_so : (a b c : Bool) → a ≡ false → b ≡ false → c ≡ false → (not a && not b && not c) ≡ true
calm_so true b c e f g = cc e
calm_so false true c e f g = cc f
calm_so false false true e f g = cc g
calm_so false false false e f g = refl

none_done : (a b : Bool) → a ≡ false → b ≡ false → (a || b) ≡ false
none_done true b e f = cc e
none_done false b e f = f

crash_or_may : (t : Track) (e : Event) → t.owed ≡ [] → t.stopped ≡ false → is_any_done t ≡ false → fits t e ≡ true → crash_or_open t ≡ Some e → May t e
crash_or_may t e owed goes none fit next = by (is_crash_due t) refl next
  where
    by : (b : Bool) → is_crash_due t ≡ b → cond b (crash_next t) (open_next t t.healing t.current) ≡ Some e → May t e
    by true due next = crash_may t (next_crash t.shape t.clock) e owed (goes_so t.stopped (is_any_done t) goes none) (ap (λ (b : Bool). b || (is_crash_left t && is_idle t.healing t.current && is_turn_end t.due)) due) refl next
    by false due next = open_may t e t.healing t.current owed (goes_so t.stopped (is_any_done t) goes none) (calm_so t.stopped (is_any_done t) (is_crash_due t) goes none due) refl refl fit next

completes_may : (t : Track) (e : Event) (x : Open) → t.owed ≡ [] → t.stopped ≡ false → first_done t ≡ Some x.number → Complete x.number ≡ e → May t e
completes_may t e x owed goes done is = subst (May t) is (record { owed = owed; goes_on = goes; complete = done })

unstopped_may : (t : Track) (e : Event) → t.owed ≡ [] → t.stopped ≡ false → fits t e ≡ true → complete_next t.net (healing_move t.healing) (complete_next t.net t.current (crash_or_open t)) ≡ Some e → May t e
unstopped_may t e owed goes fit next =
    elim (complete_or t.net (healing_move t.healing) (complete_next t.net t.current (crash_or_open t)) e next) [
      | inl move ↦ completes_may t e move.0 owed goes (done_here t.net (healing_move t.healing) move.0 (done_or t.net t.current None) move.1 move.2) move.3
      | inr rest ↦
          elim (complete_or t.net t.current (crash_or_open t) e rest.1) [
            | inl current ↦ completes_may t e current.0 owed goes (done_behind t.net (healing_move t.healing) (done_or t.net t.current None) rest.0 ∙ done_here t.net t.current current.0 None current.1 current.2) current.3
            | inr last ↦ crash_or_may t e owed goes (none_done _ _ rest.0 last.0) fit last.1
          ]
    ]

owed_may : (t : Track) (e : Event) (owed : List Message) → t.owed ≡ owed → fits t e ≡ true → owed_next t owed ≡ Some e → May t e
owed_may t e (m ∷ owed) is fit next = subst (May t) (same_some _ _ next) (subst (λ (owed : List Message). MaySend t m owed t.healing t.current) (sym is) refl)
owed_may t e [] is fit next = by t.stopped refl next
  where
    by : (b : Bool) → t.stopped ≡ b → cond b None (complete_next t.net (healing_move t.healing) (complete_next t.net t.current (crash_or_open t))) ≡ Some e → May t e
    by true stopped next = absurd (none_some e next)
    by false goes next = unstopped_may t e is goes fit next

pub next-may-come : NextMayCome
next-may-come t e next fit = owed_may t e t.owed refl fit next

pub played-is-legal : PlayedIsLegal
played-is-legal zero t fit = tt
played-is-legal (suc n) t fit = by (next t) refl (played-is-legal n) fit
  where
    by : (o : Option Event) → next t ≡ o → ((t : Track) → all_fit n t ≡ true → Legal t (played n t)) → all_fit_on t o (λ t. all_fit n t) ≡ true → Legal t (played_on n t o (λ t. played n t))
    by None is more fit = tt
    by (Some e) is more fit = (next-may-come t e is (first_is (fits t e) _ fit), more (after t e) (second_is (fits t e) _ fit))
