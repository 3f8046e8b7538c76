-- An operation from rest back to rest, with nothing lost; what its answers say.
use Rattle.std.proofs.Common.{◌≡◌, ◌==◌, [], ◌∷◌, ◌++◌, ◌∙◌, ℕ, Bool, List, None, Option, Some, ap, cond, drop, false, refl, slice_get, subst, sym, true}
use Rattle.std.specs.List.{AllByRecursion}
use Rattle.lego_base.specs.declared.ids.OpNo.{OpNo}
use Rattle.lego_msg.proofs.Lists.{Legal-back, Legal-front, run-append}
use Rattle.lego_msg.specs.Completions.{completed, done_or, finished, owners_after}
use Rattle.lego_msg.specs.Deliveries.{answered, comes, is_waiting, issuer_gets, memory_handles, noted, noted_with, reaction_of, reacts, stops, taken}
use Rattle.lego_msg.specs.Granted.{Granted}
use Rattle.lego_msg.specs.Legal.{Legal, May}
use Rattle.lego_msg.specs.Marks.{Call, Mark, Order}
use Rattle.lego_msg.specs.Operations.{patch_of}
use Rattle.lego_msg.specs.Plain.{Plain, effect}
use Rattle.lego_msg.specs.Replies.{IsReply}
use Rattle.lego_msg.specs.Run.{after, run}
use Rattle.lego_msg.specs.Sends.{begins, sent}
use Rattle.lego_msg.specs.State.{Mem}
use Rattle.lego_msg.specs.Track.{Track, healing_move, memory_count}
use Rattle.lego_msg.specs.declared.body.Body.{Body}
use Rattle.lego_msg.specs.declared.event.Event.{Event}
use Rattle.lego_msg.specs.declared.event.Event.TheVariants.{Access, Complete, Crash, Deliver, Drop, Fill, Out, Send, Turn}
use Rattle.lego_msg.specs.declared.healing.Healing.{Healing}
use Rattle.lego_msg.specs.declared.message.Message.{Message}
use Rattle.lego_msg.specs.declared.operation.Open.{Open}
use Rattle.lego_msg.specs.declared.operation.Operation.{Operation}
use Rattle.lego_msg.specs.declared.operation.Operation.TheVariants.{AsksAreas, AsksSize, Copies, CutsFile, CutsName, Drains, Drops, Finds, FreesFile, GetsName, Heals, ListsNames, MakesName, Reads, ReadsFile, SetsAreas, SetsHome, Unmaps, Writes, WritesFile}
use Rattle.lego_msg.specs.declared.place.Place.{Place}
use Rattle.lego_msg.specs.declared.place.Place.TheVariants.{Manager, Memory, Processor, Storage}
use Rattle.lego_rest.proofs.Resting.{middle-is-rest, rest-is-middle}
use Rattle.lego_rest.specs.Pending.{Says}
use Rattle.lego_rest.specs.Rest.{AtRest, CurrentFits, Middle}
use Rattle.rest_laws.proofs.Goes.{events-keep}
use Rattle.rest_laws.proofs.Opened.{every}
use Rattle.rest_laws.specs.GoingOn.{AnswersAreTrue, BeginsGranted, IsOfMessages, LeadsBack, LedBack, StandsOpen, owners_with}

-- WHAT AN ANSWER SAYS is what is so
pub says_reply : (n : ℕ) (f : Plain) (o : Operation) (from : Place) (told : Body) → Says n f o from told → IsReply f o told
says_reply n f (Finds pid region) from told says = says
says_reply n f (Reads pid line owner) from told says = says
says_reply n f (Writes origin patch owner) from told says = tt
says_reply n f (SetsHome pid region owner) from told says = tt
says_reply n f (SetsAreas pid region areas owner) from told says = tt
says_reply n f (AsksAreas pid region owner) from told says = says
says_reply n f (Drains m) from told says = tt
says_reply n f (Unmaps pid region first pages areas owner) from told says = tt
says_reply n f (Copies parent child regions owner) from told says = tt
says_reply n f (Drops pid) from told says = tt
says_reply n f (ReadsFile file block off len) from told says = says
says_reply n f (WritesFile file block off bytes) from told says = tt
says_reply n f (CutsFile file size) from told says = tt
says_reply n f (AsksSize file) from told says = says
says_reply n f (GetsName name) from told says = says
says_reply n f (MakesName name) from told says = says
says_reply n f (CutsName name) from told says = tt
says_reply n f ListsNames from told says = says
says_reply n f (FreesFile file) from told says = tt
says_reply n f (Heals to what) from told says = absurd says

-- WHAT STAYS while the operation is open
pub record Stands (t : Track) (o : Order) (rest : List Mark) (now : Track) : Type 0 where
  pub one : Open
  pub current : now.current ≡ Some one
  pub operation : one.operation ≡ o.operation
  pub by : one.by ≡ o.by
  pub plain : now.plain ≡ t.plain
  pub owners : now.owners ≡ owners_with o t.owners
  pub due : now.due ≡ rest

module _ (t : Track) (o : Order) (rest : List Mark) where
  sent_stands : (now : Track) (m : Message) → now.healing ≡ None → Stands t o rest now → Stands t o rest (sent now m now.owed now.healing now.current)
  sent_stands now m healed stands = subst (Stands t o rest) (sym (ap (λ (h : Option Healing). sent now m now.owed h now.current) healed ∙ ap (sent now m now.owed None) stands.current)) (by now.owed)
    where
      by : (owed : List Message) → Stands t o rest (sent now m owed None (Some stands.one))
      by (x ∷ more) = record { one = stands.one; current = stands.current; operation = stands.operation; by = stands.by; plain = stands.plain; owners = stands.owners; due = stands.due }
      by [] = record { one = record stands.one { unsent = drop 1 stands.one.unsent }; current = refl; operation = stands.operation; by = stands.by; plain = stands.plain; owners = stands.owners; due = stands.due }

  noted_stands : (now : Track) (m : Message) → Stands t o rest now → Stands t o rest (noted now m now.current)
  noted_stands now m stands = subst (Stands t o rest) (sym (ap (noted now m) stands.current)) (by (m.op.0 == stands.one.number.0) (reaction_of (patch_of stands.one.operation) m.body))
    where
      by : (b : Bool) (r : Option Body) → Stands t o rest (cond b (reacts now stands.one m r) now)
      by true None = record { one = answered stands.one m; current = refl; operation = stands.operation; by = stands.by; plain = stands.plain; owners = stands.owners; due = stands.due }
      by true (Some what) = record { one = stands.one; current = stands.current; operation = stands.operation; by = stands.by; plain = stands.plain; owners = stands.owners; due = stands.due }
      by false r = stands

  comes_stands : (now : Track) (m : Message) → now.healing ≡ None → Stands t o rest now → (to : Place) → Stands t o rest (comes (taken now) m to)
  comes_stands now m healed stands = by
    where
      taken_stands : Stands t o rest (taken now)
      taken_stands = record { one = stands.one; current = stands.current; operation = stands.operation; by = stands.by; plain = stands.plain; owners = stands.owners; due = stands.due }

      issuer : Stands t o rest (issuer_gets (taken now) m)
      issuer = under (stops m.body)
        where
          under : (b : Bool) → Stands t o rest (cond b (record (taken now) { stopped = true }) (noted_with (taken now) m now.healing))
          under true = record { one = stands.one; current = stands.current; operation = stands.operation; by = stands.by; plain = stands.plain; owners = stands.owners; due = stands.due }
          under false = subst (λ (h : Option Healing). Stands t o rest (noted_with (taken now) m h)) (sym healed) (noted_stands (taken now) m taken_stands)

      memory_stands : (k : ℕ) (s : Option Mem) → Stands t o rest (memory_handles (taken now) k m s)
      memory_stands k None = taken_stands
      memory_stands k (Some s) = record { one = stands.one; current = stands.current; operation = stands.operation; by = stands.by; plain = stands.plain; owners = stands.owners; due = stands.due }

      by : (to : Place) → Stands t o rest (comes (taken now) m to)
      by (Processor cpu) = issuer
      by (Memory number) = memory_stands number.0 (slice_get now.mems number.0)
      by Storage = record { one = stands.one; current = stands.current; operation = stands.operation; by = stands.by; plain = stands.plain; owners = stands.owners; due = stands.due }
      by Manager = issuer

  -- THE WAY from the first message on
  pub record Way (now : Track) : Type 0 where
    pub middle : Middle None now
    pub healed : now.healing ≡ None
    pub stands : Stands t o rest now

  no_begin : (now : Track) (one : Open) → now.current ≡ Some one → BeginsGranted now now.owed now.current now.due
  no_begin now one is = subst (λ (c : Option Open). BeginsGranted now now.owed c now.due) (sym is) (by now.owed now.due)
    where
      by : (owed : List Message) (due : List Mark) → BeginsGranted now owed (Some one) due
      by [] [] = tt
      by [] (d ∷ due) = tt
      by (x ∷ owed) due = tt

  pub goes : (now : Track) (e : Event) → May now e → IsOfMessages e → Way now → Way (after now e)
  goes now (Send m) may of way =
      let next = events-keep now (Send m) may tt (no_begin now way.stands.one way.stands.current) way.healed way.middle in
      record { middle = next.0; healed = next.1; stands = sent_stands now m way.healed way.stands }
  goes now (Deliver m) may of way =
      let next = events-keep now (Deliver m) may tt tt way.healed way.middle in
      record { middle = next.0; healed = next.1; stands = comes_stands now m way.healed way.stands m.to }
  goes now (Turn number pid) may of way = absurd of
  goes now (Access cpu pid address kind bytes) may of way = absurd of
  goes now (Fill pid address bytes) may of way = absurd of
  goes now (Drop cpu pid line) may of way = absurd of
  goes now (Crash number inc) may of way = absurd of
  goes now (Complete op) may of way = absurd of
  goes now (Out stream bytes) may of way = absurd of

  pub goes_on : (now : Track) (events : List Event) → Legal now events → AllByRecursion IsOfMessages events → Way now → Way (run now events)
  goes_on now [] legal all way = way
  goes_on now (e ∷ events) legal all way = goes_on (after now e) events legal.1 all.1 (goes now e legal.0 all.0 way)

  module _ (at_rest : AtRest t) (due : t.due ≡ Call o ∷ rest) (granted : Granted t o.by o.operation (owners_with o t.owners)) where
    -- the first message
    pub sets_out : (m : Message) → May t (Send m) → Way (after t (Send m))
    sets_out m may =
        let next = events-keep t (Send m) may tt (subst (λ (p : List Message × Option Open × List Mark). BeginsGranted t p.0 p.1 p.2) (λ i. (sym at_rest.owed i, sym at_rest.closed i, sym due i)) granted) at_rest.healed (rest-is-middle t at_rest) in
        record { middle = next.0; healed = next.1; stands = subst (Stands t o rest) (sym begun) (record { one = _; current = refl; operation = refl; by = refl; plain = refl; owners = refl; due = refl }) }
      where
        begun : sent t m t.owed t.healing t.current ≡ begins t m (Call o ∷ rest)
        begun = (λ i. sent t m (at_rest.owed i) (at_rest.healed i) (at_rest.closed i)) ∙ ap (begins t m) due

    way_of : (m : Message) (events : List Event) → Legal t (Send m ∷ events) → AllByRecursion IsOfMessages events → Way (run t (Send m ∷ events))
    way_of m events legal all = goes_on (after t (Send m)) events legal.1 all (sets_out m legal.0)

    pub answers_true : (m : Message) (events : List Event) → Legal t (Send m ∷ events) → AllByRecursion IsOfMessages events → StandsOpen t o rest (run t (Send m ∷ events))
    answers_true m events legal all =
        let way = way_of m events legal all in
        let now = run t (Send m ∷ events) in
        let fits : CurrentFits now (Some way.stands.one) = subst (CurrentFits now) way.stands.current way.middle.current in
        record {
          one = way.stands.one;
          current = way.stands.current;
          operation = way.stands.operation;
          by = way.stands.by;
          plain = way.stands.plain;
          owners = way.stands.owners;
          due = way.stands.due;
          answers = every (λ a fit. subst (λ (p : Plain × Operation). IsReply p.0 p.1 a.body) (λ i. (way.stands.plain i, way.stands.operation i)) (says_reply (memory_count now.shape) now.plain way.stands.one.operation a.place a.body fit.says)) way.stands.one.answers fits.0.answers;
        }

    -- the completion
    ends : (now : Track) (op : OpNo) → Way now → May now (Complete op) → LedBack t o rest (after now (Complete op))
    ends now op way may =
        let next = events-keep now (Complete op) may tt tt way.healed way.middle in
        let is : after now (Complete op) ≡ finished now (Some way.stands.one) = ap (completed now op.0) way.healed ∙ ap (finished now) way.stands.current in
        subst (LedBack t o rest) (sym is) (record {
          rests = middle-is-rest (finished now (Some way.stands.one)) refl way.healed may.goes_on (subst (Middle None) is next.0);
          plain = (λ i. effect (way.stands.operation i) (way.stands.plain i));
          owners = (λ i. owners_after (way.stands.operation i) (way.stands.owners i));
          due = way.stands.due;
        })

    -- at rest nothing is complete, and nothing is delivered
    pub nothing_done : (op : OpNo) → May t (Complete op) → ⊥
    nothing_done op may = none (sym (λ i. done_or t.net (healing_move (at_rest.healed i)) (done_or t.net (at_rest.closed i) None)) ∙ may.complete)
      where
        none : None ≡ Some op → ⊥
        none e = cc e

    pub nothing_delivered : (m : Message) → May t (Deliver m) → ⊥
    nothing_delivered m may = let waits : false ≡ true = sym (λ i. is_waiting (at_rest.healed i) (at_rest.closed i)) ∙ may.waiting in cc waits

    pub leads : (events : List Event) (op : OpNo) → Legal t (events ++ Complete op ∷ []) → AllByRecursion IsOfMessages events → LedBack t o rest (run t (events ++ Complete op ∷ []))
    leads [] op legal all = absurd (nothing_done op legal.0)
    leads (Send m ∷ events) op legal all =
        let front = Legal-front (after t (Send m)) events (Complete op ∷ []) legal.1 in
        let back = Legal-back (after t (Send m)) events (Complete op ∷ []) legal.1 in
        subst (LedBack t o rest) (sym (run-append (after t (Send m)) events (Complete op ∷ []))) (ends (run (after t (Send m)) events) op (goes_on (after t (Send m)) events front all.1 (sets_out m legal.0)) back.0)
    leads (Deliver m ∷ events) op legal all = absurd (nothing_delivered m legal.0)
    leads (Turn number pid ∷ events) op legal all = absurd all.0
    leads (Access cpu pid address kind bytes ∷ events) op legal all = absurd all.0
    leads (Fill pid address bytes ∷ events) op legal all = absurd all.0
    leads (Drop cpu pid line ∷ events) op legal all = absurd all.0
    leads (Crash number inc ∷ events) op legal all = absurd all.0
    leads (Complete number ∷ events) op legal all = absurd all.0
    leads (Out stream bytes ∷ events) op legal all = absurd all.0

pub answers-are-true : AnswersAreTrue
answers-are-true t o rest m events is legal all = answers_true t o rest is.rests is.due is.granted m events legal all

pub leads-back : LeadsBack
leads-back t o rest events op is legal all = leads t o rest is.rests is.due is.granted events op legal all
