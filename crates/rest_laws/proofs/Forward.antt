-- An operation that isn't complete has something on its way: each target has answered, or is still to.
use Rattle.std.proofs.Common.{◌≡◌, ◌⊎◌, ◌<◌, ◌==◌, ◌&&◌, ◌||◌, [], ◌∷◌, ◌++◌, ◌∙◌, ℕ, Bool, List, None, Option, Some, ap, append-nil, append_assoc, arith, cond, drop, false, inl, inr, length, not, refl, slice_get, subst, sym, true}
use Rattle.std.proofs.lemmas.Bool.{eq-eqb, eqb-false, eqb-true}
use Rattle.std.proofs.lemmas.Bool.Decides.{eqb_tells}
use Rattle.std.proofs.lemmas.List.Folds.{list_any-append}
use Rattle.std.specs.List.{AllByRecursion, list_any}
use Rattle.std.specs.Prelude.{slice_set}
use Rattle.lego_base.specs.declared.ids.OpNo.{OpNo}
use Rattle.lego_msg.proofs.Senders.{get_set, get_set_other, same_some}
use Rattle.lego_msg.specs.Completions.{move_finished, sent_again}
use Rattle.lego_msg.specs.Deliveries.{MayDeliver, answered, comes, is_sent, issuer_gets, is_waiting, memory_handles, noted, noted_with, reaction_of, reacts, stops, taken}
use Rattle.lego_msg.specs.Granted.{Granted}
use Rattle.lego_msg.specs.Legal.{Legal, May}
use Rattle.lego_msg.specs.Marks.{Call, Mark, Order, Show}
use Rattle.lego_msg.specs.Operations.{Ask, asks_of, messages_of, patch_of, receivers, targets_of}
use Rattle.lego_msg.specs.Places.{cache_of, is_among, is_issuer, memory, same_place, secondary_of}
use Rattle.lego_msg.specs.Plain.{Plain}
use Rattle.lego_msg.specs.Run.{after, run}
use Rattle.lego_msg.specs.Sends.{IsFirst, MayBegin, MaySend, begins, sent}
use Rattle.lego_msg.specs.State.{Mem, Waiter}
use Rattle.lego_msg.specs.Table.{handled, handled_body, stored, stored_body}
use Rattle.lego_msg.specs.Track.{Track, again, all_answered, has_answered, is_complete, is_done, is_pending, memory_count, opened}
use Rattle.lego_msg.specs.declared.body.Body.{Body}
use Rattle.lego_msg.specs.declared.body.Body.TheVariants as body
use Rattle.lego_msg.specs.declared.event.Event.{Event}
use Rattle.lego_msg.specs.declared.event.Event.TheVariants.{Access, Complete, Crash, Deliver, Drop, Fill, Out, Send, Turn}
use Rattle.lego_msg.specs.declared.healing.Healing.{Healing}
use Rattle.lego_msg.specs.declared.message.Message.{Message}
use Rattle.lego_msg.specs.declared.operation.Open.{Open}
use Rattle.lego_msg.specs.declared.operation.Operation.{Operation}
use Rattle.lego_msg.specs.declared.operation.Operation.TheVariants as op
use Rattle.lego_msg.specs.declared.place.Place.{Place}
use Rattle.lego_msg.specs.declared.place.Place.TheVariants.{Manager, Memory, Processor, Storage}
use Rattle.lego_rest.specs.Answers.{all_pending}
use Rattle.lego_rest.specs.Fits.{OpenFits, background, batch_message, receipt}
use Rattle.lego_rest.specs.Pending.{AnAnswer, First, HandedOn, HandsOn, IsPlace, Left, MayPend, OfBackground, OfMove, OfOpen, OfOperation, Pends, Reaction, Reacts}
use Rattle.lego_rest.specs.Rest.{AtRest, CurrentFits, Middle}
use Rattle.rest_laws.proofs.Emptied.{on_its_way}
use Rattle.rest_laws.proofs.Following.{Follows, IsServed, all_served, drains_follow, file_follows, first_any, is_asked, is_filed, later_any, row_follows, sent_by, waits_for}
use Rattle.rest_laws.proofs.Goes.{called_of}
use Rattle.rest_laws.proofs.Leads.{Way, goes, sets_out}
use Rattle.rest_laws.proofs.Net.{any-taken}
use Rattle.rest_laws.proofs.Noted.{OfTarget, is_of_target, place_same}
use Rattle.rest_laws.proofs.Opened.{all_among, every, first_from}
use Rattle.rest_laws.proofs.Ended.{get_within, place_is}
use Rattle.rest_laws.proofs.Delivered.{left_of}
use Rattle.rest_laws.proofs.Taken.{whole}
use Rattle.rest_laws.proofs.Truth.{and_true, both_true}
use Rattle.rest_laws.specs.Forward.{IsUnderWay, SomethingComes}
use Rattle.rest_laws.specs.GoingOn.{IsOfMessages, owners_with}
use Rattle.rest_laws.specs.KindsEnding.{IsCalled}
use Rattle.lego_msg.specs.declared.place.Place.TheVariants as place

-- what is written to a file or cuts it goes to storage past its target's first message
abbrev is_file_change : Operation → Bool
is_file_change (op.WritesFile file block off bytes) = true
is_file_change (op.CutsFile file size) = true
is_file_change other = false

-- whether a message of an operation is from a place or to it; of a change of a file, any message of it
abbrev concerns : ℕ → Bool → Place → Message → Bool
concerns number file p x = x.op.0 == number && (file || (same_place x.from p || same_place x.to p))

pub record Waits (mems : List Mem) (number : ℕ) (p : Place) : Type 0 where
  k : ℕ
  s : Mem
  is : p ≡ memory k
  at : slice_get mems k ≡ Some s
  waits : waits_for number s.drains ≡ true

abbrev Reached : List Mem → List Message → Open → Place → Type 0
Reached mems pending one p = (has_answered p one.answers ≡ true) ⊎ ((list_any (concerns one.number.0 (is_file_change one.operation) p) pending ≡ true) ⊎ Waits mems one.number.0 p)

-- WHAT IS KNOWN OF A TARGET: it is no issuer; a read's is the cache; and a first message concerns it
abbrev ReadsAt : ℕ → Operation → Place → Type 0
ReadsAt n (op.ReadsFile file block off len) p = p ≡ memory (cache_of n file.0)
ReadsAt n other p = Unit {0}

pub record Target (n : ℕ) (o : Operation) (number : ℕ) (first : List Message) (p : Place) : Type 0 where
  component : is_issuer p ≡ false
  reads : ReadsAt n o p
  files : is_file_change o ≡ true → p ≡ place.Storage
  concerned : list_any (concerns number (is_file_change o) p) first ≡ true

own_true : (number : ℕ) (file b c : Bool) → c ≡ true → (number == number && (file || (b || c))) ≡ true
own_true number file b c e = and_true (number == number) (file || (b || c)) (eq-eqb number number refl) (later_any file (b || c) (later_any b c e))

receivers_known : (file : Bool) (by : Place) (number : OpNo) (asks : List Ask) → AllByRecursion IsServed (messages_of by number asks) → AllByRecursion (λ (p : Place). (is_issuer p ≡ false) × (list_any (concerns number.0 file p) (messages_of by number asks) ≡ true)) (receivers asks)
receivers_known file by number [] served = tt
receivers_known file by number (a ∷ asks) served = (
  (served.0.component, first_any (concerns number.0 file a.to (record { from = by; to = a.to; op = number; body = a.body })) (list_any (concerns number.0 file a.to) (messages_of by number asks)) (own_true number.0 file (same_place by a.to) (same_place a.to a.to) (place_same a.to))),
  every (λ p known. (known.0, later_any (concerns number.0 file p (record { from = by; to = a.to; op = number; body = a.body })) (list_any (concerns number.0 file p) (messages_of by number asks)) known.1)) (receivers asks) (receivers_known file by number asks served.1),
)

targets_known : (n : ℕ) (by : Place) (number : OpNo) (o : Operation) → IsCalled o → AllByRecursion (Target n o number.0 (messages_of by number (asks_of n o))) (targets_of n o)
targets_known n by number (op.Finds pid region) called = every {P = λ (p : Place). (is_issuer p ≡ false) × (list_any (concerns number.0 false p) (messages_of by number (asks_of n (op.Finds pid region))) ≡ true)} {Q = Target n (op.Finds pid region) number.0 (messages_of by number (asks_of n (op.Finds pid region)))} (λ p known. record { component = known.0; reads = tt; files = λ e. cc e; concerned = known.1 }) (receivers (asks_of n (op.Finds pid region))) (receivers_known false by number (asks_of n (op.Finds pid region)) (all_served n by number (op.Finds pid region) tt))
targets_known n by number (op.Reads pid line owner) called = every {P = λ (p : Place). (is_issuer p ≡ false) × (list_any (concerns number.0 false p) (messages_of by number (asks_of n (op.Reads pid line owner))) ≡ true)} {Q = Target n (op.Reads pid line owner) number.0 (messages_of by number (asks_of n (op.Reads pid line owner)))} (λ p known. record { component = known.0; reads = tt; files = λ e. cc e; concerned = known.1 }) (receivers (asks_of n (op.Reads pid line owner))) (receivers_known false by number (asks_of n (op.Reads pid line owner)) (all_served n by number (op.Reads pid line owner) tt))
targets_known n by number (op.Writes origin patch owner) called = every {P = λ (p : Place). (is_issuer p ≡ false) × (list_any (concerns number.0 false p) (messages_of by number (asks_of n (op.Writes origin patch owner))) ≡ true)} {Q = Target n (op.Writes origin patch owner) number.0 (messages_of by number (asks_of n (op.Writes origin patch owner)))} (λ p known. record { component = known.0; reads = tt; files = λ e. cc e; concerned = known.1 }) (receivers (asks_of n (op.Writes origin patch owner))) (receivers_known false by number (asks_of n (op.Writes origin patch owner)) (all_served n by number (op.Writes origin patch owner) tt))
targets_known n by number (op.SetsHome pid region owner) called = every {P = λ (p : Place). (is_issuer p ≡ false) × (list_any (concerns number.0 false p) (messages_of by number (asks_of n (op.SetsHome pid region owner))) ≡ true)} {Q = Target n (op.SetsHome pid region owner) number.0 (messages_of by number (asks_of n (op.SetsHome pid region owner)))} (λ p known. record { component = known.0; reads = tt; files = λ e. cc e; concerned = known.1 }) (receivers (asks_of n (op.SetsHome pid region owner))) (receivers_known false by number (asks_of n (op.SetsHome pid region owner)) (all_served n by number (op.SetsHome pid region owner) tt))
targets_known n by number (op.SetsAreas pid region areas owner) called = every {P = λ (p : Place). (is_issuer p ≡ false) × (list_any (concerns number.0 false p) (messages_of by number (asks_of n (op.SetsAreas pid region areas owner))) ≡ true)} {Q = Target n (op.SetsAreas pid region areas owner) number.0 (messages_of by number (asks_of n (op.SetsAreas pid region areas owner)))} (λ p known. record { component = known.0; reads = tt; files = λ e. cc e; concerned = known.1 }) (receivers (asks_of n (op.SetsAreas pid region areas owner))) (receivers_known false by number (asks_of n (op.SetsAreas pid region areas owner)) (all_served n by number (op.SetsAreas pid region areas owner) tt))
targets_known n by number (op.AsksAreas pid region owner) called = every {P = λ (p : Place). (is_issuer p ≡ false) × (list_any (concerns number.0 false p) (messages_of by number (asks_of n (op.AsksAreas pid region owner))) ≡ true)} {Q = Target n (op.AsksAreas pid region owner) number.0 (messages_of by number (asks_of n (op.AsksAreas pid region owner)))} (λ p known. record { component = known.0; reads = tt; files = λ e. cc e; concerned = known.1 }) (receivers (asks_of n (op.AsksAreas pid region owner))) (receivers_known false by number (asks_of n (op.AsksAreas pid region owner)) (all_served n by number (op.AsksAreas pid region owner) tt))
targets_known n by number (op.Drains mem) called = every {P = λ (p : Place). (is_issuer p ≡ false) × (list_any (concerns number.0 false p) (messages_of by number (asks_of n (op.Drains mem))) ≡ true)} {Q = Target n (op.Drains mem) number.0 (messages_of by number (asks_of n (op.Drains mem)))} (λ p known. record { component = known.0; reads = tt; files = λ e. cc e; concerned = known.1 }) (receivers (asks_of n (op.Drains mem))) (receivers_known false by number (asks_of n (op.Drains mem)) (all_served n by number (op.Drains mem) tt))
targets_known n by number (op.Unmaps pid region first pages areas owner) called = every {P = λ (p : Place). (is_issuer p ≡ false) × (list_any (concerns number.0 false p) (messages_of by number (asks_of n (op.Unmaps pid region first pages areas owner))) ≡ true)} {Q = Target n (op.Unmaps pid region first pages areas owner) number.0 (messages_of by number (asks_of n (op.Unmaps pid region first pages areas owner)))} (λ p known. record { component = known.0; reads = tt; files = λ e. cc e; concerned = known.1 }) (receivers (asks_of n (op.Unmaps pid region first pages areas owner))) (receivers_known false by number (asks_of n (op.Unmaps pid region first pages areas owner)) (all_served n by number (op.Unmaps pid region first pages areas owner) tt))
targets_known n by number (op.Copies parent child regions owner) called = every {P = λ (p : Place). (is_issuer p ≡ false) × (list_any (concerns number.0 false p) (messages_of by number (asks_of n (op.Copies parent child regions owner))) ≡ true)} {Q = Target n (op.Copies parent child regions owner) number.0 (messages_of by number (asks_of n (op.Copies parent child regions owner)))} (λ p known. record { component = known.0; reads = tt; files = λ e. cc e; concerned = known.1 }) (receivers (asks_of n (op.Copies parent child regions owner))) (receivers_known false by number (asks_of n (op.Copies parent child regions owner)) (all_served n by number (op.Copies parent child regions owner) tt))
targets_known n by number (op.Drops pid) called = every {P = λ (p : Place). (is_issuer p ≡ false) × (list_any (concerns number.0 false p) (messages_of by number (asks_of n (op.Drops pid))) ≡ true)} {Q = Target n (op.Drops pid) number.0 (messages_of by number (asks_of n (op.Drops pid)))} (λ p known. record { component = known.0; reads = tt; files = λ e. cc e; concerned = known.1 }) (receivers (asks_of n (op.Drops pid))) (receivers_known false by number (asks_of n (op.Drops pid)) (all_served n by number (op.Drops pid) tt))
targets_known n by number (op.ReadsFile file block off len) called = let known = receivers_known false by number (asks_of n (op.ReadsFile file block off len)) (all_served n by number (op.ReadsFile file block off len) tt) in (record { component = known.0.0; reads = refl; files = λ e. cc e; concerned = known.0.1 }, tt)
targets_known n by number (op.WritesFile file block off bytes) called = (record { component = refl; reads = tt; files = λ e. refl; concerned = ap (λ (b : Bool). (b && true) || false) (eq-eqb number.0 number.0 refl) }, tt)
targets_known n by number (op.CutsFile file size) called = (record { component = refl; reads = tt; files = λ e. refl; concerned = ap (λ (b : Bool). (b && true) || false) (eq-eqb number.0 number.0 refl) }, tt)
targets_known n by number (op.AsksSize file) called = every {P = λ (p : Place). (is_issuer p ≡ false) × (list_any (concerns number.0 false p) (messages_of by number (asks_of n (op.AsksSize file))) ≡ true)} {Q = Target n (op.AsksSize file) number.0 (messages_of by number (asks_of n (op.AsksSize file)))} (λ p known. record { component = known.0; reads = tt; files = λ e. cc e; concerned = known.1 }) (receivers (asks_of n (op.AsksSize file))) (receivers_known false by number (asks_of n (op.AsksSize file)) (all_served n by number (op.AsksSize file) tt))
targets_known n by number (op.GetsName name) called = every {P = λ (p : Place). (is_issuer p ≡ false) × (list_any (concerns number.0 false p) (messages_of by number (asks_of n (op.GetsName name))) ≡ true)} {Q = Target n (op.GetsName name) number.0 (messages_of by number (asks_of n (op.GetsName name)))} (λ p known. record { component = known.0; reads = tt; files = λ e. cc e; concerned = known.1 }) (receivers (asks_of n (op.GetsName name))) (receivers_known false by number (asks_of n (op.GetsName name)) (all_served n by number (op.GetsName name) tt))
targets_known n by number (op.MakesName name) called = every {P = λ (p : Place). (is_issuer p ≡ false) × (list_any (concerns number.0 false p) (messages_of by number (asks_of n (op.MakesName name))) ≡ true)} {Q = Target n (op.MakesName name) number.0 (messages_of by number (asks_of n (op.MakesName name)))} (λ p known. record { component = known.0; reads = tt; files = λ e. cc e; concerned = known.1 }) (receivers (asks_of n (op.MakesName name))) (receivers_known false by number (asks_of n (op.MakesName name)) (all_served n by number (op.MakesName name) tt))
targets_known n by number (op.CutsName name) called = every {P = λ (p : Place). (is_issuer p ≡ false) × (list_any (concerns number.0 false p) (messages_of by number (asks_of n (op.CutsName name))) ≡ true)} {Q = Target n (op.CutsName name) number.0 (messages_of by number (asks_of n (op.CutsName name)))} (λ p known. record { component = known.0; reads = tt; files = λ e. cc e; concerned = known.1 }) (receivers (asks_of n (op.CutsName name))) (receivers_known false by number (asks_of n (op.CutsName name)) (all_served n by number (op.CutsName name) tt))
targets_known n by number op.ListsNames called = every {P = λ (p : Place). (is_issuer p ≡ false) × (list_any (concerns number.0 false p) (messages_of by number (asks_of n op.ListsNames)) ≡ true)} {Q = Target n op.ListsNames number.0 (messages_of by number (asks_of n op.ListsNames))} (λ p known. record { component = known.0; reads = tt; files = λ e. cc e; concerned = known.1 }) (receivers (asks_of n op.ListsNames)) (receivers_known false by number (asks_of n op.ListsNames) (all_served n by number op.ListsNames tt))
targets_known n by number (op.FreesFile file) called = every {P = λ (p : Place). (is_issuer p ≡ false) × (list_any (concerns number.0 false p) (messages_of by number (asks_of n (op.FreesFile file))) ≡ true)} {Q = Target n (op.FreesFile file) number.0 (messages_of by number (asks_of n (op.FreesFile file)))} (λ p known. record { component = known.0; reads = tt; files = λ e. cc e; concerned = known.1 }) (receivers (asks_of n (op.FreesFile file))) (receivers_known false by number (asks_of n (op.FreesFile file)) (all_served n by number (op.FreesFile file) tt))
targets_known n by number (op.Heals to_ what_) called = absurd called

any_weaker : (test other : Message → Bool) → ((x : Message) → test x ≡ true → other x ≡ true) → (xs : List Message) → list_any test xs ≡ true → list_any other xs ≡ true
any_weaker test other more [] e = cc e
any_weaker test other more (x ∷ xs) e = by (test x) refl e (any_weaker test other more xs)
  where
    by : (a : Bool) → test x ≡ a → (a || list_any test xs) ≡ true → (list_any test xs ≡ true → list_any other xs ≡ true) → (other x || list_any other xs) ≡ true
    by true is e rest = first_any (other x) (list_any other xs) (more x is)
    by false is e rest = later_any (other x) (list_any other xs) (rest e)

-- what is sent from a place concerns it
from_concerns : (number : ℕ) (file : Bool) (p q : Place) → q ≡ p → (out : List Message) → list_any (sent_by number q) out ≡ true → list_any (concerns number file p) out ≡ true
from_concerns number file p q same out = any_weaker (sent_by number q) (concerns number file p) (λ x e. by (x.op.0 == number) (same_place x.from q) (same_place x.from p) (same_place x.to p) (ap (same_place x.from) same) e) out
  where
    by : (a b c d : Bool) → b ≡ c → (a && b) ≡ true → (a && (file || (c || d))) ≡ true
    by true true true d same e = later_any file (true || d) refl
    by true true false d same e = cc same
    by true false c d same e = cc e
    by false b c d same e = cc e

-- and of a change of a file any message does
file_concerns : (number : ℕ) (p q : Place) (out : List Message) → list_any (sent_by number q) out ≡ true → list_any (concerns number true p) out ≡ true
file_concerns number p q = any_weaker (sent_by number q) (concerns number true p) (λ x e. by (x.op.0 == number) (same_place x.from q) e)
  where
    by : (a b : Bool) → (a && b) ≡ true → (a && true) ≡ true
    by true b e = refl
    by false b e = cc e

-- A CHANGE OF A FILE at its cache is handed on
file_row : (n : ℕ) (f : Plain) (o : Open) (s : Mem) (x : Message) (k : ℕ) → x.to ≡ memory k → is_file_change o.operation ≡ true → OfOpen n f x o → is_issuer o.by ≡ true → list_any (sent_by x.op.0 (memory s.id)) (handled s x).1 ≡ true
file_row n f o s x k to file of issuer = by o.operation file of
  where
    own : (number : ℕ) → ((number == number && same_place (memory s.id) (memory s.id)) || false) ≡ true
    own number = ap (λ (b : Bool). b || false) (and_true (number == number) (same_place (memory s.id) (memory s.id)) (eq-eqb number number refl) (eq-eqb s.id s.id refl))

    storage : {X : Type 0} → memory k ≡ place.Storage → X
    storage e = cc e

    by : (p : Operation) → is_file_change p ≡ true → OfOpen n f x (record o { operation = p; targets = o.targets }) → list_any (sent_by x.op.0 (memory s.id)) (handled s x).1 ≡ true
    by (op.Finds pid region) is of = cc is
    by (op.Reads pid line owner) is of = cc is
    by (op.Writes origin patch owner) is of = cc is
    by (op.SetsHome pid region owner) is of = cc is
    by (op.SetsAreas pid region areas owner) is of = cc is
    by (op.AsksAreas pid region owner) is of = cc is
    by (op.Drains mem) is of = cc is
    by (op.Unmaps pid region first pages areas owner) is of = cc is
    by (op.Copies parent child regions owner) is of = cc is
    by (op.Drops pid) is of = cc is
    by (op.ReadsFile file block off len) is of = cc is
    by (op.WritesFile file block off bytes) is (First (inl e)) = subst (λ (told : Body). list_any (sent_by x.op.0 (memory s.id)) (handled_body s x told).1 ≡ true) (sym (ap (λ (y : Message). y.body) e)) (own x.op.0)
    by (op.WritesFile file block off bytes) is (First (inr nobody)) = absurd nobody
    by (op.WritesFile file block off bytes) is (Reaction from how) = absurd how
    by (op.WritesFile file block off bytes) is (HandedOn how) = storage (sym to ∙ how.1)
    by (op.WritesFile file block off bytes) is (AnAnswer back target says) = let both : false ≡ true = ap is_issuer (sym to ∙ back) ∙ issuer in cc both
    by (op.CutsFile file size) is (First (inl e)) = subst (λ (told : Body). list_any (sent_by x.op.0 (memory s.id)) (handled_body s x told).1 ≡ true) (sym (ap (λ (y : Message). y.body) e)) (own x.op.0)
    by (op.CutsFile file size) is (First (inr nobody)) = absurd nobody
    by (op.CutsFile file size) is (Reaction from how) = absurd how
    by (op.CutsFile file size) is (HandedOn how) = storage (sym to ∙ how.1)
    by (op.CutsFile file size) is (AnAnswer back target says) = let both : false ≡ true = ap is_issuer (sym to ∙ back) ∙ issuer in cc both
    by (op.AsksSize file) is of = cc is
    by (op.GetsName name) is of = cc is
    by (op.MakesName name) is of = cc is
    by (op.CutsName name) is of = cc is
    by op.ListsNames is of = cc is
    by (op.FreesFile file) is of = cc is
    by (op.Heals to_ what_) is of = cc is

-- nothing is healed
pub record Unhurt (now : Track) : Type 0 where
  pub healed : now.healing ≡ None
  pub middle : Middle None now

-- DELIVERIES
module _ (now : Track) (way : Unhurt now) (one : Open) (current : now.current ≡ Some one) (x : Message) (may : MayDeliver now x) where
  abbrev number : ℕ
  number = one.number.0

  abbrev file : Bool
  file = is_file_change one.operation

  fits : OpenFits (memory_count now.shape) now.owners now.plain now.next one
  fits = (subst (CurrentFits now) current way.middle.current).0

  pend : MayPend None (memory_count now.shape) now.plain (Some one) None now.next x
  pend = on_its_way now one x may way.healed current way.middle

  left : left_of now ≡ all_pending (taken now)
  left = sym (ap (λ (ms : List Message). left_of now ++ ms) may.owed ∙ append-nil (left_of now))

  targets : AllByRecursion (Target (memory_count now.shape) one.operation number (messages_of one.by one.number (asks_of (memory_count now.shape) one.operation))) one.targets
  targets = subst (AllByRecursion (Target (memory_count now.shape) one.operation number (messages_of one.by one.number (asks_of (memory_count now.shape) one.operation)))) (sym fits.targets) (targets_known (memory_count now.shape) one.by one.number one.operation (called_of now.owners now.plain one.operation fits.fits))

  -- a pending message concerns a place: it is the one that is delivered, or is left
  taken_or_left : (p : Place) → list_any (concerns number file p) (all_pending now) ≡ true → (concerns number file p x ≡ true) ⊎ (list_any (concerns number file p) (left_of now) ≡ true)
  taken_or_left p e = by (concerns number file p x) (list_any (concerns number file p) (left_of now)) (ap (λ (b : Bool). concerns number file p x || b) (ap (list_any (concerns number file p)) left) ∙ sym (any-taken (concerns number file p) (all_pending now) (all_pending (taken now)) x (whole now x may)) ∙ e)
    where
      by : (a b : Bool) → (a || b) ≡ true → (a ≡ true) ⊎ (b ≡ true)
      by true b e = inl refl
      by false b e = inr e

  still_left : (p : Place) (out : List Message) → list_any (concerns number file p) (left_of now) ≡ true → list_any (concerns number file p) (left_of now ++ out) ≡ true
  still_left p out e = list_any-append (concerns number file p) (left_of now) out ∙ first_any (list_any (concerns number file p) (left_of now)) (list_any (concerns number file p) out) e

  now_sent : (p : Place) (out : List Message) → list_any (concerns number file p) out ≡ true → list_any (concerns number file p) (left_of now ++ out) ≡ true
  now_sent p out e = list_any-append (concerns number file p) (left_of now) out ∙ later_any (list_any (concerns number file p) (left_of now)) (list_any (concerns number file p) out) e

  -- what concerns a place is of the operation
  of_number : (p : Place) → concerns number file p x ≡ true → x.op.0 ≡ number
  of_number p e = eqb-true x.op.0 number (both_true (x.op.0 == number) (file || (same_place x.from p || same_place x.to p)) e).0

  of_open : x.op.0 ≡ number → OfOpen (memory_count now.shape) now.plain x one
  of_open is = by pend.kind
    where
      by : Pends None (memory_count now.shape) now.plain (Some one) None now.next x → OfOpen (memory_count now.shape) now.plain x one
      by (OfOperation of) = of.2
      by (OfMove of) = absurd of
      by (OfBackground of) = let zero_ = of.number in let some = fits.some in absurd (omega (arith, zero_, some, is))
      by (Left old) = absurd (eqb-false x.op.0 number old.not_current is)

  -- it isn't from a target, unless to one too, or of a change of a file
  apart_issuer : (p : Place) → is_issuer p ≡ false → is_issuer one.by ≡ true → same_place one.by p ≡ false
  apart_issuer p component issuer = by (same_place one.by p) refl
    where
      by : (b : Bool) → same_place one.by p ≡ b → b ≡ false
      by true e = let both : true ≡ false = sym issuer ∙ ap is_issuer (place_is one.by p e) ∙ component in cc both
      by false e = refl

  to_it : (p : Place) → x.from ≡ one.by → is_issuer p ≡ false → concerns number file p x ≡ true → (file ≡ true) ⊎ (same_place x.to p ≡ true)
  to_it p from component e = by file (same_place x.from p) (same_place x.to p) (ap (λ (q : Place). same_place q p) from ∙ apart_issuer p component fits.by) (both_true (x.op.0 == number) (file || (same_place x.from p || same_place x.to p)) e).1
    where
      by : (a b c : Bool) → b ≡ false → (a || (b || c)) ≡ true → (a ≡ true) ⊎ (c ≡ true)
      by true b c none e = inl refl
      by false true c none e = cc none
      by false false c none e = inr e

  -- A MEMORY
  module _ (j : ℕ) (s : Mem) (to : x.to ≡ memory j) (at : slice_get now.mems j ≡ Some s) where
    abbrev out : List Message
    out = (handled s x).1

    id : memory s.id ≡ memory j
    id = ap memory (way.middle.forms j s at).id

    -- what follows a message with the number is from this memory, or waits at it
    followed : (p : Place) → p ≡ memory j → Follows number s.id (handled s x) → Reached (slice_set now.mems j (handled s x).0) (left_of now ++ out) one p
    followed p is (inl e) = inr (inl (now_sent p out (from_concerns number file p (memory s.id) (id ∙ sym is) out e)))
    followed p is (inr e) = inr (inr (record { k = j; s = (handled s x).0; is = is; at = get_set now.mems j s (handled s x).0 at; waits = e }))

    asked_here : OfOpen (memory_count now.shape) now.plain x one → is_asked x.body ≡ true
    asked_here (First among) = (all_among IsServed (messages_of one.by one.number (asks_of (memory_count now.shape) one.operation)) x among (all_served (memory_count now.shape) one.by one.number one.operation (called_of now.owners now.plain one.operation fits.fits))).asked j to
    asked_here (Reaction from how) = reacts_asked one.operation how
      where
        reacts_asked : (p : Operation) → Reacts (memory_count now.shape) p x.to x.body → is_asked x.body ≡ true
        reacts_asked (op.Finds pid region) how = absurd how
        reacts_asked (op.Reads pid line owner) how = absurd how
        reacts_asked (op.Writes origin patch owner) (where_, inl e) = ap is_asked e
        reacts_asked (op.Writes origin patch owner) (where_, inr (inl e)) = ap is_asked e
        reacts_asked (op.Writes origin patch owner) (where_, inr (inr nobody)) = absurd nobody
        reacts_asked (op.SetsHome pid region owner) how = absurd how
        reacts_asked (op.SetsAreas pid region areas owner) how = absurd how
        reacts_asked (op.AsksAreas pid region owner) how = absurd how
        reacts_asked (op.Drains mem) how = absurd how
        reacts_asked (op.Unmaps pid region first pages areas owner) how = absurd how
        reacts_asked (op.Copies parent child regions owner) how = absurd how
        reacts_asked (op.Drops pid) how = absurd how
        reacts_asked (op.ReadsFile file_ block off len) how = absurd how
        reacts_asked (op.WritesFile file_ block off bytes) how = absurd how
        reacts_asked (op.CutsFile file_ size) how = absurd how
        reacts_asked (op.AsksSize file_) how = absurd how
        reacts_asked (op.GetsName name) how = absurd how
        reacts_asked (op.MakesName name) how = absurd how
        reacts_asked (op.CutsName name) how = absurd how
        reacts_asked op.ListsNames how = absurd how
        reacts_asked (op.FreesFile file_) how = absurd how
        reacts_asked (op.Heals to_ what_) how = absurd how
    asked_here (HandedOn how) = handed one.operation how
      where
        handed : (p : Operation) → HandsOn (memory_count now.shape) now.plain one.by p x → is_asked x.body ≡ true
        handed (op.Finds pid region) how = absurd how
        handed (op.Reads pid line owner) how = absurd how
        handed (op.Writes origin patch owner) how = absurd how
        handed (op.SetsHome pid region owner) how = absurd how
        handed (op.SetsAreas pid region areas owner) how = absurd how
        handed (op.AsksAreas pid region owner) how = absurd how
        handed (op.Drains mem) how = absurd how
        handed (op.Unmaps pid region first pages areas owner) how = absurd how
        handed (op.Copies parent child regions owner) how = absurd how
        handed (op.Drops pid) how = absurd how
        handed (op.ReadsFile file_ block off len) (inl how) = let both : memory j ≡ place.Storage = sym to ∙ how.1 in cc both
        handed (op.ReadsFile file_ block off len) (inr how) = ap is_asked how.2
        handed (op.WritesFile file_ block off bytes) how = let both : memory j ≡ place.Storage = sym to ∙ how.1 in cc both
        handed (op.CutsFile file_ size) how = let both : memory j ≡ place.Storage = sym to ∙ how.1 in cc both
        handed (op.AsksSize file_) how = absurd how
        handed (op.GetsName name) how = absurd how
        handed (op.MakesName name) how = absurd how
        handed (op.CutsName name) how = absurd how
        handed op.ListsNames how = absurd how
        handed (op.FreesFile file_) how = absurd how
        handed (op.Heals to_ what_) how = absurd how
    asked_here (AnAnswer back target says) = let both : false ≡ true = ap is_issuer (sym to ∙ back) ∙ fits.by in cc both

    -- a target that a message here concerns is this memory, or the operation changes a file
    is_here : (p : Place) → is_issuer p ≡ false → ReadsAt (memory_count now.shape) one.operation p → OfOpen (memory_count now.shape) now.plain x one → concerns number file p x ≡ true → (file ≡ true) ⊎ (same_place x.to p ≡ true)
    is_here p component reads (First among) e = to_it p (first_from one.by one.number (asks_of (memory_count now.shape) one.operation) x among).0 component e
    is_here p component reads (Reaction from how) e = to_it p from component e
    is_here p component reads (HandedOn how) e = handed one.operation how reads
      where
        handed : (q : Operation) → HandsOn (memory_count now.shape) now.plain one.by q x → ReadsAt (memory_count now.shape) q p → (is_file_change one.operation ≡ true) ⊎ (same_place x.to p ≡ true)
        handed (op.Finds pid region) how reads = absurd how
        handed (op.Reads pid line owner) how reads = absurd how
        handed (op.Writes origin patch owner) how reads = absurd how
        handed (op.SetsHome pid region owner) how reads = absurd how
        handed (op.SetsAreas pid region areas owner) how reads = absurd how
        handed (op.AsksAreas pid region owner) how reads = absurd how
        handed (op.Drains mem) how reads = absurd how
        handed (op.Unmaps pid region first pages areas owner) how reads = absurd how
        handed (op.Copies parent child regions owner) how reads = absurd how
        handed (op.Drops pid) how reads = absurd how
        handed (op.ReadsFile file_ block off len) (inl how) reads = let both : memory j ≡ place.Storage = sym to ∙ how.1 in cc both
        handed (op.ReadsFile file_ block off len) (inr how) reads = inr (ap (λ (r : Place). same_place r p) (how.1 ∙ sym reads) ∙ place_same p)
        handed (op.WritesFile file_ block off bytes) how reads = let both : memory j ≡ place.Storage = sym to ∙ how.1 in cc both
        handed (op.CutsFile file_ size) how reads = let both : memory j ≡ place.Storage = sym to ∙ how.1 in cc both
        handed (op.AsksSize file_) how reads = absurd how
        handed (op.GetsName name) how reads = absurd how
        handed (op.MakesName name) how reads = absurd how
        handed (op.CutsName name) how reads = absurd how
        handed op.ListsNames how reads = absurd how
        handed (op.FreesFile file_) how reads = absurd how
        handed (op.Heals to_ what_) how reads = absurd how
    is_here p component reads (AnAnswer back target says) e = let both : false ≡ true = ap is_issuer (sym to ∙ back) ∙ fits.by in cc both

    memory_reaches : (p : Place) → Target (memory_count now.shape) one.operation number (messages_of one.by one.number (asks_of (memory_count now.shape) one.operation)) p → Reached now.mems (all_pending now) one p → Reached (slice_set now.mems j (handled s x).0) (left_of now ++ out) one p
    memory_reaches p known (inl answered_) = inl answered_
    memory_reaches p known (inr (inl pending)) = elim (taken_or_left p pending) [
      | inr still ↦ inr (inl (still_left p out still))
      | inl it ↦
          let number_is = of_number p it in
          let kind = of_open number_is in
          let follows : Follows number s.id (handled s x) = subst (λ (n : ℕ). Follows n s.id (handled s x)) number_is (row_follows s x x.body (asked_here kind)) in
          elim (is_here p known.component known.reads kind it) [
            | inr same ↦ followed p (sym (place_is x.to p same) ∙ to) follows
            | inl change ↦ inr (inl (now_sent p out (subst (λ (b : Bool). list_any (concerns number b p) out ≡ true) (sym change) (file_concerns number p (memory s.id) out (subst (λ (n : ℕ). list_any (sent_by n (memory s.id)) out ≡ true) number_is (file_row (memory_count now.shape) now.plain one s x j to change kind fits.by))))))
          ]
    ]
    memory_reaches p known (inr (inr waits)) = elim (eqb_tells j waits.k) [
      | inl same ↦
          let is_s : waits.s ≡ s = same_some waits.s s (sym waits.at ∙ ap (slice_get now.mems) (sym same.1) ∙ at) in
          followed p (waits.is ∙ ap memory (sym same.1)) (drains_follow number s x x.body (ap (λ (y : Mem). waits_for number y.drains) (sym is_s) ∙ waits.waits))
      | inr differ ↦ inr (inr (record { k = waits.k; s = waits.s; is = waits.is; at = get_set_other now.mems j waits.k (handled s x).0 differ.1 ∙ waits.at; waits = waits.waits }))
    ]

  -- STORAGE
  module _ (to : x.to ≡ place.Storage) where
    abbrev told : List Message
    told = (stored now.disk x).1

    filed_here : OfOpen (memory_count now.shape) now.plain x one → is_filed x.body ≡ true
    filed_here (First among) = (all_among IsServed (messages_of one.by one.number (asks_of (memory_count now.shape) one.operation)) x among (all_served (memory_count now.shape) one.by one.number one.operation (called_of now.owners now.plain one.operation fits.fits))).filed to
    filed_here (Reaction from how) = no_reacts one.operation how
      where
        no_reacts : (p : Operation) → Reacts (memory_count now.shape) p x.to x.body → is_filed x.body ≡ true
        no_reacts (op.Finds pid region) how = absurd how
        no_reacts (op.Reads pid line owner) how = absurd how
        no_reacts (op.Writes origin patch owner) how = let both : place.Storage ≡ memory (secondary_of (memory_count now.shape) owner.0) = sym to ∙ how.0 in cc both
        no_reacts (op.SetsHome pid region owner) how = absurd how
        no_reacts (op.SetsAreas pid region areas owner) how = absurd how
        no_reacts (op.AsksAreas pid region owner) how = absurd how
        no_reacts (op.Drains mem) how = absurd how
        no_reacts (op.Unmaps pid region first pages areas owner) how = absurd how
        no_reacts (op.Copies parent child regions owner) how = absurd how
        no_reacts (op.Drops pid) how = absurd how
        no_reacts (op.ReadsFile file_ block off len) how = absurd how
        no_reacts (op.WritesFile file_ block off bytes) how = absurd how
        no_reacts (op.CutsFile file_ size) how = absurd how
        no_reacts (op.AsksSize file_) how = absurd how
        no_reacts (op.GetsName name) how = absurd how
        no_reacts (op.MakesName name) how = absurd how
        no_reacts (op.CutsName name) how = absurd how
        no_reacts op.ListsNames how = absurd how
        no_reacts (op.FreesFile file_) how = absurd how
        no_reacts (op.Heals to_ what_) how = absurd how
    filed_here (HandedOn how) = handed one.operation how
      where
        handed : (p : Operation) → HandsOn (memory_count now.shape) now.plain one.by p x → is_filed x.body ≡ true
        handed (op.Finds pid region) how = absurd how
        handed (op.Reads pid line owner) how = absurd how
        handed (op.Writes origin patch owner) how = absurd how
        handed (op.SetsHome pid region owner) how = absurd how
        handed (op.SetsAreas pid region areas owner) how = absurd how
        handed (op.AsksAreas pid region owner) how = absurd how
        handed (op.Drains mem) how = absurd how
        handed (op.Unmaps pid region first pages areas owner) how = absurd how
        handed (op.Copies parent child regions owner) how = absurd how
        handed (op.Drops pid) how = absurd how
        handed (op.ReadsFile file_ block off len) (inl how) = ap is_filed how.2
        handed (op.ReadsFile file_ block off len) (inr how) = let both : place.Storage ≡ memory (cache_of (memory_count now.shape) file_.0) = sym to ∙ how.1 in cc both
        handed (op.WritesFile file_ block off bytes) how = ap is_filed how.2
        handed (op.CutsFile file_ size) how = ap is_filed how.2
        handed (op.AsksSize file_) how = absurd how
        handed (op.GetsName name) how = absurd how
        handed (op.MakesName name) how = absurd how
        handed (op.CutsName name) how = absurd how
        handed op.ListsNames how = absurd how
        handed (op.FreesFile file_) how = absurd how
        handed (op.Heals to_ what_) how = absurd how
    filed_here (AnAnswer back target says) = let both : false ≡ true = ap is_issuer (sym to ∙ back) ∙ fits.by in cc both

    -- what storage sends concerns whom the message concerned
    told_concerns : (p : Place) → is_issuer p ≡ false → OfOpen (memory_count now.shape) now.plain x one → concerns number file p x ≡ true → list_any (sent_by number place.Storage) told ≡ true → list_any (concerns number file p) told ≡ true
    told_concerns p component kind e follows = by kind
      where
        when : (file ≡ true) ⊎ (same_place x.to p ≡ true) → list_any (concerns number file p) told ≡ true
        when (inl change) = subst (λ (b : Bool). list_any (concerns number b p) told ≡ true) (sym change) (file_concerns number p place.Storage told follows)
        when (inr same) = from_concerns number file p place.Storage (sym to ∙ place_is x.to p same) told follows

        handed : (q : Operation) → HandsOn (memory_count now.shape) now.plain one.by q x → one.operation ≡ q → list_any (concerns number file p) told ≡ true
        handed (op.Finds pid region) how is = absurd how
        handed (op.Reads pid line owner) how is = absurd how
        handed (op.Writes origin patch owner) how is = absurd how
        handed (op.SetsHome pid region owner) how is = absurd how
        handed (op.SetsAreas pid region areas owner) how is = absurd how
        handed (op.AsksAreas pid region owner) how is = absurd how
        handed (op.Drains mem) how is = absurd how
        handed (op.Unmaps pid region first pages areas owner) how is = absurd how
        handed (op.Copies parent child regions owner) how is = absurd how
        handed (op.Drops pid) how is = absurd how
        handed (op.ReadsFile file_ block off len) (inl how) is = get how.2
          where
            get : x.body ≡ body.BlockGet file_ block off len one.by → list_any (concerns number file p) told ≡ true
            get what = subst (λ (b : Body). list_any (concerns number file p) (stored_body now.disk x b).1 ≡ true) (sym what) (got (x.op.0 == number) file (same_place place.Storage p) (same_place x.from p) (same_place x.to p) (ap (λ (r : Place). same_place r p) (sym to)) e)
              where
                got : (a f b c d : Bool) → b ≡ d → (a && (f || (c || d))) ≡ true → ((a && (f || (b || c))) || false) ≡ true
                got true true b c d same e = refl
                got true false true c d same e = refl
                got true false false true d same e = refl
                got true false false false true same e = cc same
                got true false false false false same e = cc e
                got false f b c d same e = cc e
        handed (op.ReadsFile file_ block off len) (inr how) is = let both : place.Storage ≡ memory (cache_of (memory_count now.shape) file_.0) = sym to ∙ how.1 in cc both
        handed (op.WritesFile file_ block off bytes) how is = when (inl (ap is_file_change is))
        handed (op.CutsFile file_ size) how is = when (inl (ap is_file_change is))
        handed (op.AsksSize file_) how is = absurd how
        handed (op.GetsName name) how is = absurd how
        handed (op.MakesName name) how is = absurd how
        handed (op.CutsName name) how is = absurd how
        handed op.ListsNames how is = absurd how
        handed (op.FreesFile file_) how is = absurd how
        handed (op.Heals to_ what_) how is = absurd how

        by : OfOpen (memory_count now.shape) now.plain x one → list_any (concerns number file p) told ≡ true
        by (First among) = when (to_it p (first_from one.by one.number (asks_of (memory_count now.shape) one.operation) x among).0 component e)
        by (Reaction from how) = when (to_it p from component e)
        by (HandedOn how) = handed one.operation how refl
        by (AnAnswer back target says) = let both : false ≡ true = ap is_issuer (sym to ∙ back) ∙ fits.by in cc both

    storage_reaches : (p : Place) → Target (memory_count now.shape) one.operation number (messages_of one.by one.number (asks_of (memory_count now.shape) one.operation)) p → Reached now.mems (all_pending now) one p → Reached now.mems (left_of now ++ told) one p
    storage_reaches p known (inl answered_) = inl answered_
    storage_reaches p known (inr (inl pending)) = elim (taken_or_left p pending) [
      | inr still ↦ inr (inl (still_left p told still))
      | inl it ↦
          let number_is = of_number p it in
          let kind = of_open number_is in
          inr (inl (now_sent p told (told_concerns p known.component kind it (subst (λ (n : ℕ). list_any (sent_by n place.Storage) told ≡ true) number_is (file_follows now.disk x x.body (filed_here kind))))))
    ]
    storage_reaches p known (inr (inr waits)) = inr (inr waits)

  -- AN ISSUER notes an answer, or reacts to it
  member : (P : Place → Type 0) (q : Place) (ps : List Place) → is_among q ps ≡ true → AllByRecursion P ps → P q
  member P q [] among all = cc among
  member P q (p ∷ ps) among all = by (same_place q p) refl among (λ there. member P q ps there all.1)
    where
      by : (b : Bool) → same_place q p ≡ b → (b || is_among q ps) ≡ true → (is_among q ps ≡ true → P q) → P q
      by true e among rest_ = subst P (sym (place_is q p e)) all.0
      by false e among rest_ = rest_ among

  module _ (issuer : is_issuer x.to ≡ true) where
    -- what concerns a target comes from it
    is_from_it : (p : Place) → Target (memory_count now.shape) one.operation number (messages_of one.by one.number (asks_of (memory_count now.shape) one.operation)) p → concerns number file p x ≡ true → x.from ≡ p
    is_from_it p known e = by file refl (same_place x.from p) refl (same_place x.to p) refl (both_true (x.op.0 == number) (file || (same_place x.from p || same_place x.to p)) e).1
      where
        answer : OfTarget (memory_count now.shape) now.plain x one
        answer = is_of_target (memory_count now.shape) now.plain x one issuer fits.requests (of_open (of_number p e))

        by : (a : Bool) → is_file_change one.operation ≡ a → (b : Bool) → same_place x.from p ≡ b → (c : Bool) → same_place x.to p ≡ c → (a || (b || c)) ≡ true → x.from ≡ p
        by true change b is_b c is_c e = (member _ x.from one.targets answer.target targets).files change ∙ sym (known.files change)
        by false change true is_b c is_c e = place_is x.from p is_b
        by false change false is_b true is_c e = let both : true ≡ false = sym issuer ∙ ap is_issuer (place_is x.to p is_c) ∙ known.component in cc both
        by false change false is_b false is_c e = cc e

    noted_reaches : (p : Place) → Target (memory_count now.shape) one.operation number (messages_of one.by one.number (asks_of (memory_count now.shape) one.operation)) p → Reached now.mems (all_pending now) one p → Reached now.mems (left_of now ++ []) (answered one x) p
    noted_reaches p known (inl answered_) = inl (later_any (same_place p x.from) (has_answered p one.answers) answered_)
    noted_reaches p known (inr (inl pending)) = elim (taken_or_left p pending) [
      | inr still ↦ inr (inl (still_left p [] still))
      | inl it ↦ inl (first_any (same_place p x.from) (has_answered p one.answers) (ap (same_place p) (is_from_it p known it) ∙ place_same p))
    ]
    noted_reaches p known (inr (inr waits)) = inr (inr (record { k = waits.k; s = waits.s; is = waits.is; at = waits.at; waits = waits.waits }))

    reacted_reaches : (what : Body) (p : Place) → Target (memory_count now.shape) one.operation number (messages_of one.by one.number (asks_of (memory_count now.shape) one.operation)) p → Reached now.mems (all_pending now) one p → Reached now.mems (left_of now ++ record { from = x.to; to = x.from; op = x.op; body = what } ∷ []) one p
    reacted_reaches what p known (inl answered_) = inl answered_
    reacted_reaches what p known (inr (inl pending)) = elim (taken_or_left p pending) [
      | inr still ↦ inr (inl (still_left p (record { from = x.to; to = x.from; op = x.op; body = what } ∷ []) still))
      | inl it ↦ inr (inl (now_sent p (record { from = x.to; to = x.from; op = x.op; body = what } ∷ []) (own (x.op.0 == number) file (same_place x.to p) (same_place x.from p) (eq-eqb x.op.0 number (of_number p it)) (ap (λ (q : Place). same_place q p) (is_from_it p known it) ∙ place_same p))))
    ]
      where
        own : (a f b c : Bool) → a ≡ true → c ≡ true → ((a && (f || (b || c))) || false) ≡ true
        own a f b c ea ec = first_any (a && (f || (b || c))) false (and_true a (f || (b || c)) ea (later_any f (b || c) (later_any b c ec)))
    reacted_reaches what p known (inr (inr waits)) = inr (inr waits)

  dropped_reaches : (x.op.0 == number) ≡ false → (p : Place) → Reached now.mems (all_pending now) one p → Reached now.mems (left_of now ++ []) one p
  dropped_reaches none p (inl answered_) = inl answered_
  dropped_reaches none p (inr (inl pending)) = elim (taken_or_left p pending) [
    | inr still ↦ inr (inl (still_left p [] still))
    | inl it ↦ let both : true ≡ false = sym (eq-eqb x.op.0 number (of_number p it)) ∙ none in cc both
  ]
  dropped_reaches none p (inr (inr waits)) = inr (inr waits)

-- WHAT HOLDS ALONG THE WAY
pub record Awaited (now : Track) : Type 0 where
  pub one : Open
  pub current : now.current ≡ Some one
  pub reached : (now.stopped ≡ true) ⊎ AllByRecursion (Reached now.mems (one.unsent ++ (now.net ++ now.owed)) one) one.targets

no_length : (ms : List Message) → (length ms == 0) ≡ true → ms ≡ []
no_length [] e = refl
no_length (m ∷ ms) e = let none = eqb-true (length (m ∷ ms)) 0 e in absurd (omega (arith, none))

pub deliver_awaits : (now : Track) (x : Message) → MayDeliver now x → Unhurt now → Awaited now → Awaited (comes (taken now) x x.to)
deliver_awaits now x may way awaited = to_whom x.to refl
  where
    unsent : awaited.one.unsent ≡ []
    unsent = no_length awaited.one.unsent (sym (λ i. is_waiting (way.healed i) (awaited.current i)) ∙ may.waiting)

    known : AllByRecursion (Target (memory_count now.shape) awaited.one.operation awaited.one.number.0 (messages_of awaited.one.by awaited.one.number (asks_of (memory_count now.shape) awaited.one.operation))) awaited.one.targets
    known = targets now way awaited.one awaited.current x may

    -- what each target was reached by it is reached by still
    reach_all : (mems : List Mem) (pending : List Message) (after_ : Open) → ((p : Place) → Target (memory_count now.shape) awaited.one.operation awaited.one.number.0 (messages_of awaited.one.by awaited.one.number (asks_of (memory_count now.shape) awaited.one.operation)) p → Reached now.mems (all_pending now) awaited.one p → Reached mems pending after_ p) → AllByRecursion (Reached now.mems (awaited.one.unsent ++ (now.net ++ now.owed)) awaited.one) awaited.one.targets → AllByRecursion (Reached mems (awaited.one.unsent ++ pending) after_) awaited.one.targets
    reach_all mems pending after_ more all = subst (λ (ms : List Message). AllByRecursion (Reached mems (ms ++ pending) after_) awaited.one.targets) (sym unsent) (each awaited.one.targets known (subst (λ (ms : List Message). AllByRecursion (Reached now.mems (ms ++ (now.net ++ now.owed)) awaited.one) awaited.one.targets) unsent all))
      where
        each : (ps : List Place) → AllByRecursion (Target (memory_count now.shape) awaited.one.operation awaited.one.number.0 (messages_of awaited.one.by awaited.one.number (asks_of (memory_count now.shape) awaited.one.operation))) ps → AllByRecursion (Reached now.mems (all_pending now) awaited.one) ps → AllByRecursion (Reached mems pending after_) ps
        each [] known all = tt
        each (p ∷ ps) known all = (more p known.0 all.0, each ps known.1 all.1)

    no_owed : (ms : List Message) → ms ++ now.owed ≡ ms ++ []
    no_owed ms = ap (λ (l : List Message). ms ++ l) may.owed

    -- an issuer
    taken_awaits : (x.op.0 == awaited.one.number.0) ≡ false → Awaited (taken now)
    taken_awaits none = record {
      one = awaited.one;
      current = awaited.current;
      reached = elim awaited.reached [
        | inl stopped_ ↦ inl stopped_
        | inr all ↦ inr (subst (λ (ms : List Message). AllByRecursion (Reached now.mems (awaited.one.unsent ++ ms) awaited.one) awaited.one.targets) (sym (no_owed (left_of now))) (reach_all now.mems (left_of now ++ []) awaited.one (λ p k r. dropped_reaches now way awaited.one awaited.current x may none p r) all))
      ];
    }

    reacts_awaits : is_issuer x.to ≡ true → (r : Option Body) → Awaited (reacts (taken now) awaited.one x r)
    reacts_awaits issuer None = record {
      one = answered awaited.one x;
      current = refl;
      reached = elim awaited.reached [
        | inl stopped_ ↦ inl stopped_
        | inr all ↦ inr (subst (λ (ms : List Message). AllByRecursion (Reached now.mems (awaited.one.unsent ++ ms) (answered awaited.one x)) awaited.one.targets) (sym (no_owed (left_of now))) (reach_all now.mems (left_of now ++ []) (answered awaited.one x) (noted_reaches now way awaited.one awaited.current x may issuer) all))
      ];
    }
    reacts_awaits issuer (Some what) = record {
      one = awaited.one;
      current = awaited.current;
      reached = elim awaited.reached [
        | inl stopped_ ↦ inl stopped_
        | inr all ↦ inr (reach_all now.mems (left_of now ++ record { from = x.to; to = x.from; op = x.op; body = what } ∷ []) awaited.one (reacted_reaches now way awaited.one awaited.current x may issuer what) all)
      ];
    }

    issuer_awaits : is_issuer x.to ≡ true → Awaited (issuer_gets (taken now) x)
    issuer_awaits issuer = by (stops x.body)
      where
        of_number : (b : Bool) → (x.op.0 == awaited.one.number.0) ≡ b → Awaited (cond b (reacts (taken now) awaited.one x (reaction_of (patch_of awaited.one.operation) x.body)) (taken now))
        of_number true e = reacts_awaits issuer (reaction_of (patch_of awaited.one.operation) x.body)
        of_number false e = taken_awaits e

        by : (b : Bool) → Awaited (cond b (record (taken now) { stopped = true }) (noted_with (taken now) x now.healing))
        by true = record { one = awaited.one; current = awaited.current; reached = inl refl }
        by false = subst Awaited (sym (ap (noted_with (taken now) x) way.healed ∙ ap (noted (taken now) x) awaited.current)) (of_number (x.op.0 == awaited.one.number.0) refl)

    memory_awaits : (j : ℕ) → x.to ≡ memory j → Awaited (memory_handles (taken now) j x (slice_get now.mems j))
    memory_awaits j to = subst (λ (c : Option Mem). Awaited (memory_handles (taken now) j x c)) (sym there.1) (record {
      one = awaited.one;
      current = awaited.current;
      reached = elim awaited.reached [
        | inl stopped_ ↦ inl stopped_
        | inr all ↦ inr (reach_all (slice_set now.mems j (handled there.0 x).0) (left_of now ++ (handled there.0 x).1) awaited.one (memory_reaches now way awaited.one awaited.current x may j there.0 to there.1) all)
      ];
    })
      where
        there : (s : Mem) × (slice_get now.mems j ≡ Some s)
        there =
            let below : j < memory_count now.shape = subst (IsPlace (memory_count now.shape)) to (pend now way awaited.one awaited.current x may).to in
            let count = way.middle.count in
            get_within now.mems j (omega (arith, below, count))

    storage_awaits : x.to ≡ place.Storage → Awaited (record (taken now) { disk = (stored now.disk x).0; owed = (stored now.disk x).1 })
    storage_awaits to = record {
      one = awaited.one;
      current = awaited.current;
      reached = elim awaited.reached [
        | inl stopped_ ↦ inl stopped_
        | inr all ↦ inr (reach_all now.mems (left_of now ++ (stored now.disk x).1) awaited.one (storage_reaches now way awaited.one awaited.current x may to) all)
      ];
    }

    to_whom : (to : Place) → x.to ≡ to → Awaited (comes (taken now) x to)
    to_whom (Processor cpu) is = issuer_awaits (ap is_issuer is)
    to_whom (Memory k) is = memory_awaits k.0 is
    to_whom Storage is = storage_awaits is
    to_whom Manager is = issuer_awaits (ap is_issuer is)

-- SENDS: what is to be sent, what is pending and what is owed are the same messages as before
pub send_awaits : (now : Track) (x : Message) → MaySend now x now.owed now.healing now.current → now.healing ≡ None → Awaited now → Awaited (sent now x now.owed now.healing now.current)
send_awaits now x may healed awaited = subst Awaited (sym (λ i. sent now x now.owed (healed i) (awaited.current i))) (by now.owed refl (subst (λ (p : Option Healing × Option Open). MaySend now x now.owed p.0 p.1) (λ i. (healed i, awaited.current i)) may))
  where
    owes : (y : Message) (more : List Message) → now.owed ≡ y ∷ more → x ≡ y → (now.net ++ x ∷ []) ++ more ≡ now.net ++ now.owed
    owes y more owing same = append_assoc now.net (x ∷ []) more ∙ ap (λ (z : Message). now.net ++ z ∷ more) same ∙ ap (λ (ms : List Message). now.net ++ ms) (sym owing)

    -- the first one that is unsent is pending then
    moved : (test : Message → Bool) (y : Message) (more : List Message) → awaited.one.unsent ≡ y ∷ more → x ≡ y → now.owed ≡ [] → list_any test (awaited.one.unsent ++ (now.net ++ now.owed)) ≡ true → list_any test (more ++ ((now.net ++ x ∷ []) ++ now.owed)) ≡ true
    moved test y more unsent same none e =
        list_any-append test more ((now.net ++ x ∷ []) ++ now.owed)
        ∙ ap (λ (b : Bool). list_any test more || b) (ap (λ (ms : List Message). list_any test ((now.net ++ x ∷ []) ++ ms)) none ∙ ap (list_any test) (append-nil (now.net ++ x ∷ [])) ∙ list_any-append test now.net (x ∷ []))
        ∙ shuffled (test x) (list_any test more) (list_any test now.net)
        (sym (ap (λ (ms : List Message). list_any test (ms ++ (now.net ++ now.owed))) unsent ∙ ap (λ (b : Bool). b || list_any test (more ++ (now.net ++ now.owed))) (ap test (sym same)) ∙ ap (λ (b : Bool). test x || b) (list_any-append test more (now.net ++ now.owed) ∙ ap (λ (ms : List Message). list_any test more || list_any test ms) (ap (λ (ms : List Message). now.net ++ ms) none ∙ append-nil now.net))) ∙ e)
      where
        shuffled : (a b c : Bool) → (a || (b || c)) ≡ true → (b || (c || (a || false))) ≡ true
        shuffled true true c e = refl
        shuffled true false true e = refl
        shuffled true false false e = refl
        shuffled false true c e = refl
        shuffled false false true e = refl
        shuffled false false false e = cc e

    first_sent : (unsent : List Message) → awaited.one.unsent ≡ unsent → IsFirst x unsent → now.owed ≡ [] → AllByRecursion (Reached now.mems (awaited.one.unsent ++ (now.net ++ now.owed)) awaited.one) awaited.one.targets → AllByRecursion (Reached now.mems (drop 1 unsent ++ ((now.net ++ x ∷ []) ++ now.owed)) (record awaited.one { unsent = drop 1 unsent })) awaited.one.targets
    first_sent [] is first none all = absurd first
    first_sent (y ∷ more) is first none all = every reach awaited.one.targets all
      where
        reach : (p : Place) → Reached now.mems (awaited.one.unsent ++ (now.net ++ now.owed)) awaited.one p → Reached now.mems (more ++ ((now.net ++ x ∷ []) ++ now.owed)) (record awaited.one { unsent = more }) p
        reach p (inl answered_) = inl answered_
        reach p (inr (inl pending)) = inr (inl (moved (concerns awaited.one.number.0 (is_file_change awaited.one.operation) p) y more is first none pending))
        reach p (inr (inr waits)) = inr (inr waits)

    by : (owed : List Message) → now.owed ≡ owed → MaySend now x owed None (Some awaited.one) → Awaited (sent now x owed None (Some awaited.one))
    by (y ∷ more) owing may = record {
      one = awaited.one;
      current = awaited.current;
      reached = elim awaited.reached [
        | inl stopped_ ↦ inl stopped_
        | inr all ↦ inr (subst (λ (ms : List Message). AllByRecursion (Reached now.mems (awaited.one.unsent ++ ms) awaited.one) awaited.one.targets) (sym (owes y more owing may)) all)
      ];
    }
    by [] owing may = record {
      one = record awaited.one { unsent = drop 1 awaited.one.unsent };
      current = refl;
      reached = elim awaited.reached [
        | inl stopped_ ↦ inl stopped_
        | inr all ↦ inr (first_sent awaited.one.unsent refl may.1 owing all)
      ];
    }

-- AN OPERATION BEGINS: each of its targets is concerned by a first message
abbrev pub Calls : List Mark → Type 0
Calls [] = ⊥
Calls (Show e ∷ due) = ⊥
Calls (Call o ∷ due) = IsCalled o.operation

pub begin_awaits : (t : Track) (x : Message) (due : List Mark) → MayBegin t x due → Calls due → Awaited (begins t x due)
begin_awaits t x [] may called = absurd may
begin_awaits t x (Show e ∷ due) may called = absurd may
begin_awaits t x (Call o ∷ due) may called = record {
  one = record (opened t.shape t.next o.by o.operation) { unsent = drop 1 (opened t.shape t.next o.by o.operation).unsent };
  current = refl;
  reached = inr (every reach (targets_of (memory_count t.shape) o.operation) (targets_known (memory_count t.shape) o.by (record { 0 = t.next }) o.operation called));
}
  where
    spread : (test : Message → Bool) (first : List Message) → IsFirst x first → list_any test first ≡ true → list_any test (drop 1 first ++ ((t.net ++ x ∷ []) ++ t.owed)) ≡ true
    spread test [] is e = absurd is
    spread test (y ∷ more) is e = list_any-append test more ((t.net ++ x ∷ []) ++ t.owed) ∙ either (test y) (list_any test more) (list_any test ((t.net ++ x ∷ []) ++ t.owed)) e there
      where
        there : test y ≡ true → list_any test ((t.net ++ x ∷ []) ++ t.owed) ≡ true
        there mine = list_any-append test (t.net ++ x ∷ []) t.owed ∙ first_any (list_any test (t.net ++ x ∷ [])) (list_any test t.owed) (list_any-append test t.net (x ∷ []) ∙ later_any (list_any test t.net) (test x || false) (first_any (test x) false (ap test is ∙ mine)))

        either : (a b c : Bool) → (a || b) ≡ true → (a ≡ true → c ≡ true) → (b || c) ≡ true
        either true b c e back = later_any b c (back refl)
        either false b c e back = first_any b c e

    reach : (p : Place) → Target (memory_count t.shape) o.operation t.next (messages_of o.by (record { 0 = t.next }) (asks_of (memory_count t.shape) o.operation)) p → Reached t.mems (drop 1 (opened t.shape t.next o.by o.operation).unsent ++ ((t.net ++ x ∷ []) ++ t.owed)) (record (opened t.shape t.next o.by o.operation) { unsent = drop 1 (opened t.shape t.next o.by o.operation).unsent }) p
    reach p known = inr (inl (spread (concerns t.next (is_file_change o.operation) p) (messages_of o.by (record { 0 = t.next }) (asks_of (memory_count t.shape) o.operation)) may.0 known.concerned))

-- IT IS SENT AGAIN: each of its targets is concerned by a message that is unsent
pub again_awaits : (t : Track) (h : Healing) (o one : Open) → t.current ≡ Some one → CurrentFits t (Some one) → Awaited (move_finished t h o [])
again_awaits t h o one is fits = record {
  one = again t.shape one;
  current = ap (sent_again t) is;
  reached = inr (every reach one.targets (subst (AllByRecursion (Target (memory_count t.shape) one.operation one.number.0 (messages_of one.by one.number (asks_of (memory_count t.shape) one.operation)))) (sym fits.0.targets) (targets_known (memory_count t.shape) one.by one.number one.operation (called_of t.owners t.plain one.operation fits.0.fits))));
}
  where
    reach : (p : Place) → Target (memory_count t.shape) one.operation one.number.0 (messages_of one.by one.number (asks_of (memory_count t.shape) one.operation)) p → Reached t.mems ((again t.shape one).unsent ++ (t.net ++ t.owed)) (again t.shape one) p
    reach p known = inr (inl (list_any-append (concerns one.number.0 (is_file_change one.operation) p) (again t.shape one).unsent (t.net ++ t.owed) ∙ first_any (list_any (concerns one.number.0 (is_file_change one.operation) p) (again t.shape one).unsent) (list_any (concerns one.number.0 (is_file_change one.operation) p) (t.net ++ t.owed)) known.concerned))

-- NOTHING PENDING: then every target has answered, and the operation is complete
pub comes_on : (now : Track) → Unhurt now → Awaited now → IsUnderWay now → now.net ≡ [] → ⊥
comes_on now way awaited under none = by awaited.reached
  where
    unsent : awaited.one.unsent ≡ []
    unsent = no_length awaited.one.unsent (sym (ap is_sent awaited.current) ∙ under.sent)

    nothing : awaited.one.unsent ++ (now.net ++ now.owed) ≡ []
    nothing = λ i. unsent i ++ (none i ++ under.owed i)

    -- a drain that waits has its memory's batch on its way
    no_wait : (p : Place) → Waits now.mems awaited.one.number.0 p → ⊥
    no_wait p waits =
        let holds = way.middle.memories waits.k waits.s tt waits.at in
        let out : 0 < waits.s.out = holds.batch.waits (some waits.s.drains waits.waits) in
        elim (holds.batch.once out) [
          | inl batch ↦ empty (batch_message waits.s) batch
          | inr receipt_ ↦ empty (receipt waits.s) receipt_.0
        ]
      where
        some : (drains : List Waiter) → waits_for awaited.one.number.0 drains ≡ true → 0 < length drains
        some [] e = cc e
        some (w ∷ drains) e = omega arith

        empty : (m : Message) → background waits.s.id (now.net ++ now.owed) ≡ m ∷ [] → ⊥
        empty m e = let both : [] ≡ m ∷ [] = sym (λ i. background waits.s.id (none i ++ under.owed i)) ∙ e in cc both

    answered_all : (ps : List Place) → AllByRecursion (Reached now.mems (awaited.one.unsent ++ (now.net ++ now.owed)) awaited.one) ps → all_answered ps awaited.one.answers ≡ true
    answered_all [] all = refl
    answered_all (p ∷ ps) all = and_true (has_answered p awaited.one.answers) (all_answered ps awaited.one.answers) (one_of all.0) (answered_all ps all.1)
      where
        one_of : Reached now.mems (awaited.one.unsent ++ (now.net ++ now.owed)) awaited.one p → has_answered p awaited.one.answers ≡ true
        one_of (inl answered_) = answered_
        one_of (inr (inl pending)) = let both : false ≡ true = sym (ap (list_any (concerns awaited.one.number.0 (is_file_change awaited.one.operation) p)) nothing) ∙ pending in cc both
        one_of (inr (inr waits)) = absurd (no_wait p waits)

    by : (now.stopped ≡ true) ⊎ AllByRecursion (Reached now.mems (awaited.one.unsent ++ (now.net ++ now.owed)) awaited.one) awaited.one.targets → ⊥
    by (inl stopped_) = let both : true ≡ false = sym stopped_ ∙ under.goes_on in cc both
    by (inr all) =
        let complete : is_complete now.net awaited.one ≡ true = (λ i. all_answered awaited.one.targets awaited.one.answers && not (is_pending awaited.one.number.0 (none i))) ∙ ap (λ (b : Bool). b && true) (answered_all awaited.one.targets all) in
        let both : true ≡ false = sym complete ∙ sym (ap (is_done now.net) awaited.current) ∙ under.incomplete in cc both

-- A LIST without a crash
module _ (t : Track) (o : Order) (rest : List Mark) where
  step : (now : Track) (e : Event) → May now e → IsOfMessages e → Way t o rest now → Awaited now → Awaited (after now e)
  step now (Send x) may of way awaited = send_awaits now x may way.healed awaited
  step now (Deliver x) may of way awaited = deliver_awaits now x may (record { healed = way.healed; middle = way.middle }) awaited
  step now (Turn turn pid) may of way awaited = absurd of
  step now (Access cpu pid address kind bytes) may of way awaited = absurd of
  step now (Fill pid address bytes) may of way awaited = absurd of
  step now (Drop cpu pid line) may of way awaited = absurd of
  step now (Crash memory_ inc) may of way awaited = absurd of
  step now (Complete op_) may of way awaited = absurd of
  step now (Out stream bytes) may of way awaited = absurd of

  awaits_on : (now : Track) (events : List Event) → Legal now events → AllByRecursion IsOfMessages events → Way t o rest now → Awaited now → Way t o rest (run now events) × Awaited (run now events)
  awaits_on now [] legal all way awaited = (way, awaited)
  awaits_on now (e ∷ events) legal all way awaited = awaits_on (after now e) events legal.1 all.1 (goes t o rest now e legal.0 all.0 way) (step now e legal.0 all.0 way awaited)

  module _ (at_rest : AtRest t) (due : t.due ≡ Call o ∷ rest) (granted : Granted t o.by o.operation (owners_with o t.owners)) where
    base : (x : Message) → May t (Send x) → Awaited (after t (Send x))
    base x may = subst Awaited (sym begun) (begin_awaits t x (Call o ∷ rest) (subst (λ (d : List Mark). MayBegin t x d) due (subst (λ (p : List Message × Option Healing × Option Open). MaySend t x p.0 p.1 p.2) (λ i. (at_rest.owed i, at_rest.healed i, at_rest.closed i)) may).1) (called_of (owners_with o t.owners) t.plain o.operation granted.fits))
      where
        begun : sent t x t.owed t.healing t.current ≡ begins t x (Call o ∷ rest)
        begun = (λ i. sent t x (at_rest.owed i) (at_rest.healed i) (at_rest.closed i)) ∙ ap (begins t x) due

    pub something : (m : Message) (events : List Event) → Legal t (Send m ∷ events) → AllByRecursion IsOfMessages events → IsUnderWay (run t (Send m ∷ events)) → (run t (Send m ∷ events)).net ≡ [] → ⊥
    something m events legal all under none =
        let on = awaits_on (after t (Send m)) events legal.1 all (sets_out t o rest at_rest due granted m legal.0) (base m legal.0) in
        comes_on (run t (Send m ∷ events)) (record { healed = on.0.healed; middle = on.0.middle }) on.1 under none

pub something-comes : SomethingComes
something-comes t o rest m events is legal all under none = something t o rest is.rests is.due is.granted m events legal all under none
