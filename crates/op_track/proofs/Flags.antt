-- Targets whose flags are a function of their places, and what an answer and a crash make of the function.
use Rattle.std.proofs.Common.{◌≡◌, ◌&&◌, ◌||◌, [], ◌∷◌, ◌∙◌, ℕ, Bool, List, ap, cond, eqb, false, map, not, refl, sym, true}
use Rattle.std.specs.List.{list_all}
use Rattle.lego_msg.specs.Deliveries.{stops}
use Rattle.lego_msg.specs.Judged.{answered_after, answered_along, is_reaction}
use Rattle.lego_msg.specs.Places.{is_issuer, memory, same_place}
use Rattle.lego_msg.specs.Track.{all_answered, forget, has_answered as is_answer_of}
use Rattle.lego_msg.specs.declared.event.Event.{Event}
use Rattle.lego_msg.specs.declared.event.Event.TheVariants.{Crash, Deliver}
use Rattle.lego_msg.specs.declared.operation.Answer.{Answer}
use Rattle.lego_msg.specs.declared.place.Place.{Place}
use Rattle.op_track.proofs.Forgotten.{has_answered-forget}
use Rattle.op_track.specs.Laws.{FlagsFollowTheAnswers, FlagsFollowTheEvents, counts, noticed, noticed_along}
use Rattle.op_track.specs.Targets.{has_answered, set_to}
use Rattle.op_track.specs.declared.op.Target.{Target}

abbrev flags : (Place → Bool) → List Place → List Target
flags f targets = map (λ (place : Place). record { place = place; answered = f place }) targets

same_flags : (f g : Place → Bool) (targets : List Place) → ((p : Place) → f p ≡ g p) → flags f targets ≡ flags g targets
same_flags f g targets e = λ i. flags (λ p. e p i) targets

set_one : (b c old : Bool) (p : Place) → ◌≡◌ {A = Target} (cond c (record { place = p; answered = b }) (record { place = p; answered = old })) (record { place = p; answered = cond c b old })
set_one b true old p = refl
set_one b false old p = refl

set-flags : (b : Bool) (q : Place) (f : Place → Bool) (targets : List Place) → map (set_to b q) (flags f targets) ≡ flags (λ p. cond (same_place p q) b (f p)) targets
set-flags b q f [] = refl
set-flags b q f (p ∷ targets) = λ i. set_one b (same_place p q) (f p) p i ∷ set-flags b q f targets i

or_is : (x y : Bool) → cond x true y ≡ (x || y)
or_is true y = refl
or_is false y = refl

not_is : (x y : Bool) → cond x false y ≡ (not x && y)
not_is true y = refl
not_is false y = refl

all-flags : (f : Place → Bool) (targets : List Place) → list_all has_answered (flags f targets) ≡ list_all f targets
all-flags f [] = refl
all-flags f (p ∷ targets) = ap (λ (b : Bool). f p && b) (all-flags f targets)

-- ANSWERS

all_is : (answers : List Answer) (targets : List Place) → list_all (λ (p : Place). is_answer_of p answers) targets ≡ all_answered targets answers
all_is answers [] = refl
all_is answers (p ∷ targets) = ap (λ (b : Bool). is_answer_of p answers && b) (all_is answers targets)

pub follow-answers : FlagsFollowTheAnswers
follow-answers targets answers = record {
  none = refl;
  one_more = λ a. set-flags true a.place (λ p. is_answer_of p answers) targets ∙ same_flags _ (λ p. is_answer_of p (a ∷ answers)) targets (λ p. or_is (same_place p a.place) (is_answer_of p answers));
  crash = λ c. set-flags false c (λ p. is_answer_of p answers) targets ∙ same_flags _ (λ p. is_answer_of p (forget c answers)) targets (λ p. not_is (same_place p c) (is_answer_of p answers) ∙ sym (has_answered-forget p c answers));
  all = all-flags (λ p. is_answer_of p answers) targets ∙ all_is answers targets;
}

-- EVENTS

-- a, i, r, s: the tests of a message apart from its sender; x: whether the sender is the place
counted : (a i x r s y : Bool) → cond (a && i && r && s) (cond x true y) y ≡ ((a && i && x && r && s) || y)
counted false i x r s y = refl
counted true false x r s y = refl
counted true true true false s y = refl
counted true true false false s y = refl
counted true true true true true y = refl
counted true true true true false y = refl
counted true true false true true y = refl
counted true true false true false y = refl

either : (c : Bool) (f g : Place → Bool) (targets : List Place) → cond c (flags f targets) (flags g targets) ≡ flags (λ p. cond c (f p) (g p)) targets
either true f g targets = refl
either false f g targets = refl

noticed-flags : (number : ℕ) (write : Bool) (e : Event) (f : Place → Bool) (targets : List Place) →
    noticed number write e (flags f targets) ≡ flags (λ p. answered_after number write p (f p) e) targets
noticed-flags number write (Deliver m) f targets =
    ap (λ (ts : List Target). cond (counts number write m) ts (flags f targets)) (set-flags true m.from f targets)
    ∙ either (counts number write m) (λ p. cond (same_place p m.from) true (f p)) f targets
    ∙ same_flags _ (λ p. answered_after number write p (f p) (Deliver m)) targets (λ p. counted (eqb m.op.0 number) (is_issuer m.to) (same_place p m.from) (not (is_reaction write m.body)) (not (stops m.body)) (f p))
noticed-flags number write (Crash m inc) f targets =
    set-flags false (memory m.0) f targets
    ∙ same_flags _ (λ p. answered_after number write p (f p) (Crash m inc)) targets (λ p. not_is (same_place p (memory m.0)) (f p))
noticed-flags number write other f targets = refl

along : (number : ℕ) (write : Bool) (events : List Event) (f : Place → Bool) (targets : List Place) →
    noticed_along number write events (flags f targets) ≡ flags (λ p. answered_along number write p (f p) events) targets
along number write [] f targets = refl
along number write (e ∷ events) f targets =
    ap (noticed_along number write events) (noticed-flags number write e f targets)
    ∙ along number write events (λ p. answered_after number write p (f p) e) targets

pub follow-events : FlagsFollowTheEvents
follow-events number write targets events = record {
  flags = along number write events (λ p. false) targets;
  all = ap (list_all has_answered) (along number write events (λ p. false) targets) ∙ all-flags (λ p. answered_along number write p false events) targets;
}
