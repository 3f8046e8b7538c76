-- Flags of targets that tell the same as answers.
use Rattle.std.proofs.Common.{◌≡◌, [], ◌∷◌, ◌∙◌, Bool, List, ap, cond, false, map, refl, sym, true}
use Rattle.std.specs.List.{list_all}
use Rattle.lego_msg.specs.Places.{same_place}
use Rattle.lego_msg.specs.Track.{all_answered, forget}
use Rattle.lego_msg.specs.declared.operation.Answer.{Answer}
use Rattle.lego_msg.specs.declared.place.Place.{Place}
use Rattle.op_track.proofs.Flags.{follow-answers}
use Rattle.op_track.specs.Targets.{by_answers, has_answered, set_to, silent}
use Rattle.op_track.specs.declared.op.Target.{Target}
use Rattle.protocol_engine.specs.Opening.{places}

pub places-silent : (targets : List Place) → places (map silent targets) ≡ targets
places-silent [] = refl
places-silent (p ∷ targets) = ap (λ (ps : List Place). p ∷ ps) (places-silent targets)

place_set : (b c : Bool) (t : Target) → (cond c (record t { answered = b }) t).place ≡ t.place
place_set b true t = refl
place_set b false t = refl

pub places-set : (b : Bool) (q : Place) (targets : List Target) → places (map (set_to b q) targets) ≡ places targets
places-set b q [] = refl
places-set b q (t ∷ targets) = λ i. place_set b (same_place t.place q) t i ∷ places-set b q targets i

-- no answer, one more, those of a place forgotten
pub none_told : (targets : List Place) → map silent targets ≡ by_answers [] (places (map silent targets))
none_told targets = ap (λ (ps : List Place). by_answers [] ps) (sym (places-silent targets))

pub one_more_told : (targets : List Target) (answers : List Answer) (a : Answer) → targets ≡ by_answers answers (places targets) →
    map (set_to true a.place) targets ≡ by_answers (a ∷ answers) (places (map (set_to true a.place) targets))
one_more_told targets answers a same =
    ap (map (set_to true a.place)) same
    ∙ (follow-answers (places targets) answers).one_more a
    ∙ ap (λ (ps : List Place). by_answers (a ∷ answers) ps) (sym (places-set true a.place targets))

pub crash_told : (targets : List Target) (answers : List Answer) (place : Place) → targets ≡ by_answers answers (places targets) →
    map (set_to false place) targets ≡ by_answers (forget place answers) (places (map (set_to false place) targets))
crash_told targets answers place same =
    ap (map (set_to false place)) same
    ∙ (follow-answers (places targets) answers).crash place
    ∙ ap (λ (ps : List Place). by_answers (forget place answers) ps) (sym (places-set false place targets))

pub all_told : (targets : List Target) (answers : List Answer) → targets ≡ by_answers answers (places targets) →
    list_all has_answered targets ≡ all_answered (places targets) answers
all_told targets answers same = ap (list_all has_answered) same ∙ (follow-answers (places targets) answers).all
