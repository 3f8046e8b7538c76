-- What stays of pending messages and answers once a memory crashed.
use Rattle.std.proofs.Common.{◌≡◌, ◌==◌, ◌&&◌, ◌||◌, [], ◌∷◌, ◌∙◌, ℕ, Bool, List, None, Option, Some, ap, cond, false, refl, sym, true}
use Rattle.std.specs.List.{AllByRecursion, list_any}
use Rattle.lego_msg.specs.Crashes.{forgotten}
use Rattle.lego_msg.specs.Places.{lose, memory, same_place}
use Rattle.lego_msg.specs.Plain.{Plain}
use Rattle.lego_msg.specs.Track.{forget, has_answered}
use Rattle.lego_msg.specs.declared.message.Message.{Message}
use Rattle.lego_msg.specs.declared.operation.Answer.{Answer}
use Rattle.lego_msg.specs.declared.operation.Open.{Open}
use Rattle.lego_msg.specs.declared.place.Place.{Place}
use Rattle.lego_rest.specs.Answers.{answers_to, gave_answer, is_answer_from}
use Rattle.lego_rest.specs.Fits.{background, is_background}
use Rattle.lego_rest.specs.Parts.{plain_with}
use Rattle.lego_msg.specs.Operations.{patch_of}
use Rattle.rest_laws.proofs.Noted.{place_sym}

-- a message is neither from a place nor to it
pub record IsApart (p : Place) (m : Message) : Type 0 where
  pub from : same_place m.from p ≡ false
  pub to : same_place m.to p ≡ false

neither : (a b : Bool) → (a || b) ≡ false → (a ≡ false) × (b ≡ false)
neither true b e = cc e
neither false b e = (refl, e)

-- what all messages were, those that are left are, and they are apart
pub all_left : (P : Message → Type 0) → (p : Place) (ms : List Message) → AllByRecursion P ms → AllByRecursion (λ m. P m × IsApart p m) (lose p ms)
all_left P p [] all = tt
all_left P p (m ∷ ms) all = by (same_place m.from p || same_place m.to p) refl (all_left P p ms all.1)
  where
    by : (b : Bool) → (same_place m.from p || same_place m.to p) ≡ b → AllByRecursion (λ m. P m × IsApart p m) (lose p ms) → AllByRecursion (λ m. P m × IsApart p m) (cond b (lose p ms) (m ∷ lose p ms))
    by true e rest = rest
    by false e rest = let two_ = neither (same_place m.from p) (same_place m.to p) e in ((all.0, record { from = two_.0; to = two_.1 }), rest)

pub any_left : (test : Message → Bool) (p : Place) (ms : List Message) → list_any test (lose p ms) ≡ true → list_any test ms ≡ true
any_left test p [] e = e
any_left test p (m ∷ ms) e = by (same_place m.from p || same_place m.to p) (test m) refl e (any_left test p ms)
  where
    by : (b a : Bool) → test m ≡ a → list_any test (cond b (lose p ms) (m ∷ lose p ms)) ≡ true → (list_any test (lose p ms) ≡ true → list_any test ms ≡ true) → (a || list_any test ms) ≡ true
    by b true is e rest = refl
    by true false is e rest = rest e
    by false false is e rest = rest (sym (ap (λ (x : Bool). x || list_any test (lose p ms)) is) ∙ e)

-- a test that only fails of what is apart holds of nothing that is left
pub none_left : (test : Message → Bool) (p : Place) → ((m : Message) → IsApart p m → test m ≡ false) → (ms : List Message) → list_any test (lose p ms) ≡ false
none_left test p fails [] = refl
none_left test p fails (m ∷ ms) = by (same_place m.from p || same_place m.to p) refl (none_left test p fails ms)
  where
    by : (b : Bool) → (same_place m.from p || same_place m.to p) ≡ b → list_any test (lose p ms) ≡ false → list_any test (cond b (lose p ms) (m ∷ lose p ms)) ≡ false
    by true e rest = rest
    by false e rest = let two_ = neither (same_place m.from p) (same_place m.to p) e in ap (λ (x : Bool). x || list_any test (lose p ms)) (fails m (record { from = two_.0; to = two_.1 })) ∙ rest

-- the background of a memory whose messages are apart stays, and that of the place itself is gone
pub background_stays : (k : ℕ) (p : Place) (ms : List Message) → AllByRecursion (λ (m : Message). is_background k m ≡ true → (same_place m.from p || same_place m.to p) ≡ false) ms → background k (lose p ms) ≡ background k ms
background_stays k p [] all = refl
background_stays k p (m ∷ ms) all = by (same_place m.from p || same_place m.to p) (is_background k m) refl refl (background_stays k p ms all.1)
  where
    by : (b a : Bool) → (same_place m.from p || same_place m.to p) ≡ b → is_background k m ≡ a → background k (lose p ms) ≡ background k ms → background k (cond b (lose p ms) (m ∷ lose p ms)) ≡ cond a (m ∷ background k ms) (background k ms)
    by true true e is rest = let two_ : true ≡ false = sym e ∙ all.0 is in cc two_
    by true false e is rest = rest
    by false a e is rest = (λ i. cond (is i) (m ∷ background k (lose p ms)) (background k (lose p ms))) ∙ ap (λ (l : List Message). cond a (m ∷ l) l) rest

pub background_gone : (c : ℕ) (ms : List Message) → background c (lose (memory c) ms) ≡ []
background_gone c [] = refl
background_gone c (m ∷ ms) = by (same_place m.from (memory c) || same_place m.to (memory c)) refl (background_gone c ms)
  where
    no : (a b : Bool) → b ≡ false → (a && b) ≡ false
    no true b e = e
    no false b e = refl

    by : (b : Bool) → (same_place m.from (memory c) || same_place m.to (memory c)) ≡ b → background c (lose (memory c) ms) ≡ [] → background c (cond b (lose (memory c) ms) (m ∷ lose (memory c) ms)) ≡ []
    by true e rest = rest
    by false e rest = ap (λ (x : Bool). cond x (m ∷ background c (lose (memory c) ms)) (background c (lose (memory c) ms))) (no (m.op.0 == 0) (same_place m.from (memory c) || same_place m.to (memory c)) e) ∙ rest

-- ANSWERS: what is forgotten was noted, and of the place itself nothing is left
pub noted_before : (q p : Place) (answers : List Answer) → has_answered q (forget p answers) ≡ true → has_answered q answers ≡ true
noted_before q p [] e = e
noted_before q p (a ∷ answers) e = by (same_place a.place p) (same_place q a.place) refl e (noted_before q p answers)
  where
    by : (b x : Bool) → same_place q a.place ≡ x → has_answered q (cond b (forget p answers) (a ∷ forget p answers)) ≡ true → (has_answered q (forget p answers) ≡ true → has_answered q answers ≡ true) → (x || has_answered q answers) ≡ true
    by b true is e rest = refl
    by true false is e rest = rest e
    by false false is e rest = rest (sym (ap (λ (y : Bool). y || has_answered q (forget p answers)) is) ∙ e)

forgotten_all : (p : Place) (answers : List Answer) → has_answered p (forget p answers) ≡ false
forgotten_all p [] = refl
forgotten_all p (a ∷ answers) = by (same_place a.place p) refl (forgotten_all p answers)
  where
    by : (b : Bool) → same_place a.place p ≡ b → has_answered p (forget p answers) ≡ false → has_answered p (cond b (forget p answers) (a ∷ forget p answers)) ≡ false
    by true e rest = rest
    by false e rest = ap (λ (y : Bool). y || has_answered p (forget p answers)) (place_sym p a.place ∙ e) ∙ rest

pub all_kept : (P : Answer → Type 0) → (p : Place) (answers : List Answer) → AllByRecursion P answers → AllByRecursion P (forget p answers)
all_kept P p [] all = tt
all_kept P p (a ∷ answers) all = by (same_place a.place p) (all_kept P p answers all.1)
  where
    by : (b : Bool) → AllByRecursion P (forget p answers) → AllByRecursion P (cond b (forget p answers) (a ∷ forget p answers))
    by true rest = rest
    by false rest = (all.0, rest)

pub gave_before : (q p : Place) (ms : List Message) (c : Option Open) → gave_answer q (lose p ms) (forgotten p c) ≡ true → gave_answer q ms c ≡ true
gave_before q p ms None e = e
gave_before q p ms (Some o) e = by (has_answered q (forget p o.answers)) refl e
  where
    or_there : (a b : Bool) → a ≡ true → (a || b) ≡ true
    or_there true b f = refl
    or_there false b f = cc f

    or_then : (a b : Bool) → b ≡ true → (a || b) ≡ true
    or_then true b f = refl
    or_then false b f = f

    by : (a : Bool) → has_answered q (forget p o.answers) ≡ a → (a || list_any (is_answer_from o q) (lose p ms)) ≡ true → (has_answered q o.answers || list_any (is_answer_from o q) ms) ≡ true
    by true is e = or_there (has_answered q o.answers) (list_any (is_answer_from o q) ms) (noted_before q p o.answers is)
    by false is e = or_then (has_answered q o.answers) (list_any (is_answer_from o q) ms) (any_left (is_answer_from o q) p ms e)

pub gave_none : (p : Place) (ms : List Message) (c : Option Open) → gave_answer p (lose p ms) (forgotten p c) ≡ false
gave_none p ms None = refl
gave_none p ms (Some o) = ap (λ (b : Bool). b || list_any (is_answer_from o p) (lose p ms)) (forgotten_all p o.answers) ∙ none_left (is_answer_from o p) p fails ms
  where
    no : (a b c d : Bool) → b ≡ false → (a && b && c && d) ≡ false
    no true b c d e = ap (λ (x : Bool). x && c && d) e
    no false b c d e = refl

    fails : (m : Message) → IsApart p m → is_answer_from o p m ≡ false
    fails m apart = no (m.op.0 == o.number.0) (same_place m.from p) (same_place m.to o.by) (answers_to (patch_of o.operation) m.body) apart.from

-- the same plain map is to be reached
pub plain_stays : (p : Place) (c : Option Open) (f : Plain) → plain_with (forgotten p c) f ≡ plain_with c f
plain_stays p None f = refl
plain_stays p (Some o) f = refl
