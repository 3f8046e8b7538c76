-- Lists that have one entry for each memory, made from the front.
use Rattle.std.proofs.Common.{◌≡◌, ◌+◌, ◌-◌, ◌<◌, ◌++◌, [], ◌∷◌, ◌∙◌, ℕ, List, ap, arith, suc, sym}
use Rattle.std.proofs.lemmas.List.{append_assoc}
use Rattle.lego_base.specs.declared.ids.OpNo.{OpNo}
use Rattle.lego_msg.specs.Operations.{each_from, messages_of, receivers}
use Rattle.lego_msg.specs.Places.{memory}
use Rattle.lego_msg.specs.declared.body.Body.{Body}
use Rattle.lego_msg.specs.declared.message.Message.{Message}
use Rattle.lego_msg.specs.declared.place.Place.{Place}

one_less : (all done : ℕ) → done < all → all - done ≡ suc (all - (done + 1))
one_less all done less = omega (arith, less)

-- what is left, of a list made by recursion on how many are left
abbrev pub more : {X : Type 0} → (x : X) (xs new rest whole : List X) → xs ++ x ∷ rest ≡ whole → new ≡ xs ++ x ∷ [] → new ++ rest ≡ whole
more x xs new rest whole so e = ap (λ l. l ++ rest) e ∙ append_assoc xs (x ∷ []) rest ∙ so

pub sent_more : (by : Place) (op : OpNo) (body last : Body) (all done : ℕ) (sent new whole : List Message) → done < all
    → sent ++ messages_of by op (each_from (all - done) done body last) ≡ whole
    → new ≡ sent ++ record { from = by; to = memory done; op = op; body = body } ∷ []
    → new ++ messages_of by op (each_from (all - (done + 1)) (done + 1) body last) ≡ whole
sent_more by op body last all done sent new whole less so e =
    more _ sent new (messages_of by op (each_from (all - (done + 1)) (done + 1) body last)) whole
    (ap (λ (n : ℕ). sent ++ messages_of by op (each_from n done body last)) (sym (one_less all done less)) ∙ so) e

pub placed_more : (each last : Body) (all done : ℕ) (places new whole : List Place) → done < all
    → places ++ receivers (each_from (all - done) done each last) ≡ whole
    → new ≡ places ++ memory done ∷ []
    → new ++ receivers (each_from (all - (done + 1)) (done + 1) each last) ≡ whole
placed_more each last all done places new whole less so e =
    more _ places new (receivers (each_from (all - (done + 1)) (done + 1) each last)) whole
    (ap (λ (n : ℕ). places ++ receivers (each_from n done each last)) (sym (one_less all done less)) ∙ so) e
