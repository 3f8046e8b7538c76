-- Choices, and counts of an operation's messages.
use Rattle.std.proofs.Common.{◌≡◌, ◌||◌, [], ◌∷◌, ◌∙◌, ℕ, Bool, List, ap, arith, cond, eqb, false, length, ltb, refl, suc, sym, true}
use Rattle.std.proofs.lemmas.Bool.{lt-ltb}
use Rattle.std.proofs.lemmas.List.Sums.{length-filter}
use Rattle.std.specs.List.{filter}
use Rattle.lego_msg.specs.Track.{is_pending}
use Rattle.lego_msg.specs.declared.message.Message.{Message}
use Rattle.net_fabric.specs.Laws.{ChoicesFollowTheList, CountsTellWhatIsPending}

pub by-choice : ChoicesFollowTheList
by-choice deliveries number pending = record { picks = refl; leaves = refl }

some_pass : (number : ℕ) (pending : List Message) → is_pending number pending ≡ ltb 0 (length (filter (λ (m : Message). eqb m.op.0 number) pending))
some_pass number [] = refl
some_pass number (m ∷ pending) = by (eqb m.op.0 number) (some_pass number pending)
  where
    by : (b : Bool) → is_pending number pending ≡ ltb 0 (length (filter (λ (m : Message). eqb m.op.0 number) pending)) →
        (b || is_pending number pending) ≡ ltb 0 (length (cond b (m ∷ filter (λ (m : Message). eqb m.op.0 number) pending) (filter (λ (m : Message). eqb m.op.0 number) pending)))
    by true rest = sym (lt-ltb 0 (suc (length (filter (λ (m : Message). eqb m.op.0 number) pending))) (omega arith))
    by false rest = rest

pub counts-tell : CountsTellWhatIsPending
counts-tell number pending = some_pass number pending ∙ ap (ltb 0) (length-filter (λ (m : Message). eqb m.op.0 number) pending)
