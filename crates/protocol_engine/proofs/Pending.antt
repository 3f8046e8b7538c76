-- Whether an operation is complete, by the count of its messages that are pending.
use Rattle.std.proofs.Common.{◌≡◌, ◌∙◌, ◌&&◌, ℕ, Bool, List, ap, arith, eqb, false, ltb, not, refl, suc, sym, true, zero}
use Rattle.std.proofs.lemmas.Bool.{lt-ltb, ne_eqb}
use Rattle.std.specs.Prelude.{count_by}
use Rattle.lego_base.specs.declared.ids.OpNo.{OpNo}
use Rattle.lego_msg.specs.Track.{all_answered, is_complete, is_pending}
use Rattle.lego_msg.specs.declared.message.Message.{Message}
use Rattle.lego_msg.specs.declared.operation.Open.{Open}
use Rattle.net_fabric.proofs.Choosing.{counts-tell}

abbrev counted : ℕ → List Message → ℕ
counted number pending = count_by (λ (m : Message). eqb m.op.0 number) pending

none_or : (n : ℕ) → eqb n 0 ≡ not (ltb 0 n)
none_or zero = refl
none_or (suc n) = ne_eqb (suc n) 0 (λ e. absurd (omega arith)) ∙ ap not (sym (lt-ltb 0 (suc n) (omega arith)))

none_pending : (number : ℕ) (pending : List Message) → eqb (counted number pending) 0 ≡ not (is_pending number pending)
none_pending number pending = none_or (counted number pending) ∙ sym (ap not (counts-tell number pending))

pub complete_by : (pending : List Message) (o : Open) (number : OpNo) (count : ℕ) (told : Bool) →
    told ≡ all_answered o.targets o.answers → told ≡ true → number ≡ o.number → count ≡ counted number.0 pending → eqb count 0 ≡ is_complete pending o
complete_by pending o number count told answers all same counts =
    ap (λ (n : ℕ). eqb n 0) (counts ∙ ap (λ (n : OpNo). counted n.0 pending) same)
    ∙ none_pending o.number.0 pending
    ∙ ap (λ (b : Bool). b && not (is_pending o.number.0 pending)) (sym all ∙ answers)

pub not_told : (pending : List Message) (o : Open) (told : Bool) → told ≡ all_answered o.targets o.answers → told ≡ false → false ≡ is_complete pending o
not_told pending o told answers none = ap (λ (b : Bool). b && not (is_pending o.number.0 pending)) (sym none ∙ answers)
