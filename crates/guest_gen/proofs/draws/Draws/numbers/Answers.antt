use Rattle.std.proofs.Common.{◌≡◌, ◌∙◌, ◌-◌, ℕ, suc, ◌∷◌, ap, sym, arith}
use Rattle.guest_gen.specs.Draws.{after, draws}
use Rattle.guest_gen.proofs.OneByOne.{one_more}
use Rattle.guest_gen.proofs.draws.Draws.numbers.Goals as goal

pub loop-left-preserved : goal.loop-left-preserved
loop-left-preserved c =
    let left = c.loop-left.left in
    let k = c.args.k in
    let s = c.loop-left.self.state in
    let more : left ≡ suc (left - 1) = omega arith in
    record {
      values = one_more _ _ _ (draws left k s) (draws (left - 1) k c.below.new.self.state) c.below.result c.in_ok-push.ensures.items
          (ap (λ (n : ℕ). draws n k s) more ∙ (λ i. sym c.below.ensures.value i ∷ draws (left - 1) k (sym c.below.ensures.state i)))
          c.loop-left.invariant.values;
      state = ap (λ (t : ℕ). after (left - 1) t) c.below.ensures.state ∙ ap (λ (n : ℕ). after n s) (sym more) ∙ c.loop-left.invariant.state;
    }
