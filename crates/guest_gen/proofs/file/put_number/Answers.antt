use Rattle.std.proofs.Common.{◌≡◌, ◌-◌, ◌/◌, ◌%◌, ℕ, suc, ap, arith}
use Rattle.lego_base.specs.Space.{bytes_of}
use Rattle.guest_gen.proofs.OneByOne.{one_more}
use Rattle.guest_gen.proofs.file.put_number.Goals as goal

pub loop-left-preserved : goal.loop-left-preserved
loop-left-preserved c =
    let left = c.loop-left.left in
    let rest = c.loop-left.rest in
    let more : left ≡ suc (left - 1) = omega arith in
    one_more _ _ _ (bytes_of left rest) (bytes_of (left - 1) (rest / 256)) (rest % 256) c.in_ok-push.ensures.items
    (ap (λ (n : ℕ). bytes_of n rest) more) c.loop-left.invariant
