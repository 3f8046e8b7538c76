use Rattle.std.proofs.Common.{◌≡◌, ◌+◌, ◌-◌, ◌*◌, ℕ, suc, [], ◌∷◌, ap, arith}
use Rattle.guest_gen.specs.declared.assembly.Register.TheVariants.{T0, T1, A0}
use Rattle.guest_gen.specs.declared.assembly.Step.TheVariants.{Li, Add, StoreByte}
use Rattle.guest_gen.specs.Jobs.{touches}
use Rattle.guest_gen.proofs.OneByOne.{some_more}
use Rattle.guest_gen.proofs.steps.put_stores.Goals as goal

pub loop-left-preserved : goal.loop-left-preserved
loop-left-preserved c =
    let left = c.loop-left.left in
    let page = c.loop-left.page in
    let more : left ≡ suc (left - 1) = omega arith in
    record {
      steps = some_more _ _ _ (Li T0 (4096 * page) ∷ Add T0 T0 A0 ∷ Li T1 c.args.value ∷ StoreByte T1 T0 ∷ [])
          (touches page left c.args.value) (touches (page + 1) (left - 1) c.args.value) c.in_ok-extend_from_slice.ensures.items
          (ap (λ (n : ℕ). touches page n c.args.value) more) c.loop-left.invariant.steps;
      count = omega arith;
    }
