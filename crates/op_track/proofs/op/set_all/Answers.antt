use Rattle.std.proofs.Common.{◌≡◌, ◌+◌, ◌<◌, ◌++◌, ◌∙◌, ℕ, List, ap, arith, drop, get_or, length, map, set, take}
use Rattle.std.proofs.lemmas.List.{get_or_default}
use Rattle.std.proofs.lemmas.List.Edits.{map_over_more}
use Rattle.op_track.specs.Targets.{set_to}
use Rattle.op_track.specs.declared.op.Target.{Target}
use Rattle.op_track.proofs.op.set_all.Goals as goal

-- one more target is mapped
step : (f : Target → Target) (xs ys : List Target) (i : ℕ) (d r : Target) → i < length xs → length ys ≡ length xs → ys ≡ map f (take i xs) ++ drop i xs → r ≡ f (get_or ys i d) → set ys i r ≡ map f (take (i + 1) xs) ++ drop (i + 1) xs
step f xs ys i d r inside long so e =
    let within : i < length ys = omega (arith, inside, long) in
    ap (set ys i) e ∙ map_over_more f xs ys i (get_or ys i d) inside so (get_or_default ys i d (get_or ys i d) within)

pub loop-target-preserved : goal.loop-target-preserved
loop-target-preserved c = step (set_to c.args.answered c.args.place) c.args.targets.now c.loop-target.targets c.loop-target.target-index _ c.with_answer.result c.loop-target-test.true c.loop-target.auto.targets c.loop-target.invariant c.with_answer.ensures
