use Rattle.std.proofs.Common.{rules, arith, ◌≡◌, ℕ, suc, ◌+◌, refl, ◌∙◌, ap, subst}
use Rattle.sys_paths.specs.Parts.{first_part}
use Rattle.sys_paths.proofs.Splitting.{Leads, ends_within, goes_on, name_here}
use Rattle.sys_paths.proofs.parts.first_name.Goals as goal

pub returns-then-not-is_root_part-clause-way : goal.returns-then-not-is_root_part-clause-way
returns-then-not-is_root_part-clause-way c =
    let within = ends_within c.loop-start.start c.first_part-len.result c.args.path.now c.from.result.now (omega (arith, c.loop-start-test.true)) c.from.ensures c.first_part-len.ensures.within in
    name_here c.loop-start.start c.first_part-len.result c.args.path.now _ (omega (arith, c.loop-start-test.true)) (c.first_part-len.ensures.part ∙ ap first_part c.from.ensures) within (search rules) c.loop-start.invariant.1 refl

pub loop-start-preserved : goal.loop-start-preserved
loop-start-preserved c =
    let within = ends_within c.loop-start.start c.first_part-len.result c.args.path.now c.from.result.now (omega (arith, c.loop-start-test.true)) c.from.ensures c.first_part-len.ensures.within in
    let next = goes_on c.loop-start.start c.first_part-len.result c.args.path.now (omega (arith, c.loop-start-test.true)) (c.first_part-len.ensures.part ∙ ap first_part c.from.ensures) (search rules) c.loop-start.invariant.1 in
    let one : c.loop-start.start + suc c.first_part-len.result ≡ c.loop-start.start + (c.first_part-len.result + 1) = omega arith in
    (omega (arith, within), subst (λ (n : ℕ). Leads n c.args.path.now) one next)
