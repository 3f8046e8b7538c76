use Rattle.std.proofs.Common.{◌≡◌, ◌+◌, ℕ, arith, subst, sym}
use Rattle.lego_base.specs.Keys.{key_at}
use Rattle.keyed_list.proofs.Spans.{spanned, upto_absent, upto_found}
use Rattle.keyed_list.specs.Below.{count_upto}
use Rattle.keyed_list.specs.Places.{IsSpan}
use Rattle.keyed_list.proofs.search.span.Goals as goal

pub returns-in-Ok : goal.returns-in-Ok
returns-in-Ok g c =
    let end = upto_found g.T.Keyed.key (key_at c.args.pid.0 c.args.last) c.args.items.now c.requires.rises c.in-Ok.place c.in-Ok.ensures.ok in
    let is : count_upto g.T.Keyed.key (key_at c.args.pid.0 c.args.last) c.args.items.now ≡ c.in-Ok.place + 1 = omega (arith, end) in
    let S : ℕ → ℕ → Type 0 = IsSpan g.T.Keyed.key c.args.pid.0 c.args.first c.args.last c.args.items.now in
    subst (S c.count_below-start.result) is (subst (λ n. S n (count_upto g.T.Keyed.key (key_at c.args.pid.0 c.args.last) c.args.items.now)) (sym c.count_below-start.ensures.below)
    (spanned g.T.Keyed.key c.args.pid.0 c.args.first c.args.last c.requires.order c.args.items.now c.requires.rises))

pub returns-in-Err : goal.returns-in-Err
returns-in-Err g c =
    let end = upto_absent g.T.Keyed.key (key_at c.args.pid.0 c.args.last) c.args.items.now c.requires.rises c.in-Err.place c.in-Err.ensures.err in
    let S : ℕ → ℕ → Type 0 = IsSpan g.T.Keyed.key c.args.pid.0 c.args.first c.args.last c.args.items.now in
    subst (S c.count_below-start.result) end (subst (λ n. S n (count_upto g.T.Keyed.key (key_at c.args.pid.0 c.args.last) c.args.items.now)) (sym c.count_below-start.ensures.below)
    (spanned g.T.Keyed.key c.args.pid.0 c.args.first c.args.last c.requires.order c.args.items.now c.requires.rises))
