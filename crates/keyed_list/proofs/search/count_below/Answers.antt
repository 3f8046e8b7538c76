use Rattle.std.proofs.Common.{◌≡◌, ◌+◌, ◌-◌, ◌/◌, ◌∙◌, ap, arith, false, get_or, sym, true}
use Rattle.lego_base.specs.Keys.{is_below, key_at}
use Rattle.keyed_list.proofs.Found.{below_before, below_within, other_after}
use Rattle.keyed_list.proofs.search.count_below.Goals as goal

pub loop-low-init : goal.loop-low-init
loop-low-init g c =
    let within = below_within g.T.Keyed.key (key_at c.args.pid.0 c.args.number) c.args.items.now in
    (omega arith, within, omega arith)

pub loop-low-preserved-then-is_below : goal.loop-low-preserved-then-is_below
loop-low-preserved-then-is_below g c =
    let k = key_at c.args.pid.0 c.args.number in
    let middle = c.loop-low.low + (c.loop-low.high - c.loop-low.low) / 2 in
    let below : is_below (g.T.Keyed.key (get_or c.args.items.now middle c.index-items-middle.result)) k ≡ true =
    ap (λ x. is_below (g.T.Keyed.key x) k) (sym c.index-items-middle.is) ∙ (sym c.is_below.ensures ∙ c.if-is_below.true) in
    let more = below_before g.T.Keyed.key k c.args.items.now middle c.index-items-middle.result c.requires (omega arith) below in
    (omega (arith, more), c.loop-low.invariant.1, c.loop-low.invariant.2)

pub loop-low-preserved : goal.loop-low-preserved
loop-low-preserved g c =
    let k = key_at c.args.pid.0 c.args.number in
    let middle = c.loop-low.low + (c.loop-low.high - c.loop-low.low) / 2 in
    let other : is_below (g.T.Keyed.key (get_or c.args.items.now middle c.index-items-middle.result)) k ≡ false =
    ap (λ x. is_below (g.T.Keyed.key x) k) (sym c.index-items-middle.is) ∙ (sym c.is_below.ensures ∙ c.if-is_below.false) in
    let fewer = other_after g.T.Keyed.key k c.args.items.now middle c.index-items-middle.result (omega arith) other in
    (c.loop-low.invariant.0, fewer, omega arith)
