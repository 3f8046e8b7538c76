use Rattle.std.proofs.Common.{◌≡◌, ◌<◌, ◌∙◌, Some, ap, arith, get_or, length, sym, true}
use Rattle.std.proofs.lemmas.List.{get_or_default}
use Rattle.lego_base.specs.Space.{allows}
use Rattle.line_cache.proofs.AtHand.{takes-hand}
use Rattle.line_cache.proofs.Fitting.{slot-fits}
use Rattle.line_cache.specs.Cached.{no_line}
use Rattle.line_cache.specs.Hand.{line_at}
use Rattle.line_cache.specs.declared.line.Line.{Line}
use Rattle.line_cache.proofs.cache.LineCache.keep_at_hand.Goals as goal

pub index-requires : goal.index-requires
index-requires c =
    let fits : c.in-Some.slot < length c.self.inside.lines.items = slot-fits (length c.self.inside.lines.items) c.args.pid (line_at c.args.addr) c.self.inside.tags c.in-Some.slot c.self.invariant.fits c.in-Some.ensures.there in
    omega (arith, fits)

pub invariant_of-self : goal.invariant_of-self
invariant_of-self c =
    let fits : c.in-Some.slot < length c.self.inside.lines.items = slot-fits (length c.self.inside.lines.items) c.args.pid (line_at c.args.addr) c.self.inside.tags c.in-Some.slot c.self.invariant.fits c.in-Some.ensures.there in
    let kept : c.index.result.now ≡ get_or c.self.inside.lines.items c.in-Some.slot no_line = c.index.ensures ∙ get_or_default c.self.inside.lines.items c.in-Some.slot c.index.result.now no_line fits in
    let may : allows (Some (get_or c.self.inside.lines.items c.in-Some.slot no_line).perms) 4 ≡ true =
    ap (λ (line : Line). allows (Some line.perms) 4) (sym kept) ∙ sym c.may_execute.ensures ∙ c.if-may_execute.true in
    takes-hand c.new-self-inside.result c.self.inside.tags c.self.inside.lines.items c.args.pid c.args.addr c.in-Some.slot c.new-self-inside.ensures (omega arith) (sym c.in-Some.ensures.answer) may fits c.self.invariant.fits
