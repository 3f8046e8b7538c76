use Rattle.std.proofs.Common.{◌≡◌, ℕ, ◌+◌, ◌-◌, ◌∙◌, ap, min, length, take, drop, arith}
use Rattle.lego_base.specs.Pieces.{laid_over}
use Rattle.space_loading.proofs.Laid.{laid, not_laid}
use Rattle.space_loading.proofs.pages.lay.Goals as goal

pub returns-then-from-to : goal.returns-then-from-to
returns-then-from-to c space is =
    let s = c.args.segment.now in
    let old = c.args.bytes.now in
    let from = c.max-from.result in
    let to = c.min-to.result in
    let ends : to ≡ min (c.args.first + length old) (s.vaddr + length s.bytes) = c.min-to.ensures ∙ ap (λ (n : ℕ). min (c.args.first + length old) (s.vaddr + n)) c.len.ensures in
    let size : from - s.vaddr + (to - from) - (from - s.vaddr) ≡ to - from = omega arith in
    c.put.ensures
    ∙ (λ i. laid_over old (from - c.args.first) (take (size i) (drop (from - s.vaddr) (c.as_slice.ensures i))))
    ∙ laid space c.args.first (length old) s.vaddr s.bytes from to c.max-from.ensures ends old c.if-from-to.true is

pub returns-else-from-to : goal.returns-else-from-to
returns-else-from-to c space is =
    let s = c.args.segment.now in
    let old = c.args.bytes.now in
    let ends : c.min-to.result ≡ min (c.args.first + length old) (s.vaddr + length s.bytes) = c.min-to.ensures ∙ ap (λ (n : ℕ). min (c.args.first + length old) (s.vaddr + n)) c.len.ensures in
    is ∙ not_laid space c.args.first (length old) s.vaddr s.bytes c.max-from.result c.min-to.result c.max-from.ensures ends c.if-from-to.false
