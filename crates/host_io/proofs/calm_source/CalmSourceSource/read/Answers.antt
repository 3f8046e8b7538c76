use Rattle.std.proofs.Common.{◌≡◌, ℕ, List, length, take, drop, sym, ap, ◌∙◌, arith}
use Rattle.host_io.proofs.SourceLaws.{moved_front}
use Rattle.host_io.proofs.calm_source.CalmSourceSource.read.Goals as goal

pub returns-clause-moved : goal.returns-clause-moved
returns-clause-moved c =
    let n = c.copy_front-count.result in
    let is : c.split_at.result.1.now ≡ c.args.self.now =
    c.split_at.ensures.back ∙ (ap (λ (l : List ℕ). drop c.self.inside.at l) c.as_slice.ensures ∙ c.self.view_is) in
    moved_front _ c.self.inside.bytes _ c.self.inside.at n (sym c.self.view_is) (omega (arith, ap length is, c.copy_front-count.ensures.count, c.copy_front-count.auto.buf)) (c.copy_front-count.ensures.bytes ∙ ap (λ (l : List ℕ). take n l) is)
