use Rattle.std.proofs.Common.{◌≡◌, ◌<◌, length, MatchOption, sym, subst, ap, ◌∙◌, arith}
use Rattle.lego_base.specs.Space.{Space, no_space}
use Rattle.flat_memory.specs.Spaces.{space_of, space_at}
use Rattle.flat_memory.proofs.Spaces.{in_place, at-past, at-within, looked-up}
use Rattle.flat_memory.proofs.memory.FlatMemory.space.Goals as goal

pub returns-then-index-len : goal.returns-then-index-len
returns-then-index-len c = at-past c.args.self.now.spaces.items c.args.pid.0 (omega (arith, c.args.self.now.spaces.ok.0))

pub returns : goal.returns
returns c =
    let spaces = c.args.self.now.spaces.items in
    let within : c.args.pid.0 < length spaces = omega (arith, c.args.self.now.spaces.ok.0) in
    let at : space_at spaces c.args.pid.0 ≡ in_place c.index.result.now = at-within spaces c.args.pid.0 c.index.result.now within ∙ ap in_place (sym c.index.ensures) in
    subst (λ (s : Space). MatchOption c.as_ref.result (s ≡ no_space) (λ space. s ≡ space_of space.now)) (sym at) (looked-up c.index.result.now c.as_ref.result c.as_ref.ensures.value)
