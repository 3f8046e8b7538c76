use Rattle.std.proofs.Common.{◌<◌, length, Some, ap, ◌∙◌, arith}
use Rattle.lego_base.specs.Space.{with_space}
use Rattle.flat_memory.specs.Spaces.{space_of}
use Rattle.flat_memory.proofs.Spaces.{at-set, set-there}
use Rattle.flat_memory.proofs.memory.FlatMemory.set.Goals as goal

pub returns-in_err-grow-clause-others : goal.returns-in_err-grow-clause-others
returns-in_err-grow-clause-others c = λ q other. ap (λ f. f q) c.in_err-grow.ensures.spaces

pub returns-clause-set : goal.returns-clause-set
returns-clause-set c =
    let spaces = c.grow.new.self.spaces.items in
    let within : c.args.pid.0 < length spaces = omega (arith, c.in_ok-grow.ensures.room, c.grow.new.self.spaces.ok.0) in
    at-set spaces c.args.pid.0 c.args.space within
    ∙ ap (λ f. with_space f c.args.pid.0 (space_of c.args.space)) c.in_ok-grow.ensures.spaces

pub returns-clause-others : goal.returns-clause-others
returns-clause-others c = λ q other.
    set-there c.grow.new.self.spaces.items c.args.pid.0 (Some c.args.space) q other
    ∙ ap (λ f. f q) c.in_ok-grow.ensures.spaces
