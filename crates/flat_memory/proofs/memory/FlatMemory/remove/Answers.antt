use Rattle.std.proofs.Common.{◌≡◌, ◌<◌, length, sym, ap, ◌∙◌, arith}
use Rattle.lego_base.specs.Space.{no_space}
use Rattle.flat_memory.specs.Spaces.{spaces_of}
use Rattle.flat_memory.proofs.Spaces.{in_place, at-within, set-there, empty_is}
use Rattle.flat_memory.proofs.memory.FlatMemory.remove.Goals as goal

pub returns-in_err-grow-clause-others : goal.returns-in_err-grow-clause-others
returns-in_err-grow-clause-others c = λ q other. ap (λ f. f q) c.in_err-grow.ensures.spaces

pub returns-in_err-new-in-None-clause-others : goal.returns-in_err-new-in-None-clause-others
returns-in_err-new-in-None-clause-others c = λ q other.
    set-there c.grow.new.self.spaces.items c.args.pid.0 c.take.new.self q other
    ∙ ap (λ f. f q) c.in_ok-grow.ensures.spaces

pub returns-in-Some-clause-removed : goal.returns-in-Some-clause-removed
returns-in-Some-clause-removed c =
    let spaces = c.grow.new.self.spaces.items in
    let within : c.args.pid.0 < length spaces = omega (arith, c.in_ok-grow.ensures.room, c.grow.new.self.spaces.ok.0) in
    sym
    (ap (λ f. f c.args.pid.0) (sym c.in_ok-grow.ensures.spaces)
    ∙ at-within spaces c.args.pid.0 c.index_mut.result.now within
    ∙ ap in_place (sym c.index_mut.ensures.value ∙ sym c.take.ensures.value ∙ c.in-Some.is))

pub returns-in-Some-clause-others : goal.returns-in-Some-clause-others
returns-in-Some-clause-others c = λ q other.
    set-there c.grow.new.self.spaces.items c.args.pid.0 c.take.new.self q other
    ∙ ap (λ f. f q) c.in_ok-grow.ensures.spaces

pub returns-in_ok-new-in-None-clause-removed : goal.returns-in_ok-new-in-None-clause-removed
returns-in_ok-new-in-None-clause-removed c =
    let spaces = c.grow.new.self.spaces.items in
    let within : c.args.pid.0 < length spaces = omega (arith, c.in_ok-grow.ensures.room, c.grow.new.self.spaces.ok.0) in
    let none : spaces_of c.args.self.now c.args.pid.0 ≡ no_space =
    ap (λ f. f c.args.pid.0) (sym c.in_ok-grow.ensures.spaces)
    ∙ at-within spaces c.args.pid.0 c.index_mut.result.now within
    ∙ ap in_place (sym c.index_mut.ensures.value ∙ sym c.take.ensures.value ∙ c.in-None.is)
    in
    empty_is c.in_ok-new-in-None.field-0 (spaces_of c.args.self.now c.args.pid.0) c.new-in-None.result c.in_ok-new-in-None.ensures none c.new-in-None.ensures

pub returns-in_ok-new-in-None-clause-others : goal.returns-in_ok-new-in-None-clause-others
returns-in_ok-new-in-None-clause-others c = λ q other.
    set-there c.grow.new.self.spaces.items c.args.pid.0 c.take.new.self q other
    ∙ ap (λ f. f q) c.in_ok-grow.ensures.spaces
