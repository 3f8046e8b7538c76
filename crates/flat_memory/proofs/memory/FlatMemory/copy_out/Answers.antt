use Rattle.std.proofs.Common.{◌≡◌, ◌<◌, length, refl, sym, ap, ◌∙◌, arith, rules}
use Rattle.lego_base.specs.Space.{permits}
use Rattle.flat_memory.specs.Spaces.{space_of, space_at}
use Rattle.flat_memory.proofs.Spaces.{in_place, at-past, at-within, none-permitted, copied-to, copied-none}
use Rattle.flat_memory.proofs.memory.FlatMemory.copy_out.Goals as goal

pub returns-then-index-len : goal.returns-then-index-len
returns-then-index-len c =
    let some : 0 < length c.args.bytes.now = search rules in (
      ap (λ space. permits space 2 c.args.addr (length c.args.bytes.now)) (at-past c.args.self.now.spaces.items c.args.pid.0 (omega (arith, c.args.self.now.spaces.ok.0))) ∙ none-permitted 2 c.args.addr (length c.args.bytes.now) some,
      refl,
    )

pub returns-in-None : goal.returns-in-None
returns-in-None c =
    let spaces = c.args.self.now.spaces.items in
    let within : c.args.pid.0 < length spaces = omega (arith, c.args.self.now.spaces.ok.0) in
    let some : 0 < length c.args.bytes.now = search rules in
    copied-none spaces c.args.pid.0 c.index_mut.result.now c.args.addr c.args.bytes.now within some c.index_mut.ensures.value c.in-None.is

pub returns-in-Some : goal.returns-in-Some
returns-in-Some c =
    let spaces = c.args.self.now.spaces.items in
    let within : c.args.pid.0 < length spaces = omega (arith, c.args.self.now.spaces.ok.0) in
    let before : space_at spaces c.args.pid.0 ≡ space_of c.in-Some.space = at-within spaces c.args.pid.0 c.index_mut.result.now within ∙ ap in_place (sym c.index_mut.ensures.value ∙ c.in-Some.is) in
    copied-to spaces c.args.pid.0 c.in-Some.space c.copy_out.new.self c.args.addr c.args.bytes.now c.copy_out.result within before c.copy_out.ensures
