use Rattle.std.proofs.Common.{◌≡◌, suc, ◌+◌, ◌-◌, ◌*◌, ◌^◌, ◌<◌, sym, arith, rules, subst}
use Rattle.rv64_step.specs.Access.{bytes_in}
use Rattle.flat_memory.specs.Spaces.{space_of}
use Rattle.flat_memory.proofs.Accesses.{width-some, word-fits, number-fits, number-more}
use Rattle.flat_memory.proofs.space.FlatSpace.read_across.Goals as goal

pub overflow_mul-value : goal.overflow_mul-value
overflow_mul-value c =
    let few : bytes_in c.args.width - c.loop-k.k < 8 = omega (arith, width-some c.args.width) in
    let zero_below : 0 < 256 = omega arith in
    omega (arith, word-fits c.loop-k.value 0 (bytes_in c.args.width - c.loop-k.k) c.loop-k.invariant.fits zero_below few)

pub overflow_add-value : goal.overflow_add-value
overflow_add-value c =
    let few : bytes_in c.args.width - c.loop-k.k < 8 = omega (arith, width-some c.args.width) in
    let byte : c.byte.result < 256 = search rules in
    omega (arith, word-fits c.loop-k.value c.byte.result (bytes_in c.args.width - c.loop-k.k) c.loop-k.invariant.fits byte few)

pub loop-k-preserved : goal.loop-k-preserved
loop-k-preserved c =
    let k = c.loop-k.k - 1 in
    let more : bytes_in c.args.width - (c.loop-k.k - 1) ≡ suc (bytes_in c.args.width - c.loop-k.k) = omega arith in
    let next : c.args.addr + (c.loop-k.k - 1) + 1 ≡ c.args.addr + c.loop-k.k = omega arith in
    let byte : c.byte.result < 256 = search rules in
    record {
      number = number-more (space_of c.args.self.now) (c.args.addr + (c.loop-k.k - 1)) (c.args.addr + c.loop-k.k) _ (bytes_in c.args.width - c.loop-k.k) c.loop-k.value c.byte.result more next c.loop-k.invariant.number c.byte.ensures;
      fits = subst (λ n. c.loop-k.value * 256 + c.byte.result < 256 ^ n) (sym more) (number-fits c.loop-k.value c.byte.result (bytes_in c.args.width - c.loop-k.k) c.loop-k.invariant.fits byte);
    }
