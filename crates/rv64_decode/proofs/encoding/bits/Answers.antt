use Rattle.std.proofs.Common.{◌≡◌, ◌<◌, ◌*◌, ◌^◌, ◌/◌, ◌%◌, arith}
use Rattle.std.proofs.lemmas.Nat.{pow_below, and_mask}
use Rattle.rv64_decode.proofs.encoding.bits.Goals as goal

pub returns-clause-value : goal.returns-clause-value
returns-clause-value c =
    let small : 2 ^ c.args.width < 2 ^ 32 = pow_below c.args.width 32 c.requires.narrow in
    let ones : 1 * 2 ^ c.args.width % 2 ^ 32 ≡ 2 ^ c.args.width = omega arith in
    rw ones (and_mask (c.args.word / 2 ^ c.args.from) c.args.width)
