-- The product of 128 bits is that of the signed words.
use Rattle.std.proofs.Common.{◌≡◌, ℕ, FitsSigned, w64, ap, ◌*ℤ◌, ◌∙◌, ◌/◌, ◌^◌, rules}
use Rattle.rv64_step.specs.Word.{signed}
use Rattle.rv64_step.specs.Arith.{upper}
use Rattle.rv64_step.proofs.Products.{product_is, signed_is}
use Rattle.rv64_step.proofs.alu.mulh.Goals as goal

pub returns : goal.returns
returns c =
    let x : FitsSigned w64 c.cast_signed.result = search rules in
    let y : FitsSigned w64 c.cast_signed-2.result = search rules in
    let first : c.cast_signed.result ≡ signed c.args.a = c.cast_signed.ensures ∙ signed_is c.args.a c.ranges.a.fits in
    let second : c.cast_signed-2.result ≡ signed c.args.b = c.cast_signed-2.ensures ∙ signed_is c.args.b c.ranges.b.fits in
    ap (λ (n : ℕ). n / 2 ^ 64) (c.cast_unsigned.ensures ∙ product_is c.cast_signed.result c.cast_signed-2.result x y)
    ∙ (λ i. upper (first i *ℤ second i))
