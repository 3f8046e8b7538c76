use Rattle.std.proofs.Common.{arith, refl}
use Rattle.std.proofs.lemmas.Bool.Decides.{nat_tests}
use Rattle.std.proofs.lemmas.Cmp.{same_from_slice_cmp_tested}
use Rattle.std.specs.Ordering.{is_lt, nat_cmp}
use Rattle.lego_base.specs.Files.{is_before}
use Rattle.file_table.proofs.names.is_before.Goals as goal

-- the order of names is that of slices
pub returns : goal.returns
returns c = same_from_slice_cmp_tested nat_cmp is_lt is_before refl (λ _ _. refl) (λ _ _. refl) (λ x y xs ys o h. grind (arith, nat_tests)) c.args.name.now c.args.other.now c.lt.result c.lt.ensures
