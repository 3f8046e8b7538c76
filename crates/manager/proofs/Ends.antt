-- The pipe of an end is there.
use Rattle.std.proofs.Common.{◌≡◌, ℕ, ◌+◌, ◌<◌, Bool, true, false, eqb, refl, sym, ◌∙◌, ap, List, Option, is_some, arith}
use Rattle.std.proofs.lemmas.Bool.{eqb-true}
use Rattle.kernel_objects.specs.declared.descriptor.Object.{Object}
use Rattle.kernel_objects.specs.declared.descriptor.Object.TheVariants.{PipeRead, PipeWrite, Input, Output, Regular}
use Rattle.kernel_objects.specs.Slots.{slot}
use Rattle.linux_model.specs.Processes.{is_reading_end, is_writing_end}
use Rattle.manager.specs.Counting.{one_if}
use Rattle.manager.specs.Tables.{PipeThere}

at_end : (b : Bool) (pipes : List (Option (List ℕ))) (m n : ℕ) → eqb m n ≡ b → is_some (slot pipes m) ≡ true → 0 < one_if b → is_some (slot pipes n) ≡ true
at_end true pipes m n e there some = ap (λ (k : ℕ). is_some (slot pipes k)) (sym (eqb-true m n e)) ∙ there
at_end false pipes m n e there some = absurd (omega (arith, some))

pub ends_there : (pipes : List (Option (List ℕ))) (object : Object) (n : ℕ) → PipeThere pipes object → 0 < one_if (is_reading_end n object) + one_if (is_writing_end n object) → is_some (slot pipes n) ≡ true
ends_there pipes (PipeRead m) n there some = at_end (eqb m n) pipes m n refl there (omega (arith, some))
ends_there pipes (PipeWrite m) n there some = at_end (eqb m n) pipes m n refl there (omega (arith, some))
ends_there pipes Input n there some = absurd (omega (arith, some))
ends_there pipes (Output stream) n there some = absurd (omega (arith, some))
ends_there pipes (Regular file) n there some = absurd (omega (arith, some))
