-- The search for the lowest free slot.
use Rattle.std.proofs.Common.{◌≡◌, ◌+◌, ◌≤◌, [], ◌∷◌, ◌∙◌, ℕ, List, None, Option, Some, ap, arith, cond, drop, refl, suc, zero}
use Rattle.std.proofs.lemmas.Bool.{lt-ltb}
use Rattle.kernel_objects.specs.Slots.{free_from}

-- slots below where the search begins aren't looked at
pub skipped : {X : Type 0} (from n k : ℕ) (slots : List (Option X)) → n + k ≤ from → free_from from n slots ≡ free_from from (n + k) (drop k slots)
skipped from n zero slots le = ap (λ m. free_from from m slots) (omega arith)
skipped from n (suc k) [] le = refl
skipped from n (suc k) (Some x ∷ slots) le = skipped from (n + 1) k slots (omega (arith, le)) ∙ ap (λ m. free_from from m (drop k slots)) (omega arith)
skipped from n (suc k) (None ∷ slots) le =
    ap (λ b. cond b (free_from from (n + 1) slots) (Some n)) (lt-ltb n from (omega (arith, le)))
    ∙ skipped from (n + 1) k slots (omega (arith, le)) ∙ ap (λ m. free_from from m (drop k slots)) (omega arith)
