-- Lists of loads: one more, and what holds of each.
use Rattle.std.proofs.Common.{◌≡◌, ℕ, ◌+◌, ◌<◌, ◌≤◌, Bool, false, List, length, get_or}
use Rattle.std.specs.List.{All, list_any}
use Rattle.std.proofs.lemmas.Bool.{both_ways, false_from_ne_true, ltb-false}
use Rattle.std.proofs.lemmas.List.Folds.{list_any_at}
use Rattle.elf_image.specs.declared.header.Header.{Header}
use Rattle.elf_image.specs.Image.{is_outside, some_outside}

abbrev pub no_header : Header
no_header = record { kind = 0; flags = 0; offset = 0; vaddr = 0; filesz = 0; memsz = 0 }

-- where no element passes a test, each fails it
pub each_fails : {X : Type 0} (p : X → Bool) (xs : List X) → list_any p xs ≡ false → All (λ x. p x ≡ false) xs
each_fails p xs none = λ k d inside. false_from_ne_true _ (λ passes. both_ways _ none (list_any_at p xs k d inside passes))

-- where no load is outside, each ends within the file
pub inside_at : (size : ℕ) (loads : List Header) (i : ℕ) (d : Header) → some_outside size loads ≡ false → i < length loads → (get_or loads i d).offset + (get_or loads i d).filesz ≤ size
unfolding some_outside
inside_at size loads i d none inside = ltb-false _ _ (each_fails (is_outside size) loads none i d inside)
