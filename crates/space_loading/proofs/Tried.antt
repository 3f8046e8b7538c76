-- The areas of a process without a space, in a machine with spaces alone.
use Rattle.std.proofs.Common.{◌≡◌, ℕ, sym, ◌∙◌, List}
use Rattle.lego_base.specs.declared.records.Area.{Area}
use Rattle.lego_base.specs.Space.{Space, no_space, with_space}
use Rattle.linux_model.specs.Effects.{Maps}
use Rattle.linux_model.specs.Held.{held_after}
use Rattle.space_loading.specs.Tried.{with_one_file}

pub maps_bare : (pid : ℕ) (areas : List Area) (old new : ℕ → Space) → old ≡ (λ (pid : ℕ). no_space) → new ≡ with_space old pid (record { areas = areas; byte = λ a. 0 }) → with_one_file new ≡ held_after (Maps pid areas) (with_one_file old)
maps_bare pid areas old new bare created =
    (λ i. with_one_file (created i)) ∙ (λ i. with_one_file (with_space old pid (record { areas = areas; byte = (sym bare i pid).byte })))
