-- Laws of places: memories guard each other in a circle.
use Rattle.std.specs.Prelude.{◌≡◌, ◌<◌, ◌≤◌, ℕ}
use Rattle.lego_msg.specs.Places.{guarded_by, secondary_of}

-- a memory is never its own secondary, and two memories never share one
abbrev pub SecondariesDiffer : Type 0
SecondariesDiffer = (n m k : ℕ) → 2 ≤ n → m < n → k < n →
    (secondary_of n m ≡ m → ⊥) × (secondary_of n m < n) × (secondary_of n m ≡ secondary_of n k → m ≡ k)

-- the memory that c guards is the one whose secondary is c
abbrev pub GuardsItsOwn : Type 0
GuardsItsOwn = (n c : ℕ) → 2 ≤ n → c < n → (guarded_by n c < n) × (secondary_of n (guarded_by n c) ≡ c)
