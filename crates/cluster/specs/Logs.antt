-- Which logs are known to be empty between operations, and which an operation asks to be.
use Rattle.std.specs.Prelude.{◌≡◌, ◌<◌, ◌==◌, ◌||◌, [], ◌∷◌, ℕ, Bool, List, Some, false, slice_get, true}
use Rattle.lego_msg.specs.Places.{secondary_of}
use Rattle.lego_msg.specs.State.{Mem}
use Rattle.lego_msg.specs.declared.operation.Operation.{Operation}
use Rattle.lego_msg.specs.declared.operation.Operation.TheVariants.{Copies, Drains, Drops, Unmaps, Writes}

abbrev pub IsEmptyIn : List Mem → ℕ → Type 0
IsEmptyIn mems k = (s : Mem) → slice_get mems k ≡ Some s → s.log ≡ []

-- the logs of these memories are
abbrev pub AreEmpty : List Mem → List ℕ → Type 0
AreEmpty mems [] = Unit {0}
AreEmpty mems (k ∷ drained) = IsEmptyIn mems k × AreEmpty mems drained

-- a drain empties one more; after a write nothing is known of them
abbrev pub drained_after : Operation → List ℕ → List ℕ
drained_after (Drains m) drained = m.0 ∷ drained
drained_after (Writes origin patch owner) drained = []
drained_after other drained = drained

abbrev pub is_in : ℕ → List ℕ → Bool
is_in k [] = false
is_in k (d ∷ drained) = d == k || is_in k drained

-- before pages are unmapped or copied the log of their owner's secondary is drained, and before a space goes all of them are
abbrev pub AreDrained : ℕ → List ℕ → Operation → Type 0
AreDrained n drained (Unmaps pid region first pages areas owner) = is_in (secondary_of n owner.0) drained ≡ true
AreDrained n drained (Copies parent child regions owner) = is_in (secondary_of n owner.0) drained ≡ true
AreDrained n drained (Drops pid) = (k : ℕ) → k < n → is_in k drained ≡ true
AreDrained n drained other = Unit {0}
