-- How a count of faults moves over a call. It never falls, and it stays at 2^64 - 1 once it is there.
use Rattle.std.specs.Prelude.{ℕ, ◌+◌, ◌-◌, ◌^◌, ◌<◌, ◌≤◌, min, Result, OnErr}

-- the count after one more fault
abbrev pub risen : ℕ → ℕ
risen count = min (count + 1) (2 ^ 64 - 1)

-- the count rose: it is greater than before, or at its end
abbrev pub Rose : ℕ → ℕ → Type 0
Rose before now = risen before ≤ now

-- the count didn't rise
abbrev pub Calm : ℕ → ℕ → Type 0
Calm before now = now < risen before

-- the count didn't fall, and it rose where the result is an error
pub record HasCause {X E : Type 0} (before now : ℕ) (result : Result X E) : Type 0 where
  pub later : before ≤ now
  pub failed : OnErr result (Rose before now)
