-- Laws of the counts of faults.
use Rattle.std.proofs.Common.{◌≡◌, ℕ, ◌+◌, ◌-◌, ◌^◌, ◌<◌, ◌≤◌, min, ◌⊎◌, Result, Ok, Err, arith}
use Rattle.std.proofs.lemmas.Bool.{cases_lt}
use Rattle.lego_base.specs.Counts.{risen, Rose, Calm, HasCause}

pub Rose-later : (a b c : ℕ) → Rose a b → b ≤ c → Rose a c
Rose-later a b c rose later = omega arith

pub Rose-earlier : (a b c : ℕ) → a ≤ b → Rose b c → Rose a c
Rose-earlier a b c later rose = omega arith

-- one fault more makes a count rise
pub Rose-risen : (a : ℕ) → Rose a (risen a)
Rose-risen a = omega arith

-- A count of 64 bits doesn't fall by a fault.
pub le-risen : (a : ℕ) → a < 2 ^ 64 → a ≤ risen a
le-risen a fits = omega arith

pub Calm-or_rose : (a b : ℕ) → Calm a b ⊎ Rose a b
Calm-or_rose a b = cases_lt b (min (a + 1) (2 ^ 64 - 1))

pub Calm-not_rose : (a b : ℕ) → Calm a b → Rose a b → ⊥
Calm-not_rose a b calm rose = omega arith

-- where the count is calm it is the same
pub Calm-same : (a b : ℕ) → a ≤ b → Calm a b → b ≡ a
Calm-same a b later calm = omega arith

pub Calm-append : (a b c : ℕ) → a ≤ b → Calm a b → b ≤ c → Calm b c → Calm a c
Calm-append a b c first calm second still = omega arith

-- both halves of a calm stretch are calm
pub Calm-first : (a b c : ℕ) → a ≤ b → b ≤ c → Calm a c → Calm a b
Calm-first a b c first second calm = omega arith

pub Calm-second : (a b c : ℕ) → a ≤ b → b ≤ c → Calm a c → Calm b c
Calm-second a b c first second calm = omega arith

-- a call after others has the cause over all of them
pub HasCause-earlier : {X E : Type 0} (a b c : ℕ) (result : Result X E) → a ≤ b → HasCause b c result → HasCause a c result
HasCause-earlier a b c (Ok x) later cause = record { later = omega (arith, cause.later); failed = tt }
HasCause-earlier a b c (Err e) later cause = record {
  later = omega (arith, cause.later);
  failed = Rose-earlier a b c later cause.failed;
}

-- and a call before others
pub HasCause-later : {X E : Type 0} (a b c : ℕ) (result : Result X E) → HasCause a b result → b ≤ c → HasCause a c result
HasCause-later a b c (Ok x) cause later = record { later = omega (arith, cause.later); failed = tt }
HasCause-later a b c (Err e) cause later = record {
  later = omega (arith, cause.later);
  failed = Rose-later a b c cause.failed later;
}
