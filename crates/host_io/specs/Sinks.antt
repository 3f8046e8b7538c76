-- What a write does to the bytes that a sink holds, where it tells them: `None` is a sink that doesn't.
use Rattle.std.specs.Prelude.{◌≡◌, ℕ, ◌<◌, ◌≤◌, List, ◌++◌, length, take, Option, Some, None, Result, IfOk, OnErr}

-- what a sink tells: the bytes that it took, in order, unless it doesn't tell them, and how often it failed
pub record SinkState : Type 0 where
  pub held : Option (List ℕ)
  pub faults : ℕ

-- These bytes, and no others, were appended.
abbrev pub TookAll : Option (List ℕ) → Option (List ℕ) → List ℕ → Type 0
TookAll None new bytes = new ≡ None
TookAll (Some held) new bytes = new ≡ Some (held ++ bytes)

-- A prefix of these bytes was appended, perhaps none of them, perhaps all.
pub record TookSome (old new : Option (List ℕ)) (bytes : List ℕ) : Type 0 where
  pub front : List ℕ
  pub rest : List ℕ
  pub whole : front ++ rest ≡ bytes
  pub took : TookAll old new front

-- A proper prefix of these bytes was appended, perhaps none of them, but not all.
pub record TookFront (old new : Option (List ℕ)) (bytes : List ℕ) : Type 0 where
  pub front : List ℕ
  pub rest : List ℕ
  pub more : 0 < length rest
  pub whole : front ++ rest ≡ bytes
  pub took : TookAll old new front

-- One write of a piece: `Ok n` appended its first n bytes, at least one where the piece has one, and an
-- error appended nothing.
pub record Took {E : Type 0} (old new : Option (List ℕ)) (bytes : List ℕ) (result : Result ℕ E) : Type 0 where
  pub within : IfOk result (λ n. n ≤ length bytes)
  pub some : IfOk result (λ n. 0 < length bytes → 0 < n)
  pub taken : IfOk result (λ n. TookAll old new (take n bytes))
  pub none : OnErr result (new ≡ old)
