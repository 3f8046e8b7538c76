-- What a read does to the bytes that a source has left, where it tells them: `None` is a source that
-- doesn't.
use Rattle.std.specs.Prelude.{◌≡◌, ℕ, ◌+◌, ◌<◌, ◌≤◌, ◌↔◌, List, [], ◌++◌, length, take, Option, Some, None, Result, IfOk, OnErr}

-- what a source tells: the bytes that are left, in order, unless it doesn't tell them, and how often it failed
pub record SourceState : Type 0 where
  pub left : Option (List ℕ)
  pub faults : ℕ

-- These bytes were the first ones left, and they were taken.
abbrev pub Gave : Option (List ℕ) → Option (List ℕ) → List ℕ → Type 0
Gave None new bytes = new ≡ None
Gave (Some left) None bytes = ⊥
Gave (Some left) (Some rest) bytes = left ≡ bytes ++ rest

-- Some first bytes were taken, perhaps none.
abbrev pub GaveSome : Option (List ℕ) → Option (List ℕ) → Type 0
GaveSome old new = (bytes : List ℕ) × Gave old new bytes

-- No byte is left.
abbrev pub IsDry : Option (List ℕ) → Type 0
IsDry None = Unit {0}
IsDry (Some left) = left ≡ []

-- More bytes than `most` are left.
abbrev pub IsLonger : ℕ → Option (List ℕ) → Type 0
IsLonger most None = Unit {0}
IsLonger most (Some left) = most < length left

-- A read with room gave no byte exactly where none was left.
abbrev pub NoneAtEnd : Option (List ℕ) → ℕ → Type 0
NoneAtEnd None n = Unit {0}
NoneAtEnd (Some left) n = (n ≡ 0) ↔ (left ≡ [])

-- One read into a buffer: `Ok n` moved the first n bytes left to its start, none exactly where none is
-- left if the buffer has room, and an error took nothing. `buf` is the buffer afterwards.
pub record Moved {E : Type 0} (old new : Option (List ℕ)) (buf : List ℕ) (result : Result ℕ E) : Type 0 where
  pub within : IfOk result (λ n. n ≤ length buf)
  pub gave : IfOk result (λ n. Gave old new (take n buf))
  pub end : IfOk result (λ n. 0 < length buf → NoneAtEnd old n)
  pub none : OnErr result (new ≡ old)

-- All that was left was taken: these bytes, at most `most`.
pub record ReadWhole (most : ℕ) (old new : Option (List ℕ)) (bytes : List ℕ) : Type 0 where
  pub gave : Gave old new bytes
  pub dry : IsDry new
  pub within : length bytes ≤ most

-- The first bytes left were taken: all of them, or one more than `most`.
pub record ReadFront (most : ℕ) (old new : Option (List ℕ)) (bytes : List ℕ) : Type 0 where
  pub gave : Gave old new bytes
  pub dry : length bytes ≤ most → IsDry new
  pub within : length bytes ≤ most + 1
