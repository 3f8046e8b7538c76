-- What a program finds that reads its stack, starting at the stack pointer.
use Rattle.std.specs.Prelude.{◌≡◌, ℕ, ◌+◌, ◌-◌, ◌*◌, ◌<◌, ◌≤◌, ◌^◌, false, List, [], length, take, drop, slice_index, slice_index_or}
use Rattle.lego_base.specs.Space.{number_of}
use Rattle.space_rules.specs.Start.{closed, is_too_big, auxiliary_vector, sp_of, stack_bytes}

-- the word at a place among the words that begin at the stack pointer, from 0
abbrev pub word_at : List ℕ → ℕ → ℕ
word_at bytes place = number_of (take 8 (drop (8 * place) bytes))

-- a string is at an address, with its closing 0
pub record StandsAt (sp : ℕ) (bytes : List ℕ) (address : ℕ) (string : List ℕ) : Type 0 where
  pub above : sp ≤ address
  pub there : take (length (closed string)) (drop (address - sp) bytes) ≡ closed string

-- The first word counts the arguments. Then come the addresses of the arguments, 0, the addresses of the environment's
-- strings, 0, and the auxiliary vector.
pub record TellsAll (args env : List (List ℕ)) (entry sp : ℕ) (bytes : List ℕ) : Type 0 where
  pub count : word_at bytes 0 ≡ length args
  pub arg : (i : ℕ) → i < length args → StandsAt sp bytes (word_at bytes (1 + i)) (slice_index_or args i [])
  pub args_end : word_at bytes (1 + length args) ≡ 0
  pub env_string : (i : ℕ) → i < length env → StandsAt sp bytes (word_at bytes (2 + length args + i)) (slice_index_or env i [])
  pub env_end : word_at bytes (2 + length args + length env) ≡ 0
  pub auxiliary : (i : ℕ) → i < 6 → word_at bytes (3 + length args + length env + i) ≡ slice_index (auxiliary_vector entry) i

abbrev pub StackTellsAll : Type 0
StackTellsAll =
    (args env : List (List ℕ)) (entry : ℕ)
    → is_too_big args env ≡ false → entry < 2 ^ 64 → TellsAll args env entry (sp_of args env) (stack_bytes args env entry)
