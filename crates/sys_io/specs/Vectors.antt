-- The list of pieces of readv(2) and writev(2): what is looked at, and what it is.
use Rattle.std.specs.Prelude.{◌≡◌, ℕ, ◌*◌, true, false, if◌then◌else◌, nat_lt, List, [], ◌∷◌, Result, Ok, Err}
use Rattle.lego_base.specs.declared.sizes.TheConstants.{LONGEST_FILE}
use Rattle.lego_base.specs.Space.{Space, permits, bytes_at}
use Rattle.linux_model.specs.Limits.{EFAULT, EINVAL, VECTOR_PIECES}
use Rattle.linux_model.specs.Effects.{Effect, AsksSpan, Reads, CopyIn}
use Rattle.linux_model.specs.Buffers.{pieces_of, to_read, total}
use Rattle.sys_io.specs.declared.vectors.Vector.{Vector}

-- the check of the list, and its copy
abbrev pub vector_looks : ℕ → Space → ℕ → ℕ → List Effect
vector_looks pid space address count =
    if nat_lt VECTOR_PIECES count then [] else
    AsksSpan pid address (16 * count) ∷ (if permits space to_read address (16 * count) then Reads CopyIn pid address (bytes_at space address (16 * count)) ∷ [] else [])

-- what the list is: too many pieces, not to be read, or too many bytes
abbrev pub vector_fault : Space → ℕ → ℕ → ℕ → ℕ
vector_fault space address count ok =
    if nat_lt VECTOR_PIECES count then EINVAL else (
    if permits space to_read address (16 * count) then
    (if nat_lt LONGEST_FILE (total (pieces_of count (bytes_at space address (16 * count)))) then EINVAL else ok)
    else EFAULT)

pub record Whole (space : Space) (address count : ℕ) (v : Vector) : Type 0 where
  pub few : nat_lt VECTOR_PIECES count ≡ false
  pub good : permits space to_read address (16 * count) ≡ true
  pub pieces : v.pieces.items ≡ pieces_of count (bytes_at space address (16 * count))
  pub total_is : v.total ≡ total (pieces_of count (bytes_at space address (16 * count)))
  pub short : nat_lt LONGEST_FILE (total (pieces_of count (bytes_at space address (16 * count)))) ≡ false

abbrev pub IsVector : Space → ℕ → ℕ → Result Vector ℕ → Type 0
IsVector space address count (Ok v) = Whole space address count v
IsVector space address count (Err errno) = (ok : ℕ) → vector_fault space address count ok ≡ errno
