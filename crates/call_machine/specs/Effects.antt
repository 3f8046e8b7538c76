-- What a machine's methods ask for and answer.
use Rattle.std.specs.Prelude.{◌≡◌, ◌⊎◌, ℕ, ◌+◌, ◌≤◌, ◌<◌, ◌/◌, ◌*◌, if◌then◌else◌, nat_le, List, [], ◌∷◌, length, Option, Some, None, IsSome}
use Rattle.lego_base.specs.declared.ids.FileNo.{FileNo}
use Rattle.lego_base.specs.declared.perms.Perms.{Perms}
use Rattle.lego_base.specs.declared.records.Area.{Area}
use Rattle.lego_base.specs.Space.{Space, permits, bytes_at, perms_of}
use Rattle.linux_model.specs.Limits.{FILES}
use Rattle.linux_model.specs.Effects.{Effect, Reads, Refused, CopyIn}
use Rattle.linux_model.specs.Held.{Held}

-- a copy from a space, where each byte may be read, and what it gives
abbrev pub copied_in : Space → ℕ → ℕ → ℕ → List Effect
copied_in space pid at n = if permits space 1 at n then Reads CopyIn pid at (bytes_at space at n) ∷ [] else Refused CopyIn pid at n ∷ []

abbrev pub copied : Space → ℕ → ℕ → Option (List ℕ)
copied space at n = if permits space 1 at n then Some (bytes_at space at n) else None

-- the number of a file that is made: none where there are too many
abbrev pub made_file : Held → Option FileNo
made_file h = if nat_le FILES (length h.files) then None else Some (record { 0 = h.next })

-- each page that was mapped is mapped, with the permissions that it had
abbrev pub KeepsPages : List Area → List Area → Type 0
KeepsPages old new = (page : ℕ) (perms : Perms) → perms_of old page ≡ Some perms → perms_of new page ≡ Some perms

-- each page that was mapped is mapped, and those outside a range with the permissions that they had
pub record KeepsBeside (first pages : ℕ) (old new : List Area) : Type 0 where
  pub mapped : (page : ℕ) → IsSome (perms_of old page) → IsSome (perms_of new page)
  pub beside : (page : ℕ) → (page < first) ⊎ (first + pages ≤ page) → perms_of new page ≡ perms_of old page

-- bytes of one page, at least one, which an area has
pub record FillsPage (space : Space) (at : ℕ) (bytes : List ℕ) : Type 0 where
  pub some : 0 < length bytes
  pub within : at + length bytes ≤ (at / 4096 + 1) * 4096
  pub mapped : IsSome (perms_of space.areas (at / 4096))
