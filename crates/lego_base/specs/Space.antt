-- The address space of a process: which pages are mapped with which permissions, and the byte at each
-- address. Nothing here knows of lines, owners or messages.
use Rattle.std.specs.Prelude.{◌==◌, ℕ, suc, zero, ◌+◌, ◌-◌, ◌*◌, ◌/◌, ◌%◌, Bool, true, false, ◌&&◌, nat_le, nat_lt, if◌then◌else◌, List, [], ◌∷◌, length, Option, Some, None, slice_index}
use Rattle.lego_base.specs.declared.perms.Perms.{Perms}
use Rattle.lego_base.specs.declared.records.Area.{Area}

pub record Space : Type 0 where
  -- the maximal runs of mapped pages with equal permissions, in rising order
  pub areas : List Area
  -- the byte at an address: 0 where none was written
  pub byte : ℕ → ℕ

-- nothing is mapped and nothing was written
abbrev pub no_space : Space
no_space = record { areas = []; byte = λ address. 0 }

-- whether the page lies in the area
abbrev pub has_page : Area → ℕ → Bool
has_page area page = nat_le area.first.0 page && nat_lt page (area.first.0 + area.pages)

-- the permissions of a page, if it is mapped
abbrev pub perms_of : List Area → ℕ → Option Perms
perms_of [] page = None
perms_of (area ∷ areas) page = if has_page area page then Some area.perms else perms_of areas page

-- whether a page is mapped and has this permission: 1 to read, 2 to write, 4 to execute
abbrev pub allows : Option Perms → ℕ → Bool
allows None need = false
allows (Some perms) need = perms.0 / need % 2 == 1

-- whether each of n bytes, starting at an address, is in a page that has this permission
abbrev pub permits : Space → ℕ → ℕ → ℕ → Bool
permits space need address zero = true
permits space need address (suc n) = allows (perms_of space.areas (address / 4096)) need && permits space need (address + 1) n

-- n bytes starting at an address
abbrev pub bytes_at : Space → ℕ → ℕ → List ℕ
bytes_at space address zero = []
bytes_at space address (suc n) = space.byte address ∷ bytes_at space (address + 1) n

-- the space with these bytes starting at an address
abbrev pub with_bytes : Space → ℕ → List ℕ → Space
with_bytes space address bytes = record space { byte = λ a. if nat_le address a && nat_lt a (address + length bytes) then slice_index bytes (a - address) else space.byte a }

-- the number that bytes are, the lowest byte first
abbrev pub number_of : List ℕ → ℕ
number_of [] = 0
number_of (byte ∷ bytes) = byte + 256 * number_of bytes

-- the lowest n bytes of a number, the lowest first
abbrev pub bytes_of : ℕ → ℕ → List ℕ
bytes_of zero number = []
bytes_of (suc n) number = number % 256 ∷ bytes_of n (number / 256)

-- the spaces of processes, by pid, with one of them changed
abbrev pub with_space : (ℕ → Space) → ℕ → Space → ℕ → Space
with_space spaces pid space q = if q == pid then space else spaces q
