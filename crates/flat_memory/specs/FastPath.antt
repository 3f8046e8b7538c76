-- The fast path from an address to its byte. A slot says of one page where it begins if it may be loaded, stored or
-- fetched, and what to add to an address of the page, modulo 2^64, for the place of its byte. There are 1024 slots, and
-- a page may be in one alone, that of its number modulo 1024.
use Rattle.std.specs.Prelude.{◌≡◌, ℕ, ◌+◌, ◌-◌, ◌*◌, ◌/◌, ◌%◌, ◌^◌, ◌<◌, ◌≤◌, nat_lt, Bool, true, ◌&&◌, if◌then◌else◌, List, length, slice_index_or, Option}
use Rattle.lego_base.specs.declared.perms.Perms.{Perms}
use Rattle.lego_base.specs.declared.records.Area.{Area}
use Rattle.lego_base.specs.Space.{perms_of, allows}
use Rattle.rv64_step.specs.Access.{to_load, to_store, to_fetch}
use Rattle.flat_memory.specs.Pieces.{place_in}
use Rattle.flat_memory.specs.declared.slot.Use.{Use}
use Rattle.flat_memory.specs.declared.slot.Use.TheVariants.{Load, Store, Fetch}
use Rattle.flat_memory.specs.declared.slot.Slot.{Slot}

-- the permission that a use needs
abbrev pub needed : Use → ℕ
needed Load = to_load
needed Store = to_store
needed Fetch = to_fetch

-- the tag of a use
abbrev pub tag_of : Use → Slot → ℕ
tag_of Load slot = slot.load
tag_of Store slot = slot.store
tag_of Fetch slot = slot.fetch

-- where a page begins, if that is allowed, else a number where none begins
abbrev pub tag_if : Bool → ℕ → ℕ
tag_if allowed page = if allowed then page * 4096 else (2 ^ 64 - 1)

-- the slot of a page: no store goes to the zeros that all pages share
abbrev pub slot_of : ℕ → Option Perms → ℕ → Slot
slot_of page perms start = record {
  load = tag_if (allows perms to_load) page;
  store = tag_if (nat_lt 0 start && allows perms to_store) page;
  fetch = tag_if (allows perms to_fetch) page;
  shift = (start + (2 ^ 64 - page * 4096)) % 2 ^ 64;
}

-- the slot of no page
abbrev pub no_slot : Slot
no_slot = record { load = 2 ^ 64 - 1; store = 2 ^ 64 - 1; fetch = 2 ^ 64 - 1; shift = 0 }

-- what has to be so for a use besides its permission: a page that is stored to has bytes of its own
abbrev pub has_bytes : Use → ℕ → Bool
has_bytes Load start = true
has_bytes Store start = nat_lt 0 start
has_bytes Fetch start = true

-- what a tag of a slot says of a page
pub record IsUse (areas : List Area) (start : ℕ → ℕ) (slot : Slot) (access : Use) (page rest : ℕ) : Type 0 where
  pub exact : rest ≡ 0
  pub permits : allows (perms_of areas page) (needed access) ≡ true
  pub own : has_bytes access (start page) ≡ true
  pub shift : (slot.shift + page * 4096) % 2 ^ 64 ≡ start page

-- a slot says what is so
abbrev pub IsSlot : List Area → (ℕ → ℕ) → Slot → Type 0
IsSlot areas start slot = (access : Use) (page rest : ℕ) → rest < 8 → tag_of access slot ≡ page * 4096 + rest → IsUse areas start slot access page rest

-- each slot says what is so, of a page that may be there
pub record IsFast (areas : List Area) (start : ℕ → ℕ) (slots : List Slot) : Type 0 where
  pub full : length slots ≡ 1024
  pub holds : (i : ℕ) (d : Slot) → i < 1024 → IsSlot areas start (slice_index_or slots i d)
  pub there : (i : ℕ) (d : Slot) (access : Use) (page rest : ℕ) → i < 1024 → rest < 8 → tag_of access (slice_index_or slots i d) ≡ page * 4096 + rest → page % 1024 ≡ i

-- a place where n bytes of one page are, which permits a use
pub record IsPlace (areas : List Area) (start : ℕ → ℕ) (access : Use) (address n at : ℕ) : Type 0 where
  pub permits : allows (perms_of areas (address / 4096)) (needed access) ≡ true
  pub own : has_bytes access (start (address / 4096)) ≡ true
  pub within : address % 4096 + n ≤ 4096
  pub place : at ≡ place_in start address
