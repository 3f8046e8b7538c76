-- What the conditions mean.
use Rattle.std.specs.Prelude.{◌≡◌, ℕ, ◌%◌, ◌<◌, ◌≤◌, ◌↔◌, true, false, List, length, Some, None, AllPairs}
use Rattle.elf_image.specs.declared.fault.ImageFault.TheVariants.{Short, NoMemory}
use Rattle.elf_image.specs.declared.header.Header.{Header}
use Rattle.elf_image.specs.File.{load_end}
use Rattle.elf_image.specs.Image.{first_fault, program_of, share, some_share, page_from, IsBounded}

-- A file of fewer than 64 bytes is Short.
abbrev pub ShortIsRefused : Type 0
ShortIsRefused = (bytes : List ℕ) → length bytes < 64 → first_fault bytes ≡ Some Short

-- Running out of memory is not a fault of a file.
abbrev pub NoFileIsNoMemory : Type 0
NoFileIsNoMemory = (bytes : List ℕ) → first_fault bytes ≡ Some NoMemory → ⊥

-- The program of a file without fault is within the bounds.
abbrev pub AcceptedIsBounded : Type 0
AcceptedIsBounded = (bytes : List ℕ) → first_fault bytes ≡ None → IsBounded (program_of bytes)

-- an address lies in the range of a load
abbrev pub Holds : Header → ℕ → Type 0
Holds load address = (load.vaddr ≤ address) × (address < load_end load)

-- Two loads share exactly where there is an address that both hold.
abbrev pub ShareIsCommonAddress : Type 0
ShareIsCommonAddress = (load other : Header) → (share load other ≡ true) ↔ ((address : ℕ) × Holds load address × Holds other address)

-- No two loads share exactly where each is apart from each later one.
abbrev pub ApartIsEachPair : Type 0
ApartIsEachPair = (loads : List Header) → (some_share loads ≡ false) ↔ AllPairs (λ load other. share load other ≡ false) loads

-- a page address that isn't below an address, and the lowest such
pub record IsPageFrom (address page : ℕ) : Type 0 where
  pub aligned : page % 4096 ≡ 0
  pub behind : address ≤ page
  pub lowest : (other : ℕ) → other % 4096 ≡ 0 → address ≤ other → page ≤ other

abbrev pub PageIsLowest : Type 0
PageIsLowest = (address : ℕ) → IsPageFrom address (page_from address)
