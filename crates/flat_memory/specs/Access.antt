-- What calls of a flat memory say.
use Rattle.std.specs.Prelude.{◌≡◌, ◌^◌, ◌<◌, ℕ, Bool, true, false, List, length, Option, Some, None, Result, Ok, Err}
use Rattle.lego_base.specs.declared.stops.MemStop.{MemStop}
use Rattle.lego_base.specs.declared.stops.MemStop.TheVariants.{Segv, Halt}
use Rattle.lego_base.specs.declared.stops.Halt.TheVariants.{NoMemory}
use Rattle.lego_base.specs.Space.{Space, permits, bytes_at, number_of, bytes_of, with_bytes, with_space}
use Rattle.rv64_step.specs.Access.{to_load, to_store}

-- an access that takes no memory of the host doesn't halt
abbrev pub NoHalt : {A : Type 0} → Result A MemStop → Type 0
NoHalt (Ok value) = Unit {0}
NoHalt (Err Segv) = Unit {0}
NoHalt (Err (Halt halt)) = ⊥

-- a halt is for lack of memory
abbrev pub OutOfMemory : {A : Type 0} → Result A MemStop → Type 0
OutOfMemory (Ok value) = Unit {0}
OutOfMemory (Err Segv) = Unit {0}
OutOfMemory (Err (Halt halt)) = halt ≡ NoMemory

-- a copy of n bytes: they are there where each may be read, and Segv comes exactly where one may not
abbrev pub Copied : Space → ℕ → ℕ → Result (List ℕ) MemStop → Type 0
Copied space address n (Ok bytes) = (permits space to_load address n ≡ true) × (bytes ≡ bytes_at space address n)
Copied space address n (Err Segv) = permits space to_load address n ≡ false
Copied space address n (Err (Halt halt)) = halt ≡ NoMemory

-- a copy of bytes to a process's space: they are written where each may be, and Segv comes exactly where one may not;
-- then nothing changes
abbrev pub CopiedTo : (ℕ → Space) → (ℕ → Space) → ℕ → ℕ → List ℕ → Result (Unit {0}) MemStop → Type 0
CopiedTo old new pid address bytes (Ok done) = (permits (old pid) to_store address (length bytes) ≡ true) × (new ≡ with_space old pid (with_bytes (old pid) address bytes))
CopiedTo old new pid address bytes (Err Segv) = (permits (old pid) to_store address (length bytes) ≡ false) × (new ≡ old)
CopiedTo old new pid address bytes (Err (Halt halt)) = halt ≡ NoMemory

-- a copy of bytes to one space: they are written where each may be, and Segv comes exactly where one may not
abbrev pub CopiedOut : Space → Space → ℕ → List ℕ → Result (Unit {0}) MemStop → Type 0
CopiedOut old new address bytes (Ok done) = (permits old to_store address (length bytes) ≡ true) × (new ≡ with_bytes old address bytes)
CopiedOut old new address bytes (Err Segv) = (permits old to_store address (length bytes) ≡ false) × (new ≡ old)
CopiedOut old new address bytes (Err (Halt halt)) = halt ≡ NoMemory

-- a read of n bytes: the number that is there where each may be used, nothing where one may not
abbrev pub IsRead : Space → ℕ → ℕ → ℕ → Option ℕ → Type 0
IsRead space need address n (Some value) = (permits space need address n ≡ true) × (value ≡ number_of (bytes_at space address n)) × (value < 256 ^ n)
IsRead space need address n None = permits space need address n ≡ false

-- a write of a value's lowest n bytes, with whether each may be stored
abbrev pub IsWrite : Space → Space → ℕ → ℕ → ℕ → Bool → Type 0
IsWrite old new address n value true = (permits old to_store address n ≡ true) × (new ≡ with_bytes old address (bytes_of n value))
IsWrite old new address n value false = (permits old to_store address n ≡ false) × (new ≡ old)
