-- What one call of a guest memory says: its answer by the space, and what becomes of the spaces.
use Rattle.std.specs.Prelude.{◌≡◌, ℕ, Bool, true, false, Result, Ok, Err, IsTrue}
use Rattle.lego_base.specs.declared.stops.MemStop.{MemStop}
use Rattle.lego_base.specs.declared.stops.MemStop.TheVariants.{Segv, Halt}
use Rattle.rv64_step.specs.declared.width.Width.{Width}
use Rattle.rv64_step.specs.declared.width.Width.TheVariants.{Byte, Half, Word, Double}
use Rattle.lego_base.specs.Space.{Space, permits, bytes_at, number_of, bytes_of, with_bytes}

-- the bytes of a load or a store
abbrev pub bytes_in : Width → ℕ
bytes_in Byte = 1
bytes_in Half = 2
bytes_in Word = 4
bytes_in Double = 8

-- the permission that an access needs of each of its bytes, as `Perms` numbers them
abbrev pub to_load : ℕ
to_load = 1

abbrev pub to_store : ℕ
to_store = 2

abbrev pub to_fetch : ℕ
to_fetch = 4

-- what a read of n bytes gives, under a permission: the number that is there where each byte may be
-- read, Segv exactly where one may not
abbrev pub Reads : Space → ℕ → ℕ → ℕ → Result ℕ MemStop → Type 0
Reads space need address n (Ok value) = (permits space need address n ≡ true) × (value ≡ number_of (bytes_at space address n))
Reads space need address n (Err Segv) = permits space need address n ≡ false
Reads space need address n (Err (Halt halt)) = Unit {0}

-- what a write of n bytes gives: Segv exactly where a byte may not be written
abbrev pub Writes : Space → ℕ → ℕ → Result (Unit {0}) MemStop → Type 0
Writes space address n (Ok done) = permits space to_store address n ≡ true
Writes space address n (Err Segv) = permits space to_store address n ≡ false
Writes space address n (Err (Halt halt)) = Unit {0}

-- a space after an access that changes nothing; nothing is said after a halt
abbrev pub Keeps : {A : Type 0} → Result A MemStop → Space → Space → Type 0
Keeps (Ok value) old new = new ≡ old
Keeps (Err Segv) old new = new ≡ old
Keeps (Err (Halt halt)) old new = Unit {0}

-- a space after the write of a value's lowest n bytes
abbrev pub Changes : Result (Unit {0}) MemStop → ℕ → ℕ → ℕ → Space → Space → Type 0
Changes (Ok done) address n value old new = new ≡ with_bytes old address (bytes_of n value)
Changes (Err Segv) address n value old new = new ≡ old
Changes (Err (Halt halt)) address n value old new = Unit {0}

-- A fetch of the four bytes at an address by a process, from a memory that was `old` and is `new`.
-- `joined` is the memory's own relation, `served` says that the same processes are served.
pub record Fetched {X : Type 0} (serves : X → ℕ → Bool) (space : X → ℕ → Space) (fetches : X → ℕ → ℕ → Result ℕ MemStop → X → Type 0)
    (pid : ℕ) (old : X) (address : ℕ) (answer : Result ℕ MemStop) (new : X) : Type 0 where
  pub joined : fetches old pid address answer new
  pub served : (q : ℕ) → serves new q ≡ serves old q
  pub reads : Reads (space old pid) to_fetch address 4 answer
  pub keeps : (q : ℕ) → IsTrue (serves old q) → Keeps answer (space old q) (space new q)

-- A load of n bytes.
pub record Loaded {X : Type 0} (serves : X → ℕ → Bool) (space : X → ℕ → Space) (loads : X → ℕ → ℕ → ℕ → Result ℕ MemStop → X → Type 0)
    (pid : ℕ) (old : X) (address n : ℕ) (answer : Result ℕ MemStop) (new : X) : Type 0 where
  pub joined : loads old pid address n answer new
  pub served : (q : ℕ) → serves new q ≡ serves old q
  pub reads : Reads (space old pid) to_load address n answer
  pub keeps : (q : ℕ) → IsTrue (serves old q) → Keeps answer (space old q) (space new q)

-- A store of a value's lowest n bytes. Other spaces stay.
pub record Stored {X : Type 0} (serves : X → ℕ → Bool) (space : X → ℕ → Space) (stores : X → ℕ → ℕ → ℕ → ℕ → Result (Unit {0}) MemStop → X → Type 0)
    (pid : ℕ) (old : X) (address n value : ℕ) (answer : Result (Unit {0}) MemStop) (new : X) : Type 0 where
  pub joined : stores old pid address n value answer new
  pub served : (q : ℕ) → serves new q ≡ serves old q
  pub writes : Writes (space old pid) address n answer
  pub changes : Changes answer address n value (space old pid) (space new pid)
  pub keeps : (q : ℕ) → (q ≡ pid → ⊥) → IsTrue (serves old q) → Keeps answer (space old q) (space new q)
