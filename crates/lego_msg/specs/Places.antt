-- Where things are kept. There are n memory components, numbered from 0.
use Rattle.std.specs.Prelude.{◌+◌, ◌-◌, ◌%◌, ◌==◌, ◌||◌, if◌then◌else◌, [], ◌∷◌, ℕ, Bool, List, false, true}
use Rattle.lego_msg.specs.declared.message.Message.{Message}
use Rattle.lego_msg.specs.declared.place.Place.{Place}
use Rattle.lego_msg.specs.declared.place.Place.TheVariants.{Manager, Memory, Processor, Storage}

-- the memory that keeps the owners of a process's regions
abbrev pub home_of : ℕ → ℕ → ℕ
home_of n pid = pid % n

-- the memory that keeps the log and the spare of another one
abbrev pub secondary_of : ℕ → ℕ → ℕ
secondary_of n memory = (memory + 1) % n

-- the memory whose secondary this is
abbrev pub guarded_by : ℕ → ℕ → ℕ
guarded_by n memory = (memory + n - 1) % n

-- the memory that caches the blocks of a file
abbrev pub cache_of : ℕ → ℕ → ℕ
cache_of n file = file % n

abbrev pub memory : ℕ → Place
memory number = Memory (record { 0 = number })

abbrev pub same_place : Place → Place → Bool
same_place (Processor a) (Processor b) = a.0 == b.0
same_place (Memory a) (Memory b) = a.0 == b.0
same_place Storage Storage = true
same_place Manager Manager = true
same_place (Processor a) other = false
same_place (Memory a) other = false
same_place Storage other = false
same_place Manager other = false

-- only processors and the manager issue operations
abbrev pub is_issuer : Place → Bool
is_issuer (Processor cpu) = true
is_issuer (Memory number) = false
is_issuer Storage = false
is_issuer Manager = true

-- whether a place is in a list
abbrev pub is_among : Place → List Place → Bool
is_among place [] = false
is_among place (p ∷ places) = same_place place p || is_among place places

-- what is pending once all messages to a place and from it are lost
abbrev pub lose : Place → List Message → List Message
lose place [] = []
lose place (m ∷ pending) = if same_place m.from place || same_place m.to place then lose place pending else m ∷ lose place pending
