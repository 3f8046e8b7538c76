-- What may be pending, or still to be sent by who got the last message.
use Rattle.std.specs.Prelude.{◌≡◌, ◌⊎◌, ◌<◌, ◌==◌, [], ◌∷◌, ℕ, List, None, Option, Some, false, true}
use Rattle.lego_base.specs.Files.{file_bytes}
use Rattle.lego_base.specs.declared.records.Patch.{Patch}
use Rattle.lego_msg.specs.Files.{block_of}
use Rattle.lego_msg.specs.Operations.{asks_of, messages_of}
use Rattle.lego_msg.specs.Places.{cache_of, is_among, is_issuer, memory, same_place, secondary_of}
use Rattle.lego_msg.specs.Plain.{Plain}
use Rattle.lego_msg.specs.Replies.{IsReply}
use Rattle.lego_msg.specs.State.{lost}
use Rattle.lego_msg.specs.declared.body.Body.{Body}
use Rattle.lego_msg.specs.declared.message.Message.{Message}
use Rattle.lego_msg.specs.declared.operation.Open.{Open}
use Rattle.lego_msg.specs.declared.operation.Operation.{Operation}
use Rattle.lego_msg.specs.declared.operation.Operation.TheVariants.{Copies, CutsFile, CutsName, Drains, Drops, FreesFile, Heals, ReadsFile, SetsAreas, SetsHome, Unmaps, Writes, WritesFile}
use Rattle.lego_msg.specs.declared.place.Place.{Place}
use Rattle.lego_msg.specs.declared.place.Place.TheVariants.{Memory}
use Rattle.lego_msg.specs.declared.body.Body.TheVariants as body
use Rattle.lego_msg.specs.declared.place.Place.TheVariants as place
use Rattle.lego_msg.specs.declared.place.Why.TheVariants as why

-- a memory isn't the one that is lost
abbrev pub IsUp : Option ℕ → ℕ → Type 0
IsUp None m = Unit {0}
IsUp (Some c) m = c ≡ m → ⊥

-- a message is neither from the lost memory nor to it
abbrev pub IsAway : Option ℕ → Message → Type 0
IsAway None m = Unit {0}
IsAway (Some c) m = (same_place m.from (memory c) ≡ false) × (same_place m.to (memory c) ≡ false)

-- a message names places that are there
abbrev pub IsPlace : ℕ → Place → Type 0
IsPlace n (Memory number) = number.0 < n
IsPlace n other = Unit {0}

-- an element is one of a list's, by recursion, so that a literal list gives its cases
abbrev pub Among : {X : Type 0} → X → List X → Type 0
Among x [] = ⊥
Among x (y ∷ ys) = (x ≡ y) ⊎ Among x ys

-- OF THE OPEN OPERATION: its first messages; what its issuer sends after a full log; what is handed on of a file request,
-- with the file's block; and answers

abbrev pub Reacts : ℕ → Operation → Place → Body → Type 0
Reacts n (Writes origin patch owner) to what = (to ≡ memory (secondary_of n owner.0)) × Among what (body.Drain ∷ body.LogWrite patch ∷ [])
Reacts n other to what = ⊥

abbrev pub HandsOn : ℕ → Plain → Place → Operation → Message → Type 0
HandsOn n f by (ReadsFile file block off len) m =
    ((m.from ≡ memory (cache_of n file.0)) × (m.to ≡ place.Storage) × (m.body ≡ body.BlockGet file block off len by))
    ⊎ ((m.from ≡ place.Storage) × (m.to ≡ memory (cache_of n file.0)) × (m.body ≡ body.BlockIs file block off len by (block_of (file_bytes f.files.files file.0) block)))
HandsOn n f by (WritesFile file block off bytes) m = (m.from ≡ memory (cache_of n file.0)) × (m.to ≡ place.Storage) × (m.body ≡ body.BlockPut file block off bytes by)
HandsOn n f by (CutsFile file size) m = (m.from ≡ memory (cache_of n file.0)) × (m.to ≡ place.Storage) × (m.body ≡ body.BlockCut file size by)
HandsOn n f by other m = ⊥

-- what a target's answer says, of the plain map before the operation
abbrev pub Says : ℕ → Plain → Operation → Place → Body → Type 0
Says n f (Writes origin patch owner) from told =
    ((from ≡ memory (secondary_of n owner.0)) × Among told (body.Wrote ∷ body.LogFull ∷ body.Drained ∷ []))
    ⊎ ((from ≡ memory owner.0) × Among told (body.Wrote ∷ body.Refused why.Full ∷ []))
Says n f (SetsHome pid region owner) from told = told ≡ body.Done
Says n f (SetsAreas pid region areas owner) from told = told ≡ body.Done
Says n f (Drains m) from told = told ≡ body.Drained
Says n f (Unmaps pid region first pages areas owner) from told = told ≡ body.Done
Says n f (Copies parent child regions owner) from told = Among told (body.Done ∷ body.Refused why.Full ∷ [])
Says n f (Drops pid) from told = told ≡ body.Done
Says n f (WritesFile file block off bytes) from told = Among told (body.Wrote ∷ body.Refused why.StoreFull ∷ [])
Says n f (CutsFile file size) from told = Among told (body.Done ∷ body.Refused why.StoreFull ∷ [])
Says n f (CutsName name) from told = told ≡ body.Done
Says n f (FreesFile file) from told = told ≡ body.Done
Says n f (Heals to what) from told = ⊥
Says n f question from told = IsReply f question told

pub data OfOpen (n : ℕ) (f : Plain) (m : Message) (o : Open) : Type 0 where
  First : Among m (messages_of o.by o.number (asks_of n o.operation)) → OfOpen n f m o
  Reaction : m.from ≡ o.by → Reacts n o.operation m.to m.body → OfOpen n f m o
  HandedOn : HandsOn n f o.by o.operation m → OfOpen n f m o
  AnAnswer : m.to ≡ o.by → is_among m.from o.targets ≡ true → Says n f o.operation m.from m.body → OfOpen n f m o

abbrev pub IsOf : Option ℕ → ℕ → Plain → Message → Option Open → Type 0
IsOf lost n f m None = ⊥
IsOf lost n f m (Some o) = (m.op.0 ≡ o.number.0) × IsAway lost m × OfOpen n f m o

-- OF THE MOVE of a healing: its message, or its receiver's answer to the manager
abbrev pub IsOfMove : Message → Option Open → Type 0
IsOfMove m None = ⊥
IsOfMove m (Some o) = (m.op.0 ≡ o.number.0) × (Among m (messages_of o.by o.number (asks_of 0 o.operation)) ⊎ ((m.to ≡ place.Manager) × (is_among m.from o.targets ≡ true)))

-- LEFT: batches and their receipts, of memories that aren't lost; and answers to drains of earlier operations

pub data IsBatch (m : Message) (k : ℕ) : Type 0 where
  Goes : m.from ≡ memory k → m.to ≡ place.Storage → (patches : List Patch) → m.body ≡ body.Backup patches → IsBatch m k
  Returns : m.from ≡ place.Storage → m.to ≡ memory k → m.body ≡ body.BackedUp → IsBatch m k

pub record IsBackground (lost : Option ℕ) (m : Message) : Type 0 where
  pub number : m.op.0 ≡ 0
  pub of : ℕ
  pub up : IsUp lost of
  pub batch : IsBatch m of

abbrev pub IsNot : Option Open → ℕ → Type 0
IsNot None number = Unit {0}
IsNot (Some o) number = (number == o.number.0) ≡ false

abbrev pub FromUp : Option ℕ → Place → Type 0
FromUp lost (Memory m) = IsUp lost m.0
FromUp lost other = ⊥

pub record IsOld (lost : Option ℕ) (current move : Option Open) (next : ℕ) (m : Message) : Type 0 where
  pub some : 0 < m.op.0
  pub below : m.op.0 < next
  pub not_current : IsNot current m.op.0
  pub not_move : IsNot move m.op.0
  pub drained : m.body ≡ body.Drained
  pub to : is_issuer m.to ≡ true
  pub from_up : FromUp lost m.from

pub data Pends (lost : Option ℕ) (n : ℕ) (f : Plain) (current move : Option Open) (next : ℕ) (m : Message) : Type 0 where
  OfOperation : IsOf lost n f m current → Pends lost n f current move next m
  OfMove : IsOfMove m move → Pends lost n f current move next m
  OfBackground : IsBackground lost m → Pends lost n f current move next m
  Left : IsOld lost current move next m → Pends lost n f current move next m

-- and each is from a place that is there to a place that is there
pub record MayPend (lost : Option ℕ) (n : ℕ) (f : Plain) (current move : Option Open) (next : ℕ) (m : Message) : Type 0 where
  pub from : IsPlace n m.from
  pub to : IsPlace n m.to
  pub kind : Pends lost n f current move next m
