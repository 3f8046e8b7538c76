-- What each operation sends first, in order, and who must answer.
use Rattle.std.specs.Prelude.{◌+◌, [], ◌∷◌, ◌++◌, ℕ, Bool, List, None, Option, Some, false, suc, true, zero}
use Rattle.lego_base.specs.declared.ids.OpNo.{OpNo}
use Rattle.lego_base.specs.declared.records.Patch.{Patch}
use Rattle.lego_msg.specs.Places.{cache_of, home_of, memory, secondary_of}
use Rattle.lego_msg.specs.declared.body.Body.{Body}
use Rattle.lego_msg.specs.declared.message.Message.{Message}
use Rattle.lego_msg.specs.declared.operation.Operation.{Operation}
use Rattle.lego_msg.specs.declared.operation.Operation.TheVariants.{AsksAreas, AsksSize, Copies, CutsFile, CutsName, Drains, Drops, Finds, FreesFile, GetsName, Heals, ListsNames, MakesName, Reads, ReadsFile, SetsAreas, SetsHome, Unmaps, Writes, WritesFile}
use Rattle.lego_msg.specs.declared.place.Place.{Place}
use Rattle.lego_msg.specs.declared.place.Role.TheVariants.{Main, Spare}
use Rattle.lego_msg.specs.declared.body.Body.TheVariants as body
use Rattle.lego_msg.specs.declared.place.Place.TheVariants as place

-- a body, and where it goes
pub record Ask : Type 0 where
  pub to : Place
  pub body : Body

abbrev pub ask : Place → Body → Ask
ask to body = record { to = to; body = body }

-- first the secondary of a memory, then the memory itself
abbrev pub twice : ℕ → ℕ → Body → Body → List Ask
twice n owner spare main = ask (memory (secondary_of n owner)) spare ∷ ask (memory owner) main ∷ []

-- each of n memories starting at one, then storage
abbrev pub each_from : ℕ → ℕ → Body → Body → List Ask
each_from zero number body last = ask place.Storage last ∷ []
each_from (suc n) number body last = ask (memory number) body ∷ each_from n (number + 1) body last

abbrev pub to_storage : Body → List Ask
to_storage body = ask place.Storage body ∷ []

-- the first messages of an operation in order, with n memories
abbrev pub asks_of : ℕ → Operation → List Ask
asks_of n (Finds pid region) = ask (memory (home_of n pid.0)) (body.Find pid region) ∷ []
asks_of n (Reads pid line owner) = ask (memory owner.0) (body.Read pid line) ∷ []
asks_of n (Writes origin patch owner) = twice n owner.0 (body.LogWrite patch) (body.Write patch)
asks_of n (SetsHome pid region owner) = twice n (home_of n pid.0) (body.SetHome pid region owner Spare) (body.SetHome pid region owner Main)
asks_of n (SetsAreas pid region areas owner) = twice n owner.0 (body.SetAreas pid region areas Spare) (body.SetAreas pid region areas Main)
asks_of n (AsksAreas pid region owner) = ask (memory owner.0) (body.GetAreas pid region) ∷ []
asks_of n (Drains m) = ask (memory m.0) body.Drain ∷ []
asks_of n (Unmaps pid region first pages areas owner) = twice n owner.0 (body.Unmap pid region first pages areas Spare) (body.Unmap pid region first pages areas Main) ++ to_storage (body.ImageDrop pid first pages)
asks_of n (Copies parent child regions owner) = twice n owner.0 (body.CopySpace parent child regions Spare) (body.CopySpace parent child regions Main) ++ to_storage (body.ImageCopy parent child regions)
asks_of n (Drops pid) = each_from n 0 (body.DropSpace pid) (body.ImageFree pid)
asks_of n (ReadsFile file block off len) = ask (memory (cache_of n file.0)) (body.FileRead file block off len) ∷ []
asks_of n (WritesFile file block off bytes) = ask (memory (cache_of n file.0)) (body.FileWrite file block off bytes) ∷ []
asks_of n (CutsFile file size) = ask (memory (cache_of n file.0)) (body.FileCut file size) ∷ []
asks_of n (AsksSize file) = to_storage (body.FileSize file)
asks_of n (GetsName name) = to_storage (body.NameGet name)
asks_of n (MakesName name) = to_storage (body.NameMake name)
asks_of n (CutsName name) = to_storage (body.NameCut name)
asks_of n ListsNames = to_storage body.NameAll
asks_of n (FreesFile file) = to_storage (body.FileFree file)
asks_of n (Heals to what) = ask to what ∷ []

-- the messages of asks
abbrev pub messages_of : Place → OpNo → List Ask → List Message
messages_of by number [] = []
messages_of by number (a ∷ asks) = record { from = by; to = a.to; op = number; body = a.body } ∷ messages_of by number asks

abbrev pub receivers : List Ask → List Place
receivers [] = []
receivers (a ∷ asks) = a.to ∷ receivers asks

-- Who must answer: whoever gets a first message. What is written to a file or cuts it storage answers, and
-- not the memory that hands it on.
abbrev pub targets_of : ℕ → Operation → List Place
targets_of n (WritesFile file block off bytes) = place.Storage ∷ []
targets_of n (CutsFile file size) = place.Storage ∷ []
targets_of n other = receivers (asks_of n other)

-- the patch of a write
abbrev pub patch_of : Operation → Option Patch
patch_of (Writes origin patch owner) = Some patch
patch_of other = None

-- whether there is one, and so an operation writes
abbrev pub has_patch : Option Patch → Bool
has_patch None = false
has_patch (Some patch) = true

abbrev pub is_write : Operation → Bool
is_write o = has_patch (patch_of o)
