-- What components, the plain map and the machine are by themselves, at every moment.
use Rattle.std.specs.List.{AllByRecursion, filter, list_any}
use Rattle.std.specs.Prelude.{◌≡◌, ◌⊎◌, ◌/◌, ◌<◌, ◌≤◌, ◌==◌, ◌&&◌, ◌||◌, [], ◌∷◌, ◌++◌, ℕ, Bool, List, None, Option, Some, false, length, slice_get, take, true}
use Rattle.lego_base.specs.Files.{file_bytes, is_file}
use Rattle.lego_base.specs.Keys.{Rises}
use Rattle.lego_base.specs.declared.ids.MemId.{MemId}
use Rattle.lego_base.specs.declared.records.HomeEntry.{HomeEntry}
use Rattle.lego_base.specs.declared.records.PageImage.{PageImage}
use Rattle.lego_base.specs.declared.records.Patch.{Patch}
use Rattle.lego_base.specs.declared.records.SpaceAreas.{SpaceAreas}
use Rattle.lego_base.specs.declared.shape.CrashAt.{CrashAt}
use Rattle.lego_base.specs.declared.shape.Shape.{Shape}
use Rattle.lego_msg.specs.Deliveries.{stops}
use Rattle.lego_msg.specs.Files.{Files, block_of}
use Rattle.lego_msg.specs.Form.{IsRegionList}
use Rattle.lego_msg.specs.Granted.{OpFits, PatchFits}
use Rattle.lego_msg.specs.Maps.{areas_key, home_key, laid_on, owner_of, page_in, page_key}
use Rattle.lego_msg.specs.Operations.{asks_of, is_write, messages_of, targets_of}
use Rattle.lego_msg.specs.Places.{cache_of, is_among, is_issuer, memory, same_place, secondary_of}
use Rattle.lego_msg.specs.Plain.{IsMapped, Plain, touched}
use Rattle.lego_msg.specs.State.{Block, Kept, Mem, Waiter}
use Rattle.lego_msg.specs.Track.{memory_count}
use Rattle.lego_msg.specs.declared.body.Body.{Body}
use Rattle.lego_msg.specs.declared.message.Message.{Message}
use Rattle.lego_msg.specs.declared.operation.Answer.{Answer}
use Rattle.lego_msg.specs.declared.operation.Open.{Open}
use Rattle.lego_msg.specs.declared.operation.Operation.{Operation}
use Rattle.lego_msg.specs.declared.operation.Operation.TheVariants.{Drains, Heals, Writes}
use Rattle.lego_rest.specs.Pending.{IsPlace, Says}
use Rattle.lego_msg.specs.declared.body.Body.TheVariants as body
use Rattle.lego_msg.specs.declared.place.Place.TheVariants as place

-- THE MACHINE: at least two memories, so that a memory is never its own secondary; a log has room for a patch; each entry
-- of the crash list is of a memory that is there, and of a later turn than the one before it.
abbrev pub CrashesRise : List CrashAt → Type 0
CrashesRise [] = Unit {0}
CrashesRise (e ∷ []) = Unit {0}
CrashesRise (e ∷ f ∷ crashes) = (e.turn < f.turn) × CrashesRise (f ∷ crashes)

pub record MachineFits (shape : Shape) : Type 0 where
  pub two : 2 ≤ memory_count shape
  pub log : 0 < shape.log
  pub deliveries : 0 < length shape.deliveries
  pub there : AllByRecursion (λ (e : CrashAt). e.memory.0 < memory_count shape) shape.crashes
  pub rise : CrashesRise shape.crashes

-- THE PLAIN MAP, with the table of owners
pub record PlainFits (n : ℕ) (owners : List HomeEntry) (f : Plain) : Type 0 where
  -- the table is in order, and its owners are there
  pub rise : Rises home_key owners
  pub within : (pid region : ℕ) (o : MemId) → owner_of owners pid region ≡ Some o → o.0 < n
  -- a region without an owner has no areas and no pages; a home knows the table's owner
  pub areas : (pid region : ℕ) → owner_of owners pid region ≡ None → f.areas pid region ≡ []
  pub pages : (pid vpn : ℕ) → owner_of owners pid (vpn / 512) ≡ None → f.page pid vpn ≡ None
  pub homes : (pid region : ℕ) (o : MemId) → f.homes pid region ≡ Some o → owner_of owners pid region ≡ Some o
  -- a page that is there is mapped, and has 4096 bytes
  pub mapped : (pid vpn : ℕ) → touched f pid vpn ≡ true → IsMapped f pid vpn
  pub whole : (pid vpn : ℕ) (bytes : List ℕ) → f.page pid vpn ≡ Some bytes → length bytes ≡ 4096
  pub lists : (pid region : ℕ) → IsRegionList region (f.areas pid region)
  -- a file's number is below that of the next one
  pub numbers : (file : ℕ) → is_file f.files.files file ≡ true → file < f.files.next

-- A MEMORY BY ITSELF: its lists are in order and in form, and within its limits

abbrev pub ListFits : SpaceAreas → Type 0
ListFits a = IsRegionList a.region.0 a.areas × ((length a.areas == 0) ≡ false)

pub record KeptFits (k : Kept) : Type 0 where
  pub homes : Rises home_key k.homes
  pub areas : Rises areas_key k.areas
  pub lists : AllByRecursion ListFits k.areas

pub record PagesFit (pages : List PageImage) : Type 0 where
  pub rise : Rises page_key pages
  pub whole : AllByRecursion (λ (p : PageImage). length p.bytes ≡ 4096) pages

pub record MemFits (shape : Shape) (m : ℕ) (s : Mem) : Type 0 where
  pub id : s.id ≡ m
  pub log_room : s.log_room ≡ shape.log
  pub cache_room : s.cache_room ≡ shape.cache_blocks
  pub main : KeptFits s.main
  pub spare : KeptFits s.spare
  pub pages : PagesFit s.pages
  pub frames : length s.pages ≤ s.frames
  pub machine : slice_get shape.frames m ≡ Some s.frames
  pub log : AllByRecursion PatchFits s.log
  pub room : length s.log ≤ s.log_room

-- LOGS AND BATCHES

-- messages with number 0 of a memory
abbrev pub is_background : ℕ → Message → Bool
is_background m message = message.op.0 == 0 && (same_place message.from (memory m) || same_place message.to (memory m))

abbrev pub background : ℕ → List Message → List Message
background m pending = filter (is_background m) pending

abbrev pub batch_message : Mem → Message
batch_message x = record { from = memory x.id; to = place.Storage; op = record { 0 = 0 }; body = body.Backup (take x.out x.log) }

abbrev pub receipt : Mem → Message
receipt x = record { from = place.Storage; to = memory x.id; op = record { 0 = 0 }; body = body.BackedUp }

-- a page with patches laid over it in order
abbrev pub over : List Patch → ℕ → ℕ → Option (List ℕ) → Option (List ℕ)
over [] pid vpn page = page
over (p ∷ patches) pid vpn page = over patches pid vpn (laid_on p pid vpn page)

-- the images already have a batch: laid over them once more it changes no page
abbrev pub HasBatch : List PageImage → List Patch → Type 0
HasBatch images batch = (pid vpn : ℕ) → over batch pid vpn (page_in images pid vpn) ≡ page_in images pid vpn

-- a batch that is out is on its way once, or its receipt is, and storage has it then; where a drain waits, one is out
pub record BatchFits (pending : List Message) (images : List PageImage) (x : Mem) : Type 0 where
  pub none : x.out ≡ 0 → background x.id pending ≡ []
  pub once : 0 < x.out → (background x.id pending ≡ batch_message x ∷ []) ⊎ ((background x.id pending ≡ receipt x ∷ []) × HasBatch images (take x.out x.log))
  pub within : x.out ≤ length x.log
  pub waits : 0 < length x.drains → 0 < x.out

-- each patch of the log of k is of a region whose owner has k as its secondary
abbrev pub LogFits : ℕ → List HomeEntry → ℕ → Patch → Type 0
LogFits n owners k p = (o : MemId) × (owner_of owners p.pid.0 (p.vpn.0 / 512) ≡ Some o) × (secondary_of n o.0 ≡ k)

-- DRAINS THAT WAIT: each is an issuer's, and that of the open operation or the move is one that drains here

abbrev pub WaitsFor : ℕ → ℕ → Operation → Type 0
WaitsFor n k (Drains m) = m.0 ≡ k
WaitsFor n k (Writes origin patch owner) = secondary_of n owner.0 ≡ k
WaitsFor n k other = ⊥

abbrev pub WaitsForOpen : ℕ → ℕ → Waiter → Option Open → Type 0
WaitsForOpen n k w None = Unit {0}
WaitsForOpen n k w (Some o) = w.op ≡ o.number.0 → (w.place ≡ o.by) × WaitsFor n k o.operation

abbrev pub WaitsForMove : ℕ → Waiter → Option Open → Type 0
WaitsForMove k w None = Unit {0}
WaitsForMove k w (Some o) = w.op ≡ o.number.0 → (w.place ≡ place.Manager) × (o.operation ≡ Heals (memory k) body.Drain)

pub record WaiterFits (n k next : ℕ) (current move : Option Open) (w : Waiter) : Type 0 where
  pub some : 0 < w.op
  pub below : w.op < next
  pub by : is_issuer w.place ≡ true
  pub of_open : WaitsForOpen n k w current
  pub of_move : WaitsForMove k w move

-- CACHED BLOCKS: of a file that is there a block is the file's, unless a message is on its way that changes it

abbrev pub changes_block : Block → Body → Bool
changes_block b (body.BlockPut file block off bytes asker) = file.0 == b.file && block == b.block
changes_block b (body.BlockCut file size asker) = file.0 == b.file
changes_block b other = false

pub record BlockFits (n m : ℕ) (files : Files) (pending : List Message) (b : Block) : Type 0 where
  pub place : cache_of n b.file ≡ m
  pub below : b.file < files.next
  pub same : is_file files.files b.file ≡ true → b.bytes ≡ block_of (file_bytes files.files b.file) b.block
  pub still : list_any (λ (m : Message). changes_block b m.body) pending ≡ false

-- THE OPEN OPERATION

-- a first message: to a memory that is there or to storage, and not a memory's word to storage that changes a block
pub record IsRequest (n : ℕ) (m : Message) : Type 0 where
  pub there : IsPlace n m.to
  pub component : is_issuer m.to ≡ false
  pub changes : (b : Block) → changes_block b m.body ≡ false

pub record AnswerFits (n : ℕ) (f : Plain) (o : Open) (a : Answer) : Type 0 where
  pub target : is_among a.place o.targets ≡ true
  pub says : Says n f o.operation a.place a.body
  pub goes_on : stops a.body ≡ false
  pub wrote : is_write o.operation ≡ true → a.body ≡ body.Wrote

pub record OpenFits (n : ℕ) (owners : List HomeEntry) (f : Plain) (next : ℕ) (o : Open) : Type 0 where
  pub some : 0 < o.number.0
  pub below : o.number.0 < next
  pub by : is_issuer o.by ≡ true
  pub targets : o.targets ≡ targets_of n o.operation
  -- what is unsent is an end of its first messages
  pub sent : (front : List Message) × (front ++ o.unsent ≡ messages_of o.by o.number (asks_of n o.operation))
  pub requests : AllByRecursion (IsRequest n) (messages_of o.by o.number (asks_of n o.operation))
  -- what its caller owed still holds
  pub fits : OpFits owners f o.operation
  pub answers : AllByRecursion (AnswerFits n f o) o.answers
