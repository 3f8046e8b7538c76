-- What holds while a memory c is being healed. Let s be its secondary, and q the memory whose secondary c is. The moves are
-- those done, then the one on its way, then those ahead; each done one has done its part.

-- WHAT IS HANDED OVER

-- homes and areas, each old or new as memory m should have them
use Rattle.std.specs.List.{AllByRecursion, list_any}
use Rattle.std.specs.Prelude.{◌≡◌, ◌+◌, ◌/◌, ◌<◌, ◌==◌, ◌&&◌, ◌||◌, if◌then◌else◌, [], ◌∷◌, ◌++◌, ℕ, Bool, List, None, Option, Some, false, length, nat_lt, not, slice_get, true}
use Rattle.lego_base.specs.declared.ids.Pid.{Pid}
use Rattle.lego_base.specs.declared.ids.RegionNo.{RegionNo}
use Rattle.lego_base.specs.declared.records.HomeEntry.{HomeEntry}
use Rattle.lego_base.specs.declared.records.PageImage.{PageImage}
use Rattle.lego_base.specs.declared.records.Patch.{Patch}
use Rattle.lego_msg.specs.Deliveries.{stops}
use Rattle.lego_msg.specs.Form.{ArePages}
use Rattle.lego_msg.specs.Granted.{asks_clear}
use Rattle.lego_msg.specs.Healing.{ask_of, moves_of}
use Rattle.lego_msg.specs.Maps.{page_in}
use Rattle.lego_msg.specs.Next.{next}
use Rattle.lego_msg.specs.Operations.{patch_of}
use Rattle.lego_msg.specs.Places.{guarded_by, memory, same_place, secondary_of}
use Rattle.lego_msg.specs.State.{Kept, Mem, Waiter, kept, lost}
use Rattle.lego_msg.specs.Track.{Track, is_crash_left, is_done, memory_count}
use Rattle.lego_msg.specs.declared.body.Body.{Body}
use Rattle.lego_msg.specs.declared.healing.Healing.{Healing}
use Rattle.lego_msg.specs.declared.healing.Move.{Move}
use Rattle.lego_msg.specs.declared.healing.Move.TheVariants.{Asks, HandsImages, HandsMeta, HandsPages}
use Rattle.lego_msg.specs.declared.message.Message.{Message}
use Rattle.lego_msg.specs.declared.operation.Answer.{Answer}
use Rattle.lego_msg.specs.declared.operation.Open.{Open}
use Rattle.lego_msg.specs.declared.operation.Operation.TheVariants.{Heals}
use Rattle.lego_msg.specs.declared.place.Place.{Place}
use Rattle.lego_msg.specs.declared.place.Role.{Role}
use Rattle.lego_msg.specs.declared.place.Role.TheVariants.{Main, Spare}
use Rattle.lego_rest.specs.Answers.{all_pending, gave_answer}
use Rattle.lego_rest.specs.Fits.{KeptFits, PagesFit, background}
use Rattle.lego_rest.specs.Parts.{Areas, Home, IsEither, Page, Sides, new_share, old_share, owns, part_of, sides_of}
use Rattle.lego_rest.specs.Pending.{Among, IsNot}
use Rattle.lego_msg.specs.declared.body.Body.TheVariants as body
use Rattle.lego_msg.specs.declared.place.Place.TheVariants as place
use Rattle.lego_msg.specs.declared.place.Why.TheVariants as why

pub record MetaFits (b : Sides) (m : ℕ) (k : Kept) : Type 0 where
  pub form : KeptFits k
  pub homes : (pid region : ℕ) → IsEither b m (Home pid region) (part_of k [] (Home pid region))
  pub areas : (pid region : ℕ) → IsEither b m (Areas pid region) (part_of k [] (Areas pid region))

-- pages of a region, each old or new as memory m should have them
abbrev pub RegionFits : Sides → ℕ → ℕ → ℕ → List PageImage → Type 0
RegionFits b m pid region pages = (vpn : ℕ) → vpn / 512 ≡ region → IsEither b m (Page pid vpn) (page_in pages pid vpn)

-- the patch of an open write
abbrev pub open_patch : Option Open → Option Patch
open_patch None = None
open_patch (Some o) = patch_of o.operation

-- a drained log has no patches but those of the open write
abbrev pub IsDrainedFor : Option Patch → List Patch → Type 0
IsDrainedFor patch log = AllByRecursion (λ (p : Patch). patch ≡ Some p) log

-- the secondary's log is drained, and so the images alone are old or new as c should have its pages
abbrev pub IsDrained : Sides → Option Patch → List Mem → List PageImage → ℕ → Type 0
IsDrained b patch mems images c =
    ((x : Mem) → slice_get mems (secondary_of b.n c) ≡ Some x → IsDrainedFor patch x.log)
    × ((pid vpn : ℕ) → IsEither b c (Page pid vpn) (if owns b.owners c pid (vpn / 512) then page_in images pid vpn else None))

-- WHAT A MOVE'S ANSWER SAYS

-- what healing reads: the sides, the patch of an open write, the memories and the images
pub record Scene : Type 0 where
  pub sides : Sides
  pub patch : Option Patch
  pub mems : List Mem
  pub images : List PageImage

abbrev pub scene_of : Track → Scene
scene_of t = record { sides = sides_of t; patch = open_patch t.current; mems = t.mems; images = t.disk.images }

-- for whose sake c keeps something in a role
abbrev pub kept_for : ℕ → ℕ → Role → ℕ
kept_for n c Main = c
kept_for n c Spare = guarded_by n c

-- owners and areas as memory m should have them, and pages of a region
abbrev pub GotMeta : Sides → ℕ → Body → Type 0
GotMeta b m got = (k : Kept) × (got ≡ body.Meta k.homes k.areas) × MetaFits b m k

abbrev pub PagesHanded : Sides → ℕ → ℕ → ℕ → List PageImage → Type 0
PagesHanded b m pid region pages = ArePages pid region pages × PagesFit pages × RegionFits b m pid region pages

abbrev pub GotPages : Sides → ℕ → ℕ → ℕ → Body → Type 0
GotPages b m pid region got = (pages : List PageImage) × (got ≡ body.Images pages) × PagesHanded b m pid region pages

-- what a move asks for
pub data Asking : Type 0 where
  ForLog : Asking
  ForMeta : Role → Asking
  ForImages : Pid → RegionNo → Asking
  ForPages : Pid → RegionNo → Asking
  ForNothing : Asking

abbrev pub asking : Body → Asking
asking body.Drain = ForLog
asking (body.PullMeta of role) = ForMeta role
asking (body.PullImages pid region) = ForImages pid region
asking (body.PullPages pid region) = ForPages pid region
asking other = ForNothing

abbrev pub GotAsked : Scene → ℕ → Asking → Body → Type 0
GotAsked w c ForLog got = (got ≡ body.Drained) × IsDrained w.sides w.patch w.mems w.images c
GotAsked w c (ForMeta Spare) got = GotMeta w.sides c got
GotAsked w c (ForMeta Main) got = GotMeta w.sides (guarded_by w.sides.n c) got
GotAsked w c (ForImages pid region) got = GotPages w.sides c pid.0 region.0 got
GotAsked w c (ForPages pid region) got = GotPages w.sides (guarded_by w.sides.n c) pid.0 region.0 got
GotAsked w c ForNothing got = ⊥

abbrev pub MoveGot : Scene → ℕ → Move → Body → Type 0
MoveGot w c (Asks to what) got = GotAsked w c (asking what) got
MoveGot w c (HandsMeta to role) got = got ≡ body.Done
MoveGot w c (HandsImages to pid region) got = Among got (body.Done ∷ body.Refused why.Full ∷ [])
MoveGot w c (HandsPages pid region) got = got ≡ body.Done

-- WHAT A MOVE'S MESSAGE HANDS OVER
abbrev pub HandsOver : Sides → ℕ → Move → Body → Type 0
HandsOver b c (Asks to what) told = told ≡ what
HandsOver b c (HandsMeta to role) told = (k : Kept) × (told ≡ body.PushMeta role k.homes k.areas) × MetaFits b (kept_for b.n c role) k
HandsOver b c (HandsImages to pid region) told = (pages : List PageImage) × (told ≡ body.PushImages pid region pages) × PagesHanded b c pid.0 region.0 pages
HandsOver b c (HandsPages pid region) told = (pages : List PageImage) × (told ≡ body.ResetImages pid region pages) × PagesHanded b (guarded_by b.n c) pid.0 region.0 pages

-- WHAT A MOVE HAS DONE, where x is what c holds
abbrev pub AskDone : Scene → ℕ → Asking → Type 0
AskDone w c ForLog = IsDrained w.sides w.patch w.mems w.images c
AskDone w c (ForMeta role) = Unit {0}
AskDone w c (ForImages pid region) = Unit {0}
AskDone w c (ForPages pid region) = Unit {0}
AskDone w c ForNothing = Unit {0}

abbrev pub HasDone : Scene → ℕ → Mem → Move → Type 0
HasDone w c x (Asks to what) = AskDone w c (asking what)
HasDone w c x (HandsMeta to role) = MetaFits w.sides (kept_for w.sides.n c role) (kept x role)
HasDone w c x (HandsImages to pid region) = RegionFits w.sides c pid.0 region.0 x.pages
HasDone w c x (HandsPages pid region) = RegionFits w.sides (guarded_by w.sides.n c) pid.0 region.0 w.images

-- THE MOVE ON ITS WAY: it is there exactly once, as its message, as a drain that waits, as its answer pending or noted

abbrev pub count_number : ℕ → List Message → ℕ
count_number number [] = 0
count_number number (m ∷ pending) = (if m.op.0 == number then 1 else 0) + count_number number pending

abbrev pub count_waiting : ℕ → List Waiter → ℕ
count_waiting number [] = 0
count_waiting number (w ∷ drains) = (if w.op == number then 1 else 0) + count_waiting number drains

abbrev pub count_drains : ℕ → List Mem → ℕ
count_drains number [] = 0
count_drains number (s ∷ mems) = count_waiting number s.drains + count_drains number mems

pub record MoveFits (w : Scene) (c : ℕ) (pending : List Message) (next : ℕ) (o : Open) (move : Move) : Type 0 where
  pub to : Place
  pub told : Body
  pub is : o.operation ≡ Heals to told
  pub receiver : to ≡ (ask_of move None).to
  pub hands : HandsOver w.sides c move told
  pub by : o.by ≡ place.Manager
  pub targets : o.targets ≡ to ∷ []
  pub sent : o.unsent ≡ []
  pub some : 0 < o.number.0
  pub below : o.number.0 < next
  pub once : count_number o.number.0 pending + length o.answers + count_drains o.number.0 w.mems ≡ 1
  pub answers : AllByRecursion (λ (a : Answer). (a.place ≡ to) × MoveGot w c move a.body) o.answers
  pub answering : AllByRecursion (λ (m : Message). m.op.0 ≡ o.number.0 → m.to ≡ place.Manager → (m.from ≡ to) × MoveGot w c move m.body) pending

-- its number isn't the open operation's
abbrev pub NumbersDiffer : Option Open → Option Open → Type 0
NumbersDiffer None move = Unit {0}
NumbersDiffer (Some o) move = IsNot move o.number.0

-- whether it hasn't done its part yet: its message is on its way, or waits as a drain, or its answer refuses
abbrev pub is_unheard : ℕ → Message → Bool
is_unheard number m = m.op.0 == number && (not (same_place m.to place.Manager) || stops m.body)

abbrev pub is_undone : ℕ → List Message → List Mem → Bool
is_undone number pending mems = list_any (is_unheard number) pending || nat_lt 0 (count_drains number mems)

-- BETWEEN: what the done moves did, and the answer that the last done one got, which the next one takes

abbrev pub GotLast : Scene → ℕ → List Move → Option Body → Type 0
GotLast w c [] got = Unit {0}
GotLast w c (move ∷ []) None = ⊥
GotLast w c (move ∷ []) (Some got) = MoveGot w c move got
GotLast w c (move ∷ next ∷ moves) got = GotLast w c (next ∷ moves) got

abbrev pub Between : Scene → ℕ → List Message → ℕ → Mem → List Move → Option Open → Option Body → List Move → Type 0
Between w c pending next x done None got moves = AllByRecursion (HasDone w c x) done × GotLast w c done got × ((length moves == 0) ≡ false)
Between w c pending next x done (Some o) got [] = ⊥
Between w c pending next x done (Some o) got (move ∷ moves) =
    AllByRecursion (HasDone w c x) done × MoveFits w c pending next o move × (is_undone o.number.0 pending w.mems ≡ false → HasDone w c x move)

-- the moves that haven't begun are those ahead without the one on its way
abbrev pub Ahead : Option Open → List Move → List Move → Type 0
Ahead None moves ahead = moves ≡ ahead
Ahead (Some o) moves [] = ⊥
Ahead (Some o) moves (move ∷ ahead) = moves ≡ ahead

-- Which moves of the healing h are done, and what the memory c holds: it has no log, no batch, no waiting drains and no
-- cached blocks.
pub record HealStands (n : ℕ) (mems : List Mem) (owners : List HomeEntry) (c : ℕ) (h : Healing) : Type 0 where
  pub x : Mem
  pub at : slice_get mems c ≡ Some x
  pub done : List Move
  pub ahead : List Move
  pub all : done ++ ahead ≡ moves_of n c owners
  pub rest : Ahead h.current h.moves ahead
  pub log : x.log ≡ []
  pub out : x.out ≡ 0
  pub drains : x.drains ≡ []
  pub blocks : x.blocks ≡ []

-- whether no log may have a patch of a page, for the open operation's sake
abbrev pub open_clear : Option Open → ℕ → ℕ → Bool
open_clear None pid vpn = false
open_clear (Some o) pid vpn = asks_clear o.operation pid vpn

pub record HealHolds (t : Track) (c : ℕ) (h : Healing) : Type 0 where
  pub stands : HealStands (memory_count t.shape) t.mems t.owners c h
  pub between : Between (scene_of t) c (all_pending t) t.next stands.x stands.done h.current h.got stands.ahead
  -- no background message of c is pending
  pub background : background c (all_pending t) ≡ []
  -- it has no page that is neither in its old nor in its new share
  pub pages : (pid vpn : ℕ) → old_share (sides_of t) c (Page pid vpn) ≡ None → new_share (sides_of t) c (Page pid vpn) ≡ None → page_in stands.x.pages pid vpn ≡ None
  -- images of pages of which no log may have a patch are old or new as q should have them, though the log of q is lost
  pub clear : (pid vpn : ℕ) → open_clear t.current pid vpn ≡ true → owns t.owners (guarded_by (memory_count t.shape) c) pid (vpn / 512) ≡ true →
      IsEither (sides_of t) (guarded_by (memory_count t.shape) c) (Page pid vpn) (page_in t.disk.images pid vpn)
  -- it hasn't answered the open operation since its crash
  pub forgotten : gave_answer (memory c) (all_pending t) t.current ≡ false
  -- a move and the open operation aren't complete at once, and no other crash comes in this turn
  pub one_done : is_done t.net h.current ≡ true → is_done t.net t.current ≡ false
  pub no_second : is_crash_left t ≡ false
  pub apart : NumbersDiffer t.current h.current

-- the lost memory is the one that is being healed; of its moves nothing is said once the run was stopped by a refusal
abbrev pub HealFits : Option ℕ → Track → Option Healing → Type 0
HealFits lost t None = lost ≡ None
HealFits lost t (Some h) = (lost ≡ Some h.memory.0) × (t.stopped ≡ false → HealHolds t h.memory.0 h)
