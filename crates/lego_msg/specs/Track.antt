-- The track: all that a list of events determines. `after`, in Run, is the track after one more event.
use Rattle.std.specs.List.{list_any}
use Rattle.std.specs.Prelude.{◌≡◌, ◌+◌, ◌%◌, ◌==◌, ◌&&◌, ◌||◌, if◌then◌else◌, [], ◌∷◌, ◌++◌, ℕ, Bool, List, None, Option, Some, drop, false, length, nat_lt, not, slice_get, slice_index, take, true}
use Rattle.lego_base.specs.declared.records.HomeEntry.{HomeEntry}
use Rattle.lego_base.specs.declared.shape.CrashAt.{CrashAt}
use Rattle.lego_base.specs.declared.shape.Shape.{Shape}
use Rattle.lego_msg.specs.Files.{no_files}
use Rattle.lego_msg.specs.Marks.{Mark}
use Rattle.lego_msg.specs.Operations.{asks_of, messages_of, targets_of}
use Rattle.lego_msg.specs.Places.{same_place}
use Rattle.lego_msg.specs.Plain.{Plain, no_plain}
use Rattle.lego_msg.specs.State.{Disk, Mem, empty_disk, empty_mem}
use Rattle.lego_msg.specs.Table.{answers}
use Rattle.lego_msg.specs.declared.body.Body.{Body}
use Rattle.lego_msg.specs.declared.body.Body.TheVariants.{Line}
use Rattle.lego_msg.specs.declared.clock.Clock.{Clock}
use Rattle.lego_msg.specs.declared.healing.Healing.{Healing}
use Rattle.lego_msg.specs.declared.message.Message.{Message}
use Rattle.lego_msg.specs.declared.operation.Answer.{Answer}
use Rattle.lego_msg.specs.declared.operation.Open.{Open}
use Rattle.lego_msg.specs.declared.operation.Operation.{Operation}
use Rattle.lego_msg.specs.declared.place.Place.{Place}

-- a Fill that was shown, and not written yet
pub record Filled : Type 0 where
  pub pid : ℕ
  pub address : ℕ
  pub bytes : List ℕ

-- what the processors' caches hold by the events alone
pub record Caches : Type 0 where
  -- by processor, process and line: its 64 bytes, where it is there
  pub line : ℕ → ℕ → ℕ → Option (List ℕ)
  pub filled : Option Filled

pub record Track : Type 0 where
  -- the machine; it never changes
  pub shape : Shape
  pub mems : List Mem
  pub disk : Disk
  -- the pending messages, in order of sending
  pub net : List Message
  -- what the receiver of the last message has still to send
  pub owed : List Message
  -- all deliveries so far
  pub delivered : ℕ
  -- the number of the next operation
  pub next : ℕ
  -- the open operation, and the healing that runs beside it
  pub current : Option Open
  pub healing : Option Healing
  pub clock : Clock
  -- a memory or storage was full: nothing comes any more
  pub stopped : Bool
  -- who owns which region
  pub owners : List HomeEntry
  -- the plain map
  pub plain : Plain
  pub caches : Caches
  -- what is still to come
  pub due : List Mark

-- BEGINNING

-- one empty memory for each number of frames, from a number on
abbrev pub empty_mems : Shape → ℕ → List ℕ → List Mem
empty_mems shape id [] = []
empty_mems shape id (frames ∷ more) = empty_mem id frames shape.log shape.cache_blocks 0 ∷ empty_mems shape (id + 1) more

-- before the first event
abbrev pub start : Shape → List Mark → Track
start shape due = record {
  shape = shape;
  mems = empty_mems shape 0 shape.frames;
  disk = empty_disk shape.blocks;
  net = [];
  owed = [];
  delivered = 0;
  next = 1;
  current = None;
  healing = None;
  clock = record { begun = false; turn = 0; since = 0; passed = 0 };
  stopped = false;
  owners = [];
  plain = no_plain (no_files shape.blocks);
  caches = record { line = λ cpu pid line. None; filled = None };
  due = due;
}

abbrev pub memory_count : Shape → ℕ
memory_count shape = length shape.frames

-- THE DELIVERY LIST

-- which of the pending messages, of which there are this many, the delivery list picks for the delivery with a number
-- from 0
abbrev pub pick_of : List ℕ → ℕ → ℕ → ℕ
pick_of deliveries number pending = slice_index deliveries (number % length deliveries) % pending

abbrev pub picked : List ℕ → ℕ → List Message → Option Message
picked deliveries number pending = slice_get pending (pick_of deliveries number (length pending))

-- what stays pending once that one is delivered
abbrev pub taken_out : List ℕ → ℕ → List Message → List Message
taken_out deliveries number pending = take (pick_of deliveries number (length pending)) pending ++ drop (pick_of deliveries number (length pending) + 1) pending

-- THE COMPLETION OF AN OPERATION

-- whether a message of an operation is pending
abbrev pub is_pending : ℕ → List Message → Bool
is_pending number pending = list_any (λ (m : Message). m.op.0 == number) pending

-- whether a place has answered
abbrev pub has_answered : Place → List Answer → Bool
has_answered place [] = false
has_answered place (a ∷ answers) = same_place place a.place || has_answered place answers

abbrev pub all_answered : List Place → List Answer → Bool
all_answered [] answers = true
all_answered (target ∷ targets) answers = has_answered target answers && all_answered targets answers

-- An operation is complete where every target has answered since its last crash and no message of it is
-- pending.
abbrev pub is_complete : List Message → Open → Bool
is_complete pending o = all_answered o.targets o.answers && not (is_pending o.number.0 pending)

-- whether an operation is open and complete, so that its Complete comes next
abbrev pub is_done : List Message → Option Open → Bool
is_done pending None = false
is_done pending (Some o) = is_complete pending o

abbrev pub healing_move : Option Healing → Option Open
healing_move None = None
healing_move (Some h) = h.current

abbrev pub is_any_done : Track → Bool
is_any_done t = is_done t.net (healing_move t.healing) || is_done t.net t.current

-- the answers without those of a place that crashed
abbrev pub forget : Place → List Answer → List Answer
forget place [] = []
forget place (a ∷ answers) = if same_place a.place place then forget place answers else a ∷ forget place answers

-- the last line that was delivered
abbrev pub line_in : Body → Option (List ℕ) → Option (List ℕ)
line_in (Line perms bytes) else_ = Some bytes
line_in other else_ = else_

abbrev pub last_line : List Answer → Option (List ℕ)
last_line [] = None
last_line (a ∷ answers) = line_in a.body (last_line answers)

-- an operation that begins
abbrev pub opened : Shape → ℕ → Place → Operation → Open
opened shape number by operation = record {
  number = record { 0 = number };
  by = by;
  operation = operation;
  unsent = messages_of by (record { 0 = number }) (asks_of (memory_count shape) operation);
  targets = targets_of (memory_count shape) operation;
  answers = [];
}

-- an operation that is sent again, to all that got its first messages
abbrev pub again : Shape → Open → Open
again shape o = record o { unsent = messages_of o.by o.number (asks_of (memory_count shape) o.operation) }

-- CRASHES

-- the entry of the crash list that comes next
abbrev pub next_crash : Shape → Clock → Option CrashAt
next_crash shape clock = slice_get shape.crashes clock.passed

-- whether an entry is of the turn that runs, and whether its moment is now: after this many deliveries of the turn
abbrev pub is_of_turn : Clock → Option CrashAt → Bool
is_of_turn clock None = false
is_of_turn clock (Some e) = clock.begun && e.turn == clock.turn

abbrev pub is_now : Clock → Option CrashAt → Bool
is_now clock None = false
is_now clock (Some e) = clock.begun && e.turn == clock.turn && e.after == clock.since

-- a crash comes next
abbrev pub is_crash_due : Track → Bool
is_crash_due t = is_now t.clock (next_crash t.shape t.clock)

-- a crash of this turn is still to come
abbrev pub is_crash_left : Track → Bool
is_crash_left t = is_of_turn t.clock (next_crash t.shape t.clock)

-- how many entries are of turns below this one
abbrev pub entries_below : ℕ → List CrashAt → ℕ
entries_below turn [] = 0
entries_below turn (e ∷ crashes) = if nat_lt e.turn turn then 1 + entries_below turn crashes else 0

-- WHAT COMES FIRST: what is owed, then a completion, then a crash that is due

-- No completion and no crash comes first, and the run wasn't stopped by a refusal.
abbrev pub is_calm : Track → Bool
is_calm t = not t.stopped && not (is_any_done t) && not (is_crash_due t)

-- nothing is owed, open or healing
pub record Quiet (t : Track) : Type 0 where
  pub owed : t.owed ≡ []
  pub closed : t.current ≡ None
  pub healed : t.healing ≡ None
  pub calm : is_calm t ≡ true
