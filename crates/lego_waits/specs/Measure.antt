-- How far a track is from stillness, as one number. Each event that may come while something is owed, open, healing or
-- due lowers it, so no wait is for ever.
--
-- A patch that finds a log full goes round: LogWrite, LogFull, Drain, Drained, LogWrite. After a sending again several
-- copies may go round at once, so no weight of messages alone falls. What falls is, in this order of worth: how many
-- patches may still get into logs; how many patches the logs hold; and the weights of what is on its way.
use Rattle.std.specs.Prelude.{◌+◌, ◌-◌, ◌*◌, ◌==◌, ◌||◌, [], ◌∷◌, ℕ, Bool, List, None, Option, Some, false, length, nat_le, slice_get, suc, true, zero}
use Rattle.lego_msg.specs.State.{Mem}
use Rattle.lego_msg.specs.Track.{Track, memory_count}
use Rattle.lego_msg.specs.declared.body.Body.{Body}
use Rattle.lego_msg.specs.declared.body.Body.TheVariants.{AreasAre, BackedUp, BlockGet, Done, Drain, Drained, FileBytes, FileCut, FileRead, FileWrite, Images, Line, LogFull, LogWrite, Meta, NameIs, Names, OwnerIs, Refused, SizeIs, Wrote}
use Rattle.lego_msg.specs.declared.healing.Healing.{Healing}
use Rattle.lego_msg.specs.declared.message.Message.{Message}
use Rattle.lego_msg.specs.declared.operation.Open.{Open}
use Rattle.lego_msg.specs.declared.place.Place.{Place}
use Rattle.lego_msg.specs.declared.place.Place.TheVariants.{Memory}

abbrev pub total : {X : Type 0} → (X → ℕ) → List X → ℕ
total f [] = 0
total f (x ∷ xs) = f x + total f xs

abbrev pub pick : Bool → ℕ → ℕ → ℕ
pick true a b = a
pick false a b = b

-- WAYS: how many patches may still get into logs

-- a patch that goes round
abbrev pub way_of : Body → ℕ
way_of (LogWrite patch) = 1
way_of LogFull = 1
way_of Drain = 1
way_of Drained = 1
way_of other = 0

abbrev pub way : Message → ℕ
way m = way_of m.body

abbrev pub waiting : Mem → ℕ
waiting s = length s.drains

-- what is still to be sent of the open operation
abbrev pub unsent_of : Option Open → List Message
unsent_of None = []
unsent_of (Some o) = o.unsent

-- what a healing may still send: each move once, and the open operation again at its end
abbrev pub is_open : Option Open → ℕ
is_open None = 0
is_open (Some o) = 1

abbrev pub moves_left : Option Healing → ℕ
moves_left None = 0
moves_left (Some h) = 1 + 2 * length h.moves + is_open h.current

-- and what the crashes to come may: each begins a healing, with two moves for each region of the lost memory and of the
-- one that it guards, and five others
abbrev pub crashes_left : Track → ℕ
crashes_left t = length t.shape.crashes - t.clock.passed

abbrev pub healings_left : Track → ℕ
healings_left t = crashes_left t * (12 + 8 * length t.owners) + moves_left t.healing

abbrev pub ways : Track → ℕ
ways t = total way t.net + total way t.owed + total way (unsent_of t.current) + total waiting t.mems + 2 * healings_left t

-- HELD: how many patches the logs hold
abbrev pub log_length : Mem → ℕ
log_length s = length s.log

abbrev pub held : Track → ℕ
held t = total log_length t.mems

-- WEIGHTS: a message's weight is more than what it may cause. A patch that goes round into a log with room weighs less and
-- less up to its LogWrite; one that goes to a full log up to its waiting drain.

abbrev pub log_full : Option Mem → Bool
log_full None = false
log_full (Some s) = nat_le s.log_room (length s.log)

abbrev pub is_full : List Mem → Place → Bool
is_full mems (Memory m) = log_full (slice_get mems m.0)
is_full mems other = false

abbrev pub weight_of : List Mem → Message → Body → ℕ
weight_of mems m (LogWrite patch) = pick (is_full mems m.to) 4 2
weight_of mems m LogFull = pick (is_full mems m.from) 3 6
weight_of mems m Drain = pick (is_full mems m.to) 2 5
weight_of mems m Drained = pick (is_full mems m.from) 5 3
weight_of mems m (FileRead file block off len) = 4
weight_of mems m (BlockGet file block off len asker) = 3
weight_of mems m (FileWrite file block off bytes) = 3
weight_of mems m (FileCut file size) = 3
weight_of mems m BackedUp = 1
weight_of mems m (OwnerIs owner) = 1
weight_of mems m (Line perms bytes) = 1
weight_of mems m (Refused why) = 1
weight_of mems m Wrote = 1
weight_of mems m Done = 1
weight_of mems m (AreasAre areas) = 1
weight_of mems m (FileBytes bytes) = 1
weight_of mems m (SizeIs size) = 1
weight_of mems m (NameIs file) = 1
weight_of mems m (Names list) = 1
weight_of mems m (Meta homes areas) = 1
weight_of mems m (Images pages) = 1
weight_of mems m other = 2

-- one that is pending, and one that is still to be sent
abbrev pub pending_weight : List Mem → Message → ℕ
pending_weight mems m = 2 * weight_of mems m m.body

abbrev pub unsent_weight : List Mem → Message → ℕ
unsent_weight mems m = 2 * weight_of mems m m.body + 1

-- a memory: its waiting drains, and whether it may start a batch
abbrev pub may_start : Mem → ℕ
may_start s = pick (s.out == 0 || length s.log == 0) 5 0

abbrev pub mem_weight : Mem → ℕ
mem_weight s = length s.drains * pick (log_full (Some s)) 1 8 + may_start s

abbrev pub weights : Track → ℕ
weights t = total (pending_weight t.mems) t.net + total (unsent_weight t.mems) t.owed + total (unsent_weight t.mems) (unsent_of t.current) + total mem_weight t.mems + is_open t.current

-- AS ONE NUMBER, with n memories: where the held patches or the ways fall, what is worth less may rise, by no more than a
-- width
abbrev pub width : ℕ → ℕ → ℕ
width n p = 30 * p + (20 * n + 100)

abbrev pub stairs : ℕ → ℕ → ℕ
stairs n zero = 0
stairs n (suc p) = stairs n p + 2 * width n (suc p)

abbrev pub rank : ℕ → ℕ → ℕ → ℕ → ℕ
rank n p l w = stairs n p + width n p * l + w

abbrev pub load : Track → ℕ
load t = rank (memory_count t.shape) (ways t) (held t) (weights t)
