-- Sends. What is owed is sent first; then, where a memory is being healed, its next move; then the open operation's
-- first messages; then the first message of the operation that is called for.
use Rattle.std.specs.Prelude.{◌≡◌, ◌+◌, ◌*◌, ◌/◌, ◌%◌, ◌&&◌, [], ◌∷◌, ◌++◌, ℕ, List, None, Option, Some, drop, false, true}
use Rattle.lego_base.specs.Keys.{put_all}
use Rattle.lego_base.specs.declared.records.Patch.{Patch}
use Rattle.lego_msg.specs.Healing.{ask_of}
use Rattle.lego_msg.specs.Maps.{home_key}
use Rattle.lego_msg.specs.Marks.{Call, Mark, Show}
use Rattle.lego_msg.specs.Places.{is_issuer}
use Rattle.lego_msg.specs.Track.{Caches, Track, is_calm, is_crash_left, opened}
use Rattle.lego_msg.specs.declared.body.Body.{Body}
use Rattle.lego_msg.specs.declared.healing.Healing.{Healing}
use Rattle.lego_msg.specs.declared.healing.Move.{Move}
use Rattle.lego_msg.specs.declared.message.Message.{Message}
use Rattle.lego_msg.specs.declared.operation.Open.{Open}
use Rattle.lego_msg.specs.declared.operation.Operation.{Operation}
use Rattle.lego_msg.specs.declared.operation.Operation.TheVariants.{Heals, Reads, Writes}
use Rattle.lego_msg.specs.declared.operation.Origin.{Origin}
use Rattle.lego_msg.specs.declared.place.Place.{Place}
use Rattle.lego_msg.specs.declared.place.Place.TheVariants.{Manager, Memory, Processor, Storage}
use Rattle.lego_msg.specs.declared.operation.Origin.TheVariants as origin

abbrev pub IsFirst : Message → List Message → Type 0
IsFirst m [] = ⊥
IsFirst m (x ∷ messages) = m ≡ x

-- A MOVE OF HEALING begins once the one before it is complete, and takes that one's answer.

-- a move of healing as an open operation
abbrev pub open_move : Track → Move → Option Body → Open
open_move t move got = opened t.shape t.next Manager (Heals (ask_of move got).to (ask_of move got).body)

abbrev pub IsMove : Track → Message → Healing → Option Open → List Move → Type 0
IsMove t m h (Some o) moves = ⊥
IsMove t m h None [] = ⊥
IsMove t m h None (move ∷ moves) = IsFirst m (open_move t move h.got).unsent

abbrev pub move_begins : Track → Message → Healing → List Move → Track
move_begins t m h [] = t
move_begins t m h (move ∷ moves) = record t {
  net = t.net ++ m ∷ [];
  next = t.next + 1;
  healing = Some (record h { moves = moves; current = Some (record (open_move t move h.got) { unsent = [] }); got = None });
}

-- AN OPERATION THAT IS CALLED FOR begins with its first message, which a processor or the manager sends. One that comes
-- after the last turn begins once no crash of that turn is left.

-- a processor reads a line that it hasn't, and writes back a line as it has it
abbrev pub ReadsAbsent : Caches → Place → ℕ → ℕ → Type 0
ReadsAbsent caches (Processor cpu) pid line = caches.line cpu.0 pid line ≡ None
ReadsAbsent caches (Memory number) pid line = Unit {0}
ReadsAbsent caches Storage pid line = Unit {0}
ReadsAbsent caches Manager pid line = Unit {0}

abbrev pub WritesLine : Caches → Place → Patch → Type 0
WritesLine caches (Processor cpu) p = (p.off % 64 ≡ 0) × (caches.line cpu.0 p.pid.0 (p.vpn.0 * 64 + p.off / 64) ≡ Some p.bytes)
WritesLine caches (Memory number) p = Unit {0}
WritesLine caches Storage p = Unit {0}
WritesLine caches Manager p = Unit {0}

-- the last Fill that was shown is what is written
abbrev pub WritesFill : Caches → Patch → Type 0
WritesFill caches p = caches.filled ≡ Some (record { pid = p.pid.0; address = p.vpn.0 * 4096 + p.off; bytes = p.bytes })

-- What the caches must hold where an operation begins. A run of bytes that no cache holds is written freely.
abbrev pub FitsOrigin : Caches → Place → Patch → Origin → Type 0
FitsOrigin caches by patch origin.Line = WritesLine caches by patch
FitsOrigin caches by patch origin.Fill = WritesFill caches patch
FitsOrigin caches by patch origin.Run = Unit {0}

abbrev pub FitsCaches : Caches → Place → Operation → Type 0
FitsCaches caches by (Reads pid line owner) = ReadsAbsent caches by pid.0 line.0
FitsCaches caches by (Writes from_ patch owner) = FitsOrigin caches by patch from_
FitsCaches caches by other = Unit {0}

abbrev pub MayBegin : Track → Message → List Mark → Type 0
MayBegin t m [] = ⊥
MayBegin t m (Show e ∷ due) = ⊥
MayBegin t m (Call o ∷ due) =
    IsFirst m (opened t.shape t.next o.by o.operation).unsent
    × FitsCaches t.caches o.by o.operation
    × ((o.late && is_crash_left t) ≡ false)
    × (is_issuer o.by ≡ true)

-- the message is pending, and with it the operation is open whose first message it is
abbrev pub begins : Track → Message → List Mark → Track
begins t m [] = t
begins t m (Show e ∷ due) = t
begins t m (Call o ∷ due) = record t {
  net = t.net ++ m ∷ [];
  next = t.next + 1;
  current = Some (record (opened t.shape t.next o.by o.operation) { unsent = drop 1 (opened t.shape t.next o.by o.operation).unsent });
  owners = put_all home_key o.owners t.owners;
  caches = record t.caches { filled = None };
  due = due;
}

-- ALL SENDS

abbrev pub MaySend : Track → Message → List Message → Option Healing → Option Open → Type 0
MaySend t m (owed ∷ more) healing current = m ≡ owed
MaySend t m [] (Some h) current = (is_calm t ≡ true) × IsMove t m h h.current h.moves
MaySend t m [] None (Some o) = (is_calm t ≡ true) × IsFirst m o.unsent
MaySend t m [] None None = (is_calm t ≡ true) × MayBegin t m t.due

abbrev pub sent : Track → Message → List Message → Option Healing → Option Open → Track
sent t m (owed ∷ more) healing current = record t { net = t.net ++ m ∷ []; owed = more }
sent t m [] (Some h) current = move_begins t m h h.moves
sent t m [] None (Some o) = record t { net = t.net ++ m ∷ []; current = Some (record o { unsent = drop 1 o.unsent }) }
sent t m [] None None = begins t m t.due
