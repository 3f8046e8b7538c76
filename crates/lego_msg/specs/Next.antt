-- The event that comes next: the list of events is determined by what is due, the delivery list and the crash list.
use Rattle.std.specs.Prelude.{◌+◌, ◌*◌, ◌/◌, ◌%◌, ◌==◌, ◌&&◌, if◌then◌else◌, [], ◌∷◌, ℕ, Bool, List, None, Option, Some, bytes_eq, drop, false, is_none, is_some, length, nat_le, slice_get, suc, take, true, zero}
use Rattle.lego_base.specs.declared.records.Patch.{Patch}
use Rattle.lego_base.specs.declared.shape.CrashAt.{CrashAt}
use Rattle.lego_msg.specs.Marks.{Call, Mark, Show, is_turn}
use Rattle.lego_msg.specs.Places.{is_issuer}
use Rattle.lego_msg.specs.Run.{after}
use Rattle.lego_msg.specs.Sends.{open_move}
use Rattle.lego_msg.specs.State.{Mem}
use Rattle.lego_msg.specs.Track.{Caches, Filled, Track, healing_move, is_complete, is_crash_due, is_crash_left, next_crash, opened, picked}
use Rattle.lego_msg.specs.declared.event.Event.{Event}
use Rattle.lego_msg.specs.declared.event.Event.TheVariants.{Access, Complete, Crash, Deliver, Drop, Fill, Out, Send, Turn}
use Rattle.lego_msg.specs.declared.event.Kind.{Kind}
use Rattle.lego_msg.specs.declared.event.Kind.TheVariants.{CopyIn, CopyOut, Fetch, Load, Probe, Store}
use Rattle.lego_msg.specs.declared.healing.Healing.{Healing}
use Rattle.lego_msg.specs.declared.healing.Move.{Move}
use Rattle.lego_msg.specs.declared.message.Message.{Message}
use Rattle.lego_msg.specs.declared.operation.Open.{Open}
use Rattle.lego_msg.specs.declared.operation.Operation.{Operation}
use Rattle.lego_msg.specs.declared.operation.Operation.TheVariants.{Reads, Writes}
use Rattle.lego_msg.specs.declared.operation.Origin.{Origin}
use Rattle.lego_msg.specs.declared.place.Place.{Place}
use Rattle.lego_msg.specs.declared.place.Place.TheVariants.{Manager, Memory, Processor, Storage}
use Rattle.lego_msg.specs.declared.operation.Origin.TheVariants as origin

abbrev pub delivered_next : Option Message → Option Event
delivered_next None = None
delivered_next (Some m) = Some (Deliver m)

abbrev pub deliver_next : Track → Option Event
deliver_next t = delivered_next (picked t.shape.deliveries t.delivered t.net)

abbrev pub send_first : List Message → Option Event → Option Event
send_first [] else_ = else_
send_first (m ∷ messages) else_ = Some (Send m)

-- a memory's crash raises its incarnation
abbrev pub crash_of : CrashAt → Option Mem → Option Event
crash_of e None = None
crash_of e (Some s) = Some (Crash e.memory (s.inc + 1))

abbrev pub crash_at : Track → Option CrashAt → Option Event
crash_at t None = None
crash_at t (Some e) = crash_of e (slice_get t.mems e.memory.0)

abbrev pub crash_next : Track → Option Event
crash_next t = crash_at t (next_crash t.shape t.clock)

-- with a healing running: the next move, or a delivery for the one that is on its way
abbrev pub move_next : Track → Healing → Option Open → List Move → Option Event
move_next t h (Some o) moves = if length o.unsent == 0 then deliver_next t else None
move_next t h None [] = None
move_next t h None (move ∷ moves) = send_first (open_move t move h.got).unsent None

-- an event that a mark can show
abbrev pub showable : Event → Option Event
showable (Turn number pid) = Some (Turn number pid)
showable (Access cpu pid address kind bytes) = Some (Access cpu pid address kind bytes)
showable (Fill pid address bytes) = Some (Fill pid address bytes)
showable (Drop cpu pid line) = Some (Drop cpu pid line)
showable (Send m) = None
showable (Deliver m) = None
showable (Crash number inc) = None
showable (Complete op) = None
showable (Out stream bytes) = Some (Out stream bytes)

-- with nothing open: what is due, a crash of the turn before the turn's end
abbrev pub due_next : Track → List Mark → Option Event
due_next t [] = if is_crash_left t then crash_next t else None
due_next t (Show e ∷ due) = if is_turn e && is_crash_left t then crash_next t else showable e
due_next t (Call o ∷ due) = if o.late && is_crash_left t then crash_next t else send_first (opened t.shape t.next o.by o.operation).unsent None

abbrev pub open_next : Track → Option Healing → Option Open → Option Event
open_next t (Some h) current = move_next t h h.current h.moves
open_next t None (Some o) = send_first o.unsent (deliver_next t)
open_next t None None = due_next t t.due

-- a crash that is due, else what is open
abbrev pub crash_or_open : Track → Option Event
crash_or_open t = if is_crash_due t then crash_next t else open_next t t.healing t.current

abbrev pub complete_next : List Message → Option Open → Option Event → Option Event
complete_next pending None else_ = else_
complete_next pending (Some o) else_ = if is_complete pending o then Some (Complete o.number) else else_

-- what is owed, else a completion, else the rest; nothing once the run was stopped by a refusal
abbrev pub owed_next : Track → List Message → Option Event
owed_next t (m ∷ owed) = Some (Send m)
owed_next t [] = if t.stopped then None else complete_next t.net (healing_move t.healing) (complete_next t.net t.current (crash_or_open t))

abbrev pub next : Track → Option Event
next t = owed_next t t.owed

-- WHAT THE CACHES MUST HOLD for that event to be legal, as a test

abbrev pub carries : Option (List ℕ) → ℕ → List ℕ → Bool
carries None address bytes = false
carries (Some line) address bytes = nat_le (address % 64 + length bytes) 64 && bytes_eq bytes (take (length bytes) (drop (address % 64) line))

abbrev pub meets : Option (List ℕ) → ℕ → List ℕ → Bool
meets None address bytes = false
meets (Some line) address bytes = nat_le (address % 64 + length bytes) 64

abbrev pub in_line : Option (List ℕ) → ℕ → Kind → List ℕ → Bool
in_line line address Load bytes = carries line address bytes
in_line line address Store bytes = meets line address bytes
in_line line address Fetch bytes = carries line address bytes
in_line line address CopyIn bytes = carries line address bytes
in_line line address CopyOut bytes = meets line address bytes
in_line line address Probe bytes = bytes_eq bytes []

abbrev pub has_bytes : Option (List ℕ) → List ℕ → Bool
has_bytes None bytes = false
has_bytes (Some line) bytes = bytes_eq line bytes

abbrev pub reads_absent : Caches → Place → ℕ → ℕ → Bool
reads_absent caches (Processor cpu) pid line = is_none (caches.line cpu.0 pid line)
reads_absent caches (Memory number) pid line = true
reads_absent caches Storage pid line = true
reads_absent caches Manager pid line = true

abbrev pub writes_line : Caches → Place → Patch → Bool
writes_line caches (Processor cpu) p = p.off % 64 == 0 && has_bytes (caches.line cpu.0 p.pid.0 (p.vpn.0 * 64 + p.off / 64)) p.bytes
writes_line caches (Memory number) p = true
writes_line caches Storage p = true
writes_line caches Manager p = true

abbrev pub writes_fill : Option Filled → Patch → Bool
writes_fill None p = false
writes_fill (Some f) p = f.pid == p.pid.0 && f.address == p.vpn.0 * 4096 + p.off && bytes_eq f.bytes p.bytes

abbrev pub fits_origin : Caches → Place → Patch → Origin → Bool
fits_origin caches by patch origin.Line = writes_line caches by patch
fits_origin caches by patch origin.Fill = writes_fill caches.filled patch
fits_origin caches by patch origin.Run = true

abbrev pub fits_caches : Caches → Place → Operation → Bool
fits_caches caches by (Reads pid line owner) = reads_absent caches by pid.0 line.0
fits_caches caches by (Writes from_ patch owner) = fits_origin caches by patch from_
fits_caches caches by other = true

abbrev pub fits_begin : Caches → List Mark → Bool
fits_begin caches [] = true
fits_begin caches (Show e ∷ due) = true
fits_begin caches (Call o ∷ due) = fits_caches caches o.by o.operation && is_issuer o.by

abbrev pub fits_send : Track → List Message → Option Healing → Option Open → Bool
fits_send t (m ∷ owed) h o = true
fits_send t [] (Some h) o = true
fits_send t [] None (Some o) = true
fits_send t [] None None = fits_begin t.caches t.due

abbrev pub fits : Track → Event → Bool
fits t (Access cpu pid address kind bytes) = in_line (t.caches.line cpu.0 pid.0 (address / 64)) address kind bytes
fits t (Drop cpu pid line) = is_some (t.caches.line cpu.0 pid.0 line.0)
fits t (Send m) = fits_send t t.owed t.healing t.current
fits t other = true

-- the next events, n at most
abbrev pub played_on : ℕ → Track → Option Event → (Track → List Event) → List Event
played_on n t None more = []
played_on n t (Some e) more = e ∷ more (after t e)

abbrev pub played : ℕ → Track → List Event
played zero t = []
played (suc n) t = played_on n t (next t) (λ t. played n t)

-- whether each of them fits the caches
abbrev pub all_fit_on : Track → Option Event → (Track → Bool) → Bool
all_fit_on t None more = true
all_fit_on t (Some e) more = fits t e && more (after t e)

abbrev pub all_fit : ℕ → Track → Bool
all_fit zero t = true
all_fit (suc n) t = all_fit_on t (next t) (λ t. all_fit n t)
