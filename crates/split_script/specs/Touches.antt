-- Accesses, line by line: what a touch of a line calls for, and what it makes of the cache.
use Rattle.std.specs.Prelude.{ℕ, ◌*◌, ◌/◌, ◌||◌, Bool, true, false, if◌then◌else◌, nat_le, nat_lt, List, [], ◌∷◌, ◌++◌, length, map, Option, Some, None}
use Rattle.lego_base.specs.declared.ids.MemId.{MemId}
use Rattle.lego_base.specs.declared.records.Patch.{Patch}
use Rattle.lego_base.specs.declared.sizes.TheConstants.{USER_END}
use Rattle.lego_base.specs.Keys.{Key}
use Rattle.lego_base.specs.Space.{Space, permits, bytes_at}
use Rattle.lego_msg.specs.declared.event.Event.{Event}
use Rattle.lego_msg.specs.declared.event.Event.TheVariants.{Access, Drop}
use Rattle.lego_msg.specs.declared.event.Kind.TheVariants as shown
use Rattle.lego_msg.specs.declared.event.Kind.{Kind as ShownKind}
use Rattle.lego_msg.specs.declared.operation.Operation.TheVariants as op
use Rattle.lego_msg.specs.declared.operation.Origin.TheVariants as origin
use Rattle.lego_msg.specs.Marks.{Mark, Call, Show, order}
use Rattle.cache_tags.specs.CacheRule.{Past, Touched, Stored}
use Rattle.cache_tags.specs.Following.{touch_for, victim_in}
use Rattle.linux_model.specs.Effects.{Kind, Fetch, Load, Store, CopyIn, CopyOut, write_at}
use Rattle.linux_model.specs.Held.{Held, held_in, with_held}
use Rattle.linux_model.specs.State.{unbooted}
use Rattle.split_script.specs.Cuts.{LINE, REGION_LINES, Span, Chunk, spans, chunks}
use Rattle.split_script.specs.Now.{Now, cpu_no, pid_no, line_no, region_no, line_at, lines_for, is_there, is_dirty, is_mapped, line_patch, line_owner, with_pasts}

-- a part of an access, within one line: a probe has no bytes
pub record Part : Type 0 where
  pub pid : ℕ
  pub at : ℕ
  pub kind : ShownKind
  pub bytes : List ℕ

abbrev pub shown_kind : Kind → ShownKind
shown_kind Fetch = shown.Fetch
shown_kind Load = shown.Load
shown_kind Store = shown.Store
shown_kind CopyIn = shown.CopyIn
shown_kind CopyOut = shown.CopyOut

abbrev pub writes : ShownKind → Bool
writes shown.Store = true
writes shown.CopyOut = true
writes other = false

-- ---- the parts of an access

abbrev pub part_of : ℕ → ShownKind → Chunk → Part
part_of pid kind c = record { pid = pid; at = c.at; kind = kind; bytes = c.bytes }

abbrev pub probe_of : ℕ → Chunk → Part
probe_of pid c = record { pid = pid; at = c.at; kind = shown.Probe; bytes = [] }

abbrev pub probe_at : ℕ → ℕ → Part
probe_at pid at = record { pid = pid; at = at; kind = shown.Probe; bytes = [] }

abbrev pub line_parts : ShownKind → ℕ → ℕ → List ℕ → List Part
line_parts kind pid at bytes = map (part_of pid kind) (chunks LINE at bytes)

-- a store across two lines probes both before it writes the first
abbrev pub store_parts : ℕ → List Chunk → List Part
store_parts pid cut = if nat_lt 1 (length cut) then map (probe_of pid) cut ++ map (part_of pid shown.Store) cut else map (part_of pid shown.Store) cut

abbrev pub write_parts : Kind → ℕ → ℕ → List ℕ → List Part
write_parts Store pid at bytes = store_parts pid (chunks LINE at bytes)
write_parts other pid at bytes = line_parts (shown_kind other) pid at bytes

-- the permission that an access needs
abbrev pub need_of : Kind → ℕ
need_of Fetch = 4
need_of Load = 1
need_of Store = 2
need_of CopyIn = 1
need_of CopyOut = 2

-- a part before the one that isn't permitted: its bytes were read; one that was to be written was probed
abbrev pub passed_part : Kind → ℕ → Space → Span → Part
passed_part kind pid space x =
    if writes (shown_kind kind) then probe_at pid x.at
    else record { pid = pid; at = x.at; kind = shown_kind kind; bytes = bytes_at space x.at x.size }

-- an access that isn't permitted ends with a probe of the first part that isn't
abbrev pub refused_in : Kind → ℕ → Space → List Span → List Part
refused_in kind pid space [] = []
refused_in kind pid space (x ∷ cut) =
    if permits space (need_of kind) x.at x.size then passed_part kind pid space x ∷ refused_in kind pid space cut else probe_at pid x.at ∷ []

abbrev pub refused_parts : Kind → ℕ → ℕ → ℕ → Space → List Part
refused_parts kind pid at n space = refused_in kind pid space (spans LINE at n)

-- ---- a touch

-- a line is written to its owner
abbrev pub writes_back : Now → Option MemId → Patch → List Mark → List Mark
writes_back n None patch rest = rest
writes_back n (Some owner) patch rest = Call (order n.by (op.Writes origin.Line patch owner)) ∷ rest

-- a line is written back where it is dirty
abbrev pub cleaned : Now → Key → List Mark → List Mark
cleaned n x rest = if is_dirty n x then writes_back n (line_owner n x) (line_patch n x) rest else rest

abbrev pub dropped : Now → Key → List Mark → List Mark
dropped n x rest = Show (Drop (cpu_no n x.pid) (pid_no x.pid) (line_no x.number)) ∷ rest

-- the victim of a miss is written back and dropped
abbrev pub put_out : Now → Option Key → List Mark → List Mark
put_out n None rest = rest
put_out n (Some x) rest = cleaned n x (dropped n x rest)

abbrev pub victim : Now → Key → Option Key
victim n x = victim_in (touch_for x (lines_for n x.pid))

-- where an owner was named, the line is read; it comes in where an area has its page
abbrev pub reads_from : Now → Key → Option MemId → List Mark → List Mark
reads_from n x None rest = rest
reads_from n x (Some owner) rest =
    Call (order n.by (op.Reads (pid_no x.pid) (line_no x.number) owner)) ∷ (if is_mapped n x then put_out n (victim n x) rest else rest)

-- a line that isn't there, of a user address, is asked for
abbrev pub touches : Now → Key → List Mark → List Mark
touches n x rest =
    if nat_le USER_END (x.number * LINE) || is_there n x then rest
    else Call (order n.by (op.Finds (pid_no x.pid) (region_no (x.number / REGION_LINES)))) ∷ reads_from n x (line_owner n x) rest

-- ---- a part

abbrev pub access_of : Now → Part → Event
access_of n a = Access (cpu_no n a.pid) (pid_no a.pid) a.at a.kind a.bytes

abbrev pub part_marks : Now → Part → List Mark → List Mark
part_marks n a rest = touches n (line_at a.pid a.at) (Show (access_of n a) ∷ rest)

-- what it makes of the cache: a line without an area isn't touched
abbrev pub past_of : Bool → Bool → Key → List Past
past_of false stores x = []
past_of true false x = Touched x ∷ []
past_of true true x = Touched x ∷ Stored x ∷ []

abbrev pub part_past : Now → Part → List Past
part_past n a = past_of (is_mapped n (line_at a.pid a.at)) (writes a.kind) (line_at a.pid a.at)

-- and of the space: the bytes of a part that writes are there directly after it
abbrev pub part_held : Part → Held → Held
part_held a h = if writes a.kind then held_in (write_at a.pid a.at a.bytes (with_held h (unbooted []))) else h

abbrev pub part_passed : Now → Part → Now
part_passed n a = record (with_pasts a.pid (part_past n a) n) { held = part_held a n.held }

-- parts one after the other: a victim may be a line that this very access wrote
abbrev pub walk : Now → List Part → List Mark → List Mark
walk n [] rest = rest
walk n (a ∷ parts) rest = part_marks n a (walk (part_passed n a) parts rest)

abbrev pub walked : Now → List Part → Now
walked n [] = n
walked n (a ∷ parts) = walked (part_passed n a) parts
