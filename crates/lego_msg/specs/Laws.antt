-- What a reader may ask of legal lists.
use Rattle.std.specs.Prelude.{◌≡◌, ◌⊎◌, ◌+◌, ◌==◌, ◌&&◌, if◌then◌else◌, [], ◌∷◌, ◌++◌, ℕ, Bool, List, Option, Some, false, not, slice_get, true}
use Rattle.lego_base.specs.declared.ids.MemId.{MemId}
use Rattle.lego_base.specs.declared.ids.OpNo.{OpNo}
use Rattle.lego_base.specs.declared.shape.CrashAt.{CrashAt}
use Rattle.lego_base.specs.declared.shape.Shape.{Shape}
use Rattle.lego_msg.specs.Crashes.{is_idle}
use Rattle.lego_msg.specs.Judged.{is_complete_in}
use Rattle.lego_msg.specs.Legal.{Legal, May}
use Rattle.lego_msg.specs.Marks.{Call, Mark, Show, is_turn_end}
use Rattle.lego_msg.specs.Next.{all_fit, fits, next, played}
use Rattle.lego_msg.specs.Operations.{is_write}
use Rattle.lego_msg.specs.Places.{is_issuer, lose, memory}
use Rattle.lego_msg.specs.Run.{run}
use Rattle.lego_msg.specs.ShownEvents.{turned}
use Rattle.lego_msg.specs.State.{Disk, Mem, lost}
use Rattle.lego_msg.specs.Table.{handled, stored}
use Rattle.lego_msg.specs.Track.{Track, healing_move, is_any_done, is_complete, is_crash_due, next_crash, picked, start, taken_out}
use Rattle.lego_msg.specs.Watching.{Shown}
use Rattle.lego_msg.specs.declared.clock.Clock.{Clock}
use Rattle.lego_msg.specs.declared.event.Event.{Event}
use Rattle.lego_msg.specs.declared.event.Event.TheVariants.{Complete, Crash, Deliver, Send, Turn}
use Rattle.lego_msg.specs.declared.message.Message.{Message}
use Rattle.lego_msg.specs.declared.operation.Open.{Open}
use Rattle.lego_msg.specs.declared.place.Place.{Place}
use Rattle.lego_msg.specs.declared.place.Place.TheVariants.{Memory, Storage}

-- WHOLE LISTS

-- A list is legal just where its first part is and, from where that leads, its second part is; and where the two
-- lead is one after the other.
abbrev pub CutAndJoined : Type 0
CutAndJoined = (t : Track) (es fs : List Event) →
    (Legal t (es ++ fs) → Legal t es × Legal (run t es) fs)
    × (Legal t es → Legal (run t es) fs → Legal t (es ++ fs))
    × (run t (es ++ fs) ≡ run (run t es) fs)

-- What was shown of a run of events and then of another was shown of both.
abbrev pub ShownJoin : Type 0
ShownJoin = (told told' told'' : Option (List Event)) (n n' n'' : ℕ) (es fs : List Event) → Shown told n told' n' es → Shown told' n' told'' n'' fs → Shown told n told'' n'' (es ++ fs)

-- WHAT IS SHOWN

-- whether a mark shows an event: a turn, an access, a fill, a drop or output
abbrev pub is_seen : Event → Bool
is_seen (Send m) = false
is_seen (Deliver m) = false
is_seen (Crash number inc) = false
is_seen (Complete op) = false
is_seen other = true

-- the events of a list that marks show
abbrev pub seen : List Event → List Event
seen [] = []
seen (e ∷ es) = if is_seen e then e ∷ seen es else seen es

-- the events that marks show
abbrev pub shows : List Mark → List Event
shows [] = []
shows (Call o ∷ due) = shows due
shows (Show e ∷ due) = e ∷ shows due

-- In a legal list turns, accesses, fills, drops and output are, in order, those that were due, up to those that are
-- due still.
abbrev pub ShownAsDue : Type 0
ShownAsDue = (t : Track) (es : List Event) → Legal t es → seen es ++ shows (run t es).due ≡ shows t.due

-- DELIVERIES

-- a number, with one more for a delivery
abbrev pub counted : Event → ℕ → ℕ
counted (Deliver m) n = n + 1
counted other n = n

-- how many deliveries a list has
abbrev pub deliveries_in : List Event → ℕ
deliveries_in [] = 0
deliveries_in (e ∷ es) = counted e (deliveries_in es)

-- What is pending after an event, given the delivery list, the number of deliveries before it and what was pending then:
-- what was sent, not delivered and not lost, in order of sending.
abbrev pub pending_after : List ℕ → ℕ → List Message → Event → List Message
pending_after ds n pending (Send m) = pending ++ m ∷ []
pending_after ds n pending (Deliver m) = taken_out ds n pending
pending_after ds n pending (Crash number inc) = lose (memory number.0) pending
pending_after ds n pending other = pending

abbrev pub pending_along : List ℕ → ℕ → List Message → List Event → List Message
pending_along ds n pending [] = pending
pending_along ds n pending (e ∷ es) = pending_along ds (counted e n) (pending_after ds n pending e) es

abbrev pub pending_of : List ℕ → List Event → List Message
pending_of ds es = pending_along ds 0 [] es

-- In a legal list each delivery takes the message that the delivery list picks from what is pending.
abbrev pub DeliveriesArePicked : Type 0
DeliveriesArePicked = (shape : Shape) (due : List Mark) (es fs : List Event) (m : Message) → Legal (start shape due) (es ++ Deliver m ∷ fs) → picked shape.deliveries (deliveries_in es) (pending_of shape.deliveries es) ≡ Some m

-- WHAT COMPONENTS HOLD AND SEND

-- one memory after an event: the table at each delivery to it, and nothing left at its crash
abbrev pub memory_given : ℕ → Mem → Message → Place → Mem
memory_given c s m (Memory number) = if number.0 == c then (handled s m).0 else s
memory_given c s m other = s

abbrev pub memory_after : ℕ → Mem → Event → Mem
memory_after c s (Deliver m) = memory_given c s m m.to
memory_after c s (Crash number inc) = if number.0 == c then lost s else s
memory_after c s other = s

abbrev pub memory_along : ℕ → Mem → List Event → Mem
memory_along c s [] = s
memory_along c s (e ∷ es) = memory_along c (memory_after c s e) es

-- storage after an event: the table at each delivery to it
abbrev pub storage_given : Disk → Message → Place → Disk
storage_given d m Storage = (stored d m).0
storage_given d m other = d

abbrev pub storage_after : Disk → Event → Disk
storage_after d (Deliver m) = storage_given d m m.to
storage_after d other = d

abbrev pub storage_along : Disk → List Event → Disk
storage_along d [] = d
storage_along d (e ∷ es) = storage_along (storage_after d e) es

-- events begin with these sends, or are some first ones of them
abbrev pub BeginsWith : List Message → List Event → Type 0
BeginsWith [] es = Unit {0}
BeginsWith (m ∷ messages) [] = Unit {0}
BeginsWith (m ∷ messages) (e ∷ es) = (e ≡ Send m) × BeginsWith messages es

-- What a memory sends for a message comes directly after its delivery, and is just what the table gives for its
-- state and that message; and so for storage.
abbrev pub SendsFollow : Type 0
SendsFollow = (shape : Shape) (due : List Mark) (es fs : List Event) (m : Message) → Legal (start shape due) (es ++ Deliver m ∷ fs) →
    ((c : MemId) (s : Mem) → m.to ≡ Memory c → slice_get (start shape due).mems c.0 ≡ Some s → BeginsWith (handled (memory_along c.0 s es) m).1 fs)
    × (m.to ≡ Storage → BeginsWith (stored (storage_along (start shape due).disk es) m).1 fs)

-- Nothing else is sent by a memory or storage: what it sends is the first of what is owed, which only a delivery to it
-- leaves.
abbrev pub OthersSendWhatTheyOwe : Type 0
OthersSendWhatTheyOwe = (shape : Shape) (due : List Mark) (es fs : List Event) (m : Message) → Legal (start shape due) (es ++ Send m ∷ fs) → is_issuer m.from ≡ false → (rest : List Message) × ((run (start shape due) es).owed ≡ m ∷ rest)

-- COMPLETIONS

abbrev pub IsOpen : Track → Open → Type 0
IsOpen t o = (healing_move t.healing ≡ Some o) ⊎ (t.current ≡ Some o)

-- A completion comes where its operation is open and complete.
abbrev pub CompletionsAreDue : Type 0
CompletionsAreDue = (t : Track) (es fs : List Event) (op : OpNo) → Legal t (es ++ Complete op ∷ fs) → (o : Open) × IsOpen (run t es) o × (o.number ≡ op) × (is_complete (run t es).net o ≡ true)

-- It comes at the first such point: where an operation is complete and all that was caused is sent, nothing else
-- comes.
abbrev pub CompletionsAreFirst : Type 0
CompletionsAreFirst = (t : Track) (es fs : List Event) (e : Event) → Legal t (es ++ e ∷ fs) → (run t es).owed ≡ [] → is_any_done (run t es) ≡ true → (op : OpNo) × (e ≡ Complete op)

-- whether a list has no completion of an operation
abbrev pub is_other : ℕ → Event → Bool
is_other number (Complete op) = not (op.0 == number)
is_other number other = true

abbrev pub is_uncompleted : ℕ → List Event → Bool
is_uncompleted number [] = true
is_uncompleted number (e ∷ es) = is_other number e && is_uncompleted number es

-- From where an operation is open and has no answer yet, its completion comes only where the list itself says that
-- each of its targets has answered since its last crash and no message of it is pending.
abbrev pub CompletionsAreByTheList : Type 0
CompletionsAreByTheList = (shape : Shape) (due : List Mark) (before es fs : List Event) (o : Open) (op : OpNo) →
    Legal (start shape due) (before ++ (es ++ Complete op ∷ fs)) →
    (run (start shape due) before).current ≡ Some o →
    o.answers ≡ [] →
    op ≡ o.number →
    is_uncompleted o.number.0 es ≡ true →
    is_complete_in o.number.0 (is_write o.operation) o.targets es (pending_of shape.deliveries (before ++ es)) ≡ true

-- CRASHES

-- the clock after some events: the turn, its deliveries, and the entries of the crash list that are passed
abbrev pub clock_after : Shape → Clock → Event → Clock
clock_after shape c (Turn number pid) = turned shape number
clock_after shape c (Deliver m) = record c { since = c.since + 1 }
clock_after shape c (Crash number inc) = record c { passed = c.passed + 1 }
clock_after shape c other = c

abbrev pub clock_along : Shape → Clock → List Event → Clock
clock_along shape c [] = c
clock_along shape c (e ∷ es) = clock_along shape (clock_after shape c e) es

abbrev pub no_clock : Clock
no_clock = record { begun = false; turn = 0; since = 0; passed = 0 }

-- nothing is open or healing, and what is still to come of this turn is nothing
abbrev pub IsTurnOver : Track → Type 0
IsTurnOver t = (is_idle t.healing t.current ≡ true) × (is_turn_end t.due ≡ true)

-- The moment of an entry of the crash list, where the clock is this: its turn, after this many deliveries of it, or at
-- the turn's end where there were fewer.
pub record IsMoment (t : Track) (clock : Clock) (number : ℕ) : Type 0 where
  pub entry : CrashAt
  pub is : next_crash t.shape clock ≡ Some entry
  pub memory : entry.memory.0 ≡ number
  pub turn : (clock.begun ≡ true) × (entry.turn ≡ clock.turn)
  pub moment : (entry.after ≡ clock.since) ⊎ IsTurnOver t

-- Each crash comes at its entry's moment, with the incarnation of its memory raised by one.
abbrev pub CrashesStandAtTheirMoment : Type 0
CrashesStandAtTheirMoment = (shape : Shape) (due : List Mark) (es fs : List Event) (c : MemId) (inc : ℕ) → Legal (start shape due) (es ++ Crash c inc ∷ fs) →
    IsMoment (run (start shape due) es) (clock_along shape no_clock es) c.0
    × ((s : Mem) → slice_get (start shape due).mems c.0 ≡ Some s → inc ≡ (memory_along c.0 s es).inc + 1)

-- And it does come there: once that many deliveries came, all that they caused is sent and what is complete is shown,
-- nothing else comes.
abbrev pub CrashesAreDue : Type 0
CrashesAreDue = (t : Track) (es fs : List Event) (e : Event) → Legal t (es ++ e ∷ fs) → (run t es).owed ≡ [] → is_any_done (run t es) ≡ false → is_crash_due (run t es) ≡ true → (c : MemId) × (inc : ℕ) × (e ≡ Crash c inc)

-- ONE EVENT AT A TIME

-- Only one event may come at a time: the one that `next` says. So what is due, the delivery list and the crash list
-- determine the whole list.
abbrev pub OneMayCome : Type 0
OneMayCome = (t : Track) (e : Event) → May t e → next t ≡ Some e

-- And that one may come, where the caches hold what it needs.
abbrev pub NextMayCome : Type 0
NextMayCome = (t : Track) (e : Event) → next t ≡ Some e → fits t e ≡ true → May t e

-- So a list that is made by `next` alone is legal where a test says so, which can be computed.
abbrev pub PlayedIsLegal : Type 0
PlayedIsLegal = (n : ℕ) (t : Track) → all_fit n t ≡ true → Legal t (played n t)
