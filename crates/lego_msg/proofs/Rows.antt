-- Worked lists, by computation.
use Rattle.std.proofs.Common.{◌≡◌, ◌+◌, ◌*◌, [], ◌∷◌, ◌++◌, ℕ, List, None, Option, Some, ap, arith, codes, drop, false, length, refl, replicate, true}
use Rattle.lego_base.specs.declared.ids.MemId.{MemId}
use Rattle.lego_base.specs.declared.ids.OpNo.{OpNo}
use Rattle.lego_base.specs.declared.ids.Pid.{Pid}
use Rattle.lego_base.specs.declared.ids.RegionNo.{RegionNo}
use Rattle.lego_base.specs.declared.records.Area.{Area}
use Rattle.lego_base.specs.declared.records.HomeEntry.{HomeEntry}
use Rattle.lego_base.specs.declared.records.Patch.{Patch}
use Rattle.lego_base.specs.declared.shape.CrashAt.{CrashAt}
use Rattle.lego_base.specs.declared.shape.Shape.{Shape}
use Rattle.lego_msg.proofs.Coming.{played-is-legal}
use Rattle.lego_msg.specs.Kinds.{kind_of}
use Rattle.lego_msg.specs.Legal.{Legal, May}
use Rattle.lego_msg.specs.Marks.{Call, Mark, Show, order}
use Rattle.lego_msg.specs.Next.{next, played}
use Rattle.lego_msg.specs.Places.{memory}
use Rattle.lego_msg.specs.Plain.{byte_at}
use Rattle.lego_msg.specs.Run.{run}
use Rattle.lego_msg.specs.Track.{Track, start}
use Rattle.lego_msg.specs.declared.body.Body.TheVariants.{BackedUp, Backup, Done, Drain, Drained, Find, Images, Line, LogFull, LogWrite, Meta, OwnerIs, PullMeta, PullPages, PushMeta, Read, ResetImages, Write, Wrote}
use Rattle.lego_msg.specs.declared.event.Event.{Event}
use Rattle.lego_msg.specs.declared.event.Event.TheVariants.{Access, Complete, Crash, Deliver, Drop, Fill, Out, Send, Turn}
use Rattle.lego_msg.specs.declared.event.Kind.TheVariants.{Fetch}
use Rattle.lego_msg.specs.declared.message.Message.{Message}
use Rattle.lego_msg.specs.declared.operation.Operation.TheVariants.{Finds, Reads, SetsAreas, SetsHome, Writes}
use Rattle.lego_msg.specs.declared.place.Place.{Place}
use Rattle.lego_msg.specs.declared.place.Place.TheVariants.{Manager, Processor, Storage}
use Rattle.lego_msg.specs.declared.body.Body.TheVariants as body
use Rattle.lego_msg.specs.declared.operation.Origin.TheVariants as origin

-- a message in an event, as a trace has it
pub data Brief : Type 0 where
  send : ℕ → Place → Place → List ℕ → Brief
  deliver : ℕ → Place → Place → List ℕ → Brief
  complete : ℕ → Brief
  crash : ℕ → ℕ → Brief
  turn : ℕ → Brief
  access : ℕ → Brief
  other : Brief

abbrev pub brief : Event → Brief
brief (Send m) = send m.op.0 m.from m.to (kind_of m.body)
brief (Deliver m) = deliver m.op.0 m.from m.to (kind_of m.body)
brief (Complete op) = complete op.0
brief (Crash m inc) = crash m.0 inc
brief (Turn number pid) = turn number
brief (Access cpu pid address kind bytes) = access address
brief (Fill pid address bytes) = other
brief (Drop cpu pid line) = other
brief (Out stream bytes) = other

abbrev pub briefs : List Event → List Brief
briefs [] = []
briefs (e ∷ es) = brief e ∷ briefs es

abbrev pub pid1 : Pid
pid1 = record { 0 = 1 }

abbrev pub cpu0 : Place
cpu0 = Processor (record { 0 = 0 })

abbrev pub mem : ℕ → MemId
mem n = record { 0 = n }

abbrev pub region : ℕ → RegionNo
region n = record { 0 = n }

abbrev pub home : ℕ → ℕ → HomeEntry
home r m = record { pid = pid1; region = region r; owner = mem m }

-- THE FIRST RUN: three memories, and a program of one page of code, whose words are at 0x10078

abbrev three : Shape
three = record {
  frames = 4096 ∷ 4096 ∷ 4096 ∷ [];
  log = 256;
  blocks = 16384;
  cache_blocks = 64;
  processors = 2;
  sets = 64;
  ways = 4;
  placement = mem 0 ∷ mem 1 ∷ mem 2 ∷ [];
  deliveries = 0 ∷ [];
  crashes = [];
}

abbrev pub code_areas : List Area
code_areas = record { first = record { 0 = 16 }; pages = 1; perms = record { 0 = 5 } } ∷ []

abbrev stack_areas : List Area
stack_areas = record { first = record { 0 = 67108592 }; pages = 256; perms = record { 0 = 3 } } ∷ []

-- the code's word at 0x10078 and the ones before it
abbrev code : List ℕ
code = replicate 120 0 ++ 0x13 ∷ 0x05 ∷ 0x10 ∷ 0x00 ∷ []

abbrev code_patch : Patch
code_patch = record { pid = pid1; vpn = record { 0 = 16 }; off = 0; bytes = code }

abbrev stack_patch : Patch
stack_patch = record { pid = pid1; vpn = record { 0 = 67108847 }; off = 4088; bytes = 1 ∷ 0 ∷ [] }

-- booting, and the first fetch
abbrev boot_marks : List Mark
boot_marks =
    Show (Turn 0 (record { 0 = 0 }))
    ∷ Call (record (order Manager (SetsHome pid1 (region 0) (mem 0))) { owners = home 0 0 ∷ home 131071 1 ∷ [] })
    ∷ Call (order Manager (SetsHome pid1 (region 131071) (mem 1)))
    ∷ Call (order Manager (SetsAreas pid1 (region 0) code_areas (mem 0)))
    ∷ Call (order Manager (SetsAreas pid1 (region 131071) stack_areas (mem 1)))
    ∷ Show (Fill pid1 0x10000 code)
    ∷ Call (order Manager (Writes origin.Fill code_patch (mem 0)))
    ∷ Show (Fill pid1 (67108847 * 4096 + 4088) (1 ∷ 0 ∷ []))
    ∷ Call (order Manager (Writes origin.Fill stack_patch (mem 1)))
    ∷ Show (Turn 1 pid1)
    ∷ Call (order cpu0 (Finds pid1 (region 0)))
    ∷ Call (order cpu0 (Reads pid1 (record { 0 = 1025 }) (mem 0)))
    ∷ Show (Access (record { 0 = 0 }) pid1 0x10078 Fetch (0x13 ∷ 0x05 ∷ 0x10 ∷ 0x00 ∷ []))
    ∷ []

-- the first turn begins with the seventh operation, and the fetch stands after the line is there
first_fetch : drop 57 (briefs (played 77 (start three boot_marks))) ≡
    turn 1
    ∷ send 7 cpu0 (memory 1) (codes "Find")
    ∷ deliver 7 cpu0 (memory 1) (codes "Find")
    ∷ send 7 (memory 1) cpu0 (codes "OwnerIs")
    ∷ deliver 7 (memory 1) cpu0 (codes "OwnerIs")
    ∷ complete 7
    ∷ send 8 cpu0 (memory 0) (codes "Read")
    ∷ deliver 8 cpu0 (memory 0) (codes "Read")
    ∷ send 8 (memory 0) cpu0 (codes "Line")
    ∷ deliver 8 (memory 0) cpu0 (codes "Line")
    ∷ complete 8
    ∷ access 0x10078
    ∷ []
first_fetch = refl

-- all that was due came
first_run_ends : next (run (start three boot_marks) (played 77 (start three boot_marks))) ≡ None
first_run_ends = refl

-- and the byte that was fetched is that of the plain map
first_run_bytes : byte_at (run (start three boot_marks) (played 77 (start three boot_marks))).plain 1 0x10078 ≡ 0x13
first_run_bytes = refl

-- TWO WRITES INTO A LOG OF ONE PATCH: two memories, the owner is memory 0

abbrev pub two : List ℕ → List CrashAt → Shape
two deliveries crashes = record {
  frames = 64 ∷ 64 ∷ [];
  log = 1;
  blocks = 16;
  cache_blocks = 1;
  processors = 1;
  sets = 1;
  ways = 1;
  placement = mem 0 ∷ mem 1 ∷ [];
  deliveries = deliveries;
  crashes = crashes;
}

abbrev pub byte_patch : ℕ → Patch
byte_patch byte = record { pid = pid1; vpn = record { 0 = 16 }; off = 0; bytes = byte ∷ [] }

abbrev pub map_marks : List Mark → List Mark
map_marks due =
    Show (Turn 0 (record { 0 = 0 }))
    ∷ Call (record (order Manager (SetsHome pid1 (region 0) (mem 0))) { owners = home 0 0 ∷ [] })
    ∷ Call (order Manager (SetsAreas pid1 (region 0) code_areas (mem 0)))
    ∷ due

abbrev pub fill_marks : ℕ → List Mark → List Mark
fill_marks byte due = Show (Fill pid1 0x10000 (byte ∷ [])) ∷ Call (order Manager (Writes origin.Fill (byte_patch byte) (mem 0))) ∷ due

-- which of the pending messages 2519 picks: the newest of up to ten
abbrev newest : List ℕ
newest = 2519 ∷ []

abbrev pub two_fills : Track
two_fills = start (two newest []) (map_marks (fill_marks 7 (fill_marks 8 [])))

-- The first patch fills the log, and its batch goes out at once. The second one finds no room: a drain is asked
-- for, and the patch is sent again once storage has the batch.
full_log : drop 31 (briefs (played 90 two_fills)) ≡
    send 4 Manager (memory 1) (codes "LogWrite")
    ∷ send 4 Manager (memory 0) (codes "Write")
    ∷ deliver 4 Manager (memory 0) (codes "Write")
    ∷ send 4 (memory 0) Manager (codes "Wrote")
    ∷ deliver 4 (memory 0) Manager (codes "Wrote")
    ∷ deliver 4 Manager (memory 1) (codes "LogWrite")
    ∷ send 4 (memory 1) Manager (codes "LogFull")
    ∷ deliver 4 (memory 1) Manager (codes "LogFull")
    ∷ send 4 Manager (memory 1) (codes "Drain")
    ∷ deliver 4 Manager (memory 1) (codes "Drain")
    ∷ deliver 0 (memory 1) Storage (codes "Backup")
    ∷ send 0 Storage (memory 1) (codes "BackedUp")
    ∷ deliver 0 Storage (memory 1) (codes "BackedUp")
    ∷ send 4 (memory 1) Manager (codes "Drained")
    ∷ deliver 4 (memory 1) Manager (codes "Drained")
    ∷ send 4 Manager (memory 1) (codes "LogWrite")
    ∷ deliver 4 Manager (memory 1) (codes "LogWrite")
    ∷ send 0 (memory 1) Storage (codes "Backup")
    ∷ send 4 (memory 1) Manager (codes "Wrote")
    ∷ deliver 4 (memory 1) Manager (codes "Wrote")
    ∷ complete 4
    ∷ []
full_log = refl

-- A CRASH OF THE SECONDARY BETWEEN A LOGWRITE AND ITS ANSWER: after the ninth delivery, with what it sends

abbrev pub crash_after : ℕ → ℕ → List CrashAt
crash_after deliveries m = record { turn = 0; after = deliveries; memory = mem m } ∷ []

abbrev pub one_fill : List CrashAt → Track
one_fill crashes = start (two (0 ∷ []) crashes) (map_marks (fill_marks 7 []))

-- The batch and the answer are lost with the memory. The manager's moves follow, the owner's answer comes between
-- them, and then the write is sent again, to both.
healed_write : drop 22 (briefs (played 120 (one_fill (crash_after 9 1)))) ≡
    deliver 3 Manager (memory 1) (codes "LogWrite")
    ∷ send 0 (memory 1) Storage (codes "Backup")
    ∷ send 3 (memory 1) Manager (codes "Wrote")
    ∷ crash 1 1
    ∷ send 4 Manager (memory 0) (codes "Drain")
    ∷ deliver 3 Manager (memory 0) (codes "Write")
    ∷ send 3 (memory 0) Manager (codes "Wrote")
    ∷ deliver 4 Manager (memory 0) (codes "Drain")
    ∷ send 4 (memory 0) Manager (codes "Drained")
    ∷ deliver 3 (memory 0) Manager (codes "Wrote")
    ∷ deliver 4 (memory 0) Manager (codes "Drained")
    ∷ complete 4
    ∷ send 5 Manager (memory 0) (codes "PullMeta")
    ∷ deliver 5 Manager (memory 0) (codes "PullMeta")
    ∷ send 5 (memory 0) Manager (codes "Meta")
    ∷ deliver 5 (memory 0) Manager (codes "Meta")
    ∷ complete 5
    ∷ send 6 Manager (memory 1) (codes "PushMeta")
    ∷ deliver 6 Manager (memory 1) (codes "PushMeta")
    ∷ send 6 (memory 1) Manager (codes "Done")
    ∷ deliver 6 (memory 1) Manager (codes "Done")
    ∷ complete 6
    ∷ send 7 Manager (memory 0) (codes "PullMeta")
    ∷ deliver 7 Manager (memory 0) (codes "PullMeta")
    ∷ send 7 (memory 0) Manager (codes "Meta")
    ∷ deliver 7 (memory 0) Manager (codes "Meta")
    ∷ complete 7
    ∷ send 8 Manager (memory 1) (codes "PushMeta")
    ∷ deliver 8 Manager (memory 1) (codes "PushMeta")
    ∷ send 8 (memory 1) Manager (codes "Done")
    ∷ deliver 8 (memory 1) Manager (codes "Done")
    ∷ complete 8
    ∷ send 9 Manager (memory 0) (codes "PullPages")
    ∷ deliver 9 Manager (memory 0) (codes "PullPages")
    ∷ send 9 (memory 0) Manager (codes "Images")
    ∷ deliver 9 (memory 0) Manager (codes "Images")
    ∷ complete 9
    ∷ send 10 Manager Storage (codes "ResetImages")
    ∷ deliver 10 Manager Storage (codes "ResetImages")
    ∷ send 10 Storage Manager (codes "Done")
    ∷ deliver 10 Storage Manager (codes "Done")
    ∷ complete 10
    ∷ send 3 Manager (memory 1) (codes "LogWrite")
    ∷ send 3 Manager (memory 0) (codes "Write")
    ∷ deliver 3 Manager (memory 1) (codes "LogWrite")
    ∷ send 0 (memory 1) Storage (codes "Backup")
    ∷ send 3 (memory 1) Manager (codes "Wrote")
    ∷ deliver 3 Manager (memory 0) (codes "Write")
    ∷ send 3 (memory 0) Manager (codes "Wrote")
    ∷ deliver 0 (memory 1) Storage (codes "Backup")
    ∷ send 0 Storage (memory 1) (codes "BackedUp")
    ∷ deliver 3 (memory 1) Manager (codes "Wrote")
    ∷ deliver 3 (memory 0) Manager (codes "Wrote")
    ∷ complete 3
    ∷ []
healed_write = refl

-- and the page has the byte: at its owner, and in the plain map
healed_byte : byte_at (run (one_fill (crash_after 9 1)) (played 120 (one_fill (crash_after 9 1)))).plain 1 0x10000 ≡ 7
healed_byte = refl

-- REFUSED: at each of these points another event may come, and not the one that a wrong body would show

-- one byte is filled in; the first so many events of it
abbrev pub filling : ℕ → Track
filling n = run (one_fill []) (played n (one_fill []))

abbrev pub log_write : Message
log_write = record { from = Manager; to = memory 1; op = record { 0 = 3 }; body = body.LogWrite (byte_patch 7) }

abbrev write : Message
write = record { from = Manager; to = memory 0; op = record { 0 = 3 }; body = body.Write (byte_patch 7) }

abbrev pub wrote : Message
wrote = record { from = memory 1; to = Manager; op = record { 0 = 3 }; body = body.Wrote }

abbrev pub op3 : OpNo
op3 = record { 0 = 3 }

-- the length of a kind's name tells these messages apart
abbrev name_length : Message → ℕ
name_length m = length (kind_of m.body)

abbrev picked_length : Option Message → ℕ
picked_length None = 0
picked_length (Some m) = name_length m

-- the list by itself is as it should be: these events may come where they come
log_write_first : May (filling 20) (Send log_write)
log_write_first = (refl, (refl, refl, refl, refl))

oldest_first : May (filling 22) (Deliver log_write)
oldest_first = record { owed = refl; waiting = refl; calm = refl; chosen = refl }

complete_at_last : May (filling 31) (Complete op3)
complete_at_last = record { owed = refl; goes_on = refl; complete = refl }

-- the owner's message before the secondary's
send_out_of_order : May (filling 20) (Send write) → ⊥
send_out_of_order may =
    let same : 5 ≡ 8 = ap name_length may.1.0 in
    omega (arith, same)

-- the answer before the batch that goes out with it
answer_before_backup : May (filling 23) (Send wrote) → ⊥
answer_before_backup may =
    let same : 5 ≡ 6 = ap name_length may in
    omega (arith, same)

-- a pending message that the delivery list doesn't pick
wrong_pick : May (filling 22) (Deliver write) → ⊥
wrong_pick may =
    let same : 8 ≡ 5 = ap picked_length may.chosen in
    omega (arith, same)

-- a completion one delivery too early: the owner's answer is still pending
complete_too_early : May (filling 30) (Complete op3) → ⊥
complete_too_early may =
    let early : None ≡ Some op3 = may.complete in
    cc early

-- a delivery where the completion is due
delivery_too_late : (m : Message) → May (filling 31) (Deliver m) → ⊥
delivery_too_late m may =
    let late : false ≡ true = may.calm in
    cc late

-- The secondary crashes once its answer was delivered, and the owner's answer is delivered then: each has answered,
-- but the secondary not since its crash.
abbrev crashing : ℕ → Track
crashing n = run (one_fill (crash_after 12 1)) (played n (one_fill (crash_after 12 1)))

answer_before_crash : May (crashing 33) (Complete op3) → ⊥
answer_before_crash may =
    let early : None ≡ Some op3 = may.complete in
    cc early

both_answered : drop 29 (briefs (played 33 (one_fill (crash_after 12 1)))) ≡
    deliver 3 (memory 1) Manager (codes "Wrote")
    ∷ crash 1 1
    ∷ send 4 Manager (memory 0) (codes "Drain")
    ∷ deliver 3 (memory 0) Manager (codes "Wrote")
    ∷ []
both_answered = refl

-- a crash one delivery too early, and one where the list has none
crash_too_early : May (crashing 27) (Crash (mem 1) 1) → ⊥
crash_too_early may =
    let early : false ≡ true = may.moment in
    cc early

crash_of_no_entry : May (filling 30) (Crash (mem 1) 1) → ⊥
crash_of_no_entry may = may.entry

-- a fetch of a line that no read brought
fetch_without_line : May (start three (Show (Access (record { 0 = 0 }) pid1 0x10078 Fetch (1 ∷ [])) ∷ [])) (Access (record { 0 = 0 }) pid1 0x10078 Fetch (1 ∷ [])) → ⊥
fetch_without_line may = may.1

-- an operation that isn't called for
write_not_called_for : May (start three []) (Send write) → ⊥
write_not_called_for may = may.1

-- LEGAL: each event of these lists may come where it stands

legal_fill : Legal (one_fill []) (played 60 (one_fill []))
legal_fill = played-is-legal 60 (one_fill []) refl

legal_full_log : Legal two_fills (played 90 two_fills)
legal_full_log = played-is-legal 90 two_fills refl

legal_healing : Legal (one_fill (crash_after 9 1)) (played 120 (one_fill (crash_after 9 1)))
legal_healing = played-is-legal 120 (one_fill (crash_after 9 1)) refl

legal_first_run : Legal (start three boot_marks) (played 77 (start three boot_marks))
legal_first_run = played-is-legal 77 (start three boot_marks) refl
