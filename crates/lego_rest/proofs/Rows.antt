-- Worked moments of the relations, by computation: what they hold, and strange states that they refuse.
use Rattle.std.proofs.Common.{◌≡◌, ◌<◌, ◌≤◌, [], ◌∷◌, ℕ, List, None, Option, Some, ap, arith, codes, false, inl, inr, is_some, length, refl, slice_get, true}
use Rattle.lego_base.specs.Pieces.{zeros}
use Rattle.lego_base.specs.declared.ids.MemId.{MemId}
use Rattle.lego_base.specs.declared.records.PageImage.{PageImage}
use Rattle.lego_base.specs.declared.shape.CrashAt.{CrashAt}
use Rattle.lego_base.specs.declared.shape.Shape.{Shape}
use Rattle.lego_msg.proofs.MoreRows.{begun_with, file0, unmap_marks}
use Rattle.lego_msg.proofs.Rows.{byte_patch, code_areas, cpu0, fill_marks, filling, home, map_marks, mem, pid1, region, two, wrote}
use Rattle.lego_msg.proofs.Senders.{same_some}
use Rattle.lego_msg.specs.Deliveries.{reacts}
use Rattle.lego_msg.specs.Files.{Files, no_files}
use Rattle.lego_msg.specs.Granted.{IsClear, IsThere, OpFits}
use Rattle.lego_msg.specs.Kinds.{kind_of}
use Rattle.lego_msg.specs.Marks.{Call, Mark, order}
use Rattle.lego_msg.specs.Next.{fits, played}
use Rattle.lego_msg.specs.Places.{memory, secondary_of}
use Rattle.lego_msg.specs.Plain.{Plain, no_plain, touched, with_region}
use Rattle.lego_msg.specs.Run.{run}
use Rattle.lego_msg.specs.State.{Block, Mem, empty_mem}
use Rattle.lego_msg.specs.Table.{backup, says}
use Rattle.lego_msg.specs.Track.{Track, again, opened, start}
use Rattle.lego_msg.specs.declared.body.Body.{Body}
use Rattle.lego_msg.specs.declared.message.Message.{Message}
use Rattle.lego_msg.specs.declared.operation.Operation.TheVariants.{Drains, Drops, Heals, ReadsFile, Unmaps, Writes}
use Rattle.lego_msg.specs.declared.place.Place.{Place}
use Rattle.lego_msg.specs.declared.place.Place.TheVariants.{Manager, Memory, Storage}
use Rattle.lego_rest.proofs.Resting.{holds, rests}
use Rattle.lego_rest.specs.Answers.{all_pending, answers_to, is_storage_asked}
use Rattle.lego_rest.specs.Fits.{BatchFits, BlockFits, CrashesRise, IsRequest, MachineFits, PlainFits, batch_message, receipt}
use Rattle.lego_rest.specs.Heals.{NumbersDiffer}
use Rattle.lego_rest.specs.Parts.{Home, Page, main_part, second_part}
use Rattle.lego_rest.specs.Pending.{AnAnswer, First, Goes, HandedOn, HandsOn, IsBatch, Left, OfBackground, OfMove, OfOpen, OfOperation, Pends, Reaction, Returns, Says}
use Rattle.lego_rest.specs.Rest.{MemHolds, MemRests, SecondHolds}
use Rattle.lego_msg.specs.declared.body.Body.TheVariants as body
use Rattle.lego_msg.specs.declared.operation.Origin.TheVariants as origin
use Rattle.lego_msg.specs.declared.place.Why.TheVariants as why

abbrev none_held : Mem
none_held = empty_mem 0 0 0 0 0

abbrev mem_in : Option Mem → Mem
mem_in None = none_held
mem_in (Some s) = s

abbrev at_place : Track → ℕ → Mem
at_place t m = mem_in (slice_get t.mems m)

-- A BATCH BETWEEN ITS START AND ITS SEND: a LogWrite was delivered, and the Backup is still to be sent

abbrev starting : Track
starting = filling 23

batch_is_owed : starting.owed ≡ backup (record (at_place starting 1) { out = 1 }) ∷ wrote ∷ []
batch_is_owed = refl

-- it is on its way all the same, since what is owed is pending
batch_fits : BatchFits (all_pending starting) starting.disk.images (at_place starting 1)
batch_fits = record {
  none = λ out. let one : 1 ≡ 0 = out in absurd (omega (arith, one));
  once = λ some. inl refl;
  within = omega arith;
  waits = λ some. let none : 0 < 0 = some in absurd (omega (arith, none));
}

-- and it wouldn't be in the net alone
batch_is_not_sent : BatchFits starting.net starting.disk.images (at_place starting 1) → ⊥
batch_is_not_sent fits = elim (fits.once (omega arith)) [
  | inl e ↦ let no : [] ≡ batch_message (at_place starting 1) ∷ [] = e in cc no
  | inr e ↦ let no : [] ≡ receipt (at_place starting 1) ∷ [] = e.0 in cc no
]

-- AN UNMAPPING: the owner has answered, so the page isn't there any more

abbrev unmapping : ℕ → Track
unmapping n = run (begun_with (unmap_marks [])) (played n (begun_with (unmap_marks [])))

page_is_gone : main_part (at_place (unmapping 45) 0) (Page 1 16) ≡ None
page_is_gone = refl

abbrev zero_page : PageImage
zero_page = record { pid = pid1; vpn = record { 0 = 16 }; bytes = zeros 4096 }

-- a page of zeros that is left has the bytes that an absent page reads, and is refused all the same
zeros_are_left : MemHolds (unmapping 45) 0 (record (at_place (unmapping 45) 0) { pages = zero_page ∷ [] }) → ⊥
zeros_are_left holds = let left : Some (zeros 4096) ≡ None = holds.part.told (Page 1 16) refl in cc left

-- before it has answered the page may still be there
page_is_there_before : is_some (main_part (at_place (unmapping 43) 0) (Page 1 16)) ≡ true
page_is_there_before = refl

-- no log has a patch of the page: one would bring it back with its batch
patch_comes_back : IsClear (Unmaps pid1 (region 0) (record { 0 = 16 }) 1 [] (mem 0)) (byte_patch 7 ∷ []) → ⊥
patch_comes_back clear = let in_range : true ≡ false = clear.0 in cc in_range

-- answers of another kind: a full log isn't what storage says of an unmapping
abbrev log_full_from_storage : Message
log_full_from_storage = record { from = Storage; to = cpu0; op = record { 0 = 5 }; body = body.LogFull }

abbrev name_length : Message → ℕ
name_length m = length (kind_of m.body)

not_that_answer : Says 2 (unmapping 45).plain (Unmaps pid1 (region 0) (record { 0 = 16 }) 1 [] (mem 0)) Storage body.LogFull → ⊥
not_that_answer says = let same : 7 ≡ 4 = ap (λ (b : Body). length (kind_of b)) says in omega (arith, same)

storage_says_no_log_full : OfOpen 2 (unmapping 45).plain log_full_from_storage (opened (two (0 ∷ []) []) 5 cpu0 (Unmaps pid1 (region 0) (record { 0 = 16 }) 1 [] (mem 0))) → ⊥
storage_says_no_log_full (First (inl e)) = let same : 7 ≡ 5 = ap name_length e in omega (arith, same)
storage_says_no_log_full (First (inr (inl e))) = let same : 7 ≡ 5 = ap name_length e in omega (arith, same)
storage_says_no_log_full (First (inr (inr (inl e)))) = let same : 7 ≡ 9 = ap name_length e in omega (arith, same)
storage_says_no_log_full (First (inr (inr (inr none)))) = none
storage_says_no_log_full (Reaction from reacts) = reacts
storage_says_no_log_full (HandedOn hands) = hands
storage_says_no_log_full (AnAnswer to among says) = not_that_answer says

-- THE END OF A SPACE: an entry that is left at the home, and one at its secondary

abbrev end_marks : List Mark
end_marks = Call (order cpu0 (Drains (mem 0))) ∷ Call (order cpu0 (Drains (mem 1))) ∷ Call (order cpu0 (Drops pid1)) ∷ []

abbrev ending : ℕ → Track
ending n = run (begun_with end_marks) (played n (begun_with end_marks))

entries_are_gone : main_part (at_place (ending 50) 1) (Home 1 0) ≡ None
entries_are_gone = refl

entry_is_left : MemHolds (ending 50) 1 (record (at_place (ending 50) 1) { main = record { homes = home 0 0 ∷ []; areas = [] } }) → ⊥
entry_is_left holds = let left : Some (mem 0) ≡ None = holds.part.told (Home 1 0) refl in cc left

spare_entry_is_left : SecondHolds (ending 48) 1 (record (at_place (ending 48) 0) { spare = record { homes = home 0 0 ∷ []; areas = [] } }) → ⊥
spare_entry_is_left holds = let left : Some (mem 0) ≡ None = holds.part.told (Home 1 0) refl in cc left

-- A WRITE OF ZEROS makes the page be there: in the plain map, at its owner, and behind the log

abbrev zeroed : Track
zeroed = run (start (two (0 ∷ []) []) (map_marks (fill_marks 0 []))) (played 60 (start (two (0 ∷ []) []) (map_marks (fill_marks 0 []))))

zeros_are_there : touched zeroed.plain 1 16 ≡ true
zeros_are_there = refl

zeros_are_at_the_owner : is_some (main_part (at_place zeroed 0) (Page 1 16)) ≡ true
zeros_are_at_the_owner = refl

zeros_are_at_its_secondary : is_some (second_part zeroed.owners zeroed.disk.images 0 (at_place zeroed 1) (Page 1 16)) ≡ true
zeros_are_at_its_secondary = refl

-- an owner without the page isn't at rest
zeros_are_missing : MemRests zeroed 0 (record (at_place zeroed 0) { pages = [] }) → ⊥
zeros_are_missing rests = let missing : false ≡ true = ap is_some (rests.part (Page 1 16)) in cc missing

-- OWNERS: what is written to another memory than the owner isn't granted, nor has a region without an owner areas

write_elsewhere : OpFits (home 0 0 ∷ []) (filling 20).plain (Writes origin.Fill (byte_patch 7) (mem 1)) → ⊥
write_elsewhere fits = let same : Some 0 ≡ Some 1 = ap number fits.owned in omega (arith, same_some 0 1 same)
  where
    number : Option MemId → Option ℕ
    number None = None
    number (Some o) = Some o.0

areas_without_owner : PlainFits 2 [] (with_region 1 0 code_areas (no_plain (no_files 16))) → ⊥
areas_without_owner fits = let none : code_areas ≡ [] = fits.areas 1 0 refl in cc none

-- FILES: a block that is cached while it is being changed; a file's block on its way to another memory

abbrev cached : Block
cached = record { file = 0; block = 0; bytes = zeros 4096 }

abbrev block_put : Message
block_put = record { from = memory 0; to = Storage; op = record { 0 = 2 }; body = body.BlockPut file0 0 0 (codes "hi") Manager }

cached_while_changed : (files : Files) → BlockFits 2 0 files (block_put ∷ []) cached → ⊥
cached_while_changed files fits = let still : true ≡ false = fits.still in cc still

-- a file numbered like the next one that is made would be taken for that one's blocks
abbrev next_file_there : Files
next_file_there = record (no_files 16) { files = record { file = 0; bytes = [] } ∷ [] }

next_file_is_new : PlainFits 2 [] (no_plain next_file_there) → ⊥
next_file_is_new fits = let below : 0 < 0 = fits.numbers 0 refl in omega (arith, below)

abbrev block_elsewhere : Message
block_elsewhere = record { from = Storage; to = memory 1; op = record { 0 = 3 }; body = body.BlockIs file0 0 0 2 Manager (zeros 4096) }

abbrev number_of_place : Place → ℕ
number_of_place (Memory m) = m.0
number_of_place other = 2

-- file 0 is cached by memory 0
not_handed_on : (f : Plain) → HandsOn 2 f Manager (ReadsFile file0 0 0 2) block_elsewhere → ⊥
not_handed_on f (inl e) = let same : 1 ≡ 2 = ap number_of_place e.1 in omega (arith, same)
not_handed_on f (inr e) = let same : 1 ≡ 0 = ap number_of_place e.1 in omega (arith, same)

-- NUMBER 0 is for batches and their receipts alone
abbrev reset_by_nobody : Message
reset_by_nobody = record { from = Manager; to = Storage; op = record { 0 = 0 }; body = body.ResetImages pid1 (region 0) [] }

reset_is_no_batch : (k : ℕ) → IsBatch reset_by_nobody k → ⊥
reset_is_no_batch k (Goes from to patches is) = let same : 11 ≡ 6 = ap (λ (b : Body). length (kind_of b)) is in omega (arith, same)
reset_is_no_batch k (Returns from to is) = let same : 11 ≡ 8 = ap (λ (b : Body). length (kind_of b)) is in omega (arith, same)

reset_may_not_pend : (f : Plain) → Pends None 2 f None None 1 reset_by_nobody → ⊥
reset_may_not_pend f (OfOperation of) = of
reset_may_not_pend f (OfMove of) = of
reset_may_not_pend f (OfBackground message) = reset_is_no_batch message.of message.batch
reset_may_not_pend f (Left old) = let some : 0 < 0 = old.some in omega (arith, some)

-- ANSWERS: a refusal that doesn't stop the run is one, a full log in a write is none
no_area_answers : answers_to None (body.Refused why.NoArea) ≡ true
no_area_answers = refl

full_stops : answers_to None (body.Refused why.Full) ≡ false
full_stops = refl

log_full_is_no_answer : answers_to (Some (byte_patch 7)) body.LogFull ≡ false
log_full_is_no_answer = refl

-- A MESSAGE TO STORAGE THAT IS SENT AGAIN: storage isn't taken at its earlier word while it is unsent or on its way
asked_again : is_storage_asked [] (Some (again (two (0 ∷ []) []) (opened (two (0 ∷ []) []) 5 cpu0 (Unmaps pid1 (region 0) (record { 0 = 16 }) 1 [] (mem 0))))) ≡ true
asked_again = refl

asked_by_none : is_storage_asked [] (Some (opened (two (0 ∷ []) []) 5 cpu0 (Drains (mem 1)))) ≡ false
asked_by_none = refl

-- A FIRST MESSAGE goes to a memory that is there: a drain of the third memory of two would be pending to nobody
abbrev drain_of : ℕ → Message
drain_of m = record { from = Manager; to = memory m; op = record { 0 = 5 }; body = body.Drain }

drain_of_a_memory : IsRequest 2 (drain_of 1)
drain_of_a_memory = record { there = omega arith; component = refl; changes = λ b. refl }

drain_of_nobody : IsRequest 2 (drain_of 2) → ⊥
drain_of_nobody request = let there : 2 < 2 = request.there in omega (arith, there)

drain_not_granted : IsThere 2 (Drains (mem 2)) → ⊥
drain_not_granted there = let less : 2 < 2 = there in omega (arith, less)

-- A MOVE has another number than the open operation: else one answer would be both's
move_beside : (unsent : List Message) → NumbersDiffer (Some (opened (two (0 ∷ []) []) 5 cpu0 (Drains (mem 1)))) (Some (record (opened (two (0 ∷ []) []) 5 Manager (Heals (memory 1) body.Drain)) { unsent = unsent })) → ⊥
move_beside unsent apart = let both : true ≡ false = apart in cc both

-- THE MACHINE: with one memory a memory would be its own secondary; two crashes of one turn aren't in order
abbrev alone : Shape
alone = record (two (0 ∷ []) []) { frames = 64 ∷ [] }

own_secondary : secondary_of 1 0 ≡ 0
own_secondary = refl

one_memory : MachineFits alone → ⊥
one_memory fits = let two_ : 2 ≤ 1 = fits.two in omega (arith, two_)

abbrev two_at_once : List CrashAt
two_at_once = record { turn = 3; after = 0; memory = mem 0 } ∷ record { turn = 3; after = 5; memory = mem 1 } ∷ []

crashes_of_one_turn : CrashesRise two_at_once → ⊥
crashes_of_one_turn rise = let less : 3 < 3 = rise.0 in omega (arith, less)
