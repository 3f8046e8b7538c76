-- Worked rows of the definition.
use Rattle.std.proofs.Common.{◌≡◌, ℕ, [], ◌∷◌, List, Ok, codes, refl, negsuc}
use Rattle.std.specs.Fmt.{digits}
use Rattle.std.specs.Int.Count.{ones}
use Rattle.serde_json.specs.Data as json
use Rattle.desc_read.specs.declared.fault.DescKind.TheVariants.{Object, Unknown, Absent, Kind, Range}
use Rattle.desc_read.specs.Faults.{refused}
use Rattle.desc_read.specs.Checks.{number, text, list_of, list_up_to}
use Rattle.desc_read.specs.Objects.{field, in_range, object}
use Rattle.desc_read.specs.Plans.{memory, machine_of, crash_of, crashes_of, schedule_of, file_of, files_of, program_of, plan_of}

abbrev natural : ℕ → json.Data
natural n = json.number (json.unsigned n)

abbrev words : List ℕ → json.Data
words s = json.string s

-- the required fields with other ones, in the order of their names: before init, between init and report, and after
abbrev with_fields : (json.Members → json.Members) → (json.Members → json.Members) → json.Data
with_fields first last = json.object (json.member (codes "archive") (words (codes "a")) (first (json.member (codes "init") (words (codes "i")) (json.member (codes "report") (words (codes "r")) (last (json.member (codes "version") (natural 1) json.no_members))))))

abbrev nothing : json.Members → json.Members
nothing members = members

-- the required fields alone give every default
all_defaults : plan_of (with_fields nothing nothing) ≡ Ok (record {
  shape = record { frames = 4096 ∷ 4096 ∷ 4096 ∷ []; log = 256; blocks = 16384; cache_blocks = 64; processors = 2; sets = 64; ways = 4; placement = memory 0 ∷ memory 1 ∷ memory 2 ∷ []; deliveries = 0 ∷ []; crashes = [] };
  turns = 0 ∷ [];
  quantum = 1000;
  max_turns = 1000000;
  init = codes "i";
  args = codes "i" ∷ [];
  env = [];
  files = [];
  report = codes "r";
  archive = codes "a";
})
unfolding plan_of machine_of schedule_of crashes_of program_of files_of field in_range object number text ones digits
all_defaults = refl

abbrev crash_at : ℕ → json.Data
crash_at turn = json.object (json.member (codes "after") (natural 0) (json.member (codes "memory") (natural 0) (json.member (codes "turn") (natural turn) json.no_members)))

-- a crash, a string of the environment and a file
abbrev one_of_each : json.Members → json.Members
one_of_each rest =
    json.member (codes "crashes") (json.array (json.item (json.object (json.member (codes "after") (natural 1) (json.member (codes "memory") (natural 2) (json.member (codes "turn") (natural 3) json.no_members)))) json.no_items))
    (json.member (codes "env") (json.array (json.item (words (codes "A=1")) json.no_items))
    (json.member (codes "files") (json.array (json.item (json.object (json.member (codes "from") (words (codes "f")) (json.member (codes "path") (words (codes "p")) json.no_members))) json.no_items)) rest))

lists_are_read : plan_of (with_fields one_of_each nothing) ≡ Ok (record {
  shape = record { frames = 4096 ∷ 4096 ∷ 4096 ∷ []; log = 256; blocks = 16384; cache_blocks = 64; processors = 2; sets = 64; ways = 4; placement = memory 0 ∷ memory 1 ∷ memory 2 ∷ []; deliveries = 0 ∷ []; crashes = record { turn = 3; after = 1; memory = memory 2 } ∷ [] };
  turns = 0 ∷ [];
  quantum = 1000;
  max_turns = 1000000;
  init = codes "i";
  args = codes "i" ∷ [];
  env = codes "A=1" ∷ [];
  files = record { path = codes "p"; from = codes "f" } ∷ [];
  report = codes "r";
  archive = codes "a";
})
unfolding plan_of machine_of schedule_of crashes_of crash_of program_of files_of file_of field in_range object number text list_of list_up_to ones digits
lists_are_read = refl

-- the second of two crashes isn't later than the first
same_turn : plan_of (with_fields (json.member (codes "crashes") (json.array (json.item (crash_at 5) (json.item (crash_at 5) json.no_items)))) nothing) ≡ refused Range (codes "crashes[1].turn")
unfolding plan_of machine_of schedule_of crashes_of crash_of field in_range object number list_up_to ones digits
same_turn = refl

-- a list of turns has one at least
no_turns : plan_of (with_fields nothing (json.member (codes "turns") (json.array json.no_items))) ≡ refused Range (codes "turns")
unfolding plan_of machine_of schedule_of field in_range object number list_of ones digits
no_turns = refl

-- an item of a wrong kind comes before one that is out of range
kind_first : plan_of (with_fields nothing (json.member (codes "turns") (json.array (json.item (json.number (json.negative (negsuc 0))) (json.item json.null json.no_items))))) ≡ refused Kind (codes "turns")
unfolding plan_of machine_of schedule_of field in_range object number list_of ones digits
kind_first = refl

-- a name that isn't known comes before a field that is absent
unknown_first : plan_of (json.object (json.member (codes "zy") json.null (json.member (codes "zz") json.null json.no_members))) ≡ refused Unknown (codes "zy")
unfolding plan_of object
unknown_first = refl

-- nothing else than an object
no_object : plan_of json.null ≡ refused Object (codes ".")
unfolding plan_of object
no_object = refl

empty_object : plan_of (json.object json.no_members) ≡ refused Absent (codes "version")
unfolding plan_of machine_of object field
empty_object = refl
