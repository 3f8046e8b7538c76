-- What is refused, and where.
use Rattle.std.specs.Prelude.{◌≡◌, ℕ, ◌++◌, List, Option, Some, None, Result, Ok, Err, codes, decimal}
use Rattle.desc_read.specs.declared.fault.Flaw.{Flaw}
use Rattle.desc_read.specs.declared.fault.Flaw.TheVariants.{WrongKind, OutOfRange}
use Rattle.desc_read.specs.declared.fault.DescKind.{DescKind}
use Rattle.desc_read.specs.declared.fault.DescKind.TheVariants.{Syntax, Object, Unknown, Absent, Kind, Range}
use Rattle.desc_read.specs.declared.fault.DescFault.{DescFault}
use Rattle.desc_read.specs.declared.fault.DescFault.TheVariants.{Bad, NoMemory}
use Rattle.desc_read.specs.declared.place.EntryList.{EntryList}
use Rattle.desc_read.specs.declared.place.EntryList.TheVariants.{Crashes, Files}
use Rattle.desc_read.specs.declared.place.Entry.{Entry}

-- a kind as it is printed
abbrev pub word_of : DescKind → List ℕ
word_of Syntax = codes "syntax"
word_of Object = codes "object"
word_of Unknown = codes "unknown"
word_of Absent = codes "absent"
word_of Kind = codes "kind"
word_of Range = codes "range"

-- the kind of a flaw in a field's value
abbrev pub kind_of : Flaw → DescKind
kind_of WrongKind = Kind
kind_of OutOfRange = Range

-- the fault of a description, and where it is
pub record Refusal : Type 0 where
  pub kind : DescKind
  pub place : List ℕ

abbrev pub refused : {A : Type 0} → DescKind → List ℕ → Result A Refusal
refused kind place = Err (record { kind = kind; place = place })

-- ---- places

abbrev pub list_name : EntryList → List ℕ
list_name Crashes = codes "crashes"
list_name Files = codes "files"

-- an entry's place, as `crashes[1]`
abbrev pub entry_place : Entry → List ℕ
entry_place entry = list_name entry.list ++ codes "[" ++ decimal entry.index ++ codes "]"

-- the place of an object: the description itself is at `.`
abbrev pub object_place : Option Entry → List ℕ
object_place None = codes "."
object_place (Some entry) = entry_place entry

-- the place of a field: its name, or as `crashes[1].turn`
abbrev pub field_place : Option Entry → List ℕ → List ℕ
field_place None name = name
field_place (Some entry) name = list_name entry.list ++ codes "[" ++ decimal entry.index ++ codes "]." ++ name

-- ---- answers of calls

-- A call fails with the first refusal, unless memory ran out.
abbrev pub Fails : {A : Type 0} → DescFault → Result A Refusal → Type 0
Fails (Bad kind place) want = want ≡ refused kind place
Fails NoMemory want = Unit {0}

-- A call gives the value that the definition gives, or fails with its refusal. Only running out of memory may replace
-- either.
abbrev pub Gives : {A : Type 0} → Result A DescFault → Result A Refusal → Type 0
Gives (Ok a) want = want ≡ Ok a
Gives (Err fault) want = Fails fault want

-- the same, where the value is f of what the call gives
abbrev pub GivesAs : {X A : Type 0} → (X → A) → Result X DescFault → Result A Refusal → Type 0
GivesAs f (Ok x) want = want ≡ Ok (f x)
GivesAs f (Err fault) want = Fails fault want

-- a fault of this kind at this place, unless memory ran out
abbrev pub IsFault : DescKind → List ℕ → DescFault → Type 0
IsFault want place (Bad kind found) = (kind ≡ want) × (found ≡ place)
IsFault want place NoMemory = Unit {0}
