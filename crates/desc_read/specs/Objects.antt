-- One rule for every object, the description and the entries of its lists, and one for every list of entries.
use Rattle.std.specs.Prelude.{ℕ, Bool, if◌then◌else◌, List, [], ◌∷◌, ◌++◌, length, Option, Some, None, Result, Ok, Err, bytes_eq}
use Rattle.std.specs.List.{list_any}
use Rattle.serde_json.specs.Data.{Data, Members, no_members, member}
use Rattle.serde_json.specs.Find.{get, as_object}
use Rattle.desc_read.specs.declared.fault.Flaw.{Flaw}
use Rattle.desc_read.specs.declared.fault.DescKind.TheVariants.{Object, Unknown, Absent, Range}
use Rattle.desc_read.specs.declared.place.EntryList.{EntryList}
use Rattle.desc_read.specs.declared.place.Entry.{Entry}
use Rattle.desc_read.specs.Faults.{Refusal, refused, kind_of, object_place, field_place}

-- the step after a value; a refusal skips it
infixl 10 ◌>>=◌
abbrev pub ◌>>=◌ : {A B : Type 0} → Result A Refusal → (A → Result B Refusal) → Result B Refusal
(Ok a) >>= next = next a
(Err refusal) >>= next = Err refusal

-- ---- fields

-- what a check finds, refused at a place
abbrev pub placed : {A : Type 0} → List ℕ → Result A Flaw → Result A Refusal
placed place (Ok a) = Ok a
placed place (Err flaw) = refused (kind_of flaw) place

-- the value of a field that is absent: its default, where it has one
abbrev pub default : {A : Type 0} → List ℕ → Option A → Result A Refusal
default place (Some a) = Ok a
default place None = refused Absent place

abbrev pub field_of : {A : Type 0} → List ℕ → (Data → Result A Flaw) → Option A → Option Data → Result A Refusal
field_of place check other (Some d) = placed place (check d)
field_of place check other None = default place other

-- the field of an object under a name: what its check gives, else its default
unfoldable pub field : {A : Type 0} → Option Entry → Data → List ℕ → (Data → Result A Flaw) → Option A → Result A Refusal
field entry d name check other = field_of (field_place entry name) check other (get name d)

-- a further condition on a field that was read
unfoldable pub in_range : Option Entry → List ℕ → Bool → Result (Unit {0}) Refusal
in_range entry name good = if good then Ok tt else refused Range (field_place entry name)

-- ---- objects

-- the first name of an object, in byte order, that isn't among the known ones
abbrev pub first_unknown : List (List ℕ) → Members → Option (List ℕ)
first_unknown known no_members = None
first_unknown known (member name d rest) = if list_any (λ k. bytes_eq k name) known then first_unknown known rest else Some name

abbrev pub only_known : Option Entry → Option (List ℕ) → Result (Unit {0}) Refusal
only_known entry None = Ok tt
only_known entry (Some name) = refused Unknown (field_place entry name)

abbrev pub object_of : Option Entry → List (List ℕ) → Option Members → Result (Unit {0}) Refusal
object_of entry known None = refused Object (object_place entry)
object_of entry known (Some members) = only_known entry (first_unknown known members)

-- an object with no other fields than the known ones
unfoldable pub object : Option Entry → List (List ℕ) → Data → Result (Unit {0}) Refusal
object entry known d = object_of entry known (as_object d)

-- ---- entries

-- Entries in order, where the check of one knows those before it.
abbrev pub entries : {A : Type 0} → (List A → Data → Result A Refusal) → List A → List Data → Result (List A) Refusal
entries check found [] = Ok found
entries check found (d ∷ rest) = check found d >>= λ a. entries check (found ++ a ∷ []) rest

-- the place of the entry that comes after those that were found
abbrev pub entry_after : {A : Type 0} → EntryList → List A → Option Entry
entry_after list found = Some (record { list = list; index = length found })
