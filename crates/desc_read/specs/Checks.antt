-- What a field's value may be: whole numbers within limits, texts of three rules, and lists of these. A value of another
-- kind is distinguished from one that is out of range.
use Rattle.std.specs.Prelude.{ℕ, ◌+◌, Bool, true, false, not, ◌&&◌, ◌==◌, nat_le, if◌then◌else◌, List, [], ◌∷◌, map, length, Option, Some, None, Result, Ok, Err, codes, bytes_eq, sum_by}
use Rattle.std.specs.List.{list_any}
use Rattle.serde_json.specs.Data.{Num, unsigned, negative, float, Data, Items, no_items, item}
use Rattle.serde_json.specs.Find.{as_number, as_str, as_array}
use Rattle.desc_read.specs.declared.fault.Flaw.{Flaw}
use Rattle.desc_read.specs.declared.fault.Flaw.TheVariants.{WrongKind, OutOfRange}
use Rattle.desc_read.specs.declared.texts.TextRule.{TextRule}
use Rattle.desc_read.specs.declared.texts.TextRule.TheVariants.{Argument, DepotName, FileName}

-- whether a number is from low to high
abbrev pub is_within : ℕ → ℕ → ℕ → Bool
is_within low high n = nat_le low n && nat_le n high

-- what a check finds in a value of its kind
abbrev pub of_kind : {A B : Type 0} → (A → Result B Flaw) → Option A → Result B Flaw
of_kind check None = Err WrongKind
of_kind check (Some a) = check a

-- ---- numbers

abbrev pub number_in : ℕ → ℕ → Num → Result ℕ Flaw
number_in low high (unsigned n) = if is_within low high n then Ok n else Err OutOfRange
number_in low high (negative z) = Err OutOfRange
number_in low high (float x) = Err WrongKind

-- A whole number from low to high. A number of JSON that isn't an integer of 64 bits is of another kind.
unfoldable pub number : ℕ → ℕ → Data → Result ℕ Flaw
number low high d = of_kind (number_in low high) (as_number d)

-- ---- texts

abbrev pub has_byte : ℕ → List ℕ → Bool
has_byte byte s = list_any (λ b. b == byte) s

-- the name of an object in the depot: 1 to 255 bytes, none of them 0
abbrev pub is_depot_name : List ℕ → Bool
is_depot_name s = is_within 1 255 (length s) && not (has_byte 0 s)

-- An argument has no byte 0. A file's name could be a depot's name, has no `/`, and is neither `.` nor `..`.
abbrev pub allows : TextRule → List ℕ → Bool
allows Argument s = not (has_byte 0 s)
allows DepotName s = is_depot_name s
allows FileName s = is_depot_name s && not (has_byte 47 s) && not (bytes_eq s (codes ".")) && not (bytes_eq s (codes ".."))

unfoldable pub text : TextRule → Data → Result (List ℕ) Flaw
text rule d = of_kind (λ s. if allows rule s then Ok s else Err OutOfRange) (as_str d)

-- the bytes of texts, a closing 0 counted for each
abbrev pub bytes_of : List (List ℕ) → ℕ
bytes_of texts = sum_by (λ s. length s + 1) texts

-- whether arguments and environment have room: 65536 bytes together
abbrev pub fit : List (List ℕ) → List (List ℕ) → Bool
fit args env = nat_le (bytes_of args + bytes_of env) 65536

-- ---- lists

abbrev pub data_of : Items → List Data
data_of no_items = []
data_of (item d ds) = d ∷ data_of ds

abbrev pub is_wrong_kind : {A : Type 0} → Result A Flaw → Bool
is_wrong_kind (Ok a) = false
is_wrong_kind (Err WrongKind) = true
is_wrong_kind (Err OutOfRange) = false

abbrev pub is_out_of_range : {A : Type 0} → Result A Flaw → Bool
is_out_of_range (Ok a) = false
is_out_of_range (Err WrongKind) = false
is_out_of_range (Err OutOfRange) = true

abbrev pub values : {A : Type 0} → List (Result A Flaw) → List A
values [] = []
values (Ok a ∷ rest) = a ∷ values rest
values (Err flaw ∷ rest) = values rest

-- The values of a list's items. An item of a wrong kind comes before a count or an item that is out of range.
abbrev pub all_of : {A : Type 0} → Bool → List (Result A Flaw) → Result (List A) Flaw
all_of fits items =
    if list_any is_wrong_kind items then Err WrongKind else (if fits && not (list_any is_out_of_range items) then Ok (values items) else Err OutOfRange)

-- a list of least to most values that pass this check
unfoldable pub list_of : {A : Type 0} → ℕ → ℕ → (Data → Result A Flaw) → Data → Result (List A) Flaw
list_of least most check d = of_kind (λ items. all_of (is_within least most (length (data_of items))) (map check (data_of items))) (as_array d)

-- a list of at most `most` values of any kind
unfoldable pub list_up_to : ℕ → Data → Result (List Data) Flaw
list_up_to most d = of_kind (λ items. if nat_le (length (data_of items)) most then Ok (data_of items) else Err OutOfRange) (as_array d)
