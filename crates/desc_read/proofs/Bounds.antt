-- What is known of a field's value: a number is in its range, a list has an item, a file's name is short. What is known of
-- entries that are read one after another.
use Rattle.std.proofs.Common.{◌≡◌, ◌≢◌, ℕ, zero, suc, ◌+◌, ◌<◌, ◌≤◌, Bool, true, false, not, ◌&&◌, leb, List, [], ◌∷◌, ◌++◌, map, length, get_or, Option, Some, None, Result, Ok, Err, refl, ap, subst, arith}
use Rattle.std.specs.Prelude.{if◌then◌else◌, codes, bytes_eq, All, AllPairs}
use Rattle.std.specs.List.{list_any}
use Rattle.std.proofs.lemmas.Bool.{leb-true, and_parts, or_parts}
use Rattle.std.proofs.lemmas.List.{length-map}
use Rattle.std.proofs.lemmas.List.Elements.{All-nil, All-push}
use Rattle.std.proofs.lemmas.List.Quantifiers.{all_pairs_push}
use Rattle.std.proofs.lemmas.Slice.Eq.{bytes_eq-Decides}
use Rattle.serde_json.specs.Data.{Num, unsigned, negative, float, Data, Items}
use Rattle.serde_json.specs.Find.{get, as_number, as_str, as_array}
use Rattle.desc_read.specs.declared.fault.Flaw.{Flaw}
use Rattle.desc_read.specs.declared.fault.Flaw.TheVariants.{WrongKind, OutOfRange}
use Rattle.desc_read.specs.declared.place.Entry.{Entry}
use Rattle.desc_read.specs.declared.plan.FileFrom.{FileFrom}
use Rattle.desc_read.specs.declared.texts.TextRule.TheVariants.{FileName}
use Rattle.desc_read.specs.Faults.{Refusal, field_place}
use Rattle.desc_read.specs.Checks.{is_within, of_kind, number_in, number, has_byte, allows, text, data_of, is_wrong_kind, is_out_of_range, values, all_of, list_of, list_up_to}
use Rattle.desc_read.specs.Objects.{◌>>=◌, field, field_of, placed, entries}
use Rattle.desc_read.specs.Plans.{has_path}

-- ---- a field

placed_value : {A : Type 0} (place : List ℕ) (r : Result A Flaw) (a : A) → placed place r ≡ Ok a → r ≡ Ok a
placed_value place (Ok b) a e = cc
placed_value place (Err flaw) a e = absurd cc

field_of_value : {A : Type 0} (P : A → Type 0) (place : List ℕ) (check : Data → Result A Flaw) (other : Option A) (o : Option Data) (a : A)
    → ((v : Data) → check v ≡ Ok a → P a) → (other ≡ Some a → P a) → field_of place check other o ≡ Ok a → P a
field_of_value P place check other (Some v) a there absent e = there v (placed_value place (check v) a e)
field_of_value P place check None None a there absent e = absurd cc
field_of_value P place check (Some b) None a there absent e = absent cc

-- what holds of each value that passes the check, and of the default
pub field_value : {A : Type 0} (P : A → Type 0) (entry : Option Entry) (d : Data) (name : List ℕ) (check : Data → Result A Flaw) (other : Option A) (a : A)
    → ((v : Data) → check v ≡ Ok a → P a) → (other ≡ Some a → P a) → field entry d name check other ≡ Ok a → P a
unfolding field
field_value P entry d name check other a there absent e = field_of_value P (field_place entry name) check other (get name d) a there absent e

-- a value under a condition
passed : {A : Type 0} (good : Bool) (x a : A) → ◌≡◌ {A = Result A Flaw} (if good then Ok x else Err OutOfRange) (Ok a) → (good ≡ true) × (x ≡ a)
passed true x a e = (refl, cc)
passed false x a e = absurd cc

-- ---- a number

number_high : (low high : ℕ) (o : Option Num) (n : ℕ) → of_kind (number_in low high) o ≡ Ok n → n ≤ high
number_high low high None n e = absurd cc
number_high low high (Some (unsigned m)) n e =
    let good = passed (is_within low high m) m n e in
    let within : m ≤ high = leb-true m high (and_parts (leb low m) (leb m high) good.0).1 in
    subst (λ (x : ℕ). x ≤ high) good.1 within
number_high low high (Some (negative z)) n e = absurd cc
number_high low high (Some (float x)) n e = absurd cc

number_checked : (low high : ℕ) (v : Data) (n : ℕ) → number low high v ≡ Ok n → n ≤ high
unfolding number
number_checked low high v n e = number_high low high (as_number v) n e

pub number_most : (entry : Option Entry) (d : Data) (name : List ℕ) (low high other n : ℕ) → other ≤ high → field entry d name (number low high) (Some other) ≡ Ok n → n ≤ high
number_most entry d name low high other n fits e =
    field_value (λ n. n ≤ high) entry d name (number low high) (Some other) n (λ v is. number_checked low high v n is) (λ is. let same : other ≡ n = cc is in omega (arith, same, fits)) e

-- ---- how many values a list has

-- where no item is refused, each has its value
values_all : {A : Type 0} (rs : List (Result A Flaw)) → list_any is_wrong_kind rs ≡ false → list_any is_out_of_range rs ≡ false → length (values rs) ≡ length rs
values_all [] wrong out = refl
values_all (Ok a ∷ rs) wrong out = ap suc (values_all rs wrong out)
values_all (Err WrongKind ∷ rs) wrong out = absurd cc
values_all (Err OutOfRange ∷ rs) wrong out = absurd cc

record Passes {A : Type 0} (wrong fits out : Bool) (ys xs : List A) : Type 0 where
  right : wrong ≡ false
  fit : fits ≡ true
  inside : out ≡ false
  same : ys ≡ xs

all_pass : {A : Type 0} (wrong fits out : Bool) (ys xs : List A) → (if wrong then Err WrongKind else (if fits && not out then Ok ys else Err OutOfRange)) ≡ Ok xs → Passes wrong fits out ys xs
all_pass true fits out ys xs e = absurd cc
all_pass false false out ys xs e = absurd cc
all_pass false true true ys xs e = absurd cc
all_pass false true false ys xs e = record { right = refl; fit = refl; inside = refl; same = cc }

listed_many : {A : Type 0} (least most : ℕ) (check : Data → Result A Flaw) (o : Option Items) (xs : List A) → of_kind (λ items. all_of (is_within least most (length (data_of items))) (map check (data_of items))) o ≡ Ok xs → least ≤ length xs
listed_many least most check None xs e = absurd cc
listed_many least most check (Some items) xs e =
    let ds = data_of items in
    let rs = map check ds in
    let p = all_pass (list_any is_wrong_kind rs) (is_within least most (length ds)) (list_any is_out_of_range rs) (values rs) xs e in
    let many : least ≤ length ds = leb-true least (length ds) (and_parts (leb least (length ds)) (leb (length ds) most) p.fit).0 in
    let same : length (values rs) ≡ length xs = ap length p.same in
    let all : length (values rs) ≡ length rs = values_all rs p.right p.inside in
    let items_all : length rs ≡ length ds = length-map ds check in
    omega (arith, many, same, all, items_all)

list_checked : {A : Type 0} (least most : ℕ) (check : Data → Result A Flaw) (v : Data) (xs : List A) → list_of least most check v ≡ Ok xs → least ≤ length xs
unfolding list_of
list_checked least most check v xs e = listed_many least most check (as_array v) xs e

pub list_least : {A : Type 0} (entry : Option Entry) (d : Data) (name : List ℕ) (least most : ℕ) (check : Data → Result A Flaw) (other xs : List A) → least ≤ length other → field entry d name (list_of least most check) (Some other) ≡ Ok xs → least ≤ length xs
list_least {A} entry d name least most check other xs fits e =
    field_value (λ (xs : List A). least ≤ length xs) entry d name (list_of least most check) (Some other) xs (λ v is. list_checked least most check v xs is) (λ is. let same : other ≡ xs = cc is in subst (λ (ys : List A). least ≤ length ys) same fits) e

up_to : (most : ℕ) (o : Option Items) (ds : List Data) → of_kind (λ items. if leb (length (data_of items)) most then Ok (data_of items) else Err OutOfRange) o ≡ Ok ds → length ds ≤ most
up_to most None ds e = absurd cc
up_to most (Some items) ds e =
    let good = passed (leb (length (data_of items)) most) (data_of items) ds e in
    subst (λ (ds : List Data). length ds ≤ most) good.1 (leb-true (length (data_of items)) most good.0)

up_to_checked : (most : ℕ) (v : Data) (ds : List Data) → list_up_to most v ≡ Ok ds → length ds ≤ most
unfolding list_up_to
up_to_checked most v ds e = up_to most (as_array v) ds e

pub listed_most : (entry : Option Entry) (d : Data) (name : List ℕ) (most : ℕ) (ds : List Data) → field entry d name (list_up_to most) (Some []) ≡ Ok ds → length ds ≤ most
listed_most entry d name most ds e =
    field_value (λ (ds : List Data). length ds ≤ most) entry d name (list_up_to most) (Some []) ds (λ v is. up_to_checked most v ds is) (λ is. let same : [] ≡ ds = cc is in subst (λ (ds : List Data). length ds ≤ most) same (let none : length {A = Data} [] ≤ most = omega arith in none)) e

-- ---- a file's name

name_short : (o : Option (List ℕ)) (name : List ℕ) → of_kind (λ s. if allows FileName s then Ok s else Err OutOfRange) o ≡ Ok name → length name ≤ 255
name_short None name e = absurd cc
name_short (Some s) name e =
    let good = passed (allows FileName s) s name e in
    let slash = and_parts (is_within 1 255 (length s) && not (has_byte 0 s) && not (has_byte 47 s) && not (bytes_eq s (codes "."))) (not (bytes_eq s (codes ".."))) good.0 in
    let dot = and_parts (is_within 1 255 (length s) && not (has_byte 0 s) && not (has_byte 47 s)) (not (bytes_eq s (codes "."))) slash.0 in
    let depot = and_parts (is_within 1 255 (length s) && not (has_byte 0 s)) (not (has_byte 47 s)) dot.0 in
    let long = and_parts (is_within 1 255 (length s)) (not (has_byte 0 s)) depot.0 in
    subst (λ (s : List ℕ). length s ≤ 255) good.1 (leb-true (length s) 255 (and_parts (leb 1 (length s)) (leb (length s) 255) long.0).1)

name_checked : (v : Data) (name : List ℕ) → text FileName v ≡ Ok name → length name ≤ 255
unfolding text
name_checked v name e = name_short (as_str v) name e

pub name_most : (entry : Option Entry) (d : Data) (at name : List ℕ) → field entry d at (text FileName) None ≡ Ok name → length name ≤ 255
name_most entry d at name e = field_value (λ (name : List ℕ). length name ≤ 255) entry d at (text FileName) None name (λ v is. name_checked v name is) (λ is. absurd cc) e

-- ---- entries one after another

-- a step that gave a value
pub bound : {A B : Type 0} (r : Result A Refusal) (next : A → Result B Refusal) (b : B) → (r >>= next) ≡ Ok b → (a : A) × (r ≡ Ok a) × (next a ≡ Ok b)
bound (Ok a) next b e = (a, refl, e)
bound (Err refusal) next b e = cc e

pub same_value : {A : Type 0} (x y : A) → ◌≡◌ {A = Result A Refusal} (Ok x) (Ok y) → x ≡ y
same_value x y e = cc e

-- what holds of the entries so far, and still holds with one more, holds of all
pub entries_keep : {A : Type 0} (I : List A → Type 0) (check : List A → Data → Result A Refusal) → ((found : List A) (d : Data) (a : A) → I found → check found d ≡ Ok a → I (found ++ a ∷ []))
    → (ds : List Data) (found all : List A) → I found → entries check found ds ≡ Ok all → I all
entries_keep I check keeps [] found all i e = subst I (same_value found all e) i
entries_keep {A} I check keeps (d ∷ ds) found all i e =
    let one = bound (check found d) (λ (a : A). entries check (found ++ a ∷ []) ds) all e in
    entries_keep I check keeps ds (found ++ one.0 ∷ []) all (keeps found d one.0 i one.1) one.2

one_longer : {A : Type 0} (xs : List A) (x : A) → length (xs ++ x ∷ []) ≡ length xs + 1
one_longer [] x = refl
one_longer (y ∷ xs) x = let rest = one_longer xs x in omega (arith, rest)

pub entries_count : {A : Type 0} (check : List A → Data → Result A Refusal) (ds : List Data) (found all : List A) → entries check found ds ≡ Ok all → length all ≡ length found + length ds
entries_count check [] found all e = let same : length found ≡ length all = ap length (same_value found all e) in omega (arith, same)
entries_count {A} check (d ∷ ds) found all e =
    let one = bound (check found d) (λ (a : A). entries check (found ++ a ∷ []) ds) all e in
    let rest = entries_count check ds (found ++ one.0 ∷ []) all one.2 in
    let more = one_longer found one.0 in
    omega (arith, rest, more)

-- ---- paths of files

-- a path that no file has differs from each one's
pub path_differs : (files : List FileFrom) (path : List ℕ) → has_path files path ≡ false → (k : ℕ) (d : FileFrom) → k < length files → (get_or files k d).path ≢ path
path_differs [] path none k d lt = absurd (omega (arith, lt))
path_differs (file ∷ files) path none zero d lt = λ same. let is : bytes_eq file.path path ≡ true = (bytes_eq-Decides file.path path).1 same in cc (is, none)
path_differs (file ∷ files) path none (suc k) d lt = path_differs files path (or_parts (bytes_eq file.path path) (has_path files path) none).1 k d (omega (arith, lt))

-- the paths of files differ, and are short
pub record Paths (files : List FileFrom) : Type 0 where
  pub apart : AllPairs (λ file other. file.path ≢ other.path) files
  pub short : All (λ file. length file.path ≤ 255) files

pub no_paths : Paths []
no_paths = record { apart = λ i j d lt below. absurd (omega (arith, below)); short = All-nil (λ (file : FileFrom). length file.path ≤ 255) }

pub more_paths : (files : List FileFrom) (file : FileFrom) → Paths files → has_path files file.path ≡ false → length file.path ≤ 255 → Paths (files ++ file ∷ [])
more_paths files file p fresh short = record {
  apart = all_pairs_push (λ (file other : FileFrom). file.path ≢ other.path) files file p.apart (path_differs files file.path fresh);
  short = All-push (λ (file : FileFrom). length file.path ≤ 255) files file p.short short;
}
