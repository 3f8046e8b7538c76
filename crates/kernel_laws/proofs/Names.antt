-- Names that differ, each short and of a file of its own, through what is done to files.
use Rattle.std.proofs.Common.{◌≡◌, ◌≢◌, ℕ, ◌+◌, ◌<◌, ◌≤◌, Bool, true, false, cond, eqb, leb, ◌||◌, refl, sym, ◌∙◌, ap, List, [], ◌∷◌, ◌++◌, length, Option, Some, is_some, arith}
use Rattle.std.specs.Prelude.{All, AllPairs, bytes_eq}
use Rattle.std.proofs.lemmas.Bool.{or_parts, leb-false, ne_eqb}
use Rattle.std.proofs.lemmas.List.Elements.{All-nil, All-cons}
use Rattle.std.proofs.lemmas.List.Kept.{AllPairs-cons}
use Rattle.std.proofs.lemmas.Slice.Eq.{bytes_eq-Decides}
use Rattle.lego_base.specs.declared.ids.FileNo.{FileNo}
use Rattle.lego_base.specs.declared.records.NameEntry.{NameEntry}
use Rattle.lego_base.specs.declared.report.FileOut.{FileOut}
use Rattle.lego_base.specs.Files.{File, file_bytes, is_file, with_file_bytes, without_file, has_name, named, is_before, with_name, without_name}
use Rattle.linux_model.specs.Limits.{FILES, NAME_BYTES}
use Rattle.linux_model.specs.State.{Kernel}
use Rattle.linux_model.specs.Effects.{with_new_file}
use Rattle.linux_model.specs.Fits.{NamesFit}
use Rattle.linux_model.specs.Named.{files_named}
use Rattle.linux_model.proofs.fits.Files.{names_freed}
use Rattle.kernel_laws.specs.Laws.{CanBeArchived}

-- two names, of two files
pub record Differ (e d : NameEntry) : Type 0 where
  pub names : e.name ≢ d.name
  pub files : e.file.0 ≢ d.file.0

abbrev pub DifferFrom : NameEntry → List NameEntry → Type 0
DifferFrom e [] = Unit {0}
DifferFrom e (d ∷ names) = Differ e d × DifferFrom e names

abbrev pub AllDiffer : List NameEntry → Type 0
AllDiffer [] = Unit {0}
AllDiffer (e ∷ names) = DifferFrom e names × AllDiffer names

-- names that a directory takes, of files whose numbers were given
abbrev pub AllShort : ℕ → List NameEntry → Type 0
AllShort next [] = Unit {0}
AllShort next (e ∷ names) = (length e.name ≤ NAME_BYTES) × (e.file.0 < next) × AllShort next names

pub record NamesHold (files : List File) (names : List NameEntry) (next : ℕ) : Type 0 where
  pub apart : AllDiffer names
  pub short : AllShort next names
  pub few : length files ≤ FILES

abbrev pub Holds : Kernel → Type 0
Holds k = NamesHold k.files k.names k.next

pub either_holds : (b : Bool) (k l : Kernel) → Holds k → (b ≡ false → Holds l) → Holds (cond b k l)
either_holds true k l h m = h
either_holds false k l h m = m refl

-- ---- a name more

either_differ : (b : Bool) (d : NameEntry) (xs ys : List NameEntry) → DifferFrom d xs → DifferFrom d ys → DifferFrom d (cond b xs ys)
either_differ true d xs ys h m = h
either_differ false d xs ys h m = m

differ_with : (d e : NameEntry) (names : List NameEntry) → Differ d e → DifferFrom d names → DifferFrom d (with_name e names)
differ_with d e [] one all = (one, tt)
differ_with d e (x ∷ names) one all = either_differ (is_before e.name x.name) d (e ∷ x ∷ names) (x ∷ with_name e names) (one, all) (all.0, differ_with d e names one all.1)

turned : (e d : NameEntry) → Differ e d → Differ d e
turned e d one = record { names = λ same. one.names (sym same); files = λ same. one.files (sym same) }

either_all : (b : Bool) (xs ys : List NameEntry) → AllDiffer xs → AllDiffer ys → AllDiffer (cond b xs ys)
either_all true xs ys h m = h
either_all false xs ys h m = m

all_with : (e : NameEntry) (names : List NameEntry) → DifferFrom e names → AllDiffer names → AllDiffer (with_name e names)
all_with e [] one all = (tt, tt)
all_with e (d ∷ names) one all =
    either_all (is_before e.name d.name) (e ∷ d ∷ names) (d ∷ with_name e names) (one, all)
    (differ_with d e names (turned e d one.0) all.0, all_with e names one.1 all.1)

either_short : (b : Bool) (next : ℕ) (xs ys : List NameEntry) → AllShort next xs → AllShort next ys → AllShort next (cond b xs ys)
either_short true next xs ys h m = h
either_short false next xs ys h m = m

short_with : (next : ℕ) (e : NameEntry) (names : List NameEntry) → length e.name ≤ NAME_BYTES → e.file.0 < next → AllShort next names → AllShort next (with_name e names)
short_with next e [] short given all = (short, given, tt)
short_with next e (d ∷ names) short given all =
    either_short (is_before e.name d.name) next (e ∷ d ∷ names) (d ∷ with_name e names) (short, given, all) (all.0, all.1, short_with next e names short given all.2)

short_next : (next : ℕ) (names : List NameEntry) → AllShort next names → AllShort (next + 1) names
short_next next [] all = tt
short_next next (e ∷ names) all = let below : e.file.0 < next = all.1 in (all.0, omega (arith, below), short_next next names all.2)

-- a name that nothing has, of the next file, differs from those that are there
unnamed : (b : Bool) (d : NameEntry) (rest : Option FileNo) → is_some (cond b (Some d.file) rest) ≡ false → (b ≡ false) × (is_some rest ≡ false)
unnamed true d rest none = cc none
unnamed false d rest none = (refl, none)

new_differs : (name : List ℕ) (next : ℕ) (names : List NameEntry) → is_some (named names name) ≡ false → AllShort next names → DifferFrom (record { name = name; file = record { 0 = next } }) names
new_differs name next [] none all = tt
new_differs name next (d ∷ names) none all =
    let parts = unnamed (bytes_eq d.name name) d (named names name) none in
    let below : d.file.0 < next = all.1 in (
      record {
        names = λ same. let is : bytes_eq d.name name ≡ true = (bytes_eq-Decides d.name name).1 (sym same) in cc (is, parts.0);
        files = λ same. omega (arith, same, below);
      },
      new_differs name next names parts.1 all.2,
    )

more : (files : List File) (f : File) → length (files ++ f ∷ []) ≡ length files + 1
more [] f = refl
more (g ∷ files) f = let rest = more files f in omega (arith, rest)

-- a new file under a short name
pub new_holds : (name : List ℕ) (k : Kernel) → length name ≤ NAME_BYTES → Holds k → Holds (with_new_file name k)
new_holds name k short h =
    let e : NameEntry = record { name = name; file = record { 0 = k.next } } in
    let f : File = record { file = k.next; bytes = [] } in
    either_holds (is_some (named k.names name) || leb FILES (length k.files)) k (record k { files = k.files ++ f ∷ []; names = with_name e k.names; next = k.next + 1 }) h
    (λ room.
    let parts = or_parts (is_some (named k.names name)) (leb FILES (length k.files)) room in
    record {
      apart = all_with e k.names (new_differs name k.next k.names parts.0 h.short) h.apart;
      short = short_with (k.next + 1) e k.names short (omega arith) (short_next k.next k.names h.short);
      few = let below = leb-false FILES (length k.files) parts.1 in let one = more k.files f in omega (arith, below, one);
    })

-- ---- a name less

differ_without : (d : NameEntry) (name : List ℕ) (names : List NameEntry) → DifferFrom d names → DifferFrom d (without_name name names)
differ_without d name [] all = tt
differ_without d name (e ∷ names) all = either_differ (bytes_eq e.name name) d (without_name name names) (e ∷ without_name name names) (differ_without d name names all.1) (all.0, differ_without d name names all.1)

all_without : (name : List ℕ) (names : List NameEntry) → AllDiffer names → AllDiffer (without_name name names)
all_without name [] all = tt
all_without name (e ∷ names) all = either_all (bytes_eq e.name name) (without_name name names) (e ∷ without_name name names) (all_without name names all.1) (differ_without e name names all.0, all_without name names all.1)

short_without : (next : ℕ) (name : List ℕ) (names : List NameEntry) → AllShort next names → AllShort next (without_name name names)
short_without next name [] all = tt
short_without next name (e ∷ names) all = either_short (bytes_eq e.name name) next (without_name name names) (e ∷ without_name name names) (short_without next name names all.2) (all.0, all.1, short_without next name names all.2)

pub unlinked_holds : (name : List ℕ) (k : Kernel) → Holds k → Holds (record k { names = without_name name k.names })
unlinked_holds name k h = record { apart = all_without name k.names h.apart; short = short_without k.next name k.names h.short; few = h.few }

-- ---- files

pub as_many : (files : List File) (file : ℕ) (bytes : List ℕ) → length (with_file_bytes files file bytes) ≡ length files
as_many [] file bytes = refl
as_many (f ∷ files) file bytes = let rest = as_many files file bytes in omega (arith, rest)

pub changed_holds : (file : ℕ) (bytes : List ℕ) (k : Kernel) → Holds k → Holds (record k { files = with_file_bytes k.files file bytes })
changed_holds file bytes k h = record { apart = h.apart; short = h.short; few = let same = as_many k.files file bytes in let few = h.few in omega (arith, same, few) }

either_length : (b : Bool) (f : File) (rest files : List File) → length rest ≤ length files → length (cond b rest (f ∷ rest)) ≤ length (f ∷ files)
either_length true f rest files h = omega (arith, h)
either_length false f rest files h = omega (arith, h)

no_more : (file : ℕ) (files : List File) → length (without_file file files) ≤ length files
no_more file [] = omega arith
no_more file (f ∷ files) = either_length (eqb f.file file) f (without_file file files) files (no_more file files)

pub freed_holds : (file : ℕ) (k : Kernel) → Holds k → Holds (record k { files = without_file file k.files })
freed_holds file k h = record { apart = h.apart; short = h.short; few = let less = no_more file k.files in let few = h.few in omega (arith, less, few) }

-- ---- names are no more than files

either_fewer : (b : Bool) (f : File) (rest files : List File) (file : ℕ) → length rest ≤ length files → (b || is_file files file) ≡ true → (is_file files file ≡ true → length rest < length files) → length (cond b rest (f ∷ rest)) < length (f ∷ files)
either_fewer true f rest files file h there more = omega (arith, h)
either_fewer false f rest files file h there more = let less = more there in omega (arith, less)

-- a file that is there goes
fewer : (file : ℕ) (files : List File) → is_file files file ≡ true → length (without_file file files) < length files
fewer file [] there = cc there
fewer file (f ∷ files) there = either_fewer (eqb f.file file) f (without_file file files) files file (no_more file files) there (fewer file files)

has_none : (e : NameEntry) (names : List NameEntry) → DifferFrom e names → has_name names e.file.0 ≡ false
has_none e [] all = refl
has_none e (d ∷ names) all =
    let other : eqb d.file.0 e.file.0 ≡ false = ne_eqb d.file.0 e.file.0 (λ same. all.0.files (sym same)) in
    ap (λ (b : Bool). b || has_name names e.file.0) other ∙ has_none e names all.1

pub names_few : (names : List NameEntry) (files : List File) → AllDiffer names → NamesFit files names → length names ≤ length files
names_few [] files all fit = omega arith
names_few (e ∷ names) files all fit =
    let less = fewer e.file.0 files fit.0 in
    let rest = names_few names (without_file e.file.0 files) all.1 (names_freed files e.file.0 names (has_none e names all.0) fit.1) in
    omega (arith, less, rest)

-- ---- what is archived

other_names : (e : NameEntry) (files : List File) (names : List NameEntry) → DifferFrom e names → All (λ (other : FileOut). e.name ≢ other.name) (files_named files names)
other_names e files [] all = All-nil (λ (other : FileOut). e.name ≢ other.name)
other_names e files (d ∷ names) all =
    All-cons (λ (other : FileOut). e.name ≢ other.name) (record { name = d.name; bytes = file_bytes files d.file.0 }) (files_named files names) all.0.names (other_names e files names all.1)

pairs : (files : List File) (names : List NameEntry) → AllDiffer names → AllPairs (λ (file other : FileOut). file.name ≢ other.name) (files_named files names)
pairs files [] all = λ i j d low below. absurd (omega (arith, below))
pairs files (e ∷ names) all =
    AllPairs-cons (λ (file other : FileOut). file.name ≢ other.name) (record { name = e.name; bytes = file_bytes files e.file.0 }) (files_named files names) (other_names e files names all.0) (pairs files names all.1)

shorts : (next : ℕ) (files : List File) (names : List NameEntry) → AllShort next names → All (λ (file : FileOut). length file.name ≤ NAME_BYTES) (files_named files names)
shorts next files [] all = All-nil (λ (file : FileOut). length file.name ≤ NAME_BYTES)
shorts next files (e ∷ names) all =
    All-cons (λ (file : FileOut). length file.name ≤ NAME_BYTES) (record { name = e.name; bytes = file_bytes files e.file.0 }) (files_named files names) all.0 (shorts next files names all.2)

each_named : (files : List File) (names : List NameEntry) → length (files_named files names) ≡ length names
each_named files [] = refl
each_named files (e ∷ names) = let rest = each_named files names in omega (arith, rest)

pub archived : (k : Kernel) → NamesFit k.files k.names → Holds k → CanBeArchived (files_named k.files k.names)
archived k fit h = record {
  apart = pairs k.files k.names h.apart;
  short = shorts k.next k.files k.names h.short;
  few =
      let each = each_named k.files k.names in
      let most = names_few k.names k.files h.apart fit in
      let few = h.few in
      omega (arith, each, most, few);
}
