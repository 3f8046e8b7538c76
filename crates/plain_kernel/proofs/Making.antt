-- Files are made one after the other.
use Rattle.std.proofs.Common.{◌≡◌, ℕ, zero, suc, ◌+◌, ◌<◌, ◌≤◌, ◌||◌, Bool, true, false, cond, leb, refl, sym, ◌∙◌, ap, subst, List, [], ◌∷◌, ◌++◌, take, length, Option, Some, None, is_some, arith}
use Rattle.std.specs.Prelude.{slice_index_or, bytes_eq, ◌≢◌}
use Rattle.std.proofs.Math.Seq.{take-suc}
use Rattle.std.proofs.lemmas.Bool.{lt-leb}
use Rattle.std.proofs.lemmas.List.{length-append, length-take-le}
use Rattle.std.proofs.lemmas.Slice.Eq.{bytes_eq-Decides}
use Rattle.lego_base.specs.declared.ids.FileNo.{FileNo}
use Rattle.lego_base.specs.declared.records.NameEntry.{NameEntry}
use Rattle.lego_base.specs.declared.report.FileOut.{FileOut}
use Rattle.lego_base.specs.Files.{File, named, is_before, with_name, with_file_bytes, file_bytes}
use Rattle.lego_base.specs.Pieces.{written_at}
use Rattle.linux_model.specs.Boot.{file_effects}
use Rattle.linux_model.specs.Effects.{Effect, MakesFile, WritesFile}
use Rattle.linux_model.specs.Held.{Held, held_in, with_held, held_after, held_after_all}
use Rattle.linux_model.specs.Limits.{FILES}
use Rattle.linux_model.specs.State.{Kernel, unbooted}
use Rattle.call_machine.specs.Effects.{made_file}
use Rattle.call_machine.specs.Tried.{bare}
use Rattle.plain_machine.specs.Plain.{held_of, Did, Stopped}
use Rattle.plain_machine.specs.Lawful.{lawful}
use Rattle.plain_machine.specs.declared.machine.PlainMachine.{PlainMachine}
use Rattle.plain_kernel.specs.Making.{CanMake, NotMade}

-- ---- lists

index_any : {A : Type 0} (xs : List A) (i : ℕ) (d e : A) → i < length xs → slice_index_or xs i d ≡ slice_index_or xs i e
index_any [] i d e less = absurd (omega (arith, less))
index_any (x ∷ xs) zero d e less = refl
index_any (x ∷ xs) (suc i) d e less = index_any xs i d e (omega (arith, less))

-- ---- one file more

effects_more : (n m : ℕ) (files : List FileOut) (f : FileOut) → m ≡ n + length files → file_effects n (files ++ f ∷ []) ≡ file_effects n files ++ file_effects m (f ∷ [])
effects_more n m [] f e = let same : n ≡ m = omega (arith, e) in ap (λ (k : ℕ). file_effects k (f ∷ [])) same
effects_more n m (g ∷ files) f e =
    let next : m ≡ n + 1 + length files = omega (arith, e) in
    ap (λ (es : List Effect). MakesFile g.name ∷ WritesFile n 0 g.bytes ∷ es) (effects_more (n + 1) m files f next)

absent_with : (e : NameEntry) (names : List NameEntry) (x : List ℕ) → bytes_eq e.name x ≡ false → named names x ≡ None → named (with_name e names) x ≡ None
absent_with e [] x apart none = ap (λ (b : Bool). cond b (Some e.file) None) apart
absent_with e (d ∷ names) x apart none = by (is_before e.name d.name) (bytes_eq d.name x) refl none (absent_with e names x apart)
  where
    by : (a b : Bool) → bytes_eq d.name x ≡ b → cond b (Some d.file) (named names x) ≡ None → (named names x ≡ None → named (with_name e names) x ≡ None) → named (cond a (e ∷ d ∷ names) (d ∷ with_name e names)) x ≡ None
    by true b is none rest = ap (λ (y : Bool). cond y (Some e.file) (cond (bytes_eq d.name x) (Some d.file) (named names x))) apart ∙ ap (λ (y : Bool). cond y (Some d.file) (named names x)) is ∙ none
    by false true is none rest = cc none
    by false false is none rest = ap (λ (y : Bool). cond y (Some d.file) (named (with_name e names) x)) is ∙ rest none

differ : (a b : List ℕ) → a ≢ b → bytes_eq a b ≡ false
differ a b apart = by (bytes_eq a b) refl
  where
    by : (t : Bool) → bytes_eq a b ≡ t → bytes_eq a b ≡ false
    by true is = absurd (apart ((bytes_eq-Decides a b).0 is))
    by false is = is

-- names at two places differ, whatever stands for a place that isn't there
apart_at : (files : List FileOut) (i j : ℕ) (d e : FileOut) → CanMake files → i < j → j < length files → (slice_index_or files i d).name ≢ (slice_index_or files j e).name
apart_at files i j d e can less high = subst (λ (f : FileOut). f.name ≢ (slice_index_or files j e).name) (index_any files i e d (omega (arith, less, high))) (can.differ i j e less high)

-- ---- what is held once a file was made

no_file : (x : Option FileNo) (b : Bool) → x ≡ None → b ≡ false → (is_some x || b) ≡ false
no_file None b e f = f
no_file (Some file) b e f = cc e

-- the new file
abbrev new_entry : List ℕ → Held → NameEntry
new_entry name h = record { name = name; file = record { 0 = h.next } }

abbrev grown : List ℕ → Held → Held
grown name h = record h { files = h.files ++ record { file = h.next; bytes = [] } ∷ []; names = with_name (new_entry name h) h.names; next = h.next + 1 }

few : (n : ℕ) → n < FILES → leb FILES n ≡ false
few n less = lt-leb FILES n less

pub grows : (h : Held) (name : List ℕ) → named h.names name ≡ None → length h.files < FILES → held_after (MakesFile name) h ≡ grown name h
grows h name absent room =
    ap (λ (b : Bool). held_in (cond b (with_held h (unbooted [])) (with_held (grown name h) (unbooted [])))) (no_file (named h.names name) (leb FILES (length h.files)) absent (few (length h.files) room))

set_length : (files : List File) (file : ℕ) (bytes : List ℕ) → length (with_file_bytes files file bytes) ≡ length files
set_length [] file bytes = refl
set_length (f ∷ files) file bytes = ap suc (set_length files file bytes)

longer : (files : List File) (f : File) → length (files ++ f ∷ []) ≡ length files + 1
longer files f = length-append files (f ∷ [])

-- ---- the files before a place were made

pub record Made (files : List FileOut) (i : ℕ) (old now : PlainMachine) : Type 0 where
  pub did : Did old now (file_effects 0 (take i files))
  pub next : (held_of now).next ≡ i
  pub count : length (held_of now).files ≡ i
  pub later : (j : ℕ) (d : FileOut) → i ≤ j → j < length files → named (held_of now).names (slice_index_or files j d).name ≡ None

pub none_made : (files : List FileOut) (start : PlainMachine) → held_of start ≡ bare → Made files 0 start start
none_made files start empty = record {
  did = lawful.none start;
  next = ap (λ (h : Held). h.next) empty;
  count = ap (λ (h : Held). length h.files) empty;
  later = λ j d low high. ap (λ (h : Held). named h.names (slice_index_or files j d).name) empty;
}

-- the file at the place may be made
pub may_make : (files : List FileOut) (i : ℕ) (d : FileOut) (old now : PlainMachine) → i < length files → CanMake files → Made files i old now → NotMade (slice_index_or files i d) (held_of now)
may_make files i d old now less can made = record {
  absent = made.later i d (omega arith) less;
  room = let n : length (held_of now).files ≡ i = made.count in let most : length files ≤ FILES = can.few in omega (arith, less, n, most);
  short = can.short i d less;
}

-- the number that the next file gets
pub number_is : (h : Held) (number : FileNo) → h.next ≡ number.0 → length h.files < FILES → Some number ≡ made_file h
number_is h number next room = sym (ap (λ (b : Bool). cond b None (Some (record { 0 = h.next }))) (few (length h.files) room) ∙ ap (λ (n : ℕ). Some (record { 0 = n })) next)

-- one file more was made
pub one_more : (files : List FileOut) (i i' : ℕ) (d : FileOut) (old now new : PlainMachine) → i' ≡ i + 1 → i < length files → CanMake files → Made files i old now → Did now new (file_effects i (slice_index_or files i d ∷ [])) → Made files i' old new
one_more files i i' d old now new next less can made did =
    let f : FileOut = slice_index_or files i d in
    let h : Held = held_of now in
    let may : NotMade f h = may_make files i d old now less can made in
    let made_name : held_after (MakesFile f.name) h ≡ grown f.name h = grows h f.name may.absent may.room in
    let after : Held = record (grown f.name h) { files = with_file_bytes (grown f.name h).files i (written_at (file_bytes (grown f.name h).files i) 0 f.bytes) } in
    let holds : held_of new ≡ after = did.led ∙ ap (λ (h : Held). held_after (WritesFile i 0 f.bytes) h) made_name in
    let taken : take i files ++ f ∷ [] ≡ take i' files = sym (take-suc files i d less) ∙ ap (λ (n : ℕ). take n files) (let same : suc i ≡ i' = omega (arith, next) in same) in
    let count : length (take i files) ≡ i = length-take-le i files (omega (arith, less)) in
    record {
      did = subst (λ (fs : List FileOut). Did old new (file_effects 0 fs)) taken
          (subst (Did old new) (sym (effects_more 0 i (take i files) f (let e : i ≡ 0 + length (take i files) = omega (arith, count) in e)))
          (lawful.both old now new (file_effects 0 (take i files)) (file_effects i (f ∷ [])) made.did did));
      next = ap (λ (h : Held). h.next) holds ∙ (let n : h.next + 1 ≡ i' = (let e = made.next in omega (arith, e, next)) in n);
      count = ap (λ (h : Held). length h.files) holds ∙ set_length (grown f.name h).files i _ ∙ longer h.files _ ∙ (let n : length h.files + 1 ≡ i' = (let e = made.count in omega (arith, e, next)) in n);
      later = λ j e low high.
          let apart : f.name ≢ (slice_index_or files j e).name = apart_at files i j d e can (omega (arith, low, next)) high in
          ap (λ (h : Held). named h.names (slice_index_or files j e).name) holds
          ∙ absent_with (new_entry f.name h) h.names (slice_index_or files j e).name (differ f.name (slice_index_or files j e).name apart) (made.later j e (omega (arith, low, next)) high);
    }
