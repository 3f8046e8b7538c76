-- What each call on files asks for, and what it is of the files that are held.
use Rattle.std.proofs.Common.{◌≡◌, ◌∙◌, ◌||◌, ◌+◌, ◌-◌, ◌/◌, ◌%◌, ◌≤◌, ◌<◌, [], ◌∷◌, ◌++◌, ℕ, zero, suc, Bool, List, None, Option, Some, ap, arith, cond, drop, eq-eqb, eqb, eqb-true, false, is_some, le-ltb, leb, leb-false, leb-true, length, lt-ltb, ltb, max, min, ne_eqb, not, refl, subst, sym, take, true}
use Rattle.std.proofs.lemmas.Bool.{cond-false, cond-true}
use Rattle.lego_base.specs.Files.{File, file_bytes, has_name, is_file, named, with_file_bytes, with_name, without_file, without_name}
use Rattle.file_table.proofs.Pieces.{length-of_size, length-written}
use Rattle.file_table.specs.Numbers.{size_after}
use Rattle.lego_base.specs.Pieces.{of_size, written_at}
use Rattle.lego_base.specs.declared.ids.FileNo.{FileNo}
use Rattle.lego_base.specs.declared.records.HomeEntry.{HomeEntry}
use Rattle.lego_base.specs.declared.sizes.TheConstants.{LONGEST_FILE}
use Rattle.lego_msg.specs.Files.{Files, freed, is_file_room, made, made_where, unnamed, with_file}
use Rattle.lego_msg.specs.Marks.{Call, Mark, order}
use Rattle.lego_msg.specs.Plain.{Plain, effect, with_files}
use Rattle.lego_msg.specs.declared.event.Event.{Event}
use Rattle.lego_msg.specs.declared.operation.Operation.{Operation}
use Rattle.lego_msg.specs.declared.operation.Operation.TheVariants as op
use Rattle.lego_msg.specs.declared.place.Place.{Place}
use Rattle.linux_model.specs.Effects.{AsksSize, CutsFile, Effect, FreesFile, LooksUp, MakesFile, ReadsFile, Unlinks, WritesFile}
use Rattle.linux_model.specs.Held.{Held, held_after, held_in, with_held}
use Rattle.linux_model.specs.State.{unbooted}
use Rattle.linux_model.specs.Limits.{FILES}
use Rattle.cluster.proofs.Blockwise.{reads_caches, reads_fit, writes_fit, writes_make}
use Rattle.cluster.specs.Blocks.{blocks_met, reads_in, reads_of, with_written, writes_in, writes_of}
use Rattle.cluster.specs.Sequences.{AllFit, AllGranted, Asking, all_free, called_for, effects_of, free, owners_after_all}
use Rattle.cluster.specs.Standing.{StandsFor}
use Rattle.split_script.specs.Cuts.{BLOCK, chunks, chunks_in, spans, spans_in, units_met}
use Rattle.split_script.specs.Now.{Now}
use Rattle.split_script.specs.Script.{marks, reads_blocks, writes_blocks}
use Rattle.ex_memory.proofs.Asked.{AllApart}
use Rattle.ex_memory.proofs.Ending.{IsOfFiles}
use Rattle.ex_memory.specs.Did.{Is}
use Rattle.ex_memory.specs.FileCalls.{filed}
use Rattle.ex_memory.specs.Seen.{held_of}
use Rattle.ex_memory.specs.Sound.{FilesFit}
use Rattle.ex_memory.specs.Split.{Split, plain_of}

-- FILES IN FORM
pub bytes_short : (k : ℕ) (all : List File) → FilesFit all → length (file_bytes all k) ≤ LONGEST_FILE
bytes_short k [] fit = omega arith
bytes_short k (f ∷ all) (one, once, fit) = by (eqb f.file k) (bytes_short k all fit)
  where
    by : (b : Bool) → length (file_bytes all k) ≤ LONGEST_FILE → length (cond b f.bytes (file_bytes all k)) ≤ LONGEST_FILE
    by true rest = one
    by false rest = rest

with_file_there : (k : ℕ) (xs : List ℕ) (all : List File) (j : ℕ) → is_file (with_file_bytes all k xs) j ≡ is_file all j
with_file_there k xs [] j = refl
with_file_there k xs (f ∷ all) j = by (eqb f.file k) (with_file_there k xs all j)
  where
    by : (b : Bool) → is_file (with_file_bytes all k xs) j ≡ is_file all j → is_file (cond b (record f { bytes = xs }) f ∷ with_file_bytes all k xs) j ≡ is_file (f ∷ all) j
    by true e = ap (λ (b : Bool). eqb f.file j || b) e
    by false e = ap (λ (b : Bool). eqb f.file j || b) e

with_fit : (k : ℕ) (xs : List ℕ) (all : List File) → length xs ≤ LONGEST_FILE → FilesFit all → FilesFit (with_file_bytes all k xs)
with_fit k xs [] few fit = tt
with_fit k xs (f ∷ all) few (one, once, fit) = by (eqb f.file k) (with_file_there k xs all f.file ∙ once) (with_fit k xs all few fit)
  where
    by : (b : Bool) → is_file (with_file_bytes all k xs) f.file ≡ false → FilesFit (with_file_bytes all k xs) → FilesFit (cond b (record f { bytes = xs }) f ∷ with_file_bytes all k xs)
    by true away rest = (few, away, rest)
    by false away rest = (one, away, rest)

or_false : (a b : Bool) → (a || b) ≡ false → b ≡ false
or_false true b e = cc e
or_false false b e = e

away : (c x y : Bool) → (c || x) ≡ false → y ≡ false → (c || y) ≡ false
away true x y e rest = cc e
away false x y e rest = rest

without_file_away : (k : ℕ) (all : List File) (j : ℕ) → is_file all j ≡ false → is_file (without_file k all) j ≡ false
without_file_away k [] j e = refl
without_file_away k (f ∷ all) j e = there (eqb f.file k) ∙ by (eqb f.file k) (without_file_away k all j (or_false (eqb f.file j) (is_file all j) e)) (eqb f.file j) e
  where
    by : (b : Bool) → is_file (without_file k all) j ≡ false → (c : Bool) → (c || is_file all j) ≡ false → (cond b (is_file (without_file k all) j) (c || is_file (without_file k all) j)) ≡ false
    by true rest c e = rest
    by false rest c e = away c (is_file all j) (is_file (without_file k all) j) e rest

    there : (b : Bool) → is_file (cond b (without_file k all) (f ∷ without_file k all)) j ≡ cond b (is_file (without_file k all) j) (eqb f.file j || is_file (without_file k all) j)
    there true = refl
    there false = refl

without_fit : (k : ℕ) (all : List File) → FilesFit all → FilesFit (without_file k all)
without_fit k [] fit = tt
without_fit k (f ∷ all) (one, once, fit) = by (eqb f.file k) (without_file_away k all f.file once) (without_fit k all fit)
  where
    by : (b : Bool) → is_file (without_file k all) f.file ≡ false → FilesFit (without_file k all) → FilesFit (cond b (without_file k all) (f ∷ without_file k all))
    by true away rest = rest
    by false away rest = (one, away, rest)

made_away : (k j : ℕ) (all : List File) → is_file all j ≡ false → eqb k j ≡ false → is_file (all ++ record { file = k; bytes = [] } ∷ []) j ≡ false
made_away k j [] e differ = ap (λ (b : Bool). b || false) differ
made_away k j (f ∷ all) e differ = by (eqb f.file j) e (λ is. made_away k j all is differ)
  where
    by : (b : Bool) → (b || is_file all j) ≡ false → (is_file all j ≡ false → is_file (all ++ record { file = k; bytes = [] } ∷ []) j ≡ false) → (b || is_file (all ++ record { file = k; bytes = [] } ∷ []) j) ≡ false
    by true e rest = cc e
    by false e rest = rest e

made_fit : (k : ℕ) (all : List File) → ((j : ℕ) → is_file all j ≡ true → j < k) → FilesFit all → FilesFit (all ++ record { file = k; bytes = [] } ∷ [])
made_fit k [] below fit = (omega arith, refl, tt)
made_fit k (f ∷ all) below (one, once, fit) =
    let less = below f.file (ap (λ (b : Bool). b || is_file all f.file) (eq-eqb f.file f.file refl)) in
    (one, made_away k f.file all once (ne_eqb k f.file (λ e. omega (arith, less, e))), made_fit k all (λ j is. below j (or_right (eqb f.file j) (is_file all j) is)) fit)
  where
    or_right : (a b : Bool) → b ≡ true → (a || b) ≡ true
    or_right true b e = refl
    or_right false b e = e

of_size_short : (size : ℕ) (bytes : List ℕ) → size ≤ LONGEST_FILE → length (of_size size bytes) ≤ LONGEST_FILE
of_size_short size bytes most = let n = length-of_size size bytes in omega (arith, n, most)

size_short : (size off len : ℕ) → size ≤ LONGEST_FILE → off + len ≤ LONGEST_FILE → size_after size off len ≤ LONGEST_FILE
size_short size off len few most = by (eqb len 0)
  where
    by : (b : Bool) → cond b size (max size (off + len)) ≤ LONGEST_FILE
    by true = few
    by false = omega (arith, few, most)

written_at_short : (old : List ℕ) (off : ℕ) (bytes : List ℕ) → length old ≤ LONGEST_FILE → off + length bytes ≤ LONGEST_FILE → length (written_at old off bytes) ≤ LONGEST_FILE
written_at_short old off [] few most = few
written_at_short old off (b ∷ bytes) few most =
    let n = length-written old off (b ∷ bytes) in
    let few' = size_short (length old) off (length (b ∷ bytes)) few most in
    omega (arith, n, few')

-- no bytes written into a file change nothing
with_absent : (k : ℕ) (xs : List ℕ) (all : List File) → is_file all k ≡ false → with_file_bytes all k xs ≡ all
with_absent k xs [] e = refl
with_absent k xs (f ∷ all) e = by (eqb f.file k) e (with_absent k xs all)
  where
    by : (b : Bool) → (b || is_file all k) ≡ false → (is_file all k ≡ false → with_file_bytes all k xs ≡ all) → cond b (record f { bytes = xs }) f ∷ with_file_bytes all k xs ≡ f ∷ all
    by true e rest = cc e
    by false e rest = ap (λ (fs : List File). f ∷ fs) (rest e)

written_nothing : (k off : ℕ) (all : List File) → FilesFit all → with_file_bytes all k (written_at (file_bytes all k) off []) ≡ all
written_nothing k off [] fit = refl
written_nothing k off (f ∷ all) (one, once, fit) = by (eqb f.file k) refl (written_nothing k off all fit)
  where
    by : (b : Bool) → eqb f.file k ≡ b → with_file_bytes all k (file_bytes all k) ≡ all → cond b (record f { bytes = cond b f.bytes (file_bytes all k) }) f ∷ with_file_bytes all k (cond b f.bytes (file_bytes all k)) ≡ f ∷ all
    by true is rest = ap (λ (fs : List File). f ∷ fs) (with_absent k f.bytes all (ap (is_file all) (sym (eqb-true f.file k is)) ∙ once))
    by false is rest = ap (λ (fs : List File). f ∷ fs) rest

pub lt_is_not_le : (a b : ℕ) → ltb a b ≡ not (leb b a)
lt_is_not_le a b = by (leb b a) refl
  where
    by : (x : Bool) → leb b a ≡ x → ltb a b ≡ not x
    by true is = le-ltb a b (leb-true b a is)
    by false is = lt-ltb a b (leb-false b a is)

-- one operation that asks
one_mark : (by by' : Place) (o : Operation) (rest : List Mark) → by ≡ by' → ◌≡◌ {A = List Mark} (Call (order by o) ∷ rest) (called_for by' false (free o ∷ []) rest)
one_mark by by' o rest e = ap (λ (b : Place). Call (order b o) ∷ rest) e

module _ (m : Split) where
  abbrev files : Files
  files = m.whole.disk.files

  -- what is held by the files, whatever the spaces
  abbrev held_by : Files → Held
  held_by f = filed f (held_of m)

  pub finds : (name : List ℕ) → IsOfFiles m (free (op.GetsName name) ∷ []) (LooksUp name) files
  finds name = record { apart = (refl, tt); plain = refl; owners = refl; beside = λ n. refl; marks_are = λ n is rest. one_mark n.by m.by (op.GetsName name) rest is.by; held = refl; form = λ s. s }

  pub sizes : (file : ℕ) → IsOfFiles m (free (op.AsksSize (record { 0 = file })) ∷ []) (AsksSize file) files
  sizes file = record { apart = (refl, tt); plain = refl; owners = refl; beside = λ n. refl; marks_are = λ n is rest. one_mark n.by m.by (op.AsksSize (record { 0 = file })) rest is.by; held = refl; form = λ s. s }

  pub unlinks : (name : List ℕ) → IsOfFiles m (free (op.CutsName name) ∷ []) (Unlinks name) (unnamed files name)
  unlinks name = record { apart = (refl, tt); plain = refl; owners = refl; beside = λ n. refl; marks_are = λ n is rest. one_mark n.by m.by (op.CutsName name) rest is.by; held = refl; form = λ s. s }

  -- FREEING, where the file has no name
  frees_held : (b : Bool) (file : ℕ) → held_in (cond b (with_held (held_of m) (unbooted [])) (record (with_held (held_of m) (unbooted [])) { files = without_file file files.files })) ≡ held_by (cond b files (record files { files = without_file file files.files }))
  frees_held true file = refl
  frees_held false file = refl

  frees_form : (b : Bool) (file : ℕ) → FilesFit files.files → FilesFit (cond b files (record files { files = without_file file files.files })).files
  frees_form true file fit = fit
  frees_form false file fit = without_fit file files.files fit

  pub frees : (file : ℕ) → IsOfFiles m (free (op.FreesFile (record { 0 = file })) ∷ []) (FreesFile file) (freed files file)
  frees file = record {
    apart = (refl, tt);
    plain = refl;
    owners = refl;
    beside = λ n. refl;
    marks_are = λ n is rest. one_mark n.by m.by (op.FreesFile (record { 0 = file })) rest is.by;
    held = frees_held (has_name files.names file) file;
    form = frees_form (has_name files.names file) file;
  }

  -- MAKING, where none has the name
  makes_held : (b c : Bool) (name : List ℕ) → c ≡ not b → held_in (cond b (with_held (held_of m) (unbooted [])) (record (with_held (held_of m) (unbooted [])) {
    files = files.files ++ record { file = files.next; bytes = [] } ∷ [];
    names = with_name (record { name = name; file = record { 0 = files.next } }) files.names;
    next = files.next + 1;
  })) ≡ held_by (cond c (with_file files name) files)
  makes_held true true name e = cc e
  makes_held true false name e = refl
  makes_held false true name e = refl
  makes_held false false name e = cc e

  makes_form : (c : Bool) (name : List ℕ) → ((j : ℕ) → is_file files.files j ≡ true → j < files.next) → FilesFit files.files → FilesFit (cond c (with_file files name) files).files
  makes_form true name below fit = made_fit files.next files.files below fit
  makes_form false name below fit = fit

  pub makes : (name : List ℕ) → ((j : ℕ) → is_file files.files j ≡ true → j < files.next) → named files.names name ≡ None → IsOfFiles m (free (op.MakesName name) ∷ []) (MakesFile name) (cond (is_file_room files) (with_file files name) files)
  makes name below none = record {
    apart = (refl, tt);
    plain = ap (λ (o : Option FileNo). with_files (made_where o files name) (plain_of m.whole)) none;
    owners = refl;
    beside = λ n. refl;
    marks_are = λ n is rest. one_mark n.by m.by (op.MakesName name) rest is.by;
    held = ap (λ (o : Option FileNo). held_in (cond (is_some o || leb FILES (length files.files)) (with_held (held_of m) (unbooted [])) (record (with_held (held_of m) (unbooted [])) {
      files = files.files ++ record { file = files.next; bytes = [] } ∷ [];
      names = with_name (record { name = name; file = record { 0 = files.next } }) files.names;
      next = files.next + 1;
    }))) none
        ∙ makes_held (leb FILES (length files.files)) (ltb (length files.files) 1024) name (lt_is_not_le (length files.files) 1024);
    form = makes_form (is_file_room files) name below;
  }

  -- CUTTING
  pub cuts : (file size : ℕ) → size ≤ LONGEST_FILE → IsOfFiles m (free (op.CutsFile (record { 0 = file }) size) ∷ []) (CutsFile file size) (record files { files = with_file_bytes files.files file (of_size size (file_bytes files.files file)) })
  cuts file size most = record {
    apart = (refl, tt);
    plain = refl;
    owners = refl;
    beside = λ n. refl;
    marks_are = λ n is rest. one_mark n.by m.by (op.CutsFile (record { 0 = file }) size) rest is.by;
    held = refl;
    form = with_fit file (of_size size (file_bytes files.files file)) files.files (of_size_short size (file_bytes files.files file) most);
  }

  -- BLOCK BY BLOCK
  reads_marked : (blocks file at n : ℕ) (by by' : Place) (rest : List Mark) → by ≡ by' → called_for by false (all_free (reads_in blocks (record { 0 = file }) at n)) rest ≡ called_for by' false (all_free (reads_in blocks (record { 0 = file }) at n)) rest
  reads_marked blocks file at n by by' rest e = ap (λ (b : Place). called_for b false (all_free (reads_in blocks (record { 0 = file }) at n)) rest) e

  reads_are : (n : Now) (blocks file at size : ℕ) (rest : List Mark) → reads_blocks n file (spans_in BLOCK blocks at size) rest ≡ called_for n.by false (all_free (reads_in blocks (record { 0 = file }) at size)) rest
  reads_are n zero file at size rest = refl
  reads_are n (suc blocks) file at size rest = ap (λ (due : List Mark). Call (order n.by (op.ReadsFile (record { 0 = file }) (at / 4096) (at % 4096) (min size (4096 - at % 4096)))) ∷ due)
      (reads_are n blocks file (at + (4096 - at % 4096)) (size - (4096 - at % 4096)) rest)

  writes_are : (n : Now) (blocks file at : ℕ) (bytes : List ℕ) (rest : List Mark) → writes_blocks n file (chunks_in BLOCK blocks at bytes) rest ≡ called_for n.by false (all_free (writes_in blocks (record { 0 = file }) at bytes)) rest
  writes_are n zero file at bytes rest = refl
  writes_are n (suc blocks) file at bytes rest = ap (λ (due : List Mark). Call (order n.by (op.WritesFile (record { 0 = file }) (at / 4096) (at % 4096) (take (4096 - at % 4096) bytes))) ∷ due)
      (writes_are n blocks file (at + (4096 - at % 4096)) (drop (4096 - at % 4096) bytes) rest)

  reads_plain : (blocks file at n : ℕ) (f : Plain) → effects_of (all_free (reads_in blocks (record { 0 = file }) at n)) f ≡ f
  reads_plain zero file at n f = refl
  reads_plain (suc blocks) file at n f = reads_plain blocks file (at + (4096 - at % 4096)) (n - (4096 - at % 4096)) f

  reads_owners : (blocks file at n : ℕ) (owners : List HomeEntry) → owners_after_all (all_free (reads_in blocks (record { 0 = file }) at n)) owners ≡ owners
  reads_owners zero file at n owners = refl
  reads_owners (suc blocks) file at n owners = reads_owners blocks file (at + (4096 - at % 4096)) (n - (4096 - at % 4096)) owners

  writes_owners : (blocks file at : ℕ) (bytes : List ℕ) (owners : List HomeEntry) → owners_after_all (all_free (writes_in blocks (record { 0 = file }) at bytes)) owners ≡ owners
  writes_owners zero file at bytes owners = refl
  writes_owners (suc blocks) file at bytes owners = writes_owners blocks file (at + (4096 - at % 4096)) (drop (4096 - at % 4096) bytes) owners

  reads_apart : (blocks file at n : ℕ) → AllApart (all_free (reads_in blocks (record { 0 = file }) at n))
  reads_apart zero file at n = tt
  reads_apart (suc blocks) file at n = (refl, reads_apart blocks file (at + (4096 - at % 4096)) (n - (4096 - at % 4096)))

  writes_apart : (blocks file at : ℕ) (bytes : List ℕ) → AllApart (all_free (writes_in blocks (record { 0 = file }) at bytes))
  writes_apart zero file at bytes = tt
  writes_apart (suc blocks) file at bytes = (refl, writes_apart blocks file (at + (4096 - at % 4096)) (drop (4096 - at % 4096) bytes))

  units_are : (at n : ℕ) → units_met BLOCK at n ≡ blocks_met at n
  units_are at zero = refl
  units_are at (suc n) = refl

  pub reads : (file off n : ℕ) → IsOfFiles m (all_free (reads_of (record { 0 = file }) off n)) (ReadsFile file off n) files
  reads file off n = record {
    apart = reads_apart (blocks_met off n) file off n;
    plain = reads_plain (blocks_met off n) file off n (plain_of m.whole);
    owners = reads_owners (blocks_met off n) file off n m.whole.table.owners;
    beside = λ k. refl;
    marks_are = λ k is rest. ap (λ (u : ℕ). reads_blocks k file (spans_in BLOCK u off n) rest) (units_are off n)
        ∙ reads_are k (blocks_met off n) file off n rest ∙ ap (λ (b : Place). called_for b false (all_free (reads_of (record { 0 = file }) off n)) rest) is.by;
    held = refl;
    form = λ s. s;
  }

  -- the files with bytes written into one
  abbrev written_files : ℕ → ℕ → List ℕ → Files
  written_files file off bytes = (with_written (record { 0 = file }) off bytes (plain_of m.whole)).files

  written_plain : (file off : ℕ) (bytes : List ℕ) → with_written (record { 0 = file }) off bytes (plain_of m.whole) ≡ with_files (written_files file off bytes) (plain_of m.whole)
  written_plain file off [] = refl
  written_plain file off (b ∷ bytes) = refl

  written_held : (file off : ℕ) (bytes : List ℕ) → with_file_bytes files.files file (written_at (file_bytes files.files file) off []) ≡ files.files → held_after (WritesFile file off bytes) (held_of m) ≡ held_by (written_files file off bytes)
  written_held file off [] none = λ i. record (held_of m) { files = none i }
  written_held file off (b ∷ bytes) none = refl

  written_form : (file off : ℕ) (bytes : List ℕ) → off + length bytes ≤ LONGEST_FILE → FilesFit files.files → FilesFit (written_files file off bytes).files
  written_form file off [] most fit = fit
  written_form file off (b ∷ bytes) most fit =
      with_fit file (written_at (file_bytes files.files file) off (b ∷ bytes)) files.files (written_at_short (file_bytes files.files file) off (b ∷ bytes) (bytes_short file files.files fit) most) fit

  pub writes : (file off : ℕ) (bytes : List ℕ) → FilesFit files.files → is_file files.files file ≡ true → off + length bytes ≤ LONGEST_FILE → IsOfFiles m (all_free (writes_of (record { 0 = file }) off bytes)) (WritesFile file off bytes) (written_files file off bytes)
  writes file off bytes fit there most = record {
    apart = writes_apart (blocks_met off (length bytes)) file off bytes;
    plain = writes_make (record { 0 = file }) off bytes (plain_of m.whole) there ∙ written_plain file off bytes;
    owners = writes_owners (blocks_met off (length bytes)) file off bytes m.whole.table.owners;
    beside = λ k. refl;
    marks_are = λ k is rest. ap (λ (u : ℕ). writes_blocks k file (chunks_in BLOCK u off bytes) rest) (units_are off (length bytes))
        ∙ writes_are k (blocks_met off (length bytes)) file off bytes rest ∙ ap (λ (b : Place). called_for b false (all_free (writes_of (record { 0 = file }) off bytes)) rest) is.by;
    held = written_held file off bytes (written_nothing file off files.files fit);
    form = written_form file off bytes most;
  }
