-- The first fault of a list of faults, and what holds where there is none.
use Rattle.std.proofs.Common.{◌≡◌, ℕ, ◌+◌, ◌*◌, ◌≤◌, Bool, true, false, cond, not, ◌&&◌, ◌==◌, nat_lt, List, [], ◌∷◌, ◌++◌, Option, Some, None, length, refl, ◌∙◌}
use Rattle.std.specs.List.{list_all}
use Rattle.std.proofs.lemmas.Bool.{cond-true, cond-false, lt-ltb, ltb-false, or_parts, and_parts, both_ways}
use Rattle.elf_image.specs.declared.fault.ImageFault.{ImageFault}
use Rattle.elf_image.specs.declared.fault.ImageFault.TheVariants.{Short, Magic, Class, Kind, Machine, Abi, TableOutside, TooManyHeaders, Interp, SegmentOutside, SegmentSize, SegmentAddress, Overlap, NoSegment, EntryOutside, NoMemory}
use Rattle.elf_image.specs.declared.header.Header.{Header}
use Rattle.elf_image.specs.File.{table_offset, header_count, header_size, entry_address, headers}
use Rattle.elf_image.specs.Image.{is_short, has_other_magic, has_other_class, has_other_kind, has_other_machine, has_other_abi, is_table_outside, has_many_headers, has_interpreter, some_outside, has_other_size, some_misplaced, some_share, has_no_load, is_entry_outside, file_faults, load_faults, first_of, loads, first_fault}
use Rattle.elf_image.specs.Laws.{ShortIsRefused, NoFileIsNoMemory}

-- a row that isn't the first fault fails its condition
pub peel : (b : Bool) (fault : ImageFault) (rest : Option ImageFault) → cond b (Some fault) rest ≡ None → (b ≡ false) × (rest ≡ None)
peel true fault rest none = absurd cc
peel false fault rest none = (refl, none)

kept : (b : Bool) (fault other : ImageFault) (rest more : Option ImageFault) → cond b (Some other) rest ≡ Some fault → (rest ≡ Some fault → more ≡ Some fault) → cond b (Some other) more ≡ Some fault
kept true fault other rest more found on = found
kept false fault other rest more found on = on found

-- after rows without fault the later rows decide
pub first_of-append_none : (rows more : List (Bool × ImageFault)) → first_of rows ≡ None → first_of (rows ++ more) ≡ first_of more
first_of-append_none [] more none = refl
first_of-append_none (row ∷ rows) more none =
    let parts = peel row.0 row.1 (first_of rows) none in
    cond-false row.0 (Some row.1) (first_of (rows ++ more)) parts.0 ∙ first_of-append_none rows more parts.1

-- a first fault stays the first
pub first_of-append_some : (rows more : List (Bool × ImageFault)) (fault : ImageFault) → first_of rows ≡ Some fault → first_of (rows ++ more) ≡ Some fault
first_of-append_some [] more fault found = absurd cc
first_of-append_some (row ∷ rows) more fault found = kept row.0 fault row.1 (first_of rows) (first_of (rows ++ more)) found (first_of-append_some rows more fault)

-- where all rows have no fault, neither part of them has
pub none_first : (rows more : List (Bool × ImageFault)) → first_of (rows ++ more) ≡ None → (first_of rows ≡ None) × (first_of more ≡ None)
none_first [] more none = (refl, none)
none_first (row ∷ rows) more none =
    let parts = peel row.0 row.1 (first_of (rows ++ more)) none in
    let rest = none_first rows more parts.1 in
    (cond-false row.0 (Some row.1) (first_of rows) parts.0 ∙ rest.0, rest.1)

-- every fault but want of memory
abbrev is_of_file : ImageFault → Bool
is_of_file NoMemory = false
is_of_file _ = true

one_of : (b : Bool) (fault other : ImageFault) (rest : Option ImageFault) → is_of_file other ≡ true → (rest ≡ Some fault → is_of_file fault ≡ true) → cond b (Some other) rest ≡ Some fault → is_of_file fault ≡ true
one_of true fault other rest own later found = cc
one_of false fault other rest own later found = later found

-- where no row is want of memory, the first fault isn't
of_file : (rows : List (Bool × ImageFault)) (fault : ImageFault) → list_all (λ row. is_of_file row.1) rows ≡ true → first_of rows ≡ Some fault → is_of_file fault ≡ true
of_file [] fault own found = absurd cc
of_file (row ∷ rows) fault own found =
    let parts = and_parts (is_of_file row.1) (list_all (λ row. is_of_file row.1) rows) own in
    one_of row.0 fault row.1 (first_of rows) parts.0 (of_file rows fault parts.1) found

pub never_no_memory : NoFileIsNoMemory
unfolding first_fault
never_no_memory bytes found =
    both_ways false refl (of_file (file_faults bytes ++ load_faults (length bytes) (entry_address bytes) (headers bytes) (loads bytes)) NoMemory refl found)

pub short_first : ShortIsRefused
unfolding first_fault
short_first bytes short = cond-true _ _ _ (lt-ltb _ _ short)

-- what holds of a file whose header shows no fault
pub record IsWhole (bytes : List ℕ) : Type 0 where
  pub long : 64 ≤ length bytes
  pub table : table_offset bytes + 56 * header_count bytes ≤ length bytes
  pub few : header_count bytes ≤ 64

pub whole : (bytes : List ℕ) → first_of (file_faults bytes) ≡ None → IsWhole bytes
unfolding is_table_outside has_many_headers
whole bytes none =
    let short = peel (is_short bytes) Short _ none in
    let magic = peel (has_other_magic bytes) Magic _ short.1 in
    let class = peel (has_other_class bytes) Class _ magic.1 in
    let kind = peel (has_other_kind bytes) Kind _ class.1 in
    let machine = peel (has_other_machine bytes) Machine _ kind.1 in
    let abi = peel (has_other_abi bytes) Abi _ machine.1 in
    let outside = peel (is_table_outside bytes) TableOutside _ abi.1 in
    let many = peel (has_many_headers bytes) TooManyHeaders None outside.1 in
    let counted = nat_lt 0 (header_count bytes) && not (header_size bytes == 56) in
    record {
      long = ltb-false _ _ short.0;
      table = ltb-false _ _ (or_parts counted _ outside.0).1;
      few = ltb-false _ _ many.0;
    }

-- what holds of program headers that show no fault
pub record IsSound (size entry : ℕ) (loads : List Header) : Type 0 where
  pub inside : some_outside size loads ≡ false
  pub sizes : has_other_size loads ≡ false
  pub places : some_misplaced loads ≡ false
  pub apart : some_share loads ≡ false
  pub entered : is_entry_outside entry loads ≡ false

pub sound : (size entry : ℕ) (table loads : List Header) → first_of (load_faults size entry table loads) ≡ None → IsSound size entry loads
sound size entry table loads none =
    let interp = peel (has_interpreter table) Interp _ none in
    let outside = peel (some_outside size loads) SegmentOutside _ interp.1 in
    let sizes = peel (has_other_size loads) SegmentSize _ outside.1 in
    let places = peel (some_misplaced loads) SegmentAddress _ sizes.1 in
    let overlap = peel (some_share loads) Overlap _ places.1 in
    let empty = peel (has_no_load loads) NoSegment _ overlap.1 in
    let entered = peel (is_entry_outside entry loads) EntryOutside None empty.1 in
    record {
      inside = outside.0;
      sizes = sizes.0;
      places = places.0;
      apart = overlap.0;
      entered = entered.0;
    }
