-- From what was read of a file to its first fault and its program.
use Rattle.std.proofs.Common.{◌≡◌, ℕ, ◌≤◌, List, Some, None, length, map, sym, ap, ◌∙◌}
use Rattle.elf_image.specs.declared.fault.ImageFault.{ImageFault}
use Rattle.elf_image.specs.declared.header.Header.{Header}
use Rattle.elf_image.specs.declared.image.Segment.{Segment}
use Rattle.elf_image.specs.File.{entry_address, headers, loads_of}
use Rattle.elf_image.specs.Image.{Program, file_faults, load_faults, first_of, loads, first_fault, segment_of, highest_end, page_from, program_of}
use Rattle.elf_image.proofs.Faults.{first_of-append_none, first_of-append_some, sound}
use Rattle.elf_image.proofs.Bounds.{highest_within}

-- entry, program headers and loads are the file's
pub record IsRead (bytes : List ℕ) (entry : ℕ) (table chosen : List Header) : Type 0 where
  pub entry_is : entry ≡ entry_address bytes
  pub table_is : table ≡ headers bytes
  pub loads_are : chosen ≡ loads bytes

pub is_read : (bytes : List ℕ) (entry : ℕ) (table searched shown items chosen : List Header) → entry ≡ entry_address bytes → table ≡ headers bytes → searched ≡ table → shown ≡ table → items ≡ loads_of searched → chosen ≡ items → IsRead bytes entry shown chosen
is_read bytes entry table searched shown items chosen entry_is read from_table shown_is selected chosen_are = record {
  entry_is = entry_is;
  table_is = shown_is ∙ read;
  loads_are = chosen_are ∙ (selected ∙ ap loads_of (from_table ∙ read));
}

same_rows : (bytes : List ℕ) (entry : ℕ) (table chosen : List Header) → IsRead bytes entry table chosen → first_of (load_faults (length bytes) entry table chosen) ≡ first_of (load_faults (length bytes) (entry_address bytes) (headers bytes) (loads bytes))
same_rows bytes entry table chosen read =
    ap (λ (e : ℕ). first_of (load_faults (length bytes) e table chosen)) read.entry_is
    ∙ (ap (λ (t : List Header). first_of (load_faults (length bytes) (entry_address bytes) t chosen)) read.table_is
    ∙ ap (λ (l : List Header). first_of (load_faults (length bytes) (entry_address bytes) (headers bytes) l)) read.loads_are)

-- a fault that the file's header shows is the first
pub early_fault : (bytes : List ℕ) (fault : ImageFault) → first_of (file_faults bytes) ≡ Some fault → first_fault bytes ≡ Some fault
unfolding first_fault
early_fault bytes fault found =
    first_of-append_some (file_faults bytes) (load_faults (length bytes) (entry_address bytes) (headers bytes) (loads bytes)) fault found

late_rows : (bytes : List ℕ) (entry : ℕ) (table chosen : List Header) → IsRead bytes entry table chosen → first_of (file_faults bytes) ≡ None → first_fault bytes ≡ first_of (load_faults (length bytes) entry table chosen)
unfolding first_fault
late_rows bytes entry table chosen read none =
    first_of-append_none (file_faults bytes) (load_faults (length bytes) (entry_address bytes) (headers bytes) (loads bytes)) none
    ∙ sym (same_rows bytes entry table chosen read)

-- where the file's header shows none, one that the program headers show is the first
pub late_fault : (bytes : List ℕ) (entry : ℕ) (table chosen : List Header) (fault : ImageFault) → IsRead bytes entry table chosen → first_of (file_faults bytes) ≡ None → first_of (load_faults (length bytes) entry table chosen) ≡ Some fault → first_fault bytes ≡ Some fault
late_fault bytes entry table chosen fault read none found = late_rows bytes entry table chosen read none ∙ found

-- where neither shows one, there is none
pub no_fault : (bytes : List ℕ) (entry : ℕ) (table chosen : List Header) → IsRead bytes entry table chosen → first_of (file_faults bytes) ≡ None → first_of (load_faults (length bytes) entry table chosen) ≡ None → first_fault bytes ≡ None
no_fault bytes entry table chosen read none more = late_rows bytes entry table chosen read none ∙ more

-- loads that show no fault end at an address of loads
pub ends_within : (bytes : List ℕ) (entry : ℕ) (table chosen again items : List Header) → first_of (load_faults (length bytes) entry table chosen) ≡ None → chosen ≡ items → again ≡ items → highest_end again ≤ 0x2000000000
ends_within bytes entry table chosen again items none same more =
    rw (more ∙ sym same) (highest_within chosen (sound (length bytes) entry table chosen none).places)

-- the parts that were made of what was read are the program
pub program_is : (bytes : List ℕ) (entry brk : ℕ) (table chosen loaded ended items : List Header) (segments : List Segment) → IsRead bytes entry table chosen → chosen ≡ items → loaded ≡ items → ended ≡ items → segments ≡ map (segment_of bytes) loaded → brk ≡ page_from (highest_end ended) → ◌≡◌ {A = Program} (record { entry = entry; segments = segments; brk = brk }) (program_of bytes)
unfolding program_of
program_is bytes entry brk table chosen loaded ended items segments read chosen_are loaded_are ended_are made behind =
    let first : loaded ≡ loads bytes = loaded_are ∙ (sym chosen_are ∙ read.loads_are) in
    let last : ended ≡ loads bytes = ended_are ∙ (sym chosen_are ∙ read.loads_are) in
    let parts : segments ≡ map (segment_of bytes) (loads bytes) = made ∙ ap (map (segment_of bytes)) first in
    let breaks : brk ≡ page_from (highest_end (loads bytes)) = behind ∙ ap (λ (l : List Header). page_from (highest_end l)) last in
    ap (λ (e : ℕ). record { entry = e; segments = segments; brk = brk }) read.entry_is
    ∙ (ap (λ (s : List Segment). record { entry = entry_address bytes; segments = s; brk = brk }) parts
    ∙ ap (λ (b : ℕ). record { entry = entry_address bytes; segments = map (segment_of bytes) (loads bytes); brk = b }) breaks)
