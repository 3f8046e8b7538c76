-- What an answer unfolds to compute on a file that is written out.
use Rattle.std.specs.Prelude.{⊤}
use Rattle.elf_image.specs.File.{field, header_at, headers, loads_of}
use Rattle.elf_image.specs.Image.{has_other_magic, has_other_class, has_other_kind, has_other_machine, has_other_abi, is_table_outside, has_many_headers, has_interpreter, some_outside, has_other_size, some_misplaced, some_share, has_no_load, is_entry_outside, first_fault, program_of}

unfoldable pub elf_image_on_literals : ⊤
unfolding field header_at headers loads_of has_other_magic has_other_class has_other_kind has_other_machine has_other_abi is_table_outside has_many_headers has_interpreter some_outside has_other_size some_misplaced some_share has_no_load is_entry_outside first_fault program_of
elf_image_on_literals = tt
