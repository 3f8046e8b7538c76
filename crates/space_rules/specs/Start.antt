-- The stack with which a process starts, as the System V ABI for RISC-V has it at a program's entry: starting at the
-- stack pointer, argc, the addresses of the arguments, 0, the addresses of the environment's strings, 0 and the
-- auxiliary vector, in words of 8 bytes with the lowest byte first; the strings are at the stack's end.
use Rattle.std.specs.Prelude.{ℕ, ◌+◌, ◌-◌, ◌*◌, ◌/◌, nat_lt, Bool, ◌||◌, List, [], ◌∷◌, ◌++◌, length, replicate, flat_map}
use Rattle.lego_base.specs.declared.sizes.TheConstants.{PAGE_BYTES}
use Rattle.lego_base.specs.Space.{bytes_of}
use Rattle.space_rules.specs.declared.TheConstants.{STACK_END, MOST_STRINGS, MOST_STRING_BYTES}

-- a string with its closing 0
abbrev pub closed : List ℕ → List ℕ
closed string = string ++ 0 ∷ []

-- strings one after the other, each with its closing 0
abbrev pub closed_all : List (List ℕ) → List ℕ
closed_all strings = flat_map closed strings

-- the bytes of all strings, of the arguments and then of the environment
abbrev pub strings_of : List (List ℕ) → List (List ℕ) → List ℕ
strings_of args env = closed_all (args ++ env)

-- there are more strings, or more bytes of strings, than a process can start with
abbrev pub is_too_big : List (List ℕ) → List (List ℕ) → Bool
is_too_big args env = nat_lt MOST_STRINGS (length args + length env) || nat_lt MOST_STRING_BYTES (length (strings_of args env))

-- the address of the first string: the last one ends where the stack ends
abbrev pub strings_start : List (List ℕ) → List (List ℕ) → ℕ
strings_start args env = STACK_END - length (strings_of args env)

-- the addresses of strings of which the first is at an address and each next one follows
abbrev pub addresses : ℕ → List (List ℕ) → List ℕ
addresses from [] = []
addresses from (string ∷ strings) = from ∷ addresses (from + length (closed string)) strings

-- the address of the first string of the environment
abbrev pub env_start : List (List ℕ) → List (List ℕ) → ℕ
env_start args env = strings_start args env + length (closed_all args)

-- kinds of entries of the auxiliary vector, as in `elf.h`: its end, the size of a page, the address of the entry
abbrev pub at_null : ℕ
at_null = 0

abbrev pub at_pagesz : ℕ
at_pagesz = 6

abbrev pub at_entry : ℕ
at_entry = 9

-- getauxval(3): each value after its kind
abbrev pub auxiliary_vector : ℕ → List ℕ
auxiliary_vector entry = at_pagesz ∷ PAGE_BYTES ∷ at_entry ∷ entry ∷ at_null ∷ 0 ∷ []

-- the words that begin at the stack pointer
abbrev pub words_of : List (List ℕ) → List (List ℕ) → ℕ → List ℕ
words_of args env entry =
    length args ∷ addresses (strings_start args env) args ++ 0 ∷ addresses (env_start args env) env ++ 0 ∷ auxiliary_vector entry

-- the number of these words, which doesn't depend on the entry
abbrev pub word_count : List (List ℕ) → List (List ℕ) → ℕ
word_count args env = length (words_of args env 0)

-- the stack pointer: the highest multiple of 16 with room for the words below the strings
abbrev pub sp_of : List (List ℕ) → List (List ℕ) → ℕ
sp_of args env = (strings_start args env - 8 * word_count args env) / 16 * 16

-- the zeros between the words and the strings
abbrev pub gap_of : List (List ℕ) → List (List ℕ) → ℕ
gap_of args env = strings_start args env - (sp_of args env + 8 * word_count args env)

-- all bytes from the stack pointer to the stack's end
abbrev pub stack_bytes : List (List ℕ) → List (List ℕ) → ℕ → List ℕ
stack_bytes args env entry = flat_map (bytes_of 8) (words_of args env entry) ++ replicate (gap_of args env) 0 ++ strings_of args env
