-- What the code tells of the lists of strings that execve(2) reads.
use Rattle.std.specs.Prelude.{◌≡◌, ℕ, ◌+◌, ◌-◌, ◌<◌, ◌≤◌, if◌then◌else◌, List, length, Option, Some, None, Result, Ok, Err}
use Rattle.lego_base.specs.declared.sizes.TheConstants.{USER_END}
use Rattle.lego_base.specs.Space.{Space, permits, bytes_at, number_of}
use Rattle.space_rules.specs.Start.{closed_all}
use Rattle.linux_model.specs.Effects.{Effect}
use Rattle.linux_model.specs.ProcessCalls.{Strings, no_strings, reads_first, string_first, strings_at}
use Rattle.sys_process.specs.declared.strings.StringList.{StringList}
use Rattle.sys_process.specs.declared.strings.Item.{Item}
use Rattle.sys_process.specs.declared.strings.Item.TheVariants.{String, End, Fault}

-- the strings with what is left, or the error
abbrev pub told_by : Option ℕ → Strings → Result StringList ℕ
told_by None s = Ok (record { strings = s.strings; left = s.left; room = s.room })
told_by (Some errno) s = Err errno

abbrev pub told : Strings → Result StringList ℕ
told s = told_by s.fault s

-- the strings that were read and those that may follow are as many as there might be, and so are their bytes
pub record Counts (left room : ℕ) (list : StringList) : Type 0 where
  pub addresses : length list.strings + list.left ≡ left
  pub bytes : length (closed_all list.strings) + list.room ≡ room

-- the number at an address, where it may be read
abbrev pub word_at : Space → ℕ → Option ℕ
word_at space at = if permits space 1 at 8 then Some (number_of (bytes_at space at 8)) else None

-- what was read at a place of a list, for what stands there and for what follows
pub record StringIs {X : Type 0} (does : X → X → List Effect → Type 0) (old new : X) (pid : ℕ) (space : Space) (left at room : ℕ) (string : List ℕ) : Type 0 where
  pub reads : List Effect
  pub did : does old new reads
  pub is : strings_at pid space left at room ≡ reads_first reads (string_first string (strings_at pid space (left - 1) (at + 8) (room - (length string + 1))))
  pub some : 0 < left
  pub low : at + 8 ≤ USER_END
  pub within : length string < room

pub record EndIs {X : Type 0} (does : X → X → List Effect → Type 0) (old new : X) (pid : ℕ) (space : Space) (left at room : ℕ) (fault : Option ℕ) : Type 0 where
  pub reads : List Effect
  pub did : does old new reads
  pub left_over : ℕ
  pub is : strings_at pid space left at room ≡ no_strings reads left_over room fault
  pub all_left : fault ≡ None → left_over ≡ left

abbrev pub ItemIs : {X : Type 0} (does : X → X → List Effect → Type 0) → X → X → ℕ → Space → ℕ → ℕ → ℕ → Item → Type 0
ItemIs does old new pid space left at room (String string) = StringIs does old new pid space left at room string
ItemIs does old new pid space left at room End = EndIs does old new pid space left at room None
ItemIs does old new pid space left at room (Fault errno) = EndIs does old new pid space left at room (Some errno)
