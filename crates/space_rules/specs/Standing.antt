-- A stack that a process starts with, and where its parts are.
use Rattle.std.specs.Prelude.{◌≡◌, ℕ, ◌+◌, ◌≤◌, ◌%◌, false, List, length}
use Rattle.space_rules.specs.declared.TheConstants.{STACK_START, STACK_END}
use Rattle.space_rules.specs.declared.stack.StackImage.{StackImage}
use Rattle.space_rules.specs.declared.stack.Layout.{Layout}
use Rattle.space_rules.specs.Start.{is_too_big, strings_start, env_start, sp_of, gap_of, stack_bytes}

-- bytes from a stack pointer to the stack's end, within the pages of the stack
pub record IsWithinStack (sp : ℕ) (bytes : List ℕ) : Type 0 where
  pub start : STACK_START ≤ sp
  pub ends : sp + length bytes ≡ STACK_END
  pub aligned : sp % 16 ≡ 0

-- the stack of these arguments, this environment and this entry
pub record IsStack (args env : List (List ℕ)) (entry : ℕ) (image : StackImage) : Type 0 where
  pub sp : image.sp ≡ sp_of args env
  pub bytes : image.bytes ≡ stack_bytes args env entry
  pub within : IsWithinStack image.sp image.bytes

-- Strings that aren't too big have their stack within its pages.
abbrev pub StackIsWithin : Type 0
StackIsWithin = (args env : List (List ℕ)) (entry : ℕ) → is_too_big args env ≡ false → IsWithinStack (sp_of args env) (stack_bytes args env entry)

-- where the parts of a stack are
pub record IsLayout (args env : List (List ℕ)) (layout : Layout) : Type 0 where
  pub strings : layout.strings ≡ strings_start args env
  pub env_strings : layout.env ≡ env_start args env
  pub sp : layout.sp ≡ sp_of args env
  pub gap : layout.gap ≡ gap_of args env
