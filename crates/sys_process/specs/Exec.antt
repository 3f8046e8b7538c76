-- Parts of the row of execve(2).
use Rattle.std.specs.Prelude.{ℕ, List, [], ◌∷◌, length}
use Rattle.lego_base.specs.Files.{file_bytes}
use Rattle.space_rules.specs.declared.TheConstants.{MOST_STRINGS, MOST_STRING_BYTES}
use Rattle.linux_model.specs.State.{Kernel, Process}
use Rattle.linux_model.specs.Effects.{Effect, AsksSize, ReadsFile}
use Rattle.linux_model.specs.Called.{Called, following}
use Rattle.linux_model.specs.Held.{Held}
use Rattle.linux_model.specs.Paths.{Found}
use Rattle.linux_model.specs.ProcessCalls.{executes_bytes, executes_found, list_at, with_strings}
use Rattle.sys_process.specs.declared.strings.StringList.{StringList}

-- all bytes of a file are read
abbrev pub file_reads : ℕ → Held → List Effect
file_reads file h = AsksSize file ∷ ReadsFile file 0 (length (file_bytes h.files file)) ∷ []

-- the row once the file is known
abbrev pub file_row : List (List ℕ) → List (List ℕ) → ℕ → Process → Kernel → Called
file_row args env file p k =
    following (AsksSize file ∷ ReadsFile file 0 (length (file_bytes k.files file)) ∷ [])
    (executes_bytes p k (file_bytes k.files file) args env)

-- the row once it is known what the path names
abbrev pub lists_row : ℕ → ℕ → Found → Process → Kernel → Called
lists_row args env found p k =
    with_strings (list_at p.pid (k.space p.pid) MOST_STRINGS args MOST_STRING_BYTES) (λ a.
    with_strings (list_at p.pid (k.space p.pid) a.left env a.room) (λ e.
    executes_found p k a.strings e.strings found))

-- and once the arguments were read
abbrev pub env_row : StringList → ℕ → Found → Process → Kernel → Called
env_row args env found p k =
    with_strings (list_at p.pid (k.space p.pid) args.left env args.room) (λ e.
    executes_found p k args.strings e.strings found)
