-- What openat(2) looks at before it opens, and what it cuts.
use Rattle.std.specs.Prelude.{ℕ, ◌==◌, ◌&&◌, ◌||◌, not, bit_and, Bool, if◌then◌else◌, List, [], ◌∷◌, Option, Some, None}
use Rattle.linux_model.specs.Effects.{Effect, CutsFile}
use Rattle.linux_model.specs.Limits.{ENOENT, EEXIST, O_CREAT, O_EXCL, O_TRUNC, OPEN_FLAGS, has, mode_of}

-- the flags, where openat takes them
abbrev pub flags_of : ℕ → Option ℕ
flags_of flags = if mode_of flags == 3 || not (bit_and flags OPEN_FLAGS == flags) then None else Some flags

-- what stands against opening a name, by whether it has a file
abbrev pub refusal : Bool → ℕ → Option ℕ
refusal is_there flags =
    if is_there && has flags O_CREAT && has flags O_EXCL then Some EEXIST else (
    if not is_there && not (has flags O_CREAT) then Some ENOENT else None)

-- a file is cut to 0 bytes where O_TRUNC says so and it is opened to be written
abbrev pub cuts : ℕ → ℕ → List Effect
cuts file flags = if has flags O_TRUNC && not (mode_of flags == 0) then CutsFile file 0 ∷ [] else []
