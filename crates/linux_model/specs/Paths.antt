-- Paths: how one is read from a process's space, and what it names. There is the root directory with files in it.
use Rattle.std.specs.Prelude.{ℕ, zero, suc, ◌+◌, ◌==◌, ◌&&◌, not, Bool, true, false, if◌then◌else◌, nat_lt, List, [], ◌∷◌, length, Option, is_some}
use Rattle.lego_base.specs.declared.ids.FileNo.{FileNo}
use Rattle.lego_base.specs.Files.{named}
use Rattle.lego_base.specs.Space.{Space, permits}
use Rattle.kernel_objects.specs.Slots.{slot}
use Rattle.linux_model.specs.Limits.{EBADF, EFAULT, ENOENT, ENOTDIR, ENAMETOOLONG, AT_FDCWD, NAME_BYTES, PATH_BYTES}
use Rattle.linux_model.specs.State.{Kernel, Process}
use Rattle.linux_model.specs.Effects.{Effect, Reads, Refused, LooksUp, CopyIn}
use Rattle.linux_model.specs.Called.{Called, says, following, first}
use Rattle.linux_model.specs.Buffers.{to_read}

-- ---- text in a space

-- how the reading of a text ended: at its closing 0, at a byte that may not be read, or at the most bytes
pub data TextEnd : Type 0 where
  AtZero : TextEnd
  Denied : TextEnd
  Long : TextEnd

-- the reads of a text, its bytes without the closing 0, and how it ended
pub record Text : Type 0 where
  pub reads : List Effect
  pub bytes : List ℕ
  pub end : TextEnd

abbrev pub one_read : ℕ → ℕ → ℕ → Effect
one_read pid address byte = Reads CopyIn pid address (byte ∷ [])

-- one more byte before a text
abbrev pub more_text : ℕ → ℕ → ℕ → Text → Text
more_text pid address byte text = record { reads = one_read pid address byte ∷ text.reads; bytes = byte ∷ text.bytes; end = text.end }

-- a text by its first byte: whether that may be read, whether it is 0, and what follows it
abbrev pub text_on : Bool → Bool → ℕ → ℕ → ℕ → (ℕ → Text) → Text
text_on false is_end pid address byte more = record { reads = Refused CopyIn pid address 1 ∷ []; bytes = []; end = Denied }
text_on true true pid address byte more = record { reads = one_read pid address byte ∷ []; bytes = []; end = AtZero }
text_on true false pid address byte more = more_text pid address byte (more (address + 1))

-- the text at an address, byte by byte, of at most a given number of bytes with its closing 0
abbrev pub text_at : ℕ → Space → ℕ → ℕ → Text
text_at pid space zero address = record { reads = []; bytes = []; end = Long }
text_at pid space (suc most) address = text_on (permits space to_read address 1) (space.byte address == 0) pid address (space.byte address) (λ next. text_at pid space most next)

-- ---- parts

-- one more byte before parts: a slash ends a part
abbrev pub with_byte : Bool → ℕ → List (List ℕ) → List (List ℕ)
with_byte true byte parts = [] ∷ parts
with_byte false byte [] = (byte ∷ []) ∷ []
with_byte false byte (part ∷ parts) = (byte ∷ part) ∷ parts

-- the parts of a path, between its slashes
abbrev pub parts_of : List ℕ → List (List ℕ)
parts_of [] = [] ∷ []
parts_of (byte ∷ path) = with_byte (byte == 47) byte (parts_of path)

-- a part that names the root where it is in the root: empty, `.` or `..`
abbrev pub is_root_part : List ℕ → Bool
is_root_part [] = true
is_root_part (a ∷ []) = a == 46
is_root_part (a ∷ b ∷ []) = a == 46 && b == 46
is_root_part (a ∷ b ∷ c ∷ part) = false

-- the parts starting at the first name
abbrev pub without_root_parts : List (List ℕ) → List (List ℕ)
without_root_parts [] = []
without_root_parts (part ∷ parts) = if is_root_part part then without_root_parts parts else part ∷ parts

abbrev pub is_relative : List ℕ → Bool
is_relative [] = true
is_relative (byte ∷ path) = not (byte == 47)

-- ---- what a path names

-- the root, or a name with the file that has it
pub data Found : Type 0 where
  Root : Found
  Named : List ℕ → Option FileNo → Found

-- Where parts lead that begin with a name. A file isn't a directory, so nothing is below its name.
abbrev pub walked : List (List ℕ) → Kernel → (Found → Called) → Called
walked [] k f = f Root
walked (name ∷ []) k f =
    if nat_lt NAME_BYTES (length name) then says ENAMETOOLONG
    else following (LooksUp name ∷ []) (f (Named name (named k.names name)))
walked (name ∷ part ∷ parts) k f =
    if nat_lt NAME_BYTES (length name) then says ENOENT
    else following (LooksUp name ∷ []) (says (if is_some (named k.names name) then ENOTDIR else ENOENT))

-- Where a path leads. A relative one begins at the working directory, or where a descriptor is open, which is no
-- directory.
abbrev pub resolved : Process → Kernel → ℕ → List ℕ → (Found → Called) → Called
resolved p k dir path f =
    first ((length path == 0, ENOENT)
    ∷ (is_relative path && not (dir == AT_FDCWD), if is_some (slot p.fds dir) then ENOTDIR else EBADF) ∷ [])
    (walked (without_root_parts (parts_of path)) k f)

abbrev pub of_text : Process → Kernel → ℕ → List ℕ → TextEnd → (Found → Called) → Called
of_text p k dir path AtZero f = resolved p k dir path f
of_text p k dir path Denied f = says EFAULT
of_text p k dir path Long f = says ENAMETOOLONG

abbrev pub with_path : Process → Kernel → ℕ → Text → (Found → Called) → Called
with_path p k dir text f = following text.reads (of_text p k dir text.bytes text.end f)

-- path_resolution(7): what comes of the path at an address, or why it names nothing
abbrev pub at_path : Process → Kernel → ℕ → ℕ → (Found → Called) → Called
at_path p k dir address f = with_path p k dir (text_at p.pid (k.space p.pid) PATH_BYTES address) f
