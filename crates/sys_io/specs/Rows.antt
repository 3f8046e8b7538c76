-- Parts of the rows of the calls that move bytes: what is read and written, by what is open.
use Rattle.std.specs.Prelude.{◌≡◌, ℕ, ◌+◌, Bool, if◌then◌else◌, take, length, List, [], ◌∷◌, Option, option_and_then, option_map}
use Rattle.kernel_objects.specs.declared.descriptor.Stream.{Stream}
use Rattle.kernel_objects.specs.declared.piece.Piece.{Piece}
use Rattle.linux_model.specs.State.{Kernel, Process}
use Rattle.linux_model.specs.Processes.{has_reader, process}
use Rattle.linux_model.specs.Effects.{Effect, Seeks, Takes}
use Rattle.linux_model.specs.Buffers.{to_read, where_good}
use Rattle.linux_model.specs.Called.{Called, Death}
use Rattle.linux_model.specs.Descriptors.{Open, opened, that}
use Rattle.linux_model.specs.FileCalls.{moves_out, reads_file, writes_file, writes_pipe, writes_stream}
use Rattle.linux_model.specs.Limits.{SIGPIPE}
use Rattle.linux_model.specs.Managed.{Managed, with_managed}
use Rattle.manager.specs.declared.manager.Opened.{Opened}
use Rattle.manager.specs.Words.{open_of}

-- what a descriptor is open on, where a test picks it
abbrev pub OpenTo : (Open → Bool) → Managed → ℕ → ℕ → Option Opened → Type 0
OpenTo test man pid fd found =
    (k : Kernel) → option_map open_of found ≡ option_and_then (λ p. that test (opened p fd (with_managed man k))) (process man.procs pid)

-- ---- reading

-- a file, at the offset of its description
abbrev pub file_read : Open → ℕ → List Piece → ℕ → Process → Kernel → Called
file_read o file pieces n p k = reads_file p k file o.is.offset pieces n (λ moved. Seeks o.desc (o.is.offset + moved) ∷ [])

-- standard input
abbrev pub input_read : List Piece → ℕ → Process → Kernel → Called
input_read pieces n p k = moves_out p k pieces (take n k.input) (Takes (length (take n k.input)) ∷ []) []

-- ---- writing

-- a file at a place, and what comes after it
abbrev pub place_write : ℕ → ℕ → ℕ → List Piece → ℕ → (ℕ → List Effect) → Process → Kernel → Called
place_write file flags off pieces n after p k = where_good p k to_read pieces (writes_file p k file flags off pieces n after)

-- a file, at the offset of its description
abbrev pub file_write : Open → ℕ → List Piece → ℕ → Process → Kernel → Called
file_write o file pieces n = place_write file o.is.flags o.is.offset pieces n (λ offset. Seeks o.desc offset ∷ [])

-- standard output or standard error
abbrev pub stream_write : Stream → List Piece → ℕ → Process → Kernel → Called
stream_write stream pieces n p k = where_good p k to_read pieces (writes_stream p k stream pieces n)

-- a pipe: who writes to one without readers dies
abbrev pub pipe_write : ℕ → List Piece → ℕ → Process → Kernel → Called
pipe_write pipe pieces n p k =
    if has_reader pipe k.descs then where_good p k to_read pieces (writes_pipe p k pipe pieces n) else Death [] SIGPIPE
