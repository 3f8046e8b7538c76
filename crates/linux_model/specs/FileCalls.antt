-- The calls on files, pipes and streams, one row a call.
use Rattle.std.specs.Prelude.{ℕ, ◌+◌, ◌-◌, ◌*◌, ◌^◌, ◌==◌, ◌&&◌, ◌||◌, not, if◌then◌else◌, nat_lt, nat_le, bit_and, List, [], ◌∷◌, ◌++◌, length, take, Option, Some, None, is_some, is_none}
use Rattle.lego_base.specs.declared.ids.FileNo.{FileNo}
use Rattle.lego_base.specs.declared.sizes.TheConstants.{LONGEST_FILE}
use Rattle.lego_base.specs.Files.{file_bytes}
use Rattle.lego_base.specs.Pieces.{piece}
use Rattle.lego_base.specs.Space.{bytes_at}
use Rattle.kernel_objects.specs.declared.descriptor.Object.{Object}
use Rattle.kernel_objects.specs.declared.descriptor.Object.TheVariants.{Input, Output, Regular, PipeRead, PipeWrite}
use Rattle.kernel_objects.specs.declared.descriptor.Stream.{Stream}
use Rattle.kernel_objects.specs.declared.process.Waiting.{Waiting}
use Rattle.kernel_objects.specs.Slots.{lowest_free}
use Rattle.kernel_objects.specs.declared.piece.Piece.{Piece}
use Rattle.linux_model.specs.Limits.{ENOENT, EBADF, EEXIST, EISDIR, EINVAL, ENFILE, EMFILE, EFBIG, ENOSPC, ESPIPE, SIGPIPE, O_CREAT, O_EXCL, O_TRUNC, O_APPEND, O_CLOEXEC, OPEN_FLAGS, FILES, PIPE_BYTES, PIPE_BUF, VECTOR_PIECES, has, mode_of, is_negative}
use Rattle.linux_model.specs.State.{Kernel, Process}
use Rattle.linux_model.specs.Processes.{has_reader, has_writer}
use Rattle.linux_model.specs.Effects.{Effect, Reads, MakesFile, Unlinks, AsksSize, ReadsFile, WritesFile, CutsFile, Opens, Seeks, PutsPipe, TakesPipe, Takes, Puts, CopyIn, pipe_bytes}
use Rattle.linux_model.specs.Called.{Called, Gives, Waits, Death, says, following, first, given}
use Rattle.linux_model.specs.Buffers.{one_piece, counted, total, part, where_good, bytes_in, copies_in, copies_out, pieces_of, to_read, to_write}
use Rattle.linux_model.specs.Paths.{Found, Root, Named, at_path}
use Rattle.linux_model.specs.Descriptors.{Open, opened, that, is_readable, is_writable, file_of, descriptions_left, freeing}

-- ---- names

-- unlinkat(2): the name goes, and the file with it where no description has it
abbrev pub unlinked : Kernel → Found → Called
unlinked k Root = says EISDIR
unlinked k (Named name None) = says ENOENT
unlinked k (Named name (Some file)) = Gives (Unlinks name ∷ freeing (Some file.0) k) 0

abbrev pub unlinkat_row : Process → Kernel → ℕ → ℕ → ℕ → Called
unlinkat_row p k dir path flags =
    first ((not (flags == 0), EINVAL) ∷ [])
    (at_path p k dir path (unlinked k))

-- a file gets a descriptor at offset 0, and is cut to 0 bytes where O_TRUNC says so and it is opened to be written
abbrev pub opens_file : Process → ℕ → ℕ → ℕ → Called
opens_file p fd file flags =
    Gives ((if has flags O_TRUNC && not (mode_of flags == 0) then CutsFile file 0 ∷ [] else [])
    ++ Opens p.pid fd (Regular (record { 0 = file })) flags (has flags O_CLOEXEC) ∷ []) fd

abbrev pub opens_name : Process → Kernel → ℕ → ℕ → List ℕ → Option FileNo → Called
opens_name p k fd flags name (Some file) = opens_file p fd file.0 flags
opens_name p k fd flags name None =
    following (MakesFile name ∷ [])
    (first ((nat_le FILES (length k.files), ENOSPC) ∷ []) (opens_file p fd k.next flags))

abbrev pub opened_at : Process → Kernel → ℕ → Found → Called
opened_at p k flags Root = says EISDIR
opened_at p k flags (Named name file) =
    first ((is_some file && has flags O_CREAT && has flags O_EXCL, EEXIST)
    ∷ (is_none file && not (has flags O_CREAT), ENOENT) ∷ [])
    (given (lowest_free p.fds 0) EMFILE (λ fd.
    first ((nat_lt (descriptions_left k) 1, ENFILE) ∷ [])
    (opens_name p k fd flags name file)))

-- openat(2); the mode is ignored
abbrev pub openat_row : Process → Kernel → ℕ → ℕ → ℕ → Called
openat_row p k dir path flags =
    first ((mode_of flags == 3 || not (bit_and flags OPEN_FLAGS == flags), EINVAL) ∷ [])
    (at_path p k dir path (opened_at p k flags))

-- ---- sizes and offsets

-- ftruncate(2): a file that grows gets zeros
abbrev pub ftruncate_row : Process → Kernel → ℕ → ℕ → Called
ftruncate_row p k fd size =
    given (opened p fd k) EBADF (λ o.
    given (file_of o.is.object) EINVAL (λ file.
    first ((not (is_writable o) || is_negative size, EINVAL)
    ∷ (nat_lt LONGEST_FILE size, EFBIG) ∷ [])
    (Gives (CutsFile file size ∷ []) 0)))

-- a place moved by a signed word: none below 0 or above the greatest signed number
abbrev pub sum_of : ℕ → ℕ → Option ℕ
sum_of place off =
    if is_negative off
    then (if nat_lt place (2 ^ 64 - off) then None else Some (place - (2 ^ 64 - off)))
    else (if is_negative (place + off) then None else Some (place + off))

abbrev pub seeks_from : Open → ℕ → ℕ → Called
seeks_from o place off = given (sum_of place off) EINVAL (λ offset. Gives (Seeks o.desc offset ∷ []) offset)

-- lseek(2): from the start (0), from the offset (1) or from the size (2)
abbrev pub lseek_row : Process → Kernel → ℕ → ℕ → ℕ → Called
lseek_row p k fd off whence =
    given (opened p fd k) EBADF (λ o.
    given (file_of o.is.object) ESPIPE (λ file.
    first ((nat_lt 2 whence, EINVAL) ∷ [])
    (if whence == 2 then following (AsksSize file ∷ []) (seeks_from o (length (file_bytes k.files file)) off) else
    seeks_from o (if whence == 1 then o.is.offset else 0) off)))

-- ---- reading

-- bytes are moved to the first pieces, as far as they go: only these have to be good. What takes the bytes comes before
-- the copies.
abbrev pub moves_out : Process → Kernel → List Piece → List ℕ → List Effect → List Effect → Called
moves_out p k pieces bytes before after =
    where_good p k to_write (part 0 (length bytes) pieces)
    (Gives (before ++ copies_out p.pid (part 0 (length bytes) pieces) bytes ++ after) (length bytes))

-- at most n bytes of a file at an offset
abbrev pub reads_file : Process → Kernel → ℕ → ℕ → List Piece → ℕ → (ℕ → List Effect) → Called
reads_file p k file off pieces n after =
    following (AsksSize file ∷ [])
    (moves_out p k pieces (piece (file_bytes k.files file) off n)
    (ReadsFile file off (length (piece (file_bytes k.files file) off n)) ∷ [])
    (after (length (piece (file_bytes k.files file) off n))))

-- an empty pipe has ended where nobody can write to it
abbrev pub reads_pipe : Process → Kernel → ℕ → List Piece → ℕ → List ℕ → Called
reads_pipe p k pipe pieces n [] = if has_writer pipe k.descs then Waits [] 0 0 else says 0
reads_pipe p k pipe pieces n (byte ∷ bytes) =
    moves_out p k pieces (take n (byte ∷ bytes)) (TakesPipe pipe (length (take n (byte ∷ bytes))) ∷ []) []

abbrev pub reads_object : Process → Kernel → Open → Object → List Piece → ℕ → Called
reads_object p k o Input pieces n = moves_out p k pieces (take n k.input) (Takes (length (take n k.input)) ∷ []) []
reads_object p k o (Regular file) pieces n = reads_file p k file.0 o.is.offset pieces n (λ moved. Seeks o.desc (o.is.offset + moved) ∷ [])
reads_object p k o (PipeRead pipe) pieces n = reads_pipe p k pipe pieces n (pipe_bytes pipe k)
reads_object p k o (Output stream) pieces n = says EBADF
reads_object p k o (PipeWrite pipe) pieces n = says EBADF

abbrev pub reads_pieces : Process → Kernel → Open → List Piece → ℕ → Called
reads_pieces p k o pieces n = first ((n == 0, 0) ∷ []) (reads_object p k o o.is.object pieces n)

-- read(2)
abbrev pub read_row : Process → Kernel → ℕ → ℕ → ℕ → Called
read_row p k fd address len =
    given (that is_readable (opened p fd k)) EBADF (λ o.
    reads_pieces p k o (one_piece address (counted len)) (counted len))

-- what comes of pieces of at most 16 MiB in all
abbrev pub within_total : List Piece → (List Piece → ℕ → Called) → Called
within_total pieces f = first ((nat_lt LONGEST_FILE (total pieces), EINVAL) ∷ []) (f pieces (total pieces))

-- what comes of the list of pieces at an address, which is read by one copy
abbrev pub with_vector : Process → Kernel → ℕ → ℕ → (List Piece → ℕ → Called) → Called
with_vector p k address count f =
    first ((nat_lt VECTOR_PIECES count, EINVAL) ∷ [])
    (where_good p k to_read (one_piece address (16 * count))
    (following (Reads CopyIn p.pid address (bytes_at (k.space p.pid) address (16 * count)) ∷ [])
    (within_total (pieces_of count (bytes_at (k.space p.pid) address (16 * count))) f)))

-- readv(2)
abbrev pub readv_row : Process → Kernel → ℕ → ℕ → ℕ → Called
readv_row p k fd address count =
    given (that is_readable (opened p fd k)) EBADF (λ o.
    with_vector p k address count (reads_pieces p k o))

-- pread64(2): the offset stays
abbrev pub pread64_row : Process → Kernel → ℕ → ℕ → ℕ → ℕ → Called
pread64_row p k fd address len off =
    first ((is_negative off, EINVAL) ∷ [])
    (given (that is_readable (opened p fd k)) EBADF (λ o.
    given (file_of o.is.object) ESPIPE (λ file.
    reads_file p k file off (one_piece address (counted len)) (counted len) (λ moved. []))))

-- ---- writing

abbrev pub writes_at : Process → Kernel → ℕ → ℕ → List Piece → ℕ → (ℕ → List Effect) → Called
writes_at p k file at pieces n after =
    first ((nat_lt LONGEST_FILE (at + n), EFBIG) ∷ [])
    (Gives (copies_in p.pid (k.space p.pid) pieces ++ WritesFile file at (bytes_in (k.space p.pid) pieces) ∷ after (at + n)) n)

-- to a file at an offset, with O_APPEND at its size
abbrev pub writes_file : Process → Kernel → ℕ → ℕ → ℕ → List Piece → ℕ → (ℕ → List Effect) → Called
writes_file p k file flags off pieces n after =
    if has flags O_APPEND
    then following (AsksSize file ∷ []) (writes_at p k file (length (file_bytes k.files file)) pieces n after)
    else writes_at p k file off pieces n after

abbrev pub writes_stream : Process → Kernel → Stream → List Piece → ℕ → Called
writes_stream p k stream pieces n = Gives (copies_in p.pid (k.space p.pid) pieces ++ Puts stream (bytes_in (k.space p.pid) pieces) ∷ []) n

-- bytes that a pipe has room for
abbrev pub room_of : ℕ → Kernel → ℕ
room_of pipe k = PIPE_BYTES - length (pipe_bytes pipe k)

abbrev pub puts_pieces : Process → Kernel → ℕ → List Piece → List Effect
puts_pieces p k pipe pieces = copies_in p.pid (k.space p.pid) pieces ++ PutsPipe pipe (bytes_in (k.space p.pid) pieces) ∷ []

-- pipe(7): up to PIPE_BUF bytes go in at once, or wait
abbrev pub writes_short : Process → Kernel → ℕ → List Piece → ℕ → Called
writes_short p k pipe pieces n = if nat_lt (room_of pipe k) n then Waits [] 0 n else Gives (puts_pieces p k pipe pieces) n

-- of more bytes those go in that there is room for, and the others wait
abbrev pub writes_long : Process → Kernel → ℕ → List Piece → ℕ → ℕ → Called
writes_long p k pipe pieces n moved =
    if nat_lt (moved + room_of pipe k) n
    then Waits (puts_pieces p k pipe (part moved (room_of pipe k) pieces)) (moved + room_of pipe k) n
    else Gives (puts_pieces p k pipe (part moved (n - moved) pieces)) n

-- bytes that the call has moved at earlier tries
abbrev pub moved_before : Option Waiting → ℕ
moved_before None = 0
moved_before (Some w) = w.moved

abbrev pub writes_pipe : Process → Kernel → ℕ → List Piece → ℕ → Called
writes_pipe p k pipe pieces n =
    if nat_le n PIPE_BUF then writes_short p k pipe pieces n else writes_long p k pipe pieces n (moved_before p.waiting)

-- a write to a pipe without readers kills
abbrev pub writes_object : Process → Kernel → Open → Object → List Piece → ℕ → Called
writes_object p k o (Output stream) pieces n = where_good p k to_read pieces (writes_stream p k stream pieces n)
writes_object p k o (Regular file) pieces n =
    where_good p k to_read pieces (writes_file p k file.0 o.is.flags o.is.offset pieces n (λ offset. Seeks o.desc offset ∷ []))
writes_object p k o (PipeWrite pipe) pieces n =
    if has_reader pipe k.descs then where_good p k to_read pieces (writes_pipe p k pipe pieces n) else Death [] SIGPIPE
writes_object p k o Input pieces n = says EBADF
writes_object p k o (PipeRead pipe) pieces n = says EBADF

abbrev pub writes_pieces : Process → Kernel → Open → List Piece → ℕ → Called
writes_pieces p k o pieces n = first ((n == 0, 0) ∷ []) (writes_object p k o o.is.object pieces n)

-- write(2)
abbrev pub write_row : Process → Kernel → ℕ → ℕ → ℕ → Called
write_row p k fd address len =
    given (that is_writable (opened p fd k)) EBADF (λ o.
    writes_pieces p k o (one_piece address (counted len)) (counted len))

-- writev(2)
abbrev pub writev_row : Process → Kernel → ℕ → ℕ → ℕ → Called
writev_row p k fd address count =
    given (that is_writable (opened p fd k)) EBADF (λ o.
    with_vector p k address count (writes_pieces p k o))

-- pwrite64(2): the offset stays; with O_APPEND the bytes go to the end, as on Linux
abbrev pub pwrite64_row : Process → Kernel → ℕ → ℕ → ℕ → ℕ → Called
pwrite64_row p k fd address len off =
    first ((is_negative off, EINVAL) ∷ [])
    (given (that is_writable (opened p fd k)) EBADF (λ o.
    given (file_of o.is.object) ESPIPE (λ file.
    first ((len == 0, 0) ∷ [])
    (where_good p k to_read (one_piece address (counted len))
    (writes_file p k file o.is.flags off (one_piece address (counted len)) (counted len) (λ offset. []))))))
