-- What a call does touches the space of its process alone, row by row; clone(2) is the one that bears a process. Names that
-- paths lead to are short.
use Rattle.std.proofs.Common.{◌≡◌, ℕ, ◌≤◌, ◌+◌, ◌-◌, ◌*◌, ◌/◌, Bool, true, false, cond, not, eqb, ltb, leb, ◌==◌, ◌&&◌, ◌||◌, refl, List, [], ◌∷◌, ◌++◌, length, take, Option, Some, None, is_none, is_some, arith}
use Rattle.std.proofs.lemmas.Bool.{ltb-false, or_parts}
use Rattle.lego_base.specs.declared.ids.FileNo.{FileNo}
use Rattle.lego_base.specs.declared.perms.Perms.{Perms}
use Rattle.lego_base.specs.declared.records.Area.{Area}
use Rattle.lego_base.specs.declared.sizes.TheConstants.{LONGEST_FILE, USER_END}
use Rattle.lego_base.specs.Files.{file_bytes, named}
use Rattle.lego_base.specs.Pieces.{piece}
use Rattle.lego_base.specs.Space.{bytes_at}
use Rattle.area_list.specs.Cover.{covered}
use Rattle.area_list.specs.Runs.{cut_runs, put_runs}
use Rattle.elf_image.specs.declared.fault.ImageFault.{ImageFault}
use Rattle.elf_image.specs.Image.{program_of, first_fault}
use Rattle.kernel_objects.specs.declared.descriptor.FdEntry.{FdEntry}
use Rattle.kernel_objects.specs.declared.descriptor.Object.{Object}
use Rattle.kernel_objects.specs.declared.descriptor.Object.TheVariants.{Input, Output, Regular, PipeRead, PipeWrite}
use Rattle.kernel_objects.specs.Slots.{slot}
use Rattle.space_rules.specs.declared.TheConstants.{MAPPINGS_START, MOST_STRINGS, MOST_STRING_BYTES}
use Rattle.kernel_objects.specs.declared.piece.Piece.{Piece}
use Rattle.linux_model.specs.Limits.{EBADF, ECHILD, EFBIG, EINVAL, ENAMETOOLONG, ENOENT, ENOEXEC, ENOMEM, ENOTDIR, ESPIPE, NAME_BYTES, MAPPING_BYTES, ANY, is_negative, AT_FDCWD, PATH_BYTES, VECTOR_PIECES, has, O_APPEND, EFAULT, PIPE_BUF}
use Rattle.linux_model.specs.State.{Kernel, Process}
use Rattle.linux_model.specs.Processes.{Dead, dead_child, has_child, has_reader, has_writer}
use Rattle.linux_model.specs.Effects.{Effect, Reads, Writes, LooksUp, AsksSize, AsksSpace, ReadsFile, WritesFile, CutsFile, Seeks, PutsPipe, TakesPipe, Takes, Puts, Drops, Maps, Protects, Unmaps, Breaks, CopyIn, CopyOut, pipe_bytes}
use Rattle.linux_model.specs.Called.{Called, Gives, Waits, says, following, first, given}
use Rattle.linux_model.specs.Buffers.{one_piece, counted, total, part, where_good, asks_pieces, are_good, bytes_in, copies_in, copies_out, pieces_of, to_read, to_write}
use Rattle.linux_model.specs.Paths.{Found, Root, Named, is_relative, Text, TextEnd, AtZero, Denied, Long, text_at, of_text, at_path, walked, parts_of, without_root_parts}
use Rattle.linux_model.specs.Descriptors.{Open, opened, that, is_readable, is_writable, file_of, closings}
use Rattle.linux_model.specs.FileCalls.{unlinked, unlinkat_row, ftruncate_row, sum_of, seeks_from, lseek_row, moves_out, reads_file, reads_pipe, reads_object, reads_pieces, read_row, with_vector, readv_row, pread64_row, writes_at, writes_file, room_of, puts_pieces, moved_before, writes_pipe, writes_object, writes_pieces, write_row, writev_row, pwrite64_row}
use Rattle.space_rules.specs.Mapped.{read_write}
use Rattle.space_rules.specs.Place.{pages_for, place_of}
use Rattle.linux_model.specs.SpaceCalls.{areas_of, moves_break, is_page_address, is_anywhere, grows, shrinks, brk_between, brk_row, munmap_row, maps_at, maps_fixed, mmap_row, mprotect_row, is_fixed, perms, has_many_runs, is_past_limits, is_free}
use Rattle.linux_model.specs.ProcessCalls.{Strings, list_at, if_no_fault, with_strings, executes, executes_bytes, executes_found, execve_row, status_buffer, reaps, wait4_row}
use Rattle.linux_model.specs.Loading.{loads_program}
use Rattle.lego_base.specs.Space.{bytes_of}
use Rattle.kernel_objects.specs.Slots.{lowest_free, next_slot}
use Rattle.linux_model.specs.Limits.{DESCRIPTORS, EEXIST, EMFILE, ENFILE, ENOSPC, FILES, OPEN_FLAGS, O_CLOEXEC, O_CREAT, O_EXCL, O_TRUNC, O_WRONLY, is_cloexec_alone, mode_of}
use Rattle.linux_model.specs.Effects.{MakesFile, MakesPipe, Opens, Shares}
use Rattle.linux_model.specs.Descriptors.{closing, closing_entry, close_row, descriptions_left, dup_row, dup3_row, entry, pipe2_row}
use Rattle.linux_model.specs.FileCalls.{opened_at, openat_row, opens_file, opens_name}
use Rattle.kernel_laws.proofs.Own.{AllOwn, Good, own-append, following_good, choice, first_good, unless_good, given_good}
use Rattle.kernel_laws.proofs.Breaks.{good_images}
use Rattle.kernel_laws.proofs.Looks.{closing_own, checks, copies, out_copies, text, list, loads, freeing_own, closings_own}

-- ---- buffers and paths

pub buffer : (p : Process) (k : Kernel) (need : ℕ) (pieces : List Piece) (last : Called) → Good p.pid last → Good p.pid (where_good p k need pieces last)
buffer p k need pieces last g =
    following_good p.pid (asks_pieces p.pid (k.space p.pid) need pieces) _ (checks p.pid (k.space p.pid) need pieces)
    (first_good p.pid ((not (are_good (k.space p.pid) need pieces), EFAULT) ∷ []) last g)

walk : (pid : ℕ) (parts : List (List ℕ)) (k : Kernel) (f : Found → Called) → Good pid (f Root) → ((name : List ℕ) → length name ≤ NAME_BYTES → Good pid (f (Named name (named k.names name)))) → Good pid (walked parts k f)
walk pid [] k f root name = root
walk pid (part ∷ []) k f root name =
    unless_good pid (ltb NAME_BYTES (length part)) ENAMETOOLONG (following (LooksUp part ∷ []) (f (Named part (named k.names part))))
    (λ short. following_good pid (LooksUp part ∷ []) _ ((tt, tt)) (name part (ltb-false NAME_BYTES (length part) short)))
walk pid (part ∷ more ∷ parts) k f root name = choice pid (ltb NAME_BYTES (length {A = ℕ} part)) (says ENOENT) (following (LooksUp part ∷ []) (says (cond (is_some (named k.names part)) ENOTDIR ENOENT))) tt (following_good pid (LooksUp part ∷ []) (says (cond (is_some (named k.names part)) ENOTDIR ENOENT)) ((tt, tt)) tt)

of_path : (end : TextEnd) (p : Process) (k : Kernel) (dir : ℕ) (bytes : List ℕ) (f : Found → Called) → Good p.pid (f Root) → ((name : List ℕ) → length name ≤ NAME_BYTES → Good p.pid (f (Named name (named k.names name)))) → Good p.pid (of_text p k dir bytes end f)
of_path AtZero p k dir bytes f root name = first_good p.pid ((length {A = ℕ} bytes == 0, ENOENT) ∷ (is_relative bytes && not (dir == AT_FDCWD), cond (is_some (slot {X = FdEntry} p.fds dir)) ENOTDIR EBADF) ∷ []) _ (walk p.pid (without_root_parts (parts_of bytes)) k f root name)
of_path Denied p k dir bytes f root name = tt
of_path Long p k dir bytes f root name = tt

pub path : (p : Process) (k : Kernel) (dir address : ℕ) (f : Found → Called) → Good p.pid (f Root) → ((name : List ℕ) → length name ≤ NAME_BYTES → Good p.pid (f (Named name (named k.names name)))) → Good p.pid (at_path p k dir address f)
path p k dir address f root name =
    let t : Text = text_at p.pid (k.space p.pid) PATH_BYTES address in
    following_good p.pid t.reads (of_text p k dir t.bytes t.end f) (text p.pid (k.space p.pid) PATH_BYTES address) (of_path t.end p k dir t.bytes f root name)

-- ---- reads and writes

out : (p : Process) (k : Kernel) (pieces : List Piece) (bytes : List ℕ) (before after : List Effect) → AllOwn p.pid before → AllOwn p.pid after → Good p.pid (moves_out p k pieces bytes before after)
out p k pieces bytes before after h m =
    buffer p k to_write (part 0 (length bytes) pieces) _
    (own-append p.pid (before ++ copies_out p.pid (part 0 (length bytes) pieces) bytes) after (own-append p.pid before (copies_out p.pid (part 0 (length bytes) pieces) bytes) h (out_copies p.pid (part 0 (length bytes) pieces) bytes)) m)

file_read : (p : Process) (k : Kernel) (file off : ℕ) (pieces : List Piece) (n : ℕ) (after : ℕ → List Effect) → ((m : ℕ) → AllOwn p.pid (after m)) → Good p.pid (reads_file p k file off pieces n after)
file_read p k file off pieces n after h =
    following_good p.pid (AsksSize file ∷ []) _ ((tt, tt))
    (out p k pieces (piece (file_bytes k.files file) off n) (ReadsFile file off (length (piece (file_bytes k.files file) off n)) ∷ []) (after (length (piece (file_bytes k.files file) off n))) ((tt, tt)) (h (length (piece (file_bytes k.files file) off n))))

pipe_read : (p : Process) (k : Kernel) (pipe : ℕ) (pieces : List Piece) (n : ℕ) (bytes : List ℕ) → Good p.pid (reads_pipe p k pipe pieces n bytes)
pipe_read p k pipe pieces n [] = choice p.pid (has_writer pipe k.descs) (Waits [] 0 0) (says 0) tt tt
pipe_read p k pipe pieces n (byte ∷ bytes) = out p k pieces (take n (byte ∷ bytes)) (TakesPipe pipe (length (take n (byte ∷ bytes))) ∷ []) [] ((tt, tt)) tt

object_read : (p : Process) (k : Kernel) (o : Open) (object : Object) (pieces : List Piece) (n : ℕ) → Good p.pid (reads_object p k o object pieces n)
object_read p k o Input pieces n = out p k pieces (take n k.input) (Takes (length (take n k.input)) ∷ []) [] ((tt, tt)) tt
object_read p k o (Regular file) pieces n = file_read p k file.0 o.is.offset pieces n (λ moved. Seeks o.desc (o.is.offset + moved) ∷ []) (λ m. (tt, tt))
object_read p k o (PipeRead pipe) pieces n = pipe_read p k pipe pieces n (pipe_bytes pipe k)
object_read p k o (Output stream) pieces n = tt
object_read p k o (PipeWrite pipe) pieces n = tt

pieces_read : (p : Process) (k : Kernel) (o : Open) (pieces : List Piece) (n : ℕ) → Good p.pid (reads_pieces p k o pieces n)
pieces_read p k o pieces n = first_good p.pid ((n == 0, 0) ∷ []) _ (object_read p k o o.is.object pieces n)

vector : (p : Process) (k : Kernel) (address count : ℕ) (f : List Piece → ℕ → Called) → ((pieces : List Piece) (n : ℕ) → Good p.pid (f pieces n)) → Good p.pid (with_vector p k address count f)
vector p k address count f g =
    first_good p.pid ((ltb VECTOR_PIECES count, EINVAL) ∷ []) _ (buffer p k to_read (one_piece address (16 * count)) (following (Reads CopyIn p.pid address (bytes_at (k.space p.pid) address (16 * count)) ∷ []) (first ((ltb LONGEST_FILE (total (pieces_of count (bytes_at (k.space p.pid) address (16 * count)))), EINVAL) ∷ []) (f (pieces_of count (bytes_at (k.space p.pid) address (16 * count))) (total (pieces_of count (bytes_at (k.space p.pid) address (16 * count)))))))
    (following_good p.pid (Reads CopyIn p.pid address (bytes_at (k.space p.pid) address (16 * count)) ∷ []) (first ((ltb LONGEST_FILE (total (pieces_of count (bytes_at (k.space p.pid) address (16 * count)))), EINVAL) ∷ []) (f (pieces_of count (bytes_at (k.space p.pid) address (16 * count))) (total (pieces_of count (bytes_at (k.space p.pid) address (16 * count)))))) ((tt, tt))
    (first_good p.pid ((ltb LONGEST_FILE (total (pieces_of count (bytes_at (k.space p.pid) address (16 * count)))), EINVAL) ∷ []) _ (g (pieces_of count (bytes_at (k.space p.pid) address (16 * count))) (total (pieces_of count (bytes_at (k.space p.pid) address (16 * count))))))))

at_write : (p : Process) (k : Kernel) (file at : ℕ) (pieces : List Piece) (n : ℕ) (after : ℕ → List Effect) → ((m : ℕ) → AllOwn p.pid (after m)) → Good p.pid (writes_at p k file at pieces n after)
at_write p k file at pieces n after h =
    first_good p.pid ((ltb LONGEST_FILE (at + n), EFBIG) ∷ []) (Gives (copies_in p.pid (k.space p.pid) pieces ++ WritesFile file at (bytes_in (k.space p.pid) pieces) ∷ after (at + n)) n) (own-append p.pid (copies_in p.pid (k.space p.pid) pieces) (WritesFile file at (bytes_in (k.space p.pid) pieces) ∷ after (at + n)) (copies p.pid (k.space p.pid) pieces) (tt, h (at + n)))

file_write : (p : Process) (k : Kernel) (file flags off : ℕ) (pieces : List Piece) (n : ℕ) (after : ℕ → List Effect) → ((m : ℕ) → AllOwn p.pid (after m)) → Good p.pid (writes_file p k file flags off pieces n after)
file_write p k file flags off pieces n after h =
    choice p.pid (has flags O_APPEND) _ _
    (following_good p.pid (AsksSize file ∷ []) _ ((tt, tt)) (at_write p k file (length (file_bytes k.files file)) pieces n after h))
    (at_write p k file off pieces n after h)

put : (p : Process) (k : Kernel) (pipe : ℕ) (pieces : List Piece) → AllOwn p.pid (puts_pieces p k pipe pieces)
put p k pipe pieces = own-append p.pid (copies_in p.pid (k.space p.pid) pieces) (PutsPipe pipe (bytes_in (k.space p.pid) pieces) ∷ []) (copies p.pid (k.space p.pid) pieces) ((tt, tt))

pipe_write : (p : Process) (k : Kernel) (pipe : ℕ) (pieces : List Piece) (n : ℕ) → Good p.pid (writes_pipe p k pipe pieces n)
pipe_write p k pipe pieces n =
    choice p.pid (leb n PIPE_BUF) _ _
    (choice p.pid (ltb (room_of pipe k) n) (Waits [] 0 n) _ tt (put p k pipe pieces))
    (choice p.pid (ltb (moved_before p.waiting + room_of pipe k) n) _ _
    (put p k pipe (part (moved_before p.waiting) (room_of pipe k) pieces))
    (put p k pipe (part (moved_before p.waiting) (n - moved_before p.waiting) pieces)))

object_write : (p : Process) (k : Kernel) (o : Open) (object : Object) (pieces : List Piece) (n : ℕ) → Good p.pid (writes_object p k o object pieces n)
object_write p k o (Output stream) pieces n =
    buffer p k to_read pieces _ (own-append p.pid (copies_in p.pid (k.space p.pid) pieces) (Puts stream (bytes_in (k.space p.pid) pieces) ∷ []) (copies p.pid (k.space p.pid) pieces) (tt, tt))
object_write p k o (Regular file) pieces n = buffer p k to_read pieces _ (file_write p k file.0 o.is.flags o.is.offset pieces n (λ offset. Seeks o.desc offset ∷ []) (λ m. (tt, tt)))
object_write p k o (PipeWrite pipe) pieces n = choice p.pid (has_reader pipe k.descs) _ _ (buffer p k to_read pieces _ (pipe_write p k pipe pieces n)) tt
object_write p k o Input pieces n = tt
object_write p k o (PipeRead pipe) pieces n = tt

pieces_write : (p : Process) (k : Kernel) (o : Open) (pieces : List Piece) (n : ℕ) → Good p.pid (writes_pieces p k o pieces n)
pieces_write p k o pieces n = first_good p.pid ((n == 0, 0) ∷ []) _ (object_write p k o o.is.object pieces n)

low_break : (address : ℕ) → address ≤ MAPPINGS_START → address ≤ USER_END
low_break address low = omega (arith, low)

no_fault : (fault : Option ImageFault) → is_some fault ≡ false → fault ≡ None
no_fault None e = refl
no_fault (Some fault) e = cc e

module _ (p : Process) (k : Kernel) where
  pub read : (fd address len : ℕ) → Good p.pid (read_row p k fd address len)
  read fd address len = given_good p.pid (that is_readable (opened p fd k)) _ _ (λ o. pieces_read p k o (one_piece address (counted len)) (counted len))

  pub readv : (fd address count : ℕ) → Good p.pid (readv_row p k fd address count)
  readv fd address count = given_good p.pid (that is_readable (opened p fd k)) _ _ (λ o. vector p k address count (reads_pieces p k o) (pieces_read p k o))

  pub write : (fd address len : ℕ) → Good p.pid (write_row p k fd address len)
  write fd address len = given_good p.pid (that is_writable (opened p fd k)) _ _ (λ o. pieces_write p k o (one_piece address (counted len)) (counted len))

  pub writev : (fd address count : ℕ) → Good p.pid (writev_row p k fd address count)
  writev fd address count = given_good p.pid (that is_writable (opened p fd k)) _ _ (λ o. vector p k address count (writes_pieces p k o) (pieces_write p k o))

  pub pread64 : (fd address len off : ℕ) → Good p.pid (pread64_row p k fd address len off)
  pread64 fd address len off =
      first_good p.pid ((is_negative off, EINVAL) ∷ []) _ (given_good p.pid (that is_readable (opened p fd k)) EBADF (λ x. given (file_of x.is.object) ESPIPE (λ file. reads_file p k file off (one_piece address (counted len)) (counted len) (λ moved. []))) (λ o. given_good p.pid (file_of o.is.object) ESPIPE _ (λ file.
      file_read p k file off (one_piece address (counted len)) (counted len) (λ m. []) (λ m. tt))))

  pub pwrite64 : (fd address len off : ℕ) → Good p.pid (pwrite64_row p k fd address len off)
  pwrite64 fd address len off =
      first_good p.pid ((is_negative off, EINVAL) ∷ []) _ (given_good p.pid (that is_writable (opened p fd k)) EBADF (λ x. given (file_of x.is.object) ESPIPE (λ file. first ((len == 0, 0) ∷ []) (where_good p k to_read (one_piece address (counted len)) (writes_file p k file x.is.flags off (one_piece address (counted len)) (counted len) (λ offset. []))))) (λ o. given_good p.pid (file_of o.is.object) ESPIPE (λ x. first ((len == 0, 0) ∷ []) (where_good p k to_read (one_piece address (counted len)) (writes_file p k x o.is.flags off (one_piece address (counted len)) (counted len) (λ offset. [])))) (λ file.
      first_good p.pid ((len == 0, 0) ∷ []) _ (buffer p k to_read (one_piece address (counted len)) _
      (file_write p k file o.is.flags off (one_piece address (counted len)) (counted len) (λ m. []) (λ m. tt))))))

  pub ftruncate : (fd size : ℕ) → Good p.pid (ftruncate_row p k fd size)
  ftruncate fd size = given_good p.pid (opened p fd k) _ _ (λ o. given_good p.pid (file_of o.is.object) _ _ (λ file. first_good p.pid ((not (is_writable o) || is_negative size, EINVAL) ∷ (ltb LONGEST_FILE size, EFBIG) ∷ []) (Gives (CutsFile file size ∷ []) 0) (tt, tt)))

  seek : (o : Open) (place off : ℕ) → Good p.pid (seeks_from o place off)
  seek o place off = given_good p.pid (sum_of place off) _ _ (λ offset. (tt, tt))

  pub lseek : (fd off whence : ℕ) → Good p.pid (lseek_row p k fd off whence)
  lseek fd off whence =
      given_good p.pid (opened p fd k) _ _ (λ o. given_good p.pid (file_of o.is.object) _ _ (λ file. first_good p.pid ((ltb 2 whence, EINVAL) ∷ []) _
      (choice p.pid (eqb whence 2) _ _ (following_good p.pid (AsksSize file ∷ []) _ ((tt, tt)) (seek o (length (file_bytes k.files file)) off)) (seek o (cond {A = (denote.Struct.Field.u64-field).Value} (whence == 1) o.is.offset 0) off))))

  pub unlinkat : (dir address flags : ℕ) → Good p.pid (unlinkat_row p k dir address flags)
  unlinkat dir address flags = first_good p.pid ((not (flags == 0), EINVAL) ∷ []) _ (path p k dir address (unlinked k) tt (λ name short. by name (named k.names name)))
    where
      by : (name : List ℕ) (file : Option FileNo) → Good p.pid (unlinked k (Named name file))
      by name None = tt
      by name (Some file) = (tt, freeing_own p.pid (Some file.0) k)

  -- ---- spaces

  asks_all : (c : Called) → Good p.pid c → Good p.pid (following (AsksSpace p.pid ∷ []) c)
  asks_all c g = following_good p.pid (AsksSpace p.pid ∷ []) c ((tt, tt)) g

  grow : (address first_page pages : ℕ) → address ≤ USER_END → Good p.pid (grows p k address first_page pages)
  grow address first_page pages within =
      choice p.pid (not (is_free (areas_of p k) first_page pages) || is_past_limits (put_runs first_page pages read_write (areas_of p k))) (says p.brk.now) (Gives (Maps p.pid (put_runs first_page pages read_write (areas_of p k)) ∷ moves_break p address ∷ []) address) tt (refl, (within, tt))

  shrink : (address first_page pages : ℕ) → address ≤ USER_END → Good p.pid (shrinks p k address first_page pages)
  shrink address first_page pages within =
      choice p.pid (has_many_runs (cut_runs first_page pages (areas_of p k))) (says p.brk.now) (Gives (Unmaps p.pid first_page pages ∷ moves_break p address ∷ []) address) tt (refl, (within, tt))

  between : (address was to : ℕ) → address ≤ USER_END → Good p.pid (brk_between p k address was to)
  between address was to within =
      choice p.pid (ltb was to) (following (AsksSpace p.pid ∷ []) (grows p k address was (to - was))) _ (asks_all (grows p k address was (to - was)) (grow address was (to - was) within))
      (choice p.pid (ltb to was) (following (AsksSpace p.pid ∷ []) (shrinks p k address to (was - to))) (Gives (moves_break p address ∷ []) address) (asks_all (shrinks p k address to (was - to)) (shrink address to (was - to) within)) (within, tt))

  pub brk : (address : ℕ) → Good p.pid (brk_row p k address)
  brk address =
      unless_good p.pid (ltb address p.brk.base || ltb MAPPINGS_START address) p.brk.now (brk_between p k address (pages_for p.brk.now) (pages_for address))
      (λ moves. between address (pages_for p.brk.now) (pages_for address) (low_break address (ltb-false MAPPINGS_START address (or_parts (ltb address p.brk.base) (ltb MAPPINGS_START address) moves).1)))

  pub munmap : (address len : ℕ) → Good p.pid (munmap_row p k address len)
  munmap address len = first_good p.pid ((not (is_page_address address) || len == 0 || ltb USER_END (address + len), EINVAL) ∷ []) (following (AsksSpace p.pid ∷ []) (first ((has_many_runs (cut_runs (address / 4096) (pages_for len) (areas_of p k)), ENOMEM) ∷ []) (Gives (Unmaps p.pid (address / 4096) (pages_for len) ∷ []) 0))) (asks_all (first ((has_many_runs (cut_runs (address / 4096) (pages_for len) (areas_of p k)), ENOMEM) ∷ []) (Gives (Unmaps p.pid (address / 4096) (pages_for len) ∷ []) 0)) (first_good p.pid ((has_many_runs (cut_runs (address / 4096) (pages_for len) (areas_of p k)), ENOMEM) ∷ []) (Gives (Unmaps p.pid (address / 4096) (pages_for len) ∷ []) 0) (refl, tt)))

  fixed : (first_page pages : ℕ) (perms : Perms) (cut : List Area) → Good p.pid (maps_fixed p k first_page pages perms cut)
  fixed first_page pages perms cut =
      asks_all _ (first_good p.pid ((is_past_limits cut || is_past_limits (put_runs first_page pages perms cut), ENOMEM) ∷ []) (Gives (Unmaps p.pid first_page pages ∷ Maps p.pid (put_runs first_page pages perms cut) ∷ []) (first_page * 4096)) (refl, (refl, tt)))

  placed : (pages : ℕ) (perms : Perms) (at : ℕ) → Good p.pid (maps_at p k pages perms at)
  placed pages perms at = first_good p.pid ((is_past_limits (put_runs (at / 4096) pages perms (areas_of p k)), ENOMEM) ∷ []) (Gives (Maps p.pid (put_runs (at / 4096) pages perms (areas_of p k)) ∷ []) at) (refl, tt)

  pub mmap : (address len prot flags : ℕ) → Good p.pid (mmap_row p k address len prot flags)
  mmap address len prot flags =
      first_good p.pid ((len == 0 || ltb 7 prot || not (is_anywhere flags || is_fixed flags), EINVAL) ∷ (ltb MAPPING_BYTES len, ENOMEM) ∷ []) _ (choice p.pid (is_fixed flags) (first ((not (is_page_address address) || ltb address 4096, EINVAL) ∷ (ltb USER_END (address + len), ENOMEM) ∷ []) (maps_fixed p k (address / 4096) (pages_for len) (perms prot) (cut_runs (address / 4096) (pages_for len) (areas_of p k)))) _
      (first_good p.pid ((not (is_page_address address) || ltb address 4096, EINVAL) ∷ (ltb USER_END (address + len), ENOMEM) ∷ []) (maps_fixed p k (address / 4096) (pages_for len) (perms prot) (cut_runs (address / 4096) (pages_for len) (areas_of p k))) (fixed (address / 4096) (pages_for len) (perms prot) (cut_runs (address / 4096) (pages_for len) (areas_of p k))))
      (asks_all _ (given_good p.pid (place_of (areas_of p k) len) ENOMEM (maps_at p k (pages_for len) (perms prot)) (λ at. placed (pages_for len) (perms prot) at))))

  pub mprotect : (address len prot : ℕ) → Good p.pid (mprotect_row p k address len prot)
  mprotect address len prot =
      first_good p.pid ((not (is_page_address address) || ltb 7 prot, EINVAL) ∷ (len == 0, 0) ∷ (ltb USER_END (address + len), ENOMEM) ∷ []) (following (AsksSpace p.pid ∷ []) (first ((not (covered (areas_of p k) (address / 4096) (pages_for len) (perms 0)), ENOMEM) ∷ (has_many_runs (put_runs (address / 4096) (pages_for len) (perms prot) (areas_of p k)), ENOMEM) ∷ []) (Gives (Protects p.pid (address / 4096) (pages_for len) (put_runs (address / 4096) (pages_for len) (perms prot) (areas_of p k)) ∷ []) 0))) (asks_all (first ((not (covered (areas_of p k) (address / 4096) (pages_for len) (perms 0)), ENOMEM) ∷ (has_many_runs (put_runs (address / 4096) (pages_for len) (perms prot) (areas_of p k)), ENOMEM) ∷ []) (Gives (Protects p.pid (address / 4096) (pages_for len) (put_runs (address / 4096) (pages_for len) (perms prot) (areas_of p k)) ∷ []) 0)) (first_good p.pid ((not (covered (areas_of p k) (address / 4096) (pages_for len) (perms 0)), ENOMEM) ∷ (has_many_runs (put_runs (address / 4096) (pages_for len) (perms prot) (areas_of p k)), ENOMEM) ∷ []) (Gives (Protects p.pid (address / 4096) (pages_for len) (put_runs (address / 4096) (pages_for len) (perms prot) (areas_of p k)) ∷ []) 0) (refl, tt)))

  -- ---- processes

  strings : (s : Strings) (f : Strings → Called) → AllOwn p.pid s.reads → Good p.pid (f s) → Good p.pid (with_strings s f)
  strings s f h g = following_good p.pid s.reads (if_no_fault s.fault (f s)) h (by s.fault)
    where
      by : (fault : Option ℕ) → Good p.pid (if_no_fault fault (f s))
      by None = g
      by (Some errno) = tt

  execute : (args env : List (List ℕ)) (bytes : List ℕ) → Good p.pid (executes_bytes p k bytes args env)
  execute args env bytes =
      unless_good p.pid (is_some (first_fault bytes)) ENOEXEC (executes p k (program_of bytes) args env)
      (λ good. own-append p.pid (closings (λ e. e.cloexec) p.pid 0 p.fds k ++ Drops p.pid ∷ loads_program p.pid (program_of bytes) args env) (Breaks p.pid (program_of bytes).brk (program_of bytes).brk ∷ [])
      (own-append p.pid (closings (λ e. e.cloexec) p.pid 0 p.fds k) (Drops p.pid ∷ loads_program p.pid (program_of bytes) args env) (closings_own (λ e. e.cloexec) p.pid p.pid 0 p.fds k) (refl, loads p.pid (program_of bytes) args env))
      (good_images bytes (no_fault (first_fault bytes) good), tt))

  found : (args env : List (List ℕ)) (name : List ℕ) (file : Option FileNo) → Good p.pid (executes_found p k args env (Named name file))
  found args env name None = tt
  found args env name (Some file) =
      following_good p.pid (AsksSize file.0 ∷ ReadsFile file.0 0 (length (file_bytes k.files file.0)) ∷ []) _ ((tt, (tt, tt))) (execute args env (file_bytes k.files file.0))

  pub execve : (address args env : ℕ) → Good p.pid (execve_row p k address args env)
  execve address args env = path p k AT_FDCWD address (λ found. with_strings (list_at p.pid (k.space p.pid) MOST_STRINGS args MOST_STRING_BYTES) (λ a. with_strings (list_at p.pid (k.space p.pid) a.left env a.room) (λ e. executes_found p k a.strings e.strings found))) (both Root (λ a e. tt)) (λ name short. both (Named name (named k.names name)) (λ a e. found a e name (named k.names name)))
    where
      both : (f : Found) → ((a e : List (List ℕ)) → Good p.pid (executes_found p k a e f))
          → Good p.pid (with_strings (list_at p.pid (k.space p.pid) MOST_STRINGS args MOST_STRING_BYTES) (λ a. with_strings (list_at p.pid (k.space p.pid) a.left env a.room) (λ e. executes_found p k a.strings e.strings f)))
      both f g =
          let a : Strings = list_at p.pid (k.space p.pid) MOST_STRINGS args MOST_STRING_BYTES in
          let e : Strings = list_at p.pid (k.space p.pid) a.left env a.room in
          strings a (λ a. with_strings (list_at p.pid (k.space p.pid) a.left env a.room) (λ e. executes_found p k a.strings e.strings f)) (list p.pid (k.space p.pid) MOST_STRINGS args MOST_STRING_BYTES)
          (strings e (λ e. executes_found p k a.strings e.strings f) (list p.pid (k.space p.pid) a.left env a.room) (g a.strings e.strings))

  pub wait4 : (want address options usage : ℕ) → Good p.pid (wait4_row p k want address options usage)
  wait4 want address options usage = first_good p.pid ((ltb 1 options || not (usage == 0) || want == 0 || is_negative want && not (want == ANY), EINVAL) ∷ (not (has_child p.pid want k.procs), ECHILD) ∷ []) _ (buffer p k to_write (status_buffer address) _ (by (dead_child p.pid want k.procs)))
    where
      status : (b : Bool) (at : ℕ) (bytes : List ℕ) → AllOwn p.pid (cond b [] (Writes CopyOut p.pid at bytes ∷ []))
      status true at bytes = tt
      status false at bytes = (refl, tt)

      by : (dead : Option Dead) → Good p.pid (reaps p address options dead)
      by None = choice p.pid (eqb options 1) (says 0) (Waits [] 0 0) tt tt
      by (Some dead) = (tt, status (eqb address 0) address _)

  -- ---- descriptors

  pub close : (fd : ℕ) → Good p.pid (close_row p k fd)
  close fd = given_good p.pid (entry p fd) _ _ (λ e. closing_own p.pid p.pid fd k)

  pub dup : (fd : ℕ) → Good p.pid (dup_row p k fd)
  dup fd = given_good p.pid (entry p fd) _ _ (λ e. given_good p.pid (lowest_free p.fds 0) _ _ (λ to. (tt, tt)))

  shares : (x : Option FdEntry) (to : ℕ) (e : FdEntry) (cloexec : Bool) → AllOwn p.pid (closing_entry p.pid to x k ++ Shares p.pid to e.desc cloexec ∷ [])
  shares None to e cloexec = (tt, tt)
  shares (Some x) to e cloexec = own-append p.pid (closing p.pid to k) (Shares p.pid to e.desc cloexec ∷ []) (closing_own p.pid p.pid to k) (tt, tt)

  pub dup3 : (from_ to flags : ℕ) → Good p.pid (dup3_row p k from_ to flags)
  dup3 from_ to flags =
      first_good p.pid ((not (is_cloexec_alone flags), EINVAL) ∷ (eqb from_ to, EINVAL) ∷ []) (given (entry p from_) EBADF (λ e. first ((leb DESCRIPTORS to, EBADF) ∷ []) (Gives (closing_entry p.pid to (entry p to) k ++ Shares p.pid to e.desc (flags == O_CLOEXEC) ∷ []) to)))
      (given_good p.pid (entry p from_) EBADF (λ x. first ((leb DESCRIPTORS to, EBADF) ∷ []) (Gives (closing_entry p.pid to (entry p to) k ++ Shares p.pid to x.desc (flags == O_CLOEXEC) ∷ []) to))
      (λ e. first_good p.pid ((leb DESCRIPTORS to, EBADF) ∷ []) (Gives (closing_entry p.pid to (entry p to) k ++ Shares p.pid to e.desc (flags == O_CLOEXEC) ∷ []) to) (shares (entry p to) to e (flags == O_CLOEXEC))))

  opens : (b : Bool) (file fd flags : ℕ) → AllOwn p.pid (cond b (CutsFile file 0 ∷ []) [] ++ Opens p.pid fd (Regular (record { 0 = file })) flags (has flags O_CLOEXEC) ∷ [])
  opens true file fd flags = (tt, (tt, tt))
  opens false file fd flags = (tt, tt)

  by_name : (fd flags : ℕ) (name : List ℕ) → length name ≤ NAME_BYTES → (file : Option FileNo) → Good p.pid (opens_name p k fd flags name file)
  by_name fd flags name short (Some file) = opens (has flags O_TRUNC && not (mode_of flags == 0)) file.0 fd flags
  by_name fd flags name short None =
      following_good p.pid (MakesFile name ∷ []) (first ((leb FILES (length k.files), ENOSPC) ∷ []) (opens_file p fd k.next flags)) (short, tt)
      (first_good p.pid ((leb FILES (length k.files), ENOSPC) ∷ []) (opens_file p fd k.next flags) (opens (has flags O_TRUNC && not (mode_of flags == 0)) k.next fd flags))

  pub openat : (dir address flags : ℕ) → Good p.pid (openat_row p k dir address flags)
  openat dir address flags =
      first_good p.pid ((mode_of flags == 3 || not (lib.Bits.bit_and flags OPEN_FLAGS == flags), EINVAL) ∷ []) _ (path p k dir address (opened_at p k flags) tt (λ name short.
      first_good p.pid ((is_some (named k.names name) && has flags O_CREAT && has flags O_EXCL, EEXIST) ∷ (is_none (named k.names name) && not (has flags O_CREAT), ENOENT) ∷ []) _
      (given_good p.pid (lowest_free p.fds 0) EMFILE (λ x. first ((ltb (descriptions_left k) 1, ENFILE) ∷ []) (opens_name p k x flags name (named k.names name)))
      (λ fd. first_good p.pid ((ltb (descriptions_left k) 1, ENFILE) ∷ []) _ (by_name fd flags name short (named k.names name))))))

  pub pipe2 : (address flags : ℕ) → Good p.pid (pipe2_row p k address flags)
  pipe2 address flags =
      first_good p.pid ((not (is_cloexec_alone flags), EINVAL) ∷ []) _ (buffer p k to_write (one_piece address 8) _
      (given_good p.pid (lowest_free p.fds 0) EMFILE (λ x. given (lowest_free {X = FdEntry} p.fds (x + 1)) EMFILE (λ writing. first ((ltb (descriptions_left k) 2, ENFILE) ∷ []) (Gives (MakesPipe ∷ Opens p.pid x (PipeRead (next_slot {X = List ℕ} k.pipes)) 0 (flags == O_CLOEXEC) ∷ Opens p.pid writing (PipeWrite (next_slot {X = List ℕ} k.pipes)) O_WRONLY (flags == O_CLOEXEC) ∷ Writes CopyOut p.pid address (bytes_of 4 x ++ bytes_of 4 writing) ∷ []) 0)))
      (λ reading. given_good p.pid (lowest_free p.fds (reading + 1)) EMFILE (λ x. first ((ltb (descriptions_left k) 2, ENFILE) ∷ []) (Gives (MakesPipe ∷ Opens p.pid reading (PipeRead (next_slot {X = List ℕ} k.pipes)) 0 (flags == O_CLOEXEC) ∷ Opens p.pid x (PipeWrite (next_slot {X = List ℕ} k.pipes)) O_WRONLY (flags == O_CLOEXEC) ∷ Writes CopyOut p.pid address (bytes_of 4 reading ++ bytes_of 4 x) ∷ []) 0))
      (λ writing. first_good p.pid ((ltb (descriptions_left k) 2, ENFILE) ∷ [])
      (Gives (MakesPipe
      ∷ Opens p.pid reading (PipeRead (next_slot k.pipes)) 0 (flags == O_CLOEXEC)
      ∷ Opens p.pid writing (PipeWrite (next_slot k.pipes)) O_WRONLY (flags == O_CLOEXEC)
      ∷ Writes CopyOut p.pid address (bytes_of 4 reading ++ bytes_of 4 writing) ∷ []) 0)
      (tt, (tt, (tt, (refl, tt))))))))
