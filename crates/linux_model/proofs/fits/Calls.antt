-- What a call does is allowed, row by row.
use Rattle.std.proofs.Common.{◌≡◌, ℕ, ◌+◌, ◌-◌, ◌*◌, ◌/◌, Bool, true, false, cond, not, eqb, ltb, leb, ◌==◌, ◌&&◌, ◌||◌, refl, sym, subst, List, [], ◌∷◌, ◌++◌, length, take, Option, Some, None, is_some, arith}
use Rattle.lego_base.specs.declared.ids.FileNo.{FileNo}
use Rattle.lego_base.specs.declared.perms.Perms.{Perms}
use Rattle.lego_base.specs.declared.records.Area.{Area}
use Rattle.lego_base.specs.declared.sizes.TheConstants.{LONGEST_FILE, USER_END}
use Rattle.lego_base.specs.Files.{file_bytes, named}
use Rattle.lego_base.specs.Pieces.{piece}
use Rattle.lego_base.specs.Space.{bytes_at}
use Rattle.area_list.specs.Cover.{covered}
use Rattle.area_list.specs.Runs.{cut_runs, put_runs}
use Rattle.elf_image.specs.Image.{program_of, first_fault}
use Rattle.kernel_objects.specs.declared.descriptor.FdEntry.{FdEntry}
use Rattle.kernel_objects.specs.declared.descriptor.Object.{Object}
use Rattle.kernel_objects.specs.declared.descriptor.Object.TheVariants.{Input, Output, Regular, PipeRead, PipeWrite}
use Rattle.kernel_objects.specs.Slots.{slot}
use Rattle.space_rules.specs.declared.TheConstants.{MAPPINGS_START, MOST_STRINGS, MOST_STRING_BYTES}
use Rattle.kernel_objects.specs.declared.piece.Piece.{Piece}
use Rattle.linux_model.specs.Limits.{EAGAIN, EBADF, ECHILD, EFBIG, EINVAL, ENOENT, ENOEXEC, ENOMEM, ENOTDIR, ESPIPE, NAME_BYTES, PROCESSES, SIGCHLD, MAPPING_BYTES, ANY, is_negative, AT_FDCWD, PATH_BYTES, VECTOR_PIECES, has, O_APPEND, EFAULT, PIPE_BUF}
use Rattle.linux_model.specs.State.{Kernel, Process}
use Rattle.linux_model.specs.Processes.{Dead, dead_child, has_child, has_file, has_reader, has_writer}
use Rattle.linux_model.specs.Effects.{Effect, Reads, Writes, LooksUp, Unlinks, AsksSize, AsksSpace, ReadsFile, WritesFile, CutsFile, Seeks, PutsPipe, TakesPipe, Takes, Puts, Copies, Drops, Forks, Maps, Protects, Unmaps, Breaks, CopyIn, CopyOut, apply, applies, pipe_bytes}
use Rattle.linux_model.specs.Called.{Called, Gives, Becomes, Waits, Death, says, following, first, given}
use Rattle.linux_model.specs.Buffers.{one_piece, counted, total, part, where_good, asks_pieces, are_good, bytes_in, copies_in, copies_out, pieces_of, to_read, to_write}
use Rattle.linux_model.specs.Paths.{Found, Root, Named, is_relative, Text, TextEnd, AtZero, Denied, Long, text_at, of_text, at_path, walked, parts_of, without_root_parts}
use Rattle.linux_model.specs.Descriptors.{Open, opened, that, is_readable, is_writable, file_of, closings}
use Rattle.linux_model.specs.FileCalls.{unlinked, unlinkat_row, ftruncate_row, sum_of, seeks_from, lseek_row, moves_out, reads_file, reads_pipe, reads_object, reads_pieces, read_row, with_vector, readv_row, pread64_row, writes_at, writes_file, room_of, puts_pieces, moved_before, writes_pipe, writes_object, writes_pieces, write_row, writev_row, pwrite64_row}
use Rattle.rv64_step.specs.Meaning.{next_pc, with_reg}
use Rattle.space_rules.specs.Mapped.{read_write}
use Rattle.space_rules.specs.Place.{pages_for, place_of}
use Rattle.linux_model.specs.SpaceCalls.{areas_of, moves_break, is_page_address, is_anywhere, grows, shrinks, brk_between, brk_row, munmap_row, maps_at, maps_fixed, mmap_row, mprotect_row, is_fixed, perms, has_many_runs, is_past_limits, is_free}
use Rattle.linux_model.specs.ProcessCalls.{clone_row, Strings, list_at, if_no_fault, with_strings, executes, executes_bytes, executes_found, execve_row, status_buffer, reaps, wait4_row}
use Rattle.linux_model.specs.Loading.{loads_program}
use Rattle.linux_model.specs.Fits.{AllAllowed}
use Rattle.linux_model.specs.Laws.{Still}
use Rattle.linux_model.proofs.Looking.{looking_is_still}
use Rattle.linux_model.proofs.fits.Found.{allowed-append, closings_allowed, frees_allowed}
use Rattle.linux_model.proofs.fits.Harmless.{Harmless, none_harmless, harmless-append, checks, copies, out_copies, text, list, loads}

-- the effects of what a call comes to are allowed
abbrev pub Good : Called → Kernel → Type 0
Good (Gives effects value) k = AllAllowed effects k
Good (Becomes effects cpu) k = AllAllowed effects k
Good (Waits effects moved len) k = AllAllowed effects k
Good (Death effects status) k = AllAllowed effects k

pub following_good : (es : List Effect) (c : Called) (k : Kernel) → AllAllowed es k → Good c (applies es k) → Good (following es c) k
following_good es (Gives effects value) k a b = allowed-append es effects k a b
following_good es (Becomes effects cpu) k a b = allowed-append es effects k a b
following_good es (Waits effects moved len) k a b = allowed-append es effects k a b
following_good es (Death effects status) k a b = allowed-append es effects k a b

quiet : (es : List Effect) (c : Called) (k : Kernel) → Harmless es → Still es → Good c k → Good (following es c) k
quiet es c k h s g = following_good es c k (h k) (subst (Good c) (sym (s k)) g)

choice : (b : Bool) (c d : Called) (k : Kernel) → Good c k → Good d k → Good (cond b c d) k
choice true c d k g h = g
choice false c d k g h = h

either : (b : Bool) (c d : Called) (k : Kernel) → (b ≡ true → Good c k) → (b ≡ false → Good d k) → Good (cond b c d) k
either true c d k g h = g refl
either false c d k g h = h refl

pub first_good : (answers : List (Bool × ℕ)) (last : Called) (k : Kernel) → Good last k → Good (first answers last) k
first_good [] last k g = g
first_good (a ∷ answers) last k g = choice a.0 (says a.1) (first answers last) k tt (first_good answers last k g)

pub first_if : (b : Bool) (answer : ℕ) (rest : List (Bool × ℕ)) (last : Called) (k : Kernel) → (b ≡ false → Good (first rest last) k) → Good (first ((b, answer) ∷ rest) last) k
first_if true answer rest last k g = tt
first_if false answer rest last k g = g refl

pub given_good : {X : Type 0} (o : Option X) (answer : ℕ) (f : X → Called) (k : Kernel) → ((x : X) → o ≡ Some x → Good (f x) k) → Good (given o answer f) k
given_good None answer f k g = tt
given_good (Some x) answer f k g = g x refl

-- ---- buffers and paths

pub buffer : (p : Process) (k : Kernel) (need : ℕ) (pieces : List Piece) (last : Called) → Good last k → Good (where_good p k need pieces last) k
buffer p k need pieces last g =
    quiet (asks_pieces p.pid (k.space p.pid) need pieces) _ k (checks p.pid (k.space p.pid) need pieces) (looking_is_still.checks p.pid (k.space p.pid) need pieces)
    (first_good ((not (are_good (k.space p.pid) need pieces), EFAULT) ∷ []) last k g)

walk : (parts : List (List ℕ)) (k : Kernel) (f : Found → Called) → Good (f Root) k → ((name : List ℕ) → Good (f (Named name (named k.names name))) k) → Good (walked parts k f) k
walk [] k f root name = root
walk (part ∷ []) k f root name = choice _ (says _) _ k tt (quiet (LooksUp part ∷ []) _ k (λ k. (tt, tt)) (λ k. refl) (name part))
walk (part ∷ more ∷ parts) k f root name = choice (ltb NAME_BYTES (length {A = ℕ} part)) (says ENOENT) (following (LooksUp part ∷ []) (says (cond (is_some (named k.names part)) ENOTDIR ENOENT))) k tt (quiet (LooksUp part ∷ []) (says (cond (is_some (named k.names part)) ENOTDIR ENOENT)) k (λ k. (tt, tt)) (λ k. refl) tt)

of_path : (end : TextEnd) (p : Process) (k : Kernel) (dir : ℕ) (bytes : List ℕ) (f : Found → Called) → Good (f Root) k → ((name : List ℕ) → Good (f (Named name (named k.names name))) k) → Good (of_text p k dir bytes end f) k
of_path AtZero p k dir bytes f root name = first_good ((length {A = ℕ} bytes == 0, ENOENT) ∷ (is_relative bytes && not (dir == AT_FDCWD), cond (is_some (slot {X = FdEntry} p.fds dir)) ENOTDIR EBADF) ∷ []) _ k (walk (without_root_parts (parts_of bytes)) k f root name)
of_path Denied p k dir bytes f root name = tt
of_path Long p k dir bytes f root name = tt

pub path : (p : Process) (k : Kernel) (dir address : ℕ) (f : Found → Called) → Good (f Root) k → ((name : List ℕ) → Good (f (Named name (named k.names name))) k) → Good (at_path p k dir address f) k
path p k dir address f root name =
    let t : Text = text_at p.pid (k.space p.pid) PATH_BYTES address in
    quiet t.reads (of_text p k dir t.bytes t.end f) k (text p.pid (k.space p.pid) PATH_BYTES address) (looking_is_still.text p.pid (k.space p.pid) PATH_BYTES address) (of_path t.end p k dir t.bytes f root name)

-- ---- reads and writes

out : (p : Process) (k : Kernel) (pieces : List Piece) (bytes : List ℕ) (before after : List Effect) → Harmless before → Harmless after → Good (moves_out p k pieces bytes before after) k
out p k pieces bytes before after h m =
    buffer p k to_write (part 0 (length bytes) pieces) _
    (harmless-append (before ++ copies_out p.pid (part 0 (length bytes) pieces) bytes) after (harmless-append before (copies_out p.pid (part 0 (length bytes) pieces) bytes) h (out_copies p.pid (part 0 (length bytes) pieces) bytes)) m k)

file_read : (p : Process) (k : Kernel) (file off : ℕ) (pieces : List Piece) (n : ℕ) (after : ℕ → List Effect) → ((m : ℕ) → Harmless (after m)) → Good (reads_file p k file off pieces n after) k
file_read p k file off pieces n after h =
    quiet (AsksSize file ∷ []) _ k (λ k. (tt, tt)) (λ k. refl)
    (out p k pieces (piece (file_bytes k.files file) off n) (ReadsFile file off (length (piece (file_bytes k.files file) off n)) ∷ []) (after (length (piece (file_bytes k.files file) off n))) (λ k. (tt, tt)) (h (length (piece (file_bytes k.files file) off n))))

pipe_read : (p : Process) (k : Kernel) (pipe : ℕ) (pieces : List Piece) (n : ℕ) (bytes : List ℕ) → Good (reads_pipe p k pipe pieces n bytes) k
pipe_read p k pipe pieces n [] = choice (has_writer pipe k.descs) (Waits [] 0 0) (says 0) k tt tt
pipe_read p k pipe pieces n (byte ∷ bytes) = out p k pieces (take n (byte ∷ bytes)) (TakesPipe pipe (length (take n (byte ∷ bytes))) ∷ []) [] (λ k. (tt, tt)) none_harmless

object_read : (p : Process) (k : Kernel) (o : Open) (object : Object) (pieces : List Piece) (n : ℕ) → Good (reads_object p k o object pieces n) k
object_read p k o Input pieces n = out p k pieces (take n k.input) (Takes (length (take n k.input)) ∷ []) [] (λ k. (tt, tt)) none_harmless
object_read p k o (Regular file) pieces n = file_read p k file.0 o.is.offset pieces n (λ moved. Seeks o.desc (o.is.offset + moved) ∷ []) (λ m k. (tt, tt))
object_read p k o (PipeRead pipe) pieces n = pipe_read p k pipe pieces n (pipe_bytes pipe k)
object_read p k o (Output stream) pieces n = tt
object_read p k o (PipeWrite pipe) pieces n = tt

pieces_read : (p : Process) (k : Kernel) (o : Open) (pieces : List Piece) (n : ℕ) → Good (reads_pieces p k o pieces n) k
pieces_read p k o pieces n = first_good ((n == 0, 0) ∷ []) _ k (object_read p k o o.is.object pieces n)

vector : (p : Process) (k : Kernel) (address count : ℕ) (f : List Piece → ℕ → Called) → ((pieces : List Piece) (n : ℕ) → Good (f pieces n) k) → Good (with_vector p k address count f) k
vector p k address count f g =
    first_good ((ltb VECTOR_PIECES count, EINVAL) ∷ []) _ k (buffer p k to_read (one_piece address (16 * count)) (following (Reads CopyIn p.pid address (bytes_at (k.space p.pid) address (16 * count)) ∷ []) (first ((ltb LONGEST_FILE (total (pieces_of count (bytes_at (k.space p.pid) address (16 * count)))), EINVAL) ∷ []) (f (pieces_of count (bytes_at (k.space p.pid) address (16 * count))) (total (pieces_of count (bytes_at (k.space p.pid) address (16 * count)))))))
    (quiet (Reads CopyIn p.pid address (bytes_at (k.space p.pid) address (16 * count)) ∷ []) (first ((ltb LONGEST_FILE (total (pieces_of count (bytes_at (k.space p.pid) address (16 * count)))), EINVAL) ∷ []) (f (pieces_of count (bytes_at (k.space p.pid) address (16 * count))) (total (pieces_of count (bytes_at (k.space p.pid) address (16 * count)))))) k (λ k. (tt, tt)) (λ k. refl)
    (first_good ((ltb LONGEST_FILE (total (pieces_of count (bytes_at (k.space p.pid) address (16 * count)))), EINVAL) ∷ []) _ k (g (pieces_of count (bytes_at (k.space p.pid) address (16 * count))) (total (pieces_of count (bytes_at (k.space p.pid) address (16 * count))))))))

at_write : (p : Process) (k : Kernel) (file at : ℕ) (pieces : List Piece) (n : ℕ) (after : ℕ → List Effect) → ((m : ℕ) → Harmless (after m)) → Good (writes_at p k file at pieces n after) k
at_write p k file at pieces n after h =
    first_good ((ltb LONGEST_FILE (at + n), EFBIG) ∷ []) (Gives (copies_in p.pid (k.space p.pid) pieces ++ WritesFile file at (bytes_in (k.space p.pid) pieces) ∷ after (at + n)) n) k (harmless-append (copies_in p.pid (k.space p.pid) pieces) (WritesFile file at (bytes_in (k.space p.pid) pieces) ∷ after (at + n)) (copies p.pid (k.space p.pid) pieces) (λ k. (tt, h (at + n) _)) k)

file_write : (p : Process) (k : Kernel) (file flags off : ℕ) (pieces : List Piece) (n : ℕ) (after : ℕ → List Effect) → ((m : ℕ) → Harmless (after m)) → Good (writes_file p k file flags off pieces n after) k
file_write p k file flags off pieces n after h =
    choice (has flags O_APPEND) _ _ k
    (quiet (AsksSize file ∷ []) _ k (λ k. (tt, tt)) (λ k. refl) (at_write p k file (length (file_bytes k.files file)) pieces n after h))
    (at_write p k file off pieces n after h)

put : (p : Process) (k : Kernel) (pipe : ℕ) (pieces : List Piece) → Harmless (puts_pieces p k pipe pieces)
put p k pipe pieces = harmless-append (copies_in p.pid (k.space p.pid) pieces) (PutsPipe pipe (bytes_in (k.space p.pid) pieces) ∷ []) (copies p.pid (k.space p.pid) pieces) (λ k. (tt, tt))

pipe_write : (p : Process) (k : Kernel) (pipe : ℕ) (pieces : List Piece) (n : ℕ) → Good (writes_pipe p k pipe pieces n) k
pipe_write p k pipe pieces n =
    choice (leb n PIPE_BUF) _ _ k
    (choice (ltb (room_of pipe k) n) (Waits [] 0 n) _ k tt (put p k pipe pieces k))
    (choice (ltb (moved_before p.waiting + room_of pipe k) n) _ _ k
    (put p k pipe (part (moved_before p.waiting) (room_of pipe k) pieces) k)
    (put p k pipe (part (moved_before p.waiting) (n - moved_before p.waiting) pieces) k))

object_write : (p : Process) (k : Kernel) (o : Open) (object : Object) (pieces : List Piece) (n : ℕ) → Good (writes_object p k o object pieces n) k
object_write p k o (Output stream) pieces n =
    buffer p k to_read pieces _ (harmless-append (copies_in p.pid (k.space p.pid) pieces) (Puts stream (bytes_in (k.space p.pid) pieces) ∷ []) (copies p.pid (k.space p.pid) pieces) (λ k. (tt, tt)) k)
object_write p k o (Regular file) pieces n = buffer p k to_read pieces _ (file_write p k file.0 o.is.flags o.is.offset pieces n (λ offset. Seeks o.desc offset ∷ []) (λ m k. (tt, tt)))
object_write p k o (PipeWrite pipe) pieces n = choice (has_reader pipe k.descs) _ _ k (buffer p k to_read pieces _ (pipe_write p k pipe pieces n)) tt
object_write p k o Input pieces n = tt
object_write p k o (PipeRead pipe) pieces n = tt

pieces_write : (p : Process) (k : Kernel) (o : Open) (pieces : List Piece) (n : ℕ) → Good (writes_pieces p k o pieces n) k
pieces_write p k o pieces n = first_good ((n == 0, 0) ∷ []) _ k (object_write p k o o.is.object pieces n)

module _ (p : Process) (k : Kernel) where
  pub read : (fd address len : ℕ) → Good (read_row p k fd address len) k
  read fd address len = given_good (that is_readable (opened p fd k)) _ _ k (λ o is. pieces_read p k o (one_piece address (counted len)) (counted len))

  pub readv : (fd address count : ℕ) → Good (readv_row p k fd address count) k
  readv fd address count = given_good (that is_readable (opened p fd k)) _ _ k (λ o is. vector p k address count (reads_pieces p k o) (pieces_read p k o))

  pub write : (fd address len : ℕ) → Good (write_row p k fd address len) k
  write fd address len = given_good (that is_writable (opened p fd k)) _ _ k (λ o is. pieces_write p k o (one_piece address (counted len)) (counted len))

  pub writev : (fd address count : ℕ) → Good (writev_row p k fd address count) k
  writev fd address count = given_good (that is_writable (opened p fd k)) _ _ k (λ o is. vector p k address count (writes_pieces p k o) (pieces_write p k o))

  pub pread64 : (fd address len off : ℕ) → Good (pread64_row p k fd address len off) k
  pread64 fd address len off =
      first_good ((is_negative off, EINVAL) ∷ []) _ k (given_good (that is_readable (opened p fd k)) EBADF (λ x. given (file_of x.is.object) ESPIPE (λ file. reads_file p k file off (one_piece address (counted len)) (counted len) (λ moved. []))) k (λ o is. given_good (file_of o.is.object) ESPIPE _ k (λ file is'.
      file_read p k file off (one_piece address (counted len)) (counted len) (λ m. []) (λ m. none_harmless))))

  pub pwrite64 : (fd address len off : ℕ) → Good (pwrite64_row p k fd address len off) k
  pwrite64 fd address len off =
      first_good ((is_negative off, EINVAL) ∷ []) _ k (given_good (that is_writable (opened p fd k)) EBADF (λ x. given (file_of x.is.object) ESPIPE (λ file. first ((len == 0, 0) ∷ []) (where_good p k to_read (one_piece address (counted len)) (writes_file p k file x.is.flags off (one_piece address (counted len)) (counted len) (λ offset. []))))) k (λ o is. given_good (file_of o.is.object) ESPIPE (λ x. first ((len == 0, 0) ∷ []) (where_good p k to_read (one_piece address (counted len)) (writes_file p k x o.is.flags off (one_piece address (counted len)) (counted len) (λ offset. [])))) k (λ file is'.
      first_good ((len == 0, 0) ∷ []) _ k (buffer p k to_read (one_piece address (counted len)) _
      (file_write p k file o.is.flags off (one_piece address (counted len)) (counted len) (λ m. []) (λ m. none_harmless))))))

  pub ftruncate : (fd size : ℕ) → Good (ftruncate_row p k fd size) k
  ftruncate fd size = given_good (opened p fd k) _ _ k (λ o is. given_good (file_of o.is.object) _ _ k (λ file is'. first_good ((not (is_writable o) || is_negative size, EINVAL) ∷ (ltb LONGEST_FILE size, EFBIG) ∷ []) (Gives (CutsFile file size ∷ []) 0) k (tt, tt)))

  seek : (o : Open) (place off : ℕ) → Good (seeks_from o place off) k
  seek o place off = given_good (sum_of place off) _ _ k (λ offset is. (tt, tt))

  pub lseek : (fd off whence : ℕ) → Good (lseek_row p k fd off whence) k
  lseek fd off whence =
      given_good (opened p fd k) _ _ k (λ o is. given_good (file_of o.is.object) _ _ k (λ file is'. first_good ((ltb 2 whence, EINVAL) ∷ []) _ k
      (choice (eqb whence 2) _ _ k (quiet (AsksSize file ∷ []) _ k (λ k. (tt, tt)) (λ k. refl) (seek o (length (file_bytes k.files file)) off)) (seek o (cond {A = (denote.Struct.Field.u64-field).Value} (whence == 1) o.is.offset 0) off))))

  pub unlinkat : (dir address flags : ℕ) → Good (unlinkat_row p k dir address flags) k
  unlinkat dir address flags = first_good ((not (flags == 0), EINVAL) ∷ []) _ k (path p k dir address (unlinked k) tt (λ name. by name (named k.names name)))
    where
      by : (name : List ℕ) (file : Option FileNo) → Good (unlinked k (Named name file)) k
      by name None = tt
      by name (Some file) = (tt, frees_allowed (has_file file.0 k.descs) file.0 (apply (Unlinks name) k) refl)

  -- ---- spaces

  asks_all : (c : Called) → Good c k → Good (following (AsksSpace p.pid ∷ []) c) k
  asks_all c g = quiet (AsksSpace p.pid ∷ []) c k (λ k. (tt, tt)) (λ k. refl) g

  grow : (address first_page pages : ℕ) → Good (grows p k address first_page pages) k
  grow address first_page pages =
      choice (not (is_free (areas_of p k) first_page pages) || is_past_limits (put_runs first_page pages read_write (areas_of p k))) (says p.brk.now)
      (Gives (Maps p.pid (put_runs first_page pages read_write (areas_of p k)) ∷ moves_break p address ∷ []) address) k tt (tt, (tt, tt))

  shrink : (address first_page pages : ℕ) → Good (shrinks p k address first_page pages) k
  shrink address first_page pages =
      choice (has_many_runs (cut_runs first_page pages (areas_of p k))) (says p.brk.now)
      (Gives (Unmaps p.pid first_page pages ∷ moves_break p address ∷ []) address) k tt (tt, (tt, tt))

  between : (address was to : ℕ) → Good (brk_between p k address was to) k
  between address was to =
      choice (ltb was to) (following (AsksSpace p.pid ∷ []) (grows p k address was (to - was))) _ k (asks_all (grows p k address was (to - was)) (grow address was (to - was)))
      (choice (ltb to was) (following (AsksSpace p.pid ∷ []) (shrinks p k address to (was - to))) (Gives (moves_break p address ∷ []) address) k (asks_all (shrinks p k address to (was - to)) (shrink address to (was - to))) (tt, tt))

  pub brk : (address : ℕ) → Good (brk_row p k address) k
  brk address = first_good ((ltb address p.brk.base || ltb MAPPINGS_START address, p.brk.now) ∷ []) (brk_between p k address (pages_for p.brk.now) (pages_for address)) k (between address (pages_for p.brk.now) (pages_for address))

  pub munmap : (address len : ℕ) → Good (munmap_row p k address len) k
  munmap address len = first_good ((not (is_page_address address) || len == 0 || ltb USER_END (address + len), EINVAL) ∷ []) (following (AsksSpace p.pid ∷ []) (first ((has_many_runs (cut_runs (address / 4096) (pages_for len) (areas_of p k)), ENOMEM) ∷ []) (Gives (Unmaps p.pid (address / 4096) (pages_for len) ∷ []) 0))) k (asks_all (first ((has_many_runs (cut_runs (address / 4096) (pages_for len) (areas_of p k)), ENOMEM) ∷ []) (Gives (Unmaps p.pid (address / 4096) (pages_for len) ∷ []) 0)) (first_good ((has_many_runs (cut_runs (address / 4096) (pages_for len) (areas_of p k)), ENOMEM) ∷ []) (Gives (Unmaps p.pid (address / 4096) (pages_for len) ∷ []) 0) k (tt, tt)))

  fixed : (first_page pages : ℕ) (perms : Perms) (cut : List Area) → Good (maps_fixed p k first_page pages perms cut) k
  fixed first_page pages perms cut =
      asks_all _ (first_good ((is_past_limits cut || is_past_limits (put_runs first_page pages perms cut), ENOMEM) ∷ []) (Gives (Unmaps p.pid first_page pages ∷ Maps p.pid (put_runs first_page pages perms cut) ∷ []) (first_page * 4096)) k (tt, (tt, tt)))

  placed : (pages : ℕ) (perms : Perms) (at : ℕ) → Good (maps_at p k pages perms at) k
  placed pages perms at = first_good ((is_past_limits (put_runs (at / 4096) pages perms (areas_of p k)), ENOMEM) ∷ []) (Gives (Maps p.pid (put_runs (at / 4096) pages perms (areas_of p k)) ∷ []) at) k (tt, tt)

  pub mmap : (address len prot flags : ℕ) → Good (mmap_row p k address len prot flags) k
  mmap address len prot flags =
      first_good ((len == 0 || ltb 7 prot || not (is_anywhere flags || is_fixed flags), EINVAL) ∷ (ltb MAPPING_BYTES len, ENOMEM) ∷ []) _ k (choice (is_fixed flags) (first ((not (is_page_address address) || ltb address 4096, EINVAL) ∷ (ltb USER_END (address + len), ENOMEM) ∷ []) (maps_fixed p k (address / 4096) (pages_for len) (perms prot) (cut_runs (address / 4096) (pages_for len) (areas_of p k)))) _ k
      (first_good ((not (is_page_address address) || ltb address 4096, EINVAL) ∷ (ltb USER_END (address + len), ENOMEM) ∷ []) (maps_fixed p k (address / 4096) (pages_for len) (perms prot) (cut_runs (address / 4096) (pages_for len) (areas_of p k))) k (fixed (address / 4096) (pages_for len) (perms prot) (cut_runs (address / 4096) (pages_for len) (areas_of p k))))
      (asks_all _ (given_good (place_of (areas_of p k) len) ENOMEM (maps_at p k (pages_for len) (perms prot)) k (λ at is. placed (pages_for len) (perms prot) at))))

  pub mprotect : (address len prot : ℕ) → Good (mprotect_row p k address len prot) k
  mprotect address len prot =
      first_good ((not (is_page_address address) || ltb 7 prot, EINVAL) ∷ (len == 0, 0) ∷ (ltb USER_END (address + len), ENOMEM) ∷ []) (following (AsksSpace p.pid ∷ []) (first ((not (covered (areas_of p k) (address / 4096) (pages_for len) (perms 0)), ENOMEM) ∷ (has_many_runs (put_runs (address / 4096) (pages_for len) (perms prot) (areas_of p k)), ENOMEM) ∷ []) (Gives (Protects p.pid (address / 4096) (pages_for len) (put_runs (address / 4096) (pages_for len) (perms prot) (areas_of p k)) ∷ []) 0))) k (asks_all (first ((not (covered (areas_of p k) (address / 4096) (pages_for len) (perms 0)), ENOMEM) ∷ (has_many_runs (put_runs (address / 4096) (pages_for len) (perms prot) (areas_of p k)), ENOMEM) ∷ []) (Gives (Protects p.pid (address / 4096) (pages_for len) (put_runs (address / 4096) (pages_for len) (perms prot) (areas_of p k)) ∷ []) 0)) (first_good ((not (covered (areas_of p k) (address / 4096) (pages_for len) (perms 0)), ENOMEM) ∷ (has_many_runs (put_runs (address / 4096) (pages_for len) (perms prot) (areas_of p k)), ENOMEM) ∷ []) (Gives (Protects p.pid (address / 4096) (pages_for len) (put_runs (address / 4096) (pages_for len) (perms prot) (areas_of p k)) ∷ []) 0) k (tt, tt)))

  -- ---- processes

  pub clone : (flags stack : ℕ) → Good (clone_row p k flags stack) k
  clone flags stack =
      first_good ((not (flags == SIGCHLD && stack == 0), EINVAL) ∷ (leb PROCESSES (length {A = Process} k.procs), EAGAIN) ∷ []) (Gives (Copies p.pid (k.last + 1) ∷ Forks p.pid (k.last + 1) (with_reg p.cpu 10 0 (next_pc p.cpu)) ∷ []) (k.last + 1)) k (tt, ((omega arith), tt))

  strings : (s : Strings) (f : Strings → Called) → Harmless s.reads → Still s.reads → Good (f s) k → Good (with_strings s f) k
  strings s f h still g = quiet s.reads (if_no_fault s.fault (f s)) k h still (by s.fault)
    where
      by : (fault : Option ℕ) → Good (if_no_fault fault (f s)) k
      by None = g
      by (Some errno) = tt

  execute : (args env : List (List ℕ)) (bytes : List ℕ) → Good (executes_bytes p k bytes args env) k
  execute args env bytes =
      first_good ((is_some (first_fault bytes), ENOEXEC) ∷ []) (executes p k (program_of bytes) args env) k
      (allowed-append (closings (λ e. e.cloexec) p.pid 0 p.fds k ++ Drops p.pid ∷ loads_program p.pid (program_of bytes) args env) (Breaks p.pid (program_of bytes).brk (program_of bytes).brk ∷ []) k
      (allowed-append (closings (λ e. e.cloexec) p.pid 0 p.fds k) (Drops p.pid ∷ loads_program p.pid (program_of bytes) args env) k (closings_allowed (λ e. e.cloexec) p.pid 0 p.fds k) (tt, loads p.pid (program_of bytes) args env (record { procs = (apply (Drops p.pid) (applies (closings (λ e. e.cloexec) p.pid 0 p.fds k) k)).procs; last = (apply (Drops p.pid) (applies (closings (λ e. e.cloexec) p.pid 0 p.fds k) k)).last; space = λ x. record { areas = ((apply (Drops p.pid) (applies (closings (λ e. e.cloexec) p.pid 0 p.fds k) k)).space x).areas; byte = ((apply (Drops p.pid) (applies (closings (λ e. e.cloexec) p.pid 0 p.fds k) k)).space x).byte }; descs = (apply (Drops p.pid) (applies (closings (λ e. e.cloexec) p.pid 0 p.fds k) k)).descs; pipes = (apply (Drops p.pid) (applies (closings (λ e. e.cloexec) p.pid 0 p.fds k) k)).pipes; files = (apply (Drops p.pid) (applies (closings (λ e. e.cloexec) p.pid 0 p.fds k) k)).files; names = (apply (Drops p.pid) (applies (closings (λ e. e.cloexec) p.pid 0 p.fds k) k)).names; next = (apply (Drops p.pid) (applies (closings (λ e. e.cloexec) p.pid 0 p.fds k) k)).next; input = (apply (Drops p.pid) (applies (closings (λ e. e.cloexec) p.pid 0 p.fds k) k)).input; written = (apply (Drops p.pid) (applies (closings (λ e. e.cloexec) p.pid 0 p.fds k) k)).written; exits = (apply (Drops p.pid) (applies (closings (λ e. e.cloexec) p.pid 0 p.fds k) k)).exits })))
      (tt, tt))

  found : (args env : List (List ℕ)) (name : List ℕ) (file : Option FileNo) → Good (executes_found p k args env (Named name file)) k
  found args env name None = tt
  found args env name (Some file) =
      quiet (AsksSize file.0 ∷ ReadsFile file.0 0 (length (file_bytes k.files file.0)) ∷ []) _ k (λ k. (tt, (tt, tt))) (λ k. refl) (execute args env (file_bytes k.files file.0))

  pub execve : (address args env : ℕ) → Good (execve_row p k address args env) k
  execve address args env = path p k AT_FDCWD address (λ found. with_strings (list_at p.pid (k.space p.pid) MOST_STRINGS args MOST_STRING_BYTES) (λ a. with_strings (list_at p.pid (k.space p.pid) a.left env a.room) (λ e. executes_found p k a.strings e.strings found))) (both Root (λ a e. tt)) (λ name. both (Named name (named k.names name)) (λ a e. found a e name (named k.names name)))
    where
      both : (f : Found) → ((a e : List (List ℕ)) → Good (executes_found p k a e f) k)
          → Good (with_strings (list_at p.pid (k.space p.pid) MOST_STRINGS args MOST_STRING_BYTES) (λ a. with_strings (list_at p.pid (k.space p.pid) a.left env a.room) (λ e. executes_found p k a.strings e.strings f))) k
      both f g =
          let a : Strings = list_at p.pid (k.space p.pid) MOST_STRINGS args MOST_STRING_BYTES in
          let e : Strings = list_at p.pid (k.space p.pid) a.left env a.room in
          strings a (λ a. with_strings (list_at p.pid (k.space p.pid) a.left env a.room) (λ e. executes_found p k a.strings e.strings f)) (list p.pid (k.space p.pid) MOST_STRINGS args MOST_STRING_BYTES) (looking_is_still.strings p.pid (k.space p.pid) MOST_STRINGS args MOST_STRING_BYTES)
          (strings e (λ e. executes_found p k a.strings e.strings f) (list p.pid (k.space p.pid) a.left env a.room) (looking_is_still.strings p.pid (k.space p.pid) a.left env a.room) (g a.strings e.strings))

  pub wait4 : (want address options usage : ℕ) → Good (wait4_row p k want address options usage) k
  wait4 want address options usage = first_good ((ltb 1 options || not (usage == 0) || want == 0 || is_negative want && not (want == ANY), EINVAL) ∷ (not (has_child p.pid want k.procs), ECHILD) ∷ []) _ k (buffer p k to_write (status_buffer address) _ (by (dead_child p.pid want k.procs)))
    where
      status : (b : Bool) (at : ℕ) (bytes : List ℕ) → Harmless (cond b [] (Writes CopyOut p.pid at bytes ∷ []))
      status true at bytes k = tt
      status false at bytes k = (tt, tt)

      by : (dead : Option Dead) → Good (reaps p address options dead) k
      by None = choice (eqb options 1) (says 0) (Waits [] 0 0) k tt tt
      by (Some dead) = (tt, status (eqb address 0) address _ _)
