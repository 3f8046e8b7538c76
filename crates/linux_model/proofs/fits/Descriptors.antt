-- What the calls do that open, share and close descriptors is allowed.
use Rattle.std.proofs.Common.{◌≡◌, ℕ, ◌+◌, Bool, true, false, cond, not, eqb, leb, ◌==◌, ◌&&◌, ◌||◌, refl, sym, ◌∙◌, ap, subst, List, [], ◌∷◌, ◌++◌, length, slice_set, Option, Some, None, is_some, is_none}
use Rattle.std.proofs.lemmas.Bool.{eq-eqb}
use Rattle.lego_base.specs.declared.ids.FileNo.{FileNo}
use Rattle.lego_base.specs.Pieces.{of_size}
use Rattle.lego_base.specs.Files.{File, file_bytes, is_file, named, with_name}
use Rattle.lego_base.specs.Space.{bytes_of}
use Rattle.kernel_objects.specs.declared.descriptor.FdEntry.{FdEntry}
use Rattle.kernel_objects.specs.declared.descriptor.Object.TheVariants.{Regular, PipeRead, PipeWrite}
use Rattle.kernel_objects.specs.Slots.{slot, lowest_free, next_slot, with_next}
use Rattle.linux_model.specs.Limits.{EBADF, EEXIST, EINVAL, EMFILE, ENFILE, ENOENT, OPEN_FLAGS, O_CREAT, O_EXCL, is_cloexec_alone, FILES, O_CLOEXEC, O_TRUNC, O_WRONLY, DESCRIPTORS, has, mode_of}
use Rattle.linux_model.specs.State.{Kernel, Process}
use Rattle.linux_model.specs.Processes.{process, is_live, at_pid}
use Rattle.linux_model.specs.Effects.{MakesFile, CutsFile, Opens, Shares, MakesPipe, Writes, CopyOut, apply, applies, at_fd}
use Rattle.linux_model.specs.Called.{Gives, first, given}
use Rattle.linux_model.specs.Buffers.{one_piece, to_write}
use Rattle.linux_model.specs.Descriptors.{entry, closing, closing_entry, close_row, dup_row, dup3_row, pipe2_row, descriptions_left}
use Rattle.linux_model.specs.FileCalls.{opens_file, opens_name, opened_at, openat_row}
use Rattle.linux_model.specs.Fits.{Fits, EntriesFit, LivesAt, AllAllowed, Allowed}
use Rattle.linux_model.proofs.fits.Slots.{next_holds, slot_other}
use Rattle.linux_model.proofs.fits.Files.{last_file, same_files, named_fits}
use Rattle.linux_model.proofs.fits.Processes.{process_fits}
use Rattle.linux_model.proofs.fits.Kept.{all_keep}
use Rattle.linux_model.proofs.fits.Found.{allowed-append, closing_allowed, closing_procs, process_at, entry_fits, lives_found}
use Rattle.linux_model.proofs.fits.Calls.{Good, first_good, first_if, given_good, following_good, buffer, path}

-- a pid's lives go on where a process with the pid gets another descriptor
lives_on : (b : Bool) (pid fd : ℕ) (entry : Option FdEntry) (p : Process) → eqb p.pid pid ≡ b → (eqb p.pid pid ≡ true → is_live p.state ≡ true) → eqb (cond b (at_fd fd entry p) p).pid pid ≡ true → is_live (cond b (at_fd fd entry p) p).state ≡ true
lives_on true pid fd entry p e lives is = lives is
lives_on false pid fd entry p e lives is = lives is

lives_kept : (pid fd : ℕ) (entry : Option FdEntry) (procs : List Process) → LivesAt pid procs → LivesAt pid (at_pid pid (at_fd fd entry) procs)
lives_kept pid fd entry [] l = tt
lives_kept pid fd entry (p ∷ procs) l = (lives_on (eqb p.pid pid) pid fd entry p refl l.0, lives_kept pid fd entry procs l.1)

-- a process of a kernel that fits, which lives
module _ (k : Kernel) (p : Process) (fits : Fits k) (there : process k.procs p.pid ≡ Some p) (live : is_live p.state ≡ true) where
  lives : LivesAt p.pid k.procs
  lives = lives_found p.pid k.last k.procs p fits.pids there live

  entries : EntriesFit k.descs p.fds
  entries = (process_fits k.descs k.procs p.pid p fits.procs_fit there).entries

  pub close : (fd : ℕ) → Good (close_row p k fd) k
  close fd = given_good (entry p fd) _ _ k (λ e is. closing_allowed true p.pid fd k)

  pub dup : (fd : ℕ) → Good (dup_row p k fd) k
  dup fd =
      given_good (entry p fd) _ _ k (λ e is. given_good (lowest_free p.fds 0) _ _ k (λ to is'.
      ((entry_fits k.descs p.fds fd e entries is, lives), tt)))

  -- ---- dup3: the description that is shared is still there once the other descriptor is closed

  other_number : (b : Bool) (from_ to : ℕ) → eqb from_ to ≡ b → b ≡ false → to ≡ from_ → ⊥
  other_number true from_ to e f same = cc f
  other_number false from_ to e f same = let is : eqb from_ to ≡ true = eq-eqb from_ to (sym same) in cc (is, e)

  closed_there : (from_ to : ℕ) (e : FdEntry) → eqb from_ to ≡ false → slot p.fds from_ ≡ Some e → Allowed (Shares p.pid to e.desc false) (applies (closing p.pid to k) k)
  closed_there from_ to e ne is =
      let l : Kernel = applies (closing p.pid to k) k in
      let f : Fits l = all_keep (closing p.pid to k) k (closing_allowed true p.pid to k) fits in
      let q : process l.procs p.pid ≡ Some (at_fd to None p) = ap (λ (procs : List Process). process procs p.pid) (closing_procs p.pid to k) ∙ process_at (at_fd to None) (λ p. refl) k.procs p.pid p there in
      let still : slot (slice_set p.fds to None) from_ ≡ Some e = slot_other p.fds to from_ None (other_number (eqb from_ to) from_ to refl ne) ∙ is in (
        entry_fits l.descs (slice_set p.fds to None) from_ e (process_fits l.descs l.procs p.pid (at_fd to None p) f.procs_fit q).entries still,
        lives_found p.pid l.last l.procs (at_fd to None p) f.pids q live,
      )

  shares : (x : Option FdEntry) (from_ to : ℕ) (e : FdEntry) (cloexec : Bool) → eqb from_ to ≡ false → slot p.fds from_ ≡ Some e → AllAllowed (closing_entry p.pid to x k ++ Shares p.pid to e.desc cloexec ∷ []) k
  shares None from_ to e cloexec ne is = ((entry_fits k.descs p.fds from_ e entries is, lives), tt)
  shares (Some x) from_ to e cloexec ne is = allowed-append (closing p.pid to k) (Shares p.pid to e.desc cloexec ∷ []) k (closing_allowed true p.pid to k) (closed_there from_ to e ne is, tt)

  pub dup3 : (from_ to flags : ℕ) → Good (dup3_row p k from_ to flags) k
  dup3 from_ to flags = first_if (not (is_cloexec_alone flags)) EINVAL ((eqb from_ to, EINVAL) ∷ []) (given (entry p from_) EBADF (λ e. first ((leb DESCRIPTORS to, EBADF) ∷ []) (Gives (closing_entry p.pid to (entry p to) k ++ Shares p.pid to e.desc (flags == O_CLOEXEC) ∷ []) to))) k (λ known. first_if (eqb from_ to) EINVAL ([]) (given (entry p from_) EBADF (λ e. first ((leb DESCRIPTORS to, EBADF) ∷ []) (Gives (closing_entry p.pid to (entry p to) k ++ Shares p.pid to e.desc (flags == O_CLOEXEC) ∷ []) to))) k (λ ne.
      given_good (entry p from_) EBADF (λ x. first ((leb DESCRIPTORS to, EBADF) ∷ []) (Gives (closing_entry p.pid to (entry p to) k ++ Shares p.pid to x.desc (flags == O_CLOEXEC) ∷ []) to)) k (λ e is. first_good ((leb DESCRIPTORS to, EBADF) ∷ []) (Gives (closing_entry p.pid to (entry p to) k ++ Shares p.pid to e.desc (flags == O_CLOEXEC) ∷ []) to) k (shares (entry p to) from_ to e (flags == O_CLOEXEC) ne is))))

  -- ---- openat

  opens : (b : Bool) (file : ℕ) (fd flags : ℕ) (l : Kernel) → is_file l.files file ≡ true → LivesAt p.pid l.procs → AllAllowed (cond b (CutsFile file 0 ∷ []) [] ++ Opens p.pid fd (Regular (record { 0 = file })) flags (has flags O_CLOEXEC) ∷ []) l
  opens true file fd flags l is living = (tt, ((same_files l.files file (of_size 0 (file_bytes l.files file)) file is, living), tt))
  opens false file fd flags l is living = ((is, living), tt)

  no_name : (b c : Bool) (x : Option FileNo) → x ≡ None → c ≡ false → (is_some x || c) ≡ false
  no_name b c None e f = f
  no_name b c (Some file) e f = cc e

  made_there : (b : Bool) (l : Kernel) → b ≡ false → is_file l.files k.next ≡ true → l.procs ≡ k.procs → (is_file (cond b k l).files k.next ≡ true) × LivesAt p.pid (cond b k l).procs
  made_there true l e is same = cc e
  made_there false l e is same = (is, subst (LivesAt p.pid) (sym same) lives)

  by_name : (fd flags : ℕ) (name : List ℕ) (file : Option FileNo) → named k.names name ≡ file → Good (opens_name p k fd flags name file) k
  by_name fd flags name (Some file) e = opens (has flags O_TRUNC && not (mode_of flags == 0)) file.0 fd flags k (named_fits k.files k.names name file fits.names_fit e) lives
  by_name fd flags name None e =
      following_good (MakesFile name ∷ []) _ k (tt, tt)
      (first_if (leb FILES (length k.files)) _ ([]) (opens_file p fd k.next flags) (apply (MakesFile name) k) (λ room.
      let made : File = record { file = k.next; bytes = [] } in
      let there_is = made_there (is_some (named k.names name) || leb FILES (length k.files)) (record k { files = k.files ++ made ∷ []; names = with_name (record { name = name; file = record { 0 = k.next } }) k.names; next = k.next + 1 }) (no_name true (leb FILES (length k.files)) (named k.names name) e room) (last_file k.files made) refl in
      opens (has flags O_TRUNC && not (mode_of flags == 0)) k.next fd flags (apply (MakesFile name) k) there_is.0 there_is.1))

  pub openat : (dir address flags : ℕ) → Good (openat_row p k dir address flags) k
  openat dir address flags =
      first_good ((mode_of flags == 3 || not (lib.Bits.bit_and flags OPEN_FLAGS == flags), EINVAL) ∷ []) _ k (path p k dir address (opened_at p k flags) tt (λ name.
      first_good ((is_some (named k.names name) && has flags O_CREAT && has flags O_EXCL, EEXIST) ∷ (is_none (named k.names name) && not (has flags O_CREAT), ENOENT) ∷ []) _ k (given_good (lowest_free p.fds 0) EMFILE (λ x. first ((lib.Dec.ltb (descriptions_left k) 1, ENFILE) ∷ []) (opens_name p k x flags name (named k.names name))) k (λ fd is. first_good ((lib.Dec.ltb (descriptions_left k) 1, ENFILE) ∷ []) _ k (by_name fd flags name (named k.names name) refl)))))

  -- ---- pipe2

  pub pipe2 : (address flags : ℕ) → Good (pipe2_row p k address flags) k
  pipe2 address flags =
      let pipe : is_some (slot (with_next [] k.pipes) (next_slot k.pipes)) ≡ true = ap (λ (o : Option (List ℕ)). is_some o) (next_holds [] k.pipes) in
      first_good ((not (is_cloexec_alone flags), EINVAL) ∷ []) _ k (buffer p k to_write (one_piece address 8) _
      (given_good (lowest_free p.fds 0) EMFILE (λ x. given (lowest_free {X = FdEntry} p.fds (x + 1)) EMFILE (λ writing. first ((lib.Dec.ltb (descriptions_left k) 2, ENFILE) ∷ []) (Gives (MakesPipe ∷ Opens p.pid x (PipeRead (next_slot {X = List ℕ} k.pipes)) 0 (flags == O_CLOEXEC) ∷ Opens p.pid writing (PipeWrite (next_slot {X = List ℕ} k.pipes)) O_WRONLY (flags == O_CLOEXEC) ∷ Writes CopyOut p.pid address (bytes_of 4 x ++ bytes_of 4 writing) ∷ []) 0))) k (λ reading is. given_good (lowest_free p.fds (reading + 1)) EMFILE (λ x. first ((lib.Dec.ltb (descriptions_left k) 2, ENFILE) ∷ []) (Gives (MakesPipe ∷ Opens p.pid reading (PipeRead (next_slot {X = List ℕ} k.pipes)) 0 (flags == O_CLOEXEC) ∷ Opens p.pid x (PipeWrite (next_slot {X = List ℕ} k.pipes)) O_WRONLY (flags == O_CLOEXEC) ∷ Writes CopyOut p.pid address (bytes_of 4 reading ++ bytes_of 4 x) ∷ []) 0)) k (λ writing is'. first_good ((lib.Dec.ltb (descriptions_left k) 2, ENFILE) ∷ [])
      (Gives (MakesPipe
      ∷ Opens p.pid reading (PipeRead (next_slot k.pipes)) 0 (flags == O_CLOEXEC)
      ∷ Opens p.pid writing (PipeWrite (next_slot k.pipes)) O_WRONLY (flags == O_CLOEXEC)
      ∷ Writes CopyOut p.pid address (bytes_of 4 reading ++ bytes_of 4 writing) ∷ []) 0) k
      (tt, ((pipe, lives), ((pipe, lives_kept p.pid reading (Some (record { desc = next_slot k.descs; cloexec = flags == O_CLOEXEC })) k.procs lives), (tt, tt))))))))
