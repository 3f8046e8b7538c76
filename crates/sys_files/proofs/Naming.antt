-- Calls on the file that a path names.
use Rattle.std.proofs.Common.{◌≡◌, ℕ, ◌+◌, ◌==◌, ◌&&◌, ◌||◌, not, bit_and, Bool, true, false, cond, leb, ltb, refl, sym, ◌∙◌, ap, subst, List, [], ◌∷◌, ◌++◌, length, Option, Some, None, is_some, is_none, IfSome, IfOk, Result, Ok, Err, append-nil}
use Rattle.lego_base.specs.declared.ids.FileNo.{FileNo}
use Rattle.lego_base.specs.declared.stops.Halt.{Halt}
use Rattle.lego_base.specs.Files.{File, is_file, named, with_name}
use Rattle.kernel_objects.specs.Slots.{lowest_free}
use Rattle.linux_model.specs.State.{Kernel, Process, unbooted}
use Rattle.linux_model.specs.Processes.{has_file, process}
use Rattle.linux_model.specs.Limits.{EEXIST, EINVAL, EMFILE, ENFILE, ENOENT, ENOSPC, FILES, O_CREAT, O_EXCL, OPEN_FLAGS, has, mode_of}
use Rattle.linux_model.specs.Effects.{Effect, CutsFile, FreesFile, MakesFile}
use Rattle.linux_model.specs.Called.{Called, Gives, following, first, given}
use Rattle.linux_model.specs.Descriptors.{descriptions_left, freeing}
use Rattle.linux_model.specs.FileCalls.{openat_row, opened_at, opens_file, opens_name, unlinkat_row, unlinked}
use Rattle.linux_model.specs.Held.{Held, with_held, held_after}
use Rattle.linux_model.specs.Managed.{Managed, managed_after_all}
use Rattle.linux_model.specs.Paths.{Found, Named, at_path}
use Rattle.linux_model.proofs.fits.Files.{last_file}
use Rattle.call_machine.specs.Effects.{made_file}
use Rattle.call_machine.specs.Laws.{effects_of}
use Rattle.call_machine.specs.Lawful.{Lawful}
use Rattle.call_machine.specs.Lent.{Ran, kernel_of}
use Rattle.call_machine.proofs.Rows.{each_process, managed_over, of_process, still_manages, stops_as, stops_following}
use Rattle.sys_paths.specs.Reached.{found_of, then_of, Reached}
use Rattle.sys_paths.specs.declared.walk.Found.{Found as Place}
use Rattle.sys_files.specs.Names.{cuts, flags_of, refusal}

-- ---- flags

told_is : (flags flags' : ℕ) → ◌≡◌ {A = Option ℕ} (Some flags') (Some flags) → flags ≡ flags'
told_is flags flags' e = cc e

taken : (b : Bool) (flags flags' : ℕ) (g : ℕ → Called) → Some flags' ≡ cond b None (Some flags) → first ((b, EINVAL) ∷ []) (g flags) ≡ g flags'
taken true flags flags' g e = cc e
taken false flags flags' g e = ap g (told_is flags flags' e)

cut_or_not : (b : Bool) (file : ℕ) (man : Managed) → managed_after_all (cond b (CutsFile file 0 ∷ []) []) man ≡ man
cut_or_not true file man = refl
cut_or_not false file man = refl

pub cuts_stay : (file flags : ℕ) (man : Managed) → managed_after_all (cuts file flags) man ≡ man
cuts_stay file flags man = cut_or_not _ file man

free_or_not : (b : Bool) (file : ℕ) (man : Managed) → managed_after_all (cond b [] (FreesFile file ∷ [])) man ≡ man
free_or_not true file man = refl
free_or_not false file man = refl

pub frees_stay : (file : ℕ) (k : Kernel) (man : Managed) → managed_after_all (freeing (Some file) k) man ≡ man
frees_stay file k man = free_or_not (has_file file k.descs) file man

-- nothing stands against a name
unrefused : (there absent creates alone : Bool) (rest : Called) → absent ≡ not there → cond (there && creates && alone) (Some EEXIST) (cond (not there && not creates) (Some ENOENT) None) ≡ None → first ((there && creates && alone, EEXIST) ∷ (absent && not creates, ENOENT) ∷ []) rest ≡ rest
unrefused true absent true true rest is e = cc e
unrefused true absent true false rest is e = ap (λ (b : Bool). first ((b && false, ENOENT) ∷ []) rest) is
unrefused true absent false alone rest is e = ap (λ (b : Bool). first ((b && true, ENOENT) ∷ []) rest) is
unrefused false absent true alone rest is e = ap (λ (b : Bool). first ((b && false, ENOENT) ∷ []) rest) is
unrefused false absent false alone rest is e = cc e

absent_is : (file : Option FileNo) → is_none file ≡ not (is_some file)
absent_is (Some file) = refl
absent_is None = refl

-- ---- a new file

pub record Room (h : Held) (file : FileNo) : Type 0 where
  pub room : leb FILES (length h.files) ≡ false
  pub number : file.0 ≡ h.next

room_of : (b : Bool) (file : FileNo) (next : ℕ) → Some file ≡ cond b None (Some (record { 0 = next })) → (b ≡ false) × (file.0 ≡ next)
room_of true file next e = cc e
room_of false file next e = (refl, number_of_made e)
  where
    number_of_made : ◌≡◌ {A = Option FileNo} (Some file) (Some (record { 0 = next })) → file.0 ≡ next
    number_of_made e = cc e

pub room_left : (h : Held) (file : FileNo) → Some file ≡ made_file h → Room h file
room_left h file e = let r = room_of (leb FILES (length h.files)) file h.next e in record { room = r.0; number = r.1 }

no_name : (b : Bool) (x : Option FileNo) → x ≡ None → b ≡ false → (is_some x || b) ≡ false
no_name b None e f = f
no_name b (Some file) e f = cc e

grown_there : (b : Bool) (k l : Kernel) (n : ℕ) → b ≡ false → is_file l.files n ≡ true → is_file (cond b k l).files n ≡ true
grown_there true k l n fails is = cc fails
grown_there false k l n fails is = is

pub new_file_there : (h : Held) (name : List ℕ) (file : FileNo) → named h.names name ≡ None → Some file ≡ made_file h → is_file (held_after (MakesFile name) h).files file.0 ≡ true
new_file_there h name file absent made =
    let r = room_left h file made in
    let new : File = record { file = h.next; bytes = [] } in
    let grown : Kernel = record (with_held h (unbooted [])) { files = h.files ++ new ∷ []; names = with_name (record { name = name; file = record { 0 = h.next } }) h.names; next = h.next + 1 } in
    let there : is_file (held_after (MakesFile name) h).files h.next ≡ true = grown_there (is_some (named h.names name) || leb FILES (length h.files)) (with_held h (unbooted [])) grown h.next (no_name (leb FILES (length h.files)) (named h.names name) absent r.room) (last_file h.files new) in
    ap (λ (n : ℕ). is_file (held_after (MakesFile name) h).files n) r.number ∙ there

-- ---- rows

-- flags that openat takes
pub openat_is : (p : Process) (k : Kernel) (dir path flags flags' : ℕ) → Some flags' ≡ flags_of flags → openat_row p k dir path flags ≡ at_path p k dir path (opened_at p k flags')
openat_is p k dir path flags flags' e = taken (mode_of flags == 3 || not (bit_and flags OPEN_FLAGS == flags)) flags flags' (λ n. at_path p k dir path (opened_at p k n)) e

-- a name that nothing stands against, with a free descriptor and room for a description
pub named_row : (p : Process) (k : Kernel) (flags fd : ℕ) (name : List ℕ) (file : Option FileNo) → refusal (is_some file) flags ≡ None → lowest_free p.fds 0 ≡ Some fd → ltb (descriptions_left k) 1 ≡ false → opened_at p k flags (Named name file) ≡ opens_name p k fd flags name file
named_row p k flags fd name file none free room =
    let opens : ℕ → Called = λ n. first ((ltb (descriptions_left k) 1, ENFILE) ∷ []) (opens_name p k n flags name file) in
    unrefused (is_some file) (is_none file) (has flags O_CREAT) (has flags O_EXCL) (given (lowest_free p.fds 0) EMFILE opens) (absent_is file) none
    ∙ ap (λ (o : Option ℕ). given o EMFILE opens) free
    ∙ ap (λ (b : Bool). first ((b, ENFILE) ∷ []) (opens_name p k fd flags name file)) room

-- the row where there is room for a file
pub made_row : (p : Process) (man : Managed) (h : Held) (k : Kernel) (fd flags : ℕ) (name : List ℕ) (file : FileNo) → Some file ≡ made_file h → opens_name p (kernel_of man h k) fd flags name None ≡ following (MakesFile name ∷ []) (opens_file p fd file.0 flags)
made_row p man h k fd flags name file made =
    let r = room_left h file made in
    ap (λ (b : Bool). following (MakesFile name ∷ []) (first ((b, ENOSPC) ∷ []) (opens_file p fd h.next flags))) r.room
    ∙ ap (λ (n : ℕ). following (MakesFile name ∷ []) (opens_file p fd n flags)) (sym r.number)

pub unlinkat_is : (p : Process) (k : Kernel) (dir path flags : ℕ) → flags ≡ 0 → unlinkat_row p k dir path flags ≡ at_path p k dir path (unlinked k)
unlinkat_is p k dir path flags none = ap (λ (n : ℕ). unlinkat_row p k dir path n) none

-- ---- what a path leads to

module _ {X : Type 0} (held : X → Held) (does stops : X → X → List Effect → Type 0) (laws : Lawful held does stops) where
  -- a call that always answers, after effects that change nothing of what is managed
  pub answers_after : (old mid new : X) (man man' : Managed) (es : List Effect) (row rest : Called) (result : Result ℕ Halt) → managed_after_all es man ≡ man → does old mid es → row ≡ following es rest → IfOk result (λ value. Ran does mid new man man' rest (λ fs. Gives fs value)) → IfOk result (λ value. Ran does old new man man' row (λ fs. Gives fs value))
  answers_after old mid new man man' es row rest (Ok value) still did is r = record {
    effects = es ++ r.effects;
    row_is = is ∙ ap (following es) r.row_is;
    did = laws.both old mid new es r.effects did r.did;
    managed = managed_over es r.effects man man' still r.managed;
  }
  answers_after old mid new man man' es row rest (Err halt) still did is r = r

  -- a call that hands on
  pub answers_as : (old new : X) (man man' : Managed) (row rest : Called) (result : Result ℕ Halt) → row ≡ rest → IfOk result (λ value. Ran does old new man man' rest (λ fs. Gives fs value)) → IfOk result (λ value. Ran does old new man man' row (λ fs. Gives fs value))
  answers_as old new man man' row rest result is h = subst (λ (r : Called). IfOk result (λ value. Ran does old new man man' r (λ fs. Gives fs value))) (sym is) h

  -- a file that was made is there
  pub held_made : (old new : X) (name : List ℕ) (file : FileNo) → does old new (MakesFile name ∷ []) → named (held old).names name ≡ None → Some file ≡ made_file (held old) → is_file (held new).files file.0 ≡ true
  held_made old new name file did absent made = ap (λ (h : Held). is_file h.files file.0) (laws.holds old new (MakesFile name ∷ []) did) ∙ new_file_there (held old) name file absent made

  module _ (old mid : X) (man : Managed) (pid dir path : ℕ) (k : Kernel) (row : Process → Kernel → Called) (f : Process → Kernel → Found → Called) (is : (p : Process) → row p (kernel_of man (held old) k) ≡ at_path p (kernel_of man (held old) k) dir path (f p (kernel_of man (held old) k))) where
    -- the machine stopped on the way
    pub path_stops : ((g : Found → Called) → IfSome (process man.procs pid) (λ p. stops old mid (effects_of (at_path p (kernel_of man (held old) k) dir path g)))) → IfSome (process man.procs pid) (λ p. stops old mid (effects_of (row p (kernel_of man (held old) k))))
    path_stops s =
        each_process man pid (λ p. stops old mid (effects_of (row p (kernel_of man (held old) k))))
        (λ p own there. stops_as held does stops laws old mid (row p (kernel_of man (held old) k)) (at_path p (kernel_of man (held old) k) dir path (f p (kernel_of man (held old) k))) (is p)
        (of_process man pid (λ q. stops old mid (effects_of (at_path q (kernel_of man (held old) k) dir path (f p (kernel_of man (held old) k))))) p there (s (f p (kernel_of man (held old) k)))))

    module _ (end : Result Place ℕ) (leads : IfSome (process man.procs pid) (λ p. Reached does old mid (at_path p (kernel_of man (held old) k) dir path) end)) where
      -- what it leads to is done
      pub path_answers : (new : X) (man' : Managed) (found : Place) (result : Result ℕ Halt) → end ≡ Ok found → held mid ≡ held old
          → IfSome (process man.procs pid) (λ p. IfOk result (λ value. Ran does mid new man man' (f p (kernel_of man (held mid) k) (found_of found)) (λ es. Gives es value)))
          → IfSome (process man.procs pid) (λ p. IfOk result (λ value. Ran does old new man man' (row p (kernel_of man (held old) k)) (λ es. Gives es value)))
      path_answers new man' found result ok still h =
          each_process man pid (λ p. IfOk result (λ value. Ran does old new man man' (row p (kernel_of man (held old) k)) (λ es. Gives es value)))
          (λ p own there.
          let r = of_process man pid (λ q. Reached does old mid (at_path q (kernel_of man (held old) k) dir path) end) p there leads in
          answers_after old mid new man man' r.effects (row p (kernel_of man (held old) k)) (f p (kernel_of man (held old) k) (found_of found)) result (still_manages r.effects r.still man) r.did (is p ∙ r.row_is (f p (kernel_of man (held old) k)) ∙ ap (λ (o : Result Place ℕ). following r.effects (then_of o (f p (kernel_of man (held old) k)))) ok)
          (subst (λ (g : Held). IfOk result (λ value. Ran does mid new man man' (f p (kernel_of man g k) (found_of found)) (λ es. Gives es value))) still (of_process man pid (λ q. IfOk result (λ value. Ran does mid new man man' (f q (kernel_of man (held mid) k) (found_of found)) (λ es. Gives es value))) p there h)))

      -- and the machine stopped there
      pub path_stops_then : (new : X) (found : Place) → end ≡ Ok found → held mid ≡ held old
          → IfSome (process man.procs pid) (λ p. stops mid new (effects_of (f p (kernel_of man (held mid) k) (found_of found))))
          → IfSome (process man.procs pid) (λ p. stops old new (effects_of (row p (kernel_of man (held old) k))))
      path_stops_then new found ok still h =
          each_process man pid (λ p. stops old new (effects_of (row p (kernel_of man (held old) k))))
          (λ p own there.
          let r = of_process man pid (λ q. Reached does old mid (at_path q (kernel_of man (held old) k) dir path) end) p there leads in
          stops_following held does stops laws old mid new r.effects (row p (kernel_of man (held old) k)) (f p (kernel_of man (held old) k) (found_of found)) (is p ∙ r.row_is (f p (kernel_of man (held old) k)) ∙ ap (λ (o : Result Place ℕ). following r.effects (then_of o (f p (kernel_of man (held old) k)))) ok) r.did
          (subst (λ (g : Held). stops mid new (effects_of (f p (kernel_of man g k) (found_of found)))) still (of_process man pid (λ q. stops mid new (effects_of (f q (kernel_of man (held mid) k) (found_of found)))) p there h)))

      -- it leads nowhere
      pub path_refused : (errno : ℕ) → end ≡ Err errno → IfSome (process man.procs pid) (λ p. Ran does old mid man man (row p (kernel_of man (held old) k)) (λ es. Gives es errno))
      path_refused errno err =
          each_process man pid (λ p. Ran does old mid man man (row p (kernel_of man (held old) k)) (λ es. Gives es errno))
          (λ p own there.
          let r = of_process man pid (λ q. Reached does old mid (at_path q (kernel_of man (held old) k) dir path) end) p there leads in
          record {
            effects = r.effects;
            row_is = is p ∙ r.row_is (f p (kernel_of man (held old) k)) ∙ ap (λ (o : Result Place ℕ). following r.effects (then_of o (f p (kernel_of man (held old) k)))) err ∙ ap (λ (es : List Effect). Gives es errno) (append-nil r.effects);
            did = r.did;
            managed = still_manages r.effects r.still man;
          })
