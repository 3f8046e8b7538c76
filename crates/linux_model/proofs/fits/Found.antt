-- A process that is there, and what closing makes of it.
use Rattle.std.proofs.Common.{◌≡◌, ℕ, zero, suc, ◌+◌, ◌≤◌, ◌<◌, Bool, true, false, cond, eqb, ◌||◌, refl, sym, ◌∙◌, ap, subst, List, [], ◌∷◌, ◌++◌, drop, slice_set, Option, Some, None, is_some, arith}
use Rattle.std.proofs.lemmas.Bool.{eqb-true}
use Rattle.lego_base.specs.Files.{has_name}
use Rattle.kernel_objects.specs.declared.descriptor.Description.{Description}
use Rattle.kernel_objects.specs.declared.descriptor.FdEntry.{FdEntry}
use Rattle.kernel_objects.specs.declared.descriptor.Object.{Object}
use Rattle.kernel_objects.specs.declared.descriptor.Object.TheVariants.{PipeRead, PipeWrite}
use Rattle.kernel_objects.specs.Slots.{slot, picks, holds_some, freed}
use Rattle.linux_model.specs.State.{Kernel, Process}
use Rattle.linux_model.specs.Processes.{at_pid, process, fds_of, is_live, is_referred, has_file, has_reader, has_writer}
use Rattle.linux_model.specs.Effects.{Effect, Closes, FreesFile, apply, applies, at_fd, desc_at, object_ends, description_ends, let_go}
use Rattle.linux_model.specs.Descriptors.{freeing, file_behind, closing, closing_if, closings}
use Rattle.linux_model.specs.Fits.{PidsRise, EntriesFit, LivesAt, NoneOpen, AllAllowed}
use Rattle.linux_model.proofs.Folds.{applies-append}

-- ---- one process by its pid

abbrev pub unwrap : Process → Option Process → Process
unwrap p None = p
unwrap p (Some q) = q

pub inside : (p q : Process) → Some p ≡ Some q → p ≡ q
inside p q e = ap (unwrap p) e

pid_at : (b : Bool) (q p : Process) (rest : Option Process) (pid : ℕ) → eqb q.pid pid ≡ b → (rest ≡ Some p → eqb p.pid pid ≡ true) → cond b (Some q) rest ≡ Some p → eqb p.pid pid ≡ true
pid_at true q p rest pid e more f = subst (λ (x : Process). eqb x.pid pid ≡ true) (inside q p f) e
pid_at false q p rest pid e more f = more f

pub found_pid : (procs : List Process) (pid : ℕ) (p : Process) → process procs pid ≡ Some p → eqb p.pid pid ≡ true
found_pid [] pid p e = cc e
found_pid (q ∷ procs) pid p e = pid_at (eqb q.pid pid) q p (process procs pid) pid refl (found_pid procs pid p) e

-- the process after a change of those with its pid
changed_at : (b : Bool) (f : Process → Process) (q p : Process) (rest rest' : Option Process) (pid : ℕ) → eqb q.pid pid ≡ b → (f q).pid ≡ q.pid → (rest ≡ Some p → rest' ≡ Some (f p)) → cond b (Some q) rest ≡ Some p → cond (eqb (cond b (f q) q).pid pid) (Some (cond b (f q) q)) rest' ≡ Some (f p)
changed_at true f q p rest rest' pid e same more is =
    ap (λ (n : ℕ). cond (eqb n pid) (Some (f q)) rest') same
    ∙ ap (λ (b : Bool). cond b (Some (f q)) rest') e
    ∙ ap (λ (x : Process). Some (f x)) (inside q p is)
changed_at false f q p rest rest' pid e same more is = ap (λ (b : Bool). cond b (Some q) rest') e ∙ more is

pub process_at : (f : Process → Process) → ((p : Process) → (f p).pid ≡ p.pid) → (procs : List Process) (pid : ℕ) (p : Process) → process procs pid ≡ Some p → process (at_pid pid f procs) pid ≡ Some (f p)
process_at f same [] pid p e = cc e
process_at f same (q ∷ procs) pid p e = changed_at (eqb q.pid pid) f q p (process procs pid) (process (at_pid pid f procs) pid) pid refl (same q) (process_at f same procs pid p) e

-- pids rise, so no other process has the pid
above : (low last : ℕ) (procs : List Process) (pid : ℕ) → PidsRise low last procs → pid ≤ low → process procs pid ≡ None
above low last [] pid r h = refl
above low last (q ∷ procs) pid r h =
    let more : low < q.pid = r.0 in
    other (eqb q.pid pid) refl (above q.pid last procs pid r.2 (omega arith))
  where
    other : (b : Bool) → eqb q.pid pid ≡ b → process procs pid ≡ None → cond b (Some q) (process procs pid) ≡ None
    other true e f = let same : q.pid ≡ pid = eqb-true q.pid pid e in let more : low < q.pid = r.0 in absurd (omega arith)
    other false e f = f

-- each process with a pid, where the one that is found has a property
abbrev EachAt : (Process → Type 0) → ℕ → List Process → Type 0
EachAt P pid [] = Unit {0}
EachAt P pid (p ∷ procs) = (eqb p.pid pid ≡ true → P p) × EachAt P pid procs

none_at : (b : Bool) (q : Process) (rest : Option Process) → cond b (Some q) rest ≡ None → (b ≡ false) × (rest ≡ None)
none_at true q rest e = cc e
none_at false q rest e = (refl, e)

each_none : (P : Process → Type 0) (pid : ℕ) (procs : List Process) → process procs pid ≡ None → EachAt P pid procs
each_none P pid [] e = tt
each_none P pid (q ∷ procs) e =
    let parts = none_at (eqb q.pid pid) q (process procs pid) e in
    ((λ is. let no : eqb q.pid pid ≡ false = parts.0 in cc (is, no)), each_none P pid procs parts.1)

each_found : (P : Process → Type 0) (pid low last : ℕ) (procs : List Process) (p : Process) → PidsRise low last procs → process procs pid ≡ Some p → P p → EachAt P pid procs
each_found P pid low last [] p r e h = tt
each_found P pid low last (q ∷ procs) p r e h = by (eqb q.pid pid) refl e (each_found P pid q.pid last procs p r.2)
  where
    by : (b : Bool) → eqb q.pid pid ≡ b → cond b (Some q) (process procs pid) ≡ Some p → (process procs pid ≡ Some p → P p → EachAt P pid procs) → EachAt P pid (q ∷ procs)
    by true f e more =
        let same : q.pid ≡ pid = eqb-true q.pid pid f in
        ((λ is. subst P (sym (inside q p e)) h), each_none P pid procs (above q.pid last procs pid r.2 (omega arith)))
    by false f e more = ((λ is. cc (is, f)), more e h)

lives_each : (pid : ℕ) (procs : List Process) → EachAt (λ p. is_live p.state ≡ true) pid procs → LivesAt pid procs
lives_each pid [] e = tt
lives_each pid (p ∷ procs) e = (e.0, lives_each pid procs e.1)

none_each : (pid : ℕ) (procs : List Process) → EachAt (λ p. holds_some (λ e. true) p.fds ≡ false) pid procs → NoneOpen pid procs
none_each pid [] e = tt
none_each pid (p ∷ procs) e = (e.0, none_each pid procs e.1)

pub no_other : (low last : ℕ) (procs : List Process) (pid : ℕ) → PidsRise low last procs → pid ≤ low → LivesAt pid procs
no_other low last procs pid r h = lives_each pid procs (each_none (λ p. is_live p.state ≡ true) pid procs (above low last procs pid r h))

pub lives_found : (pid last : ℕ) (procs : List Process) (p : Process) → PidsRise 0 last procs → process procs pid ≡ Some p → is_live p.state ≡ true → LivesAt pid procs
lives_found pid last procs p r e live = lives_each pid procs (each_found (λ p. is_live p.state ≡ true) pid 0 last procs p r e live)

pub none_found : (pid last : ℕ) (procs : List Process) (p : Process) → PidsRise 0 last procs → process procs pid ≡ Some p → holds_some (λ e. true) p.fds ≡ false → NoneOpen pid procs
none_found pid last procs p r e none = none_each pid procs (each_found (λ p. holds_some (λ e. true) p.fds ≡ false) pid 0 last procs p r e none)

pub none_absent : (pid : ℕ) (procs : List Process) → process procs pid ≡ None → NoneOpen pid procs
none_absent pid procs e = none_each pid procs (each_none (λ p. holds_some (λ e. true) p.fds ≡ false) pid procs e)

-- an entry of a process that fits
pub entry_fits : (descs : List (Option Description)) (fds : List (Option FdEntry)) (fd : ℕ) (e : FdEntry) → EntriesFit descs fds → slot fds fd ≡ Some e → is_some (slot descs e.desc) ≡ true
entry_fits descs [] fd e f is = cc is
entry_fits descs (None ∷ fds) zero e f is = cc is
entry_fits descs (Some x ∷ fds) zero e f is = subst (λ (y : FdEntry). is_some (slot descs y.desc) ≡ true) (ap (unwrap_entry x) is) f.0
  where
    unwrap_entry : FdEntry → Option FdEntry → FdEntry
    unwrap_entry x None = x
    unwrap_entry x (Some y) = y
entry_fits descs (None ∷ fds) (suc fd) e f is = entry_fits descs fds fd e f is
entry_fits descs (Some x ∷ fds) (suc fd) e f is = entry_fits descs fds fd e f.1 is

-- ---- closing

either_procs : (b : Bool) (k l : Kernel) (procs : List Process) → k.procs ≡ procs → l.procs ≡ procs → (cond b k l).procs ≡ procs
either_procs true k l procs e f = e
either_procs false k l procs e f = f

object_procs : (object : Object) (k : Kernel) → (object_ends object k).procs ≡ k.procs
object_procs (PipeRead pipe) k = either_procs (has_reader pipe k.descs || has_writer pipe k.descs) k _ k.procs refl refl
object_procs (PipeWrite pipe) k = either_procs (has_reader pipe k.descs || has_writer pipe k.descs) k _ k.procs refl refl
object_procs other k = refl

description_procs : (d : Option Description) (k : Kernel) → (description_ends d k).procs ≡ k.procs
description_procs None k = refl
description_procs (Some d) k = object_procs d.object k

let_go_procs : (desc : Option ℕ) (k : Kernel) → (let_go desc k).procs ≡ k.procs
let_go_procs None k = refl
let_go_procs (Some desc) k = either_procs (is_referred desc k.procs) k _ k.procs refl (description_procs (slot k.descs desc) (record k { descs = freed k.descs desc }))

pub closed_procs : (pid fd : ℕ) (k : Kernel) → (apply (Closes pid fd) k).procs ≡ at_pid pid (at_fd fd None) k.procs
closed_procs pid fd k = let_go_procs (desc_at (slot (fds_of (process k.procs pid)) fd)) (record k { procs = at_pid pid (at_fd fd None) k.procs })

freed_procs : (b c : Bool) (file : ℕ) (k : Kernel) → has_name k.names file ≡ c → (applies (cond b [] (FreesFile file ∷ [])) k).procs ≡ k.procs
freed_procs true c file k e = refl
freed_procs false c file k e = either_procs (has_name k.names file) k _ k.procs refl refl

freeing_procs : (file : Option ℕ) (k : Kernel) → (applies (freeing file k) k).procs ≡ k.procs
freeing_procs None k = refl
freeing_procs (Some file) k = freed_procs (has_file file k.descs) (has_name k.names file) file k refl

pub closing_procs : (pid fd : ℕ) (k : Kernel) → (applies (closing pid fd k) k).procs ≡ at_pid pid (at_fd fd None) k.procs
closing_procs pid fd k = freeing_procs (file_behind (process k.procs pid) fd k) (apply (Closes pid fd) k) ∙ closed_procs pid fd k

pub frees_allowed : (b : Bool) (file : ℕ) (k : Kernel) → has_file file k.descs ≡ b → AllAllowed (cond b [] (FreesFile file ∷ [])) k
frees_allowed true file k e = tt
frees_allowed false file k e = (e, tt)

pub freeing_allowed : (file : Option ℕ) (k : Kernel) → AllAllowed (freeing file k) k
freeing_allowed None k = tt
freeing_allowed (Some file) k = frees_allowed (has_file file k.descs) file k refl

pub closing_allowed : (b : Bool) (pid fd : ℕ) (k : Kernel) → AllAllowed (closing_if b pid fd k) k
closing_allowed false pid fd k = tt
closing_allowed true pid fd k = (tt, freeing_allowed (file_behind (process k.procs pid) fd k) (apply (Closes pid fd) k))

pub allowed-append : (es fs : List Effect) (k : Kernel) → AllAllowed es k → AllAllowed fs (applies es k) → AllAllowed (es ++ fs) k
allowed-append [] fs k a b = b
allowed-append (e ∷ es) fs k a b = (a.0, allowed-append es fs (apply e k) a.1 b)

pub closings_allowed : (test : FdEntry → Bool) (pid fd : ℕ) (fds : List (Option FdEntry)) (k : Kernel) → AllAllowed (closings test pid fd fds k) k
closings_allowed test pid fd [] k = tt
closings_allowed test pid fd (x ∷ fds) k =
    allowed-append (closing_if (picks test x) pid fd k) _ k (closing_allowed (picks test x) pid fd k)
    (closings_allowed test pid (fd + 1) fds (applies (closing_if (picks test x) pid fd k) k))

-- ---- all descriptors are closed

-- the first n descriptors are free
abbrev emptied : ℕ → List (Option FdEntry) → List (Option FdEntry)
emptied zero fds = fds
emptied (suc n) [] = []
emptied (suc n) (x ∷ fds) = None ∷ emptied n fds

one_more : (n : ℕ) (fds : List (Option FdEntry)) → slice_set (emptied n fds) n None ≡ emptied (suc n) fds
one_more zero [] = refl
one_more zero (x ∷ fds) = refl
one_more (suc n) [] = refl
one_more (suc n) (x ∷ fds) = ap (λ (l : List (Option FdEntry)). None ∷ l) (one_more n fds)

was_free : (n : ℕ) (fds rest : List (Option FdEntry)) → drop n fds ≡ None ∷ rest → emptied n fds ≡ emptied (suc n) fds
was_free zero [] rest e = refl
was_free zero (None ∷ fds) rest e = refl
was_free zero (Some x ∷ fds) rest e = cc e
was_free (suc n) [] rest e = refl
was_free (suc n) (x ∷ fds) rest e = ap (λ (l : List (Option FdEntry)). None ∷ l) (was_free n fds rest e)

next_drop : (n : ℕ) (fds : List (Option FdEntry)) (x : Option FdEntry) (rest : List (Option FdEntry)) → drop n fds ≡ x ∷ rest → drop (suc n) fds ≡ rest
next_drop zero [] x rest e = cc e
next_drop zero (y ∷ fds) x rest e = ap (λ (l : List (Option FdEntry)). drop 1 l) e
next_drop (suc n) [] x rest e = cc e
next_drop (suc n) (y ∷ fds) x rest e = next_drop n fds x rest e

none_left : (n : ℕ) (fds : List (Option FdEntry)) → drop n fds ≡ [] → holds_some (λ e. true) (emptied n fds) ≡ false
none_left zero [] e = refl
none_left zero (x ∷ fds) e = cc e
none_left (suc n) [] e = refl
none_left (suc n) (x ∷ fds) e = none_left n fds e

-- a process with these descriptors
abbrev with_fds : Process → List (Option FdEntry) → Process
with_fds p fds = record p { fds = fds }

closes_on : (x : Option FdEntry) (pid n : ℕ) (p : Process) (fds rest : List (Option FdEntry)) (k : Kernel) → process k.procs pid ≡ Some (with_fds p (emptied n fds)) → drop n fds ≡ x ∷ rest
    → process (applies (closing_if (picks (λ e. true) x) pid n k) k).procs pid ≡ Some (with_fds p (emptied (suc n) fds))
closes_on None pid n p fds rest k is e = is ∙ ap (λ (l : List (Option FdEntry)). Some (with_fds p l)) (was_free n fds rest e)
closes_on (Some x) pid n p fds rest k is e =
    ap (λ (procs : List Process). process procs pid) (closing_procs pid n k)
    ∙ process_at (at_fd n None) (λ p. refl) k.procs pid (with_fds p (emptied n fds)) is
    ∙ ap (λ (l : List (Option FdEntry)). Some (with_fds p l)) (one_more n fds)

all_closed : (pid n : ℕ) (p : Process) (fds rest : List (Option FdEntry)) (k : Kernel) → process k.procs pid ≡ Some (with_fds p (emptied n fds)) → drop n fds ≡ rest
    → (m : ℕ) × ((process (applies (closings (λ e. true) pid n rest k) k).procs pid ≡ Some (with_fds p (emptied m fds))) × (drop m fds ≡ []))
all_closed pid n p fds [] k is e = (n, (is, e))
all_closed pid n p fds (x ∷ rest) k is e =
    let one : n + 1 ≡ suc n = omega arith in
    let l : Kernel = applies (closing_if (picks (λ e. true) x) pid n k) k in
    let more = all_closed pid (suc n) p fds rest l (closes_on x pid n p fds rest k is e) (next_drop n fds x rest e) in (
      more.0,
      (
        ap (λ (k : Kernel). process k.procs pid) (applies-append (closing_if (picks (λ e. true) x) pid n k) (closings (λ e. true) pid (n + 1) rest l) k)
            ∙ ap (λ (m : ℕ). process (applies (closings (λ e. true) pid m rest l) l).procs pid) one
            ∙ more.1.0,
        more.1.1,
      ),
    )

pub none_after : (pid : ℕ) (p : Process) (k : Kernel) → process k.procs pid ≡ Some p → (q : Process) × ((process (applies (closings (λ e. true) pid 0 p.fds k) k).procs pid ≡ Some q) × (holds_some (λ e. true) q.fds ≡ false))
none_after pid p k is =
    let all = all_closed pid 0 p p.fds p.fds k is refl in
    (with_fds p (emptied all.0 p.fds), (all.1.0, none_left all.0 p.fds all.1.1))
