-- How many descriptors refer to a description, as processes change.
use Rattle.std.proofs.Common.{◌≡◌, ℕ, suc, ◌+◌, ◌*◌, ◌≤◌, ◌<◌, Bool, true, false, cond, eqb, ltb, ◌||◌, refl, ◌∙◌, ap, List, [], ◌∷◌, ◌++◌, length, slice_set, Option, Some, None, arith}
use Rattle.std.proofs.lemmas.Bool.{lt-ltb, eqb-true, ltb-true, ltb-false, ne_eqb}
use Rattle.kernel_objects.specs.declared.descriptor.Description.{Description}
use Rattle.kernel_objects.specs.declared.descriptor.FdEntry.{FdEntry}
use Rattle.kernel_objects.specs.Slots.{slot, picks, holds_some}
use Rattle.linux_model.specs.State.{Process}
use Rattle.linux_model.specs.Processes.{at_pid, process, is_referred}
use Rattle.linux_model.specs.Effects.{at_fd}
use Rattle.linux_model.specs.Fits.{PidsRise, ProcsFit}
use Rattle.manager.specs.Counting.{one_if, slots_with, references, refers}
use Rattle.manager.proofs.Held.{with-set, with_some}

-- ---- a change of one process

one_same : (b : Bool) (n : ℕ) (f : Process → Process) (p : Process) → (f p).fds ≡ p.fds → slots_with (refers n) (cond b (f p) p).fds ≡ slots_with (refers n) p.fds
one_same true n f p e = ap (slots_with (refers n)) e
one_same false n f p e = refl

-- that keeps its descriptors
pub references_at : (f : Process → Process) → ((p : Process) → (f p).fds ≡ p.fds) → (n pid : ℕ) (procs : List Process) → references n (at_pid pid f procs) ≡ references n procs
references_at f same n pid [] = refl
references_at f same n pid (p ∷ procs) =
    let one = one_same (eqb p.pid pid) n f p (same p) in
    let rest = references_at f same n pid procs in
    omega (arith, one, rest)

pub length_at : (f : Process → Process) (pid : ℕ) (procs : List Process) → length (at_pid pid f procs) ≡ length procs
length_at f pid [] = refl
length_at f pid (p ∷ procs) = ap suc (length_at f pid procs)

pub references-append : (n : ℕ) (procs : List Process) (p : Process) → references n (procs ++ p ∷ []) ≡ references n procs + slots_with (refers n) p.fds
references-append n [] p = omega arith
references-append n (q ∷ procs) p = let rest = references-append n procs p in omega (arith, rest)

-- ---- a descriptor of one process

other_pid : (a b : ℕ) → b < a → eqb a b ≡ false
other_pid a b lt = ne_eqb a b (λ e. omega (arith, e, lt))

-- no process has a pid that is as low
pub at_above : (f : Process → Process) (pid low last : ℕ) (procs : List Process) → PidsRise low last procs → pid ≤ low → at_pid pid f procs ≡ procs
at_above f pid low last [] r le = refl
at_above f pid low last (p ∷ procs) r le =
    let a : low < p.pid = r.0 in
    ap (λ (b : Bool). cond b (f p) p ∷ at_pid pid f procs) (other_pid p.pid pid (omega (arith, a, le)))
    ∙ ap (λ (ps : List Process). p ∷ ps) (at_above f pid p.pid last procs r.2 (omega (arith, a, le)))

inside : (p q : Process) → Some p ≡ Some q → p ≡ q
inside p q e = ap (λ (o : Option Process). unwrap o) e
  where
    unwrap : Option Process → Process
    unwrap None = p
    unwrap (Some x) = x

fd_on : (b : Bool) (n pid fd : ℕ) (e : Option FdEntry) (q p : Process) (last : ℕ) (procs : List Process)
    → eqb q.pid pid ≡ b → PidsRise q.pid last procs → cond b (Some q) (process procs pid) ≡ Some p → fd < length p.fds
    → (process procs pid ≡ Some p → references n (at_pid pid (at_fd fd e) procs) + one_if (picks (refers n) (slot p.fds fd)) ≡ references n procs + one_if (picks (refers n) e))
    → references n (cond b (at_fd fd e q) q ∷ at_pid pid (at_fd fd e) procs) + one_if (picks (refers n) (slot p.fds fd)) ≡ references n (q ∷ procs) + one_if (picks (refers n) e)
fd_on true n pid fd e q p last procs at r found lt more =
    let is : q ≡ p = inside q p found in
    let same : q.pid ≡ pid = eqb-true q.pid pid at in
    let rest = ap (references n) (at_above (at_fd fd e) pid q.pid last procs r (omega (arith, same))) in
    let here = with-set (refers n) p.fds fd e lt in
    let old = ap (λ (x : Process). slots_with (refers n) x.fds) is in
    let new = ap (λ (x : Process). slots_with (refers n) (slice_set x.fds fd e)) is in
    omega (arith, rest, here, old, new)
fd_on false n pid fd e q p last procs at r found lt more = let rest = more found in omega (arith, rest)

pub references_fd : (n pid fd : ℕ) (e : Option FdEntry) (p : Process) (low last : ℕ) (procs : List Process) → PidsRise low last procs → process procs pid ≡ Some p → fd < length p.fds
    → references n (at_pid pid (at_fd fd e) procs) + one_if (picks (refers n) (slot p.fds fd)) ≡ references n procs + one_if (picks (refers n) e)
references_fd n pid fd e p low last [] r found lt = cc found
references_fd n pid fd e p low last (q ∷ procs) r found lt =
    fd_on (eqb q.pid pid) n pid fd e q p last procs refl r.2 found lt (λ more. references_fd n pid fd e p q.pid last procs r.2 more lt)

-- ---- bounds

pub with_le-length : {X : Type 0} (test : X → Bool) (slots : List (Option X)) → slots_with test slots ≤ length slots
with_le-length test [] = omega arith
with_le-length test (x ∷ slots) = let rest = with_le-length test slots in let one = one_at (picks test x) in omega (arith, rest, one)
  where
    one_at : (b : Bool) → one_if b ≤ 1
    one_at true = omega arith
    one_at false = omega arith

pub references_le : (n : ℕ) (descs : List (Option Description)) (procs : List Process) → ProcsFit descs procs → references n procs ≤ 64 * length procs
references_le n descs [] f = omega arith
references_le n descs (p ∷ procs) f =
    let one = with_le-length (refers n) p.fds in
    let slots = f.0.slots in
    let rest = references_le n descs procs f.1 in
    omega (arith, one, slots, rest)

-- ---- who is referred to

some_of : (b c : Bool) (m n : ℕ) → ltb 0 m ≡ b → ltb 0 n ≡ c → ltb 0 (m + n) ≡ (b || c)
some_of true c m n e f = let lt = ltb-true 0 m e in lt-ltb 0 (m + n) (omega (arith, lt))
some_of false c m n e f = let le = ltb-false 0 m e in ap (ltb 0) (omega (arith, le)) ∙ f

pub referred : (n : ℕ) (procs : List Process) → ltb 0 (references n procs) ≡ is_referred n procs
referred n [] = refl
referred n (p ∷ procs) = some_of (holds_some (refers n) p.fds) (is_referred n procs) (slots_with (refers n) p.fds) (references n procs) (with_some (refers n) p.fds) (referred n procs)
