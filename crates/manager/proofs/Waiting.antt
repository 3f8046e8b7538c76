-- Who may have a turn, process by process.
use Rattle.std.proofs.Common.{◌≡◌, ℕ, zero, suc, ◌+◌, ◌≤◌, ◌⊎◌, inl, inr, Bool, true, false, not, cond, ◌&&◌, refl, sym, ◌∙◌, ap, List, [], ◌∷◌, ◌++◌, length, drop, map, slice_index, Option, Some, None, is_some, arith}
use Rattle.std.specs.Prelude.{IfSome, option_map, slice_get}
use Rattle.lego_base.specs.declared.ids.Pid.{Pid}
use Rattle.kernel_objects.specs.declared.descriptor.Object.{Object}
use Rattle.kernel_objects.specs.declared.process.Waiting.{Waiting}
use Rattle.linux_model.specs.State.{Kernel, Process, State, Live, Zombie}
use Rattle.linux_model.specs.Processes.{is_live}
use Rattle.linux_model.specs.Descriptors.{Open, arg, opened}
use Rattle.linux_model.specs.Calls.{Call, call_of, call_by, call_waits, read_waits, write_waits, wait_waits, is_empty_for, is_full_for, still_waits}
use Rattle.linux_model.specs.Turns.{is_ready, ready_in}
use Rattle.proc_table.specs.Entries.{proc_of, status_of}
use Rattle.proc_table.specs.declared.table.Proc.{Proc}

-- what holds of a thing that may be there
pub if_both : {X : Type 0} (o : Option X) (P Q R : X → Type 0) → ((x : X) → P x → Q x → R x) → IfSome o P → IfSome o Q → IfSome o R
if_both None P Q R f p q = tt
if_both (Some x) P Q R f p q = f x p q

pub if_map : {X : Type 0} (o : Option X) (P Q : X → Type 0) → ((x : X) → P x → Q x) → IfSome o P → IfSome o Q
if_map None P Q f p = tt
if_map (Some x) P Q f p = f x p

-- ---- what is known of the process at a place

pub record IsKnown (pid : Pid) (known : Proc) (p : Process) : Type 0 where
  pub pid_is : pid.0 ≡ p.pid
  pub proc_is : known ≡ proc_of p

pub known_at : (o : Option Process) (pid : Pid) (known : Proc) → option_map {U = Pid × Proc} (λ p. (record { 0 = p.pid }, proc_of p)) o ≡ Some (pid, known) → IfSome o (IsKnown pid known)
known_at None pid known e = cc e
known_at (Some p) pid known e =
    let pair : Option (Pid × Proc) → Pid × Proc = λ o. unwrap (record { 0 = p.pid }, proc_of p) o in
    record {
      pid_is = ap (λ (o : Option (Pid × Proc)). (unwrap (record { 0 = p.pid }, proc_of p) o).0.0) (sym e);
      proc_is = ap (λ (o : Option (Pid × Proc)). (unwrap (record { 0 = p.pid }, proc_of p) o).1) (sym e);
    }
  where
    unwrap : Pid × Proc → Option (Pid × Proc) → Pid × Proc
    unwrap d None = d
    unwrap d (Some x) = x

-- ---- a read and a write

pub reads_object : (o : Option Open) (object : Object) (k : Kernel) → Some object ≡ option_map (λ o. o.is.object) o → is_empty_for object k ≡ read_waits o k
reads_object None object k e = cc e
reads_object (Some o) object k e = ap (λ (x : Option Object). waits object x) e
  where
    waits : Object → Option Object → Bool
    waits d None = is_empty_for d k
    waits d (Some x) = is_empty_for x k

pub reads_none : (o : Option Open) (k : Kernel) → None ≡ option_map (λ o. o.is.object) o → false ≡ read_waits o k
reads_none None k e = refl
reads_none (Some o) k e = cc e

pub writes_object : (o : Option Open) (object : Object) (len : ℕ) (k : Kernel) → Some object ≡ option_map (λ o. o.is.object) o → is_full_for object len k ≡ write_waits o len k
writes_object None object len k e = cc e
writes_object (Some o) object len k e = ap (λ (x : Option Object). waits object x) e
  where
    waits : Object → Option Object → Bool
    waits d None = is_full_for d len k
    waits d (Some x) = is_full_for x len k

pub writes_none : (o : Option Open) (len : ℕ) (k : Kernel) → None ≡ option_map (λ o. o.is.object) o → false ≡ write_waits o len k
writes_none None len k e = refl
writes_none (Some o) len k e = cc e

-- ---- a call, by its number and its first argument

number_is : (pid : Pid) (known : Proc) (p : Process) (number : ℕ) → IsKnown pid known p → number ≡ slice_index known.cpu.x 17 → call_by p ≡ call_of number
number_is pid known p number k e = ap (λ (q : Proc). call_of (slice_index q.cpu.x 17)) (sym k.proc_is) ∙ ap call_of (sym e)

first_is : (pid : Pid) (known : Proc) (p : Process) (first : ℕ) → IsKnown pid known p → first ≡ slice_index known.cpu.x 10 → arg p 0 ≡ first
first_is pid known p first k e = ap (λ (q : Proc). slice_index q.cpu.x 10) (sym k.proc_is) ∙ sym e

pub read_call : (pid : Pid) (known : Proc) (p : Process) (number first : ℕ) (w : Waiting) (k : Kernel) → IsKnown pid known p → number ≡ slice_index known.cpu.x 17 → first ≡ slice_index known.cpu.x 10
    → (number ≡ 63) ⊎ (number ≡ 65) → read_waits (opened p first k) k ≡ call_waits (call_by p) p w k
read_call pid known p number first w k is n f (inl e) =
    ap (λ (x : ℕ). read_waits (opened p x k) k) (sym (first_is pid known p first is f)) ∙ ap (λ (c : Option Call). call_waits c p w k) (sym (number_is pid known p number is n ∙ ap call_of e))
read_call pid known p number first w k is n f (inr e) =
    ap (λ (x : ℕ). read_waits (opened p x k) k) (sym (first_is pid known p first is f)) ∙ ap (λ (c : Option Call). call_waits c p w k) (sym (number_is pid known p number is n ∙ ap call_of e))

pub write_call : (pid : Pid) (known : Proc) (p : Process) (number first : ℕ) (w : Waiting) (k : Kernel) → IsKnown pid known p → number ≡ slice_index known.cpu.x 17 → first ≡ slice_index known.cpu.x 10
    → (number ≡ 64) ⊎ (number ≡ 66) → write_waits (opened p first k) w.len k ≡ call_waits (call_by p) p w k
write_call pid known p number first w k is n f (inl e) =
    ap (λ (x : ℕ). write_waits (opened p x k) w.len k) (sym (first_is pid known p first is f)) ∙ ap (λ (c : Option Call). call_waits c p w k) (sym (number_is pid known p number is n ∙ ap call_of e))
write_call pid known p number first w k is n f (inr e) =
    ap (λ (x : ℕ). write_waits (opened p x k) w.len k) (sym (first_is pid known p first is f)) ∙ ap (λ (c : Option Call). call_waits c p w k) (sym (number_is pid known p number is n ∙ ap call_of e))

pub wait_call : (pid : Pid) (known : Proc) (p : Process) (number first : ℕ) (w : Waiting) (k : Kernel) → IsKnown pid known p → number ≡ slice_index known.cpu.x 17 → first ≡ slice_index known.cpu.x 10
    → number ≡ 260 → wait_waits pid.0 first k ≡ call_waits (call_by p) p w k
wait_call pid known p number first w k is n f e =
    (λ i. wait_waits (is.pid_is i) (sym (first_is pid known p first is f) i) k) ∙ ap (λ (c : Option Call). call_waits c p w k) (sym (number_is pid known p number is n ∙ ap call_of e))

-- ---- whether it is ready

live_known : (s : State) → is_some (status_of s) ≡ false → is_live s ≡ true
live_known Live e = refl
live_known (Zombie status) e = cc e

pub ready_waiting : (pid : Pid) (known : Proc) (p : Process) (w : Waiting) (k : Kernel) (waits : Bool) → IsKnown pid known p → is_some known.status ≡ false → known.waiting ≡ Some w → waits ≡ call_waits (call_by p) p w k → not waits ≡ is_ready k p
ready_waiting pid known p w k waits is live kept e =
    let lives : is_live p.state ≡ true = live_known p.state (ap (λ (q : Proc). is_some q.status) (sym is.proc_is) ∙ live) in
    let waiting : p.waiting ≡ Some w = ap (λ (q : Proc). q.waiting) (sym is.proc_is) ∙ kept in
    ap not e ∙ (λ i. sym lives i && not (still_waits (sym waiting i) p k))

-- ---- the list

drop_at : (k : Kernel) (procs : List Process) (place : ℕ) (p : Process) → slice_get procs place ≡ Some p → drop place procs ≡ p ∷ drop (place + 1) procs
drop_at k [] place p e = cc e
drop_at k (q ∷ procs) zero p e = ap (λ (x : Process). x ∷ procs) (ap (λ (o : Option Process). unwrap o) e)
  where
    unwrap : Option Process → Process
    unwrap None = q
    unwrap (Some x) = x
drop_at k (q ∷ procs) (suc place) p e =
    let up : suc place + 1 ≡ suc (place + 1) = omega arith in
    drop_at k procs place p e ∙ ap (λ (n : ℕ). p ∷ drop n (q ∷ procs)) (sym up)

pub drop_past : (procs : List Process) (place : ℕ) → length procs ≤ place → drop place procs ≡ []
drop_past [] zero le = refl
drop_past [] (suc place) le = refl
drop_past (p ∷ procs) zero le = absurd (omega (arith, le))
drop_past (p ∷ procs) (suc place) le = drop_past procs place (omega (arith, le))

none_past : (procs : List Process) (place : ℕ) → slice_get procs place ≡ None → length procs ≤ place
none_past [] place e = omega arith
none_past (p ∷ procs) zero e = cc e
none_past (p ∷ procs) (suc place) e = let rest = none_past procs place e in omega (arith, rest)

pub ready_here : (k : Kernel) (procs : List Process) (place : ℕ) (pid : Pid) (got : List Pid) (known : Proc) → option_map {U = Pid × Proc} (λ p. (record { 0 = p.pid }, proc_of p)) (slice_get procs place) ≡ Some (pid, known)
    → IfSome (slice_get procs place) (λ p. true ≡ is_ready k p) → map (λ (p : Pid). p.0) (got ++ pid ∷ []) ++ ready_in k (drop (place + 1) procs) ≡ map (λ (p : Pid). p.0) got ++ ready_in k (drop place procs)
ready_here k procs place pid got known at ready = by (slice_get procs place) refl at ready
  where
    pids : (got : List Pid) (pid : Pid) (rest : List ℕ) → map (λ (p : Pid). p.0) (got ++ pid ∷ []) ++ rest ≡ map (λ (p : Pid). p.0) got ++ pid.0 ∷ rest
    pids [] pid rest = refl
    pids (q ∷ got) pid rest = ap (λ (l : List ℕ). q.0 ∷ l) (pids got pid rest)

    by : (o : Option Process) → slice_get procs place ≡ o → option_map {U = Pid × Proc} (λ p. (record { 0 = p.pid }, proc_of p)) o ≡ Some (pid, known) → IfSome o (λ p. true ≡ is_ready k p)
        → map (λ (p : Pid). p.0) (got ++ pid ∷ []) ++ ready_in k (drop (place + 1) procs) ≡ map (λ (p : Pid). p.0) got ++ ready_in k (drop place procs)
    by None e at ready = cc at
    by (Some p) e at ready =
        let is : IsKnown pid known p = known_at (Some p) pid known at in
        pids got pid (ready_in k (drop (place + 1) procs))
        ∙ (λ i. map (λ (p : Pid). p.0) got ++ (cond (ready i) (is.pid_is i ∷ ready_in k (drop (place + 1) procs)) (ready_in k (drop (place + 1) procs))))
        ∙ ap (λ (l : List Process). map (λ (p : Pid). p.0) got ++ ready_in k l) (sym (drop_at k procs place p e))

pub waits_here : (k : Kernel) (procs : List Process) (place : ℕ) (pid : Pid) (known : Proc) → option_map {U = Pid × Proc} (λ p. (record { 0 = p.pid }, proc_of p)) (slice_get procs place) ≡ Some (pid, known)
    → IfSome (slice_get procs place) (λ p. false ≡ is_ready k p) → ready_in k (drop (place + 1) procs) ≡ ready_in k (drop place procs)
waits_here k procs place pid known at ready = by (slice_get procs place) refl at ready
  where
    by : (o : Option Process) → slice_get procs place ≡ o → option_map {U = Pid × Proc} (λ p. (record { 0 = p.pid }, proc_of p)) o ≡ Some (pid, known) → IfSome o (λ p. false ≡ is_ready k p)
        → ready_in k (drop (place + 1) procs) ≡ ready_in k (drop place procs)
    by None e at ready = cc at
    by (Some p) e at ready =
        ap (λ (b : Bool). cond b (p.pid ∷ ready_in k (drop (place + 1) procs)) (ready_in k (drop (place + 1) procs))) ready
        ∙ ap (ready_in k) (sym (drop_at k procs place p e))

pub none_here : (k : Kernel) (procs : List Process) (place : ℕ) → option_map {U = Pid × Proc} (λ p. (record { 0 = p.pid }, proc_of p)) (slice_get procs place) ≡ None → ready_in k (drop (place + 1) procs) ≡ ready_in k (drop place procs)
none_here k procs place none =
    let past = none_past procs place (gone (slice_get procs place) none) in
    ap (ready_in k) (drop_past procs (place + 1) (omega (arith, past)) ∙ sym (drop_past procs place past))
  where
    gone : (o : Option Process) → option_map {U = Pid × Proc} (λ p. (record { 0 = p.pid }, proc_of p)) o ≡ None → o ≡ None
    gone None e = refl
    gone (Some p) e = cc e
