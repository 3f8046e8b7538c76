-- The tables stay sound where a process dies that has nothing open, and where a zombie is taken.
use Rattle.std.proofs.Common.{◌≡◌, ℕ, suc, ◌≤◌, ◌<◌, Bool, true, false, not, cond, eqb, ◌==◌, refl, sym, ◌∙◌, ap, subst, List, [], ◌∷◌, length, map, filter, Option, Some, None, arith}
use Rattle.std.proofs.lemmas.Bool.{eqb-true, not-false}
use Rattle.kernel_objects.specs.declared.descriptor.Description.{Description}
use Rattle.kernel_objects.specs.declared.descriptor.FdEntry.{FdEntry}
use Rattle.kernel_objects.specs.Slots.{holds_some}
use Rattle.lego_base.specs.declared.report.Exit.{Exit}
use Rattle.linux_model.specs.State.{Process, State, Live, Zombie}
use Rattle.linux_model.specs.Processes.{Dead, at_pid, process, fds_of, is_live, orphaned, heir, stays, after_death, without_process, dead_child, has_child, is_wanted, dead_of, or_else}
use Rattle.linux_model.specs.Fits.{PidsRise, ProcessFits, ProcsFit, NoneOpen}
use Rattle.linux_model.proofs.fits.Processes.{pids_filter, procs_filter, death_rises, death_fits}
use Rattle.linux_model.proofs.fits.Slots.{parts_false}
use Rattle.linux_model.proofs.fits.Found.{none_found, none_absent}
use Rattle.proc_table.specs.Entries.{Table, reaped_of, child_for, without_reaped}
use Rattle.proc_table.specs.declared.table.Reaped.{Reaped}
use Rattle.proc_table.specs.declared.table.Reaped.TheVariants.{Child, NoChild, NotYet}
use Rattle.std.specs.Prelude.{ℤ}
use Rattle.std.specs.Int.{cast_unsigned, w64}
use Rattle.manager.specs.Counting.{slots_with, references, refers}
use Rattle.manager.specs.Sound.{Sound, managed_of}
use Rattle.manager.specs.Tables.{DescTable, PipeTable}
use Rattle.manager.specs.Words.{after_reaped}
use Rattle.manager.proofs.References.{length_at}

-- who has nothing open refers to nothing
none_refers : (n : ℕ) (fds : List (Option FdEntry)) → holds_some (λ e. true) fds ≡ false → slots_with (refers n) fds ≡ 0
none_refers n [] none = refl
none_refers n (None ∷ fds) none = let rest = none_refers n fds none in omega (arith, rest)
none_refers n (Some e ∷ fds) none = cc none

left_one : (b : Bool) (p : Process) (left procs : List Process) → length left ≤ length procs → length (cond b (p ∷ left) left) ≤ length (p ∷ procs)
left_one true p left procs le = omega (arith, le)
left_one false p left procs le = omega (arith, le)

few_left : (test : Process → Bool) (procs : List Process) → length (filter test procs) ≤ length procs
few_left test [] = omega arith
few_left test (p ∷ procs) = left_one (test p) p (filter test procs) procs (few_left test procs)

-- one is kept, or has nothing open
kept_or : (b : Bool) (n : ℕ) (q p : Process) (rest rest' : List Process) → q.fds ≡ p.fds → (b ≡ false → holds_some (λ e. true) p.fds ≡ false) → references n rest' ≡ references n rest
    → references n (cond b (q ∷ rest') rest') ≡ references n (p ∷ rest)
kept_or true n q p rest rest' same none e = let one = ap (slots_with (refers n)) same in omega (arith, one, e)
kept_or false n q p rest rest' same none e = let zero = none_refers n p.fds (none refl) in omega (arith, zero, e)

abbrev dead_process : ℕ → Process → Process
dead_process status p = record p { state = Zombie status; waiting = None }

orphan_fds : (b : Bool) (heir : ℕ) (p : Process) → (cond b (record p { parent = heir }) p).fds ≡ p.fds
orphan_fds true heir p = refl
orphan_fds false heir p = refl

orphan_state : (b : Bool) (heir : ℕ) (p : Process) → (cond b (record p { parent = heir }) p).state ≡ p.state
orphan_state true heir p = refl
orphan_state false heir p = refl

dead_fds : (b : Bool) (status : ℕ) (p : Process) → (cond b (dead_process status p) p).fds ≡ p.fds
dead_fds true status p = refl
dead_fds false status p = refl

dead_none : (b : Bool) (descs : List (Option Description)) (status : ℕ) (p : Process) → (b ≡ true → holds_some (λ e. true) p.fds ≡ false) → ProcessFits descs p → is_live (cond b (dead_process status p) p).state ≡ false → holds_some (λ e. true) p.fds ≡ false
dead_none true descs status p none f dead = none refl
dead_none false descs status p none f dead = f.zombie dead

death_refers : (n dead status heir : ℕ) (descs : List (Option Description)) (procs : List Process) → NoneOpen dead procs → ProcsFit descs procs
    → references n (filter stays (map (orphaned dead heir) (at_pid dead (dead_process status) procs))) ≡ references n procs
death_refers n dead status heir descs [] none f = refl
death_refers n dead status heir descs (p ∷ procs) none f =
    let z : Process = cond (eqb p.pid dead) (dead_process status p) p in
    let q : Process = orphaned dead heir z in
    kept_or (stays q) n q p procs (filter stays (map (orphaned dead heir) (at_pid dead (dead_process status) procs)))
    (orphan_fds (eqb z.parent dead) heir z ∙ dead_fds (eqb p.pid dead) status p)
    (λ goes. dead_none (eqb p.pid dead) descs status p none.0 f.0
    (ap (λ (s : State). is_live s) (sym (orphan_state (eqb z.parent dead) heir z)) ∙ (parts_false (not (q.parent == 0)) (is_live q.state) goes).1))
    (death_refers n dead status heir descs procs none.1 f.1)

none_at : (pid last : ℕ) (procs : List Process) → PidsRise 0 last procs → holds_some (λ e. true) (fds_of (process procs pid)) ≡ false → NoneOpen pid procs
none_at pid last procs r none = at (process procs pid) refl none
  where
    at : (o : Option Process) → process procs pid ≡ o → holds_some (λ e. true) (fds_of o) ≡ false → NoneOpen pid procs
    at None e none = none_absent pid procs e
    at (Some p) e none = none_found pid last procs p r e none

length_map : (f : Process → Process) (procs : List Process) → length (map f procs) ≡ length procs
length_map f [] = refl
length_map f (p ∷ procs) = ap suc (length_map f procs)

pub dead_sound : (t : Table) (d : DescTable) (p : PipeTable) (dead status : ℕ) → holds_some (λ e. true) (fds_of (process t.procs dead)) ≡ false → Sound t d p → Sound (record t { procs = after_death dead status t.procs }) d p
dead_sound t d p dead status closed s =
    let c = s.counted in
    let none = none_at dead t.last t.procs c.pids closed in
    let h : ℕ = heir dead t.procs in
    record {
      counted = record {
        pids = death_rises dead status t.last t.procs c.pids;
        few =
            let left = few_left stays (map (orphaned dead h) (at_pid dead (dead_process status) t.procs)) in
            let mapped = length_map (orphaned dead h) (at_pid dead (dead_process status) t.procs) in
            let long = length_at (dead_process status) dead t.procs in
            let few = c.few in
            omega (arith, left, mapped, long, few);
        procs = death_fits d.descs dead status t.procs none c.procs;
        refs = λ n. c.refs n ∙ sym (death_refers n dead status h d.descs t.procs none c.procs);
        reading = c.reading;
        writing = c.writing;
        there = c.there;
      };
      ended = s.ended;
    }

-- ---- a zombie is taken

taken_refers : (n pid : ℕ) (procs : List Process) → NoneOpen pid procs → references n (without_process pid procs) ≡ references n procs
taken_refers n pid [] none = refl
taken_refers n pid (p ∷ procs) none =
    kept_or (not (p.pid == pid)) n p p procs (without_process pid procs) refl (λ goes. none.0 (not-false (p.pid == pid) goes)) (taken_refers n pid procs none.1)

none_above : (low last pid : ℕ) (procs : List Process) → PidsRise low last procs → pid ≤ low → NoneOpen pid procs
none_above low last pid [] r le = tt
none_above low last pid (p ∷ procs) r le =
    let a : low < p.pid = r.0 in
    ((λ e. let same = eqb-true p.pid pid e in absurd (omega (arith, same, a, le))), none_above p.pid last pid procs r.2 (omega (arith, a, le)))

pub record Taken (low : ℕ) (procs : List Process) (dead : Dead) : Type 0 where
  pub above : low < dead.pid
  pub none : NoneOpen dead.pid procs

taken_one : (w : Bool) (s : State) (p : Process) (low last : ℕ) (procs : List Process) (descs : List (Option Description)) (dead : Dead) (rest : Option Dead)
    → p.state ≡ s → PidsRise low last (p ∷ procs) → ProcessFits descs p → or_else (cond w (dead_of p.pid s) None) rest ≡ Some dead → (rest ≡ Some dead → Taken p.pid procs dead) → Taken low (p ∷ procs) dead
taken_one true (Zombie status) p low last procs descs dead rest is r f found more =
    let pid : p.pid ≡ dead.pid = ap (λ (o : Option Dead). pid_of o) found in
    let a : low < p.pid = r.0 in
    record {
      above = omega (arith, a, pid);
      none = ((λ e. f.zombie (ap (λ (s : State). is_live s) is)), subst (λ (n : ℕ). NoneOpen n procs) pid (none_above p.pid last p.pid procs r.2 (omega arith)));
    }
  where
    pid_of : Option Dead → ℕ
    pid_of None = 0
    pid_of (Some x) = x.pid
taken_one true Live p low last procs descs dead rest is r f found more =
    let t = more found in
    let above = t.above in
    let a : low < p.pid = r.0 in
    record { above = omega (arith, a, above); none = ((λ e. let same = eqb-true p.pid dead.pid e in absurd (omega (arith, same, above))), t.none) }
taken_one false s p low last procs descs dead rest is r f found more =
    let t = more found in
    let above = t.above in
    let a : low < p.pid = r.0 in
    record { above = omega (arith, a, above); none = ((λ e. let same = eqb-true p.pid dead.pid e in absurd (omega (arith, same, above))), t.none) }

taken : (parent want low last : ℕ) (descs : List (Option Description)) (procs : List Process) (dead : Dead) → PidsRise low last procs → ProcsFit descs procs → dead_child parent want procs ≡ Some dead → Taken low procs dead
taken parent want low last descs [] dead r f found = cc found
taken parent want low last descs (p ∷ procs) dead r f found =
    taken_one (is_wanted parent want p) p.state p low last procs descs dead (dead_child parent want procs) refl r f.0 found (λ more. taken parent want p.pid last descs procs dead r.2 f.1 more)

taken_sound : (t : Table) (d : DescTable) (p : PipeTable) (pid : ℕ) → NoneOpen pid t.procs → Sound t d p → Sound (record t { procs = without_process pid t.procs }) d p
taken_sound t d p pid none s = let c = s.counted in record {
  counted = record {
    pids = pids_filter _ 0 t.last t.procs c.pids;
    few = let left = few_left (λ p. not (p.pid == pid)) t.procs in let few = c.few in omega (arith, left, few);
    procs = procs_filter d.descs _ t.procs c.procs;
    refs = λ n. c.refs n ∙ sym (taken_refers n pid t.procs none);
    reading = c.reading;
    writing = c.writing;
    there = c.there;
  };
  ended = s.ended;
}

pub reaped_sound : (r : Reaped) (t : Table) (d : DescTable) (p : PipeTable) (parent : ℕ) (want : ℤ) → r ≡ child_for parent want t → Sound t d p → Sound (without_reaped r t) d p
reaped_sound NoChild t d p parent want is s = s
reaped_sound NotYet t d p parent want is s = s
reaped_sound (Child pid status) t d p parent want is s = at (has_child parent (cast_unsigned w64 want) t.procs) (dead_child parent (cast_unsigned w64 want) t.procs) refl is
  where
    pid_in : Reaped → ℕ
    pid_in (Child pid status) = pid.0
    pid_in other = 0

    at : (has : Bool) (found : Option Dead) → dead_child parent (cast_unsigned w64 want) t.procs ≡ found → Child pid status ≡ reaped_of has found → Sound (without_reaped (Child pid status) t) d p
    at has (Some dead) e is =
        let same : pid.0 ≡ dead.pid = ap pid_in is in
        let none = (taken parent (cast_unsigned w64 want) 0 t.last d.descs t.procs dead s.counted.pids s.counted.procs e).none in
        taken_sound t d p pid.0 (subst (λ (n : ℕ). NoneOpen n t.procs) (sym same) none) s
    at true None e is = cc is
    at false None e is = cc is

pub reaped_is : (r : Reaped) (t : Table) (d : DescTable) (p : PipeTable) (input : List ℕ) (exits : List Exit) → managed_of (without_reaped r t) d p input exits ≡ after_reaped r (managed_of t d p input exits)
reaped_is NoChild t d p input exits = refl
reaped_is NotYet t d p input exits = refl
reaped_is (Child pid status) t d p input exits = refl
