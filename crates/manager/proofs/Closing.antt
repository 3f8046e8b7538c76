-- A descriptor is closed: the counts stay right, and what comes of it is linux_model's effect.
use Rattle.std.proofs.Common.{◌≡◌, ℕ, zero, suc, ◌+◌, ◌≤◌, ◌<◌, Bool, true, false, not, cond, eqb, ltb, ◌||◌, ◌&&◌, ◌==◌, refl, sym, ◌∙◌, ap, subst, List, [], ◌∷◌, length, slice_index, slice_set, Option, Some, None, is_some, arith}
use Rattle.std.proofs.lemmas.Bool.{eqb-true, eqb-false, eq-eqb, ne_eqb, le-ltb, lt-ltb}
use Rattle.lego_base.specs.declared.report.Exit.{Exit}
use Rattle.kernel_objects.specs.declared.descriptor.Description.{Description}
use Rattle.kernel_objects.specs.declared.descriptor.FdEntry.{FdEntry}
use Rattle.kernel_objects.specs.declared.descriptor.Object.{Object}
use Rattle.kernel_objects.specs.declared.descriptor.Object.TheVariants.{PipeRead, PipeWrite, Input, Output, Regular}
use Rattle.kernel_objects.specs.Slots.{slot, picks, freed}
use Rattle.linux_model.specs.State.{Kernel, Process, unbooted}
use Rattle.linux_model.specs.Processes.{at_pid, process, fds_of, is_referred, is_reading_end, is_writing_end, has_reader, has_writer}
use Rattle.linux_model.specs.Effects.{Closes, at_fd, desc_at, let_go, description_ends, object_ends, pipe_ends}
use Rattle.linux_model.specs.Fits.{PidsRise}
use Rattle.linux_model.specs.Managed.{Managed, managed_in, managed_after, with_managed}
use Rattle.linux_model.proofs.fits.Processes.{pids_at, procs_each, procs_without, closes_fits, process_fits}
use Rattle.linux_model.proofs.fits.Slots.{slot_other}
use Rattle.proc_table.specs.Entries.{Table}
use Rattle.manager.specs.Counting.{one_if, references, refers, readers, writers, reads_from, writes_to, OneFewer}
use Rattle.manager.specs.Sound.{Counted, Sound, managed_of}
use Rattle.manager.specs.Tables.{DescTable, PipeTable, swept, pipes_left}
use Rattle.manager.proofs.Held.{with-set, with_some, slot_within}
use Rattle.manager.proofs.Open.{found_open}
use Rattle.manager.proofs.References.{length_at, references_fd, at_above, referred}

-- ---- a descriptor that isn't open

none_set : {X : Type 0} (slots : List (Option X)) (n : ℕ) → slot slots n ≡ None → slice_set slots n None ≡ slots
none_set [] n e = refl
none_set (x ∷ slots) zero e = ap (λ (y : _). y ∷ slots) (sym e)
none_set (x ∷ slots) (suc n) e = ap (λ (s : _). x ∷ s) (none_set slots n e)

free_one : (b : Bool) (pid fd : ℕ) (q : Process) (last : ℕ) (procs : List Process) → eqb q.pid pid ≡ b → PidsRise q.pid last procs → slot (fds_of (cond b (Some q) (process procs pid))) fd ≡ None
    → (slot (fds_of (process procs pid)) fd ≡ None → at_pid pid (at_fd fd None) procs ≡ procs)
    → cond b (at_fd fd None q) q ∷ at_pid pid (at_fd fd None) procs ≡ q ∷ procs
free_one true pid fd q last procs at r e more =
    let same : q.pid ≡ pid = eqb-true q.pid pid at in
    (λ i. record q { fds = none_set q.fds fd e i } ∷ at_above (at_fd fd None) pid q.pid last procs r (omega (arith, same)) i)
free_one false pid fd q last procs at r e more = ap (λ (ps : List Process). q ∷ ps) (more e)

free_same : (pid fd low last : ℕ) (procs : List Process) → PidsRise low last procs → slot (fds_of (process procs pid)) fd ≡ None → at_pid pid (at_fd fd None) procs ≡ procs
free_same pid fd low last [] r e = refl
free_same pid fd low last (q ∷ procs) r e = free_one (eqb q.pid pid) pid fd q last procs refl r.2 e (λ f. free_same pid fd q.pid last procs r.2 f)

-- nothing changes
pub closed_none : (m : Managed) (pid fd : ℕ) → PidsRise 0 m.last m.procs → slot (fds_of (process m.procs pid)) fd ≡ None → managed_after (Closes pid fd) m ≡ m
closed_none m pid fd r e =
    let k : Kernel = with_managed m (unbooted []) in
    ap (λ (x : Option FdEntry). managed_in (let_go (desc_at x) (record k { procs = at_pid pid (at_fd fd None) m.procs }))) e
    ∙ ap (λ (procs : List Process). managed_in (record k { procs = procs })) (free_same pid fd 0 m.last m.procs r e)

-- ---- one that is

refers_fewer : (t : Table) (d : DescTable) (p : PipeTable) (pid fd : ℕ) (e : FdEntry) (n : ℕ) → Counted t d p → slot (fds_of (process t.procs pid)) fd ≡ Some e
    → references n (at_pid pid (at_fd fd None) t.procs) + one_if (e.desc == n) ≡ references n t.procs
refers_fewer t d p pid fd e n c is =
    let q = found_open t.procs pid fd e is in
    let some : slot q.p.fds fd ≡ Some e = ap (λ (o : Option Process). slot (fds_of o) fd) (sym q.is) ∙ is in
    let within = slot_within q.p.fds fd (ap (λ (o : Option FdEntry). is_some o) some) in
    let less = references_fd n pid fd None q.p 0 t.last t.procs c.pids q.is within in
    let was : one_if (picks (refers n) (slot q.p.fds fd)) ≡ one_if (e.desc == n) = ap (λ (o : Option FdEntry). one_if (picks (refers n) o)) some in
    omega (arith, less, was)

one_self : (n : ℕ) → one_if (n == n) ≡ 1
one_self n = ap one_if (eq-eqb n n refl)

-- an open descriptor is below 64, and its description has been counted
pub open_below : (t : Table) (d : DescTable) (p : PipeTable) (pid fd : ℕ) (e : FdEntry) → Counted t d p → slot (fds_of (process t.procs pid)) fd ≡ Some e → fd < 64
open_below t d p pid fd e c is =
    let q = found_open t.procs pid fd e is in
    let some : slot q.p.fds fd ≡ Some e = ap (λ (o : Option Process). slot (fds_of o) fd) (sym q.is) ∙ is in
    let within = slot_within q.p.fds fd (ap (λ (o : Option FdEntry). is_some o) some) in
    let slots = (process_fits d.descs t.procs pid q.p c.procs q.is).slots in
    omega (arith, within, slots)

pub open_counted : (t : Table) (d : DescTable) (p : PipeTable) (pid fd : ℕ) (e : FdEntry) → Counted t d p → slot (fds_of (process t.procs pid)) fd ≡ Some e → 0 < slice_index d.refs e.desc
open_counted t d p pid fd e c is =
    let fewer = refers_fewer t d p pid fd e e.desc c is in
    let self = one_self e.desc in
    let refs = c.refs e.desc in
    omega (arith, fewer, self, refs)

abbrev pub closed_table : Table → ℕ → ℕ → Table
closed_table t pid fd = record t { procs = at_pid pid (at_fd fd None) t.procs }

refs_fewer : (t : Table) (d : DescTable) (p : PipeTable) (refs : List ℕ) (pid fd : ℕ) (e : FdEntry) (n : ℕ) → Counted t d p → slot (fds_of (process t.procs pid)) fd ≡ Some e → OneFewer e.desc d.refs refs
    → slice_index refs n ≡ references n (at_pid pid (at_fd fd None) t.procs)
refs_fewer t d p refs pid fd e n c is less =
    let fewer = refers_fewer t d p pid fd e n c is in
    let was = c.refs n in
    let one = less n in
    omega (arith, fewer, was, one)

few_closed : (t : Table) (d : DescTable) (p : PipeTable) (pid fd : ℕ) → Counted t d p → length (at_pid pid (at_fd fd None) t.procs) ≤ 64
few_closed t d p pid fd c = let long = length_at (at_fd fd None) pid t.procs in let few = c.few in omega (arith, long, few)

-- another one refers to the description as well
pub closed_shared : (t : Table) (d : DescTable) (p : PipeTable) (refs : List ℕ) (pid fd : ℕ) (e : FdEntry) → slot (fds_of (process t.procs pid)) fd ≡ Some e → OneFewer e.desc d.refs refs
    → Sound t d p → Sound (closed_table t pid fd) (record { descs = d.descs; refs = refs }) p
closed_shared t d p refs pid fd e is less s = let c = s.counted in record {
  counted = record {
    pids = pids_at (at_fd fd None) (λ q. refl) pid 0 t.last t.procs c.pids;
    few = few_closed t d p pid fd c;
    procs = procs_each d.descs (at_fd fd None) (closes_fits d.descs fd) pid t.procs c.procs;
    refs = λ n. refs_fewer t d p refs pid fd e n c is less;
    reading = c.reading;
    writing = c.writing;
    there = c.there;
  };
  ended = s.ended;
}

pub still_managed : (t : Table) (d : DescTable) (p : PipeTable) (input : List ℕ) (exits : List Exit) (pid fd : ℕ) (e : FdEntry) → slot (fds_of (process t.procs pid)) fd ≡ Some e → (slice_index d.refs e.desc == 1) ≡ false
    → Counted t d p → managed_after (Closes pid fd) (managed_of t d p input exits) ≡ managed_of (closed_table t pid fd) d p input exits
still_managed t d p input exits pid fd e is more c =
    let k : Kernel = with_managed (managed_of (closed_table t pid fd) d p input exits) (unbooted []) in
    let counted = open_counted t d p pid fd e c is in
    let not_one = eqb-false (slice_index d.refs e.desc) 1 more in
    let fewer = refers_fewer t d p pid fd e e.desc c is in
    let self = one_self e.desc in
    let refs = c.refs e.desc in
    let some : is_referred e.desc (at_pid pid (at_fd fd None) t.procs) ≡ true =
    sym (referred e.desc (at_pid pid (at_fd fd None) t.procs)) ∙ lt-ltb 0 (references e.desc (at_pid pid (at_fd fd None) t.procs)) (omega (arith, counted, not_one, fewer, self, refs)) in
    ap (λ (x : Option FdEntry). managed_in (let_go (desc_at x) k)) is
    ∙ ap (λ (b : Bool). managed_in (cond b k (description_ends (slot d.descs e.desc) (record k { descs = freed d.descs e.desc })))) some

-- ---- it was the last

none_left : (t : Table) (d : DescTable) (p : PipeTable) (pid fd : ℕ) (e : FdEntry) → Counted t d p → slot (fds_of (process t.procs pid)) fd ≡ Some e → (slice_index d.refs e.desc == 1) ≡ true
    → is_referred e.desc (at_pid pid (at_fd fd None) t.procs) ≡ false
none_left t d p pid fd e c is last =
    let one = eqb-true (slice_index d.refs e.desc) 1 last in
    let fewer = refers_fewer t d p pid fd e e.desc c is in
    let self = one_self e.desc in
    let refs = c.refs e.desc in
    sym (referred e.desc (at_pid pid (at_fd fd None) t.procs)) ∙ le-ltb 0 (references e.desc (at_pid pid (at_fd fd None) t.procs)) (omega (arith, one, fewer, self, refs))

pub reads_fewer : (n desc : ℕ) (x : Description) (descs : List (Option Description)) → slot descs desc ≡ Some x → readers n (freed descs desc) + one_if (is_reading_end n x.object) ≡ readers n descs
reads_fewer n desc x descs is =
    let less = with-set (reads_from n) descs desc None (slot_within descs desc (ap (λ (o : Option Description). is_some o) is)) in
    let was : one_if (picks (reads_from n) (slot descs desc)) ≡ one_if (is_reading_end n x.object) = ap (λ (o : Option Description). one_if (picks (reads_from n) o)) is in
    omega (arith, less, was)

pub writes_fewer : (n desc : ℕ) (x : Description) (descs : List (Option Description)) → slot descs desc ≡ Some x → writers n (freed descs desc) + one_if (is_writing_end n x.object) ≡ writers n descs
writes_fewer n desc x descs is =
    let less = with-set (writes_to n) descs desc None (slot_within descs desc (ap (λ (o : Option Description). is_some o) is)) in
    let was : one_if (picks (writes_to n) (slot descs desc)) ≡ one_if (is_writing_end n x.object) = ap (λ (o : Option Description). one_if (picks (writes_to n) o)) is in
    omega (arith, less, was)

-- the pipes that are left are those that have an end
pub record Left (pipes : List (Option (List ℕ))) (r w : ℕ → ℕ) : Type 0 where
  pub there : (n : ℕ) → 0 < r n + w n → is_some (slot pipes n) ≡ true
  pub ended : (n : ℕ) → is_some (slot pipes n) ≡ true → 0 < r n + w n

zero_not : (n : ℕ) → eqb n 0 ≡ not (ltb 0 n)
zero_not zero = refl
zero_not (suc n) = ne_eqb (suc n) 0 (λ e. omega (arith, e)) ∙ ap not (sym (lt-ltb 0 (suc n) (omega arith)))

freed_none : {X : Type 0} (slots : List (Option X)) (n : ℕ) → slot (freed slots n) n ≡ None
freed_none [] n = refl
freed_none (x ∷ slots) zero = refl
freed_none (x ∷ slots) (suc n) = freed_none slots n

sweeps : (b : Bool) (m : ℕ) (pipes : List (Option (List ℕ))) (r w r' w' : ℕ → ℕ) → (b ≡ true → r' m + w' m ≡ 0) → (b ≡ false → 0 < r' m + w' m)
    → ((n : ℕ) → (m ≡ n → ⊥) → r' n + w' n ≡ r n + w n) → (0 < r m + w m) → Left pipes r w → Left (cond b (freed pipes m) pipes) r' w'
sweeps true m pipes r w r' w' none some others had l = record {
  there = λ n pos. elim (eqb m n) as (λ c. eqb m n ≡ c → is_some (slot (freed pipes m) n) ≡ true) [
    | true ↦ λ e. let same : m ≡ n = eqb-true m n e in let zero = ap (λ (k : ℕ). r' k + w' k) same in let none = none refl in absurd (omega (arith, none, zero, pos))
    | false ↦ λ e. let ne = eqb-false m n e in ap (λ (o : Option (List ℕ)). is_some o) (slot_other pipes m n None ne) ∙ l.there n (let o = others n ne in omega (arith, o, pos))
  ] refl;
  ended = λ n is. elim (eqb m n) as (λ c. eqb m n ≡ c → 0 < r' n + w' n) [
    | true ↦ λ e. let same : m ≡ n = eqb-true m n e in let gone : is_some (slot (freed pipes m) n) ≡ false = ap (λ (k : ℕ). is_some (slot (freed pipes m) k)) (sym same) ∙ ap (λ (o : Option (List ℕ)). is_some o) (freed_none pipes m) in absurd (cc (gone, is))
    | false ↦ λ e. let ne = eqb-false m n e in let o = others n ne in let old = l.ended n (ap (λ (o : Option (List ℕ)). is_some o) (sym (slot_other pipes m n None ne)) ∙ is) in omega (arith, o, old)
  ] refl;
}
sweeps false m pipes r w r' w' none some others had l = record {
  there = λ n pos. elim (eqb m n) as (λ c. eqb m n ≡ c → is_some (slot pipes n) ≡ true) [
    | true ↦ λ e. let same : m ≡ n = eqb-true m n e in ap (λ (k : ℕ). is_some (slot pipes k)) (sym same) ∙ l.there m had
    | false ↦ λ e. let ne = eqb-false m n e in l.there n (let o = others n ne in omega (arith, o, pos))
  ] refl;
  ended = λ n is. elim (eqb m n) as (λ c. eqb m n ≡ c → 0 < r' n + w' n) [
    | true ↦ λ e. let same : m ≡ n = eqb-true m n e in let some = some refl in subst (λ (k : ℕ). 0 < r' k + w' k) same some
    | false ↦ λ e. let ne = eqb-false m n e in let o = others n ne in let old = l.ended n is in omega (arith, o, old)
  ] refl;
}

both_zero : (a b : ℕ) → (eqb a 0 && eqb b 0) ≡ true → a + b ≡ 0
both_zero zero zero e = refl
both_zero zero (suc b) e = let no = ne_eqb (suc b) 0 (λ q. omega (arith, q)) in cc (e, no)
both_zero (suc a) b e = let no : (eqb (suc a) 0 && eqb b 0) ≡ false = ap (λ (c : Bool). c && eqb b 0) (ne_eqb (suc a) 0 (λ q. omega (arith, q))) in cc (e, no)

not_both : (a b : ℕ) → (eqb a 0 && eqb b 0) ≡ false → 0 < a + b
not_both zero zero e = cc e
not_both zero (suc b) e = omega arith
not_both (suc a) b e = omega arith

one_other : (m n : ℕ) → (m ≡ n → ⊥) → one_if (eqb m n) ≡ 0
one_other m n ne = ap one_if (ne_eqb m n ne)

pub left_after : (object : Object) (p : PipeTable) (readers' writers' : List ℕ)
    → ((n : ℕ) → slice_index readers' n + one_if (is_reading_end n object) ≡ slice_index p.readers n)
    → ((n : ℕ) → slice_index writers' n + one_if (is_writing_end n object) ≡ slice_index p.writers n)
    → Left p.pipes (slice_index p.readers) (slice_index p.writers) → Left (pipes_left object readers' writers' p.pipes) (slice_index readers') (slice_index writers')
left_after (PipeRead m) p readers' writers' reading writing l =
    let self = one_self m in
    let r = reading m in
    sweeps (eqb (slice_index readers' m) 0 && eqb (slice_index writers' m) 0) m p.pipes (slice_index p.readers) (slice_index p.writers) (slice_index readers') (slice_index writers')
    (both_zero (slice_index readers' m) (slice_index writers' m)) (not_both (slice_index readers' m) (slice_index writers' m))
    (λ n ne. let r = reading n in let w = writing n in let o = one_other m n ne in omega (arith, r, w, o)) (omega (arith, self, r)) l
left_after (PipeWrite m) p readers' writers' reading writing l =
    let self = one_self m in
    let w = writing m in
    sweeps (eqb (slice_index readers' m) 0 && eqb (slice_index writers' m) 0) m p.pipes (slice_index p.readers) (slice_index p.writers) (slice_index readers') (slice_index writers')
    (both_zero (slice_index readers' m) (slice_index writers' m)) (not_both (slice_index readers' m) (slice_index writers' m))
    (λ n ne. let r = reading n in let w = writing n in let o = one_other m n ne in omega (arith, r, w, o)) (omega (arith, self, w)) l
left_after Input p readers' writers' reading writing l = record {
  there = λ n pos. l.there n (let r = reading n in let w = writing n in omega (arith, r, w, pos));
  ended = λ n is. let r = reading n in let w = writing n in let old = l.ended n is in omega (arith, r, w, old);
}
left_after (Output stream) p readers' writers' reading writing l = record {
  there = λ n pos. l.there n (let r = reading n in let w = writing n in omega (arith, r, w, pos));
  ended = λ n is. let r = reading n in let w = writing n in let old = l.ended n is in omega (arith, r, w, old);
}
left_after (Regular file) p readers' writers' reading writing l = record {
  there = λ n pos. l.there n (let r = reading n in let w = writing n in omega (arith, r, w, pos));
  ended = λ n is. let r = reading n in let w = writing n in let old = l.ended n is in omega (arith, r, w, old);
}

pub closed_last : (t : Table) (d : DescTable) (p : PipeTable) (refs readers' writers' : List ℕ) (pid fd : ℕ) (e : FdEntry) (x : Description)
    → slot (fds_of (process t.procs pid)) fd ≡ Some e → slot d.descs e.desc ≡ Some x → (slice_index d.refs e.desc == 1) ≡ true → OneFewer e.desc d.refs refs
    → ((n : ℕ) → slice_index readers' n + one_if (is_reading_end n x.object) ≡ slice_index p.readers n)
    → ((n : ℕ) → slice_index writers' n + one_if (is_writing_end n x.object) ≡ slice_index p.writers n)
    → Sound t d p
    → Sound (closed_table t pid fd) (record { descs = freed d.descs e.desc; refs = refs }) (record { pipes = pipes_left x.object readers' writers' p.pipes; readers = readers'; writers = writers' })
closed_last t d p refs readers' writers' pid fd e x is there last less reading writing s =
    let c = s.counted in
    let r : (n : ℕ) → slice_index readers' n ≡ readers n (freed d.descs e.desc) =
    λ n. let was = c.reading n in let now = reads_fewer n e.desc x d.descs there in let one = reading n in omega (arith, was, now, one) in
    let w : (n : ℕ) → slice_index writers' n ≡ writers n (freed d.descs e.desc) =
    λ n. let was = c.writing n in let now = writes_fewer n e.desc x d.descs there in let one = writing n in omega (arith, was, now, one) in
    let left = left_after x.object p readers' writers' reading writing (record {
      there = λ n pos. c.there n (let a = c.reading n in let b = c.writing n in omega (arith, a, b, pos));
      ended = λ n is. let a = c.reading n in let b = c.writing n in let old = s.ended n is in omega (arith, a, b, old);
    }) in
    record {
      counted = record {
        pids = pids_at (at_fd fd None) (λ q. refl) pid 0 t.last t.procs c.pids;
        few = few_closed t d p pid fd c;
        procs = procs_without d.descs e.desc (at_pid pid (at_fd fd None) t.procs) (none_left t d p pid fd e c is last) (procs_each d.descs (at_fd fd None) (closes_fits d.descs fd) pid t.procs c.procs);
        refs = λ n. refs_fewer t d p refs pid fd e n c is less;
        reading = r;
        writing = w;
        there = λ n pos. left.there n (let a = r n in let b = w n in omega (arith, a, b, pos));
      };
      ended = λ n is. let a = r n in let b = w n in let some = left.ended n is in omega (arith, a, b, some);
    }

-- ---- what the effect makes of the kernel

swept_is : (hr hw zr zw : Bool) (k : Kernel) (pipes : List (Option (List ℕ))) → zr ≡ not hr → zw ≡ not hw
    → managed_in (cond (hr || hw) k (record k { pipes = pipes })) ≡ managed_in (record k { pipes = cond (zr && zw) pipes k.pipes })
swept_is true hw zr zw k pipes e f = ap (λ (z : Bool). managed_in (record k { pipes = cond (z && zw) pipes k.pipes })) (sym e)
swept_is false true zr zw k pipes e f = (λ i. managed_in (record k { pipes = cond (sym e i && sym f i) pipes k.pipes }))
swept_is false false zr zw k pipes e f = (λ i. managed_in (record k { pipes = cond (sym e i && sym f i) pipes k.pipes }))

pipe_is : (m : ℕ) (k : Kernel) (readers' writers' : List ℕ) → slice_index readers' m ≡ readers m k.descs → slice_index writers' m ≡ writers m k.descs
    → managed_in (pipe_ends m k) ≡ managed_in (record k { pipes = swept m readers' writers' k.pipes })
pipe_is m k readers' writers' r w =
    swept_is (has_reader m k.descs) (has_writer m k.descs) (eqb (slice_index readers' m) 0) (eqb (slice_index writers' m) 0) k (freed k.pipes m)
    (zero_not (slice_index readers' m) ∙ ap (λ (n : ℕ). not (ltb 0 n)) r ∙ ap not (with_some (reads_from m) k.descs))
    (zero_not (slice_index writers' m) ∙ ap (λ (n : ℕ). not (ltb 0 n)) w ∙ ap not (with_some (writes_to m) k.descs))

object_is : (object : Object) (k : Kernel) (readers' writers' : List ℕ) → ((n : ℕ) → slice_index readers' n ≡ readers n k.descs) → ((n : ℕ) → slice_index writers' n ≡ writers n k.descs)
    → managed_in (object_ends object k) ≡ managed_in (record k { pipes = pipes_left object readers' writers' k.pipes })
object_is (PipeRead m) k readers' writers' r w = pipe_is m k readers' writers' (r m) (w m)
object_is (PipeWrite m) k readers' writers' r w = pipe_is m k readers' writers' (r m) (w m)
object_is Input k readers' writers' r w = refl
object_is (Output stream) k readers' writers' r w = refl
object_is (Regular file) k readers' writers' r w = refl

pub last_managed : (t : Table) (d : DescTable) (p : PipeTable) (readers' writers' : List ℕ) (input : List ℕ) (exits : List Exit) (pid fd : ℕ) (e : FdEntry) (x : Description)
    → slot (fds_of (process t.procs pid)) fd ≡ Some e → slot d.descs e.desc ≡ Some x → (slice_index d.refs e.desc == 1) ≡ true
    → ((n : ℕ) → slice_index readers' n + one_if (is_reading_end n x.object) ≡ slice_index p.readers n)
    → ((n : ℕ) → slice_index writers' n + one_if (is_writing_end n x.object) ≡ slice_index p.writers n)
    → Counted t d p
    → managed_after (Closes pid fd) (managed_of t d p input exits)
    ≡ managed_of (closed_table t pid fd) (record d { descs = freed d.descs e.desc }) (record p { pipes = pipes_left x.object readers' writers' p.pipes }) input exits
last_managed t d p readers' writers' input exits pid fd e x is there last reading writing c =
    let k : Kernel = with_managed (managed_of (closed_table t pid fd) d p input exits) (unbooted []) in
    let l : Kernel = record k { descs = freed d.descs e.desc } in
    ap (λ (y : Option FdEntry). managed_in (let_go (desc_at y) k)) is
    ∙ ap (λ (b : Bool). managed_in (cond b k (description_ends (slot d.descs e.desc) l))) (none_left t d p pid fd e c is last)
    ∙ ap (λ (y : Option Description). managed_in (description_ends y l)) there
    ∙ object_is x.object l readers' writers'
    (λ n. let was = c.reading n in let now = reads_fewer n e.desc x d.descs there in let one = reading n in omega (arith, was, now, one))
    (λ n. let was = c.writing n in let now = writes_fewer n e.desc x d.descs there in let one = writing n in omega (arith, was, now, one))
