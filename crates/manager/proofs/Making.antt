-- Free descriptors, room for a pipe, and what descriptors that were opened before leave.
use Rattle.std.proofs.Common.{◌≡◌, ℕ, zero, suc, ◌+◌, ◌≤◌, ◌<◌, ◌⊎◌, inl, inr, Bool, true, false, cond, ltb, eqb, refl, sym, ◌∙◌, ap, List, [], ◌∷◌, length, slice_set, Option, Some, None, is_some, arith, Result, Ok, Err}
use Rattle.std.proofs.lemmas.Bool.{ne_eqb, ltb-false}
use Rattle.kernel_objects.specs.declared.descriptor.Description.{Description}
use Rattle.kernel_objects.specs.declared.descriptor.FdEntry.{FdEntry}
use Rattle.kernel_objects.specs.declared.descriptor.Object.{Object}
use Rattle.kernel_objects.specs.declared.descriptor.Object.TheVariants.{PipeRead, PipeWrite, Input, Output, Regular}
use Rattle.kernel_objects.specs.Slots.{slot, held, picks, freed, free_from, lowest_free, next_slot, with_next}
use Rattle.linux_model.specs.State.{Process}
use Rattle.linux_model.specs.Processes.{at_pid, process, fds_of, is_live, is_reading_end, is_writing_end}
use Rattle.linux_model.specs.Effects.{at_fd}
use Rattle.linux_model.proofs.fits.Found.{process_at}
use Rattle.linux_model.proofs.fits.Slots.{next_keeps, slot_other}
use Rattle.proc_table.specs.Entries.{Table}
use Rattle.manager.specs.Counting.{one_if, readers, writers, reads_from, writes_to}
use Rattle.manager.specs.Sound.{Counted, Ended}
use Rattle.manager.specs.Tables.{DescTable, PipeTable}
use Rattle.manager.specs.Words.{two_of, second_of}
use Rattle.manager.specs.declared.fault.FdFault.{FdFault}
use Rattle.manager.specs.declared.fault.FdFault.TheVariants.{Enfile}
use Rattle.manager.proofs.Held.{first_free, next_first, with-next}
use Rattle.manager.proofs.Open.{Found, found_alive}

module _ {X : Type 0} where
  -- the lowest free slot is free, and not below where the search begins
  pub record IsFree (slots : List (Option X)) (from n : ℕ) : Type 0 where
    pub free : slot slots n ≡ None
    pub above : from ≤ n

  record FreeFrom (slots : List (Option X)) (from n k : ℕ) : Type 0 where
    place : ℕ
    is : k ≡ n + place
    free : slot slots place ≡ None
    above : from ≤ k

  free_one : (b : Bool) (slots : List (Option X)) (from n k : ℕ) → ltb n from ≡ b → cond b (free_from from (n + 1) slots) (Some n) ≡ Some k → (free_from from (n + 1) slots ≡ Some k → FreeFrom slots from (n + 1) k) → FreeFrom (None ∷ slots) from n k
  free_one true slots from n k low e more =
      let f = more e in
      let is = f.is in
      record { place = suc f.place; is = omega (arith, is); free = f.free; above = f.above }
  free_one false slots from n k low e more =
      let at : n ≡ k = ap (λ (o : Option ℕ). number n o) e in
      let le = ltb-false n from low in
      record { place = 0; is = omega (arith, at); free = refl; above = omega (arith, at, le) }
    where
      number : ℕ → Option ℕ → ℕ
      number d None = d
      number d (Some m) = m

  free_in : (slots : List (Option X)) (from n k : ℕ) → free_from from n slots ≡ Some k → FreeFrom slots from n k
  free_in [] from n k e = cc e
  free_in (Some x ∷ slots) from n k e =
      let f = free_in slots from (n + 1) k e in
      let is = f.is in
      record { place = suc f.place; is = omega (arith, is); free = f.free; above = f.above }
  free_in (None ∷ slots) from n k e = free_one (ltb n from) slots from n k refl e (λ more. free_in slots from (n + 1) k more)

  pub lowest_is : (slots : List (Option X)) (from n : ℕ) → lowest_free slots from ≡ Some n → IsFree slots from n
  lowest_is slots from n e =
      let f = free_in slots from 0 n e in
      let is = f.is in
      let same : f.place ≡ n = omega (arith, is) in
      record { free = ap (slot slots) (sym same) ∙ f.free; above = f.above }

-- ---- a process with one descriptor more

pub fds_after : (procs : List Process) (pid fd : ℕ) (e : Option FdEntry) → picks (λ p. is_live p.state) (process procs pid) ≡ true → fds_of (process (at_pid pid (at_fd fd e) procs) pid) ≡ slice_set (fds_of (process procs pid)) fd e
fds_after procs pid fd e alive =
    let p : Found procs pid = found_alive procs pid alive in
    ap fds_of (process_at (at_fd fd e) (λ q. refl) procs pid p.p p.is) ∙ ap (λ (o : Option Process). slice_set (fds_of o) fd e) (sym p.is)

pub alive_after : (procs : List Process) (pid fd : ℕ) (e : Option FdEntry) → picks (λ p. is_live p.state) (process procs pid) ≡ true → picks (λ p. is_live p.state) (process (at_pid pid (at_fd fd e) procs) pid) ≡ true
alive_after procs pid fd e alive =
    let p : Found procs pid = found_alive procs pid alive in
    ap (picks (λ p. is_live p.state)) (process_at (at_fd fd e) (λ q. refl) procs pid p.p p.is) ∙ ap (picks (λ p. is_live p.state)) (sym p.is) ∙ alive

-- another descriptor is as free as it was
pub free_after : (procs : List Process) (pid fd other : ℕ) (e : Option FdEntry) → picks (λ p. is_live p.state) (process procs pid) ≡ true → (fd ≡ other → ⊥) → slot (fds_of (process procs pid)) other ≡ None
    → slot (fds_of (process (at_pid pid (at_fd fd e) procs) pid)) other ≡ None
free_after procs pid fd other e alive ne free =
    ap (λ (fds : List (Option FdEntry)). slot fds other) (fds_after procs pid fd e alive) ∙ slot_other (fds_of (process procs pid)) fd other e ne ∙ free

-- ---- there are no more pipes than descriptions

freed_held : (pipes : List (Option (List ℕ))) (n : ℕ) → length (held pipes) ≤ length (held (freed pipes n)) + 1
freed_held [] n = omega arith
freed_held (None ∷ pipes) zero = omega arith
freed_held (Some x ∷ pipes) zero = omega arith
freed_held (None ∷ pipes) (suc n) = freed_held pipes n
freed_held (Some x ∷ pipes) (suc n) = let rest = freed_held pipes n in omega (arith, rest)

none_held : (pipes : List (Option (List ℕ))) → ((n : ℕ) → is_some (slot pipes n) ≡ true → ⊥) → length (held pipes) ≡ 0
none_held [] none = refl
none_held (None ∷ pipes) none = none_held pipes (λ n is. none (suc n) is)
none_held (Some x ∷ pipes) none = absurd (none 0 refl)

freed_slot : (pipes : List (Option (List ℕ))) (n m : ℕ) → is_some (slot (freed pipes n) m) ≡ true → (is_some (slot pipes m) ≡ true) × (n ≡ m → ⊥)
freed_slot [] n m is = cc is
freed_slot (x ∷ pipes) zero zero is = cc is
freed_slot (x ∷ pipes) zero (suc m) is = (is, (λ e. omega (arith, e)))
freed_slot (x ∷ pipes) (suc n) zero is = (is, (λ e. omega (arith, e)))
freed_slot (x ∷ pipes) (suc n) (suc m) is = let rest = freed_slot pipes n m is in (rest.0, (λ e. rest.1 (omega (arith, e))))

-- the pipe of an object, or a number that no pipe has
one_end : (n m : ℕ) → (m ≡ n → ⊥) → one_if (eqb m n) ≡ 0
one_end n m ne = ap one_if (ne_eqb m n ne)

abbrev ends : ℕ → Object → ℕ
ends n object = one_if (is_reading_end n object) + one_if (is_writing_end n object)

record OneEnd (object : Object) : Type 0 where
  pipe : ℕ
  others : (n : ℕ) → (pipe ≡ n → ⊥) → ends n object ≡ 0

one_of : (object : Object) → OneEnd object
one_of (PipeRead m) = record { pipe = m; others = λ n ne. let one = one_end n m ne in omega (arith, one) }
one_of (PipeWrite m) = record { pipe = m; others = λ n ne. let one = one_end n m ne in omega (arith, one) }
one_of Input = record { pipe = 0; others = λ n ne. refl }
one_of (Output stream) = record { pipe = 0; others = λ n ne. refl }
one_of (Regular file) = record { pipe = 0; others = λ n ne. refl }

pub pipes_few : (descs : List (Option Description)) (pipes : List (Option (List ℕ))) → ((n : ℕ) → is_some (slot pipes n) ≡ true → 0 < readers n descs + writers n descs) → length (held pipes) ≤ length (held descs)
pipes_few [] pipes ended = let none = none_held pipes (λ n is. let e = ended n is in omega (arith, e)) in omega (arith, none)
pipes_few (None ∷ descs) pipes ended = pipes_few descs pipes (λ n is. let e = ended n is in omega (arith, e))
pipes_few (Some d ∷ descs) pipes ended =
    let one : OneEnd d.object = one_of d.object in
    let rest = pipes_few descs (freed pipes one.pipe) (λ n is.
    let was = freed_slot pipes one.pipe n is in
    let e = ended n was.0 in
    let none = one.others n was.1 in
    omega (arith, e, none)) in
    let less = freed_held pipes one.pipe in
    omega (arith, rest, less)

-- ---- a new pipe

pub new_pipe : (t : Table) (d : DescTable) (p : PipeTable) → Counted t d p → Counted t d (record p { pipes = with_next [] p.pipes })
new_pipe t d p c = record {
  pids = c.pids;
  few = c.few;
  procs = c.procs;
  refs = c.refs;
  reading = c.reading;
  writing = c.writing;
  there = λ n some. next_keeps [] p.pipes n (c.there n some);
}

next_or : (pipes : List (Option (List ℕ))) (n : ℕ) → is_some (slot (with_next [] pipes) n) ≡ true → (first_free pipes ≡ n) ⊎ (is_some (slot pipes n) ≡ true)
next_or [] zero is = inl refl
next_or [] (suc n) is = cc is
next_or (None ∷ pipes) zero is = inl refl
next_or (None ∷ pipes) (suc n) is = inr is
next_or (Some x ∷ pipes) zero is = inr refl
next_or (Some x ∷ pipes) (suc n) is = elim (next_or pipes n is) [ inl e ↦ inl (ap suc e) | inr e ↦ inr e ]

-- both ends are open: each pipe has an end again
pub made_ended : (d d' : DescTable) (p p' : PipeTable) (x y : Description) (pipe : ℕ) → pipe ≡ next_slot p.pipes → is_reading_end pipe x.object ≡ true
    → d'.descs ≡ with_next y (with_next x d.descs) → p'.pipes ≡ with_next [] p.pipes → Ended d p → Ended d' p'
made_ended d d' p p' x y pipe at reads descs pipes ended = λ n is.
    let r = ap (readers n) descs in
    let w = ap (writers n) descs in
    let ry = with-next (reads_from n) y (with_next x d.descs) in
    let wy = with-next (writes_to n) y (with_next x d.descs) in
    let rx = with-next (reads_from n) x d.descs in
    let wx = with-next (writes_to n) x d.descs in
    elim (next_or p.pipes n (ap (λ (s : List (Option (List ℕ))). is_some (slot s n)) (sym pipes) ∙ is)) [
      | inl e ↦
          let one : one_if (is_reading_end n x.object) ≡ 1 = ap (λ (m : ℕ). one_if (is_reading_end m x.object)) (sym (at ∙ next_first p.pipes ∙ e)) ∙ ap one_if reads in
          omega (arith, r, w, ry, wy, rx, wx, one)
      | inr old ↦ let some = ended n old in omega (arith, r, w, ry, wy, rx, wx, some)
    ]

-- ---- two descriptors

pub record TwoFree (fds : List (Option FdEntry)) (reading writing left : ℕ) : Type 0 where
  pub reads : slot fds reading ≡ None
  pub writes : slot fds writing ≡ None
  pub order : reading < writing
  pub room : 2 ≤ left

abbrev first_in : Result (ℕ × ℕ) FdFault → ℕ
first_in (Ok fds) = fds.0
first_in (Err fault) = 0

abbrev second_in : Result (ℕ × ℕ) FdFault → ℕ
second_in (Ok fds) = fds.1
second_in (Err fault) = 0

room_for : (b : Bool) (fds : List (Option FdEntry)) (reading writing left a c : ℕ) → ltb left 2 ≡ b → lowest_free fds 0 ≡ Some a → lowest_free fds (a + 1) ≡ Some c → ◌≡◌ {A = Result (ℕ × ℕ) FdFault} (Ok (reading, writing)) (cond b (Err Enfile) (Ok (a, c))) → TwoFree fds reading writing left
room_for true fds reading writing left a c full first second is = cc is
room_for false fds reading writing left a c full first second is =
    let r : reading ≡ a = ap first_in is in
    let w : writing ≡ c = ap second_in is in
    let f = lowest_is fds 0 a first in
    let g = lowest_is fds (a + 1) c second in
    let above = g.above in
    let le = ltb-false left 2 full in
    record {
      reads = ap (slot fds) r ∙ f.free;
      writes = ap (slot fds) w ∙ g.free;
      order = omega (arith, r, w, above);
      room = omega (arith, le);
    }

pub two_are_free : (fds : List (Option FdEntry)) (reading writing left : ℕ) → ◌≡◌ {A = Result (ℕ × ℕ) FdFault} (Ok (reading, writing)) (two_of (lowest_free fds 0) (lowest_free fds) left) → TwoFree fds reading writing left
two_are_free fds reading writing left is = at (lowest_free fds 0) refl is
  where
    then_at : (a : ℕ) (o : Option ℕ) → lowest_free fds 0 ≡ Some a → lowest_free fds (a + 1) ≡ o → ◌≡◌ {A = Result (ℕ × ℕ) FdFault} (Ok (reading, writing)) (second_of a o left) → TwoFree fds reading writing left
    then_at a None first e is = cc is
    then_at a (Some c) first e is = room_for (ltb left 2) fds reading writing left a c refl first e is

    at : (o : Option ℕ) → lowest_free fds 0 ≡ o → ◌≡◌ {A = Result (ℕ × ℕ) FdFault} (Ok (reading, writing)) (two_of o (lowest_free fds) left) → TwoFree fds reading writing left
    at None e is = cc is
    at (Some a) e is = then_at a (lowest_free fds (a + 1)) e refl is
