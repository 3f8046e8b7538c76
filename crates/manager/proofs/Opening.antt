-- The counts stay right where a descriptor is opened, shared or closed.
use Rattle.std.proofs.Common.{◌≡◌, ℕ, zero, suc, ◌+◌, ◌-◌, ◌^◌, ◌<◌, Bool, true, ◌==◌, refl, sym, ◌∙◌, ap, subst, List, length, slice_index, Option, Some, None, is_some, arith}
use Rattle.kernel_objects.specs.declared.descriptor.Description.{Description}
use Rattle.kernel_objects.specs.declared.descriptor.FdEntry.{FdEntry}
use Rattle.kernel_objects.specs.Slots.{slot, held, picks, next_slot, with_next}
use Rattle.linux_model.specs.State.{Process}
use Rattle.linux_model.specs.Processes.{at_pid, process, fds_of, is_live, is_reading_end, is_writing_end}
use Rattle.linux_model.specs.Effects.{at_fd}
use Rattle.linux_model.specs.Fits.{LivesAt}
use Rattle.linux_model.proofs.fits.Processes.{pids_at, procs_open, procs_grow, process_fits}
use Rattle.linux_model.proofs.fits.Slots.{next_keeps, next_holds}
use Rattle.linux_model.proofs.fits.Found.{lives_found}
use Rattle.proc_table.specs.Entries.{Table}
use Rattle.manager.specs.Counting.{one_if, references, refers, readers, writers, reads_from, writes_to, OneMore}
use Rattle.manager.specs.Sound.{Counted, Ended, Sound}
use Rattle.manager.specs.Tables.{DescTable, PipeTable}
use Rattle.manager.proofs.Held.{with-next, with_le-held}
use Rattle.manager.proofs.Open.{found_alive}
use Rattle.manager.proofs.References.{length_at, references_fd, references_le}

-- a process lives
pub alive_at : (t : Table) (d : DescTable) (p : PipeTable) (pid : ℕ) → Counted t d p → picks (λ q. is_live q.state) (process t.procs pid) ≡ true → LivesAt pid t.procs
alive_at t d p pid c alive =
    let q = found_alive t.procs pid alive in
    lives_found pid t.last t.procs q.p c.pids q.is (ap (picks (λ q. is_live q.state)) (sym q.is) ∙ alive)

-- no count is too large
pub refs_fit : (t : Table) (d : DescTable) (p : PipeTable) (n : ℕ) → Counted t d p → slice_index d.refs n < 2 ^ 32 - 1
refs_fit t d p n c =
    let le = references_le n d.descs t.procs c.procs in
    let few = c.few in
    let is = c.refs n in
    omega (arith, le, few, is)

pub readers_fit : (t : Table) (d : DescTable) (p : PipeTable) (n : ℕ) → Counted t d p → length (held d.descs) < 1024 → slice_index p.readers n < 2 ^ 32 - 1
readers_fit t d p n c room = let le = with_le-held (reads_from n) d.descs in let is = c.reading n in omega (arith, le, is, room)

pub writers_fit : (t : Table) (d : DescTable) (p : PipeTable) (n : ℕ) → Counted t d p → length (held d.descs) < 1024 → slice_index p.writers n < 2 ^ 32 - 1
writers_fit t d p n c room = let le = with_le-held (writes_to n) d.descs in let is = c.writing n in omega (arith, le, is, room)

-- ---- a descriptor that was free refers to a description

-- one more refers to it
refers_more : (t : Table) (d : DescTable) (p : PipeTable) (pid fd : ℕ) (e : FdEntry) (n : ℕ) → Counted t d p → picks (λ q. is_live q.state) (process t.procs pid) ≡ true → fd < 64 → slot (fds_of (process t.procs pid)) fd ≡ None
    → references n (at_pid pid (at_fd fd (Some e)) t.procs) ≡ references n t.procs + one_if (e.desc == n)
refers_more t d p pid fd e n c alive lt free =
    let q = found_alive t.procs pid alive in
    let slots = (process_fits d.descs t.procs pid q.p c.procs q.is).slots in
    let none : slot q.p.fds fd ≡ None = ap (λ (o : Option Process). slot (fds_of o) fd) (sym q.is) ∙ free in
    let more = references_fd n pid fd (Some e) q.p 0 t.last t.procs c.pids q.is (omega (arith, slots, lt)) in
    let was : one_if (picks (refers n) (slot q.p.fds fd)) ≡ 0 = ap (λ (o : Option FdEntry). one_if (picks (refers n) o)) none in
    omega (arith, more, was)

pub shared : (t : Table) (d : DescTable) (p : PipeTable) (refs : List ℕ) (pid fd : ℕ) (e : FdEntry)
    → picks (λ q. is_live q.state) (process t.procs pid) ≡ true → fd < 64 → slot (fds_of (process t.procs pid)) fd ≡ None → is_some (slot d.descs e.desc) ≡ true
    → OneMore e.desc d.refs refs → Sound t d p
    → Sound (record t { procs = at_pid pid (at_fd fd (Some e)) t.procs }) (record { descs = d.descs; refs = refs }) p
shared t d p refs pid fd e alive lt free there more s = let c = s.counted in record {
  counted = record {
    pids = pids_at (at_fd fd (Some e)) (λ q. refl) pid 0 t.last t.procs c.pids;
    few = let long = length_at (at_fd fd (Some e)) pid t.procs in let few = c.few in omega (arith, long, few);
    procs = procs_open d.descs pid fd e t.procs (alive_at t d p pid c alive) there c.procs;
    refs = λ n. more n ∙ ap (λ (m : ℕ). m + one_if (e.desc == n)) (c.refs n) ∙ sym (refers_more t d p pid fd e n c alive lt free);
    reading = c.reading;
    writing = c.writing;
    there = c.there;
  };
  ended = s.ended;
}

-- ---- a new description

reads_more : (n : ℕ) (x : Description) (descs : List (Option Description)) → readers n (with_next x descs) ≡ readers n descs + one_if (is_reading_end n x.object)
reads_more n x descs = with-next (reads_from n) x descs

writes_more : (n : ℕ) (x : Description) (descs : List (Option Description)) → writers n (with_next x descs) ≡ writers n descs + one_if (is_writing_end n x.object)
writes_more n x descs = with-next (writes_to n) x descs

pub opened : (t : Table) (d : DescTable) (p : PipeTable) (refs readers' writers' : List ℕ) (pid fd : ℕ) (x : Description) (cloexec : Bool)
    → picks (λ q. is_live q.state) (process t.procs pid) ≡ true → fd < 64 → slot (fds_of (process t.procs pid)) fd ≡ None
    → ((n : ℕ) → 0 < one_if (is_reading_end n x.object) + one_if (is_writing_end n x.object) → is_some (slot p.pipes n) ≡ true)
    → OneMore (next_slot d.descs) d.refs refs
    → ((n : ℕ) → slice_index readers' n ≡ slice_index p.readers n + one_if (is_reading_end n x.object))
    → ((n : ℕ) → slice_index writers' n ≡ slice_index p.writers n + one_if (is_writing_end n x.object))
    → Counted t d p
    → Counted (record t { procs = at_pid pid (at_fd fd (Some (record { desc = next_slot d.descs; cloexec = cloexec }))) t.procs })
    (record { descs = with_next x d.descs; refs = refs }) (record { pipes = p.pipes; readers = readers'; writers = writers' })
opened t d p refs readers' writers' pid fd x cloexec alive lt free pipe more reading writing c =
    let e : FdEntry = record { desc = next_slot d.descs; cloexec = cloexec } in
    record {
      pids = pids_at (at_fd fd (Some e)) (λ q. refl) pid 0 t.last t.procs c.pids;
      few = let long = length_at (at_fd fd (Some e)) pid t.procs in let few = c.few in omega (arith, long, few);
      procs = procs_open (with_next x d.descs) pid fd e t.procs (alive_at t d p pid c alive) (ap (λ (o : Option Description). is_some o) (next_holds x d.descs))
          (procs_grow d.descs (with_next x d.descs) (next_keeps x d.descs) t.procs c.procs);
      refs = λ n. more n ∙ ap (λ (m : ℕ). m + one_if (next_slot d.descs == n)) (c.refs n) ∙ sym (refers_more t d p pid fd e n c alive lt free);
      reading = λ n. reading n ∙ ap (λ (m : ℕ). m + one_if (is_reading_end n x.object)) (c.reading n) ∙ sym (reads_more n x d.descs);
      writing = λ n. writing n ∙ ap (λ (m : ℕ). m + one_if (is_writing_end n x.object)) (c.writing n) ∙ sym (writes_more n x d.descs);
      there = λ n some. there_of n (one_if (is_reading_end n x.object) + one_if (is_writing_end n x.object)) refl some;
    }
  where
    there_of : (n ends : ℕ) → one_if (is_reading_end n x.object) + one_if (is_writing_end n x.object) ≡ ends → 0 < readers n (with_next x d.descs) + writers n (with_next x d.descs) → is_some (slot p.pipes n) ≡ true
    there_of n zero e some =
        let r = reads_more n x d.descs in
        let w = writes_more n x d.descs in
        c.there n (omega (arith, r, w, e, some))
    there_of n (suc ends) e some = pipe n (omega (arith, e))

-- a new description, and each pipe still has an end
pub opened_ended : (d : DescTable) (p : PipeTable) (d' : DescTable) (p' : PipeTable) (x : Description) → d'.descs ≡ with_next x d.descs → p'.pipes ≡ p.pipes → Ended d p → Ended d' p'
opened_ended d p d' p' x descs pipes ended = λ n there.
    let rd = ap (readers n) descs in
    let wd = ap (writers n) descs in
    let r = reads_more n x d.descs in
    let w = writes_more n x d.descs in
    let old = ended n (ap (λ (s : List (Option (List ℕ))). is_some (slot s n)) (sym pipes) ∙ there) in
    omega (arith, rd, wd, r, w, old)

-- the tables that come of it
abbrev pub opened_table : Table → ℕ → ℕ → ℕ → Bool → Table
opened_table t pid fd desc cloexec = record t { procs = at_pid pid (at_fd fd (Some (record { desc = desc; cloexec = cloexec }))) t.procs }

pub opened_counted : (t : Table) (d : DescTable) (p : PipeTable) (t' : Table) (d' : DescTable) (p' : PipeTable) (pid fd desc : ℕ) (x : Description) (cloexec : Bool)
    → picks (λ q. is_live q.state) (process t.procs pid) ≡ true → fd < 64 → slot (fds_of (process t.procs pid)) fd ≡ None
    → ((n : ℕ) → 0 < one_if (is_reading_end n x.object) + one_if (is_writing_end n x.object) → is_some (slot p.pipes n) ≡ true)
    → desc ≡ next_slot d.descs → t' ≡ opened_table t pid fd desc cloexec → d'.descs ≡ with_next x d.descs → OneMore desc d.refs d'.refs → p'.pipes ≡ p.pipes
    → ((n : ℕ) → slice_index p'.readers n ≡ slice_index p.readers n + one_if (is_reading_end n x.object))
    → ((n : ℕ) → slice_index p'.writers n ≡ slice_index p.writers n + one_if (is_writing_end n x.object))
    → Counted t d p → Counted t' d' p'
opened_counted t d p t' d' p' pid fd desc x cloexec alive lt free pipe at table descs more pipes reading writing c =
    let is_t : t' ≡ opened_table t pid fd (next_slot d.descs) cloexec = table ∙ ap (λ (n : ℕ). opened_table t pid fd n cloexec) at in
    let is_d : d' ≡ record { descs = with_next x d.descs; refs = d'.refs } = λ i. record { descs = descs i; refs = d'.refs } in
    let is_p : p' ≡ record { pipes = p.pipes; readers = p'.readers; writers = p'.writers } = λ i. record { pipes = pipes i; readers = p'.readers; writers = p'.writers } in
    subst (λ (t : Table). Counted t d' p') (sym is_t)
    (subst (λ (d'' : DescTable). Counted (opened_table t pid fd (next_slot d.descs) cloexec) d'' p') (sym is_d)
    (subst (λ (p'' : PipeTable). Counted (opened_table t pid fd (next_slot d.descs) cloexec) (record { descs = with_next x d.descs; refs = d'.refs }) p'') (sym is_p)
    (opened t d p d'.refs p'.readers p'.writers pid fd x cloexec alive lt free pipe (λ n. more n ∙ ap (λ (m : ℕ). slice_index d.refs n + one_if (m == n)) at) reading writing c)))
