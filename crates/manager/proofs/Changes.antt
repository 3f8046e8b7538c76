-- The tables stay sound where a process changes in what they don't count, where a pipe's bytes change, and where an offset does.
use Rattle.std.proofs.Common.{◌≡◌, ℕ, zero, suc, ◌+◌, ◌<◌, Bool, true, false, cond, eqb, refl, sym, ◌∙◌, ap, subst, List, [], ◌∷◌, slice_set, Option, Some, None, is_some, arith}
use Rattle.rv64_step.specs.declared.cpu.Cpu.{Cpu}
use Rattle.kernel_objects.specs.declared.descriptor.Description.{Description}
use Rattle.kernel_objects.specs.declared.process.Brk.{Brk}
use Rattle.kernel_objects.specs.declared.process.Waiting.{Waiting}
use Rattle.kernel_objects.specs.Slots.{slot, picks}
use Rattle.linux_model.specs.State.{Process}
use Rattle.linux_model.specs.Processes.{at_pid}
use Rattle.linux_model.specs.Effects.{sought}
use Rattle.linux_model.specs.Fits.{ProcessFits}
use Rattle.linux_model.proofs.fits.Processes.{pids_at, procs_each, procs_grow}
use Rattle.linux_model.proofs.fits.Files.{sought_keeps}
use Rattle.proc_table.specs.Entries.{Table}
use Rattle.manager.specs.Counting.{one_if, readers, writers, reads_from, writes_to}
use Rattle.manager.specs.Sound.{Sound}
use Rattle.manager.specs.Tables.{DescTable, PipeTable}
use Rattle.manager.proofs.References.{references_at, length_at}

changed : (t : Table) (d : DescTable) (p : PipeTable) (f : Process → Process)
    → ((q : Process) → (f q).pid ≡ q.pid) → ((q : Process) → (f q).fds ≡ q.fds) → ((q : Process) → ProcessFits d.descs q → ProcessFits d.descs (f q))
    → (pid : ℕ) → Sound t d p → Sound (record t { procs = at_pid pid f t.procs }) d p
changed t d p f same fds fits pid s = let c = s.counted in record {
  counted = record {
    pids = pids_at f same pid 0 t.last t.procs c.pids;
    few = let long = length_at f pid t.procs in let few = c.few in omega (arith, long, few);
    procs = procs_each d.descs f fits pid t.procs c.procs;
    refs = λ n. c.refs n ∙ sym (references_at f fds n pid t.procs);
    reading = c.reading;
    writing = c.writing;
    there = c.there;
  };
  ended = s.ended;
}

pub cpu_changed : (t : Table) (d : DescTable) (p : PipeTable) (pid : ℕ) (cpu : Cpu) → Sound t d p → Sound (record t { procs = at_pid pid (λ q. record q { cpu = cpu }) t.procs }) d p
cpu_changed t d p pid cpu s = changed t d p (λ q. record q { cpu = cpu }) (λ q. refl) (λ q. refl) (λ q f. record { slots = f.slots; entries = f.entries; zombie = f.zombie }) pid s

pub brk_changed : (t : Table) (d : DescTable) (p : PipeTable) (pid : ℕ) (brk : Brk) → Sound t d p → Sound (record t { procs = at_pid pid (λ q. record q { brk = brk }) t.procs }) d p
brk_changed t d p pid brk s = changed t d p (λ q. record q { brk = brk }) (λ q. refl) (λ q. refl) (λ q f. record { slots = f.slots; entries = f.entries; zombie = f.zombie }) pid s

pub waiting_changed : (t : Table) (d : DescTable) (p : PipeTable) (pid : ℕ) (waiting : Option Waiting) → Sound t d p → Sound (record t { procs = at_pid pid (λ q. record q { waiting = waiting }) t.procs }) d p
waiting_changed t d p pid waiting s = changed t d p (λ q. record q { waiting = waiting }) (λ q. refl) (λ q. refl) (λ q f. record { slots = f.slots; entries = f.entries; zombie = f.zombie }) pid s

-- ---- a pipe's bytes

some_set : (slots : List (Option (List ℕ))) (n m : ℕ) (bytes : List ℕ) → is_some (slot slots n) ≡ true → is_some (slot (slice_set slots n (Some bytes)) m) ≡ is_some (slot slots m)
some_set [] n m bytes is = refl
some_set (x ∷ slots) zero zero bytes is = sym is
some_set (x ∷ slots) zero (suc m) bytes is = refl
some_set (x ∷ slots) (suc n) zero bytes is = refl
some_set (x ∷ slots) (suc n) (suc m) bytes is = some_set slots n m bytes is

pub bytes_changed : (t : Table) (d : DescTable) (p : PipeTable) (pipe : ℕ) (bytes : List ℕ) → is_some (slot p.pipes pipe) ≡ true → Sound t d p → Sound t d (record p { pipes = slice_set p.pipes pipe (Some bytes) })
bytes_changed t d p pipe bytes is s = let c = s.counted in record {
  counted = record {
    pids = c.pids;
    few = c.few;
    procs = c.procs;
    refs = c.refs;
    reading = c.reading;
    writing = c.writing;
    there = λ n some. some_set p.pipes pipe n bytes is ∙ c.there n some;
  };
  ended = λ n there. s.ended n (sym (some_set p.pipes pipe n bytes is) ∙ there);
}

-- ---- an offset

pub sought_reads : (descs : List (Option Description)) (n desc offset : ℕ) → readers n (slice_set descs desc (sought offset (slot descs desc))) ≡ readers n descs
sought_reads [] n desc offset = refl
sought_reads (None ∷ descs) n zero offset = refl
sought_reads (Some d ∷ descs) n zero offset = refl
sought_reads (x ∷ descs) n (suc desc) offset = ap (λ (m : ℕ). one_if (picks (reads_from n) x) + m) (sought_reads descs n desc offset)

pub sought_writes : (descs : List (Option Description)) (n desc offset : ℕ) → writers n (slice_set descs desc (sought offset (slot descs desc))) ≡ writers n descs
sought_writes [] n desc offset = refl
sought_writes (None ∷ descs) n zero offset = refl
sought_writes (Some d ∷ descs) n zero offset = refl
sought_writes (x ∷ descs) n (suc desc) offset = ap (λ (m : ℕ). one_if (picks (writes_to n) x) + m) (sought_writes descs n desc offset)

pub offset_changed : (t : Table) (d : DescTable) (p : PipeTable) (desc offset : ℕ) → Sound t d p → Sound t (record d { descs = slice_set d.descs desc (sought offset (slot d.descs desc)) }) p
offset_changed t d p desc offset s =
    let c = s.counted in
    let same : (n : ℕ) → readers n (slice_set d.descs desc (sought offset (slot d.descs desc))) + writers n (slice_set d.descs desc (sought offset (slot d.descs desc))) ≡ readers n d.descs + writers n d.descs =
    λ n. (λ i. sought_reads d.descs n desc offset i + sought_writes d.descs n desc offset i) in
    record {
      counted = record {
        pids = c.pids;
        few = c.few;
        procs = procs_grow d.descs _ (sought_keeps d.descs desc offset) t.procs c.procs;
        refs = c.refs;
        reading = λ n. c.reading n ∙ sym (sought_reads d.descs n desc offset);
        writing = λ n. c.writing n ∙ sym (sought_writes d.descs n desc offset);
        there = λ n some. c.there n (subst (λ (m : ℕ). 0 < m) (same n) some);
      };
      ended = λ n there. subst (λ (m : ℕ). 0 < m) (sym (same n)) (s.ended n there);
    }

-- ---- after a call

returned_one : (b : Bool) (pid : ℕ) (cpu : Cpu) (p : Process) → eqb p.pid pid ≡ b
    → cond (eqb (cond b (record p { cpu = cpu }) p).pid pid) (record (cond b (record p { cpu = cpu }) p) { waiting = None }) (cond b (record p { cpu = cpu }) p) ≡ cond b (record p { cpu = cpu; waiting = None }) p
returned_one true pid cpu p e = ap (λ (c : Bool). cond c (record p { cpu = cpu; waiting = None }) (record p { cpu = cpu })) e
returned_one false pid cpu p e = ap (λ (c : Bool). cond c (record p { waiting = None }) p) e

-- the registers, then the waiting call
pub returned : (pid : ℕ) (cpu : Cpu) (procs : List Process)
    → at_pid pid (λ p. record p { waiting = None }) (at_pid pid (λ p. record p { cpu = cpu }) procs) ≡ at_pid pid (λ p. record p { cpu = cpu; waiting = None }) procs
returned pid cpu [] = refl
returned pid cpu (p ∷ procs) = λ i. returned_one (eqb p.pid pid) pid cpu p refl i ∷ returned pid cpu procs i
