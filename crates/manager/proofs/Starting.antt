-- A process that starts has nothing open: the counts stay right.
use Rattle.std.proofs.Common.{◌≡◌, ℕ, ◌+◌, ◌≤◌, ◌<◌, Bool, true, false, cond, eqb, leb, refl, sym, ◌∙◌, ap, subst, List, [], ◌∷◌, ◌++◌, length, Option, Some, None, arith}
use Rattle.std.proofs.lemmas.Bool.{eq-eqb, ne_eqb, leb-false}
use Rattle.rv64_step.specs.declared.cpu.Cpu.{Cpu}
use Rattle.kernel_objects.specs.declared.descriptor.FdEntry.{FdEntry}
use Rattle.kernel_objects.specs.declared.process.Brk.{Brk}
use Rattle.linux_model.specs.State.{Process}
use Rattle.linux_model.specs.Processes.{first_process, no_descriptors, process}
use Rattle.linux_model.specs.Fits.{PidsRise}
use Rattle.linux_model.proofs.fits.Processes.{pids_more, procs_more}
use Rattle.proc_table.specs.Entries.{Table, spawned}
use Rattle.manager.specs.Sound.{Sound}
use Rattle.manager.specs.Tables.{DescTable, PipeTable}
use Rattle.manager.proofs.References.{references-append}

length_more : (procs : List Process) (p : Process) → length (procs ++ p ∷ []) ≡ length procs + 1
length_more [] p = refl
length_more (x ∷ procs) p = let rest = length_more procs p in omega (arith, rest)

pub started_sound : (t : Table) (d : DescTable) (p : PipeTable) (t' : Table) (cpu : Cpu) (brk : Brk) (fds : List (Option FdEntry))
    → leb 64 (length t.procs) ≡ false → fds ≡ no_descriptors → t' ≡ spawned 0 cpu brk fds t → Sound t d p → Sound t' d p
started_sound t d p t' cpu brk fds room same table s =
    let c = s.counted in
    let first : Process = first_process (t.last + 1) cpu brk in
    let is_t : t' ≡ spawned 0 cpu brk no_descriptors t = table ∙ ap (λ (fds : List (Option FdEntry)). spawned 0 cpu brk fds t) same in
    let lt = leb-false 64 (length t.procs) room in
    subst (λ (t'' : Table). Sound t'' d p) (sym is_t) (record {
      counted = record {
        pids = pids_more 0 t.last (t.last + 1) t.procs first c.pids (omega arith) (omega arith) refl;
        few = let long = length_more t.procs first in omega (arith, long, lt);
        procs = procs_more d.descs t.procs first c.procs (record { slots = refl; entries = tt; zombie = λ dead. refl });
        refs = λ n. let old = c.refs n in let all = references-append n t.procs first in omega (arith, old, all);
        reading = c.reading;
        writing = c.writing;
        there = c.there;
      };
      ended = s.ended;
    })

at_last : (b : Bool) (q : Process) (rest : Option Process) → b ≡ false → cond b (Some q) rest ≡ rest
at_last true q rest e = cc e
at_last false q rest e = refl

last_there : (low last : ℕ) (procs : List Process) (p : Process) → PidsRise low last procs → last < p.pid → process (procs ++ p ∷ []) p.pid ≡ Some p
last_there low last [] p r lt = ap (λ (b : Bool). cond b (Some p) None) (eq-eqb p.pid p.pid refl)
last_there low last (q ∷ procs) p r lt =
    let le : q.pid ≤ last = r.1 in
    at_last (eqb q.pid p.pid) q (process (procs ++ p ∷ []) p.pid) (ne_eqb q.pid p.pid (λ e. omega (arith, le, lt, e))) ∙ last_there q.pid last procs p r.2 lt

pub first_there : (t : Table) (cpu : Cpu) (brk : Brk) → PidsRise 0 t.last t.procs → process (spawned 0 cpu brk no_descriptors t).procs (t.last + 1) ≡ Some (first_process (t.last + 1) cpu brk)
first_there t cpu brk r = last_there 0 t.last t.procs (first_process (t.last + 1) cpu brk) r (omega arith)
