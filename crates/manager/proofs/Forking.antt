-- A child shares its parent's descriptions: the counts stay right.
use Rattle.std.proofs.Common.{◌≡◌, ℕ, zero, suc, ◌+◌, ◌-◌, ◌^◌, ◌<◌, false, leb, refl, sym, ◌∙◌, ap, subst, List, [], ◌∷◌, ◌++◌, length, drop, slice_index, Option, Some, arith}
use Rattle.std.specs.Prelude.{IfSome}
use Rattle.std.proofs.lemmas.Bool.{eqb-true, leb-false}
use Rattle.lego_base.specs.declared.report.Exit.{Exit}
use Rattle.rv64_step.specs.declared.cpu.Cpu.{Cpu}
use Rattle.kernel_objects.specs.declared.descriptor.FdEntry.{FdEntry}
use Rattle.kernel_objects.specs.declared.process.Brk.{Brk}
use Rattle.kernel_objects.specs.Slots.{slot, picks}
use Rattle.linux_model.specs.State.{Kernel, Process, unbooted}
use Rattle.linux_model.specs.Processes.{process}
use Rattle.linux_model.specs.Effects.{Forks, forked}
use Rattle.linux_model.specs.Managed.{managed_in, managed_after, with_managed}
use Rattle.linux_model.proofs.fits.Processes.{pids_more, procs_more, process_fits}
use Rattle.linux_model.proofs.fits.Found.{found_pid}
use Rattle.proc_table.specs.Entries.{Table, new_process, spawned}
use Rattle.manager.specs.Counting.{one_if, slots_with, refers}
use Rattle.manager.specs.Sound.{Counted, Sound, managed_of}
use Rattle.manager.specs.Tables.{DescTable, PipeTable}
use Rattle.manager.proofs.References.{references_le, references-append, with_le-length}

-- ---- descriptor by descriptor

drop_slot : (n : ℕ) (fds : List (Option FdEntry)) (fd : ℕ) → fd < length fds → slots_with (refers n) (drop fd fds) ≡ one_if (picks (refers n) (slot fds fd)) + slots_with (refers n) (drop (fd + 1) fds)
drop_slot n [] fd lt = absurd (omega (arith, lt))
drop_slot n (x ∷ fds) zero lt = refl
drop_slot n (x ∷ fds) (suc fd) lt =
    let up : suc fd + 1 ≡ suc (fd + 1) = omega arith in
    drop_slot n fds fd (omega (arith, lt)) ∙ ap (λ (m : ℕ). one_if (picks (refers n) (slot fds fd)) + slots_with (refers n) (drop m (x ∷ fds))) (sym up)

pub shared_next : (n now new total : ℕ) (fds : List (Option FdEntry)) (fd : ℕ) (x : Option FdEntry) → fd < length fds → slot fds fd ≡ x → new ≡ now + one_if (picks (refers n) x)
    → now + slots_with (refers n) (drop fd fds) ≡ total → new + slots_with (refers n) (drop (fd + 1) fds) ≡ total
shared_next n now new total fds fd x lt is more left =
    let here = drop_slot n fds fd lt in
    let one = ap (λ (o : Option FdEntry). one_if (picks (refers n) o)) is in
    omega (arith, here, one, more, left)

pub shared_fit : (n now old : ℕ) (fds rest : List (Option FdEntry)) → length fds ≡ 64 → now + slots_with (refers n) rest ≡ old + slots_with (refers n) fds → old < 2 ^ 31 → now < 2 ^ 32 - 1
shared_fit n now old fds rest long is lt = let le = with_le-length (refers n) fds in omega (arith, long, is, lt, le)

-- ---- the parent

pub refs_small : (t : Table) (d : DescTable) (p : PipeTable) (n : ℕ) → Counted t d p → slice_index d.refs n < 2 ^ 31
refs_small t d p n c =
    let le = references_le n d.descs t.procs c.procs in
    let few = c.few in
    let is = c.refs n in
    omega (arith, le, few, is)

pub parent_fds : (procs : List Process) (pid : ℕ) (q : Process) (fds : List (Option FdEntry)) → process procs pid ≡ Some q → IfSome (process procs pid) (λ p. fds ≡ p.fds) → fds ≡ q.fds
parent_fds procs pid q fds is h = subst (λ (o : Option Process). IfSome o (λ p. fds ≡ p.fds)) is h

pub forked_sound : (t : Table) (d : DescTable) (p : PipeTable) (t' : Table) (d' : DescTable) (parent : ℕ) (q : Process) (cpu : Cpu) (brk : Brk) (fds : List (Option FdEntry))
    → process t.procs parent ≡ Some q → leb 64 (length t.procs) ≡ false → fds ≡ q.fds → t' ≡ spawned parent cpu brk fds t → d'.descs ≡ d.descs
    → ((n : ℕ) → slice_index d'.refs n ≡ slice_index d.refs n + slots_with (refers n) fds) → Sound t d p → Sound t' d' p
forked_sound t d p t' d' parent q cpu brk fds is room same table descs more s =
    let c = s.counted in
    let child : Process = new_process (t.last + 1) parent cpu brk q.fds in
    let f = process_fits d.descs t.procs parent q c.procs is in
    let is_t : t' ≡ spawned parent cpu brk q.fds t = table ∙ ap (λ (fds : List (Option FdEntry)). spawned parent cpu brk fds t) same in
    let is_d : d' ≡ record { descs = d.descs; refs = d'.refs } = λ i. record { descs = descs i; refs = d'.refs } in
    let lt = leb-false 64 (length t.procs) room in
    subst (λ (t'' : Table). Sound t'' d' p) (sym is_t) (subst (λ (d'' : DescTable). Sound (spawned parent cpu brk q.fds t) d'' p) (sym is_d) (record {
      counted = record {
        pids = pids_more 0 t.last (t.last + 1) t.procs child c.pids (omega arith) (omega arith) refl;
        few = let long = length_more t.procs child in omega (arith, long, lt);
        procs = procs_more d.descs t.procs child c.procs (record { slots = f.slots; entries = f.entries; zombie = λ dead. cc dead });
        refs = λ n.
            let old = c.refs n in
            let new = more n in
            let all = references-append n t.procs child in
            let own = ap (slots_with (refers n)) same in
            omega (arith, old, new, all, own);
        reading = c.reading;
        writing = c.writing;
        there = c.there;
      };
      ended = s.ended;
    }))
  where
    length_more : (procs : List Process) (p : Process) → length (procs ++ p ∷ []) ≡ length procs + 1
    length_more [] p = refl
    length_more (x ∷ procs) p = let rest = length_more procs p in omega (arith, rest)

pub forked_is : (t : Table) (d : DescTable) (p : PipeTable) (t' : Table) (d' : DescTable) (input : List ℕ) (exits : List Exit) (parent : ℕ) (q : Process) (cpu : Cpu) (brk : Brk) (fds : List (Option FdEntry))
    → process t.procs parent ≡ Some q → brk ≡ q.brk → fds ≡ q.fds → t' ≡ spawned parent cpu brk fds t → d'.descs ≡ d.descs
    → managed_after (Forks parent (t.last + 1) cpu) (managed_of t d p input exits) ≡ managed_of t' d' p input exits
forked_is t d p t' d' input exits parent q cpu brk fds is at same table descs =
    let k : Kernel = with_managed (managed_of t d p input exits) (unbooted []) in
    let pid : q.pid ≡ parent = eqb-true q.pid parent (found_pid t.procs parent q is) in
    ap (λ (o : Option Process). managed_in (forked o (t.last + 1) cpu k)) is
    ∙ (λ i. managed_of (spawned (pid i) cpu (sym at i) (sym same i) t) d p input exits)
    ∙ (λ i. managed_of (sym table i) (record d { descs = sym descs i }) p input exits)
