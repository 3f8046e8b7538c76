-- Processes still fit after an effect on them.
use Rattle.std.proofs.Common.{◌≡◌, ℕ, zero, suc, ◌≤◌, ◌<◌, Bool, true, false, cond, eqb, ◌==◌, ◌||◌, refl, sym, ◌∙◌, ap, subst, List, [], ◌∷◌, ◌++◌, map, filter, slice_set, Option, Some, None, is_some, arith}
use Rattle.std.proofs.lemmas.Bool.{eq-eqb}
use Rattle.kernel_objects.specs.declared.descriptor.Description.{Description}
use Rattle.kernel_objects.specs.declared.descriptor.FdEntry.{FdEntry}
use Rattle.kernel_objects.specs.Slots.{slot, picks, holds_some, freed}
use Rattle.rv64_step.specs.declared.cpu.Cpu.{Cpu}
use Rattle.linux_model.specs.State.{Process, Zombie}
use Rattle.linux_model.specs.Processes.{at_pid, process, is_live, is_referred, orphaned, heir, stays, after_death, child_of}
use Rattle.linux_model.specs.Effects.{at_fd}
use Rattle.linux_model.specs.Fits.{PidsRise, EntriesFit, ProcessFits, ProcsFit, LivesAt, NoneOpen}
use Rattle.linux_model.proofs.fits.Slots.{slot_other, length_set, parts_false}

-- ---- pids

one_pid : (b : Bool) (f : Process → Process) (p : Process) → (f p).pid ≡ p.pid → (cond b (f p) p).pid ≡ p.pid
one_pid true f p e = e
one_pid false f p e = refl

pub pids_at : (f : Process → Process) → ((p : Process) → (f p).pid ≡ p.pid) → (pid low last : ℕ) (procs : List Process) → PidsRise low last procs → PidsRise low last (at_pid pid f procs)
pids_at f same pid low last [] r = tt
pids_at f same pid low last (p ∷ procs) r =
    subst (λ (n : ℕ). (low < n) × (n ≤ last) × PidsRise n last (at_pid pid f procs)) (sym (one_pid (eqb p.pid pid) f p (same p)))
    (r.0, r.1, pids_at f same pid p.pid last procs r.2)

pids_map : (f : Process → Process) → ((p : Process) → (f p).pid ≡ p.pid) → (low last : ℕ) (procs : List Process) → PidsRise low last procs → PidsRise low last (map f procs)
pids_map f same low last [] r = tt
pids_map f same low last (p ∷ procs) r = subst (λ (n : ℕ). (low < n) × (n ≤ last) × PidsRise n last (map f procs)) (sym (same p)) (r.0, r.1, pids_map f same p.pid last procs r.2)

pids_lower : (low low' last : ℕ) (procs : List Process) → low' ≤ low → PidsRise low last procs → PidsRise low' last procs
pids_lower low low' last [] h r = tt
pids_lower low low' last (p ∷ procs) h r = let a : low < p.pid = r.0 in ((omega arith), r.1, r.2)

pids_choice : (b : Bool) (low last : ℕ) (procs procs' : List Process) → PidsRise low last procs → PidsRise low last procs' → PidsRise low last (cond b procs procs')
pids_choice true low last procs procs' r s = r
pids_choice false low last procs procs' r s = s

pub pids_filter : (test : Process → Bool) (low last : ℕ) (procs : List Process) → PidsRise low last procs → PidsRise low last (filter test procs)
pids_filter test low last [] r = tt
pids_filter test low last (p ∷ procs) r =
    let rest = pids_filter test p.pid last procs r.2 in
    let a : low < p.pid = r.0 in
    pids_choice (test p) low last (p ∷ filter test procs) (filter test procs) (r.0, r.1, rest) (pids_lower p.pid low last (filter test procs) (omega arith) rest)

pub pids_more : (low last new : ℕ) (procs : List Process) (p : Process) → PidsRise low last procs → low ≤ last → last < new → p.pid ≡ new → PidsRise low new (procs ++ p ∷ [])
pids_more low last new [] p r h more e = ((omega (arith, e)), (omega (arith, e)), tt)
pids_more low last new (q ∷ procs) p r h more e =
    let a : q.pid ≤ last = r.1 in
    (r.0, (omega arith), pids_more q.pid last new procs p r.2 (omega arith) more e)

-- ---- descriptors

pub entries_grow : (descs descs' : List (Option Description)) → ((n : ℕ) → is_some (slot descs n) ≡ true → is_some (slot descs' n) ≡ true) → (fds : List (Option FdEntry)) → EntriesFit descs fds → EntriesFit descs' fds
entries_grow descs descs' grow [] f = tt
entries_grow descs descs' grow (None ∷ fds) f = entries_grow descs descs' grow fds f
entries_grow descs descs' grow (Some e ∷ fds) f = (grow e.desc f.0, entries_grow descs descs' grow fds f.1)

entries_set : (descs : List (Option Description)) (fds : List (Option FdEntry)) (fd : ℕ) (e : FdEntry) → is_some (slot descs e.desc) ≡ true → EntriesFit descs fds → EntriesFit descs (slice_set fds fd (Some e))
entries_set descs [] fd e there f = f
entries_set descs (None ∷ fds) zero e there f = (there, f)
entries_set descs (Some x ∷ fds) zero e there f = (there, f.1)
entries_set descs (None ∷ fds) (suc fd) e there f = entries_set descs fds fd e there f
entries_set descs (Some x ∷ fds) (suc fd) e there f = (f.0, entries_set descs fds fd e there f.1)

entries_free : (descs : List (Option Description)) (fds : List (Option FdEntry)) (fd : ℕ) → EntriesFit descs fds → EntriesFit descs (slice_set fds fd None)
entries_free descs [] fd f = f
entries_free descs (None ∷ fds) zero f = f
entries_free descs (Some x ∷ fds) zero f = f.1
entries_free descs (None ∷ fds) (suc fd) f = entries_free descs fds fd f
entries_free descs (Some x ∷ fds) (suc fd) f = (f.0, entries_free descs fds fd f.1)

pub still_none : (fds : List (Option FdEntry)) (fd : ℕ) → holds_some (λ e. true) fds ≡ false → holds_some (λ e. true) (slice_set fds fd None) ≡ false
still_none [] fd none = none
still_none (x ∷ fds) zero none = (parts_false (picks (λ e. true) x) (holds_some (λ e. true) fds) none).1
still_none (x ∷ fds) (suc fd) none =
    let parts = parts_false (picks (λ e. true) x) (holds_some (λ e. true) fds) none in
    ap (λ (b : Bool). b || holds_some (λ e. true) (slice_set fds fd None)) parts.0 ∙ still_none fds fd parts.1

apart : (a b : ℕ) → eqb a b ≡ false → b ≡ a → ⊥
apart a b e same = let is : eqb a b ≡ true = eq-eqb a b (sym same) in cc (is, e)

entries_without : (descs : List (Option Description)) (desc : ℕ) (fds : List (Option FdEntry)) → holds_some (λ e. e.desc == desc) fds ≡ false → EntriesFit descs fds → EntriesFit (freed descs desc) fds
entries_without descs desc [] none f = tt
entries_without descs desc (None ∷ fds) none f = entries_without descs desc fds none f
entries_without descs desc (Some e ∷ fds) none f =
    let parts = parts_false (eqb e.desc desc) (holds_some (λ e. e.desc == desc) fds) none in
    (ap (λ (d : Option Description). is_some d) (slot_other descs desc e.desc None (apart e.desc desc parts.0)) ∙ f.0, entries_without descs desc fds parts.1 f.1)

-- ---- processes

abbrev Grow : List (Option Description) → List (Option Description) → Type 0
Grow descs descs' = (n : ℕ) → is_some (slot descs n) ≡ true → is_some (slot descs' n) ≡ true

pub process_grows : (descs descs' : List (Option Description)) → Grow descs descs' → (p : Process) → ProcessFits descs p → ProcessFits descs' p
process_grows descs descs' grow p f = record { slots = f.slots; entries = entries_grow descs descs' grow p.fds f.entries; zombie = f.zombie }

pub procs_grow : (descs descs' : List (Option Description)) → Grow descs descs' → (procs : List Process) → ProcsFit descs procs → ProcsFit descs' procs
procs_grow descs descs' grow [] f = tt
procs_grow descs descs' grow (p ∷ procs) f = (process_grows descs descs' grow p f.0, procs_grow descs descs' grow procs f.1)

one_fits : (b : Bool) (descs : List (Option Description)) (p q : Process) → ProcessFits descs q → ProcessFits descs p → ProcessFits descs (cond b q p)
one_fits true descs p q f g = f
one_fits false descs p q f g = g

pub procs_each : (descs : List (Option Description)) (f : Process → Process) → ((p : Process) → ProcessFits descs p → ProcessFits descs (f p)) → (pid : ℕ) (procs : List Process) → ProcsFit descs procs → ProcsFit descs (at_pid pid f procs)
procs_each descs f keeps pid [] g = tt
procs_each descs f keeps pid (p ∷ procs) g = (one_fits (eqb p.pid pid) descs p (f p) (keeps p g.0) g.0, procs_each descs f keeps pid procs g.1)

pub closes_fits : (descs : List (Option Description)) (fd : ℕ) (p : Process) → ProcessFits descs p → ProcessFits descs (at_fd fd None p)
closes_fits descs fd p f = record {
  slots = length_set p.fds fd None ∙ f.slots;
  entries = entries_free descs p.fds fd f.entries;
  zombie = λ dead. still_none p.fds fd (f.zombie dead);
}

opens_at : (b : Bool) (descs : List (Option Description)) (fd : ℕ) (e : FdEntry) (p : Process) → (b ≡ true → is_live p.state ≡ true) → is_some (slot descs e.desc) ≡ true → ProcessFits descs p → ProcessFits descs (cond b (at_fd fd (Some e) p) p)
opens_at true descs fd e p lives there f = record {
  slots = length_set p.fds fd (Some e) ∙ f.slots;
  entries = entries_set descs p.fds fd e there f.entries;
  zombie = λ dead. let live : is_live p.state ≡ true = lives refl in cc (live, dead);
}
opens_at false descs fd e p lives there f = f

pub procs_open : (descs : List (Option Description)) (pid fd : ℕ) (e : FdEntry) (procs : List Process) → LivesAt pid procs → is_some (slot descs e.desc) ≡ true → ProcsFit descs procs → ProcsFit descs (at_pid pid (at_fd fd (Some e)) procs)
procs_open descs pid fd e [] lives there f = tt
procs_open descs pid fd e (p ∷ procs) lives there f = (opens_at (eqb p.pid pid) descs fd e p lives.0 there f.0, procs_open descs pid fd e procs lives.1 there f.1)

-- a description that no descriptor refers to goes
pub procs_without : (descs : List (Option Description)) (desc : ℕ) (procs : List Process) → is_referred desc procs ≡ false → ProcsFit descs procs → ProcsFit (freed descs desc) procs
procs_without descs desc [] none f = tt
procs_without descs desc (p ∷ procs) none f =
    let parts = parts_false (holds_some (λ e. e.desc == desc) p.fds) (is_referred desc procs) none in
    (record { slots = f.0.slots; entries = entries_without descs desc p.fds parts.0 f.0.entries; zombie = f.0.zombie }, procs_without descs desc procs parts.1 f.1)

-- ---- life and death

procs_choice : (b : Bool) (descs : List (Option Description)) (procs procs' : List Process) → ProcsFit descs procs → ProcsFit descs procs' → ProcsFit descs (cond b procs procs')
procs_choice true descs procs procs' f g = f
procs_choice false descs procs procs' f g = g

pub procs_filter : (descs : List (Option Description)) (test : Process → Bool) (procs : List Process) → ProcsFit descs procs → ProcsFit descs (filter test procs)
procs_filter descs test [] f = tt
procs_filter descs test (p ∷ procs) f =
    procs_choice (test p) descs (p ∷ filter test procs) (filter test procs) (f.0, procs_filter descs test procs f.1) (procs_filter descs test procs f.1)

orphan_fits : (b : Bool) (descs : List (Option Description)) (heir : ℕ) (p : Process) → ProcessFits descs p → ProcessFits descs (cond b (record p { parent = heir }) p)
orphan_fits true descs heir p f = record { slots = f.slots; entries = f.entries; zombie = f.zombie }
orphan_fits false descs heir p f = f

procs_orphaned : (descs : List (Option Description)) (dead heir : ℕ) (procs : List Process) → ProcsFit descs procs → ProcsFit descs (map (orphaned dead heir) procs)
procs_orphaned descs dead heir [] f = tt
procs_orphaned descs dead heir (p ∷ procs) f = (orphan_fits (eqb p.parent dead) descs heir p f.0, procs_orphaned descs dead heir procs f.1)

abbrev dead_process : ℕ → Process → Process
dead_process status p = record p { state = Zombie status; waiting = None }

dies_at : (b : Bool) (descs : List (Option Description)) (status : ℕ) (p : Process) → (b ≡ true → holds_some (λ e. true) p.fds ≡ false) → ProcessFits descs p → ProcessFits descs (cond b (dead_process status p) p)
dies_at true descs status p none f = record { slots = f.slots; entries = f.entries; zombie = λ dead. none refl }
dies_at false descs status p none f = f

procs_dead : (descs : List (Option Description)) (pid status : ℕ) (procs : List Process) → NoneOpen pid procs → ProcsFit descs procs → ProcsFit descs (at_pid pid (dead_process status) procs)
procs_dead descs pid status [] none f = tt
procs_dead descs pid status (p ∷ procs) none f = (dies_at (eqb p.pid pid) descs status p none.0 f.0, procs_dead descs pid status procs none.1 f.1)

orphan_pid : (b : Bool) (heir : ℕ) (p : Process) → (cond b (record p { parent = heir }) p).pid ≡ p.pid
orphan_pid true heir p = refl
orphan_pid false heir p = refl

pub death_rises : (dead status last : ℕ) (procs : List Process) → PidsRise 0 last procs → PidsRise 0 last (after_death dead status procs)
death_rises dead status last procs r =
    pids_filter stays 0 last (map (orphaned dead (heir dead procs)) (at_pid dead (dead_process status) procs))
    (pids_map (orphaned dead (heir dead procs)) (λ p. orphan_pid (eqb p.parent dead) (heir dead procs) p) 0 last (at_pid dead (dead_process status) procs)
    (pids_at (dead_process status) (λ p. refl) dead 0 last procs r))

pub death_fits : (descs : List (Option Description)) (dead status : ℕ) (procs : List Process) → NoneOpen dead procs → ProcsFit descs procs → ProcsFit descs (after_death dead status procs)
death_fits descs dead status procs none f =
    procs_filter descs stays (map (orphaned dead (heir dead procs)) (at_pid dead (dead_process status) procs))
    (procs_orphaned descs dead (heir dead procs) (at_pid dead (dead_process status) procs) (procs_dead descs dead status procs none f))

pub procs_more : (descs : List (Option Description)) (procs : List Process) (p : Process) → ProcsFit descs procs → ProcessFits descs p → ProcsFit descs (procs ++ p ∷ [])
procs_more descs [] p f g = (g, tt)
procs_more descs (q ∷ procs) p f g = (f.0, procs_more descs procs p f.1 g)

found_at : (b : Bool) (descs : List (Option Description)) (q p : Process) (rest : Option Process) → ProcessFits descs q → (rest ≡ Some p → ProcessFits descs p) → cond b (Some q) rest ≡ Some p → ProcessFits descs p
found_at true descs q p rest f more e = subst (ProcessFits descs) (inside e) f
  where
    inside : Some q ≡ Some p → q ≡ p
    inside e = ap (λ (o : Option Process). unwrap o) e
      where
        unwrap : Option Process → Process
        unwrap None = q
        unwrap (Some x) = x
found_at false descs q p rest f more e = more e

pub process_fits : (descs : List (Option Description)) (procs : List Process) (pid : ℕ) (p : Process) → ProcsFit descs procs → process procs pid ≡ Some p → ProcessFits descs p
process_fits descs [] pid p f e = cc e
process_fits descs (q ∷ procs) pid p f e = found_at (eqb q.pid pid) descs q p (process procs pid) f.0 (process_fits descs procs pid p f.1) e

pub child_fits : (descs : List (Option Description)) (p : Process) (child : ℕ) (cpu : Cpu) → ProcessFits descs p → ProcessFits descs (child_of p child cpu)
child_fits descs p child cpu f = record { slots = f.slots; entries = f.entries; zombie = λ dead. cc dead }
