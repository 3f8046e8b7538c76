-- A process after one of its descriptors was closed.
use Rattle.std.proofs.Common.{◌≡◌, ℕ, zero, suc, refl, sym, ◌∙◌, ap, List, [], ◌∷◌, slice_set, Option, Some, None, option_map}
use Rattle.kernel_objects.specs.declared.descriptor.FdEntry.{FdEntry}
use Rattle.kernel_objects.specs.Slots.{slot, picks}
use Rattle.linux_model.specs.State.{Process, unbooted}
use Rattle.linux_model.specs.Processes.{process, fds_of, is_live}
use Rattle.linux_model.specs.Effects.{Closes, at_fd}
use Rattle.linux_model.specs.Managed.{Managed, managed_after, with_managed}
use Rattle.linux_model.proofs.fits.Found.{closed_procs, process_at}
use Rattle.linux_model.proofs.fits.Slots.{slot_other}
use Rattle.manager.proofs.Open.{found_open}

pub after_closed : (man : Managed) (pid fd : ℕ) (p : Process) → process man.procs pid ≡ Some p → process (managed_after (Closes pid fd) man).procs pid ≡ Some (at_fd fd None p)
after_closed man pid fd p there =
    ap (λ (procs : List Process). process procs pid) (closed_procs pid fd (with_managed man (unbooted [])))
    ∙ process_at (at_fd fd None) (λ q. refl) man.procs pid p there

-- the same where a descriptor of it was open
pub after_open_closed : (man : Managed) (pid fd : ℕ) (e : FdEntry) → slot (fds_of (process man.procs pid)) fd ≡ Some e → process (managed_after (Closes pid fd) man).procs pid ≡ option_map (at_fd fd None) (process man.procs pid)
after_open_closed man pid fd e is =
    let q = found_open man.procs pid fd e is in
    after_closed man pid fd q.p q.is ∙ ap (option_map (at_fd fd None)) (sym q.is)

-- a free slot that is freed
free_stays : (fds : List (Option FdEntry)) (fd : ℕ) → slot fds fd ≡ None → slice_set fds fd None ≡ fds
free_stays [] fd is = refl
free_stays (x ∷ fds) zero is = ap (λ (y : Option FdEntry). y ∷ fds) (sym is)
free_stays (x ∷ fds) (suc fd) is = ap (λ (l : List (Option FdEntry)). x ∷ l) (free_stays fds fd is)

-- a process whose descriptor is free
pub free_is_free : (o : Option Process) (fd : ℕ) → slot (fds_of o) fd ≡ None → o ≡ option_map (at_fd fd None) o
free_is_free None fd is = refl
free_is_free (Some p) fd is = ap (λ (fds : List (Option FdEntry)). Some (record p { fds = fds })) (sym (free_stays p.fds fd is))

set_there : (fds : List (Option FdEntry)) (fd : ℕ) → slot (slice_set fds fd None) fd ≡ None
set_there [] fd = refl
set_there (x ∷ fds) zero = refl
set_there (x ∷ fds) (suc fd) = set_there fds fd

-- it is free then, and another one is as before
pub freed_slot : (o o' : Option Process) (fd : ℕ) → o' ≡ option_map (at_fd fd None) o → slot (fds_of o') fd ≡ None
freed_slot None o' fd is = ap (λ (q : Option Process). slot (fds_of q) fd) is
freed_slot (Some p) o' fd is = ap (λ (q : Option Process). slot (fds_of q) fd) is ∙ set_there p.fds fd

pub other_slot : (o o' : Option Process) (fd other : ℕ) → (fd ≡ other → ⊥) → o' ≡ option_map (at_fd fd None) o → slot (fds_of o') other ≡ slot (fds_of o) other
other_slot None o' fd other ne is = ap (λ (q : Option Process). slot (fds_of q) other) is
other_slot (Some p) o' fd other ne is = ap (λ (q : Option Process). slot (fds_of q) other) is ∙ slot_other p.fds fd other None ne

-- and it lives as before
pub alive_closed : (o o' : Option Process) (fd : ℕ) → o' ≡ option_map (at_fd fd None) o → picks (λ p. is_live p.state) o' ≡ picks (λ p. is_live p.state) o
alive_closed None o' fd is = ap (picks (λ p. is_live p.state)) is
alive_closed (Some p) o' fd is = ap (picks (λ p. is_live p.state)) is
