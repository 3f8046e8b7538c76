-- What a descriptor of a process refers to.
use Rattle.std.proofs.Common.{◌≡◌, ℕ, true, false, refl, sym, ◌∙◌, ap, List, Option, Some, None, is_some}
use Rattle.kernel_objects.specs.declared.descriptor.Description.{Description}
use Rattle.kernel_objects.specs.declared.descriptor.FdEntry.{FdEntry}
use Rattle.std.specs.Prelude.{not, option_map}
use Rattle.kernel_objects.specs.Slots.{slot, picks, holds_some}
use Rattle.proc_table.specs.Entries.{proc_of, status_of}
use Rattle.proc_table.specs.declared.table.Proc.{Proc}
use Rattle.linux_model.specs.State.{Process, State, Live, Zombie}
use Rattle.linux_model.specs.Processes.{process, fds_of, is_live}
use Rattle.linux_model.specs.Fits.{ProcsFit}
use Rattle.linux_model.proofs.fits.Processes.{process_fits}
use Rattle.linux_model.proofs.fits.Found.{entry_fits}

-- a process that is there, with its descriptors
pub record Found (procs : List Process) (pid : ℕ) : Type 0 where
  pub p : Process
  pub is : process procs pid ≡ Some p

-- an open descriptor is one of a process that is there
pub found_open : (procs : List Process) (pid fd : ℕ) (e : FdEntry) → slot (fds_of (process procs pid)) fd ≡ Some e → Found procs pid
found_open procs pid fd e is = at (process procs pid) refl is
  where
    at : (o : Option Process) → process procs pid ≡ o → slot (fds_of o) fd ≡ Some e → Found procs pid
    at None q is = cc is
    at (Some p) q is = record { p = p; is = q }

pub found_alive : (procs : List Process) (pid : ℕ) → picks (λ p. is_live p.state) (process procs pid) ≡ true → Found procs pid
found_alive procs pid is = at (process procs pid) refl is
  where
    at : (o : Option Process) → process procs pid ≡ o → picks (λ p. is_live p.state) o ≡ true → Found procs pid
    at None q is = cc is
    at (Some p) q is = record { p = p; is = q }

-- its description is there
pub entry_there : (descs : List (Option Description)) (procs : List Process) (pid fd : ℕ) (e : FdEntry) → ProcsFit descs procs → slot (fds_of (process procs pid)) fd ≡ Some e → is_some (slot descs e.desc) ≡ true
entry_there descs procs pid fd e f is =
    let p = found_open procs pid fd e is in
    entry_fits descs p.p.fds fd e (process_fits descs procs pid p.p f p.is).entries (ap (λ (o : Option Process). slot (fds_of o) fd) (sym p.is) ∙ is)

-- ---- whether a process lives, by what is known of it

live_status : (s : State) → not (is_some (status_of s)) ≡ is_live s
live_status Live = refl
live_status (Zombie status) = refl

pub known_lives : (o : Option Process) (known : Proc) → Some known ≡ option_map proc_of o → not (is_some known.status) ≡ picks (λ p. is_live p.state) o
known_lives None known e = cc e
known_lives (Some p) known e = ap (λ (x : Option Proc). not (is_some (status_in x))) e ∙ live_status p.state
  where
    status_in : Option Proc → Option ℕ
    status_in None = None
    status_in (Some k) = k.status

pub absent_lives : (o : Option Process) → None ≡ option_map proc_of o → false ≡ picks (λ p. is_live p.state) o
absent_lives None e = refl
absent_lives (Some p) e = cc e

pub absent_none : (o : Option Process) → None ≡ option_map proc_of o → holds_some (λ e. true) (fds_of o) ≡ false
absent_none None e = refl
absent_none (Some p) e = cc e
