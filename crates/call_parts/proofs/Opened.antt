-- What a descriptor of a process that is there is open on.
use Rattle.std.proofs.Common.{◌≡◌, ℕ, zero, suc, sym, ◌∙◌, ap, subst, List, [], ◌∷◌, Option, Some, None, option_map, option_and_then}
use Rattle.lego_base.specs.Files.{File}
use Rattle.kernel_objects.specs.declared.descriptor.Description.{Description}
use Rattle.kernel_objects.specs.Slots.{slot}
use Rattle.linux_model.specs.State.{Kernel, Process, unbooted}
use Rattle.linux_model.specs.Processes.{fds_of, process}
use Rattle.linux_model.specs.Descriptors.{opened}
use Rattle.linux_model.specs.Fits.{ObjectFits, DescsFit}
use Rattle.linux_model.specs.Held.{Held, with_held}
use Rattle.linux_model.specs.Managed.{Managed, with_managed}
use Rattle.call_machine.specs.Lent.{FitTogether, kernel_of}
use Rattle.manager.specs.declared.manager.Opened.{Opened}
use Rattle.manager.specs.Words.{entry_of, open_of}

-- what the manager finds is what the process that is there has open
pub opened_by : (man : Managed) (held : Held) (k : Kernel) (pid fd : ℕ) (p : Process) (found : Option Opened) → process man.procs pid ≡ Some p
    → ((k : Kernel) → option_map open_of found ≡ option_and_then (λ p. opened p fd (with_managed man k)) (process man.procs pid))
    → opened p fd (kernel_of man held k) ≡ option_map open_of found
opened_by man held k pid fd p found there is = sym (is (with_held held k) ∙ ap (option_and_then (λ p. opened p fd (kernel_of man held k))) there)

-- and its entry
pub entry_by : (man : Managed) (pid fd : ℕ) (p : Process) (found : Option Opened) → process man.procs pid ≡ Some p → option_map entry_of found ≡ slot (fds_of (process man.procs pid)) fd → slot p.fds fd ≡ option_map entry_of found
entry_by man pid fd p found there is = sym (is ∙ ap (λ (o : Option Process). slot (fds_of o) fd) there)

abbrev unwrap_desc : Description → Option Description → Description
unwrap_desc d None = d
unwrap_desc d (Some x) = x

object_fits : (files : List File) (pipes : List (Option (List ℕ))) (descs : List (Option Description)) (n : ℕ) (d : Description) → DescsFit files pipes descs → slot descs n ≡ Some d → ObjectFits files pipes d.object
object_fits files pipes [] n d f is = cc is
object_fits files pipes (None ∷ descs) zero d f is = cc is
object_fits files pipes (Some x ∷ descs) zero d f is = subst (λ (y : Description). ObjectFits files pipes y.object) (ap (unwrap_desc x) is) f.0
object_fits files pipes (None ∷ descs) (suc n) d f is = object_fits files pipes descs n d f is
object_fits files pipes (Some x ∷ descs) (suc n) d f is = object_fits files pipes descs n d f.1 is

-- the file that a description is open on is there, and so is its pipe
pub object_there : (man : Managed) (held : Held) (n : ℕ) (d : Description) → FitTogether man held → slot man.descs n ≡ Some d → ObjectFits held.files man.pipes d.object
object_there man held n d fit is = object_fits held.files man.pipes man.descs n d (fit (unbooted [])).descs_fit is
