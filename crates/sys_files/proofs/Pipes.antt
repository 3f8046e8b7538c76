-- pipe2(2) in the manager's words.
use Rattle.std.proofs.Common.{◌≡◌, ℕ, ◌+◌, ◌-◌, ◌==◌, not, Bool, true, false, cond, ltb, refl, sym, ◌∙◌, ap, List, [], ◌∷◌, ◌++◌, length, Option, Some, None, Result, Ok, Err}
use Rattle.lego_base.specs.Space.{permits, bytes_of}
use Rattle.kernel_objects.specs.declared.descriptor.FdEntry.{FdEntry}
use Rattle.kernel_objects.specs.Slots.{lowest_free, held as slots_held}
use Rattle.linux_model.specs.State.{Kernel, Process}
use Rattle.linux_model.specs.Processes.{fds_of, process}
use Rattle.linux_model.specs.Limits.{EFAULT, EINVAL, EMFILE, ENFILE, O_CLOEXEC, DESCRIPTIONS, is_cloexec_alone}
use Rattle.linux_model.specs.Effects.{AsksSpan, CopyOut, Writes}
use Rattle.linux_model.specs.Called.{Called, Gives, says, following, first, given}
use Rattle.linux_model.specs.Buffers.{one_piece, to_write, where_good}
use Rattle.linux_model.specs.Descriptors.{pipe2_row}
use Rattle.linux_model.specs.Held.{Held}
use Rattle.linux_model.specs.Managed.{Managed}
use Rattle.call_machine.specs.Lent.{kernel_of}
use Rattle.call_parts.proofs.OnePiece.{one_good}
use Rattle.manager.specs.declared.fault.FdFault.{FdFault}
use Rattle.manager.specs.declared.fault.FdFault.TheVariants.{Emfile, Enfile, NoMemory}
use Rattle.manager.specs.Words.{second_of, two_of, limit_of, fds_for_two, pipe_effects}

-- what comes of the two lowest free descriptors
abbrev pub of_two : Result (ℕ × ℕ) FdFault → (ℕ → ℕ → Called) → Called
of_two (Ok fds) f = f fds.0 fds.1
of_two (Err Emfile) f = says EMFILE
of_two (Err Enfile) f = says ENFILE
of_two (Err NoMemory) f = says 0

left_for_two : (b : Bool) (reading writing : ℕ) (f : ℕ → ℕ → Called) → first ((b, ENFILE) ∷ []) (f reading writing) ≡ of_two (cond b (Err Enfile) (Ok (reading, writing))) f
left_for_two true reading writing f = refl
left_for_two false reading writing f = refl

second_given : (reading left : ℕ) (writing : Option ℕ) (f : ℕ → ℕ → Called) → given writing EMFILE (λ writing. first ((ltb left 2, ENFILE) ∷ []) (f reading writing)) ≡ of_two (second_of reading writing left) f
second_given reading left None f = refl
second_given reading left (Some writing) f = left_for_two (ltb left 2) reading writing f

pub two_given : (reading : Option ℕ) (next : ℕ → Option ℕ) (left : ℕ) (f : ℕ → ℕ → Called)
    → given reading EMFILE (λ reading. given (next (reading + 1)) EMFILE (λ writing. first ((ltb left 2, ENFILE) ∷ []) (f reading writing))) ≡ of_two (two_of reading next left) f
two_given None next left f = refl
two_given (Some reading) next left f = second_given reading left (next (reading + 1)) f

-- the limit tells which it was
pub limit_is : (r : Result (ℕ × ℕ) FdFault) (fault : FdFault) (f : ℕ → ℕ → Called) → limit_of r ≡ Some fault → of_two r f ≡ of_two (Err fault) f
limit_is (Ok fds) fault f is = cc is
limit_is (Err Emfile) Emfile f is = refl
limit_is (Err Emfile) Enfile f is = cc is
limit_is (Err Emfile) NoMemory f is = cc is
limit_is (Err Enfile) Emfile f is = cc is
limit_is (Err Enfile) Enfile f is = refl
limit_is (Err Enfile) NoMemory f is = cc is
limit_is (Err NoMemory) fault f is = cc is

-- the pipe, and the copy of its descriptors' numbers
abbrev pub pipe_made : ℕ → Managed → ℕ → Bool → ℕ → ℕ → Called
pipe_made pid man address cloexec reading writing =
    Gives (pipe_effects pid (reading, writing) cloexec man ++ Writes CopyOut pid address (bytes_of 4 reading ++ bytes_of 4 writing) ∷ []) 0

-- what comes of the check of the buffer, and of the free descriptors
abbrev pub checked : ℕ → Managed → ℕ → Bool → Bool → Result (ℕ × ℕ) FdFault → Called
checked pid man address cloexec good fds =
    following (AsksSpan pid address 8 ∷ []) (first ((not good, EFAULT) ∷ []) (of_two fds (pipe_made pid man address cloexec)))

-- a limit
pub limited : (pid : ℕ) (man : Managed) (address : ℕ) (cloexec : Bool) (fds : Result (ℕ × ℕ) FdFault) (fault : FdFault) → limit_of fds ≡ Some fault
    → checked pid man address cloexec true fds ≡ checked pid man address cloexec true (Err fault)
limited pid man address cloexec fds fault is = ap (λ c. following (AsksSpan pid address 8 ∷ []) c) (limit_is fds fault (pipe_made pid man address cloexec) is)

-- the row of a process, by what the manager knows of it
pub pipe_row : (man : Managed) (held : Held) (k : Kernel) (pid : ℕ) (p : Process) (address flags : ℕ) → process man.procs pid ≡ Some p → p.pid ≡ pid → is_cloexec_alone flags ≡ true
    → pipe2_row p (kernel_of man held k) address flags
    ≡ checked pid man address (flags == O_CLOEXEC) (permits (held.space pid) 2 address 8) (fds_for_two pid man)
pipe_row man held k pid p address flags there own good =
    let K = kernel_of man held k in
    let F : ℕ → ℕ → ℕ → Called = λ n. pipe_made n man address (flags == O_CLOEXEC) in
    let found : ℕ → List (Option FdEntry) → Called = λ n fds.
    given (lowest_free fds 0) EMFILE (λ reading. given (lowest_free fds (reading + 1)) EMFILE (λ writing. first ((ltb (DESCRIPTIONS - length (slots_held man.descs)) 2, ENFILE) ∷ []) (F n reading writing))) in
    ap (λ b. first ((not b, EINVAL) ∷ []) (where_good p K to_write (one_piece address 8) (found p.pid p.fds))) good
    ∙ one_good p K to_write address 8 (found p.pid p.fds)
    ∙ ap (λ n. following (AsksSpan n address 8 ∷ []) (first ((not (permits (held.space n) 2 address 8), EFAULT) ∷ []) (found n p.fds))) own
    ∙ ap (λ (o : Option Process). following (AsksSpan pid address 8 ∷ []) (first ((not (permits (held.space pid) 2 address 8), EFAULT) ∷ []) (found pid (fds_of o)))) (sym there)
    ∙ ap (λ c. following (AsksSpan pid address 8 ∷ []) (first ((not (permits (held.space pid) 2 address 8), EFAULT) ∷ []) c))
    (two_given (lowest_free (fds_of (process man.procs pid)) 0) (lowest_free (fds_of (process man.procs pid))) (DESCRIPTIONS - length (slots_held man.descs)) (F pid))
