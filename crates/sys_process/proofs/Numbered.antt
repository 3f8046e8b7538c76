-- The row of a number.
use Rattle.std.proofs.Common.{◌≡◌, ℕ, ◌∙◌, ap}
use Rattle.rv64_step.specs.declared.cpu.Cpu.{Cpu}
use Rattle.rv64_step.specs.Meaning.{reg}
use Rattle.linux_model.specs.State.{Kernel, Process}
use Rattle.linux_model.specs.Called.{says}
use Rattle.linux_model.specs.Calls.{call_by, call_of, row}
use Rattle.linux_model.specs.ProcessCalls.{clone_row, execve_row, wait4_row}
use Rattle.call_parts.proofs.Numbered.{by_number, row_of_four, row_of_three, row_of_two}

-- by registers that are the process's
module _ (p : Process) (k : Kernel) (cpu : Cpu) (own : cpu ≡ p.cpu) (number : ℕ) (is : number ≡ reg cpu 17) where
  pub says_pid : (pid : ℕ) → p.pid ≡ pid → row (call_of number) p k ≡ says p.pid → row (call_by p) p k ≡ says pid
  says_pid pid same e = by_number p k cpu own number is number (λ i. number) ∙ e ∙ ap says same

  module _ (a b : ℕ) (first : a ≡ reg cpu 10) (second : b ≡ reg cpu 11) where
    pub clone_is : number ≡ 220 → row (call_by p) p k ≡ clone_row p k a b
    clone_is n = row_of_two p k cpu own number is 220 n (λ a b. clone_row p k a b) (λ i. row (call_of 220) p k) a b first second

    module _ (c : ℕ) (third : c ≡ reg cpu 12) where
      pub execve_is : number ≡ 221 → row (call_by p) p k ≡ execve_row p k a b c
      execve_is n = row_of_three p k cpu own number is 221 n (λ a b c. execve_row p k a b c) (λ i. row (call_of 221) p k) a b c first second third

      pub wait4_is : (d : ℕ) → d ≡ reg cpu 13 → number ≡ 260 → row (call_by p) p k ≡ wait4_row p k a b c d
      wait4_is d fourth n = row_of_four p k cpu own number is 260 n (λ a b c d. wait4_row p k a b c d) (λ i. row (call_of 260) p k) a b c d first second third fourth
