-- The row of a number.
use Rattle.std.proofs.Common.{◌≡◌, ℕ, sym, ◌∙◌, ap}
use Rattle.rv64_step.specs.Meaning.{reg}
use Rattle.linux_model.specs.State.{Kernel, Process}
use Rattle.linux_model.specs.Calls.{call_by, call_of, row}
use Rattle.linux_model.specs.SpaceCalls.{brk_row, mmap_row, mprotect_row, munmap_row}

module _ (p : Process) (k : Kernel) (number a b c d : ℕ) (is : number ≡ reg p.cpu 17) (first : a ≡ reg p.cpu 10) where
  pub brk_is : number ≡ 214 → row (call_by p) p k ≡ brk_row p k a
  brk_is n = ap (λ (m : ℕ). row (call_of m) p k) (sym is ∙ n) ∙ (λ i. brk_row p k (sym first i))

  pub munmap_is : b ≡ reg p.cpu 11 → number ≡ 215 → row (call_by p) p k ≡ munmap_row p k a b
  munmap_is second n = ap (λ (m : ℕ). row (call_of m) p k) (sym is ∙ n) ∙ (λ i. munmap_row p k (sym first i) (sym second i))

  pub mmap_is : b ≡ reg p.cpu 11 → c ≡ reg p.cpu 12 → d ≡ reg p.cpu 13 → number ≡ 222 → row (call_by p) p k ≡ mmap_row p k a b c d
  mmap_is second third fourth n = ap (λ (m : ℕ). row (call_of m) p k) (sym is ∙ n) ∙ (λ i. mmap_row p k (sym first i) (sym second i) (sym third i) (sym fourth i))

  pub mprotect_is : b ≡ reg p.cpu 11 → c ≡ reg p.cpu 12 → number ≡ 226 → row (call_by p) p k ≡ mprotect_row p k a b c
  mprotect_is second third n = ap (λ (m : ℕ). row (call_of m) p k) (sym is ∙ n) ∙ (λ i. mprotect_row p k (sym first i) (sym second i) (sym third i))
