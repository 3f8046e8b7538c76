-- The row of a number, for the process that calls with its registers.
use Rattle.std.proofs.Common.{◌≡◌, ℕ, Bool, true, sym, ◌∙◌, ap, List, IfSome, ◌+◌, Some}
use Rattle.rv64_step.specs.declared.cpu.Cpu.{Cpu}
use Rattle.rv64_step.specs.Meaning.{reg}
use Rattle.linux_model.specs.State.{Kernel, Process}
use Rattle.linux_model.specs.Processes.{process}
use Rattle.linux_model.specs.Effects.{Effect}
use Rattle.linux_model.specs.Called.{Called}
use Rattle.linux_model.specs.Calls.{call_by, call_of, row}
use Rattle.linux_model.specs.Descriptors.{arg}
use Rattle.linux_model.specs.Held.{Held, with_held}
use Rattle.linux_model.specs.Managed.{Managed}
use Rattle.call_machine.specs.declared.end.CallEnd.{CallEnd}
use Rattle.call_machine.specs.declared.end.CallEnd.TheVariants.{Value}
use Rattle.call_machine.specs.Laws.{effects_of}
use Rattle.call_machine.specs.Lawful.{Lawful}
use Rattle.call_machine.specs.Lent.{AnswersAlone, Manages, Ran, ended, kernel_of}
use Rattle.call_machine.proofs.Rows.{each_process, of_process, ran_alone, ran_as, stops_as, stops_at_once}

-- by registers that are the process's, and the number among them
module _ (p : Process) (k : Kernel) (cpu : Cpu) (own : cpu ≡ p.cpu) (number : ℕ) (is : number ≡ reg cpu 17) (m : ℕ) (same : number ≡ m) where
  pub by_number : row (call_by p) p k ≡ row (call_of m) p k
  by_number = ap (λ (q : ℕ). row (call_of q) p k) (sym (is ∙ ap (λ (c : Cpu). reg c 17) own) ∙ same)

  arg_is : (n a : ℕ) → a ≡ reg cpu (10 + n) → arg p n ≡ a
  arg_is n a e = sym (e ∙ ap (λ (c : Cpu). reg c (10 + n)) own)

  -- a call of one to four arguments
  pub row_of_one : (f : ℕ → Called) → row (call_of m) p k ≡ f (arg p 0) → (a : ℕ) → a ≡ reg cpu 10 → row (call_by p) p k ≡ f a
  row_of_one f e a a_is = by_number ∙ e ∙ ap f (arg_is 0 a a_is)

  pub row_of_two : (f : ℕ → ℕ → Called) → row (call_of m) p k ≡ f (arg p 0) (arg p 1) → (a b : ℕ) → a ≡ reg cpu 10 → b ≡ reg cpu 11 → row (call_by p) p k ≡ f a b
  row_of_two f e a b a_is b_is = by_number ∙ e ∙ λ i. f (arg_is 0 a a_is i) (arg_is 1 b b_is i)

  pub row_of_three : (f : ℕ → ℕ → ℕ → Called) → row (call_of m) p k ≡ f (arg p 0) (arg p 1) (arg p 2) → (a b c : ℕ) → a ≡ reg cpu 10 → b ≡ reg cpu 11 → c ≡ reg cpu 12 → row (call_by p) p k ≡ f a b c
  row_of_three f e a b c a_is b_is c_is = by_number ∙ e ∙ λ i. f (arg_is 0 a a_is i) (arg_is 1 b b_is i) (arg_is 2 c c_is i)

  pub row_of_four : (f : ℕ → ℕ → ℕ → ℕ → Called) → row (call_of m) p k ≡ f (arg p 0) (arg p 1) (arg p 2) (arg p 3) → (a b c d : ℕ) → a ≡ reg cpu 10 → b ≡ reg cpu 11 → c ≡ reg cpu 12 → d ≡ reg cpu 13 → row (call_by p) p k ≡ f a b c d
  row_of_four f e a b c d a_is b_is c_is d_is = by_number ∙ e ∙ λ i. f (arg_is 0 a a_is i) (arg_is 1 b b_is i) (arg_is 2 c c_is i) (arg_is 3 d d_is i)

-- a call ends, and stops, as the row of its number, where it does so as its own row
module _ {X : Type 0} (held : X → Held) (does stops : X → X → List Effect → Type 0) (laws : Lawful held does stops) (old new : X) (man : Managed) (pid : ℕ) (cpu : Cpu) (own : IfSome (process man.procs pid) (λ p. cpu ≡ p.cpu)) (k : Kernel) (f : Process → Kernel → Called) (same : (p : Process) → cpu ≡ p.cpu → row (call_by p) p (kernel_of man (held old) k) ≡ f p (kernel_of man (held old) k)) where
  of_own : (p : Process) → process man.procs pid ≡ Some p → row (call_by p) p (kernel_of man (held old) k) ≡ f p (kernel_of man (held old) k)
  of_own p there = same p (of_process man pid (λ q. cpu ≡ q.cpu) p there own)

  pub numbered_ends : (man' : Managed) (end : CallEnd) → IfSome (process man.procs pid) (λ p. Ran does old new man man' (f p (kernel_of man (held old) k)) (ended end)) → IfSome (process man.procs pid) (λ p. Ran does old new man man' (row (call_by p) p (kernel_of man (held old) k)) (ended end))
  numbered_ends man' end h =
      each_process man pid (λ p. Ran does old new man man' (row (call_by p) p (kernel_of man (held old) k)) (ended end))
      (λ p is there. ran_as does old new man man' (row (call_by p) p (kernel_of man (held old) k)) (f p (kernel_of man (held old) k)) (ended end) (of_own p there)
      (of_process man pid (λ q. Ran does old new man man' (f q (kernel_of man (held old) k)) (ended end)) p there h))

  pub numbered_stops : (is_mine : ℕ → Bool) → IfSome (process man.procs pid) (λ p. stops old new (effects_of (f p (kernel_of man (held old) k)))) → IfSome (process man.procs pid) (λ p. is_mine (reg p.cpu 17) ≡ true → stops old new (effects_of (row (call_by p) p (kernel_of man (held old) k))))
  numbered_stops is_mine h =
      each_process man pid (λ p. is_mine (reg p.cpu 17) ≡ true → stops old new (effects_of (row (call_by p) p (kernel_of man (held old) k))))
      (λ p is there mine. stops_as held does stops laws old new (row (call_by p) p (kernel_of man (held old) k)) (f p (kernel_of man (held old) k)) (of_own p there)
      (of_process man pid (λ q. stops old new (effects_of (f q (kernel_of man (held old) k)))) p there h))

-- a call that is lent the manager alone
module _ {X : Type 0} (held : X → Held) (does stops : X → X → List Effect → Type 0) (laws : Lawful held does stops) (old : X) (man : Managed) where
  pub alone_ends : (man' : Managed) (pid : ℕ) (f : Process → Kernel → Called) (value : ℕ) → AnswersAlone man man' pid f value → (k : Kernel) → IfSome (process man.procs pid) (λ p. Ran does old old man man' (f p (kernel_of man (held old) k)) (ended (Value value)))
  alone_ends man' pid f value h k =
      each_process man pid (λ p. Ran does old old man man' (f p (kernel_of man (held old) k)) (ended (Value value)))
      (λ p is there. ran_alone held does stops laws old man man' (f p (kernel_of man (held old) k)) value
      (of_process man pid (λ q. Manages man man' (f q (kernel_of man (held old) k)) value) p there (h (with_held (held old) k))))

  pub alone_stops : (pid : ℕ) (f : Process → Kernel → Called) (k : Kernel) → IfSome (process man.procs pid) (λ p. stops old old (effects_of (f p (kernel_of man (held old) k))))
  alone_stops pid f k =
      each_process man pid (λ p. stops old old (effects_of (f p (kernel_of man (held old) k))))
      (λ p is there. stops_at_once held does stops laws old (f p (kernel_of man (held old) k)))
