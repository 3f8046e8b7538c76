-- A call with what follows it.
use Rattle.std.proofs.Common.{◌≡◌, ℕ, refl, sym, ◌∙◌, ap, subst, List, [], ◌∷◌, ◌++◌, Option, IfSome, Result, OnOk}
use Rattle.std.proofs.lemmas.Bool.{eqb-true}
use Rattle.rv64_step.specs.declared.cpu.Cpu.{Cpu}
use Rattle.rv64_step.specs.Meaning.{next_pc, with_reg}
use Rattle.linux_model.specs.State.{Kernel, Process}
use Rattle.linux_model.specs.Processes.{process}
use Rattle.linux_model.specs.Effects.{Effect, Keeps, Returns, applies}
use Rattle.linux_model.specs.Called.{Called, Gives, Becomes, Waits, Death}
use Rattle.linux_model.specs.Calls.{call_by, call_effects, called, row}
use Rattle.linux_model.specs.Held.{Held, with_held}
use Rattle.linux_model.specs.Managed.{Managed, managed_after_all, with_managed}
use Rattle.linux_model.specs.ProcessCalls.{dying}
use Rattle.linux_model.proofs.Managing.{managed-append}
use Rattle.linux_model.proofs.fits.Found.{found_pid}
use Rattle.manager.proofs.Open.{Found}
use Rattle.call_machine.specs.declared.end.CallEnd.{CallEnd}
use Rattle.call_machine.specs.Laws.{effects_of}
use Rattle.call_machine.specs.Lawful.{Lawful}
use Rattle.call_machine.specs.Lent.{Ran, ended, kernel_of}
use Rattle.call_machine.proofs.Rows.{of_process, on_ok}
use Rattle.sys_process.specs.Ends.{end_effects}
use Rattle.sys_process.proofs.Following.{end_follows}

-- what a turn does after the effects of a row
abbrev after_row : Process → Called → Kernel → List Effect
after_row p (Gives effects value) k = Returns p.pid (with_reg p.cpu 10 value (next_pc p.cpu)) ∷ []
after_row p (Becomes effects cpu) k = Returns p.pid cpu ∷ []
after_row p (Waits effects moved len) k = Keeps p.pid moved len ∷ []
after_row p (Death effects status) k = dying p.pid status (applies effects k)

begins_with_row : (p : Process) (r : Called) (k : Kernel) → called p r k ≡ effects_of r ++ after_row p r k
begins_with_row p (Gives effects value) k = refl
begins_with_row p (Becomes effects cpu) k = refl
begins_with_row p (Waits effects moved len) k = refl
begins_with_row p (Death effects status) k = refl

module _ {X : Type 0} (held : X → Held) (does stops : X → X → List Effect → Type 0) (laws : Lawful held does stops) (old : X) (man : Managed) (pid : ℕ) (q : Found man.procs pid) (k : Kernel) where
  -- the call stopped
  pub stops_first : (new : X) → IfSome (process man.procs pid) (λ p. stops old new (effects_of (row (call_by p) p (kernel_of man (held old) k)))) → stops old new (call_effects (process man.procs pid) (kernel_of man (held old) k))
  stops_first new h =
      let K : Kernel = kernel_of man (held old) k in
      let r : Called = row (call_by q.p) q.p K in
      let stop : stops old new (effects_of r) = of_process man pid (λ p. stops old new (effects_of (row (call_by p) p K))) q.p q.is h in
      subst (stops old new) (sym (ap (λ (o : Option Process). call_effects o K) (q.is) ∙ begins_with_row q.p r K)) (laws.stops_front old new (effects_of r) (after_row q.p r K) stop)

  -- the call ended
  module _ (mid new : X) (now : Managed) (cpu : Cpu) (own : IfSome (process man.procs pid) (λ p. cpu ≡ p.cpu)) (end : CallEnd) (ends : IfSome (process man.procs pid) (λ p. Ran does old mid man now (row (call_by p) p (kernel_of man (held old) k)) (ended end))) where
    pub ran : Ran does old mid man now (row (call_by q.p) q.p (kernel_of man (held old) k)) (ended end)
    ran = of_process man pid (λ p. Ran does old mid man now (row (call_by p) p (kernel_of man (held old) k)) (ended end)) q.p q.is ends

    -- the kernel after its effects, which holds what is managed then
    abbrev pub kernel_then : Kernel
    kernel_then = applies ran.effects (kernel_of man (held old) k)

    kernel_is : kernel_then ≡ with_managed now kernel_then
    kernel_is = end_follows.managed ran.effects man (with_held (held old) k) ∙ ap (λ (m : Managed). with_managed m kernel_then) ran.managed

    abbrev ending : List Effect
    ending = end_effects pid cpu end (with_managed now kernel_then)

    whole : call_effects (process man.procs pid) (kernel_of man (held old) k) ≡ ran.effects ++ ending
    whole =
        let K : Kernel = kernel_of man (held old) k in
        let pid_is : q.p.pid ≡ pid = eqb-true q.p.pid pid (found_pid man.procs pid q.p q.is) in
        let cpu_is : q.p.cpu ≡ cpu = sym (of_process man pid (λ p. cpu ≡ p.cpu) q.p q.is own) in
        ap (λ (o : Option Process). call_effects o K) q.is
        ∙ ap (λ (r : Called). called q.p r K) ran.row_is
        ∙ end_follows.turn q.p end ran.effects K
        ∙ (λ i. ran.effects ++ end_effects (pid_is i) (cpu_is i) end (kernel_is i))

    pub does_then : {A E : Type 0} (result : Result A E) → OnOk result (does mid new (end_effects pid cpu end (with_managed now kernel_then))) → OnOk result (does old new (call_effects (process man.procs pid) (kernel_of man (held old) k)))
    does_then result = on_ok (does mid new ending) (does old new (call_effects (process man.procs pid) (kernel_of man (held old) k))) result (λ d. subst (does old new) (sym whole) (laws.both old mid new ran.effects ending ran.did d))

    pub stops_then : stops mid new (end_effects pid cpu end (with_managed now kernel_then)) → stops old new (call_effects (process man.procs pid) (kernel_of man (held old) k))
    stops_then s = subst (stops old new) (sym whole) (laws.stops_then old mid new ran.effects ending ran.did s)

    pub managed_then : {A E : Type 0} (man' : Managed) (result : Result A E) → OnOk result (managed_after_all (end_effects pid cpu end (with_managed now kernel_then)) now ≡ man') → OnOk result (managed_after_all (call_effects (process man.procs pid) (kernel_of man (held old) k)) man ≡ man')
    managed_then man' result = on_ok (managed_after_all ending now ≡ man') (managed_after_all (call_effects (process man.procs pid) (kernel_of man (held old) k)) man ≡ man') result (λ m.
        ap (λ (es : List Effect). managed_after_all es man) whole
        ∙ managed-append ran.effects ending man
        ∙ ap (managed_after_all ending) ran.managed
        ∙ m)
