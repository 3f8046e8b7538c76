use Rattle.std.proofs.Common.{◌≡◌, ◌+◌, ◌++◌, ◌∷◌, Vec, Global, ◌∙◌, ap, sym, drop, map, List, [], ℕ, length, arith}
use Rattle.std.specs.Prelude.{option_map, slice_get}
use Rattle.std.proofs.lemmas.List.{append-nil}
use Rattle.lego_base.specs.declared.ids.Pid.{Pid}
use Rattle.linux_model.specs.Managed.{Managed, with_managed}
use Rattle.linux_model.specs.State.{Kernel, Process}
use Rattle.linux_model.specs.Turns.{ready_in}
use Rattle.proc_table.specs.Entries.{proc_of}
use Rattle.proc_table.specs.declared.table.Proc.{Proc}
use Rattle.manager.proofs.Waiting.{drop_past, ready_here, waits_here, none_here}
use Rattle.manager.proofs.manager.Manager.ready.Goals as goal
use Rattle.manager.proofs.manager.Manager.ready.Goals.{in-Some+then-is_ready+in_ok-push, in-Some+else-is_ready, in_default}

pub loop-place-preserved : goal.loop-place-preserved
loop-place-preserved c = λ k.
    let K : Kernel = with_managed c.args.self.now k in
    let procs : List Process = c.args.self.now.procs in
    let place : ℕ = c.loop-place.place in
    let at : c.at.result ≡ option_map {U = Pid × Proc} (λ p. (record { 0 = p.pid }, proc_of p)) (slice_get procs place) =
    c.at.ensures ∙ ap (λ (m : Managed). option_map {U = Pid × Proc} (λ p. (record { 0 = p.pid }, proc_of p)) (slice_get m.procs place)) c.self.view_is in
    elim c.match-at.branch [
      | in-Some+then-is_ready+in_ok-push w ↦
          let more : c.match-at.ready.items ≡ c.loop-place.ready.items ++ w.in-Some.pid ∷ [] = ap (λ (v : Vec Pid Global). v.items) w.ready-is ∙ w.in_ok-push.ensures.items in
          ap (λ (pids : List Pid). map (λ (pid : Pid). pid.0) pids ++ ready_in K (drop (place + 1) procs)) more
          ∙ ready_here K procs place w.in-Some.pid c.loop-place.ready.items w.in-Some.known (sym at ∙ w.in-Some.is) (w.if-is_ready.ensures k)
          ∙ c.loop-place.invariant k
      | in-Some+else-is_ready w ↦
          ap (λ (v : Vec Pid Global). map (λ (pid : Pid). pid.0) v.items ++ ready_in K (drop (place + 1) procs)) w.ready-is
          ∙ ap (λ (rest : List ℕ). map (λ (pid : Pid). pid.0) c.loop-place.ready.items ++ rest) (waits_here K procs place w.in-Some.pid w.in-Some.known (sym at ∙ w.in-Some.is) (w.if-is_ready.ensures k))
          ∙ c.loop-place.invariant k
      | in_default w ↦
          ap (λ (v : Vec Pid Global). map (λ (pid : Pid). pid.0) v.items ++ ready_in K (drop (place + 1) procs)) w.ready-is
          ∙ ap (λ (rest : List ℕ). map (λ (pid : Pid). pid.0) c.loop-place.ready.items ++ rest) (none_here K procs place (sym at ∙ w.in_default.is))
          ∙ c.loop-place.invariant k
    ]

pub returns : goal.returns
returns c = λ k.
    let K : Kernel = with_managed c.args.self.now k in
    let few = c.self.invariant.counted.few in
    let long = ap (λ (m : Managed). length m.procs) c.self.view_is in
    let past = drop_past c.args.self.now.procs c.loop-place.place (omega (arith, few, long)) in
    sym (append-nil (map (λ (pid : Pid). pid.0) c.loop-place.ready.items)) ∙ ap (λ (procs : List Process). map (λ (pid : Pid). pid.0) c.loop-place.ready.items ++ ready_in K procs) (sym past)
    ∙ c.loop-place.invariant k
