-- The space is taken out of the memory, run on, and put back.
use Rattle.std.proofs.Common.{◌≡◌, ℕ, eqb, sym, ap, subst, ◌∙◌}
use Rattle.std.proofs.lemmas.Bool.{eq-eqb, cond-true}
use Rattle.lego_base.specs.declared.ids.Pid.{Pid}
use Rattle.lego_base.specs.Space.{Space}
use Rattle.rv64_step.specs.declared.cpu.Cpu.{Cpu}
use Rattle.rv64_step.specs.Harts.{cpu_of}
use Rattle.flat_memory.specs.Spaces.{space_of, spaces_of}
use Rattle.linux_model.specs.Agrees.{Agrees}
use Rattle.linux_model.specs.Instructions.{many}
use Rattle.plain_steps.proofs.steps.run_some.Goals as goal

pub returns-clause-ran : goal.returns-clause-ran
returns-clause-ran c =
    let pid = c.args.pid.0 in
    let old = spaces_of c.args.memory.now in
    let turn : c.run.new.space.pid.0 ≡ pid = ap (λ (p : Pid). p.0) c.in_ok-stop.ensures.pid in
    let space : spaces_of c.put.new.self pid ≡ space_of c.run.new.space.space =
    ap (λ (f : ℕ → Space). f pid) c.in_ok-put.ensures.put
    ∙ cond-true (eqb pid c.run.new.space.pid.0) (space_of c.run.new.space.space) (spaces_of c.take.new.self pid) (eq-eqb pid c.run.new.space.pid.0 (sym turn))
    in
    let ran : Agrees (many c.args.most pid c.args.cpu.now (old pid)) c.in_ok-stop.stop (cpu_of c.run.new.hart) (space_of c.run.new.space.space) =
    subst (λ (s : Space). Agrees (many c.args.most pid c.args.cpu.now s) c.in_ok-stop.stop (cpu_of c.run.new.hart) (space_of c.run.new.space.space)) c.in_ok-space.ensures.taken.1
    (subst (λ (cpu : Cpu). Agrees (many c.args.most pid cpu (space_of c.in_ok-space.space.space)) c.in_ok-stop.stop (cpu_of c.run.new.hart) (space_of c.run.new.space.space)) c.new-hart.ensures c.in_ok-stop.ensures.ran)
    in
    record {
      stops = ran.stops;
      left = ran.left ∙ sym c.cpu.ensures;
      sees = ran.sees ∙ sym space;
    }
