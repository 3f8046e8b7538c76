use Rattle.std.proofs.Common.{rules, ◌≡◌, sym, ◌∙◌, ap, IfOk, ℕ, List}
use Rattle.linux_model.specs.Called.{Gives}
use Rattle.linux_model.specs.FileCalls.{unlinked}
use Rattle.linux_model.specs.Paths.{Named}
use Rattle.call_machine.specs.Laws.{effects_of}
use Rattle.call_machine.specs.Lent.{kernel_of, Ran}
use Rattle.call_machine.proofs.Rows.{each_process, of_process, stops_as}
use Rattle.sys_paths.specs.Reached.{found_of}
use Rattle.sys_paths.specs.declared.walk.Found.{Found as Place}
use Rattle.sys_paths.specs.declared.walk.Found.TheVariants.{Named as ToName}
use Rattle.sys_files.proofs.Naming.{answers_as}
use Rattle.sys_files.proofs.names.unlink_found.Goals as goal

pub returns-in-Named-clause-answers : goal.returns-in-Named-clause-answers
returns-in-Named-clause-answers g c pid k = each_process c.args.man.now pid _ (λ p own there.
    let man = c.args.man.now in
    let K = kernel_of man (g.M.Machine.held c.args.machine.now) k in
    let is : c.args.found ≡ ToName c.in-Named.name c.in-Named.file = search rules in
    let row : unlinked K (found_of c.args.found) ≡ unlinked K (Named c.as_slice.result.now c.in-Named.file) = ap (λ (f : Place). unlinked K (found_of f)) is ∙ ap (λ (n : List ℕ). unlinked K (Named n c.in-Named.file)) (sym c.as_slice.ensures) in
    answers_as g.M.Machine.held g.M.Machine.does g.M.Machine.stops g.met.M.Machine.lawful c.args.machine.now c.unlink_named.new.machine man man _ _ c.unlink_named.result row (of_process man pid (λ q. IfOk c.unlink_named.result (λ value. Ran g.M.Machine.does c.args.machine.now c.unlink_named.new.machine man man (unlinked K (Named c.as_slice.result.now c.in-Named.file)) (λ es. Gives es value))) p there (c.unlink_named.ensures.answers pid k)))

pub returns-in-Named-clause-stops : goal.returns-in-Named-clause-stops
returns-in-Named-clause-stops g c pid k = each_process c.args.man.now pid _ (λ p own there.
    let man = c.args.man.now in
    let K = kernel_of man (g.M.Machine.held c.args.machine.now) k in
    let is : c.args.found ≡ ToName c.in-Named.name c.in-Named.file = search rules in
    let row : unlinked K (found_of c.args.found) ≡ unlinked K (Named c.as_slice.result.now c.in-Named.file) = ap (λ (f : Place). unlinked K (found_of f)) is ∙ ap (λ (n : List ℕ). unlinked K (Named n c.in-Named.file)) (sym c.as_slice.ensures) in
    stops_as g.M.Machine.held g.M.Machine.does g.M.Machine.stops g.met.M.Machine.lawful c.args.machine.now c.unlink_named.new.machine _ _ row (of_process man pid (λ q. g.M.Machine.stops c.args.machine.now c.unlink_named.new.machine (effects_of (unlinked K (Named c.as_slice.result.now c.in-Named.file)))) p there (c.unlink_named.ensures.stops pid k)))
