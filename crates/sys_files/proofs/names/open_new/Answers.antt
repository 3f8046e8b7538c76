use Rattle.std.proofs.Common.{◌≡◌, sym, ◌∙◌, refl, [], ◌∷◌, None, Some, IfOk}
use Rattle.linux_model.specs.Called.{Gives}
use Rattle.linux_model.specs.Effects.{MakesFile}
use Rattle.linux_model.specs.FileCalls.{opens_file, opens_name}
use Rattle.call_machine.specs.Effects.{made_file}
use Rattle.call_machine.specs.Laws.{effects_of}
use Rattle.call_machine.specs.Lent.{kernel_of, Ran}
use Rattle.call_machine.proofs.Rows.{each_process, of_process, stops_following, stops_in}
use Rattle.sys_files.proofs.Naming.{answers_after, held_made, made_row}
use Rattle.sys_files.proofs.names.open_new.Goals as goal

pub returns-in_err-file-clause-stops : goal.returns-in_err-file-clause-stops
returns-in_err-file-clause-stops g c k = each_process c.args.man.now c.args.pid.0 _ (λ p own there.
    stops_in g.M.Machine.held g.M.Machine.does g.M.Machine.stops g.met.M.Machine.lawful _ _ (MakesFile c.args.name.now ∷ []) _ _ refl c.make.ensures.stops)

pub open_file-requires-clause-there : goal.open_file-requires-clause-there
open_file-requires-clause-there g c =
    held_made g.M.Machine.held g.M.Machine.does g.M.Machine.stops g.met.M.Machine.lawful c.args.machine.now c.make.new.self c.args.name.now c.in-Some.file c.in_ok-file.ensures.does c.requires.absent (sym c.in-Some.is ∙ c.in_ok-file.ensures.answer)

pub returns-clause-answers : goal.returns-clause-answers
returns-clause-answers g c k = each_process c.args.man.now c.args.pid.0 _ (λ p own there.
    let man = c.args.man.now in
    let made : Some c.in-Some.file ≡ made_file (g.M.Machine.held c.args.machine.now) = sym c.in-Some.is ∙ c.in_ok-file.ensures.answer in
    answers_after g.M.Machine.held g.M.Machine.does g.M.Machine.stops g.met.M.Machine.lawful c.args.machine.now c.make.new.self c.open_file.new.machine man c.open_file.new.man (MakesFile c.args.name.now ∷ []) (opens_name p (kernel_of man (g.M.Machine.held c.args.machine.now) k) c.args.fd c.args.flags c.args.name.now None) (opens_file p c.args.fd c.in-Some.file.0 c.args.flags) c.open_file.result refl c.in_ok-file.ensures.does
    (made_row p man (g.M.Machine.held c.args.machine.now) k c.args.fd c.args.flags c.args.name.now c.in-Some.file made)
    (of_process man c.args.pid.0 (λ q. IfOk c.open_file.result (λ value. Ran g.M.Machine.does c.make.new.self c.open_file.new.machine man c.open_file.new.man (opens_file q c.args.fd c.in-Some.file.0 c.args.flags) (λ es. Gives es value))) p there (c.open_file.ensures.answers k)))

pub returns-clause-stops : goal.returns-clause-stops
returns-clause-stops g c k = each_process c.args.man.now c.args.pid.0 _ (λ p own there.
    let man = c.args.man.now in
    let made : Some c.in-Some.file ≡ made_file (g.M.Machine.held c.args.machine.now) = sym c.in-Some.is ∙ c.in_ok-file.ensures.answer in
    stops_following g.M.Machine.held g.M.Machine.does g.M.Machine.stops g.met.M.Machine.lawful c.args.machine.now c.make.new.self c.open_file.new.machine (MakesFile c.args.name.now ∷ []) (opens_name p (kernel_of man (g.M.Machine.held c.args.machine.now) k) c.args.fd c.args.flags c.args.name.now None) (opens_file p c.args.fd c.in-Some.file.0 c.args.flags)
    (made_row p man (g.M.Machine.held c.args.machine.now) k c.args.fd c.args.flags c.args.name.now c.in-Some.file made) c.in_ok-file.ensures.does
    (of_process man c.args.pid.0 (λ q. g.M.Machine.stops c.make.new.self c.open_file.new.machine (effects_of (opens_file q c.args.fd c.in-Some.file.0 c.args.flags))) p there (c.open_file.ensures.stops k)))
