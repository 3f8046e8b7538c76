use Rattle.std.proofs.Common.{[], ◌∷◌}
use Rattle.linux_model.specs.Effects.{AsksSize}
use Rattle.call_machine.proofs.Rows.{on_ok}
use Rattle.sys_process.proofs.Executing.{file_did, file_stops}
use Rattle.sys_process.proofs.exec.read_file.Goals as goal

pub returns-in_err-size-clause-stops : goal.returns-in_err-size-clause-stops
returns-in_err-size-clause-stops g c =
    g.met.M.Machine.lawful.stops_front _ _ (AsksSize c.args.file.0 ∷ []) _ c.size.ensures.stops

pub returns-clause-does : goal.returns-clause-does
returns-clause-does g c =
    on_ok _ _ c.read.result (file_did g.M.Machine.held g.M.Machine.does g.M.Machine.stops g.met.M.Machine.lawful c.args.file.0 c.in_ok-size.size c.args.machine.now c.size.new.self c.in_ok-size.ensures.answer c.in_ok-size.ensures.does c.read.new.self) c.read.ensures.does

pub returns-clause-stops : goal.returns-clause-stops
returns-clause-stops g c =
    file_stops g.M.Machine.held g.M.Machine.does g.M.Machine.stops g.met.M.Machine.lawful c.args.file.0 c.in_ok-size.size c.args.machine.now c.size.new.self c.in_ok-size.ensures.answer c.in_ok-size.ensures.does c.read.new.self c.read.ensures.stops
