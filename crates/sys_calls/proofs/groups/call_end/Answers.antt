use Rattle.std.proofs.Common.{◌∙◌, refl, sym, subst, IfSome}
use Rattle.linux_model.specs.Processes.{process}
use Rattle.call_parts.specs.Numbered.{CanDie, IfDies}
use Rattle.call_machine.specs.declared.end.CallEnd.{CallEnd}
use Rattle.sys_files.specs.Numbers.{is_file_call}
use Rattle.sys_io.specs.Numbers.{is_io_call}
use Rattle.sys_process.specs.Ends.{is_process_call}
use Rattle.sys_space.specs.Calls.{is_space_call}
use Rattle.sys_calls.proofs.InTurn.{can_die, can_still, dies_found, ends_in_turn, is_of, stops_in_turn}
use Rattle.sys_calls.proofs.groups.call_end.Goals as goal

pub returns-in_err-end-clause-stops : goal.returns-in_err-end-clause-stops
returns-in_err-end-clause-stops g c k = stops_in_turn g.M.Machine.held g.M.Machine.does g.M.Machine.stops c.args.machine.now c.args.machine.now c.process_call.new.machine c.args.manager.now c.args.manager.now c.process_call.new.manager c.args.pid.0 refl refl is_process_call k c.in_err-end.ensures.halts (c.process_call.ensures.stops k)

pub returns-in-Some-clause-ends : goal.returns-in-Some-clause-ends
returns-in-Some-clause-ends g c k = ends_in_turn g.M.Machine.held g.M.Machine.does g.M.Machine.stops c.args.machine.now c.args.machine.now c.process_call.new.machine c.args.manager.now c.args.manager.now c.process_call.new.manager c.args.pid.0 refl refl c.in_ok-end.field-0 c.in-Some.end k c.in-Some.is (c.in_ok-end.ensures.ends k)

pub returns-in-Some-clause-stops : goal.returns-in-Some-clause-stops
returns-in-Some-clause-stops g c k =
    stops_in_turn g.M.Machine.held g.M.Machine.does g.M.Machine.stops c.args.machine.now c.args.machine.now c.process_call.new.machine c.args.manager.now c.args.manager.now c.process_call.new.manager c.args.pid.0 refl refl is_process_call k
    (is_of is_process_call (process c.args.manager.now.procs c.args.pid.0) c.in_ok-end.field-0 c.in-Some.end c.in-Some.is c.in_ok-end.ensures.mine) (c.process_call.ensures.stops k)

pub returns-in-Some-clause-dies : goal.returns-in-Some-clause-dies
returns-in-Some-clause-dies g c =
    dies_found g.M.Machine.held c.args.machine.now c.process_call.new.machine c.args.manager.now c.process_call.new.manager c.args.pid.0 c.requires.can c.in_ok-end.field-0 c.in-Some.end c.in-Some.is c.in_ok-end.ensures.dies

pub file_call-requires-clause-fit : goal.file_call-requires-clause-fit
file_call-requires-clause-fit g c = (can_still g.M.Machine.held g.M.Machine.does g.M.Machine.stops c.args.machine.now c.process_call.new.machine c.process_call.new.machine c.args.manager.now c.process_call.new.manager c.process_call.new.manager c.args.pid.0 ((c.in_ok-end.ensures.others c.in_default.is).0) ((c.in_ok-end.ensures.others c.in_default.is).1) c.requires.can).fit

pub returns-in_err-end-2-clause-stops : goal.returns-in_err-end-2-clause-stops
returns-in_err-end-2-clause-stops g c k = stops_in_turn g.M.Machine.held g.M.Machine.does g.M.Machine.stops c.args.machine.now c.process_call.new.machine c.file_call.new.machine c.args.manager.now c.process_call.new.manager c.file_call.new.man c.args.pid.0 ((c.in_ok-end.ensures.others c.in_default.is).0) ((c.in_ok-end.ensures.others c.in_default.is).1) is_file_call k c.in_err-end-2.ensures.halts (c.file_call.ensures.stops k)

pub returns-in-Some-2-clause-ends : goal.returns-in-Some-2-clause-ends
returns-in-Some-2-clause-ends g c k = ends_in_turn g.M.Machine.held g.M.Machine.does g.M.Machine.stops c.args.machine.now c.process_call.new.machine c.file_call.new.machine c.args.manager.now c.process_call.new.manager c.file_call.new.man c.args.pid.0 ((c.in_ok-end.ensures.others c.in_default.is).0) ((c.in_ok-end.ensures.others c.in_default.is).1) c.in_ok-end-2.field-0 c.in-Some-2.end k c.in-Some-2.is (c.in_ok-end-2.ensures.ends k)

pub returns-in-Some-2-clause-stops : goal.returns-in-Some-2-clause-stops
returns-in-Some-2-clause-stops g c k =
    stops_in_turn g.M.Machine.held g.M.Machine.does g.M.Machine.stops c.args.machine.now c.process_call.new.machine c.file_call.new.machine c.args.manager.now c.process_call.new.manager c.file_call.new.man c.args.pid.0 ((c.in_ok-end.ensures.others c.in_default.is).0) ((c.in_ok-end.ensures.others c.in_default.is).1) is_file_call k
    (is_of is_file_call (process c.process_call.new.manager.procs c.args.pid.0) c.in_ok-end-2.field-0 c.in-Some-2.end c.in-Some-2.is c.in_ok-end-2.ensures.mine) (c.file_call.ensures.stops k)

pub io_call-requires-clause-fit : goal.io_call-requires-clause-fit
io_call-requires-clause-fit g c = (can_still g.M.Machine.held g.M.Machine.does g.M.Machine.stops c.args.machine.now c.file_call.new.machine c.file_call.new.machine c.args.manager.now c.file_call.new.man c.file_call.new.man c.args.pid.0 ((c.in_ok-end-2.ensures.others c.in_default-2.is).0 ∙ (c.in_ok-end.ensures.others c.in_default.is).0) ((c.in_ok-end-2.ensures.others c.in_default-2.is).1 ∙ (c.in_ok-end.ensures.others c.in_default.is).1) c.requires.can).fit

pub returns-in_err-end-3-clause-stops : goal.returns-in_err-end-3-clause-stops
returns-in_err-end-3-clause-stops g c k = stops_in_turn g.M.Machine.held g.M.Machine.does g.M.Machine.stops c.args.machine.now c.file_call.new.machine c.io_call.new.machine c.args.manager.now c.file_call.new.man c.io_call.new.man c.args.pid.0 ((c.in_ok-end-2.ensures.others c.in_default-2.is).0 ∙ (c.in_ok-end.ensures.others c.in_default.is).0) ((c.in_ok-end-2.ensures.others c.in_default-2.is).1 ∙ (c.in_ok-end.ensures.others c.in_default.is).1) is_io_call k c.in_err-end-3.ensures.halts (c.io_call.ensures.stops k)

pub returns-in-Some-3-clause-ends : goal.returns-in-Some-3-clause-ends
returns-in-Some-3-clause-ends g c k = ends_in_turn g.M.Machine.held g.M.Machine.does g.M.Machine.stops c.args.machine.now c.file_call.new.machine c.io_call.new.machine c.args.manager.now c.file_call.new.man c.io_call.new.man c.args.pid.0 ((c.in_ok-end-2.ensures.others c.in_default-2.is).0 ∙ (c.in_ok-end.ensures.others c.in_default.is).0) ((c.in_ok-end-2.ensures.others c.in_default-2.is).1 ∙ (c.in_ok-end.ensures.others c.in_default.is).1) c.in_ok-end-3.field-0 c.in-Some-3.end k c.in-Some-3.is (c.in_ok-end-3.ensures.ends k)

pub returns-in-Some-3-clause-stops : goal.returns-in-Some-3-clause-stops
returns-in-Some-3-clause-stops g c k =
    stops_in_turn g.M.Machine.held g.M.Machine.does g.M.Machine.stops c.args.machine.now c.file_call.new.machine c.io_call.new.machine c.args.manager.now c.file_call.new.man c.io_call.new.man c.args.pid.0 ((c.in_ok-end-2.ensures.others c.in_default-2.is).0 ∙ (c.in_ok-end.ensures.others c.in_default.is).0) ((c.in_ok-end-2.ensures.others c.in_default-2.is).1 ∙ (c.in_ok-end.ensures.others c.in_default.is).1) is_io_call k
    (is_of is_io_call (process c.file_call.new.man.procs c.args.pid.0) c.in_ok-end-3.field-0 c.in-Some-3.end c.in-Some-3.is c.in_ok-end-3.ensures.mine) (c.io_call.ensures.stops k)

pub space_end-requires-clause-fit : goal.space_end-requires-clause-fit
space_end-requires-clause-fit g c = (can_still g.M.Machine.held g.M.Machine.does g.M.Machine.stops c.args.machine.now c.io_call.new.machine c.io_call.new.machine c.args.manager.now c.io_call.new.man c.io_call.new.man c.args.pid.0 ((c.in_ok-end-3.ensures.others c.in_default-3.is).0 ∙ (c.in_ok-end-2.ensures.others c.in_default-2.is).0 ∙ (c.in_ok-end.ensures.others c.in_default.is).0) ((c.in_ok-end-3.ensures.others c.in_default-3.is).1 ∙ (c.in_ok-end-2.ensures.others c.in_default-2.is).1 ∙ (c.in_ok-end.ensures.others c.in_default.is).1) c.requires.can).fit

pub returns-in_err-end-4-clause-stops : goal.returns-in_err-end-4-clause-stops
returns-in_err-end-4-clause-stops g c k = stops_in_turn g.M.Machine.held g.M.Machine.does g.M.Machine.stops c.args.machine.now c.io_call.new.machine c.space_end.new.machine c.args.manager.now c.io_call.new.man c.space_end.new.manager c.args.pid.0 ((c.in_ok-end-3.ensures.others c.in_default-3.is).0 ∙ (c.in_ok-end-2.ensures.others c.in_default-2.is).0 ∙ (c.in_ok-end.ensures.others c.in_default.is).0) ((c.in_ok-end-3.ensures.others c.in_default-3.is).1 ∙ (c.in_ok-end-2.ensures.others c.in_default-2.is).1 ∙ (c.in_ok-end.ensures.others c.in_default.is).1) is_space_call k c.in_err-end-4.ensures.halts (c.space_end.ensures.stops k)

pub returns-in-Some-4-clause-ends : goal.returns-in-Some-4-clause-ends
returns-in-Some-4-clause-ends g c k = ends_in_turn g.M.Machine.held g.M.Machine.does g.M.Machine.stops c.args.machine.now c.io_call.new.machine c.space_end.new.machine c.args.manager.now c.io_call.new.man c.space_end.new.manager c.args.pid.0 ((c.in_ok-end-3.ensures.others c.in_default-3.is).0 ∙ (c.in_ok-end-2.ensures.others c.in_default-2.is).0 ∙ (c.in_ok-end.ensures.others c.in_default.is).0) ((c.in_ok-end-3.ensures.others c.in_default-3.is).1 ∙ (c.in_ok-end-2.ensures.others c.in_default-2.is).1 ∙ (c.in_ok-end.ensures.others c.in_default.is).1) c.in_ok-end-4.field-0 c.in-Some-4.end k c.in-Some-4.is (c.in_ok-end-4.ensures.ends k)

pub returns-in-Some-4-clause-stops : goal.returns-in-Some-4-clause-stops
returns-in-Some-4-clause-stops g c k =
    stops_in_turn g.M.Machine.held g.M.Machine.does g.M.Machine.stops c.args.machine.now c.io_call.new.machine c.space_end.new.machine c.args.manager.now c.io_call.new.man c.space_end.new.manager c.args.pid.0 ((c.in_ok-end-3.ensures.others c.in_default-3.is).0 ∙ (c.in_ok-end-2.ensures.others c.in_default-2.is).0 ∙ (c.in_ok-end.ensures.others c.in_default.is).0) ((c.in_ok-end-3.ensures.others c.in_default-3.is).1 ∙ (c.in_ok-end-2.ensures.others c.in_default-2.is).1 ∙ (c.in_ok-end.ensures.others c.in_default.is).1) is_space_call k
    (is_of is_space_call (process c.io_call.new.man.procs c.args.pid.0) c.in_ok-end-4.field-0 c.in-Some-4.end c.in-Some-4.is c.in_ok-end-4.ensures.mine) (c.space_end.ensures.stops k)
