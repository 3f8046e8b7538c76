use Rattle.lego_msg.specs.Maps.{patched}
use Rattle.lego_msg.specs.State.{Mem}
use Rattle.lego_msg.specs.Table.{write_row}
use Rattle.lego_msg.specs.declared.body.Body.TheVariants.{Refused, Wrote}
use Rattle.lego_msg.specs.declared.place.Why.TheVariants.{Full}
use Rattle.mem_monitor.proofs.Answered.{row_of, within_full, within_ok}
use Rattle.mem_monitor.specs.Rows.{asking}
use Rattle.mem_monitor.proofs.memory.Memory.write.Goals as goal

pub returns-in-Ok : goal.returns-in-Ok
returns-in-Ok c =
    let changed : Mem = record c.args.self.now { pages = patched c.args.patch.now c.args.self.now.pages } in
    row_of c.answer.result c.args.self.now c.write_page.new.self changed c.args.out.now c.answer.new.out (asking c.args.asker) Wrote (write_row c.args.self.now (asking c.args.asker) c.args.patch.now) c.in-Ok.ensures.ok (within_ok c.args.self.now changed (asking c.args.asker) Wrote c.in-Ok.ensures.full) c.answer.ensures

pub returns-in-Err : goal.returns-in-Err
returns-in-Err c =
    let changed : Mem = record c.args.self.now { pages = patched c.args.patch.now c.args.self.now.pages } in
    row_of c.answer-in-Err.result c.args.self.now c.write_page.new.self c.args.self.now c.args.out.now c.answer-in-Err.new.out (asking c.args.asker) (Refused Full) (write_row c.args.self.now (asking c.args.asker) c.args.patch.now) c.in-Err.ensures.err (within_full c.args.self.now changed (asking c.args.asker) Wrote c.in-Err.ensures.full) c.answer-in-Err.ensures
