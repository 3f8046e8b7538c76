use Rattle.std.proofs.Common.{◌≡◌, suc, ◌+◌, ◌-◌, arith}
use Rattle.elf_image.proofs.Tables.{none_read, one_read, all_read}
use Rattle.elf_image.proofs.header.read_headers.Goals as goal

pub loop-init : goal.loop-init
loop-init c = record {
  at = omega arith;
  rest = none_read c.args.bytes.now c.in_ok-table.table.items c.read_u64-at.result c.read_u16-count.result c.in_ok-table.ensures.items c.read_u64-at.ensures c.read_u16-count.ensures;
}

pub loop-preserved : goal.loop-preserved
loop-preserved c =
    let step : c.read_u16-count.result - c.loop.counter ≡ suc (c.read_u16-count.result - (c.loop.counter + 1)) = omega arith in
    record {
      at = omega arith;
      rest = one_read c.args.bytes.now c.loop.table.items c.push.new.self.items c.read_header.result c.loop.at (c.read_u16-count.result - (c.loop.counter + 1)) (c.read_u16-count.result - c.loop.counter) c.in_ok-push.ensures.items c.read_header.ensures step c.loop.invariant.rest;
    }

pub returns : goal.returns
returns c = all_read c.args.bytes.now c.loop.table.items c.loop.at (c.read_u16-count.result - c.loop.counter) (omega arith) c.loop.invariant.rest
