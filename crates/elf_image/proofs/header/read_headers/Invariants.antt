use Rattle.std.proofs.Common.{◌≡◌, ◌+◌, ◌-◌, ◌*◌, ◌++◌}
use Rattle.elf_image.specs.File.{table_offset, headers_from, headers}
use Rattle.elf_image.proofs.header.read_headers.Given as goal

-- the headers that were read, and those that are left, are the table
abbrev pub invariant-loop : goal.invariant-loop
invariant-loop l = record {
  at : l.at ≡ table_offset l.bytes + 56 * l.counter;
  rest : l.table.items ++ headers_from l.bytes l.at (l.count - l.counter) ≡ headers l.bytes;
}
