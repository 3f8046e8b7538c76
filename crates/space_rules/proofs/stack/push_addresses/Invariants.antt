use Rattle.std.proofs.Common.{◌≡◌, ◌+◌, ◌++◌, length, drop}
use Rattle.std.specs.Prelude.{flat_map}
use Rattle.lego_base.specs.Space.{bytes_of}
use Rattle.space_rules.specs.Start.{closed_all, addresses}
use Rattle.space_rules.proofs.stack.push_addresses.Given as goal

-- the bytes so far with the addresses of the strings that are left make all bytes, and these strings end where all do
abbrev pub invariant-loop-string : goal.invariant-loop-string
invariant-loop-string l =
    (l.bytes.items ++ flat_map (bytes_of 8) (addresses l.address (drop l.string-index l.strings)) ≡ l.fn.bytes.items ++ flat_map (bytes_of 8) (addresses l.from l.strings))
    × (l.address + length (closed_all (drop l.string-index l.strings)) ≡ l.from + length (closed_all l.strings))
