use Rattle.std.proofs.Common.{[]}
use Rattle.call_machine.proofs.Rows.{stops_end}
use Rattle.call_parts.proofs.Parts.{starts_fit}
use Rattle.call_parts.proofs.buffers.writable_part.Goals as goal

pub part-requires : goal.part-requires
part-requires g c = record { within = starts_fit c.args.pieces.now }

pub returns-in_err-parts-clause-stops : goal.returns-in_err-parts-clause-stops
returns-in_err-parts-clause-stops g c = stops_end g.M.Machine.held g.M.Machine.does g.M.Machine.stops g.met.M.Machine.lawful _ _ [] _ (g.met.M.Machine.lawful.none _)
