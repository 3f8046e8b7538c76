use Rattle.std.proofs.Common.{◌∙◌}
use Rattle.rv64_step.specs.Access.{bytes_in}
use Rattle.flat_memory.specs.Pieces.{start_in}
use Rattle.flat_memory.specs.FastPath.{IsPlace}
use Rattle.flat_memory.proofs.Accesses.{place-ends, place-permits, place-number}
use Rattle.flat_memory.proofs.space.FlatSpace.read.Goals as goal

pub number_at-requires : goal.number_at-requires
number_at-requires c =
    let s = c.args.self.now in
    place-ends s.areas (start_in s.starts) s.bytes.items c.args.access c.args.addr c.in-Some.at c.args.width c.in-Some.ensures s.pieces

pub returns-in-Some-clause-read : goal.returns-in-Some-clause-read
returns-in-Some-clause-read c =
    let s = c.args.self.now in
    let place : IsPlace s.areas (start_in s.starts) c.args.access c.args.addr (bytes_in c.args.width) c.in-Some.at = c.in-Some.ensures in (
      place-permits s.areas (start_in s.starts) s.bytes.items c.args.access c.args.addr c.in-Some.at c.args.width place,
      c.number_at.ensures.number ∙ place-number s.areas (start_in s.starts) s.bytes.items c.args.access c.args.addr c.in-Some.at c.args.width place,
      c.number_at.ensures.fits,
    )
