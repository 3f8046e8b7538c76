use Rattle.std.proofs.Common.{refl, ◌∙◌}
use Rattle.rv64_step.specs.Access.{bytes_in}
use Rattle.flat_memory.specs.declared.slot.Use.TheVariants.{Load}
use Rattle.flat_memory.specs.Pieces.{start_in}
use Rattle.flat_memory.specs.FastPath.{IsPlace}
use Rattle.flat_memory.proofs.Accesses.{place-ends, place-permits, place-number}
use Rattle.flat_memory.proofs.FastPath.{kept-slot}
use Rattle.flat_memory.proofs.turn.TurnSpaceGuestMem.load.Goals as goal

pub number_at-requires : goal.number_at-requires
number_at-requires c =
    let s = c.args.self.now.space in
    place-ends s.areas (start_in s.starts) s.bytes.items Load c.args.addr c.in-Some.at c.args.width c.in-Some.ensures s.pieces

pub returns-in-Some : goal.returns-in-Some
returns-in-Some c =
    let s = c.args.self.now.space in
    let place : IsPlace s.areas (start_in s.starts) Load c.args.addr (bytes_in c.args.width) c.in-Some.at = c.in-Some.ensures in
    record {
      joined = (refl, tt);
      served = λ q. refl;
      reads = (
        place-permits s.areas (start_in s.starts) s.bytes.items Load c.args.addr c.in-Some.at c.args.width place,
        c.number_at.ensures.number ∙ place-number s.areas (start_in s.starts) s.bytes.items Load c.args.addr c.in-Some.at c.args.width place,
      );
      keeps = λ q h. refl;
    }

pub invariant_of-self : goal.invariant_of-self
invariant_of-self c = record { holds = kept-slot _ _ _ _ _ c.read_slowly.ensures.keeps.areas c.read_slowly.ensures.keeps.starts c.args.self.now.holds }
