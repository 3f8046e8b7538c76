use Rattle.std.proofs.Common.{◌+◌, ◌/◌, ◌^◌, ◌<◌, refl, ◌∙◌, arith}
use Rattle.rv64_step.specs.declared.width.Width.TheVariants.{Word}
use Rattle.flat_memory.specs.declared.slot.Use.TheVariants.{Fetch}
use Rattle.flat_memory.specs.Pieces.{start_in}
use Rattle.flat_memory.specs.FastPath.{IsPlace}
use Rattle.flat_memory.proofs.Accesses.{place-ends, place-permits, place-number}
use Rattle.flat_memory.proofs.FastPath.{found-place}
use Rattle.flat_memory.proofs.turn.TurnSpaceGuestMem.fetch.Goals as goal

pub word_at-requires : goal.word_at-requires
word_at-requires c =
    let m = c.args.self.now in
    let s = m.space in
    let ends : start_in s.starts (c.args.addr / 4096) + 4096 < 2 ^ 64 = omega (arith, s.pieces.ends (c.args.addr / 4096), s.bytes.ok.0, s.bytes.small) in
    let place : IsPlace s.areas (start_in s.starts) Fetch c.args.addr 4 c.in-Some.at = found-place s.areas (start_in s.starts) m.hand Fetch c.args.addr c.in-Some.at Word c.ranges.addr.fits ends m.holds c.in-Some.ensures.found.0 c.in-Some.ensures.found.1 in
    place-ends s.areas (start_in s.starts) s.bytes.items Fetch c.args.addr c.in-Some.at Word place s.pieces

pub returns-in-Some : goal.returns-in-Some
returns-in-Some c =
    let m = c.args.self.now in
    let s = m.space in
    let ends : start_in s.starts (c.args.addr / 4096) + 4096 < 2 ^ 64 = omega (arith, s.pieces.ends (c.args.addr / 4096), s.bytes.ok.0, s.bytes.small) in
    let place : IsPlace s.areas (start_in s.starts) Fetch c.args.addr 4 c.in-Some.at = found-place s.areas (start_in s.starts) m.hand Fetch c.args.addr c.in-Some.at Word c.ranges.addr.fits ends m.holds c.in-Some.ensures.found.0 c.in-Some.ensures.found.1 in
    record {
      joined = (refl, tt);
      served = λ q. refl;
      reads = (
        place-permits s.areas (start_in s.starts) s.bytes.items Fetch c.args.addr c.in-Some.at Word place,
        c.word_at.ensures ∙ place-number s.areas (start_in s.starts) s.bytes.items Fetch c.args.addr c.in-Some.at Word place,
      );
      keeps = λ q h. refl;
    }
