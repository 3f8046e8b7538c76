use Rattle.std.proofs.Common.{◌≡◌, ◌+◌, ◌/◌, ◌≤◌, ◌<◌, length, sym, subst, ap, ◌∙◌, arith}
use Rattle.std.specs.Vec.{with_items}
use Rattle.std.proofs.lemmas.Bool.{ltb-true}
use Rattle.std.proofs.lemmas.List.{with_items_is}
use Rattle.lego_base.specs.Space.{bytes_of}
use Rattle.rv64_step.specs.Access.{bytes_in}
use Rattle.flat_memory.specs.declared.slot.Use.TheVariants.{Store}
use Rattle.flat_memory.specs.Pieces.{start_in, place_in, byte_in, Written, IsPieces}
use Rattle.flat_memory.specs.FastPath.{IsPlace}
use Rattle.flat_memory.proofs.Stores.{length-bytes_of}
use Rattle.flat_memory.proofs.Pieces.{written-is, written-pieces}
use Rattle.flat_memory.proofs.Accesses.{place-ends, place-permits}
use Rattle.flat_memory.proofs.space.FlatSpace.store_fast.Goals as goal

pub put-requires : goal.put-requires
put-requires c =
    let s = c.args.self.now in
    subst (λ xs. c.in-Some.at + bytes_in c.args.width ≤ length xs) (sym c.deref_mut.ensures.value)
    (place-ends s.areas (start_in s.starts) s.bytes.items Store c.args.addr c.in-Some.at c.args.width c.in-Some.ensures s.pieces)

pub invariant_of-self : goal.invariant_of-self
invariant_of-self c =
    let s = c.args.self.now in
    let addr = c.args.addr in
    let piece = bytes_of (bytes_in c.args.width) c.args.value in
    let n : length piece ≡ bytes_in c.args.width = length-bytes_of (bytes_in c.args.width) c.args.value in
    let place : IsPlace s.areas (start_in s.starts) Store addr (bytes_in c.args.width) c.in-Some.at = c.in-Some.ensures in
    let own : 0 < start_in s.starts (addr / 4096) = ltb-true 0 (start_in s.starts (addr / 4096)) place.own in
    let written : Written s.bytes.items (place_in (start_in s.starts) addr) piece c.put.new.bytes =
    subst (λ k. Written s.bytes.items k piece c.put.new.bytes) place.place
    (subst (λ xs. Written xs c.in-Some.at piece c.put.new.bytes) c.deref_mut.ensures.value c.put.ensures)
    in
    let stays : (with_items s.bytes c.put.new.bytes).items ≡ c.put.new.bytes = with_items_is s.bytes c.put.new.bytes (written.length_stays ∙ sym s.bytes.ok.0) in
    record {
      pieces = subst (IsPieces (start_in s.starts)) (sym stays) (written-pieces (start_in s.starts) s.areas s.bytes.items addr piece c.put.new.bytes s.pieces own (omega (arith, place.within)) written);
      fast = s.fast;
    }

pub returns-in-Some-clause-done : goal.returns-in-Some-clause-done
returns-in-Some-clause-done c =
    let s = c.args.self.now in
    let addr = c.args.addr in
    let piece = bytes_of (bytes_in c.args.width) c.args.value in
    let n : length piece ≡ bytes_in c.args.width = length-bytes_of (bytes_in c.args.width) c.args.value in
    let place : IsPlace s.areas (start_in s.starts) Store addr (bytes_in c.args.width) c.in-Some.at = c.in-Some.ensures in
    let own : 0 < start_in s.starts (addr / 4096) = ltb-true 0 (start_in s.starts (addr / 4096)) place.own in
    let written : Written s.bytes.items (place_in (start_in s.starts) addr) piece c.put.new.bytes =
    subst (λ k. Written s.bytes.items k piece c.put.new.bytes) place.place
    (subst (λ xs. Written xs c.in-Some.at piece c.put.new.bytes) c.deref_mut.ensures.value c.put.ensures)
    in
    let stays : (with_items s.bytes c.put.new.bytes).items ≡ c.put.new.bytes = with_items_is s.bytes c.put.new.bytes (written.length_stays ∙ sym s.bytes.ok.0) in (
      place-permits s.areas (start_in s.starts) s.bytes.items Store addr c.in-Some.at c.args.width place,
      ap (λ ys. record { areas = s.areas; byte = byte_in (start_in s.starts) ys }) stays
          ∙ written-is (start_in s.starts) s.areas s.bytes.items addr piece c.put.new.bytes s.pieces own (omega (arith, place.within)) written,
    )
