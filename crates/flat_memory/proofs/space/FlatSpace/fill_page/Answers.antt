use Rattle.std.proofs.Common.{◌≡◌, ◌+◌, ◌-◌, ◌/◌, ◌%◌, ◌≤◌, length, sym, ap, ◌∙◌, arith, rules}
use Rattle.std.specs.Vec.{with_items}
use Rattle.std.proofs.lemmas.List.{with_items_is}
use borrow.Rule.Slice.PartMut.{put_mid}
use Rattle.lego_base.specs.Space.{with_bytes}
use Rattle.flat_memory.specs.Pieces.{start_in, byte_in, place_in, Written}
use Rattle.flat_memory.proofs.Stores.{written-slice}
use Rattle.flat_memory.proofs.Pieces.{written-is}
use Rattle.flat_memory.proofs.space.FlatSpace.fill_page.Goals as goal

pub returns : goal.returns
returns c =
    let t = c.own_page.new.self in
    let addr = c.args.addr in
    let piece = c.args.bytes.now in
    let at = c.in_ok-start.start + addr % 4096 in
    let new = put_mid at (at + length piece - at) c.deref_mut.result.now c.copy_from_slice.new.self in
    let place : at ≡ place_in (start_in t.starts) addr = ap (λ n. n + addr % 4096) c.in_ok-start.ensures.start in
    let ends : place_in (start_in t.starts) addr + length piece ≤ length t.bytes.items = omega (arith, t.pieces.ends (addr / 4096)) in
    let written : Written t.bytes.items (place_in (start_in t.starts) addr) piece new = written-slice t.bytes.items c.deref_mut.result.now at (place_in (start_in t.starts) addr) (at + length piece - at) piece c.copy_from_slice.new.self (search rules) (search rules) (omega arith) place ends in
    let stays : (with_items t.bytes new).items ≡ new = with_items_is t.bytes new (written.length_stays ∙ sym t.bytes.ok.0) in
    ap (λ ys. record { areas = t.areas; byte = byte_in (start_in t.starts) ys }) stays
    ∙ written-is (start_in t.starts) t.areas t.bytes.items addr piece new t.pieces c.in_ok-start.ensures.own c.requires written
    ∙ ap (λ s. with_bytes s addr piece) c.in_ok-start.ensures.same
