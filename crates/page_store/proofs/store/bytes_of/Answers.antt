use Rattle.std.proofs.Common.{◌∙◌, List, None, Some, ap, get_or, length, refl, sym, ℕ}
use Rattle.lego_base.specs.Keys.{find, key_at}
use Rattle.page_store.proofs.Laid.{found_held, held_whole, page_in_frame, page_in_none, slot_of}
use Rattle.page_store.proofs.Owned.{from_frame, from_none}
use Rattle.page_store.specs.Spots.{bytes_in, spot_key}
use Rattle.page_store.proofs.store.bytes_of.Goals as goal

pub bytes-requires : goal.bytes-requires
bytes-requires c =
    let there = from_frame (find spot_key (key_at c.args.pid.0 c.args.vpn.0) c.args.spots.now) c.in-Some.frame (sym c.in-Some.ensures) in
    let held = found_held c.args.frames.now.slots c.args.spots.now (key_at c.args.pid.0 c.args.vpn.0) there.0 c.requires.held there.1 in
    let slot = slot_of c.args.frames.now.slots there.0 held.0 in
    rw (sym there.2, slot.1) refl

pub returns-in-Some-clause-bytes : goal.returns-in-Some-clause-bytes
returns-in-Some-clause-bytes c =
    let there = from_frame (find spot_key (key_at c.args.pid.0 c.args.vpn.0) c.args.spots.now) c.in-Some.frame (sym c.in-Some.ensures) in
    page_in_frame c.args.frames.now.slots c.args.spots.now c.args.pid.0 c.args.vpn.0 there.0 there.1
    ∙ ap (λ (b : List ℕ). Some b) (ap (λ (n : ℕ). bytes_in (get_or c.args.frames.now.slots n None)) there.2 ∙ sym c.bytes.ensures)

pub returns-in-Some-clause-length : goal.returns-in-Some-clause-length
returns-in-Some-clause-length c =
    let there = from_frame (find spot_key (key_at c.args.pid.0 c.args.vpn.0) c.args.spots.now) c.in-Some.frame (sym c.in-Some.ensures) in
    let held = found_held c.args.frames.now.slots c.args.spots.now (key_at c.args.pid.0 c.args.vpn.0) there.0 c.requires.held there.1 in
    ap length (c.bytes.ensures ∙ ap (λ (n : ℕ). bytes_in (get_or c.args.frames.now.slots n None)) (sym there.2)) ∙ held_whole there.0 (get_or c.args.frames.now.slots there.0.frame None) held.0

pub returns-in-None-clause-bytes : goal.returns-in-None-clause-bytes
returns-in-None-clause-bytes c =
    page_in_none c.args.frames.now.slots c.args.spots.now c.args.pid.0 c.args.vpn.0 (from_none (find spot_key (key_at c.args.pid.0 c.args.vpn.0) c.args.spots.now) (sym c.in-None.ensures))
