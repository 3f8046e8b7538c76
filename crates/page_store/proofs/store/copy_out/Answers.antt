use Rattle.std.proofs.Common.{◌∙◌, List, None, ap, get_or, length, refl, sym, ℕ}
use Rattle.lego_base.specs.Keys.{find, key_at}
use Rattle.lego_base.specs.Pieces.{piece}
use Rattle.page_store.proofs.Laid.{found_held, page_absent, page_there, slot_of, zeros_piece}
use Rattle.page_store.proofs.Owned.{from_frame, from_none}
use Rattle.page_store.specs.Spots.{spot_key}
use Rattle.page_store.proofs.store.copy_out.Goals as goal

pub read-requires-clause-held : goal.read-requires-clause-held
read-requires-clause-held c =
    let there = from_frame (find spot_key (key_at c.args.pid.0 c.args.vpn.0) c.args.spots.now) c.in-Some.frame (sym c.in-Some.ensures) in
    let held = found_held c.args.frames.now.slots c.args.spots.now (key_at c.args.pid.0 c.args.vpn.0) there.0 c.requires.tied.held there.1 in
    let slot = slot_of c.args.frames.now.slots there.0 held.0 in
    rw (sym there.2, slot.1) refl

pub returns-in-Some : goal.returns-in-Some
returns-in-Some c =
    let there = from_frame (find spot_key (key_at c.args.pid.0 c.args.vpn.0) c.args.spots.now) c.in-Some.frame (sym c.in-Some.ensures) in
    let held = found_held c.args.frames.now.slots c.args.spots.now (key_at c.args.pid.0 c.args.vpn.0) there.0 c.requires.tied.held there.1 in
    let slot = slot_of c.args.frames.now.slots there.0 held.0 in
    c.read.ensures slot.0 (ap (λ (n : ℕ). get_or c.args.frames.now.slots n None) (sym there.2) ∙ slot.1)
    ∙ ap (λ (page : List ℕ). piece page c.args.off (length c.args.buf.now)) (sym slot.2 ∙ sym (page_there c.args.frames.now.slots c.args.spots.now c.args.pid.0 c.args.vpn.0 there.0 there.1))

pub returns-in-None : goal.returns-in-None
returns-in-None c =
    c.fill.ensures.after (λ y h. h)
    ∙ (zeros_piece c.args.off (length c.args.buf.now) c.requires.within
    ∙ ap (λ (page : List ℕ). piece page c.args.off (length c.args.buf.now)) (sym (page_absent c.args.frames.now.slots c.args.spots.now c.args.pid.0 c.args.vpn.0 (from_none (find spot_key (key_at c.args.pid.0 c.args.vpn.0) c.args.spots.now) (sym c.in-None.ensures)))))
