use Rattle.std.proofs.Common.{◌≡◌, ◌∙◌, List, None, ap, arith, length, sym, ℕ}
use Rattle.std.proofs.lemmas.Bool.{le-ltb, lt-ltb}
use Rattle.lego_base.specs.Keys.{find, key_at, put}
use Rattle.lego_base.specs.Pieces.{laid_over}
use Rattle.lego_msg.specs.Maps.{page_key, patched}
use Rattle.page_store.proofs.Laid.{length_added, page_absent}
use Rattle.page_store.proofs.Owned.{from_none}
use Rattle.page_store.specs.Spots.{images, spot_key}
use Rattle.page_store.specs.Store.{patch_of}
use Rattle.page_store.specs.declared.spot.Spot.{Spot}
use Rattle.page_store.proofs.store.lay.Goals as goal

pub returns-then-len-most-clause-full : goal.returns-then-len-most-clause-full
returns-then-len-most-clause-full c =
    let absent : find spot_key (key_at c.args.pid.0 c.args.vpn.0) c.args.spots.now.items ≡ None = ap (λ (l : List Spot). find spot_key (key_at c.args.pid.0 c.args.vpn.0) l) (sym c.as_slice.ensures.value) ∙ from_none (find spot_key (key_at c.args.pid.0 c.args.vpn.0) c.as_slice.result.now) (sym c.in-None.ensures) in
    let more = length_added (patch_of c.args.pid c.args.vpn c.args.off c.args.bytes.now) c.args.frames.now.slots c.args.spots.now.items absent in
    sym (lt-ltb c.args.most (length (patched (patch_of c.args.pid c.args.vpn c.args.off c.args.bytes.now) (images c.args.frames.now.slots c.args.spots.now.items))) (omega (arith, more)))

pub returns-else-len-most-clause-ok : goal.returns-else-len-most-clause-ok
returns-else-len-most-clause-ok c =
    let absent : find spot_key (key_at c.args.pid.0 c.args.vpn.0) c.args.spots.now.items ≡ None = ap (λ (l : List Spot). find spot_key (key_at c.args.pid.0 c.args.vpn.0) l) (sym c.as_slice.ensures.value) ∙ from_none (find spot_key (key_at c.args.pid.0 c.args.vpn.0) c.as_slice.result.now) (sym c.in-None.ensures) in
    let bytes = c.page_of.ensures.bytes ∙ ap (λ (b : List ℕ). laid_over b c.args.off c.args.bytes.now) (sym (page_absent c.args.frames.now.slots c.args.spots.now.items c.args.pid.0 c.args.vpn.0 absent)) in
    c.add.ensures.pages
    ∙ λ i. put page_key (record { pid = c.page_of.ensures.pid i; vpn = c.page_of.ensures.vpn i; bytes = bytes i }) (images c.args.frames.now.slots c.args.spots.now.items)

pub returns-else-len-most-clause-full : goal.returns-else-len-most-clause-full
returns-else-len-most-clause-full c =
    let absent : find spot_key (key_at c.args.pid.0 c.args.vpn.0) c.args.spots.now.items ≡ None = ap (λ (l : List Spot). find spot_key (key_at c.args.pid.0 c.args.vpn.0) l) (sym c.as_slice.ensures.value) ∙ from_none (find spot_key (key_at c.args.pid.0 c.args.vpn.0) c.as_slice.result.now) (sym c.in-None.ensures) in
    let more = length_added (patch_of c.args.pid c.args.vpn c.args.off c.args.bytes.now) c.args.frames.now.slots c.args.spots.now.items absent in
    let longer = c.add.ensures.length in
    let few = c.requires.few in
    let differ = c.if-len-most.false in
    let len = c.len.ensures in
    sym (le-ltb c.args.most (length (patched (patch_of c.args.pid c.args.vpn c.args.off c.args.bytes.now) (images c.args.frames.now.slots c.args.spots.now.items))) (omega (arith, more, few, differ, len)))
