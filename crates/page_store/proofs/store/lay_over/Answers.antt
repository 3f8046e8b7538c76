use Rattle.std.proofs.Common.{◌∙◌, List, None, Option, ap, get_or, refl, set, subst, sym, ℕ}
use Rattle.lego_base.specs.Keys.{find, key_at}
use Rattle.page_store.proofs.Laid.{found_held, held_over, images_over, length_over, slot_of}
use Rattle.page_store.proofs.Owned.{from_frame}
use Rattle.page_store.specs.Spots.{AreHeld, images, laid, spot_key}
use Rattle.page_store.specs.Store.{patch_of}
use Rattle.page_store.specs.declared.frames.Page.{Page}
use Rattle.page_store.proofs.store.lay_over.Goals as goal

pub lay-requires-clause-held : goal.lay-requires-clause-held
lay-requires-clause-held c =
    let there = from_frame (find spot_key (key_at c.args.pid.0 c.args.vpn.0) c.args.spots.now) c.args.frame c.requires.frame in
    let held = found_held c.args.frames.now.slots c.args.spots.now (key_at c.args.pid.0 c.args.vpn.0) there.0 c.requires.tied.held there.1 in
    let slot = slot_of c.args.frames.now.slots there.0 held.0 in
    rw (sym there.2, slot.1) refl

pub returns-clause-pages : goal.returns-clause-pages
returns-clause-pages c =
    let there = from_frame (find spot_key (key_at c.args.pid.0 c.args.vpn.0) c.args.spots.now) c.args.frame c.requires.frame in
    let now : ℕ → List (Option Page) = λ n. set c.args.frames.now.slots n (laid c.args.off c.args.bytes.now (get_or c.args.frames.now.slots n None)) in
    ap (λ (f : List (Option Page)). images f c.args.spots.now) (c.lay.ensures.slots ∙ ap now (sym there.2))
    ∙ images_over (patch_of c.args.pid c.args.vpn c.args.off c.args.bytes.now) c.args.frames.now.slots c.args.spots.now there.0 c.requires.tied there.1 c.requires.within

pub returns-clause-length : goal.returns-clause-length
returns-clause-length c =
    let there = from_frame (find spot_key (key_at c.args.pid.0 c.args.vpn.0) c.args.spots.now) c.args.frame c.requires.frame in
    length_over (patch_of c.args.pid c.args.vpn c.args.off c.args.bytes.now) c.args.frames.now.slots c.args.spots.now there.0 c.requires.tied there.1 c.requires.within

pub returns-clause-tied : goal.returns-clause-tied
returns-clause-tied c =
    let there = from_frame (find spot_key (key_at c.args.pid.0 c.args.vpn.0) c.args.spots.now) c.args.frame c.requires.frame in
    let now : ℕ → List (Option Page) = λ n. set c.args.frames.now.slots n (laid c.args.off c.args.bytes.now (get_or c.args.frames.now.slots n None)) in
    let slots = c.lay.ensures.slots ∙ ap now (sym there.2) in
    record {
      rises = c.requires.tied.rises;
      held = subst (λ (f : List (Option Page)). AreHeld f c.args.spots.now) (sym slots) (held_over (patch_of c.args.pid c.args.vpn c.args.off c.args.bytes.now) c.args.frames.now.slots c.args.spots.now there.0 c.requires.tied there.1 c.requires.within);
      each = c.lay.ensures.len ∙ c.requires.tied.each;
      fit = c.requires.tied.fit;
    }
