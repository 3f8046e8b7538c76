use Rattle.std.proofs.Common.{◌<◌, ◌^◌, ◌∙◌, List, ap, arith, length, refl, subst, sym}
use Rattle.std.specs.List.{AllByRecursion}
use Rattle.page_store.proofs.Laid.{all-put, held_added, images_added}
use Rattle.page_store.proofs.Places.{length-put_new}
use Rattle.page_store.specs.Spots.{AreHeld, images, spot_key}
use Rattle.page_store.specs.declared.spot.Spot.{Spot}
use Rattle.page_store.proofs.store.add.Goals as goal

pub returns-clause-pages : goal.returns-clause-pages
returns-clause-pages c =
    let s : Spot = record { pid = c.args.page.pid; vpn = c.args.page.vpn; frame = c.insert-frame.result } in
    ap (λ (l : List Spot). images c.insert-frame.new.self.slots l) c.in-Ok.ensures.ok
    ∙ images_added c.args.frames.now.slots c.insert-frame.new.self.slots c.args.spots.now.items s c.args.page c.requires.tied.held c.insert-frame.ensures.was_vacant c.insert-frame.ensures.updates.changed c.insert-frame.ensures.updates.others

pub returns-clause-length : goal.returns-clause-length
returns-clause-length c =
    let s : Spot = record { pid = c.args.page.pid; vpn = c.args.page.vpn; frame = c.insert-frame.result } in
    let more = length-put_new spot_key s c.args.spots.now.items c.requires.absent in
    let is = ap length c.in-Ok.ensures.ok in
    omega (arith, more, is)

pub returns-clause-tied : goal.returns-clause-tied
returns-clause-tied c =
    let s : Spot = record { pid = c.args.page.pid; vpn = c.args.page.vpn; frame = c.insert-frame.result } in
    let longer = returns-clause-length c in
    let each = c.requires.tied.each in
    let len = c.insert-frame.ensures.len in
    record {
      rises = c.in-Ok.ensures.rises;
      held = subst (λ (l : List Spot). AreHeld c.insert-frame.new.self.slots l) (sym c.in-Ok.ensures.ok)
          (held_added c.args.frames.now.slots c.insert-frame.new.self.slots c.args.spots.now.items s c.args.page c.requires.tied.held c.insert-frame.ensures.was_vacant c.insert-frame.ensures.updates.changed c.insert-frame.ensures.updates.others refl refl c.requires.bytes);
      each = omega (arith, longer, each, len);
      fit = subst (AllByRecursion (λ (t : Spot). t.vpn.0 < 2 ^ 64)) (sym c.in-Ok.ensures.ok) (all-put (λ (t : Spot). t.vpn.0 < 2 ^ 64) s c.args.spots.now.items c.requires.fits c.requires.tied.fit);
    }
