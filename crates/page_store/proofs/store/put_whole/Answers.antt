use Rattle.std.proofs.Common.{◌≡◌, ◌∙◌, List, ap, length, subst}
use Rattle.std.specs.Prelude.{OnOk, nat_lt}
use Rattle.lego_base.specs.declared.records.PageImage.{PageImage}
use Rattle.page_store.proofs.Laid.{whole_is}
use Rattle.page_store.specs.Spots.{images}
use Rattle.page_store.proofs.store.put_whole.Goals as goal

pub returns-clause-ok : goal.returns-clause-ok
returns-clause-ok c =
    subst (λ (l : List PageImage). OnOk c.lay.result (images c.lay.new.frames.slots c.lay.new.spots.items ≡ l)) (whole_is c.args.frames.now.slots c.args.spots.now.items c.args.pid c.args.vpn c.args.bytes.now c.requires.tied.held c.requires.bytes) c.lay.ensures.ok

pub returns-clause-full : goal.returns-clause-full
returns-clause-full c =
    c.lay.ensures.full ∙ ap (λ (l : List PageImage). nat_lt c.args.most (length l)) (whole_is c.args.frames.now.slots c.args.spots.now.items c.args.pid c.args.vpn c.args.bytes.now c.requires.tied.held c.requires.bytes)
