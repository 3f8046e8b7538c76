use Rattle.std.proofs.Common.{◌∙◌, sym}
use Rattle.page_store.proofs.Owned.{frame_is}
use Rattle.page_store.proofs.store.frame_of.Goals as goal

pub returns-then-has_page : goal.returns-then-has_page
returns-then-has_page c = sym (frame_is c.args.frames.now.slots c.args.spots.now c.args.pid.0 c.args.vpn.0 c.hint-hint.result c.requires (sym c.has_page.ensures ∙ c.if-has_page.true))
