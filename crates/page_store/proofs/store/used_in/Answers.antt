use Rattle.std.proofs.Common.{sym}
use Rattle.page_store.proofs.Formed.{are_pages, rises_images}
use Rattle.page_store.proofs.Places.{length-images}
use Rattle.page_store.proofs.store.used_in.Goals as goal

pub returns-clause-used : goal.returns-clause-used
returns-clause-used c = sym (length-images c.args.frames.now.slots c.args.spots.now)

pub returns-clause-form : goal.returns-clause-form
returns-clause-form c pid region = are_pages c.args.frames.now.slots pid region c.args.spots.now c.requires.rises c.requires.held

pub returns-clause-rises : goal.returns-clause-rises
returns-clause-rises c = rises_images c.args.frames.now.slots c.args.spots.now c.requires.rises
