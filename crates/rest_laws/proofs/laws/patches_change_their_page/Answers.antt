use Rattle.rest_laws.proofs.Lookup.{page-patched}
use Rattle.rest_laws.proofs.laws.patches_change_their_page.Goals as goal

pub returns : goal.returns
returns c = page-patched
