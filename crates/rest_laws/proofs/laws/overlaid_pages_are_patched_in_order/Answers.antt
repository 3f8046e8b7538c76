use Rattle.rest_laws.proofs.Lookup.{page-overlaid}
use Rattle.rest_laws.proofs.laws.overlaid_pages_are_patched_in_order.Goals as goal

pub returns : goal.returns
returns c = page-overlaid
