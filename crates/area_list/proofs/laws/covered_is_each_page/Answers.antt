use Rattle.area_list.proofs.Covers.{covers-each}
use Rattle.area_list.proofs.laws.covered_is_each_page.Goals as goal

pub returns : goal.returns
returns c = covers-each
