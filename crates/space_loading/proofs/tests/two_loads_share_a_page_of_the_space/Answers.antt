use Rattle.std.proofs.Common.{ℕ, ap}
use Rattle.lego_base.specs.Space.{Space}
use Rattle.space_loading.proofs.tests.two_loads_share_a_page_of_the_space.Goals as goal

pub load_program-requires-clause-bare : goal.load_program-requires-clause-bare
load_program-requires-clause-bare g c = ap (λ (spaces : ℕ → Space). spaces 1) c.in_ok-memory.ensures
