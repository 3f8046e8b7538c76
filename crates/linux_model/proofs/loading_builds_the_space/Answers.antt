use Rattle.linux_model.proofs.Loading.{loading}
use Rattle.linux_model.proofs.loading_builds_the_space.Goals as goal

pub returns : goal.returns
returns c = loading
