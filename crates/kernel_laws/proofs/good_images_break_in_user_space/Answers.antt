use Rattle.kernel_laws.proofs.Breaks.{good_images}
use Rattle.kernel_laws.proofs.good_images_break_in_user_space.Goals as goal

pub returns : goal.returns
returns c = good_images
