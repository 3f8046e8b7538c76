use Rattle.linux_model.proofs.fits.Kept.{all_keep}
use Rattle.linux_model.proofs.allowed_effects_keep_what_fits.Goals as goal

pub returns : goal.returns
returns c = all_keep
