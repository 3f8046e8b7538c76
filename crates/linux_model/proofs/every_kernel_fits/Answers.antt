use Rattle.linux_model.proofs.fits.Runs.{every_fits}
use Rattle.linux_model.proofs.every_kernel_fits.Goals as goal

pub returns : goal.returns
returns c = every_fits
