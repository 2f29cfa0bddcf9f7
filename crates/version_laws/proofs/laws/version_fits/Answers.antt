use Rattle.version_laws.proofs.Fitting.{fits}
use Rattle.version_laws.proofs.laws.version_fits.Goals as goal

pub returns : goal.returns
returns c = fits
