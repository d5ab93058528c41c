use Rattle.shared_pages.proofs.Fitting.{fits_later}
use Rattle.shared_pages.proofs.laws.later_fits.Goals as goal

pub returns : goal.returns
returns c = fits_later
