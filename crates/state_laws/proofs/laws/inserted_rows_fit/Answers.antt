use Rattle.state_laws.proofs.Fits.{inserted_fit}
use Rattle.state_laws.proofs.laws.inserted_rows_fit.Goals as goal

pub returns : goal.returns
returns c = inserted_fit
