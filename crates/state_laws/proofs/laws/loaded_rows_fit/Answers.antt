use Rattle.state_laws.proofs.Loaded.{loaded_fit, loaded_rows}
use Rattle.state_laws.proofs.laws.loaded_rows_fit.Goals as goal

pub returns : goal.returns
returns c = record { fit = loaded_fit; rows = loaded_rows }
