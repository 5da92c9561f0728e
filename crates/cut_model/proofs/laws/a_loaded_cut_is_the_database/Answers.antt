use Rattle.cut_model.proofs.Reading.{database_read}
use Rattle.cut_model.proofs.laws.a_loaded_cut_is_the_database.Goals as goal

pub returns : goal.returns
returns c = database_read c.one_vector.ensures
