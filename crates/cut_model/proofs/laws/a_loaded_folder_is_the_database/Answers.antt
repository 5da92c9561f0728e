use Rattle.cut_model.proofs.Reading.{database_read}
use Rattle.cut_model.proofs.Uncut.{root_uncut}
use Rattle.cut_model.proofs.laws.a_loaded_folder_is_the_database.Goals as goal

pub returns : goal.returns
returns c = λ m k stores d valid past is read. database_read c.one_vector.ensures m m k k stores d (root_uncut m k valid past) is read
