use Rattle.proj_store.proofs.Vectors.{loaded_vectors, stored_vectors}
use Rattle.proj_store.proofs.laws.vectors_are_those_of_the_disk.Goals as goal

pub returns : goal.returns
returns c = record { loaded = loaded_vectors; stores = stored_vectors }
