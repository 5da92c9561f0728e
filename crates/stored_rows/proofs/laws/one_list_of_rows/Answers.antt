use Rattle.stored_rows.proofs.OneList.{one_marks, one_held, one_stored}
use Rattle.stored_rows.proofs.laws.one_list_of_rows.Goals as goal

pub returns : goal.returns
returns c = record {
  vector = one_marks c.one_vector.ensures;
  held = one_held c.one_vector.ensures c.one_container.ensures;
  stored = one_stored c.one_container.ensures;
}
