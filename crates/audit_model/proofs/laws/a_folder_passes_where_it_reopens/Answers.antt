use Rattle.audit_model.proofs.Back.{reopening_passes}
use Rattle.audit_model.proofs.Yes.{passing_reopens}
use Rattle.audit_model.proofs.laws.a_folder_passes_where_it_reopens.Goals as goal

pub returns : goal.returns
returns c = λ m v r root. (λ passes. let k = passing_reopens c.one_list_of_rows.ensures.held m v r root passes in (k.0, k.1), λ k. reopening_passes m v r k.0 root k.1)
