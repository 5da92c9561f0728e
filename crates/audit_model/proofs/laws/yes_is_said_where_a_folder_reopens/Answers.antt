use Rattle.audit_model.proofs.Telling.{reopening_says_yes, yes_reopens}
use Rattle.audit_model.proofs.laws.yes_is_said_where_a_folder_reopens.Goals as goal

pub returns : goal.returns
returns c = record { reopens = yes_reopens c.one_list_of_rows.ensures.held; yes = reopening_says_yes }
