use Rattle.row_setting.proofs.Bags.{refused_alike, set_alike}
use Rattle.row_setting.proofs.laws.settings_see_a_bag.Goals as goal

pub returns-clause-refusal : goal.returns-clause-refusal
returns-clause-refusal c = refused_alike

pub returns-clause-rows : goal.returns-clause-rows
returns-clause-rows c = set_alike
