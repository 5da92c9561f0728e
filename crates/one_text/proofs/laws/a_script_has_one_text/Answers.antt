use Rattle.one_text.proofs.OneScript.{scripts_once}
use Rattle.one_text.proofs.laws.a_script_has_one_text.Goals as goal

pub returns : goal.returns
returns c = scripts_once c.one_reading.ensures c.one_printed_list.ensures
