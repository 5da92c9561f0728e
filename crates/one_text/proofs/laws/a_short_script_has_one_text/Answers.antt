use Rattle.one_text.proofs.Lasting.{short_scripts_once}
use Rattle.one_text.proofs.laws.a_short_script_has_one_text.Goals as goal

pub returns : goal.returns
returns c = short_scripts_once c.one_reading.ensures c.one_printed_list.ensures
