use Rattle.one_text.proofs.Movers.{jobs_once, movers_once}
use Rattle.one_text.proofs.laws.the_mover_changes_no_text.Goals as goal

pub returns : goal.returns
returns c = record {
  one_text = movers_once c.one_reading.ensures c.one_printed_list.ensures;
  jobs = jobs_once c.one_reading.ensures c.one_printed_list.ensures;
}
