use Rattle.one_text.proofs.OneStep.{of_one_fate, statements_once}
use Rattle.one_text.proofs.laws.a_statement_has_one_text.Goals as goal

pub returns : goal.returns
returns c = record {
  statements = statements_once c.one_reading.ensures c.one_printed_list.ensures;
  one_fate = of_one_fate c.one_reading.ensures c.one_printed_list.ensures;
}
