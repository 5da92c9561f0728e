use Rattle.one_text.proofs.OneQuery.{query_printed, query_refused}
use Rattle.one_text.proofs.OneSelect.{selects_once}
use Rattle.one_text.proofs.laws.a_query_has_one_text.Goals as goal

pub returns : goal.returns
returns c = record {
  refused = query_refused c.order_of_rows_is_free.ensures.fault;
  printed = query_printed c.order_of_rows_is_free.ensures.printed;
  steps = selects_once c.one_reading.ensures (query_refused c.order_of_rows_is_free.ensures.fault) (query_printed c.order_of_rows_is_free.ensures.printed);
}
