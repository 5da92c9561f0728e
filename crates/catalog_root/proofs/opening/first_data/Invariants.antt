use Rattle.catalog_root.proofs.Searches.{NoDataBefore}
use Rattle.catalog_root.proofs.opening.first_data.Given as goal

abbrev pub invariant-loop-name : goal.invariant-loop-name
invariant-loop-name l = NoDataBefore l.names l.name-index
