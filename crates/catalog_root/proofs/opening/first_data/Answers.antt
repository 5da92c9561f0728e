use Rattle.catalog_root.proofs.Searches.{first_is_least}
use Rattle.catalog_root.proofs.opening.first_data.Goals as goal

pub returns-then-name-eq0-clause-found : goal.returns-then-name-eq0-clause-found
returns-then-name-eq0-clause-found c = λ m. first_is_least m c.args.names.now c.loop-name.name-index c.loop-name-test.true c.if-name-eq0.true c.loop-name.invariant
