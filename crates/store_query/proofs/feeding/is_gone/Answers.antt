use Rattle.std.proofs.Common.{refl, rules}
use Rattle.store_query.specs.Lessening.{asked}
use Rattle.store_query.proofs.feeding.is_gone.Goals as goal

pub returns-then-is_done : goal.returns-then-is_done
returns-then-is_done c = record { took = tt; same = λ q. refl; none = c.is_done.ensures (search rules) (asked c.args.row.now) }
