use Rattle.std.proofs.Common.{◌≡◌, rules}
use Rattle.store_core.proofs.First.{named_at}
use Rattle.store_core.proofs.store.place_in.Goals as goal

pub returns-then-eq : goal.returns-then-eq
returns-then-eq c =
    let same : c.index-tables-i.result.name ≡ c.args.name.now = search rules in
    named_at c.args.tables.now c.loop-i.i c.index-tables-i.result c.args.name.now c.loop-i-test.true c.index-tables-i.is same
