use Rattle.catalog_root.proofs.Sweeps.{data_no_use, other_no_use}
use Rattle.catalog_root.proofs.cleaning.has_no_use.Goals as goal

pub returns-then-kind-eq0 : goal.returns-then-kind-eq0
returns-then-kind-eq0 c = data_no_use c.args.version c.args.name c.args.numbers.now c.is_among.result c.if-kind-eq0.true c.is_among.ensures

pub returns-then-kind-ne3 : goal.returns-then-kind-ne3
returns-then-kind-ne3 c = other_no_use c.args.version c.args.name c.args.numbers.now c.if-kind-eq0.false c.if-kind-ne3.true
