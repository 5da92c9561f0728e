use Rattle.std.proofs.Common.{take}
use Rattle.query_run.proofs.Behind.{key_bars}
use Rattle.query_run.proofs.past.passed_run.Goals as goal

pub returns-clause-passed : goal.returns-clause-passed
returns-clause-passed c =
    key_bars c.args.query.now c.args.row.now c.args.columns.now c.in-Some.key.now c.in-Some._later.now c.as_slice.result.now (take c.behind_run.result c.args.places.now) c.as_slice.ensures c.in-Some.ensures.cases.0 c.behind_run.ensures.behind
