use Rattle.audit_rows.proofs.Valid.{judged, tables_readable}
use Rattle.audit_rows.proofs.judging.judge_rows.Goals as goal

pub judge_tables-requires : goal.judge_tables-requires
judge_tables-requires g c = tables_readable c.args.catalogue.now c.as_slice-tables.result.now c.as_slice-tables.ensures c.requires

pub returns-clause-judged : goal.returns-clause-judged
returns-clause-judged g c = judged (g.D.Disk.holds c.args.disk.now) c.args.catalogue.now c.as_slice-tables.result.now c.least_lge.result c.judge_tables.result c.as_slice-tables.ensures c.least_lge.ensures c.judge_tables.ensures.judged
