use Rattle.col_disk.proofs.Moving.{moved_join}
use Rattle.audit_files.proofs.Lists.{columns_stopped, epochs_stopped, container_judged}
use Rattle.audit_files.proofs.containers.judge_container.Goals as goal

pub returns-in-Err-clause-judged : goal.returns-in-Err-clause-judged
returns-in-Err-clause-judged g c = columns_stopped c.args.shape.now c.args.entry.now (g.D.Disk.holds c.args.disk.now) c.in-Err.fault c.in-Err.ensures.judged

pub returns-in-Err-judge_column-clause-judged : goal.returns-in-Err-judge_column-clause-judged
returns-in-Err-judge_column-clause-judged g c =
    epochs_stopped c.args.shape.now c.args.entry.now (g.D.Disk.holds c.args.disk.now) (g.D.Disk.holds c.judge_columns.new.disk) c.in-Err-judge_column.fault c.judge_columns.ensures.kept c.in-Ok.ensures.judged c.in-Err-judge_column.ensures.judged

pub returns-in-Err-judge_column-clause-moved : goal.returns-in-Err-judge_column-clause-moved
returns-in-Err-judge_column-clause-moved g c = moved_join g.D.Disk c.judge_columns.ensures.moved c.judge_column.ensures.moved

pub returns-clause-judged : goal.returns-clause-judged
returns-clause-judged g c =
    container_judged c.args.shape.now c.args.entry.now (g.D.Disk.holds c.args.disk.now) (g.D.Disk.holds c.judge_columns.new.disk) (g.D.Disk.holds c.judge_column.new.disk) c.judge_vector.result c.judge_columns.ensures.kept c.judge_column.ensures.kept
    c.in-Ok.ensures.judged c.in-Ok-judge_column.ensures.judged c.judge_vector.ensures.judged

pub returns-clause-moved : goal.returns-clause-moved
returns-clause-moved g c = moved_join g.D.Disk (moved_join g.D.Disk c.judge_columns.ensures.moved c.judge_column.ensures.moved) c.judge_vector.ensures.moved
