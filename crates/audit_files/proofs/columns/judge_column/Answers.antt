use Rattle.std.proofs.Common.{◌∙◌, ap}
use Rattle.col_disk.proofs.Moving.{moved_join}
use Rattle.ros_container.specs.Files.{body_of, index_of}
use Rattle.audit_files.proofs.TwoFiles.{index_blamed, column_judged}
use Rattle.audit_files.proofs.columns.judge_column.Goals as goal

pub returns-in-Err-clause-judged : goal.returns-in-Err-clause-judged
returns-in-Err-clause-judged g c =
    let k = c.args.entry.now in
    index_blamed c.args.shape.now k c.args.column (g.D.Disk.holds c.args.disk.now) c.index_of.result c.in-Err.fault (c.index_of.ensures ∙ ap (index_of k.base) c.place_in-place.ensures) c.in-Err.ensures.blamed

pub returns-clause-judged : goal.returns-clause-judged
returns-clause-judged g c =
    let k = c.args.entry.now in
    let of = c.in-Ok.ensures.index in
    column_judged c.args.shape.now k c.args.column (g.D.Disk.holds c.args.disk.now) (g.D.Disk.holds c.read_index.new.disk) c.index_of.result c.body_of.result c.encoding_in-encoding.result c.in-Ok.at c.judge_body.result
    (record { index_is = c.index_of.ensures ∙ ap (index_of k.base) c.place_in-place.ensures; body_is = c.body_of.ensures ∙ ap (body_of k.base) c.place_in-place.ensures; encoding_is = c.encoding_in-encoding.ensures })
    (record { is = of.1; fits = of.2; rows = of.0; there = c.in-Ok.ensures.found }) c.read_index.ensures.kept c.judge_body.ensures.found c.judge_body.ensures.blamed

pub returns-clause-moved : goal.returns-clause-moved
returns-clause-moved g c = moved_join g.D.Disk c.read_index.ensures.moved c.judge_body.ensures.moved
