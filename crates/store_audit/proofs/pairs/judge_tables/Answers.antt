use Rattle.std.proofs.Common.{◌∙◌, refl}
use Rattle.std.specs.List.{All, flat_map}
use Rattle.store_audit.specs.Passes.{CanRead, super_pairs}
use Rattle.store_audit.proofs.Firsts.{all_passed, at_place, passed_more, tables_in_turn, told_here}
use Rattle.col_disk.proofs.Moving.{moved_join, moved_none}
use Rattle.store_audit.proofs.pairs.judge_tables.Goals as goal

pub loop-table-init : goal.loop-table-init
loop-table-init g c = record { ahead = λ o judged. judged; kept = refl; moved = moved_none g.D.Disk c.args.disk.now }

pub judge_table-requires : goal.judge_table-requires
judge_table-requires g c = at_place (λ t. All (CanRead t) t.projections) c.args.tables.now c.loop-table.table-index c.table-item.result c.loop-table-test.true c.table-item.is c.requires

pub returns-in-Ok-Some-clause-judged : goal.returns-in-Ok-Some-clause-judged
returns-in-Ok-Some-clause-judged g c =
    let found = c.in-Ok-Some in
    told_here super_pairs (flat_map super_pairs) tables_in_turn (g.D.Disk.holds c.args.disk.now) (g.D.Disk.holds c.loop-table.disk) c.args.bounds.epoch c.args.bounds.mark c.args.tables.now c.loop-table.table-index c.table-item.result found.field-0 found.verdict
    c.loop-table-test.true c.table-item.is c.loop-table.invariant.kept found.field-0-is c.loop-table.invariant.ahead found.ensures.judged

pub returns-in-Ok-Some-clause-moved : goal.returns-in-Ok-Some-clause-moved
returns-in-Ok-Some-clause-moved g c = moved_join g.D.Disk c.loop-table.invariant.moved c.judge_table.ensures.moved

pub returns-in-Err-clause-moved : goal.returns-in-Err-clause-moved
returns-in-Err-clause-moved g c = moved_join g.D.Disk c.loop-table.invariant.moved c.judge_table.ensures.moved

pub loop-table-preserved : goal.loop-table-preserved
loop-table-preserved g c =
    let passed = c.in-Ok-None in
    record {
      ahead = passed_more super_pairs (flat_map super_pairs) tables_in_turn (g.D.Disk.holds c.args.disk.now) (g.D.Disk.holds c.loop-table.disk) c.args.bounds.epoch c.args.bounds.mark c.args.tables.now c.loop-table.table-index c.table-item.result passed.field-0
          c.loop-table-test.true c.table-item.is c.loop-table.invariant.kept passed.field-0-is c.loop-table.invariant.ahead passed.ensures.judged;
      kept = c.judge_table.ensures.kept ∙ c.loop-table.invariant.kept;
      moved = moved_join g.D.Disk c.loop-table.invariant.moved c.judge_table.ensures.moved;
    }

pub returns-clause-judged : goal.returns-clause-judged
returns-clause-judged g c =
    all_passed super_pairs (flat_map super_pairs) tables_in_turn (g.D.Disk.holds c.args.disk.now) c.args.bounds.epoch c.args.bounds.mark c.args.tables.now c.loop-table.table-index c.loop-table-test.false c.loop-table.invariant.ahead
