use Rattle.std.proofs.Common.{List, rules, sym, subst}
use Rattle.std.specs.Prelude.{Ok}
use Rattle.std.specs.List.{All, flat_map}
use Rattle.col_disk.proofs.Moving.{moved_join, moved_none}
use Rattle.catalog_types.specs.declared.catalogue.Projection.{Projection}
use Rattle.audit_files.specs.Walks.{projection_files, table_files, Faults, Judges, AreNamed, AreAllNamed}
use Rattle.audit_files.proofs.Joins.{at_place, walk_none, walk_more, walk_stopped, walk_ended}
use Rattle.audit_files.proofs.judging.judge_tables.Goals as goal

pub loop-table-init : goal.loop-table-init
loop-table-init g c = record { judged = walk_none (g.D.Disk.holds c.args.disk.now); kept = search rules; moved = moved_none g.D.Disk c.args.disk.now }

pub judge_projections-requires : goal.judge_projections-requires
judge_projections-requires g c = subst (All AreNamed) (sym c.as_slice.ensures) (at_place AreAllNamed c.args.tables.now c.loop-table.table-index c.table-item.result c.loop-table-test.true c.table-item.is c.requires)

pub loop-table-preserved : goal.loop-table-preserved
loop-table-preserved g c =
    let now = g.D.Disk.holds c.loop-table.disk in
    let inv = c.loop-table.invariant in
    record {
      judged = walk_more table_files c.args.tables.now c.loop-table.table-index c.table-item.result (g.D.Disk.holds c.args.disk.now) now c.loop-table-test.true c.table-item.is inv.kept inv.judged
          (subst (λ (ys : List Projection). Judges now (flat_map projection_files ys) (Ok tt)) c.as_slice.ensures c.in-Ok.ensures.judged);
      kept = search rules;
      moved = moved_join g.D.Disk inv.moved c.judge_projections.ensures.moved;
    }

pub returns-in-Err-clause-judged : goal.returns-in-Err-clause-judged
returns-in-Err-clause-judged g c =
    let now = g.D.Disk.holds c.loop-table.disk in
    let inv = c.loop-table.invariant in
    walk_stopped table_files c.args.tables.now c.loop-table.table-index c.table-item.result (g.D.Disk.holds c.args.disk.now) now c.in-Err.fault c.loop-table-test.true c.table-item.is inv.kept inv.judged
    (subst (λ (ys : List Projection). Faults now (flat_map projection_files ys) c.in-Err.fault) c.as_slice.ensures c.in-Err.ensures.judged)

pub returns-in-Err-clause-moved : goal.returns-in-Err-clause-moved
returns-in-Err-clause-moved g c = moved_join g.D.Disk c.loop-table.invariant.moved c.judge_projections.ensures.moved

pub returns-clause-judged : goal.returns-clause-judged
returns-clause-judged g c = walk_ended table_files c.args.tables.now c.loop-table.table-index (g.D.Disk.holds c.args.disk.now) c.loop-table-test.false c.loop-table.invariant.judged
