use Rattle.std.proofs.Common.{List, rules, sym, subst}
use Rattle.std.specs.Prelude.{Ok}
use Rattle.std.specs.List.{All, flat_map}
use Rattle.col_disk.proofs.Moving.{moved_join, moved_none}
use Rattle.catalog_types.specs.declared.catalogue.Container.{Container}
use Rattle.audit_files.specs.Walks.{container_files, projection_files, Faults, Judges, IsNamed, AreNamed}
use Rattle.audit_files.proofs.Joins.{at_place, walk_none, walk_more, walk_stopped, walk_ended}
use Rattle.audit_files.proofs.judging.judge_projections.Goals as goal

pub loop-shape-init : goal.loop-shape-init
loop-shape-init g c = record { judged = walk_none (g.D.Disk.holds c.args.disk.now); kept = search rules; moved = moved_none g.D.Disk c.args.disk.now }

pub judge_containers-requires : goal.judge_containers-requires
judge_containers-requires g c = subst (All IsNamed) (sym c.as_slice.ensures) (at_place AreNamed c.args.shapes.now c.loop-shape.shape-index c.shape-item.result c.loop-shape-test.true c.shape-item.is c.requires)

pub loop-shape-preserved : goal.loop-shape-preserved
loop-shape-preserved g c =
    let now = g.D.Disk.holds c.loop-shape.disk in
    let inv = c.loop-shape.invariant in
    record {
      judged = walk_more projection_files c.args.shapes.now c.loop-shape.shape-index c.shape-item.result (g.D.Disk.holds c.args.disk.now) now c.loop-shape-test.true c.shape-item.is inv.kept inv.judged
          (subst (λ (ys : List Container). Judges now (flat_map (container_files c.shape-item.result) ys) (Ok tt)) c.as_slice.ensures c.in-Ok.ensures.judged);
      kept = search rules;
      moved = moved_join g.D.Disk inv.moved c.judge_containers.ensures.moved;
    }

pub returns-in-Err-clause-judged : goal.returns-in-Err-clause-judged
returns-in-Err-clause-judged g c =
    let now = g.D.Disk.holds c.loop-shape.disk in
    let inv = c.loop-shape.invariant in
    walk_stopped projection_files c.args.shapes.now c.loop-shape.shape-index c.shape-item.result (g.D.Disk.holds c.args.disk.now) now c.in-Err.fault c.loop-shape-test.true c.shape-item.is inv.kept inv.judged
    (subst (λ (ys : List Container). Faults now (flat_map (container_files c.shape-item.result) ys) c.in-Err.fault) c.as_slice.ensures c.in-Err.ensures.judged)

pub returns-in-Err-clause-moved : goal.returns-in-Err-clause-moved
returns-in-Err-clause-moved g c = moved_join g.D.Disk c.loop-shape.invariant.moved c.judge_containers.ensures.moved

pub returns-clause-judged : goal.returns-clause-judged
returns-clause-judged g c = walk_ended projection_files c.args.shapes.now c.loop-shape.shape-index (g.D.Disk.holds c.args.disk.now) c.loop-shape-test.false c.loop-shape.invariant.judged
