use Rattle.std.proofs.Common.{◌≡◌, ◌∙◌, List, ap, rules, subst}
use Rattle.std.specs.Prelude.{Option, ℕ}
use Rattle.col_disk.proofs.Moving.{moved_none}
use Rattle.row_history.specs.History.{retained}
use Rattle.ros_container.specs.Encodings.{written_of}
use Rattle.container_cut.proofs.Faults.{rows_blamed}
use Rattle.container_cut.proofs.Fronts.{front_written, front_within}
use Rattle.moveout_job.specs.OnDisk.{beside}
use Rattle.purge_job.specs.Purging.{stamped_with}
use Rattle.purge_job.proofs.Anew.{kept_of}
use Rattle.purge_job.proofs.one.read_kept.Goals as goal

pub returns-in-Err-clause-moved : goal.returns-in-Err-clause-moved
returns-in-Err-clause-moved g c = moved_none g.D.Disk c.args.disk.now

pub returns-in-Err-rows-clause-blamed : goal.returns-in-Err-rows-clause-blamed
returns-in-Err-rows-clause-blamed g c =
    let p = c.args.shape.now in
    let k = c.args.container.now in
    rows_blamed p k (written_of c.args.front.now) (g.D.Disk.holds c.args.disk.now) (ap written_of c.requires.front ∙ front_written k p) (front_within k p c.requires.readable.of_columns.most) c.in-Err-rows.fault
    c.in-Err-rows.ensures.blamed c.in-Err-rows.ensures.none

pub returns-in-Ok-kept_rows-clause-found : goal.returns-in-Ok-kept_rows-clause-found
returns-in-Ok-kept_rows-clause-found g c = λ m told.
    let rows = c.in-Ok-rows.rows.items in
    let kept = c.in-Ok-kept_rows.kept.items in
    let shown : c.as_slice.result.now ≡ c.in-Ok.dels.items = search rules in
    kept_of m (written_of c.args.front.now) c.args.mark c.args.container.now (beside c.args.held.now c.args.fresh.now) c.in-Ok.dels.items rows kept c.in-Ok.ensures (c.in-Ok-rows.ensures.found m told)
    (subst (λ (ds : List (Option ℕ)). kept ≡ retained c.args.mark (stamped_with ds rows)) shown c.in-Ok-kept_rows.ensures)
