use Rattle.std.proofs.Common.{◌≡◌, ◌∙◌, ◌++◌, ◌∷◌, [], List, length, ap, cond}
use Rattle.col_value.specs.declared.value.Value.{Value}
use Rattle.query_cover.specs.Seen.{placed}
use Rattle.exec_scan.specs.Batches.{rows_at}
use Rattle.exec_scan.proofs.Batched.{epochs_next, seen_next}
use Rattle.exec_scan.proofs.scan.from_memory.Goals as goal

pub loop-row-preserved : goal.loop-row-preserved
loop-row-preserved c =
    let now = rows_at (length c.args.places.now) c.loop-row.values.items c.loop-row.starts.items in
    let next = rows_at (length c.args.places.now) c.put_shown.new.values.items c.put_shown.new.starts.items in
    let more : next ≡ now ++ cond c.is_visible-shown.result (placed c.args.places.now c.row-item.result.inserted.row ∷ []) [] =
    c.in_ok-put_shown.ensures.rows ∙ ap (λ (row : List Value). now ++ cond c.is_visible-shown.result (placed c.args.places.now row ∷ []) []) c.as_slice.ensures in
    record {
      rows = seen_next c.args.epoch c.args.places.now c.args.rows.now c.loop-row.row-index c.row-item.result c.is_visible-shown.result now next c.loop-row-test.true c.row-item.is c.is_visible-shown.ensures more c.loop-row.invariant.rows;
      epochs = epochs_next c.args.epoch c.args.rows.now c.loop-row.row-index c.row-item.result c.is_visible-shown.result c.loop-row.inserted.items c.put_epoch.new.epochs.items c.loop-row-test.true c.row-item.is c.is_visible-shown.ensures c.in_ok-put_epoch.ensures c.loop-row.invariant.epochs;
      batch = c.in_ok-put_shown.ensures.batch;
    }
