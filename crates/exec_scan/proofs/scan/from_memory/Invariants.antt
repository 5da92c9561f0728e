use Rattle.std.proofs.Common.{◌≡◌, map, filter, take, length}
use Rattle.row_history.specs.History.{is_visible, visible}
use Rattle.write_store.specs.Memory.{stamp}
use Rattle.query_cover.specs.Seen.{placed}
use Rattle.exec_scan.specs.Batches.{IsBatch, rows_at}
use Rattle.exec_scan.proofs.scan.from_memory.Given as goal

abbrev pub invariant-loop-row : goal.invariant-loop-row
invariant-loop-row l = record {
  rows : rows_at (length l.places) l.values.items l.starts.items ≡ map (placed l.places) (visible l.epoch (map stamp (take l.row-index l.rows)));
  epochs : l.inserted.items ≡ map (λ a. a.ins) (filter (is_visible l.epoch) (map stamp (take l.row-index l.rows)));
  batch : IsBatch (length l.places) l.values.items l.starts.items;
}
