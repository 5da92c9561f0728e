use Rattle.std.proofs.Common.{◌≡◌, ◌<◌, ◌+◌, ◌-◌, ◌*◌, ◌∙◌, ℕ, Bool, List, length, map, get_or, min, ap, sym, subst, arith}
use Rattle.std.specs.Prelude.{Option, None}
use Rattle.std.specs.List.{range_with_len}
use Rattle.std.proofs.lemmas.List.FromFn.{length-map-range_with_len}
use Rattle.common_laws.specs.Maps.{Contents}
use Rattle.pos_index.specs.declared.index.PosIndex.{PosIndex}
use Rattle.col_disk.proofs.Moving.{moved_join}
use Rattle.ros_container.specs.Encodings.{written_of}
use Rattle.ros_container.specs.Held.{BlamesContainer}
use Rattle.stored_rows.specs.Stored.{mark_in}
use Rattle.container_blocks.specs.Blocks.{HasIndex, rows_in}
use Rattle.exec_scan.specs.Batches.{chosen, is_shown}
use Rattle.exec_scan.specs.Opened.{HoldsAll, Opening}
use Rattle.exec_scan.specs.Reading.{AreInserted, Narrows}
use Rattle.exec_scan.proofs.Alive.{block_shows}
use Rattle.exec_scan.proofs.Long.{block_long}
use Rattle.exec_scan.proofs.reading.read_block.Goals as goal

pub columns_alive-requires-clause-alive : goal.columns_alive-requires-clause-alive
columns_alive-requires-clause-alive g c =
    let count : c.min-count.result ≡ min 1024 (c.args.entry.now.rows - 1024 * c.args.k) = omega (arith, c.min-count.ensures) in
    ap length (c.as_mut_slice-alive.ensures.value ∙ c.in-Ok-shown_rows.ensures)
    ∙ length-map-range_with_len (is_shown c.args.epoch c.as_slice.result.now c.as_slice-2.result.now (1024 * c.args.k)) 0 c.min-count.result ∙ count

pub returns-in-Err-columns_alive-clause-blamed : goal.returns-in-Err-columns_alive-clause-blamed
returns-in-Err-columns_alive-clause-blamed g c = λ b opened.
    let indexes : c.as_slice-indexes.result.now ≡ c.args.opened.now.indexes = c.as_slice-indexes.ensures.value ∙ ap (λ (o : Opening). o.indexes) c.opened.view_is in
    let held = subst (λ (xs : List (Option PosIndex)). HoldsAll (written_of c.args.shape.now) c.args.entry.now (g.D.Disk.holds c.args.disk.now) c.args.places.now xs) (sym indexes) opened.held in
    subst (λ (h : Option Contents). BlamesContainer (written_of c.args.shape.now) c.args.entry.now h c.in-Err-columns_alive.fault) c.inserted.ensures.kept
    (c.in-Err-columns_alive.ensures.blamed (subst (λ (h : Option Contents). HoldsAll (written_of c.args.shape.now) c.args.entry.now h c.args.places.now c.as_slice-indexes.result.now) (sym c.inserted.ensures.kept) held))

pub returns-in-Err-columns_alive-clause-moved : goal.returns-in-Err-columns_alive-clause-moved
returns-in-Err-columns_alive-clause-moved g c = moved_join g.D.Disk c.inserted.ensures.moved c.columns_alive.ensures.moved

pub returns-in-Ok-batch_alive-clause-found : goal.returns-in-Ok-batch_alive-clause-found
returns-in-Ok-batch_alive-clause-found g c = λ b opened m told rows holding.
    let k = c.args.entry.now in
    let first = 1024 * c.args.k in
    let count = c.min-count.result in
    let here = rows_in c.args.k rows in
    let inserted = c.as_slice.result.now in
    let deletes = c.as_slice-2.result.now in
    let alive = c.columns_alive.new.alive in
    let columns = c.in-Ok-columns_alive.columns.items in
    let test = is_shown c.args.epoch inserted deletes first in
    let block : length here ≡ min 1024 (k.rows - first) = block_long m (written_of c.args.shape.now) k c.args.k rows holding in
    let counted : count ≡ min 1024 (k.rows - first) = omega (arith, c.min-count.ensures) in
    let many : count ≡ length here = counted ∙ sym block in
    let same_deletes : deletes ≡ c.args.opened.now.deletes = c.as_slice-2.ensures.value ∙ ap (λ (o : Opening). o.deletes) c.opened.view_is in
    let index : c.get.result.now ≡ c.args.opened.now.epochs = c.get.ensures ∙ ap (λ (o : Opening). o.epochs) c.opened.view_is in
    let indexes : c.as_slice-indexes.result.now ≡ c.args.opened.now.indexes = c.as_slice-indexes.ensures.value ∙ ap (λ (o : Opening). o.indexes) c.opened.view_is in
    let has = subst (λ (at : PosIndex). HasIndex (written_of c.args.shape.now) k (length c.args.shape.now.columns) at (g.D.Disk.holds c.args.disk.now)) (sym index) opened.epochs_held in
    let early : AreInserted c.args.epoch inserted here = subst (λ (xs : List ℕ). AreInserted c.args.epoch xs here) (sym c.as_slice.ensures.value) (c.in-Ok.ensures.found has m told rows holding) in
    let gone : (i : ℕ) → i < length here → get_or deletes (first + i) None ≡ mark_in b (first + i) =
    λ i lt. ap (λ (xs : List (Option ℕ)). get_or xs (first + i) None) same_deletes ∙ opened.deleted (first + i) (omega (arith, lt, block)) in
    let held = subst (λ (xs : List (Option PosIndex)). HoldsAll (written_of c.args.shape.now) k (g.D.Disk.holds c.args.disk.now) c.args.places.now xs) (sym indexes) opened.held in
    let held_now = subst (λ (h : Option Contents). HoldsAll (written_of c.args.shape.now) k h c.args.places.now c.as_slice-indexes.result.now) (sym c.inserted.ensures.kept) held in
    let read = c.in-Ok-columns_alive.ensures.found held_now m (c.inserted.ensures.kept ∙ told) rows holding in
    let shown : c.as_mut_slice-alive.result.now ≡ map test (range_with_len 0 count) = c.as_mut_slice-alive.ensures.value ∙ c.in-Ok-shown_rows.ensures in
    let long : length alive ≡ count = c.columns_alive.ensures.alive ∙ ap length shown ∙ length-map-range_with_len test 0 count in
    block_shows c.args.epoch count c.args.places.now c.args.bounds.now c.args.stamps inserted deletes (mark_in b) first here alive columns c.in-Ok-batch_alive.batch many early gone long
    (subst (λ (bs : List Bool). Narrows c.args.bounds.now c.args.places.now bs alive here) shown read.narrows)
    read.alive
    c.in-Ok-batch_alive.ensures.rows (λ on. c.in-Ok-batch_alive.ensures.inserted on ∙ ap (chosen alive) (c.as_slice-3.ensures.value ∙ c.in-Ok.ensures.told has m told rows holding on))

pub returns-in-Ok-batch_alive-clause-moved : goal.returns-in-Ok-batch_alive-clause-moved
returns-in-Ok-batch_alive-clause-moved g c = moved_join g.D.Disk c.inserted.ensures.moved c.columns_alive.ensures.moved

pub returns-clause-moved : goal.returns-clause-moved
returns-clause-moved g c = moved_join g.D.Disk c.inserted.ensures.moved c.columns_alive.ensures.moved
