use Rattle.std.proofs.Common.{◌≡◌, ◌≤◌, ◌∙◌, List, ℕ, length, map, rules, ap, sym, subst, arith}
use Rattle.std.specs.Prelude.{Option, Some, slice_range}
use Rattle.col_disk.proofs.Moving.{moved_none}
use Rattle.catalog_types.specs.declared.catalogue.Container.{Container}
use Rattle.catalog_types.specs.declared.catalogue.Projection.{Projection}
use Rattle.row_history.specs.History.{visible}
use Rattle.write_store.specs.Memory.{stamp}
use Rattle.query_cover.specs.Seen.{placed}
use Rattle.exec_scan.specs.Scanning.{AreLeft, Gives, Place}
use Rattle.exec_scan.proofs.Passed.{ShowsAll}
use Rattle.exec_scan.proofs.Stepping.{at_place, memory_gives}
use Rattle.exec_scan.proofs.scan.Scan.next.Goals as goal

pub returns-then-self-rows-clause-moved : goal.returns-then-self-rows-clause-moved
returns-then-self-rows-clause-moved g c = moved_none g.D.Disk c.args.disk.now

pub returns-in-Ok-from_memory-clause-gives : goal.returns-in-Ok-from_memory-clause-gives
returns-in-Ok-from_memory-clause-gives g c = λ m told left are.
    let s = c.self.inside in
    let p = c.args.store.now.stored in
    let was = subst (λ (x : Place). AreLeft m p x left) (sym c.self.view_is) are in
    let ks : c.as_slice.result.now ≡ p.entry.containers = c.as_slice.ensures ∙ ap (λ (x : Projection). x.containers) c.entry.ensures.entry in
    let past : length p.entry.containers ≤ s.container = subst (λ (xs : List Container). length xs ≤ s.container) ks (omega (arith, c.if-self-as_slice.false)) in
    let le : s.taken ≤ c.min-upto.result = search rules in
    let shown : ShowsAll s.epoch s.places.items s.stamps c.in-Ok-from_memory.batch (map stamp (slice_range c.unsaved-rows.result.now s.taken c.min-upto.result)) =
    record {
      rows = c.in-Ok-from_memory.ensures.rows ∙ ap (λ (ps : List (Option ℕ)). map (placed ps) (visible s.epoch (map stamp (slice_range c.unsaved-rows.result.now s.taken c.min-upto.result)))) c.as_slice-2.ensures.value;
      inserted = λ stamps. c.in-Ok-from_memory.ensures.inserted;
    } in
    subst (λ (x : Place). Gives m p x (at_place s.epoch s.places.items s.bounds.items s.stamps s.container s.block s.opened c.min-upto.result) left (Some c.in-Ok-from_memory.batch)) c.self.view_is
    (memory_gives m p s.epoch s.places.items s.bounds.items s.stamps s.container s.block s.opened s.taken c.min-upto.result c.unsaved-rows.result.now c.in-Ok-from_memory.batch left c.unsaved-rows.ensures.rows past le shown was)

pub returns-in-Ok-from_memory-clause-moved : goal.returns-in-Ok-from_memory-clause-moved
returns-in-Ok-from_memory-clause-moved g c = moved_none g.D.Disk c.args.disk.now

pub returns-in-Err-from_memory-clause-moved : goal.returns-in-Err-from_memory-clause-moved
returns-in-Err-from_memory-clause-moved g c = moved_none g.D.Disk c.args.disk.now
