use Rattle.std.proofs.Common.{◌∙◌, ℕ, List, ap, sym, subst}
use Rattle.std.specs.Prelude.{Option}
use Rattle.common_laws.specs.Maps.{Contents}
use Rattle.col_disk.proofs.Moving.{moved_join, moved_none}
use Rattle.ros_container.specs.Encodings.{written_of}
use Rattle.ros_container.specs.Held.{BlamesContainer}
use Rattle.stored_rows.specs.Stored.{mark_in}
use Rattle.wanted_rows.specs.Wanted.{need_in}
use Rattle.wanted_rows.specs.Picked.{Picks}
use Rattle.proj_store.specs.Loaded.{beside_of}
use Rattle.proj_store.specs.Blocks.{in_list}
use Rattle.proj_store.proofs.BlockRows.{indexes_seen}
use Rattle.proj_store.proofs.Passed.{passed_picks}
use Rattle.proj_store.proofs.Picking.{picks_agree}
use Rattle.proj_store.proofs.picks.pick_read.Goals as goal

pub returns-then-is_done-clause-found : goal.returns-then-is_done-clause-found
returns-then-is_done-clause-found g c = λ m told.
    passed_picks m (written_of c.args.entry.now) c.args.container.now (beside_of c.args.kept.now) c.no_places.result (need_in c.args.wants.now) c.no_places.ensures (λ q from upto. c.is_done.ensures c.if-is_done.true q)

pub returns-then-is_done-clause-moved : goal.returns-then-is_done-clause-moved
returns-then-is_done-clause-moved g c = moved_none g.D.Disk c.args.disk.now

pub returns-in-Ok-pick_blocks-clause-found : goal.returns-in-Ok-pick_blocks-clause-found
returns-in-Ok-pick_blocks-clause-found g c = λ m told rows holding.
    let same = c.indexes_of.ensures.kept in
    let held = indexes_seen (written_of c.args.entry.now) c.args.container.now (g.D.Disk.holds c.indexes_of.new.disk) (g.D.Disk.holds c.args.disk.now) c.in-Ok.indexes.items c.as_slice.result.now same c.as_slice.ensures.value c.in-Ok.ensures.held in
    let mark = mark_in (beside_of c.args.kept.now) in
    let need = need_in c.args.wants.now in
    let left = need_in c.pick_blocks.new.wants in
    subst (λ (ps : List ℕ). Picks mark rows ps need left) (sym c.new.ensures)
    (picks_agree (in_list c.as_slice-2.result.now) mark rows c.in-Ok-pick_blocks.places.items need left
    (λ i. ap (λ (ds : List (Option ℕ)). in_list ds i) c.as_slice-2.ensures.value ∙ c.in-Ok-kept_deletes.ensures i) (c.in-Ok-pick_blocks.ensures.found held m (same ∙ told) rows holding))

pub returns-in-Ok-pick_blocks-clause-moved : goal.returns-in-Ok-pick_blocks-clause-moved
returns-in-Ok-pick_blocks-clause-moved g c = moved_join g.D.Disk c.indexes_of.ensures.moved c.pick_blocks.ensures.moved

pub returns-clause-blamed : goal.returns-clause-blamed
returns-clause-blamed g c =
    let same = c.indexes_of.ensures.kept in
    let held = indexes_seen (written_of c.args.entry.now) c.args.container.now (g.D.Disk.holds c.indexes_of.new.disk) (g.D.Disk.holds c.args.disk.now) c.in-Ok.indexes.items c.as_slice.result.now same c.as_slice.ensures.value c.in-Ok.ensures.held in
    subst (λ (h : Option Contents). BlamesContainer (written_of c.args.entry.now) c.args.container.now h c.in-Err-pick_blocks.fault) same (c.in-Err-pick_blocks.ensures.blamed held)

pub returns-clause-moved : goal.returns-clause-moved
returns-clause-moved g c = moved_join g.D.Disk c.indexes_of.ensures.moved c.pick_blocks.ensures.moved
