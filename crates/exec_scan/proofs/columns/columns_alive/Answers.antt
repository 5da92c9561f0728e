use Rattle.std.proofs.Common.{◌≡◌, ◌∙◌, ◌++◌, List, length, take, drop, subst, sym, ap, arith}
use Rattle.std.specs.Prelude.{Option, sum_by}
use Rattle.common_laws.specs.Maps.{Contents}
use Rattle.col_disk.proofs.Moving.{moved_join, moved_none}
use Rattle.col_value.specs.declared.value.Value.{Value}
use Rattle.ros_container.specs.Encodings.{written_of}
use Rattle.ros_container.specs.Held.{BlamesContainer}
use Rattle.container_blocks.specs.Blocks.{rows_in}
use Rattle.exec_scan.specs.Counting.{column_cost, cost_unread}
use Rattle.exec_scan.specs.Opened.{HoldsAll}
use Rattle.exec_scan.specs.Reading.{AreColumns, HaveRows}
use Rattle.exec_scan.proofs.Counted.{cost_of_none}
use Rattle.exec_scan.proofs.Filled.{unread_columns, written_back}
use Rattle.exec_scan.proofs.columns.columns_alive.Goals as goal

pub returns-in-Err-clause-moved : goal.returns-in-Err-clause-moved
returns-in-Err-clause-moved g c = moved_none g.D.Disk c.args.disk.now

pub returns-in-Ok-fill_alive-clause-found : goal.returns-in-Ok-fill_alive-clause-found
returns-in-Ok-fill_alive-clause-found g c = λ held m told rows holding.
    let items = c.in-Ok.columns.items in
    let read = c.fill_alive.new.columns in
    let long : length read ≡ length items = c.fill_alive.ensures.width ∙ c.narrow.ensures.width ∙ ap length c.as_mut_slice-read.ensures.value in
    let back : take c.in-Ok.columns.len (read ++ drop (length read) items) ≡ read = written_back c.in-Ok.columns.len read items long c.in-Ok.columns.ok.0 in
    let here = rows_in c.args.k rows in
    let none : AreColumns c.args.places.now c.as_mut_slice-read.result.now here = unread_columns (length c.args.places.now) c.as_mut_slice-read.result.now c.args.places.now here (c.as_mut_slice-read.ensures.value ∙ c.in-Ok.ensures) in
    let narrowed = c.in-Ok-narrow.ensures.narrows held m told rows holding none in
    let kept = c.narrow.ensures.kept in
    let again = subst (λ (h : Option Contents). HoldsAll (written_of c.args.shape.now) c.args.entry.now h c.args.places.now c.args.indexes.now) (sym kept) held in
    record {
      narrows = narrowed.narrows;
      alive = subst (λ (cs : List (Option (List Value))). HaveRows c.args.places.now c.narrow.new.alive cs here) (sym back) (c.in-Ok-fill_alive.ensures.fills again m (kept ∙ told) rows holding narrowed.read);
    }

pub returns-in-Ok-fill_alive-clause-moved : goal.returns-in-Ok-fill_alive-clause-moved
returns-in-Ok-fill_alive-clause-moved g c = moved_join g.D.Disk c.narrow.ensures.moved c.fill_alive.ensures.moved

pub returns-in-Err-fill_alive-clause-blamed : goal.returns-in-Err-fill_alive-clause-blamed
returns-in-Err-fill_alive-clause-blamed g c = λ held.
    subst (λ (h : Option Contents). BlamesContainer (written_of c.args.shape.now) c.args.entry.now h c.in-Err-fill_alive.fault) c.narrow.ensures.kept
    (c.in-Err-fill_alive.ensures.blamed (subst (λ (h : Option Contents). HoldsAll (written_of c.args.shape.now) c.args.entry.now h c.args.places.now c.args.indexes.now) (sym c.narrow.ensures.kept) held))

pub returns-in-Err-fill_alive-clause-moved : goal.returns-in-Err-fill_alive-clause-moved
returns-in-Err-fill_alive-clause-moved g c = moved_join g.D.Disk c.narrow.ensures.moved c.fill_alive.ensures.moved

pub returns-in-Err-narrow-clause-steps : goal.returns-in-Err-narrow-clause-steps
returns-in-Err-narrow-clause-steps g c =
    let first : cost_unread (length c.args.shape.now.columns) c.args.entry.now c.args.places.now c.as_mut_slice-read.result.now ≡ sum_by (column_cost (length c.args.shape.now.columns) c.args.entry.now) c.args.places.now =
    ap (cost_unread (length c.args.shape.now.columns) c.args.entry.now c.args.places.now) (c.as_mut_slice-read.ensures.value ∙ c.in-Ok.ensures) ∙ cost_of_none (length c.args.shape.now.columns) c.args.entry.now c.args.places.now (length c.args.places.now) in
    omega (arith, first, c.narrow.ensures.at_most)

pub returns-in-Ok-fill_alive-clause-steps : goal.returns-in-Ok-fill_alive-clause-steps
returns-in-Ok-fill_alive-clause-steps g c =
    let first : cost_unread (length c.args.shape.now.columns) c.args.entry.now c.args.places.now c.as_mut_slice-read.result.now ≡ sum_by (column_cost (length c.args.shape.now.columns) c.args.entry.now) c.args.places.now =
    ap (cost_unread (length c.args.shape.now.columns) c.args.entry.now c.args.places.now) (c.as_mut_slice-read.ensures.value ∙ c.in-Ok.ensures) ∙ cost_of_none (length c.args.shape.now.columns) c.args.entry.now c.args.places.now (length c.args.places.now) in
    omega (arith, first, c.in-Ok-narrow.ensures.steps, c.fill_alive.ensures.at_most)

pub returns-in-Err-fill_alive-clause-steps : goal.returns-in-Err-fill_alive-clause-steps
returns-in-Err-fill_alive-clause-steps g c =
    let first : cost_unread (length c.args.shape.now.columns) c.args.entry.now c.args.places.now c.as_mut_slice-read.result.now ≡ sum_by (column_cost (length c.args.shape.now.columns) c.args.entry.now) c.args.places.now =
    ap (cost_unread (length c.args.shape.now.columns) c.args.entry.now c.args.places.now) (c.as_mut_slice-read.ensures.value ∙ c.in-Ok.ensures) ∙ cost_of_none (length c.args.shape.now.columns) c.args.entry.now c.args.places.now (length c.args.places.now) in
    omega (arith, first, c.in-Ok-narrow.ensures.steps, c.fill_alive.ensures.at_most)
