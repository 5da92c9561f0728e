use Rattle.std.proofs.Common.{◌≡◌, ◌+◌, ◌<◌, ◌++◌, [], true, ℕ, List, length, map, filter, not, sym, ◌∙◌, subst, rules}
use Rattle.std.specs.Prelude.{None, Some, codes, IfOk, IsSomeAnd}
use Rattle.std.specs.List.{All, slice_get}
use Rattle.std.proofs.lemmas.List.Elements.{All-append}
use Rattle.col_value.specs.Order.{IsRow}
use Rattle.sql_bound.specs.declared.expr.Expr.{Expr}
use Rattle.sql_bound.specs.Bounds.{is_narrow}
use Rattle.sql_bound.specs.Outputs.{is_kept}
use Rattle.sql_binding.specs.Firsts.{first_of}
use Rattle.sql_tree.specs.declared.statement.Statement.{Statement}
use Rattle.db_model.specs.Events.{set_row}
use Rattle.db_model.specs.Printing.{counted_line}
use Rattle.db_model.specs.Refusals.{all_pairs, locked, pairs_refusal, rows_updated_refusal}
use Rattle.db_model.specs.Refusing.{rows_limit}
use Rattle.db_model.specs.State.{pending_rows}
use Rattle.store_core.specs.Running.{frame_of}
use Rattle.store_core.specs.Sessions.{own_of, with_marked}
use Rattle.store_step.specs.Texts.{Refused}
use Rattle.store_step.proofs.Answered.{refused_holds}
use Rattle.store_step.proofs.Rows.{behind_values, changed_holds, early_refused, set_places, stands_there, updated_columns, updated_holds, updating, values_same}
use Rattle.store_step.proofs.changing.update_matched.Goals as goal

pub returns-in-Some : goal.returns-in-Some
returns-in-Some g c = λ files disk state here early matches.
    let r = c.args.store.now in
    let u = c.args.update.now in
    let b = c.args.bound.now in
    let committed = c.args.matched.committed.items in
    let pending = c.args.matched.pending.items in
    let left = c.in-Ok.left.items in
    let left_is : left ≡ filter (λ row. not (is_kept b.rows.keep row)) (pending_rows u.table (own_of r)) = rw (c.as_slice.ensures, c.as_slice-name.ensures) at c.in-Ok.ensures.left in
    let known =
    updating g.D.Disk r disk state u c.args.place b.rows.keep b.assigned.columns committed pending left c.matches_are_the_matched_rows.ensures.count c.matches_are_the_matched_rows.ensures.rows here early matches left_is
    (c.frames_are_of_the_state.ensures.lock disk r state u.table true here) in
    let told : Some c.in-Some.refusal ≡ first_of (rows_limit (length left + (length committed + length pending))) (locked (frame_of r) u.table true) = search rules in
    refused_holds g.D.Disk files (Statement.Update u) r disk c.in-Some.refusal c.refused.result state c.refused.ensures
    (sym (early_refused state u (frame_of r) c.args.place b.rows.keep b.assigned.columns committed pending left known c.in-Some.refusal told)) here

pub made_rows-requires-clause-narrow : goal.made_rows-requires-clause-narrow
made_rows-requires-clause-narrow g c = subst (All (λ s. is_narrow [] s.1 ≡ true)) (sym c.as_slice-sets.ensures) c.requires.planned.of.settings

pub made_rows-requires-clause-places : goal.made_rows-requires-clause-places
made_rows-requires-clause-places g c =
    subst (λ (ss : List (ℕ × Expr)). IsSomeAnd (slice_get c.args.store.now.seen.catalogue.tables c.args.place) (λ t. All (λ s. s.0 < length t.columns) ss)) (sym c.as_slice-sets.ensures)
    (set_places c.args.store.now c.args.update.now c.args.place c.args.bound.now c.requires.planned)

pub returns-in-Err-Refused : goal.returns-in-Err-Refused
returns-in-Err-Refused g c = λ files disk state here early matches.
    let r = c.args.store.now in
    let u = c.args.update.now in
    let b = c.args.bound.now in
    let committed = c.args.matched.committed.items in
    let pending = c.args.matched.pending.items in
    let old = map (λ a. a.row) committed ++ pending in
    let left = c.in-Ok.left.items in
    let ts = r.seen.catalogue.tables in
    let left_is : left ≡ filter (λ row. not (is_kept b.rows.keep row)) (pending_rows u.table (own_of r)) = rw (c.as_slice.ensures, c.as_slice-name.ensures) at c.in-Ok.ensures.left in
    let known =
    updating g.D.Disk r disk state u c.args.place b.rows.keep b.assigned.columns committed pending left c.matches_are_the_matched_rows.ensures.count c.matches_are_the_matched_rows.ensures.rows here early matches left_is
    (c.frames_are_of_the_state.ensures.lock disk r state u.table true here) in
    let none : None ≡ first_of (rows_limit (length left + (length committed + length pending))) (locked (frame_of r) u.table true) = search rules in
    let at = stands_there ts c.args.place (λ t. All (λ s. s.0 < length t.columns) b.assigned.columns) (set_places r u c.args.place b c.requires.planned) in
    let columns = updated_columns ts state u c.args.place b.rows.keep b.assigned.columns committed pending at.0 known.matches known.matches.table known.matches.found known.matches.at (c.frames_are_of_the_state.ensures.bare disk r state here).tables at.1 in
    let values = values_same state u (frame_of r) c.args.place b.rows.keep b.assigned.columns committed pending left known at.0.columns columns c.settings_see_a_bag.ensures.refusal in
    let why : pairs_refusal (all_pairs b.assigned.columns old at.0.columns) ≡ Some c.in-Err-Refused.refusal = rw (c.as_slice-sets.ensures, c.in-Err-Refused.field-0-is) at c.in-Err-Refused.ensures.refused at.0 at.1 in
    let said : IfOk c.refused-in-Err-Refused.result (Refused c.in-Err-Refused.refusal) = search rules in
    refused_holds g.D.Disk files (Statement.Update u) r disk c.in-Err-Refused.refusal c.refused-in-Err-Refused.result state said
    (sym (behind_values state u (frame_of r) c.args.place b.rows.keep b.assigned.columns committed pending left known none ∙ sym values ∙ why)) here

pub change-requires : goal.change-requires
change-requires g c =
    let rows : c.append.new.self.items ≡ c.in-Ok.left.items ++ c.in-Ok-made_rows.made.items = search rules in
    subst (All IsRow) (sym rows) (All-append IsRow c.in-Ok.left.items c.in-Ok-made_rows.made.items c.in-Ok.ensures.valid c.in-Ok-made_rows.ensures.valid)

pub returns-in-Ok-append : goal.returns-in-Ok-append
returns-in-Ok-append g c = λ files disk state here early matches.
    let r = c.args.store.now in
    let u = c.args.update.now in
    let b = c.args.bound.now in
    let committed = c.args.matched.committed.items in
    let pending = c.args.matched.pending.items in
    let old = map (λ a. a.row) committed ++ pending in
    let left = c.in-Ok.left.items in
    let made = c.in-Ok-made_rows.made.items in
    let rows = c.append.new.self.items in
    let ts = r.seen.catalogue.tables in
    let left_is : left ≡ filter (λ row. not (is_kept b.rows.keep row)) (pending_rows u.table (own_of r)) = rw (c.as_slice.ensures, c.as_slice-name.ensures) at c.in-Ok.ensures.left in
    let rows_are : rows ≡ left ++ made = search rules in
    let known =
    updating g.D.Disk r disk state u c.args.place b.rows.keep b.assigned.columns committed pending left c.matches_are_the_matched_rows.ensures.count c.matches_are_the_matched_rows.ensures.rows here early matches left_is
    (c.frames_are_of_the_state.ensures.lock disk r state u.table true here) in
    let none : None ≡ first_of (rows_limit (length left + (length committed + length pending))) (locked (frame_of r) u.table true) = search rules in
    let at = stands_there ts c.args.place (λ t. All (λ s. s.0 < length t.columns) b.assigned.columns) (set_places r u c.args.place b c.requires.planned) in
    let columns = updated_columns ts state u c.args.place b.rows.keep b.assigned.columns committed pending at.0 known.matches known.matches.table known.matches.found known.matches.at (c.frames_are_of_the_state.ensures.bare disk r state here).tables at.1 in
    let values = values_same state u (frame_of r) c.args.place b.rows.keep b.assigned.columns committed pending left known at.0.columns columns c.settings_see_a_bag.ensures.refusal in
    let free : pairs_refusal (all_pairs b.assigned.columns old at.0.columns) ≡ None = rw c.as_slice-sets.ensures at c.in-Ok-made_rows.ensures.accepted at.0 at.1 in
    let made_is : made ≡ map (set_row b.assigned.columns) old = rw c.as_slice-sets.ensures at c.in-Ok-made_rows.ensures.made in
    let accepted : rows_updated_refusal state u ≡ None = behind_values state u (frame_of r) c.args.place b.rows.keep b.assigned.columns committed pending left known none ∙ sym values ∙ free in
    changed_holds g.D.Disk files (Statement.Update u) r c.change.new.store (with_marked u.table rows committed r) disk c.change.result state (counted_line (codes "UPDATE ") (length committed + length pending)) (search rules) c.change.ensures.kept
    (λ a says. updated_holds g.D.Disk files u r disk a state c.args.place b.rows.keep b.assigned.columns committed pending left made rows known c.changed_rows_stand.ensures c.settings_see_a_bag.ensures.rows (c.updates_are_sound.ensures state u) says here accepted left_is made_is rows_are) here
