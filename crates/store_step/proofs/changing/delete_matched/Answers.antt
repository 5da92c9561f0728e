use Rattle.std.proofs.Common.{◌+◌, length, rules}
use Rattle.std.specs.Prelude.{codes}
use Rattle.sql_tree.specs.declared.statement.Statement.{Statement}
use Rattle.db_model.specs.Printing.{counted_line}
use Rattle.store_core.specs.Sessions.{with_marked}
use Rattle.store_step.proofs.Answered.{short_holds}
use Rattle.store_step.proofs.Rows.{changed_holds, deleted_holds}
use Rattle.store_step.proofs.changing.delete_matched.Goals as goal

pub returns-in-Err : goal.returns-in-Err
returns-in-Err g c = λ files disk state here accepted matches. short_holds g.D.Disk files (Statement.Delete c.args.delete.now) c.args.store.now disk _ state here

pub returns-in-Err-rows_left : goal.returns-in-Err-rows_left
returns-in-Err-rows_left g c = λ files disk state here accepted matches. short_holds g.D.Disk files (Statement.Delete c.args.delete.now) c.args.store.now disk _ state here

pub returns-in-Ok-rows_left : goal.returns-in-Ok-rows_left
returns-in-Ok-rows_left g c = λ files disk state here accepted matches.
    let d = c.args.delete.now in
    let r = c.args.store.now in
    let left = c.in-Ok-rows_left.left.items in
    let committed = c.args.matched.committed.items in
    let pending = c.args.matched.pending.items in
    changed_holds g.D.Disk files (Statement.Delete d) r c.change.new.store (with_marked d.table left committed r) disk c.change.result state (counted_line (codes "DELETE ") (length committed + length pending))
    (search rules) c.change.ensures.kept
    (λ a says. deleted_holds g.D.Disk files d r disk a state c.args.keep.now committed pending left c.matches_are_the_matched_rows.ensures.count c.changed_rows_stand.ensures (c.deletes_are_sound.ensures state d) says here accepted matches (search rules)) here
