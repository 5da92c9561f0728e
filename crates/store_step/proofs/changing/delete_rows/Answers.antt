use Rattle.std.proofs.Common.{◌≡◌, [], true, List, subst, sym}
use Rattle.std.specs.Prelude.{Result}
use Rattle.col_disk.specs.declared.disk.StoreFault.{StoreFault}
use Rattle.col_disk.proofs.Moving.{moved_still}
use Rattle.sql_bound.specs.declared.expr.Expr.{Expr}
use Rattle.sql_bound.specs.Bounds.{is_narrow}
use Rattle.std.specs.List.{All}
use Rattle.sql_tree.specs.declared.statement.Statement.{Statement}
use Rattle.db_model.specs.State.{own_changes}
use Rattle.store_core.specs.Matching.{AreMatches}
use Rattle.statement_plan.specs.declared.plans.Plan.{Plan}
use Rattle.store_step.specs.declared.answer.Answer.{Answer}
use Rattle.store_step.specs.Arms.{Answers}
use Rattle.store_step.specs.Matches.{DeleteMatches}
use Rattle.store_step.proofs.Rows.{delete_matches, read_answers, unread_answers}
use Rattle.store_step.proofs.Doing.{stays_state}
use Rattle.store_step.proofs.Named.{memory_named}
use Rattle.store_step.proofs.changing.delete_rows.Goals as goal

pub matches-requires : goal.matches-requires
matches-requires g c = subst (All (λ e. is_narrow [] e ≡ true)) (sym c.as_slice-keep.ensures) c.requires.of.bounded.keep

pub delete_matched-requires : goal.delete_matched-requires
delete_matched-requires g c = subst (All (λ e. is_narrow [] e ≡ true)) (sym c.as_slice-keep.ensures) c.requires.of.bounded.keep

pub returns-in-Err-clause-answers : goal.returns-in-Err-clause-answers
returns-in-Err-clause-answers g c = λ files state here.
    let r = c.args.store.now in
    let moved = moved_still g.D.Disk c.matches.ensures.moved in
    let stands = c.other_files_move.ensures c.args.disk.now c.matches.new.disk r.seen.catalogue r.seen.stores state.database here.database moved in
    let leaves = c.moving_files_reopen.ensures c.args.disk.now c.matches.new.disk r.seen.catalogue r.seen.stores state.database here.database moved in
    unread_answers g.D.Disk files (Statement.Delete c.args.delete.now) r c.in-Err.fault state here.sound.database leaves (stays_state g.D.Disk r c.args.disk.now c.matches.new.disk state here stands c.matches.ensures.kept) (c.in-Err.ensures.unblamed state here)

pub returns-clause-answers : goal.returns-clause-answers
returns-clause-answers g c = λ files state here.
    let r = c.args.store.now in
    let d = c.args.delete.now in
    let b = c.args.bound.now in
    let planned = c.frames_are_of_the_state.ensures.plan c.args.disk.now r state (Statement.Delete d) (Plan.Delete c.args.place b) here c.requires in
    let moved = moved_still g.D.Disk c.matches.ensures.moved in
    let stands = c.other_files_move.ensures c.args.disk.now c.matches.new.disk r.seen.catalogue r.seen.stores state.database here.database moved in
    let leaves = c.moving_files_reopen.ensures c.args.disk.now c.matches.new.disk r.seen.catalogue r.seen.stores state.database here.database moved in
    let there = stays_state g.D.Disk r c.args.disk.now c.matches.new.disk state here stands c.matches.ensures.kept in
    let committed = c.in-Ok.matched.committed.items in
    let pending = c.in-Ok.matched.pending.items in
    let keep = c.as_slice-keep.result.now in
    let found : AreMatches b.keep state.database (own_changes state) c.args.place committed pending =
    subst (λ (k : List Expr). AreMatches k state.database (own_changes state) c.args.place committed pending) c.as_slice-keep.ensures (c.in-Ok.ensures.matched state here) in
    let matches : DeleteMatches state d keep committed pending =
    subst (λ (k : List Expr). DeleteMatches state d k committed pending) (sym c.as_slice-keep.ensures) (delete_matches state d c.args.place b committed pending planned.of found) in
    subst (λ (o : Result Answer StoreFault). Answers g.D.Disk files (Statement.Delete d) c.delete_matched.new.store c.args.disk.now c.matches.new.disk o state) (sym c.in_memory.ensures)
    (read_answers g.D.Disk files (Statement.Delete d) c.delete_matched.new.store c.delete_matched.result state here.sound.database leaves (c.delete_matched.ensures files c.matches.new.disk state there planned.accepted matches))

pub returns-clause-named : goal.returns-clause-named
returns-clause-named g c = memory_named g.D.Disk c.delete_matched.new.store c.matches.new.disk c.delete_matched.result c.in_memory.result c.in_memory.ensures
