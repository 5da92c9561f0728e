use Rattle.std.proofs.Common.{subst, sym, rules}
use Rattle.catalog_types.specs.declared.catalogue.Table as kept
use Rattle.std.proofs.Common.{List}
use Rattle.sql_tree.specs.declared.statement.Statement.{Statement}
use Rattle.statement_text.specs.Explained.{HaveShapes}
use Rattle.store_step.specs.Texts.{Says}
use Rattle.store_step.proofs.Answered.{short_holds}
use Rattle.store_step.proofs.Held.{explain_holds, have_shapes}
use Rattle.store_step.proofs.holding.explain_query.Goals as goal

pub returns-in-Ok : goal.returns-in-Ok
returns-in-Ok g c = λ files disk state here bound accepted.
    let says : Says c.in-Ok.text.items c.printed.result = search rules in
    let shapes = subst (λ (ts : List kept.Table). HaveShapes ts state.database.tables) (sym c.tables.ensures) (have_shapes g.D.Disk c.args.store.now disk state here) in
    explain_holds g.D.Disk files c.args.query.now c.args.store.now disk c.printed.result state c.in-Ok.text.items says (c.in-Ok.ensures state bound shapes) accepted here

pub returns-in-Err : goal.returns-in-Err
returns-in-Err g c = λ files disk state here bound accepted. short_holds g.D.Disk files (Statement.Explain c.args.query.now) c.args.store.now disk _ state here
