use Rattle.query_run.proofs.Bars.{row_behind}
use Rattle.query_run.proofs.collected.add_made.Goals as goal

pub returns-then-is_behind : goal.returns-then-is_behind
returns-then-is_behind c =
    row_behind c.args.query.now c.args.row c.args.rows.now.items c.args.bar.now c.requires.few c.requires.bar (c.is_behind.ensures c.if-is_behind.true)
