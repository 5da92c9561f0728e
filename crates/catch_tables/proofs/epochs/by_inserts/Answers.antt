use Rattle.std.proofs.Common.{◌≡◌, List, map, filter, nat_lt}
use Rattle.std.specs.Prelude.{Ok, Err, IfOk, Result}
use Rattle.std.specs.List.{All}
use Rattle.catch_tables.proofs.Keys.{inserts_of, rows_of}
use Rattle.catch_tables.proofs.epochs.by_inserts.Goals as goal

pub returns-clause-told : goal.returns-clause-told
returns-clause-told c = inserts_of c.args.after c.args.rows.now c.in_ok-keyed.keyed.items c.in_order.result c.in_ok-keyed.ensures c.in_order.ensures.same

pub returns-clause-valid : goal.returns-clause-valid
returns-clause-valid c = rows_of c.args.after c.args.rows.now c.in_ok-keyed.keyed.items c.in_order.result c.requires c.in_ok-keyed.ensures c.in_order.ensures.same
