use Rattle.table_store.proofs.Columns.{made_rows}
use Rattle.table_store.proofs.part.rows_for.Goals as goal

pub prepare_rows-requires : goal.prepare_rows-requires
prepare_rows-requires c = made_rows _ c.args.rows.now c.in_ok-own.own.items c.in_ok-own.ensures c.requires.valid
