use Rattle.std.proofs.Common.{subst, sym}
use Rattle.query_run.specs.Windows.{AreColumns}
use Rattle.query_run.proofs.Beside.{all_narrow_beside}
use Rattle.query_run.proofs.Scopes.{beside_narrow}
use Rattle.query_run.proofs.windows.of_windows.Goals as goal

pub rows_beside-requires : goal.rows_beside-requires
rows_beside-requires c =
    let q = c.args.query.now in
    let rows = c.args.rows.now in record {
      beside = record {
        rows = c.requires.rows;
        columns = subst (AreColumns q rows) (sym c.as_slice.ensures.value) c.in-Ok.ensures.columns;
        narrow = all_narrow_beside rows c.requires.rows c.requires.few q c.in-Ok.ensures.in_range (beside_narrow q c.requires.bounded c.requires.plain);
      };
    }
