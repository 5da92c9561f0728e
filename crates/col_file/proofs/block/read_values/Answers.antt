use Rattle.std.specs.Prelude.{IfErr}
use Rattle.col_file.specs.Read.{Blames, IsNoPiece}
use Rattle.col_file.proofs.Looking.{at_entry}
use Rattle.col_file.proofs.block.read_values.Goals as goal

pub returns-clause-blamed : goal.returns-clause-blamed
returns-clause-blamed g c =
    at_entry (λ e next. IfErr c.block_values.result (Blames c.args.body (IsNoPiece c.args.encoding c.args.body c.args.at.now.rows e next (g.D.Disk.holds c.args.disk.now))))
    (λ n. n.now) c.args.at.now.entries c.as_slice-entries.result.now c.args.k c.index-entries-k.result c.get-next.result c.as_slice-entries.ensures c.requires c.index-entries-k.is c.get-next.ensures.lookup.3 c.block_values.ensures.blamed
