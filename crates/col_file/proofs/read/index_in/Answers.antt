use Rattle.std.proofs.Common.{refl}
use Rattle.col_file.proofs.Found.{other_rows}
use Rattle.col_file.proofs.read.index_in.Goals as goal

pub returns-else-index-rows-clause-blamed : goal.returns-else-index-rows-clause-blamed
returns-else-index-rows-clause-blamed c =
    let is = rw c.in-Ok-Some.field-0-is at c.in-Ok-Some.ensures.found in
    (refl, other_rows c.args.rows c.args.bytes.now c.in-Ok-Some.index is.0 is.1 is.2 c.if-index-rows.false)
