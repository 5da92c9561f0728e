use Rattle.std.proofs.Common.{◌≡◌}
use Rattle.col_file.specs.Column.{first_blocks, first_places}
use Rattle.col_file.proofs.column.column_bytes.Given as goal

abbrev pub invariant-loop-k : goal.invariant-loop-k
invariant-loop-k l = record {
  body : l.body.items ≡ first_blocks l.encoding l.k l.values;
  places : l.places.items ≡ first_places l.encoding l.k l.values;
}
