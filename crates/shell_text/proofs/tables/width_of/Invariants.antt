use Rattle.std.proofs.Common.{◌≡◌, ◌≤◌, take}
use Rattle.shell_text.specs.Tables.{width_of}
use Rattle.shell_text.proofs.tables.width_of.Given as goal

abbrev pub invariant-loop-b : goal.invariant-loop-b
invariant-loop-b l = record {
  width : l.width ≡ width_of (take l.b-index l.cell);
  within : l.width ≤ l.b-index;
}
