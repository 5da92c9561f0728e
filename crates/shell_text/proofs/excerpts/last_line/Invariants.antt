use Rattle.std.proofs.Common.{◌≡◌, ◌≤◌, take, drop}
use Rattle.shell_text.specs.Excerpts.{last_line}
use Rattle.shell_text.proofs.excerpts.last_line.Given as goal

abbrev pub invariant-loop-i : goal.invariant-loop-i
invariant-loop-i l = record {
  line : drop l.start (take l.i l.text) ≡ last_line (take l.i l.text);
  within : l.start ≤ l.i;
}
