use Rattle.std.proofs.Common.{◌≡◌, ◌++◌, take}
use Rattle.std.specs.List.{flat_map}
use Rattle.shell_text.specs.Excerpts.{blank_of}
use Rattle.shell_text.proofs.excerpts.print_blanks.Given as goal

abbrev pub invariant-loop-b : goal.invariant-loop-b
invariant-loop-b l = l.out.items ≡ l.fn.out.items ++ flat_map blank_of (take l.b-index l.text)
