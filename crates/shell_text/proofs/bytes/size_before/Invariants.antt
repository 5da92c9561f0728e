use Rattle.std.proofs.Common.{◌≡◌, ◌+◌, not, drop}
use Rattle.std.specs.Prelude.{◌==◌}
use Rattle.std.specs.List.{prefix_len}
use Rattle.shell_text.proofs.bytes.size_before.Given as goal

abbrev pub invariant-loop-i : goal.invariant-loop-i
invariant-loop-i l = prefix_len (λ b. not (b == l.byte)) l.text ≡ l.i + prefix_len (λ b. not (b == l.byte)) (drop l.i l.text)
