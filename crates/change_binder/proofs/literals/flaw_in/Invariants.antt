use Rattle.std.proofs.Common.{◌≡◌, drop}
use Rattle.std.specs.Prelude.{find, zip}
use Rattle.change_binder.specs.Flaws.{has_flaw}
use Rattle.change_binder.proofs.literals.flaw_in.Given as goal

abbrev pub invariant-loop-i : goal.invariant-loop-i
invariant-loop-i l = find (has_flaw l.flaw) (zip (drop l.i l.columns) (drop l.i l.row)) ≡ find (has_flaw l.flaw) (zip l.columns l.row)
