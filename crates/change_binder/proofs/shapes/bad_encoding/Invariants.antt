use Rattle.std.proofs.Common.{◌≡◌, drop}
use Rattle.std.specs.Prelude.{find}
use Rattle.sql_binding.specs.Projections.{is_bad_encoding}
use Rattle.change_binder.proofs.shapes.bad_encoding.Given as goal

abbrev pub invariant-loop-part : goal.invariant-loop-part
invariant-loop-part l = find (is_bad_encoding l.columns) (drop l.part-index l.parts) ≡ find (is_bad_encoding l.columns) l.parts
