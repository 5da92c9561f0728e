use Rattle.std.proofs.Common.{◌≡◌, drop, map}
use Rattle.sql_binding.specs.Projections.{first_lacking}
use Rattle.change_binder.proofs.shapes.lacking_part.Given as goal

abbrev pub invariant-loop-part : goal.invariant-loop-part
invariant-loop-part l = first_lacking l.columns (map (λ c. c.name) (drop l.part-index l.parts)) ≡ first_lacking l.columns (map (λ c. c.name) l.parts)
