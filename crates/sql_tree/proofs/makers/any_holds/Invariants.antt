use Rattle.std.proofs.Common.{◌≡◌, drop}
use Rattle.std.specs.List.{list_any}
use Rattle.sql_tree.specs.declared.part.Part.{Part}
use Rattle.sql_tree.proofs.makers.any_holds.Given as goal

abbrev pub invariant-loop-part : goal.invariant-loop-part
invariant-loop-part l = list_any (λ (p : Part). p.holds) (drop l.part-index l.parts) ≡ list_any (λ (p : Part). p.holds) l.parts
