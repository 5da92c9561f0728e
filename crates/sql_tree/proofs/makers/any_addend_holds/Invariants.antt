use Rattle.std.proofs.Common.{◌≡◌, drop}
use Rattle.std.specs.List.{list_any}
use Rattle.sql_tree.specs.declared.part.Addend.{Addend}
use Rattle.sql_tree.proofs.makers.any_addend_holds.Given as goal

abbrev pub invariant-loop-addend : goal.invariant-loop-addend
invariant-loop-addend l = list_any (λ (a : Addend). a.part.holds) (drop l.addend-index l.addends) ≡ list_any (λ (a : Addend). a.part.holds) l.addends
