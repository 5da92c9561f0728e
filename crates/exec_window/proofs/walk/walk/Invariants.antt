use Rattle.std.proofs.Common.{◌≡◌, ◌++◌, map, drop, None}
use Rattle.std.specs.Prelude.{option_map}
use Rattle.exec_window.specs.Walks.{AllFit, SomeGreat, pair_of, seen_of, steps}
use Rattle.exec_window.proofs.walk.walk.Given as goal

abbrev pub invariant-loop-tuple : goal.invariant-loop-tuple
invariant-loop-tuple l = record {
  steps : l.out.items ++ steps l.window l.aggregate (option_map seen_of l.at) (map pair_of (drop l.tuple-index l.tuples)) ≡ steps l.window l.aggregate None (map pair_of l.tuples);
  fits : AllFit l.window l.aggregate (option_map seen_of l.at) (map pair_of (drop l.tuple-index l.tuples)) → AllFit l.window l.aggregate None (map pair_of l.tuples);
  great : SomeGreat l.window l.aggregate (option_map seen_of l.at) (map pair_of (drop l.tuple-index l.tuples)) → SomeGreat l.window l.aggregate None (map pair_of l.tuples);
}
