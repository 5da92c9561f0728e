use Rattle.std.proofs.Common.{◌≡◌, take}
use Rattle.std.specs.List.{fold}
use Rattle.col_value.specs.declared.value.Value.TheVariants.{Int}
use Rattle.pos_index.specs.Built.{lesser, greater}
use Rattle.pos_index.proofs.bounds.number_bounds.Given as goal

abbrev pub invariant-loop-value : goal.invariant-loop-value
invariant-loop-value l = record {
  least : Int l.least ≡ fold lesser (Int l.first) (take l.value-index l.others);
  greatest : Int l.greatest ≡ fold greater (Int l.first) (take l.value-index l.others);
}
