use Rattle.std.proofs.Common.{◌≡◌, take, map}
use Rattle.std.specs.Prelude.{pos}
use Rattle.std.specs.List.{All}
use Rattle.col_value.specs.declared.value.Value.TheVariants.{Int}
use Rattle.ros_container.specs.Rows.{IsWithin}
use Rattle.container_blocks.proofs.stamps.epochs_of.Given as goal

abbrev pub invariant-loop-i : goal.invariant-loop-i
invariant-loop-i l = record {
  found : map (λ n. Int (pos n)) l.epochs.items ≡ take l.i l.values;
  within : All (IsWithin l.entry) l.epochs.items;
}
