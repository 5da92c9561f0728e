use Rattle.std.proofs.Common.{◌≡◌, map, take}
use Rattle.std.specs.Prelude.{pos}
use Rattle.std.specs.List.{All}
use Rattle.col_value.specs.declared.value.Value.TheVariants.{Int}
use Rattle.ros_container.specs.Rows.{IsWithin}
use Rattle.container_draft.proofs.loading.epochs_in.Given as goal

abbrev pub invariant-loop-place : goal.invariant-loop-place
invariant-loop-place l = record {
  epochs : map (λ e. Int (pos e)) l.out.items ≡ take l.place l.values;
  within : All (IsWithin l.entry) l.out.items;
}
