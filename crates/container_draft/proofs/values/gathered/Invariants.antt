use Rattle.std.proofs.Common.{◌≡◌, ◌+◌, ◌-◌, ◌≤◌, length, map, take}
use Rattle.std.specs.Prelude.{slice_index_or}
use Rattle.std.specs.Vec.{vec_len, vec_capacity}
use Rattle.std.specs.List.{All}
use Rattle.block_codec.specs.Held.{number_value}
use Rattle.col_value.specs.Order.{IsValue}
use Rattle.col_value.specs.declared.value.Value.TheVariants.{Null}
use Rattle.container_draft.proofs.values.gathered.Given as goal

abbrev pub invariant-loop-place : goal.invariant-loop-place
invariant-loop-place l = record {
  room : vec_len l.out + (length l.places - l.place-index) ≤ vec_capacity l.out;
  same : l.out.items ≡ map (λ i. slice_index_or (map number_value l.lane) i Null) (take l.place-index l.places);
  values : All IsValue l.out.items;
}
