use Rattle.std.proofs.Common.{◌≡◌, ◌+◌, ◌+ℤ◌, ℤ, get_or, map, of_z, rules, subst, take, to_z, unsigned_abs, ◌∙◌}
use Rattle.std.specs.Int.{w64}
use Rattle.std.specs.List.{slice_index_or}
use Rattle.block_codec.specs.Held.{number_value}
use Rattle.col_value.specs.Order.{widened}
use Rattle.col_value.specs.declared.value.Value.TheVariants.{Null}
use Rattle.col_value.specs.declared.wide.Wide.TheVariants as wide
use Rattle.exec_group.specs.Columns.{IsTotalOf}
use Rattle.exec_group.proofs.Totals.{total_more}
use Rattle.exec_group.proofs.columns.column_total.Goals as goal

pub loop-place-preserved : goal.loop-place-preserved
loop-place-preserved c =
    let i = c.loop-place.place-index in
    let n = to_z w64 (of_z w64 c.in-Some.n) in
    let there : widened (slice_index_or (map number_value c.args.numbers.now) (get_or c.args.places.now i 0) Null) ≡ wide.Int n = search rules in
    let more : to_z w64 (of_z w64 c.in-Some-checked_add.more) ≡ c.loop-place.sum +ℤ n = search rules in
    let wider : c.in-Some-checked_add-2.wider ≡ c.loop-place.size + unsigned_abs n = search rules in
    let same : to_z w64 c.loop-place.sum-bits ≡ c.loop-place.sum = search rules in
    total_more c.args.columns.now c.args.e.now c.args.places.now i n c.loop-place.sum _ c.loop-place.size c.in-Some-checked_add-2.wider c.loop-place-test.true
    (c.requires (get_or c.args.places.now i 0) ∙ there) more wider
    (subst (λ (z : ℤ). IsTotalOf c.args.columns.now c.args.e.now (take i c.args.places.now) z c.loop-place.size) same c.loop-place.invariant)
