-- Rows that were sorted.
use Rattle.std.specs.Cmp.{IsTotalOrder, then_total, on_total, nat_cmp_total}
use Rattle.std.proofs.Common.{◌≡◌, ℕ, List, length, map, subst}
use Rattle.std.proofs.lemmas.Map.Views.{All-map-IsPermutation}
use Rattle.std.specs.List.Sorted.{IsPermutation}
use Rattle.std.specs.Prelude.{Result, Ok, Err, IfOk}
use Rattle.common_laws.specs.Bags.{SameBag}
use Rattle.common_laws.proofs.BagLaws.{bag_map, bag_of_permutation, bag_trans}
use Rattle.catalog_types.specs.declared.catalogue.Projection.{Projection}
use Rattle.col_value.specs.Laws.{row_total}
use Rattle.col_value.specs.Order.{projected}
use Rattle.col_value.specs.declared.row.Asked.{Asked}
use Rattle.col_value.specs.declared.row.Stamped.{Stamped}
use Rattle.ros_container.specs.Rows.{AreWide}
use Rattle.container_writer.specs.declared.refs.Keyed.{Keyed}
use Rattle.container_writer.specs.Ordered.{asked_of, container_cmp, restamp}

-- the order of a container's rows is total
pub container_total : (shape : Projection) → IsTotalOrder (container_cmp shape)
container_total shape =
    then_total (on_total (λ (a : Asked). projected a.row shape.sort) row_total) (then_total (on_total (λ (a : Asked). a.row) row_total) (on_total (λ (a : Asked). a.ins) nat_cmp_total))

pub same_rows : (rows : List Stamped) (keyed near sorted : List Keyed) → map restamp keyed ≡ rows → IsPermutation keyed near → IsPermutation near sorted → SameBag rows (map restamp sorted)
same_rows rows keyed near sorted is first second =
    subst (λ (xs : List Stamped). SameBag xs (map restamp sorted)) is
    (bag_map restamp keyed sorted (bag_trans keyed near sorted (bag_of_permutation keyed near first) (bag_of_permutation near sorted second)))

pub still_wide : (columns : ℕ) (keyed near sorted : List Keyed) → AreWide columns (map asked_of keyed) → IsPermutation keyed near → IsPermutation near sorted → AreWide columns (map asked_of sorted)
still_wide columns keyed near sorted wide first second =
    All-map-IsPermutation asked_of (λ (a : Asked). length a.row ≡ columns) near sorted second
    (All-map-IsPermutation asked_of (λ (a : Asked). length a.row ≡ columns) keyed near first wide)

pub weaker_ok : {T E : Type 0} (P Q : T → Type 0) (r : Result T E) → ((t : T) → P t → Q t) → IfOk r P → IfOk r Q
weaker_ok P Q (Ok t) f p = f t p
weaker_ok P Q (Err e) f p = tt
