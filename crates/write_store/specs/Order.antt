-- The order of rows with their insert epochs, and what such a row feeds a hasher.
use Rattle.std.specs.Prelude.{◌≡◌, ◌++◌, true, refl}
use Rattle.std.proofs.Common.{ap, ap₂, ℕ, List}
use Rattle.std.specs.Cmp.{IsTotalOrder, then_total, on_total, nat_cmp_total}
use Rattle.std.specs.FinMap.{IsAntisymmetric, nat_cmp-IsAntisymmetric}
use Rattle.std.specs.Hash as fed
use Rattle.std.specs.Ordering.{nat_cmp, ordering_then, eq_by_cmp}
use Rattle.std.specs.declared.cmp.Ordering.{Ordering}
use Rattle.std.specs.declared.cmp.Ordering.TheVariants.{Less, Equal, Greater}
use Rattle.col_value.specs.Hashes.{value_fed}
use Rattle.col_value.specs.Laws.{row_exact, row_total, tie_told}
use Rattle.col_value.specs.Order.{row_cmp}
use Rattle.col_value.specs.declared.value.Value.{Value}
use Rattle.write_store.specs.declared.held.Inserted.{Inserted}

-- by the epoch, and then by the row
abbrev pub inserted_cmp : Inserted → Inserted → Ordering
inserted_cmp a b = ordering_then (nat_cmp a.ins b.ins) (row_cmp a.row b.row)

-- the epoch, and then the row's values
abbrev pub inserted_fed : Inserted → fed.HashWrites
inserted_fed a = fed.u64 a.ins ++ fed.slice value_fed a.row

pub inserted_total : IsTotalOrder inserted_cmp
inserted_total = then_total (on_total (λ (a : Inserted). a.ins) nat_cmp_total) (on_total (λ (a : Inserted). a.row) row_total)

-- a chain of two orders ties where both tie
first_tie : (a b : Ordering) → ordering_then a b ≡ Equal → a ≡ Equal
first_tie Less b e = e
first_tie Equal b e = refl
first_tie Greater b e = e

second_tie : (a b : Ordering) → ordering_then a b ≡ Equal → b ≡ Equal
second_tie Less b e = cc
second_tie Equal b e = e
second_tie Greater b e = cc

-- only equal rows of one epoch tie
pub inserted_exact : IsAntisymmetric inserted_cmp
inserted_exact a b e =
    let make : ℕ → List Value → Inserted = λ ins row. record { ins = ins; row = row } in
    ap₂ make (nat_cmp-IsAntisymmetric a.ins b.ins (first_tie (nat_cmp a.ins b.ins) (row_cmp a.row b.row) e)) (row_exact a.row b.row (second_tie (nat_cmp a.ins b.ins) (row_cmp a.row b.row) e))

pub inserted_fed_alike : (a b : Inserted) → eq_by_cmp inserted_cmp a b ≡ true → inserted_fed a ≡ inserted_fed b
inserted_fed_alike a b e = ap inserted_fed (inserted_exact a b (tie_told (inserted_cmp a b) e))
