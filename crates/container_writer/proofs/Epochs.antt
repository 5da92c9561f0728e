-- The least and the greatest epoch of rows, one row at a time.
use Rattle.std.proofs.Common.{ℕ, ◌≡◌, ◌≤◌, ◌<◌, ◌+◌, List, map, take, length, get_or, min, max, arith, subst}
use Rattle.std.specs.List.{All}
use Rattle.std.proofs.lemmas.List.Elements.{All-map, All-more, All-weaker}
use Rattle.col_value.specs.declared.row.Asked.{Asked}
use Rattle.container_writer.specs.declared.refs.Keyed.{Keyed}
use Rattle.container_writer.specs.Ordered.{asked_of}

pub lesser_more : (rows : List Keyed) (i : ℕ) (x : Keyed) (least : ℕ) → i < length rows → x ≡ get_or rows i x
    → All (λ k. least ≤ k.stamped.ins) (take i rows) → All (λ k. min least x.stamped.ins ≤ k.stamped.ins) (take (i + 1) rows)
lesser_more rows i x least within is all =
    All-more (λ k. min least x.stamped.ins ≤ k.stamped.ins) rows i x within
    (All-weaker (λ k. least ≤ k.stamped.ins) (λ k. min least x.stamped.ins ≤ k.stamped.ins) (λ k h. omega (arith, h)) (take i rows) all)
    (subst (λ (y : Keyed). min least x.stamped.ins ≤ y.stamped.ins) is (omega arith))

pub greater_more : (rows : List Keyed) (i : ℕ) (x : Keyed) (greatest : ℕ) → i < length rows → x ≡ get_or rows i x
    → All (λ k. k.stamped.ins ≤ greatest) (take i rows) → All (λ k. k.stamped.ins ≤ max greatest x.stamped.ins) (take (i + 1) rows)
greater_more rows i x greatest within is all =
    All-more (λ k. k.stamped.ins ≤ max greatest x.stamped.ins) rows i x within
    (All-weaker (λ k. k.stamped.ins ≤ greatest) (λ k. k.stamped.ins ≤ max greatest x.stamped.ins) (λ k h. omega (arith, h)) (take i rows) all)
    (subst (λ (y : Keyed). y.stamped.ins ≤ max greatest x.stamped.ins) is (omega arith))

-- epochs from the least to the greatest
pub all_within : (least greatest : ℕ) (rows : List Keyed) → All (λ k. least ≤ k.stamped.ins) rows → All (λ k. k.stamped.ins ≤ greatest) rows
    → All (λ (a : Asked). (least ≤ a.ins) × (a.ins ≤ greatest)) (map asked_of rows)
all_within least greatest rows above below = All-map (λ (a : Asked). (least ≤ a.ins) × (a.ins ≤ greatest)) asked_of rows (λ i d within. (above i d within, below i d within))
