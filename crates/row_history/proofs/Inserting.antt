-- A commit's rows join a table and a projection of it.
use Rattle.std.proofs.Common.{◌≡◌, ℕ, ◌++◌, List, [], ◌∷◌, map, refl, sym, ap, ◌∙◌, subst}
use Rattle.std.proofs.lemmas.List.{map-append}
use Rattle.std.proofs.lemmas.List.Elements.{filter-append}
use Rattle.common_laws.specs.Bags.{SameBag}
use Rattle.common_laws.proofs.BagLaws.{bag_refl, bag_append}
use Rattle.col_value.specs.declared.value.Value.{Value}
use Rattle.col_value.specs.declared.row.Stamped.{Stamped}
use Rattle.col_value.specs.Order.{projected}
use Rattle.row_history.specs.History.{is_retained, retained, on_columns, inserted_at}
use Rattle.row_history.proofs.Histories.{map_mapped}

retained_new : (mark epoch : ℕ) (rows : List (List Value)) → retained mark (map (inserted_at epoch) rows) ≡ map (inserted_at epoch) rows
retained_new mark epoch [] = refl
retained_new mark epoch (row ∷ rows) = ap (λ (ss : List Stamped). inserted_at epoch row ∷ ss) (retained_new mark epoch rows)

pub alike_inserted : (columns : List ℕ) (mark epoch : ℕ) (stored rows : List Stamped) (new : List (List Value)) → SameBag (retained mark stored) (map (on_columns columns) (retained mark rows))
    → SameBag (retained mark (stored ++ map (inserted_at epoch) (map (λ row. projected row columns) new))) (map (on_columns columns) (retained mark (rows ++ map (inserted_at epoch) new)))
alike_inserted columns mark epoch stored rows new bag =
    let narrow : List Stamped = map (inserted_at epoch) (map (λ row. projected row columns) new) in
    let left : retained mark (stored ++ narrow) ≡ retained mark stored ++ narrow =
    filter-append (is_retained mark) stored narrow ∙ ap (λ (ss : List Stamped). retained mark stored ++ ss) (retained_new mark epoch (map (λ row. projected row columns) new)) in
    let cols : map (on_columns columns) (map (inserted_at epoch) new) ≡ narrow = map_mapped (on_columns columns) (inserted_at epoch) new ∙ sym (map_mapped (inserted_at epoch) (λ row. projected row columns) new) in
    let right : map (on_columns columns) (retained mark (rows ++ map (inserted_at epoch) new)) ≡ map (on_columns columns) (retained mark rows) ++ narrow =
    ap (map (on_columns columns)) (filter-append (is_retained mark) rows (map (inserted_at epoch) new) ∙ ap (λ (ss : List Stamped). retained mark rows ++ ss) (retained_new mark epoch new))
    ∙ map-append (on_columns columns) (retained mark rows) (map (inserted_at epoch) new) ∙ ap (λ (ss : List Stamped). map (on_columns columns) (retained mark rows) ++ ss) cols in
    subst (λ (xs : List Stamped). SameBag xs (map (on_columns columns) (retained mark (rows ++ map (inserted_at epoch) new)))) (sym left)
    (subst (SameBag (retained mark stored ++ narrow)) (sym right) (bag_append (retained mark stored) narrow (map (on_columns columns) (retained mark rows)) narrow bag (bag_refl narrow)))
