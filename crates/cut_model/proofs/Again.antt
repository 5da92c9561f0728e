-- Rows that are cut again.
use Rattle.std.proofs.Common.{◌≡◌, ℕ, ◌≤◌, List, sym, ap, ◌∙◌, subst}
use Rattle.common_laws.specs.Bags.{SameBag}
use Rattle.col_value.specs.declared.row.Stamped.{Stamped}
use Rattle.row_history.specs.History.{retained, cut_rows}
use Rattle.row_history.proofs.Histories.{retained_cut, bag_cut}
use Rattle.stored_rows.proofs.EarlyCuts.{cut_twice}

-- rows that are, from the mark on, those of a cut, stay so where they are cut again
pub bag_again : (mark epoch : ℕ) (new held : List Stamped) → mark ≤ epoch → SameBag (retained mark new) (retained mark (cut_rows epoch held)) → SameBag (retained mark (cut_rows epoch new)) (retained mark (cut_rows epoch held))
bag_again mark epoch new held le same =
    let right : cut_rows epoch (retained mark (cut_rows epoch held)) ≡ retained mark (cut_rows epoch held) =
    sym (retained_cut mark epoch (cut_rows epoch held) le) ∙ ap (retained mark) (cut_twice epoch held) in
    subst (λ (xs : List Stamped). SameBag xs (retained mark (cut_rows epoch held))) (sym (retained_cut mark epoch new le))
    (subst (SameBag (cut_rows epoch (retained mark new))) right (bag_cut epoch (retained mark new) (retained mark (cut_rows epoch held)) same))
