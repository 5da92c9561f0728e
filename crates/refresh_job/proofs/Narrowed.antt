-- Rows of the source with the columns of the new projection.
use Rattle.std.proofs.Common.{◌≡◌, ℕ, ◌<◌, ◌++◌, List, [], ◌∷◌, length, map, get_or, Option, refl, sym, ap, ap₂, ◌∙◌, subst}
use Rattle.std.specs.List.{All}
use Rattle.std.proofs.lemmas.List.{map-append, length-map, get_or-map}
use Rattle.std.proofs.lemmas.List.Elements.{filter-append, All-head, All-tail}
use Rattle.common_laws.specs.Bags.{SameBag}
use Rattle.common_laws.proofs.BagLaws.{bag_append, bag_map, bag_filter}
use Rattle.col_value.specs.declared.row.Asked.{Asked}
use Rattle.col_value.specs.declared.row.Stamped.{Stamped}
use Rattle.row_history.specs.History.{is_retained, retained, on_columns, asked_on}
use Rattle.row_history.proofs.Histories.{retained_columns, filter_twice}
use Rattle.merge_rows.specs.Places.{asked_of, blank, row_at, rows_at, TakesPlaces}
use Rattle.merge_rows.proofs.Taken.{taken_retained}
use Rattle.container_draft.specs.Placed.{no_row, asked_at, all_at}
use Rattle.container_draft.specs.Reading.{del_of}
use Rattle.refresh_job.specs.Rows.{wanted}

-- ---- at their places

pub narrow_asked : (via : List ℕ) (rows : List Stamped) → map asked_of (map (on_columns via) rows) ≡ map (λ s. asked_on via (asked_of s)) rows
narrow_asked via [] = refl
narrow_asked via (s ∷ rows) = ap (λ (xs : List Asked). asked_of (on_columns via s) ∷ xs) (narrow_asked via rows)

pub narrow_deletes : (via : List ℕ) (rows : List Stamped) → map del_of (map (on_columns via) rows) ≡ map del_of rows
narrow_deletes via [] = refl
narrow_deletes via (s ∷ rows) = ap (λ (xs : List (Option ℕ)). s.del ∷ xs) (narrow_deletes via rows)

narrow_at : (via : List ℕ) (rows : List Stamped) (i : ℕ) → i < length rows → asked_at (map (asked_on via) (map asked_of rows)) i ≡ asked_on via (asked_of (row_at rows i))
narrow_at via rows i lt =
    get_or-map (asked_on via) (map asked_of rows) i no_row no_row (subst (λ (n : ℕ). i < n) (sym (length-map rows asked_of)) lt)
    ∙ ap (asked_on via) (get_or-map asked_of rows i blank no_row lt)

pub narrow_places : (via : List ℕ) (rows : List Stamped) (places : List ℕ) → All (λ i. i < length rows) places → all_at (map (asked_on via) (map asked_of rows)) places ≡ map (λ s. asked_on via (asked_of s)) (rows_at rows places)
narrow_places via rows [] within = refl
narrow_places via rows (i ∷ places) within =
    ap₂ (λ (x : Asked) (xs : List Asked). x ∷ xs) (narrow_at via rows i (All-head (λ j. j < length rows) i places within)) (narrow_places via rows places (All-tail (λ j. j < length rows) i places within))

-- ---- from a mark on

retained_again : (mark : ℕ) (rows : List Stamped) → retained mark (retained mark rows) ≡ retained mark rows
retained_again mark rows = filter_twice (is_retained mark) (is_retained mark) (λ s is. is) rows

front_kept : (mark : ℕ) (via : List ℕ) (saved : List Stamped) (places : List ℕ) → TakesPlaces mark saved places → SameBag (retained mark (map (on_columns via) (rows_at saved places))) (map (on_columns via) (retained mark saved))
front_kept mark via saved places takes =
    subst (λ (xs : List Stamped). SameBag xs (map (on_columns via) (retained mark saved))) (sym (retained_columns via mark (rows_at saved places)))
    (bag_map (on_columns via) (retained mark (rows_at saved places)) (retained mark saved) (taken_retained mark saved places takes))

behind_kept : (mark : ℕ) (via : List ℕ) (unsaved later : List Stamped) → SameBag later (wanted mark via unsaved) → SameBag (retained mark later) (map (on_columns via) (retained mark unsaved))
behind_kept mark via unsaved later bag =
    subst (SameBag (retained mark later)) (retained_columns via mark (retained mark unsaved) ∙ ap (map (on_columns via)) (retained_again mark unsaved)) (bag_filter (is_retained mark) later (wanted mark via unsaved) bag)

-- What holds the rows at places that were taken, and behind them those of the memory in some order, holds from the mark on what the source stores, with
-- these columns.
pub all_kept : (mark : ℕ) (via : List ℕ) (saved unsaved later : List Stamped) (places : List ℕ) → TakesPlaces mark saved places → SameBag later (wanted mark via unsaved)
    → SameBag (retained mark (map (on_columns via) (rows_at saved places) ++ later)) (map (on_columns via) (retained mark (saved ++ unsaved)))
all_kept mark via saved unsaved later places takes bag =
    let front : List Stamped = map (on_columns via) (rows_at saved places) in
    let on : List Stamped → List Stamped = λ (xs : List Stamped). map (on_columns via) (retained mark xs) in
    let parts : on (saved ++ unsaved) ≡ on saved ++ on unsaved = ap (map (on_columns via)) (filter-append (is_retained mark) saved unsaved) ∙ map-append (on_columns via) (retained mark saved) (retained mark unsaved) in
    subst (λ (xs : List Stamped). SameBag xs (on (saved ++ unsaved))) (sym (filter-append (is_retained mark) front later))
    (subst (SameBag (retained mark front ++ retained mark later)) (sym parts) (bag_append (retained mark front) (retained mark later) (on saved) (on unsaved) (front_kept mark via saved places takes) (behind_kept mark via unsaved later bag)))
