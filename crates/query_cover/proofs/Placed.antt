-- Rows of the table's columns, made of a projection's rows.
use Rattle.std.proofs.Common.{◌≡◌, ℕ, zero, suc, ◌+◌, ◌≤◌, ◌<◌, ◌++◌, Bool, true, false, cond, List, [], ◌∷◌, length, map, get_or, Option, Some, None, refl, sym, ap, ap₂, ◌∙◌, arith, subst}
use Rattle.std.specs.Prelude.{is_some}
use Rattle.std.specs.List.{All, slice_get}
use Rattle.std.specs.Option.{IfSome}
use Rattle.std.proofs.lemmas.List.{map-append}
use Rattle.std.proofs.lemmas.List.Elements.{All-append, All-cons, All-head, All-nil, All-tail}
use Rattle.common_laws.specs.Bags.{SameBag}
use Rattle.common_laws.proofs.BagLaws.{bag_append, bag_map, bag_refl}
use Rattle.col_value.specs.declared.row.Stamped.{Stamped}
use Rattle.col_value.specs.declared.value.Value.{Value}
use Rattle.col_value.specs.declared.value.Value.TheVariants as value
use Rattle.col_value.specs.Order.{projected}
use Rattle.row_history.specs.History.{on_columns, retained, visible}
use Rattle.row_history.proofs.Histories.{bag_visible, visible_columns, visible_retained}
use Rattle.sql_bound.specs.declared.query.BoundQuery.{BoundQuery}
use Rattle.query_cover.specs.Seen.{AreSeen, ArePlaces, placed, value_at}
use Rattle.sql_bound.specs.Used.{blanked, is_used}

-- From the mark on a projection holds the table's rows with its columns. Then what it shows at an epoch from the mark on is what the table
-- shows, with its columns.
pub shows_same : (ordinals : List ℕ) (mark epoch : ℕ) (stored rows : List Stamped) → mark ≤ epoch → SameBag (retained mark stored) (map (on_columns ordinals) (retained mark rows))
    → SameBag (visible epoch stored) (map (λ row. projected row ordinals) (visible epoch rows))
shows_same ordinals mark epoch stored rows le bag =
    let seen = bag_visible epoch (retained mark stored) (map (on_columns ordinals) (retained mark rows)) bag in
    subst (λ (xs : List (List Value)). SameBag xs (map (λ row. projected row ordinals) (visible epoch rows))) (visible_retained mark epoch stored le)
    (subst (SameBag (visible epoch (retained mark stored))) (visible_columns ordinals epoch (retained mark rows) ∙ ap (map (λ (row : List Value). projected row ordinals)) (visible_retained mark epoch rows le)) seen)

-- the column at a place of a projection is found in its rows
projected_at : (row : List Value) (ordinals : List ℕ) (i c : ℕ) → slice_get ordinals i ≡ Some c → get_or (projected row ordinals) i value.Null ≡ get_or row c value.Null
projected_at row [] i c is = absurd (cc)
projected_at row (o ∷ os) zero c is = let same : o ≡ c = cc in ap (λ (n : ℕ). get_or row n value.Null) same
projected_at row (o ∷ os) (suc i) c is = projected_at row os i c is

-- a place, where one is needed, is that of a column
abbrev Stands : List ℕ → ℕ → Option ℕ → Type 0
Stands ordinals c place = IfSome place (λ i. slice_get ordinals i ≡ Some c)

-- one value, where it is used
value_placed : (row : List Value) (ordinals : List ℕ) (c : ℕ) (place : Option ℕ) (v : Value) (used : Bool) → Stands ordinals c place → (used ≡ true → is_some place ≡ true)
    → v ≡ get_or row c value.Null → cond used (value_at (projected row ordinals) place) value.Null ≡ cond used v value.Null
value_placed row ordinals c place v false stands here is = refl
value_placed row ordinals c None v true stands here is = let none : false ≡ true = here refl in absurd (cc)
value_placed row ordinals c (Some i) v true stands here is = projected_at row ordinals i c stands ∙ sym is

-- the columns from a place on
placed_from : (test : ℕ → Bool) (row : List Value) (ordinals : List ℕ) (first at : ℕ) (places : List (Option ℕ)) (rest : List Value) → length places ≡ length rest
    → ((j : ℕ) → j < length places → Stands ordinals (at + j) (get_or places j None))
    → ((j : ℕ) → j < length places → test (first + j) ≡ true → is_some (get_or places j None) ≡ true)
    → ((j : ℕ) → get_or rest j value.Null ≡ get_or row (at + j) value.Null)
    → blanked test first (map (value_at (projected row ordinals)) places) ≡ blanked test first rest
placed_from test row ordinals first at [] [] long stands used is = refl
placed_from test row ordinals first at [] (v ∷ rest) long stands used is = absurd (omega (arith, long))
placed_from test row ordinals first at (p ∷ places) [] long stands used is = absurd (omega (arith, long))
placed_from test row ordinals first at (p ∷ places) (v ∷ rest) long stands used is =
    let here : at + 0 ≡ at = omega arith in
    let first_here : first ≡ first + 0 = omega arith in
    let next : (j : ℕ) → at + suc j ≡ (at + 1) + j = λ j. omega arith in
    let first_next : (j : ℕ) → (first + 1) + j ≡ first + suc j = λ j. omega arith in
    ap₂ (λ (x : Value) (xs : List Value). x ∷ xs)
    (value_placed row ordinals at p v (test first) (subst (λ (n : ℕ). Stands ordinals n p) here (stands 0 (omega arith)))
    (λ is_used. used 0 (omega arith) (sym (ap test first_here) ∙ is_used)) (is 0 ∙ ap (λ (n : ℕ). get_or row n value.Null) here))
    (placed_from test row ordinals (first + 1) (at + 1) places rest (omega (arith, long))
    (λ j lt. subst (λ (n : ℕ). Stands ordinals n (get_or places j None)) (next j) (stands (suc j) (omega (arith, lt))))
    (λ j lt is_used. used (suc j) (omega (arith, lt)) (sym (ap test (first_next j)) ∙ is_used))
    (λ j. is (suc j) ∙ ap (λ (n : ℕ). get_or row n value.Null) (next j)))

row_placed : (q : BoundQuery) (first columns : ℕ) (ordinals : List ℕ) (places : List (Option ℕ)) (row : List Value) → ArePlaces q first columns ordinals places → length row ≡ columns
    → blanked (is_used q) first (placed places (projected row ordinals)) ≡ blanked (is_used q) first row
row_placed q first columns ordinals places row are long =
    let same : (j : ℕ) → j ≡ 0 + j = λ j. omega arith in
    placed_from (is_used q) row ordinals first 0 places row (are.long ∙ sym long)
    (λ j lt. subst (λ (n : ℕ). Stands ordinals n (get_or places j None)) (same j) (are.own j (omega (arith, lt, are.long))))
    (λ j lt is_used. are.used j (omega (arith, lt, are.long)) is_used) (λ j. ap (λ (n : ℕ). get_or row n value.Null) (same j))

rows_placed : (q : BoundQuery) (first columns : ℕ) (ordinals : List ℕ) (places : List (Option ℕ)) (rows : List (List Value)) → ArePlaces q first columns ordinals places → All (λ row. length row ≡ columns) rows
    → map (blanked (is_used q) first) (map (placed places) (map (λ row. projected row ordinals) rows)) ≡ map (blanked (is_used q) first) rows
rows_placed q first columns ordinals places [] are wide = refl
rows_placed q first columns ordinals places (row ∷ rows) are wide =
    ap₂ (λ (r : List Value) (rs : List (List Value)). r ∷ rs) (row_placed q first columns ordinals places row are (All-head (λ r. length r ≡ columns) row rows wide))
    (rows_placed q first columns ordinals places rows are (All-tail (λ r. length r ≡ columns) row rows wide))

length_placed : (row : List Value) (places : List (Option ℕ)) → length (placed places row) ≡ length places
length_placed row [] = refl
length_placed row (p ∷ places) = ap suc (length_placed row places)

all_long : (columns : ℕ) (places : List (Option ℕ)) (shown : List (List Value)) → length places ≡ columns → All (λ row. length row ≡ columns) (map (placed places) shown)
all_long columns places [] long = All-nil (λ row. length row ≡ columns)
all_long columns places (row ∷ shown) long =
    All-cons (λ r. length r ≡ columns) (placed places row) (map (placed places) shown) (length_placed row places ∙ long) (all_long columns places shown long)

pub placed_seen : (q : BoundQuery) (first columns : ℕ) (ordinals : List ℕ) (places : List (Option ℕ)) (shown rows more : List (List Value)) → ArePlaces q first columns ordinals places
    → All (λ row. length row ≡ columns) rows → All (λ row. length row ≡ columns) more → SameBag shown (map (λ row. projected row ordinals) rows)
    → AreSeen q first columns (map (placed places) shown ++ more) (rows ++ more)
placed_seen q first columns ordinals places shown rows more are wide more_wide bag =
    let blank = blanked (is_used q) first in
    let own = map (λ (row : List Value). projected row ordinals) rows in
    let moved : SameBag (map blank (map (placed places) shown)) (map blank (map (placed places) own)) =
    bag_map blank (map (placed places) shown) (map (placed places) own) (bag_map (placed places) shown own bag) in
    let here : SameBag (map blank (map (placed places) shown)) (map blank rows) =
    subst (SameBag (map blank (map (placed places) shown))) (rows_placed q first columns ordinals places rows are wide) moved in
    let both : SameBag (map blank (map (placed places) shown) ++ map blank more) (map blank rows ++ map blank more) =
    bag_append (map blank (map (placed places) shown)) (map blank more) (map blank rows) (map blank more) here (bag_refl (map blank more)) in
    record {
      wide = All-append (λ row. length row ≡ columns) (map (placed places) shown) more (all_long columns places shown are.long) more_wide;
      width = All-append (λ row. length row ≡ columns) rows more wide more_wide;
      same =
          subst (λ (xs : List (List Value)). SameBag xs (map blank (rows ++ more))) (sym (map-append blank (map (placed places) shown) more))
          (subst (SameBag (map blank (map (placed places) shown) ++ map blank more)) (sym (map-append blank rows more)) both);
    }
