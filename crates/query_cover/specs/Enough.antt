-- Rows of the FROM items but for some on which no tuple is kept.
use Rattle.std.specs.Prelude.{◌≡◌, ℕ, ◌+◌, ◌++◌, false, List, [], ◌∷◌, length}
use Rattle.std.specs.List.{All}
use Rattle.common_laws.specs.Bags.{SameBag}
use Rattle.col_value.specs.declared.value.Value.{Value}
use Rattle.sql_bound.specs.declared.query.FromItem.{FromItem}
use Rattle.sql_bound.specs.declared.query.BoundQuery.{BoundQuery}
use Rattle.sql_bound.specs.Outputs.{is_kept}

-- no tuple is kept that has these values in its columns from a place on
abbrev pub IsOut : BoundQuery → ℕ → List Value → Type 0
IsOut q first row = (before rest : List Value) → length before ≡ first → is_kept q.keep (before ++ (row ++ rest)) ≡ false

-- Of a FROM item's columns, of which there are so many and the first has this place, these rows are all but for some on which no tuple is kept,
-- whatever rows of the other items stand before and behind them.
pub record AreEnough (q : BoundQuery) (first columns : ℕ) (some rows : List (List Value)) : Type 0 where
  pub wide : All (λ row. length row ≡ columns) some
  pub passed : List (List Value)
  pub parts : SameBag rows (some ++ passed)
  pub out : All (IsOut q first) passed

-- so it is of each FROM item; their columns stand one behind the other
abbrev pub AreEnoughFrom : BoundQuery → ℕ → List FromItem → List (List (List Value)) → List (List (List Value)) → Type 0
AreEnoughFrom q first [] [] [] = Unit {0}
AreEnoughFrom q first [] [] (rows ∷ more) = ⊥
AreEnoughFrom q first [] (some ∷ others) more = ⊥
AreEnoughFrom q first (f ∷ fs) [] more = ⊥
AreEnoughFrom q first (f ∷ fs) (some ∷ others) [] = ⊥
AreEnoughFrom q first (f ∷ fs) (some ∷ others) (rows ∷ more) = AreEnough q first f.columns some rows × AreEnoughFrom q (first + f.columns) fs others more
