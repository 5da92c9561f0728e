-- Whether a member of a condition bounds a column by a constant.
use Rattle.std.specs.Prelude.{ℕ, ◌≡◌, ◌-◌, ◌==◌, ◌&&◌, ◌||◌, nat_le, nat_lt, Bool, false, Option}
use Rattle.std.specs.Option.{option_map_or}
use Rattle.sql_bound.specs.declared.expr.Expr.{Expr}
use Rattle.sql_bound.specs.declared.expr.Expr.TheViews.{out-Expr}
use Rattle.sql_bound.specs.declared.expr.Expr.TheOpen.{Expr-F}
use Rattle.sql_bound.specs.declared.expr.BoundTerm.{BoundTerm}
use Rattle.sql_bound.specs.declared.query.FromItem.{FromItem}
use Rattle.db_model.specs.Choice as choice
use Rattle.plan_choice.specs.declared.bounding.Side as mine

-- the side of a comparison, without the columns that it bounds itself
pub record IsSide (s : mine.Side) (of : choice.Side) : Type 0 where
  pub number : s.number ≡ of.number
  pub constant : s.constant ≡ of.constant
  pub alone : s.alone ≡ of.alone

-- the column of this place of a FROM item stands alone
abbrev pub is_at : FromItem → ℕ → Option ℕ → Bool
is_at f c alone = option_map_or (λ i. nat_le f.first i && (nat_lt (i - f.first) f.columns && (i - f.first == c))) alone false

abbrev pub bounds_at : FromItem → ℕ → choice.Side → choice.Side → Bool
bounds_at f c a b = (b.constant && is_at f c a.alone) || (a.constant && is_at f c b.alone)

abbrev pub bounds_in : FromItem → ℕ → Expr-F Expr BoundTerm → Bool
bounds_in f c (Expr-F.Compare a how b) = choice.is_bounding how && bounds_at f c (choice.side_of a) (choice.side_of b)
bounds_in f c x = false

abbrev pub bounds_column : FromItem → ℕ → Expr → Bool
bounds_column f c e = bounds_in f c (out-Expr e)
