-- The first literal that is so, in lists that are joined.
use Rattle.std.proofs.Common.{◌≡◌, sym, ℕ, ◌+◌, ◌<◌, List, [], ◌∷◌, ◌++◌, length, get_or, drop, Bool, refl, ap, ◌∙◌, arith}
use Rattle.std.specs.Prelude.{zip}
use Rattle.std.proofs.lemmas.List.{at_drop_more}
use Rattle.col_value.specs.declared.wide.Wide.{Wide}
use Rattle.col_value.specs.declared.column.Column.{Column}
use Rattle.std.proofs.lemmas.Grind.{common_steps}
use Rattle.sql_binding.specs.Firsts.{first_of}
use Rattle.sql_binding.specs.Inserts.{first_such, pairs}

pub first_such_joined : (p : Column × Wide → Bool) (xs ys : List (Column × Wide)) → first_such p (xs ++ ys) ≡ first_of (first_such p xs) (first_such p ys)
first_such_joined p [] ys = refl
first_such_joined p (x ∷ xs) ys = grind (arith, common_steps, first_such_joined p xs ys)

-- the first in the row at a place, else the first in the rows behind it
pub first_such_from : (p : Column × Wide → Bool) (columns : List Column) (rows : List (List Wide)) (i : ℕ) (row : List Wide) → i < length rows → row ≡ get_or rows i row
    → first_such p (pairs columns (drop i rows)) ≡ first_of (first_such p (zip columns row)) (first_such p (pairs columns (drop (i + 1) rows)))
first_such_from p columns rows i row h e =
    at_drop_more (λ rest. first_such p (pairs columns rest)) rows i row h
    ∙ (first_such_joined p (zip columns (get_or rows i row)) (pairs columns (drop (i + 1) rows))
    ∙ ap (λ r. first_of (first_such p (zip columns r)) (first_such p (pairs columns (drop (i + 1) rows)))) (sym e))
