-- Of a row on which no tuple is kept none is kept.
use Rattle.std.proofs.Common.{◌≡◌, ◌++◌, Bool, false, cond, List, [], ◌∷◌, map, filter, refl, ap, ◌∙◌}
use Rattle.col_value.specs.declared.value.Value.{Value}
use Rattle.sql_bound.specs.declared.expr.Expr.{Expr}
use Rattle.sql_bound.specs.Outputs.{is_kept}

abbrev Rows : Type 0
Rows = List (List Value)

-- no tuple that begins with the row is kept
abbrev IsOut : List Expr → List Value → Type 0
IsOut keep row = (rest : List Value) → is_kept keep (row ++ rest) ≡ false

abbrev joined : Rows → List Value → Rows
joined rests row = map (λ rest. row ++ rest) rests

pub none_of : (keep : List Expr) (row : List Value) (rests : Rows) → IsOut keep row → filter (is_kept keep) (joined rests row) ≡ []
none_of keep row [] out = refl
none_of keep row (rest ∷ rests) out =
    ap (λ (b : Bool). cond b ((row ++ rest) ∷ filter (is_kept keep) (joined rests row)) (filter (is_kept keep) (joined rests row))) (out rest) ∙ none_of keep row rests out
