-- Rows that are copied, one after the other.
use Rattle.std.proofs.Common.{◌≡◌, ℕ, ◌+◌, ◌<◌, ◌++◌, List, [], ◌∷◌, length, drop, get_or, append_assoc, sym, ◌∙◌, ap}
use Rattle.std.proofs.lemmas.List.{drop_more}

pub moved_on : {X : Type 0} (rows : List X) (k : ℕ) (row : X) (out next whole : List X) → k < length rows → row ≡ get_or rows k row → next ≡ out ++ row ∷ [] → out ++ drop k rows ≡ whole → next ++ drop (k + 1) rows ≡ whole
moved_on {X} rows k row out next whole lt at more was =
    ap (λ (xs : List X). xs ++ drop (k + 1) rows) more ∙ append_assoc out (row ∷ []) (drop (k + 1) rows)
    ∙ sym (ap (λ (l : List X). out ++ l) (drop_more rows k row lt ∙ ap (λ (x : X). x ∷ drop (k + 1) rows) (sym at))) ∙ was
