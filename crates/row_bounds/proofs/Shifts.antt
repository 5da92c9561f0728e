-- Bounds of columns from a place on, counted from there.
use Rattle.std.proofs.Common.{◌≡◌, ℕ, ◌+◌, ◌<◌, ◌++◌, true, List, [], ◌∷◌, drop, sym, ap, ◌∙◌, subst, arith}
use Rattle.std.specs.List.{All, slice_index_or}
use Rattle.std.proofs.lemmas.List.{get_or-drop}
use Rattle.std.proofs.lemmas.List.Elements.{All-head, All-push}
use Rattle.col_value.specs.declared.value.Value.{Value}
use Rattle.col_value.specs.declared.value.Value.TheVariants as value
use Rattle.row_bounds.specs.declared.bound.Bound.{Bound}
use Rattle.row_bounds.specs.Bounds.{lies_in}

abbrev Own : ℕ → List Bound → Type 0
Own n bounds = All (λ b. b.column < n) bounds

-- the value of a column, counted from the place on
pub shifted_lies : (b moved : Bound) (first : ℕ) (row : List Value) → b.column ≡ first + moved.column → ((v : Value) → lies_in b v ≡ true → lies_in moved v ≡ true) → lies_in b (slice_index_or row b.column value.Null) ≡ true
    → lies_in moved (slice_index_or (drop first row) moved.column value.Null) ≡ true
shifted_lies b moved first row at wider here =
    ap (lies_in moved) (get_or-drop first row moved.column value.Null)
    ∙ wider (slice_index_or row (first + moved.column) value.Null) (sym (ap (λ (n : ℕ). lies_in b (slice_index_or row n value.Null)) at) ∙ here)

pub own_shifted : (n first : ℕ) (b moved : Bound) (was rest out next : List Bound) → was ≡ b ∷ rest → next ≡ out ++ moved ∷ [] → b.column ≡ first + moved.column → Own (first + n) was → Own n out → Own n next
own_shifted n first b moved was rest out next is next_is at all before =
    let here : b.column < first + n = All-head (λ (x : Bound). x.column < first + n) b rest (subst (Own (first + n)) is all) in
    subst (Own n) (sym next_is) (All-push (λ (x : Bound). x.column < n) out moved before (omega (arith, at, here)))
