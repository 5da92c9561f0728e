-- A bound of numbers, and one number more.
use Rattle.std.proofs.Common.{◌≡◌, ℕ, ℤ, ◌+◌, ◌<◌, List, length, get_or, take, sym, ap, ◌∙◌}
use Rattle.std.specs.List.{fold}
use Rattle.std.proofs.lemmas.List.Sums.{fold_more}
use Rattle.col_value.specs.declared.value.Value.{Value}
use Rattle.col_value.specs.declared.value.Value.TheVariants.{Int}

pub bound_more : (f : Value → Value → Value) (first : Value) (xs : List Value) (i : ℕ) (item : Value) (old new : ℤ) → i < length xs → item ≡ get_or xs i item → Int old ≡ fold f first (take i xs) → Int new ≡ f (Int old) item
    → Int new ≡ fold f first (take (i + 1) xs)
bound_more f first xs i item old new lt at so_far step =
    step ∙ ap (λ (v : Value). f v item) so_far ∙ ap (f (fold f first (take i xs))) at ∙ sym (fold_more f first xs i item lt)
