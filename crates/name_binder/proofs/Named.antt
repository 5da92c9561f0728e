-- Names among those of the FROM items.
use Rattle.std.proofs.Common.{◌≡◌, refl, ap, ℕ, zero, suc, List, [], ◌∷◌, take, Bool}
use Rattle.std.specs.Prelude.{◌||◌, bytes_eq}
use Rattle.std.specs.List.{list_any}
use Rattle.sql_tree.specs.declared.query.Source.{Source}
use Rattle.sql_binding.specs.Sight.{item_name}
use Rattle.sql_binding.specs.Queries.{names_of}

pub any_name : (sources : List Source) (name : List ℕ) → list_any (λ n. bytes_eq n name) (names_of sources) ≡ list_any (λ s. bytes_eq (item_name s) name) sources
any_name [] name = refl
any_name (s ∷ rest) name = ap (λ (b : Bool). bytes_eq (item_name s) name || b) (any_name rest name)

pub any_name_before : (sources : List Source) (i : ℕ) (name : List ℕ)
    → list_any (λ n. bytes_eq n name) (take i (names_of sources)) ≡ list_any (λ s. bytes_eq (item_name s) name) (take i sources)
any_name_before [] zero name = refl
any_name_before [] (suc i) name = refl
any_name_before (s ∷ rest) zero name = refl
any_name_before (s ∷ rest) (suc i) name = ap (λ (b : Bool). bytes_eq (item_name s) name || b) (any_name_before rest i name)
