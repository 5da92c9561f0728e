-- The columns in sight, one FROM item after the other.
use Rattle.std.proofs.Common.{◌≡◌, refl, sym, ap, ◌∙◌, ℕ, ◌+◌, ◌<◌, Option, None, Some, List, [], ◌∷◌, ◌++◌, length, get_or, drop, map}
use Rattle.std.specs.Prelude.{zip}
use Rattle.std.specs.List.{flat_map, enumerate_from}
use Rattle.std.proofs.lemmas.List.{at_drop_more}
use Rattle.col_value.specs.declared.column.Column.{Column}
use Rattle.sql_tree.specs.declared.query.Source.{Source}
use Rattle.sql_binding.specs.Sight.{Seen, seen_as, item_columns, item_name}
use Rattle.sql_binding.specs.Queries.{columns_of}
use Rattle.name_binder.specs.Tables.{tables_found}

-- the columns of the FROM items from a place on
abbrev pub sight_from : ℕ → List Source → List (ℕ × List Column) → List Seen
sight_from i sources tables = flat_map item_columns (enumerate_from i (zip sources (columns_of tables)))

pub sight_more : (i : ℕ) (sources : List Source) (tables : List (ℕ × List Column)) (s : Source) (t : ℕ × List Column)
    → i < length sources → i < length tables → s ≡ get_or sources i s → t ≡ get_or tables i t
    → sight_from i (drop i sources) (drop i tables) ≡ map (seen_as i (item_name s)) t.1 ++ sight_from (i + 1) (drop (i + 1) sources) (drop (i + 1) tables)
sight_more i sources tables s t h k e f =
    at_drop_more (λ (rest : List Source). sight_from i rest (drop i tables)) sources i s h
    ∙ (at_drop_more (λ (rest : List (ℕ × List Column)). sight_from i (get_or sources i s ∷ drop (i + 1) sources) rest) tables i t k
    ∙ (ap (λ (x : Source). map (seen_as i (item_name x)) (get_or tables i t).1 ++ sight_from (i + 1) (drop (i + 1) sources) (drop (i + 1) tables)) (sym e)
    ∙ ap (λ (x : ℕ × List Column). map (seen_as i (item_name s)) x.1 ++ sight_from (i + 1) (drop (i + 1) sources) (drop (i + 1) tables)) (sym f)))

-- the tables found from a place on
pub found_more : (found : List (Option (ℕ × List Column))) (i : ℕ) (f : Option (ℕ × List Column)) → i < length found → f ≡ get_or found i f
    → tables_found (f ∷ []) ++ tables_found (drop (i + 1) found) ≡ tables_found (drop i found)
found_more found i f h e =
    let rest = drop (i + 1) found in
    joined f rest ∙ (ap (λ (x : Option (ℕ × List Column)). tables_found (x ∷ rest)) e ∙ sym (at_drop_more tables_found found i f h))
  where
    joined : (f : Option (ℕ × List Column)) (rest : List (Option (ℕ × List Column))) → tables_found (f ∷ []) ++ tables_found rest ≡ tables_found (f ∷ rest)
    joined None rest = refl
    joined (Some t) rest = refl
