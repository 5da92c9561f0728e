-- What the code looks for in the text of a query, and where it looks.
use Rattle.std.specs.Prelude.{ℕ, ◌||◌, Bool, List, Option}
use Rattle.sql_tree.specs.declared.query.Query.{Query}
use Rattle.sql_tree.specs.declared.tree.Term.{Term}
use Rattle.sql_tree.specs.declared.tree.Tree.TheFolds.{fold-Term}
use Rattle.sql_binding.specs.Firsts.{first_of}
use Rattle.sql_binding.specs.Uses.{Use, uses_step, uses_term}
use Rattle.sql_binding.specs.Sight.{Reach}
use Rattle.sql_binding.specs.Search.{Search, shown, whole_rows, first_in_items, first_in_sources, first_in_condition, first_in_group}
use Rattle.sql_binding.specs.Queries.{table_search, column_search, twice_search}
use Rattle.name_binder.specs.declared.look.Look.{Look}
use Rattle.name_binder.specs.declared.view.View.{View}
use Rattle.name_binder.specs.Tables.{columns_found}

-- the three searches
abbrev pub looks : Look → Search
looks (Look.Tables found sources) = table_search (columns_found found.now) sources.now
looks (Look.Columns seen q) = column_search seen.now q.now
looks (Look.Twice seen q) = twice_search seen.now q.now

abbrev pub reach_of : View → Reach
reach_of v = record { last = v.last; grouped = v.grouped }

-- a use as it stands, or inside an aggregate
abbrev pub used_where : Bool → Use → Use
used_where inside u = record { inside = inside || u.inside; column = u.column }

-- what is found at a column
abbrev pub named_in : View → Bool → Use → Option (List ℕ)
named_in v inside u = (looks v.look).column (reach_of v) (used_where inside u)

-- the first place of a query before its ORDER BY
abbrev pub first_before_order : Search → Query → Option (List ℕ)
first_before_order s q =
    first_of (first_in_items s (shown q) q.items)
    (first_of (first_in_sources s q.sources)
    (first_of (first_in_condition s (whole_rows q) q.keep)
    (first_of (first_in_group s (whole_rows q) q.group)
    (first_in_condition s (shown q) q.having))))

-- the columns that a part of a sum names
abbrev pub term_uses : Term → List Use
term_uses = fold-Term (List Use) (List Use) uses_step uses_term
