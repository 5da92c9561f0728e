-- Parts of the long productions, each with a reader of its own.
use Rattle.std.specs.Prelude.{Bool}
use Rattle.sql_words.specs.declared.token.Key.{Key}
use Rattle.sql_tree.specs.Symbols.{name_of}
use Rattle.sql_phrases.specs.Readings.{one, both, nothing}
use Rattle.sql_phrases.specs.Readers.{Reads, word, listed, new_column, literal, sorted_by, sources, where_clause, group_by, having, order_by, limit}
use Rattle.sql_reader.specs.declared.alterations.Added.{Added}
use Rattle.sql_reader.specs.declared.creations.Selection.{Selection}
use Rattle.sql_reader.specs.declared.queries.Kept.{Kept}
use Rattle.sql_reader.specs.declared.queries.Shape.{Shape}

-- what a projection takes of a table
unfoldable pub projects : Reads Selection
projects = word Key.As (word Key.Select (both (listed (one name_of)) (λ ns. word Key.From (both (one name_of) (λ t. both sorted_by (λ o. nothing (record { selected = ns; table = t; sort = o })))))))

-- what ALTER TABLE adds to a table
unfoldable pub adds : Reads Added
adds = word Key.Add (word Key.Column (both new_column (λ c. word Key.Default (both literal (λ d. nothing (record { column = c; default = d }))))))

-- the rows that a query keeps
unfoldable pub keeps : Reads Kept
keeps = word Key.From (both sources (λ ss. both where_clause (λ w. nothing (record { sources = ss; keep = w }))))

-- what a query, with windows or without, makes of the rows that it keeps
unfoldable pub shapes : Bool → Reads Shape
shapes windowed = both (group_by windowed) (λ g. both (having windowed) (λ h. both order_by (λ o. both limit (λ l. nothing (record { group = g; having = h; order = o; limit = l })))))
