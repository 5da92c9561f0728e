-- Which symbols spell which query: one line for each production.
use Rattle.std.specs.Prelude.{ℕ, pos, Bool, true, false, List, [], ◌∷◌, Option, Some, None}
use Rattle.sql_words.specs.declared.token.Key.{Key}
use Rattle.sql_words.specs.declared.token.Sign.{Sign}
use Rattle.sql_tree.specs.declared.tree.ColRef.{ColRef}
use Rattle.sql_tree.specs.declared.tree.Tree.{Tree}
use Rattle.sql_tree.specs.declared.part.Tally.{Tally}
use Rattle.sql_tree.specs.declared.query.Item.{Item}
use Rattle.sql_tree.specs.declared.query.ItemTree.{ItemTree}
use Rattle.sql_tree.specs.declared.query.Items.{Items}
use Rattle.sql_tree.specs.declared.query.ListMode.{ListMode}
use Rattle.sql_tree.specs.declared.query.KeyRef.{KeyRef}
use Rattle.sql_tree.specs.declared.query.Query.{Query}
use Rattle.sql_tree.specs.declared.query.SortKey.{SortKey}
use Rattle.sql_tree.specs.declared.query.Source.{Source}
use Rattle.sql_tree.specs.declared.query.Window.{Window}
use Rattle.sql_tree.specs.declared.query.WindowKey.{WindowKey}
use Rattle.sql_tree.specs.declared.query.WindowKind.{WindowKind}
use Rattle.sql_tree.specs.Phrases.{One, Nothing, Then, Either, Many, Turns}
use Rattle.sql_tree.specs.Symbols.{Spelling, Word, Glyph, Inside, Listed, name_of, number_of}
use Rattle.sql_tree.specs.Makers.{as_window, over_all, over_parts}
use Rattle.sql_tree.specs.Expressions.{Reference, Tallied, Over, Base, Expr, GroupedExpr}
use Rattle.sql_tree.specs.Modes.{after_item, is_windowed}

-- [AS name]
abbrev pub Alias : Spelling (Option (List ℕ))
Alias = Either (Word Key.As (Then (One name_of) (λ n. Nothing (Some n)))) (Nothing None)

-- [ASC | DESC], whether it is DESC
abbrev pub Descending : Spelling Bool
Descending = Either (Word Key.Asc (Nothing false)) (Either (Word Key.Desc (Nothing true)) (Nothing false))

-- wkey = colref [ASC | DESC]
abbrev pub RowKey : Spelling WindowKey
RowKey = Then Reference (λ c. Then Descending (λ d. Nothing (record { column = c; descending = d })))

-- [PARTITION BY colref {, colref}]
abbrev pub PartitionBy : Spelling (List ColRef)
PartitionBy = Either (Word Key.Partition (Word Key.By (Listed Reference))) (Nothing [])

-- [ORDER BY wkey {, wkey}]
abbrev pub RowOrder : Spelling (List WindowKey)
RowOrder = Either (Word Key.Order (Word Key.By (Listed RowKey))) (Nothing [])

-- OVER ( [PARTITION BY colref {, colref}] [ORDER BY wkey {, wkey}] ), of the function w
abbrev pub OverRows : Window → Spelling Window
OverRows w = Word Key.Over (Inside (Then PartitionBy (λ ps. Then RowOrder (λ ks. Nothing (over_parts w ps ks)))))

-- ROW_NUMBER ( ) | RANK ( )
abbrev pub Ranking : Spelling Window
Ranking = Either (Word Key.RowNumber (Glyph Sign.Open (Glyph Sign.Close (Nothing (over_all WindowKind.RowNumber None))))) (Word Key.Rank (Glyph Sign.Open (Glyph Sign.Close (Nothing (over_all WindowKind.Rank None)))))

-- COUNT ( * ) | (COUNT | SUM) ( expr ), as an item or its beginning
abbrev pub ItemTally : Spelling Tally
ItemTally = Tallied (Over (Base false 32))

-- window = (ROW_NUMBER ( ) | RANK ( ) | COUNT ( * ) | (COUNT | SUM) ( expr )) OVER ( .. )
abbrev pub Windows : Spelling Window
Windows = Either (Then Ranking OverRows) (Then ItemTally (λ t. OverRows (as_window t)))

-- an item: with no window behind an aggregate, and with no aggregate outside of OVER behind a window
abbrev pub ItemTrees : ListMode → Spelling ItemTree
ItemTrees ListMode.Free = Either (Then Windows (λ w. Nothing (ItemTree.Window w))) (Then GroupedExpr (λ e. Nothing (ItemTree.Plain e)))
ItemTrees ListMode.Grouped = Then GroupedExpr (λ e. Nothing (ItemTree.Plain e))
ItemTrees ListMode.Windowed = Either (Then Windows (λ w. Nothing (ItemTree.Window w))) (Then Expr (λ e. Nothing (ItemTree.Plain e)))

-- item = (gexpr | window) [AS name]
abbrev pub SelectItem : ListMode → Spelling Item
SelectItem m = Then (ItemTrees m) (λ e. Then Alias (λ a. Nothing (record { tree = e; alias = a })))

-- behind the first item: {, item}
abbrev pub MoreItems : Item → Spelling (List Item)
MoreItems i = Turns (λ m. Glyph Sign.Comma (SelectItem m)) after_item (after_item ListMode.Free i)

-- item {, item}
abbrev pub ItemList : Spelling (List Item)
ItemList = Then (SelectItem ListMode.Free) (λ i. Then (MoreItems i) (λ is. Nothing (i ∷ is)))

-- * | item {, item}
abbrev pub SelectList : Spelling Items
SelectList = Either (Glyph Sign.Star (Nothing Items.Star)) (Then ItemList (λ is. Nothing (Items.Listed is)))

-- source = name [AS name]
abbrev pub FromItem : Spelling Source
FromItem = Then (One name_of) (λ t. Then Alias (λ a. Nothing (record { table = t; alias = a; on = None })))

-- a source that is joined on a condition
abbrev pub joined_on : Source → Tree → Source
joined_on s e = record { table = s.table; alias = s.alias; on = Some e }

-- source ON expr
abbrev pub Joined : Spelling Source
Joined = Then FromItem (λ s. Word Key.On (Then Expr (λ e. Nothing (joined_on s e))))

-- , source | [INNER] JOIN source ON expr
abbrev pub NextSource : Spelling Source
NextSource = Either (Glyph Sign.Comma FromItem) (Either (Word Key.Inner (Word Key.Join Joined)) (Word Key.Join Joined))

-- source {, source | [INNER] JOIN source ON expr}
abbrev pub Sources : Spelling (List Source)
Sources = Then FromItem (λ s. Then (Many NextSource) (λ ss. Nothing (s ∷ ss)))

-- [WHERE expr]
abbrev pub Where : Spelling (Option Tree)
Where = Either (Word Key.Where (Then Expr (λ e. Nothing (Some e)))) (Nothing None)

-- [GROUP BY colref {, colref}], not behind windows
abbrev pub GroupBy : Bool → Spelling (List ColRef)
GroupBy true = Nothing []
GroupBy false = Either (Word Key.Group (Word Key.By (Listed Reference))) (Nothing [])

-- [HAVING gexpr], not behind windows
abbrev pub Having : Bool → Spelling (Option Tree)
Having true = Nothing None
Having false = Either (Word Key.Having (Then GroupedExpr (λ e. Nothing (Some e)))) (Nothing None)

-- int | name
abbrev pub KeyName : Spelling KeyRef
KeyName = Either (Then (One number_of) (λ n. Nothing (KeyRef.Number (pos n)))) (Then (One name_of) (λ n. Nothing (KeyRef.Name n)))

-- key = (int | name) [ASC | DESC]
abbrev pub OrderKey : Spelling SortKey
OrderKey = Then KeyName (λ k. Then Descending (λ d. Nothing (record { key = k; descending = d })))

-- [ORDER BY key {, key}]
abbrev pub OrderBy : Spelling (List SortKey)
OrderBy = Either (Word Key.Order (Word Key.By (Listed OrderKey))) (Nothing [])

-- [LIMIT int]
abbrev pub Limit : Spelling (Option ℕ)
Limit = Either (Word Key.Limit (Then (One number_of) (λ n. Nothing (Some n)))) (Nothing None)

-- query = (* | item {, item}) FROM source {, source | [INNER] JOIN source ON expr}
--         [WHERE expr] [GROUP BY colref {, colref}] [HAVING gexpr] [ORDER BY key {, key}] [LIMIT int]
abbrev pub Queries : Spelling Query
Queries = Then SelectList (λ is. Word Key.From (Then Sources (λ ss. Then Where (λ w. Then (GroupBy (is_windowed is)) (λ g. Then (Having (is_windowed is)) (λ h. Then OrderBy (λ o. Then Limit (λ l. Nothing (record { items = is; sources = ss; keep = w; group = g; having = h; order = o; limit = l })))))))))
