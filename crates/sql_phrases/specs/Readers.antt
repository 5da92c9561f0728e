-- How each production is read from the front.
use Rattle.std.specs.Prelude.{ℕ, zero, suc, pos, neg_ℤ, Bool, true, false, List, [], ◌∷◌, Option, Some, None}
use Rattle.col_value.specs.declared.kinds.ColType.{ColType}
use Rattle.col_value.specs.declared.kinds.Encoding.{Encoding}
use Rattle.col_value.specs.declared.wide.Wide.{Wide}
use Rattle.sql_words.specs.declared.token.Back.{Back}
use Rattle.sql_words.specs.declared.token.Key.{Key}
use Rattle.sql_words.specs.declared.token.Sign.{Sign}
use Rattle.sql_words.specs.Symbols.{Symbol}
use Rattle.sql_tree.specs.declared.part.Addend.{Addend}
use Rattle.sql_tree.specs.declared.part.Part.{Part}
use Rattle.sql_tree.specs.declared.part.Tally.{Tally}
use Rattle.sql_tree.specs.declared.query.At.{At}
use Rattle.sql_tree.specs.declared.query.Item.{Item}
use Rattle.sql_tree.specs.declared.query.ItemTree.{ItemTree}
use Rattle.sql_tree.specs.declared.query.Items.{Items}
use Rattle.sql_tree.specs.declared.query.KeyRef.{KeyRef}
use Rattle.sql_tree.specs.declared.query.ListMode.{ListMode}
use Rattle.sql_tree.specs.declared.query.Query.{Query}
use Rattle.sql_tree.specs.declared.query.SortKey.{SortKey}
use Rattle.sql_tree.specs.declared.query.Source.{Source}
use Rattle.sql_tree.specs.declared.query.Window.{Window}
use Rattle.sql_tree.specs.declared.query.WindowKey.{WindowKey}
use Rattle.sql_tree.specs.declared.query.WindowKind.{WindowKind}
use Rattle.sql_tree.specs.declared.statement.Function.{Function}
use Rattle.col_value.specs.declared.column.Column.{Column}
use Rattle.sql_tree.specs.declared.statement.NewPart.{NewPart}
use Rattle.sql_tree.specs.declared.statement.Setting.{Setting}
use Rattle.sql_tree.specs.declared.statement.Statement.{Statement}
use Rattle.sql_tree.specs.declared.tree.AggKind.{AggKind}
use Rattle.sql_tree.specs.declared.tree.ColRef.{ColRef}
use Rattle.sql_tree.specs.declared.tree.Tree.{Tree}
use Rattle.sql_tree.specs.declared.tree.Tree
use Rattle.sql_tree.specs.Symbols.{name_of, text_of, number_of, width_of, session_of, task_of, table_of, cmp_of}
use Rattle.sql_tree.specs.Makers.{constant, column, negated, denied, is_null, compared, between, one_of, chained, addend, summed, aggregated, as_aggregate, as_window, over_all, over_parts}
use Rattle.sql_tree.specs.Modes.{after_item, is_windowed}
use Rattle.sql_tree.specs.Queries.{joined_on}
use Rattle.sql_phrases.specs.Readings.{Read, one, nothing, both, choose, refuse, mark, many, turns}
use Rattle.sql_phrases.specs.Dates.{day_in}
use Rattle.sql_phrases.specs.Classes.{is_key, is_sign, is_back, in_set, name_classes, number_classes, text_classes, cmp_classes, signed_classes, aggregate_classes, tally_classes, ranking_classes, window_classes, source_classes, call_classes}

abbrev pub Reads : Type 0 → Type 0
Reads V = List Symbol → Read Symbol V

-- a keyword, and behind it a
abbrev pub word : {V : Type 0} → Key → Reads V → Reads V
word k a = mark (is_key k) a

-- a sign, and behind it a
abbrev pub glyph : {V : Type 0} → Sign → Reads V → Reads V
glyph s a = mark (is_sign s) a

-- a command, and behind it a
abbrev pub command : {V : Type 0} → Back → Reads V → Reads V
command b a = mark (is_back b) a

-- a between parentheses
unfoldable pub inside : {V : Type 0} → Reads V → Reads V
inside a = glyph Sign.Open (both a (λ x. glyph Sign.Close (nothing x)))

-- behind the first part x of a chain: a again and again, each behind the keyword
unfoldable pub word_rest : {X V : Type 0} → Key → Reads X → (X → List X → V) → X → Reads V
word_rest k a f x = both (many (is_key k) (word k a)) (λ xs. nothing (f x xs))

-- the same, each behind the sign
unfoldable pub glyph_rest : {X V : Type 0} → Sign → Reads X → (X → List X → V) → X → Reads V
glyph_rest s a f x = both (many (is_sign s) (glyph s a)) (λ xs. nothing (f x xs))

-- a once or more, with a keyword between two
unfoldable pub by_word : {X V : Type 0} → Key → Reads X → (X → List X → V) → Reads V
by_word k a f = both a (word_rest k a f)

-- a once or more, with a sign between two
unfoldable pub by_glyph : {X V : Type 0} → Sign → Reads X → (X → List X → V) → Reads V
by_glyph s a f = both a (glyph_rest s a f)

-- a once or more, with commas
unfoldable pub listed : {V : Type 0} → Reads V → Reads (List V)
listed a = both a (λ x. both (many (is_sign Sign.Comma) (glyph Sign.Comma a)) (λ xs. nothing (x ∷ xs)))

-- expressions

unfoldable pub named_constant : Reads Wide
named_constant = choose (is_key Key.True) (word Key.True (nothing (Wide.Bool true))) (choose (is_key Key.False) (word Key.False (nothing (Wide.Bool false))) (word Key.Null (nothing Wide.Null)))

unfoldable pub date_constant : Reads Wide
date_constant = word Key.Date (both (one day_in) (λ n. nothing (Wide.Date n)))

unfoldable pub a_constant : Reads Wide
a_constant = choose (in_set number_classes) (both (one number_of) (λ n. nothing (Wide.Int (pos n)))) (choose (in_set text_classes) (both (one text_of) (λ t. nothing (Wide.Text t))) (choose (is_key Key.Date) date_constant named_constant))

unfoldable pub literal : Reads Wide
literal = choose (is_sign Sign.Minus) (glyph Sign.Minus (both (one number_of) (λ n. nothing (Wide.Int (neg_ℤ (pos n)))))) a_constant

unfoldable pub qualified : List ℕ → Reads ColRef
qualified n = choose (is_sign Sign.Dot) (glyph Sign.Dot (both (one name_of) (λ m. nothing (record { qualifier = Some n; name = m })))) (nothing (record { qualifier = None; name = n }))

unfoldable pub reference : Reads ColRef
reference = both (one name_of) qualified

unfoldable pub atom : Reads Part
atom = choose (in_set name_classes) (both reference (λ c. nothing (column c))) (both a_constant (λ w. nothing (constant w)))

unfoldable pub unary : Reads Part → Reads Part
unary p = choose (is_sign Sign.Minus) (glyph Sign.Minus (both p (λ x. nothing (negated x)))) p

unfoldable pub product : Reads Part → Reads Part
product p = by_glyph Sign.Star (unary p) (chained Tree.Product)

unfoldable pub signed : Reads Part → Reads Addend
signed p = choose (is_sign Sign.Plus) (glyph Sign.Plus (both (product p) (λ x. nothing (addend false x)))) (glyph Sign.Minus (both (product p) (λ x. nothing (addend true x))))

-- behind the first product x of a sum
unfoldable pub sum_rest : Reads Part → Part → Reads Part
sum_rest p x = both (many (in_set signed_classes) (signed p)) (λ ys. nothing (summed x ys))

unfoldable pub sum : Reads Part → Reads Part
sum p = both (product p) (sum_rest p)

unfoldable pub comparison : Reads Part → Part → Reads Part
comparison p x = both (one cmp_of) (λ cmp. both (sum p) (λ y. nothing (compared x cmp y)))

unfoldable pub null_test : Part → Reads Part
null_test x = word Key.Is (choose (is_key Key.Not) (word Key.Not (word Key.Null (nothing (denied (is_null x))))) (word Key.Null (nothing (is_null x))))

unfoldable pub betweens : Reads Part → Part → Reads Part
betweens p x = word Key.Between (both (sum p) (λ y. word Key.And (both (sum p) (λ z. nothing (between x y z)))))

unfoldable pub among : Reads Part → Part → Reads Part
among p x = word Key.In (inside (by_glyph Sign.Comma (sum p) (one_of x)))

unfoldable pub ranged : Reads Part → Part → Bool → Reads Part
ranged p x true = refuse (is_key Key.Between) (refuse (is_key Key.In) (nothing x))
ranged p x false = choose (is_key Key.Between) (betweens p x) (choose (is_key Key.In) (among p x) (nothing x))

unfoldable pub tail : Reads Part → Part → Reads Part
tail p x = choose (in_set cmp_classes) (comparison p x) (choose (is_key Key.Is) (null_test x) (ranged p x x.holds))

unfoldable pub predicate : Reads Part → Reads Part
predicate p = both (sum p) (tail p)

unfoldable pub negation : Reads Part → Reads Part
negation p = choose (is_key Key.Not) (word Key.Not (both (predicate p) (λ x. nothing (denied x)))) (predicate p)

unfoldable pub conjunction : Reads Part → Reads Part
conjunction p = by_word Key.And (negation p) (chained Tree.And)

unfoldable pub over : Reads Part → Reads Part
over p = by_word Key.Or (conjunction p) (chained Tree.Or)

-- what stands in an expression behind x, its first unary
unfoldable pub over_from : Reads Part → Part → Reads Part
over_from p x = both (glyph_rest Sign.Star (unary p) (chained Tree.Product) x) (λ y. both (sum_rest p y) (λ z. both (tail p z) (λ w. both (word_rest Key.And (negation p) (chained Tree.And) w) (word_rest Key.Or (conjunction p) (chained Tree.Or)))))

unfoldable pub counted : Reads Part → Reads Tally
counted e = inside (choose (is_sign Sign.Star) (glyph Sign.Star (nothing Tally.All)) (both e (λ x. nothing (Tally.Count x))))

unfoldable pub summing : Reads Part → Reads Tally
summing e = both (inside e) (λ x. nothing (Tally.Sum x))

unfoldable pub tallied : Reads Part → Reads Tally
tallied e = choose (is_key Key.Count) (word Key.Count (counted e)) (word Key.Sum (summing e))

unfoldable pub argument : AggKind → Reads Part → Reads Part
argument kind e = both (inside e) (λ x. nothing (aggregated kind x))

unfoldable pub aggregate : Reads Part → Reads Part
aggregate e = choose (in_set tally_classes) (both (tallied e) (λ t. nothing (as_aggregate t))) (choose (is_key Key.Min) (word Key.Min (argument AggKind.Min e)) (word Key.Max (argument AggKind.Max e)))

unfoldable pub primary : ℕ → Reads Part
primary zero = atom
primary (suc depth) = choose (is_sign Sign.Open) (inside (over (primary depth))) atom

unfoldable pub leaf : ℕ → Reads Part
leaf depth = choose (in_set aggregate_classes) (aggregate (over (primary depth))) atom

unfoldable pub grouped : ℕ → Reads Part
grouped zero = leaf zero
grouped (suc depth) = choose (is_sign Sign.Open) (inside (over (grouped depth))) (leaf (suc depth))

-- the primary of a gexpr, or of an expr
abbrev pub base : Bool → ℕ → Reads Part
base true depth = grouped depth
base false depth = primary depth

unfoldable pub expr : Reads Tree
expr = both (over (base false 32)) (λ x. nothing x.tree)

unfoldable pub grouped_expr : Reads Tree
grouped_expr = both (over (base true 32)) (λ x. nothing x.tree)

-- queries

unfoldable pub alias : Reads (Option (List ℕ))
alias = choose (is_key Key.As) (word Key.As (both (one name_of) (λ n. nothing (Some n)))) (nothing None)

unfoldable pub descending : Reads Bool
descending = choose (is_key Key.Asc) (word Key.Asc (nothing false)) (choose (is_key Key.Desc) (word Key.Desc (nothing true)) (nothing false))

unfoldable pub row_key : Reads WindowKey
row_key = both reference (λ c. both descending (λ d. nothing (record { column = c; descending = d })))

unfoldable pub partition_by : Reads (List ColRef)
partition_by = choose (is_key Key.Partition) (word Key.Partition (word Key.By (listed reference))) (nothing [])

unfoldable pub row_order : Reads (List WindowKey)
row_order = choose (is_key Key.Order) (word Key.Order (word Key.By (listed row_key))) (nothing [])

-- between the parentheses of OVER, of the function w
unfoldable pub parts_of : Window → Reads Window
parts_of w = both partition_by (λ ps. both row_order (λ ks. nothing (over_parts w ps ks)))

unfoldable pub over_rows : Window → Reads Window
over_rows w = word Key.Over (inside (parts_of w))

-- a window function that has no argument
unfoldable pub bare_window : Key → WindowKind → Reads Window
bare_window k kind = word k (glyph Sign.Open (glyph Sign.Close (nothing (over_all kind None))))

unfoldable pub ranking : Reads Window
ranking = choose (is_key Key.RowNumber) (bare_window Key.RowNumber WindowKind.RowNumber) (bare_window Key.Rank WindowKind.Rank)

unfoldable pub item_tally : Reads Tally
item_tally = tallied (over (base false 32))

-- a window that begins with ROW_NUMBER or RANK
unfoldable pub ranked : Reads ItemTree
ranked = both (both ranking over_rows) (λ w. nothing (ItemTree.Window w))

unfoldable pub windows : Reads Window
windows = choose (in_set ranking_classes) (both ranking over_rows) (both item_tally (λ t. over_rows (as_window t)))

-- a gexpr that begins with a COUNT or SUM
unfoldable pub tally_expr : Tally → Reads ItemTree
tally_expr t = both (over_from (base true 32) (as_aggregate t)) (λ x. nothing (ItemTree.Plain x.tree))

-- a window of a COUNT or SUM
unfoldable pub tally_window : Tally → Reads ItemTree
tally_window t = both (over_rows (as_window t)) (λ w. nothing (ItemTree.Window w))

-- what begins with COUNT or SUM: which of both it is shows behind it
unfoldable pub tally_item : Reads ItemTree
tally_item = both item_tally (λ t. choose (is_key Key.Over) (tally_window t) (tally_expr t))

unfoldable pub plain_item : Reads ItemTree
plain_item = both grouped_expr (λ e. nothing (ItemTree.Plain e))

unfoldable pub item_tree : ListMode → Reads ItemTree
item_tree ListMode.Free = choose (in_set ranking_classes) ranked (choose (in_set tally_classes) tally_item plain_item)
item_tree ListMode.Grouped = plain_item
item_tree ListMode.Windowed = choose (in_set window_classes) (both windows (λ w. nothing (ItemTree.Window w))) (both expr (λ e. nothing (ItemTree.Plain e)))

unfoldable pub select_item : ListMode → Reads Item
select_item m = both (item_tree m) (λ e. both alias (λ a. nothing (record { tree = e; alias = a })))

-- one more item, in a mode
abbrev pub next_item : ListMode → Reads Item
next_item m = glyph Sign.Comma (select_item m)

unfoldable pub items : Reads (List Item)
items = both (select_item ListMode.Free) (λ i. both (turns (is_sign Sign.Comma) next_item after_item (after_item ListMode.Free i)) (λ is. nothing (i ∷ is)))

unfoldable pub select_list : Reads Items
select_list = choose (is_sign Sign.Star) (glyph Sign.Star (nothing Items.Star)) (both items (λ is. nothing (Items.Listed is)))

unfoldable pub from_item : Reads Source
from_item = both (one name_of) (λ t. both alias (λ a. nothing (record { table = t; alias = a; on = None })))

unfoldable pub joins : Reads Source
joins = both from_item (λ s. word Key.On (both expr (λ e. nothing (joined_on s e))))

unfoldable pub next_source : Reads Source
next_source = choose (is_sign Sign.Comma) (glyph Sign.Comma from_item) (choose (is_key Key.Inner) (word Key.Inner (word Key.Join joins)) (word Key.Join joins))

unfoldable pub sources : Reads (List Source)
sources = both from_item (λ s. both (many (in_set source_classes) next_source) (λ ss. nothing (s ∷ ss)))

unfoldable pub where_clause : Reads (Option Tree)
where_clause = choose (is_key Key.Where) (word Key.Where (both expr (λ e. nothing (Some e)))) (nothing None)

unfoldable pub group_by : Bool → Reads (List ColRef)
group_by true = nothing []
group_by false = choose (is_key Key.Group) (word Key.Group (word Key.By (listed reference))) (nothing [])

unfoldable pub having : Bool → Reads (Option Tree)
having true = nothing None
having false = choose (is_key Key.Having) (word Key.Having (both grouped_expr (λ e. nothing (Some e)))) (nothing None)

unfoldable pub key_name : Reads KeyRef
key_name = choose (in_set number_classes) (both (one number_of) (λ n. nothing (KeyRef.Number (pos n)))) (both (one name_of) (λ n. nothing (KeyRef.Name n)))

unfoldable pub order_key : Reads SortKey
order_key = both key_name (λ k. both descending (λ d. nothing (record { key = k; descending = d })))

unfoldable pub order_by : Reads (List SortKey)
order_by = choose (is_key Key.Order) (word Key.Order (word Key.By (listed order_key))) (nothing [])

unfoldable pub limit : Reads (Option ℕ)
limit = choose (is_key Key.Limit) (word Key.Limit (both (one number_of) (λ n. nothing (Some n)))) (nothing None)

unfoldable pub queries : Reads Query
queries = both select_list (λ is. word Key.From (both sources (λ ss. both where_clause (λ w. both (group_by (is_windowed is)) (λ g. both (having (is_windowed is)) (λ h. both order_by (λ o. both limit (λ l. nothing (record { items = is; sources = ss; keep = w; group = g; having = h; order = o; limit = l })))))))))

-- statements

unfoldable pub kind : Reads ColType
kind = choose (is_key Key.Integer) (word Key.Integer (nothing ColType.Integer)) (choose (is_key Key.Int) (word Key.Int (nothing ColType.Integer)) (choose (is_key Key.Bigint) (word Key.Bigint (nothing ColType.Integer)) (choose (is_key Key.Boolean) (word Key.Boolean (nothing ColType.Boolean)) (choose (is_key Key.Varchar) (word Key.Varchar (both (inside (one width_of)) (λ n. nothing (ColType.Varchar n)))) (word Key.Date (nothing ColType.Date))))))

unfoldable pub not_null : Reads Bool
not_null = choose (is_key Key.Not) (word Key.Not (word Key.Null (nothing true))) (nothing false)

unfoldable pub new_column : Reads Column
new_column = both (one name_of) (λ n. both kind (λ k. both not_null (λ b. nothing (record { name = n; kind = k; not_null = b }))))

unfoldable pub creates_table : Reads Statement
creates_table = word Key.Table (both (one name_of) (λ t. both (inside (listed new_column)) (λ cs. nothing (Statement.CreateTable t cs))))

unfoldable pub encoding_name : Reads Encoding
encoding_name = choose (is_key Key.Auto) (word Key.Auto (nothing Encoding.Auto)) (choose (is_key Key.Rle) (word Key.Rle (nothing Encoding.Rle)) (choose (is_key Key.Deltaval) (word Key.Deltaval (nothing Encoding.DeltaVal)) (choose (is_key Key.BlockDict) (word Key.BlockDict (nothing Encoding.BlockDict)) (word Key.Plain (nothing Encoding.Plain)))))

unfoldable pub encoded : Reads Encoding
encoded = choose (is_key Key.Encoding) (word Key.Encoding encoding_name) (nothing Encoding.Auto)

unfoldable pub new_part : Reads NewPart
new_part = both (one name_of) (λ n. both encoded (λ e. nothing (record { name = n; encoding = e })))

unfoldable pub sorted_by : Reads (Option (List (List ℕ)))
sorted_by = choose (is_key Key.Order) (word Key.Order (word Key.By (both (listed (one name_of)) (λ ns. nothing (Some ns))))) (nothing None)

unfoldable pub creates_projection : Reads Statement
creates_projection = word Key.Projection (both (one name_of) (λ p. both (inside (listed new_part)) (λ ps. word Key.As (word Key.Select (both (listed (one name_of)) (λ ns. word Key.From (both (one name_of) (λ t. both sorted_by (λ o. nothing (Statement.CreateProjection (record { name = p; parts = ps; selected = ns; table = t; sort = o })))))))))))

unfoldable pub creates : Reads Statement
creates = word Key.Create (choose (is_key Key.Table) creates_table creates_projection)

unfoldable pub alters : Reads Statement
alters = word Key.Alter (word Key.Table (both (one name_of) (λ t. word Key.Add (word Key.Column (both new_column (λ c. word Key.Default (both literal (λ d. nothing (Statement.AddColumn (record { table = t; column = c; default = d }))))))))))

unfoldable pub drops : Reads Statement
drops = word Key.Drop (choose (is_key Key.Table) (word Key.Table (both (one name_of) (λ t. nothing (Statement.DropTable t)))) (word Key.Projection (both (one name_of) (λ p. nothing (Statement.DropProjection p)))))

unfoldable pub tuple : Reads (List Wide)
tuple = inside (listed literal)

unfoldable pub inserts : Reads Statement
inserts = word Key.Insert (word Key.Into (both (one name_of) (λ t. word Key.Values (both (listed tuple) (λ rows. nothing (Statement.Insert (record { table = t; rows = rows })))))))

unfoldable pub deletes : Reads Statement
deletes = word Key.Delete (word Key.From (both (one name_of) (λ t. both where_clause (λ w. nothing (Statement.Delete (record { table = t; keep = w }))))))

unfoldable pub sets : Reads Setting
sets = both (one name_of) (λ c. glyph Sign.Equal (both expr (λ e. nothing (record { column = c; tree = e }))))

unfoldable pub updates : Reads Statement
updates = word Key.Update (both (one name_of) (λ t. word Key.Set (both (listed sets) (λ ss. both where_clause (λ w. nothing (Statement.Update (record { table = t; settings = ss; keep = w })))))))

unfoldable pub copies : Reads Statement
copies = word Key.Copy (both (one name_of) (λ t. word Key.From (both (one text_of) (λ f. nothing (Statement.Copy t f)))))

unfoldable pub bare : Key → Function → Reads Function
bare k f = word k (glyph Sign.Open (glyph Sign.Close (nothing f)))

unfoldable pub sets_ahm : Reads Function
sets_ahm = word Key.SetAhmEpoch (both (inside (one number_of)) (λ n. nothing (Function.SetAhm n)))

unfoldable pub tasks : Reads Function
tasks = word Key.DoTmTask (inside (one task_of))

unfoldable pub purges : Reads Function
purges = word Key.PurgeTable (both (inside (one table_of)) (λ t. nothing (Function.Purge t)))

unfoldable pub refreshes : Reads Function
refreshes = word Key.Refresh (both (inside (one table_of)) (λ t. nothing (Function.Refresh t)))

unfoldable pub calls : Reads Function
calls = choose (is_key Key.GetLastGoodEpoch) (bare Key.GetLastGoodEpoch Function.Lge) (choose (is_key Key.GetAhmEpoch) (bare Key.GetAhmEpoch Function.Ahm) (choose (is_key Key.GetCurrentEpoch) (bare Key.GetCurrentEpoch Function.Current) (choose (is_key Key.MakeAhmNow) (bare Key.MakeAhmNow Function.MakeAhmNow) (choose (is_key Key.StartRefresh) (bare Key.StartRefresh Function.StartRefresh) (choose (is_key Key.SetAhmEpoch) sets_ahm (choose (is_key Key.DoTmTask) tasks (choose (is_key Key.PurgeTable) purges refreshes)))))))

unfoldable pub selects : Reads Statement
selects = word Key.Select (choose (in_set call_classes) (both calls (λ f. nothing (Statement.Call f))) (both queries (λ q. nothing (Statement.Select At.View q))))

unfoldable pub epochs : Reads At
epochs = choose (in_set number_classes) (both (one number_of) (λ n. nothing (At.Epoch n))) (word Key.Latest (nothing At.Latest))

unfoldable pub selects_at : Reads Statement
selects_at = word Key.At (word Key.Epoch (both epochs (λ at. word Key.Select (both queries (λ q. nothing (Statement.Select at q))))))

unfoldable pub explains : Reads Statement
explains = word Key.Explain (word Key.Select (both queries (λ q. nothing (Statement.Explain q))))

unfoldable pub sessions : Reads Statement
sessions = command Back.Session (both (one session_of) (λ n. nothing (Statement.Session n)))

unfoldable pub controls : Reads Statement
controls = choose (is_key Key.Commit) (word Key.Commit (nothing Statement.Commit)) (choose (is_key Key.Rollback) (word Key.Rollback (nothing Statement.Rollback)) (choose (is_back Back.Session) sessions (command Back.Step (nothing Statement.Step))))

unfoldable pub reads : Reads Statement
reads = choose (is_key Key.Create) creates (choose (is_key Key.Alter) alters (choose (is_key Key.Drop) drops (choose (is_key Key.Insert) inserts (choose (is_key Key.Delete) deletes (choose (is_key Key.Update) updates (choose (is_key Key.Copy) copies (choose (is_key Key.Select) selects (choose (is_key Key.At) selects_at (choose (is_key Key.Explain) explains controls)))))))))
