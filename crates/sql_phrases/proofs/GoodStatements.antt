-- Each production of statements is good.
use Rattle.std.proofs.Common.{◌≡◌, ℕ, Bool, true, false, List, [], ◌∷◌, Option, Some, None, refl}
use Rattle.col_value.specs.declared.kinds.ColType.{ColType}
use Rattle.col_value.specs.declared.kinds.Encoding.{Encoding}
use Rattle.col_value.specs.declared.wide.Wide.{Wide}
use Rattle.sql_words.specs.declared.token.Back.{Back}
use Rattle.sql_words.specs.declared.token.Key.{Key}
use Rattle.sql_words.specs.declared.token.Sign.{Sign}
use Rattle.sql_words.specs.Symbols.{Symbol}
use Rattle.sql_tree.specs.declared.query.At.{At}
use Rattle.sql_tree.specs.declared.statement.Function.{Function}
use Rattle.col_value.specs.declared.column.Column.{Column}
use Rattle.sql_tree.specs.declared.statement.NewPart.{NewPart}
use Rattle.sql_tree.specs.declared.statement.Setting.{Setting}
use Rattle.sql_tree.specs.declared.statement.Statement.{Statement}
use Rattle.sql_tree.specs.declared.tree.Tree.{Tree}
use Rattle.sql_tree.specs.Spells.{Kind, NotNull, NewColumns, CreatesTable, EncodingName, Encoded, NewParts, SortedBy, CreatesProjection, Creates, Alters, Drops, Tuple, Inserts, Deletes, Sets, Updates, Copies, Bare, SetsAhm, Tasks, Purges, Refreshes, Calls, Selects, Epochs, SelectsAt, Explains, Sessions, Controls, Spells}
use Rattle.sql_phrases.specs.Classes.{Class, in_set, name_classes, number_classes, call_classes}
use Rattle.sql_phrases.specs.Readers.{kind, not_null, new_column, creates_table, encoding_name, encoded, new_part, sorted_by, creates_projection, creates, alters, drops, tuple, inserts, deletes, sets, updates, copies, bare, sets_ahm, tasks, purges, refreshes, calls, selects, epochs, selects_at, explains, sessions, controls, reads}
use Rattle.sql_phrases.proofs.Agains.{again_one_value}
use Rattle.sql_phrases.proofs.Goods.{Good, good_nothing, good_key, good_sign, good_back, good_then, good_made, good_wider}
use Rattle.sql_phrases.proofs.Shapes.{good_at_key, good_at_back, good_at_set, good_inside, good_listed}
use Rattle.sql_phrases.proofs.Picks.{good_name, good_number, good_text, good_width, good_session, good_task, good_table}
use Rattle.sql_phrases.proofs.GoodExpressions.{good_literal, good_expr}
use Rattle.sql_phrases.proofs.GoodQueries.{good_where, good_queries}
use Rattle.sql_phrases.proofs.Sets.{of_keys, over_more, where_more, query_more, kind_first, encoding_first, sorted_more, control_first, statement_first}

pub good_kind : Good Kind kind kind_first false []
unfolding kind
good_kind = good_at_key Key.Integer refl (good_key Key.Integer (good_nothing ColType.Integer)) (good_at_key Key.Int refl (good_key Key.Int (good_nothing ColType.Integer)) (good_at_key Key.Bigint refl (good_key Key.Bigint (good_nothing ColType.Integer)) (good_at_key Key.Boolean refl (good_key Key.Boolean (good_nothing ColType.Boolean)) (good_at_key Key.Varchar refl (good_key Key.Varchar (good_made (λ n. ColType.Varchar n) (good_inside refl good_width))) (good_key Key.Date (good_nothing ColType.Date))))))

pub good_not_null : Good NotNull not_null (of_keys (Key.Not ∷ [])) true (of_keys (Key.Not ∷ []))
unfolding not_null
good_not_null = good_at_key Key.Not refl (good_key Key.Not (good_key Key.Null (good_nothing true))) (good_nothing false)

pub good_new_column : Good NewColumns new_column name_classes false (of_keys (Key.Not ∷ []))
unfolding new_column
good_new_column = good_then refl good_name (λ n. good_then refl good_kind (λ k.
    let with_rule : Bool → Column = λ b. record { name = n; kind = k; not_null = b } in
    good_made with_rule good_not_null))

pub good_creates_table : Good CreatesTable creates_table (of_keys (Key.Table ∷ [])) false []
unfolding creates_table
good_creates_table = good_key Key.Table (good_then refl good_name (λ t. good_made (λ cs. Statement.CreateTable t cs) (good_inside refl (good_listed refl good_new_column))))

pub good_encoding_name : Good EncodingName encoding_name encoding_first false []
unfolding encoding_name
good_encoding_name = good_at_key Key.Auto refl (good_key Key.Auto (good_nothing Encoding.Auto)) (good_at_key Key.Rle refl (good_key Key.Rle (good_nothing Encoding.Rle)) (good_at_key Key.Deltaval refl (good_key Key.Deltaval (good_nothing Encoding.DeltaVal)) (good_at_key Key.BlockDict refl (good_key Key.BlockDict (good_nothing Encoding.BlockDict)) (good_key Key.Plain (good_nothing Encoding.Plain)))))

pub good_encoded : Good Encoded encoded (of_keys (Key.Encoding ∷ [])) true (of_keys (Key.Encoding ∷ []))
unfolding encoded
good_encoded = good_at_key Key.Encoding refl (good_key Key.Encoding good_encoding_name) (good_nothing Encoding.Auto)

pub good_new_part : Good NewParts new_part name_classes false (of_keys (Key.Encoding ∷ []))
unfolding new_part
good_new_part = good_then refl good_name (λ n.
    let with_encoding : Encoding → NewPart = λ e. record { name = n; encoding = e } in
    good_made with_encoding good_encoded)

pub good_sorted_by : Good SortedBy sorted_by (of_keys (Key.Order ∷ [])) true sorted_more
unfolding sorted_by
good_sorted_by = good_wider (of_keys (Key.Order ∷ [])) true sorted_more refl refl refl (good_at_key Key.Order refl (good_key Key.Order (good_key Key.By (good_made (λ ns. Some ns) (good_listed refl good_name)))) (good_nothing None))

pub good_creates_projection : Good CreatesProjection creates_projection (of_keys (Key.Projection ∷ [])) false sorted_more
unfolding creates_projection
good_creates_projection = good_key Key.Projection (good_then refl good_name (λ p. good_then refl (good_inside refl (good_listed refl good_new_part)) (λ ps. good_key Key.As (good_key Key.Select (good_then refl (good_listed refl good_name) (λ ns. good_key Key.From (good_then refl good_name (λ t.
    let with_sort : Option (List (List ℕ)) → Statement = λ o. Statement.CreateProjection (record { name = p; parts = ps; selected = ns; table = t; sort = o }) in
    good_made with_sort good_sorted_by))))))))

pub good_creates : Good Creates creates (of_keys (Key.Create ∷ [])) false sorted_more
unfolding creates
good_creates = good_key Key.Create (good_at_key Key.Table refl good_creates_table good_creates_projection)

pub good_alters : Good Alters alters (of_keys (Key.Alter ∷ [])) false []
unfolding alters
good_alters = good_key Key.Alter (good_key Key.Table (good_then refl good_name (λ t. good_key Key.Add (good_key Key.Column (good_then refl good_new_column (λ c. good_key Key.Default (
    let with_default : Wide → Statement = λ d. Statement.AddColumn (record { table = t; column = c; default = d }) in
    good_made with_default good_literal)))))))

pub good_drops : Good Drops drops (of_keys (Key.Drop ∷ [])) false []
unfolding drops
good_drops = good_key Key.Drop (good_at_key Key.Table refl (good_key Key.Table (good_made (λ t. Statement.DropTable t) good_name)) (good_key Key.Projection (good_made (λ p. Statement.DropProjection p) good_name)))

pub good_tuple : Good Tuple tuple (Class.OfSign Sign.Open ∷ []) false []
unfolding tuple
good_tuple = good_inside refl (good_listed refl good_literal)

pub good_inserts : Good Inserts inserts (of_keys (Key.Insert ∷ [])) false (Class.OfSign Sign.Comma ∷ [])
unfolding inserts
good_inserts = good_key Key.Insert (good_key Key.Into (good_then refl good_name (λ t.
    let with_rows : List (List Wide) → Statement = λ rows. Statement.Insert (record { table = t; rows = rows }) in
    good_key Key.Values (good_made with_rows (good_listed refl good_tuple)))))

pub good_deletes : Good Deletes deletes (of_keys (Key.Delete ∷ [])) false where_more
unfolding deletes
good_deletes = good_key Key.Delete (good_key Key.From (good_then refl good_name (λ t.
    let with_where : Option Tree → Statement = λ w. Statement.Delete (record { table = t; keep = w }) in
    good_made with_where good_where)))

pub good_sets : Good Sets sets name_classes false over_more
unfolding sets
good_sets = good_then refl good_name (λ c.
    let with_tree : Tree → Setting = λ e. record { column = c; tree = e } in
    good_sign Sign.Equal (good_made with_tree good_expr))

pub good_updates : Good Updates updates (of_keys (Key.Update ∷ [])) false (Class.OfSign Sign.Comma ∷ where_more)
unfolding updates
good_updates = good_wider (of_keys (Key.Update ∷ [])) false (Class.OfSign Sign.Comma ∷ where_more) refl refl refl (good_key Key.Update (good_then refl good_name (λ t. good_key Key.Set (good_then refl (good_listed refl good_sets) (λ ss.
    let with_where : Option Tree → Statement = λ w. Statement.Update (record { table = t; settings = ss; keep = w }) in
    good_made with_where good_where)))))

pub good_copies : Good Copies copies (of_keys (Key.Copy ∷ [])) false []
unfolding copies
good_copies = good_key Key.Copy (good_then refl good_name (λ t. good_key Key.From (good_made (λ f. Statement.Copy t f) good_text)))

pub good_bare : (k : Key) (f : Function) → Good (Bare k f) (bare k f) (Class.OfKey k ∷ []) false []
unfolding bare
good_bare k f = good_key k (good_sign Sign.Open (good_sign Sign.Close (good_nothing f)))

pub good_sets_ahm : Good SetsAhm sets_ahm (of_keys (Key.SetAhmEpoch ∷ [])) false []
unfolding sets_ahm
good_sets_ahm = good_key Key.SetAhmEpoch (good_made (λ n. Function.SetAhm n) (good_inside refl good_number))

pub good_tasks : Good Tasks tasks (of_keys (Key.DoTmTask ∷ [])) false []
unfolding tasks
good_tasks = good_key Key.DoTmTask (good_inside refl good_task)

pub good_purges : Good Purges purges (of_keys (Key.PurgeTable ∷ [])) false []
unfolding purges
good_purges = good_key Key.PurgeTable (good_made (λ t. Function.Purge t) (good_inside refl good_table))

pub good_refreshes : Good Refreshes refreshes (of_keys (Key.Refresh ∷ [])) false []
unfolding refreshes
good_refreshes = good_key Key.Refresh (good_made (λ t. Function.Refresh t) (good_inside refl good_table))

pub good_calls : Good Calls calls call_classes false []
unfolding calls
good_calls = good_at_key Key.GetLastGoodEpoch refl (good_bare Key.GetLastGoodEpoch Function.Lge) (good_at_key Key.GetAhmEpoch refl (good_bare Key.GetAhmEpoch Function.Ahm) (good_at_key Key.GetCurrentEpoch refl (good_bare Key.GetCurrentEpoch Function.Current) (good_at_key Key.MakeAhmNow refl (good_bare Key.MakeAhmNow Function.MakeAhmNow) (good_at_key Key.StartRefresh refl (good_bare Key.StartRefresh Function.StartRefresh) (good_at_key Key.SetAhmEpoch refl good_sets_ahm (good_at_key Key.DoTmTask refl good_tasks (good_at_key Key.PurgeTable refl good_purges good_refreshes)))))))

pub good_selects : Good Selects selects (of_keys (Key.Select ∷ [])) false query_more
unfolding selects
good_selects = good_wider (of_keys (Key.Select ∷ [])) false query_more refl refl refl (good_key Key.Select (good_at_set call_classes refl refl (good_made (λ f. Statement.Call f) good_calls) (good_made (λ q. Statement.Select At.View q) good_queries)))

pub good_epochs : Good Epochs epochs (Class.OfNumber ∷ of_keys (Key.Latest ∷ [])) false []
unfolding epochs
good_epochs = good_at_set number_classes refl refl (good_made (λ n. At.Epoch n) good_number) (good_key Key.Latest (good_nothing At.Latest))

pub good_selects_at : Good SelectsAt selects_at (of_keys (Key.At ∷ [])) false query_more
unfolding selects_at
good_selects_at = good_wider (of_keys (Key.At ∷ [])) false query_more refl refl refl (good_key Key.At (good_key Key.Epoch (good_then refl good_epochs (λ at. good_key Key.Select (good_made (λ q. Statement.Select at q) good_queries)))))

pub good_explains : Good Explains explains (of_keys (Key.Explain ∷ [])) false query_more
unfolding explains
good_explains = good_wider (of_keys (Key.Explain ∷ [])) false query_more refl refl refl (good_key Key.Explain (good_key Key.Select (good_made (λ q. Statement.Explain q) good_queries)))

pub good_sessions : Good Sessions sessions (Class.OfBack Back.Session ∷ []) false []
unfolding sessions
good_sessions = good_back Back.Session (good_made (λ n. Statement.Session n) good_session)

pub good_controls : Good Controls controls control_first false []
unfolding controls
good_controls = good_at_key Key.Commit refl (good_key Key.Commit (good_nothing Statement.Commit)) (good_at_key Key.Rollback refl (good_key Key.Rollback (good_nothing Statement.Rollback)) (good_at_back Back.Session refl good_sessions (good_back Back.Step (good_nothing Statement.Step))))

pub good_reads : Good Spells reads statement_first false query_more
unfolding reads
good_reads = good_wider statement_first false query_more refl refl refl (good_at_key Key.Create refl good_creates (good_at_key Key.Alter refl good_alters (good_at_key Key.Drop refl good_drops (good_at_key Key.Insert refl good_inserts (good_at_key Key.Delete refl good_deletes (good_at_key Key.Update refl good_updates (good_at_key Key.Copy refl good_copies (good_at_key Key.Select refl good_selects (good_at_key Key.At refl good_selects_at (good_at_key Key.Explain refl good_explains good_controls))))))))))

-- no symbols spell two statements
pub spelled_once : (ts : List Symbol) (s t : Statement) → Spells ts s → Spells ts t → s ≡ t
spelled_once = again_one_value Spells (in_set query_more) reads good_reads.again
