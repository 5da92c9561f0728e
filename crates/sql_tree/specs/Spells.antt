-- Which symbols spell which statement: one line for each production.
use Rattle.std.specs.Prelude.{ℕ, Bool, true, false, List, Option, Some, None}
use Rattle.col_value.specs.declared.kinds.ColType.{ColType}
use Rattle.col_value.specs.declared.kinds.Encoding.{Encoding}
use Rattle.col_value.specs.declared.wide.Wide.{Wide}
use Rattle.sql_words.specs.declared.token.Back.{Back}
use Rattle.sql_words.specs.declared.token.Key.{Key}
use Rattle.sql_words.specs.declared.token.Sign.{Sign}
use Rattle.sql_tree.specs.declared.query.At.{At}
use Rattle.sql_tree.specs.declared.statement.Function.{Function}
use Rattle.col_value.specs.declared.column.Column.{Column}
use Rattle.sql_tree.specs.declared.statement.NewPart.{NewPart}
use Rattle.sql_tree.specs.declared.statement.Setting.{Setting}
use Rattle.sql_tree.specs.declared.statement.Statement.{Statement}
use Rattle.sql_tree.specs.Phrases.{One, Nothing, Then, Either}
use Rattle.sql_tree.specs.Symbols.{Spelling, Word, Glyph, Command, Inside, Listed, name_of, text_of, number_of, width_of, session_of, task_of, table_of}
use Rattle.sql_tree.specs.Expressions.{Literal, Expr}
use Rattle.sql_tree.specs.Queries.{Where, Queries}

-- type = INTEGER | INT | BIGINT | BOOLEAN | VARCHAR ( int ) | DATE
abbrev pub Kind : Spelling ColType
Kind = Either (Word Key.Integer (Nothing ColType.Integer)) (Either (Word Key.Int (Nothing ColType.Integer)) (Either (Word Key.Bigint (Nothing ColType.Integer)) (Either (Word Key.Boolean (Nothing ColType.Boolean)) (Either (Word Key.Varchar (Then (Inside (One width_of)) (λ n. Nothing (ColType.Varchar n)))) (Word Key.Date (Nothing ColType.Date))))))

-- [NOT NULL]
abbrev pub NotNull : Spelling Bool
NotNull = Either (Word Key.Not (Word Key.Null (Nothing true))) (Nothing false)

-- column = name type [NOT NULL]
abbrev pub NewColumns : Spelling Column
NewColumns = Then (One name_of) (λ n. Then Kind (λ k. Then NotNull (λ b. Nothing (record { name = n; kind = k; not_null = b }))))

-- TABLE name ( column {, column} )
abbrev pub CreatesTable : Spelling Statement
CreatesTable = Word Key.Table (Then (One name_of) (λ t. Then (Inside (Listed NewColumns)) (λ cs. Nothing (Statement.CreateTable t cs))))

-- AUTO | RLE | DELTAVAL | BLOCK_DICT | PLAIN
abbrev pub EncodingName : Spelling Encoding
EncodingName = Either (Word Key.Auto (Nothing Encoding.Auto)) (Either (Word Key.Rle (Nothing Encoding.Rle)) (Either (Word Key.Deltaval (Nothing Encoding.DeltaVal)) (Either (Word Key.BlockDict (Nothing Encoding.BlockDict)) (Word Key.Plain (Nothing Encoding.Plain)))))

-- [ENCODING (AUTO | RLE | DELTAVAL | BLOCK_DICT | PLAIN)]
abbrev pub Encoded : Spelling Encoding
Encoded = Either (Word Key.Encoding EncodingName) (Nothing Encoding.Auto)

-- pcol = name [ENCODING (AUTO | RLE | DELTAVAL | BLOCK_DICT | PLAIN)]
abbrev pub NewParts : Spelling NewPart
NewParts = Then (One name_of) (λ n. Then Encoded (λ e. Nothing (record { name = n; encoding = e })))

-- [ORDER BY name {, name}]
abbrev pub SortedBy : Spelling (Option (List (List ℕ)))
SortedBy = Either (Word Key.Order (Word Key.By (Then (Listed (One name_of)) (λ ns. Nothing (Some ns))))) (Nothing None)

-- PROJECTION name ( pcol {, pcol} ) AS SELECT name {, name} FROM name [ORDER BY name {, name}]
abbrev pub CreatesProjection : Spelling Statement
CreatesProjection = Word Key.Projection (Then (One name_of) (λ p. Then (Inside (Listed NewParts)) (λ ps. Word Key.As (Word Key.Select (Then (Listed (One name_of)) (λ ns. Word Key.From (Then (One name_of) (λ t. Then SortedBy (λ o. Nothing (Statement.CreateProjection (record { name = p; parts = ps; selected = ns; table = t; sort = o })))))))))))

-- CREATE (TABLE .. | PROJECTION ..)
abbrev pub Creates : Spelling Statement
Creates = Word Key.Create (Either CreatesTable CreatesProjection)

-- ALTER TABLE name ADD COLUMN column DEFAULT literal
abbrev pub Alters : Spelling Statement
Alters = Word Key.Alter (Word Key.Table (Then (One name_of) (λ t. Word Key.Add (Word Key.Column (Then NewColumns (λ c. Word Key.Default (Then Literal (λ d. Nothing (Statement.AddColumn (record { table = t; column = c; default = d }))))))))))

-- DROP (TABLE | PROJECTION) name
abbrev pub Drops : Spelling Statement
Drops = Word Key.Drop (Either (Word Key.Table (Then (One name_of) (λ t. Nothing (Statement.DropTable t)))) (Word Key.Projection (Then (One name_of) (λ p. Nothing (Statement.DropProjection p)))))

-- tuple = ( literal {, literal} )
abbrev pub Tuple : Spelling (List Wide)
Tuple = Inside (Listed Literal)

-- INSERT INTO name VALUES tuple {, tuple}
abbrev pub Inserts : Spelling Statement
Inserts = Word Key.Insert (Word Key.Into (Then (One name_of) (λ t. Word Key.Values (Then (Listed Tuple) (λ rows. Nothing (Statement.Insert (record { table = t; rows = rows })))))))

-- DELETE FROM name [WHERE expr]
abbrev pub Deletes : Spelling Statement
Deletes = Word Key.Delete (Word Key.From (Then (One name_of) (λ t. Then Where (λ w. Nothing (Statement.Delete (record { table = t; keep = w }))))))

-- name = expr
abbrev pub Sets : Spelling Setting
Sets = Then (One name_of) (λ c. Glyph Sign.Equal (Then Expr (λ e. Nothing (record { column = c; tree = e }))))

-- UPDATE name SET name = expr {, name = expr} [WHERE expr]
abbrev pub Updates : Spelling Statement
Updates = Word Key.Update (Then (One name_of) (λ t. Word Key.Set (Then (Listed Sets) (λ ss. Then Where (λ w. Nothing (Statement.Update (record { table = t; settings = ss; keep = w })))))))

-- COPY name FROM text
abbrev pub Copies : Spelling Statement
Copies = Word Key.Copy (Then (One name_of) (λ t. Word Key.From (Then (One text_of) (λ f. Nothing (Statement.Copy t f)))))

-- the name of a function, then ( )
abbrev pub Bare : Key → Function → Spelling Function
Bare k f = Word k (Glyph Sign.Open (Glyph Sign.Close (Nothing f)))

-- SET_AHM_EPOCH ( int )
abbrev pub SetsAhm : Spelling Function
SetsAhm = Word Key.SetAhmEpoch (Then (Inside (One number_of)) (λ n. Nothing (Function.SetAhm n)))

-- DO_TM_TASK ( text )
abbrev pub Tasks : Spelling Function
Tasks = Word Key.DoTmTask (Inside (One task_of))

-- PURGE_TABLE ( text )
abbrev pub Purges : Spelling Function
Purges = Word Key.PurgeTable (Then (Inside (One table_of)) (λ t. Nothing (Function.Purge t)))

-- REFRESH ( text )
abbrev pub Refreshes : Spelling Function
Refreshes = Word Key.Refresh (Then (Inside (One table_of)) (λ t. Nothing (Function.Refresh t)))

-- function = GET_LAST_GOOD_EPOCH ( ) | GET_AHM_EPOCH ( ) | GET_CURRENT_EPOCH ( ) | MAKE_AHM_NOW ( ) | START_REFRESH ( )
--          | SET_AHM_EPOCH ( int ) | DO_TM_TASK ( text ) | PURGE_TABLE ( text ) | REFRESH ( text )
abbrev pub Calls : Spelling Function
Calls = Either (Bare Key.GetLastGoodEpoch Function.Lge) (Either (Bare Key.GetAhmEpoch Function.Ahm) (Either (Bare Key.GetCurrentEpoch Function.Current) (Either (Bare Key.MakeAhmNow Function.MakeAhmNow) (Either (Bare Key.StartRefresh Function.StartRefresh) (Either SetsAhm (Either Tasks (Either Purges Refreshes)))))))

-- SELECT (function | query)
abbrev pub Selects : Spelling Statement
Selects = Word Key.Select (Either (Then Calls (λ f. Nothing (Statement.Call f))) (Then Queries (λ q. Nothing (Statement.Select At.View q))))

-- int | LATEST
abbrev pub Epochs : Spelling At
Epochs = Either (Then (One number_of) (λ n. Nothing (At.Epoch n))) (Word Key.Latest (Nothing At.Latest))

-- AT EPOCH (int | LATEST) SELECT query
abbrev pub SelectsAt : Spelling Statement
SelectsAt = Word Key.At (Word Key.Epoch (Then Epochs (λ at. Word Key.Select (Then Queries (λ q. Nothing (Statement.Select at q))))))

-- EXPLAIN SELECT query
abbrev pub Explains : Spelling Statement
Explains = Word Key.Explain (Word Key.Select (Then Queries (λ q. Nothing (Statement.Explain q))))

-- \session int
abbrev pub Sessions : Spelling Statement
Sessions = Command Back.Session (Then (One session_of) (λ n. Nothing (Statement.Session n)))

-- COMMIT | ROLLBACK | \session int | \step
abbrev pub Controls : Spelling Statement
Controls = Either (Word Key.Commit (Nothing Statement.Commit)) (Either (Word Key.Rollback (Nothing Statement.Rollback)) (Either Sessions (Command Back.Step (Nothing Statement.Step))))

-- the statement that symbols spell
abbrev pub Spells : Spelling Statement
Spells = Either Creates (Either Alters (Either Drops (Either Inserts (Either Deletes (Either Updates (Either Copies (Either Selects (Either SelectsAt (Either Explains Controls)))))))))
