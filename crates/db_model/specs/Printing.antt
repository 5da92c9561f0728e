-- What each statement prints.
use Rattle.std.specs.Prelude.{ℕ, ◌≡◌, ◌+◌, ◌++◌, if◌then◌else◌, List, [], length, zip, Option, Some, None, codes}
use Rattle.std.specs.List.{flat_map}
use Rattle.std.specs.Option.{option_map_or}
use Rattle.std.specs.Fmt.{decimal}
use Rattle.col_value.specs.declared.wide.Wide.{Wide}
use Rattle.sql_tree.specs.declared.statement.Function.{Function}
use Rattle.sql_tree.specs.declared.statement.Statement.{Statement}
use Rattle.sql_tree.specs.declared.query.At.{At}
use Rattle.sql_tree.specs.declared.query.Query.{Query}
use Rattle.sql_tree.specs.declared.query.Source.{Source}
use Rattle.sql_bound.specs.declared.query.FromItem.{FromItem}
use Rattle.sql_bound.specs.declared.query.BoundQuery.{BoundQuery}
use Rattle.sql_bound.specs.Outputs.{output}
use Rattle.sql_bound.specs.Printed.{IsPrinted}
use Rattle.sql_binding.specs.Sight.{item_name}
use Rattle.db_model.specs.Database.{Table}
use Rattle.db_model.specs.State.{State, own_changes, has_changes}
use Rattle.db_model.specs.Epochs.{last_good}
use Rattle.db_model.specs.Choice.{chosen_for}
use Rattle.db_model.specs.Views.{table_found, source_tables, bound_in, inputs}
use Rattle.db_model.specs.Events.{deleted_count, updated_old, rows_pending}
use Rattle.db_model.specs.Loading.{Files, Load, Loads}
use Rattle.db_model.specs.Answers.{listing_text, insert_line, commit_line, epoch_line}

-- a word, a number and the end of the line
abbrev pub counted_line : List ℕ → ℕ → List ℕ
counted_line word n = word ++ (decimal n ++ codes "\n")

-- the list that a query prints: its output rows in the printed order, up to its limit
abbrev pub IsListing : State → At → Query → List (List Wide) → Type 0
IsListing state at q listed = IsPrinted (bound_in state q).order q.limit (output (bound_in state q) (inputs at state q)) listed

abbrev pub ListingPrints : State → At → Query → List ℕ → Type 0
ListingPrints state at q text = (listed : List (List Wide)) × IsListing state at q listed × (text ≡ listing_text listed)

-- `SCAN item projection` for a FROM item
abbrev pub scan_line : BoundQuery → Source × (FromItem × (ℕ × Table)) → List ℕ
scan_line q i =
    codes "SCAN " ++ (item_name i.0 ++ (codes " " ++ (option_map_or (λ s. s.name) (chosen_for q i.1.0 i.1.1.1.shapes) [] ++ codes "\n")))

abbrev pub explain_text : State → Query → List ℕ
explain_text state q = flat_map (scan_line (bound_in state q)) (zip q.sources (zip (bound_in state q).sources (source_tables state.database.tables q)))

-- `DELETE n` and `UPDATE n`: the rows that matched
abbrev pub on_found : Option (ℕ × Table) → (ℕ × Table → ℕ) → ℕ
on_found found count = option_map_or count found 0

-- what a COMMIT prints: the epoch that it closed, if it closed one
abbrev pub commit_text : State → List ℕ
commit_text state = if has_changes (own_changes state) then commit_line (state.database.last + 1) else codes "COMMIT\n"

-- `COPY n EPOCH e`, or `COPY n` where the commit closed none
abbrev pub copy_text : State → ℕ → List ℕ
copy_text state n =
    codes "COPY " ++ (decimal n ++ (if has_changes (own_changes state) then codes " EPOCH " ++ (decimal (state.database.last + 1) ++ codes "\n") else codes "\n"))

abbrev pub LoadPrints : State → ℕ × Table → List ℕ → List ℕ → Type 0
LoadPrints state e bytes text = (rows : List (List _)) × Loads e.1.columns bytes (Load.Rows rows) × (text ≡ copy_text (rows_pending e.1.name rows state) (length rows))

abbrev pub CopyPrints : State → Option (ℕ × Table) → Option (List ℕ) → List ℕ → Type 0
CopyPrints state None held text = ⊥
CopyPrints state (Some e) None text = ⊥
CopyPrints state (Some e) (Some bytes) text = LoadPrints state e bytes text

-- what each function prints
abbrev pub CallPrints : State → Function → List ℕ → Type 0
CallPrints state Function.Lge text = text ≡ counted_line (codes "LGE ") (last_good state.database)
CallPrints state Function.Ahm text = text ≡ counted_line (codes "AHM ") state.database.ahm
CallPrints state Function.Current text = text ≡ epoch_line (state.database.last + 1)
CallPrints state Function.MakeAhmNow text = text ≡ counted_line (codes "AHM ") (last_good state.database)
CallPrints state (Function.SetAhm n) text = text ≡ counted_line (codes "AHM ") n
CallPrints state Function.Moveout text = text ≡ codes "MOVEOUT\n"
CallPrints state Function.Mergeout text = text ≡ codes "MERGEOUT\n"
CallPrints state (Function.Purge table) text = text ≡ codes "PURGE\n"
CallPrints state (Function.Refresh table) text = text ≡ codes "REFRESH\n"
CallPrints state Function.StartRefresh text = text ≡ codes "START REFRESH\n"

-- what a statement prints that isn't refused
abbrev pub Prints : State → Files → Statement → List ℕ → Type 0
Prints state files (Statement.CreateTable name columns) text = text ≡ codes "CREATE TABLE\n"
Prints state files (Statement.CreateProjection p) text = text ≡ codes "CREATE PROJECTION\n"
Prints state files (Statement.DropTable name) text = text ≡ codes "DROP TABLE\n"
Prints state files (Statement.DropProjection name) text = text ≡ codes "DROP PROJECTION\n"
Prints state files (Statement.Insert i) text = text ≡ insert_line (length i.rows)
Prints state files (Statement.Delete d) text = text ≡ counted_line (codes "DELETE ") (on_found (table_found d.table state.database.tables) (deleted_count d state))
Prints state files (Statement.Update u) text = text ≡ counted_line (codes "UPDATE ") (on_found (table_found u.table state.database.tables) (λ e. length (updated_old u state e)))
Prints state files (Statement.AddColumn a) text = text ≡ codes "ALTER TABLE\n"
Prints state files (Statement.Copy table file) text = CopyPrints state (table_found table state.database.tables) (files file) text
Prints state files Statement.Commit text = text ≡ commit_text state
Prints state files Statement.Rollback text = text ≡ codes "ROLLBACK\n"
Prints state files (Statement.Select at q) text = ListingPrints state at q text
Prints state files (Statement.Explain q) text = text ≡ explain_text state q
Prints state files (Statement.Call f) text = CallPrints state f text
Prints state files (Statement.Session n) text = text ≡ []
Prints state files Statement.Step text = text ≡ []
