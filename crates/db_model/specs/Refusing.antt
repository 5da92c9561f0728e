-- Reasons to refuse that several statements share, and those of CREATE TABLE.
use Rattle.std.specs.Prelude.{ℕ, ◌+◌, ◌&&◌, nat_lt, nat_le, if◌then◌else◌, Bool, true, false, List, [], ◌∷◌, ◌++◌, length, Option, Some, None, option_map, bytes_eq}
use Rattle.std.specs.List.{list_any, enumerate_from}
use Rattle.col_value.specs.declared.kinds.ColType.{ColType}
use Rattle.col_value.specs.declared.column.Column.{Column}
use Rattle.sql_tree.specs.declared.query.At.{At}
use Rattle.sql_tree.specs.declared.refusal.Refusal.{Refusal}
use Rattle.sql_tree.specs.declared.refusal.Which.{Which}
use Rattle.sql_binding.specs.Firsts.{first_of, first_given, refused_where}
use Rattle.sql_binding.specs.Projections.{name_limit}
use Rattle.db_model.specs.Database.{Table, is_taken, super_name}
use Rattle.db_model.specs.State.{State, own_changes, has_changes}

-- a name, where it is that of a table or a projection
abbrev pub if_taken : List Table → List ℕ → Option (List ℕ)
if_taken tables name = if is_taken name tables then Some name else None

-- the first column whose name stands before it
abbrev pub repeated_behind : List (List ℕ) → List Column → Option (List ℕ)
repeated_behind before [] = None
repeated_behind before (c ∷ cs) = if list_any (λ n. bytes_eq n c.name) before then Some c.name else repeated_behind (before ++ c.name ∷ []) cs

-- of a new table: its own name, its name with `_super`, which its projection is called by, and then its columns
abbrev pub taken_name : List Table → List ℕ → List Column → Option (List ℕ)
taken_name tables name columns = first_of (if_taken tables name) (first_of (if_taken tables (super_name name)) (repeated_behind [] columns))

-- at most 1,024 tables, 64 columns of a table, 120 bytes of a created name (`name_limit`), and a VARCHAR of 1 to 65,000 octets
abbrev pub tables_limit : List Table → Option Refusal
tables_limit tables = refused_where (nat_le 1024 (length tables)) (Refusal.Limit Which.Tables 1024)

abbrev pub is_wrong_width : ColType → Bool
is_wrong_width ColType.Integer = false
is_wrong_width (ColType.Varchar n) = if nat_lt n 1 then true else nat_lt 65000 n
is_wrong_width ColType.Boolean = false
is_wrong_width ColType.Date = false

abbrev pub width_limit : ColType → Option Refusal
width_limit kind = refused_where (is_wrong_width kind) (Refusal.Limit Which.Length 65000)

-- the limits that a column of a new table passes, at its place from 0
abbrev pub column_limit : ℕ × Column → Option Refusal
column_limit c = first_of (refused_where (nat_le 64 c.0) (Refusal.Limit Which.Columns 64)) (first_of (name_limit c.1.name) (width_limit c.1.kind))

abbrev pub columns_limit : List Column → Option Refusal
columns_limit columns = first_given column_limit (enumerate_from 0 columns)

-- the first limit in the text that a new table passes
abbrev pub create_limit : List Table → List ℕ → List Column → Option Refusal
create_limit tables name columns = first_of (first_of (tables_limit tables) (name_limit name)) (columns_limit columns)

abbrev pub create_refusal : List Table → List ℕ → List Column → Option Refusal
create_refusal tables name columns = first_of (option_map Refusal.Exists (taken_name tables name columns)) (create_limit tables name columns)

-- a session has at most 16,777,216 pending rows on one table
abbrev pub rows_limit : ℕ → Option Refusal
rows_limit rows = refused_where (nat_lt 16777216 rows) (Refusal.Limit Which.Rows 16777216)

-- an epoch that lies before the ancient history mark, or in the future
abbrev pub epoch_refusal : ℕ → ℕ → At → Option Refusal
epoch_refusal ahm last At.View = None
epoch_refusal ahm last At.Latest = None
epoch_refusal ahm last (At.Epoch n) = if nat_lt n ahm then Some (Refusal.EpochTooOld n ahm) else (if nat_lt last n then Some (Refusal.EpochInFuture n last) else None)

-- the greatest epoch is closed, and there is something to commit
abbrev pub commit_refusal : State → Option Refusal
commit_refusal state = refused_where (has_changes (own_changes state) && nat_le 9223372036854775807 state.database.last) Refusal.EpochsSpent
