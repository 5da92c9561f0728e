-- A state after a COPY.
use Rattle.std.proofs.Common.{◌≡◌, ◌∙◌, ℕ, Bool, true, false, List, refl, sym, ap, subst}
use Rattle.std.specs.Prelude.{Option, Some, None}
use Rattle.std.specs.List.{All}
use Rattle.col_value.specs.declared.column.Column.{Column}
use Rattle.col_value.specs.declared.value.Value.{Value}
use Rattle.sql_tree.specs.declared.refusal.Refusal.{Refusal}
use Rattle.db_model.specs.Database.{Table, table_named}
use Rattle.db_model.specs.Events.{rows_pending}
use Rattle.db_model.specs.Leaving.{CopyLeaves}
use Rattle.db_model.specs.Loading.{Load, Loads}
use Rattle.db_model.specs.Refusals.{CopyRefuses, UnlockedRefuses, locked}
use Rattle.db_model.specs.Sound.{IsSound, RowFits}
use Rattle.db_model.specs.State.{State}
use Rattle.db_model.specs.Views.{table_found}
use Rattle.state_laws.proofs.Tables.{named_so}
use Rattle.state_laws.proofs.Events.{pending_state}
use Rattle.state_laws.proofs.Commits.{committed_state}
use Rattle.change_laws.proofs.Marked.{found_named}

-- the rows of a load file fit the columns of its table
abbrev pub LoadsFit : Type 0
LoadsFit = (columns : List Column) (bytes : List ℕ) (rows : List (List Value)) → Loads columns bytes (Load.Rows rows) → All (RowFits columns) rows

-- a COPY that isn't refused found its table free
found_free : (before : Option Refusal) (state : State) (e : ℕ × Table) (held : Option (List ℕ)) → UnlockedRefuses before state e held None → before ≡ None
found_free (Some refusal) state e held refuses = absurd (cc)
found_free None state e held refuses = refl

copied_over : LoadsFit → (state : State) (name : List ℕ) (o : Option (ℕ × Table)) (held : Option (List ℕ)) (new : State) → table_found name state.database.tables ≡ o → CopyRefuses state name o held None → CopyLeaves state o held new → IsSound state → IsSound new
copied_over fit state name None held new found refuses leaves is = absurd leaves
copied_over fit state name (Some e) None new found refuses leaves is = absurd leaves
copied_over fit state name (Some e) (Some bytes) new found refuses (rows, loads, left) sound =
    let tables = state.database.tables in
    let named = found_named name tables e found in
    let same : e.1.name ≡ name = named_so name tables e.1 named in
    let there : table_named e.1.name tables ≡ Some e.1 = ap (λ (n : List ℕ). table_named n tables) same ∙ named in
    let free : locked state e.1.name false ≡ None = ap (λ (n : List ℕ). locked state n false) same ∙ found_free (locked state name false) state e (Some bytes) refuses in
    let pending = pending_state state e.1.name rows e.1 there (fit e.1.columns bytes rows loads) free sound in
    subst IsSound (sym left) (committed_state (rows_pending e.1.name rows state) pending)

pub copied : LoadsFit → (state : State) (name : List ℕ) (held : Option (List ℕ)) (new : State) → CopyRefuses state name (table_found name state.database.tables) held None → CopyLeaves state (table_found name state.database.tables) held new → IsSound state → IsSound new
copied fit state name held new refuses leaves is = copied_over fit state name (table_found name state.database.tables) held new refl refuses leaves is
