-- A state after a DELETE.
use Rattle.std.proofs.Common.{◌≡◌, ℕ, true, List, [], Option, Some, None, refl, sym, ◌∙◌, ap, subst}
use Rattle.std.specs.Option.{option_map_or}
use Rattle.std.proofs.lemmas.List.Elements.{All-nil}
use Rattle.sql_tree.specs.declared.statement.Delete.{Delete}
use Rattle.sql_binding.specs.Changes.{delete_refusal}
use Rattle.db_model.specs.Database.{Table, table_named}
use Rattle.db_model.specs.State.{State}
use Rattle.db_model.specs.Events.{delete_keep, on_table, rows_deleted}
use Rattle.db_model.specs.Refusals.{locked, rows_deleted_refusal}
use Rattle.db_model.specs.Sound.{IsSound, RowFits}
use Rattle.db_model.specs.Views.{columns_found, table_found}
use Rattle.state_laws.proofs.Tables.{named_so}
use Rattle.state_laws.proofs.Events.{first_none}
use Rattle.change_laws.proofs.Marked.{found_named, marked_state}

pub deleted_state : (state : State) (d : Delete) → rows_deleted_refusal state d ≡ None → IsSound state → IsSound (on_table d.table (rows_deleted d state) state)
deleted_state state d free sound = by (table_found d.table state.database.tables) refl
  where
    lock : locked state d.table true ≡ None
    lock = (first_none (delete_refusal (columns_found state.database.tables d.table) d) (locked state d.table true) free).1

    by : (o : Option (ℕ × Table)) → table_found d.table state.database.tables ≡ o → IsSound (option_map_or (rows_deleted d state) o state)
    by None is = sound
    by (Some e) is =
        let named = found_named d.table state.database.tables e is in
        let name : e.1.name ≡ d.table = named_so d.table state.database.tables e.1 named in
        marked_state state e.1 (delete_keep d e) [] (ap (λ (n : List ℕ). table_named n state.database.tables) name ∙ named) (All-nil (RowFits e.1.columns))
        (subst (λ (n : List ℕ). locked state n true ≡ None) (sym name) lock) sound
