-- What a session's changes do to all tables.
use Rattle.std.specs.Prelude.{List, [], ◌∷◌, Option}
use Rattle.std.specs.List.{AllZip}
use Rattle.common_laws.specs.Maps.{Contents}
use Rattle.catalog_types.specs.declared.catalogue.Table as kept
use Rattle.db_model.specs.State.{Changes, pending_rows, pending_deletes}
use Rattle.stored_rows.specs.Stored.{Projected}
use Rattle.table_store.specs.declared.parts.ReadyTable.{ReadyTable}
use Rattle.table_store.specs.Changing.{Ready, IsReady, all_coming}

-- what is ready for the projections of each table, with its pending rows
abbrev pub ready_with : List Changes → List kept.Table → List ReadyTable → List (List (Option Ready))
ready_with changes ts [] = []
ready_with changes [] (r ∷ more) = []
ready_with changes (t ∷ ts) (r ∷ more) = all_coming r.taker (pending_rows t.name changes) r.parts ∷ ready_with changes ts more

-- for each table, what is ready for each of its projections
abbrev pub AreReady : Contents → List Changes → List kept.Table → List (List Projected) → List (List (Option Ready)) → Type 0
AreReady m changes [] [] [] = Unit {0}
AreReady m changes [] [] (os ∷ more) = ⊥
AreReady m changes [] (ps ∷ pss) more = ⊥
AreReady m changes (t ∷ ts) [] more = ⊥
AreReady m changes (t ∷ ts) (ps ∷ pss) [] = ⊥
AreReady m changes (t ∷ ts) (ps ∷ pss) (os ∷ more) = AllZip (IsReady m (pending_rows t.name changes) (pending_deletes t.name changes)) ps os × AreReady m changes ts pss more
