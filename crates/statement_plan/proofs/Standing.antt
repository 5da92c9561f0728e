-- The tables of a catalogue without rows are those of the database that it stands for.
use Rattle.std.proofs.Common.{ℕ, List, [], ◌∷◌, map, refl, sym}
use Rattle.std.specs.List.{AllZip}
use Rattle.common_laws.specs.Maps.{Contents}
use Rattle.catalog_types.specs.declared.catalogue.Table as kept
use Rattle.catalog_types.specs.declared.catalogue.Catalogue.{Catalogue}
use Rattle.stored_rows.specs.Stored.{Projected}
use Rattle.db_model.specs.Database.{Table}
use Rattle.db_model.specs.State.{State}
use Rattle.folder_model.specs.Tables.{AreDatabase, StandForTables, StandsForTable}
use Rattle.alike_laws.proofs.Changes.{sessions_themselves}
use Rattle.statement_plan.specs.Bare.{bare_state, bare_table, IsBare, IsBareTable}

one_bare : (m : Contents) (mark : ℕ) (t : kept.Table) (ps : List Projected) (u : Table) → StandsForTable m mark t ps u → IsBareTable (bare_table t) u
one_bare m mark t ps u stands = record { name = sym stands.name; columns = sym stands.columns; shapes = sym stands.shapes }

all_bare : (m : Contents) (mark : ℕ) (ts : List kept.Table) (pss : List (List Projected)) (us : List Table)
    → StandForTables m mark ts pss us → AllZip IsBareTable (map bare_table ts) us
all_bare m mark [] [] [] stand = tt
all_bare m mark [] [] (u ∷ us) stand = absurd stand
all_bare m mark [] (ps ∷ pss) us stand = absurd stand
all_bare m mark (t ∷ ts) [] us stand = absurd stand
all_bare m mark (t ∷ ts) (ps ∷ pss) [] stand = absurd stand
all_bare m mark (t ∷ ts) (ps ∷ pss) (u ∷ us) stand = (one_bare m mark t ps u stand.0, all_bare m mark ts pss us stand.1)

pub frame_of : (m : Contents) (c : Catalogue) (stores : List (List Projected)) (state : State) → AreDatabase m c stores state.database
    → IsBare (bare_state c.tables c.last c.ahm state.next state.sessions state.current) state
frame_of m c stores state are = record {
  tables = all_bare m c.ahm c.tables stores state.database.tables are.tables;
  last = sym are.last;
  mark = sym are.ahm;
  sessions = sessions_themselves state.sessions;
  current = refl;
  next = refl;
}
