-- What a catalogue stands for where the ancient history mark rises.
use Rattle.std.proofs.Common.{ℕ, ◌≤◌, Bool, true, false, List, [], ◌∷◌, map, refl, ap, ◌∙◌, subst}
use Rattle.std.specs.Bool.{OnTrue}
use Rattle.std.proofs.lemmas.List.Elements.{All-weaker}
use Rattle.common_laws.specs.Bags.{SameBag}
use Rattle.common_laws.specs.Maps.{Contents}
use Rattle.col_value.specs.declared.row.Stamped.{Stamped}
use Rattle.row_history.specs.History.{retained, on_columns}
use Rattle.row_history.proofs.Histories.{bag_retained, retained_later, retained_columns}
use Rattle.catalog_types.specs.declared.catalogue.Table as kept
use Rattle.catalog_types.specs.declared.catalogue.Catalogue.{Catalogue}
use Rattle.db_model.specs.Database.{Database, Table}
use Rattle.stored_rows.specs.Stored.{Projected}
use Rattle.folder_model.specs.Projections.{ordinals, HasHistory, HasRows}
use Rattle.folder_model.specs.Tables.{StandForTables, AreDatabase}

history_rises : (m : Contents) (mark later : ℕ) (rows : List Stamped) (p : Projected) → mark ≤ later → HasHistory m mark rows p → HasHistory m later rows p
history_rises m mark later rows p le has = record {
  stored = has.stored;
  are = has.are;
  history =
      subst (λ (xs : List Stamped). SameBag xs (map (on_columns (ordinals p.entry)) (retained later rows))) (retained_later mark later has.stored le)
      (subst (SameBag (retained later (retained mark has.stored)))
      (retained_columns (ordinals p.entry) later (retained mark rows) ∙ ap (map (on_columns (ordinals p.entry))) (retained_later mark later rows le))
      (bag_retained later (retained mark has.stored) (map (on_columns (ordinals p.entry)) (retained mark rows)) has.history));
  above = has.above;
}

on_true : (b : Bool) {P Q : Type 0} → (P → Q) → OnTrue b P → OnTrue b Q
on_true true h p = h p
on_true false h p = tt

rows_rise : (m : Contents) (mark later : ℕ) (rows : List Stamped) (p : Projected) → mark ≤ later → HasRows m mark rows p → HasRows m later rows p
rows_rise m mark later rows p le has = record { fresh = on_true p.entry.fresh (history_rises m mark later rows p le) has.fresh; stale = has.stale }

tables_rise : (m : Contents) (mark later : ℕ) (ts : List kept.Table) (pss : List (List Projected)) (us : List Table) → mark ≤ later → StandForTables m mark ts pss us → StandForTables m later ts pss us
tables_rise m mark later [] [] [] le stand = tt
tables_rise m mark later [] [] (u ∷ us) le stand = absurd stand
tables_rise m mark later [] (ps ∷ pss) us le stand = absurd stand
tables_rise m mark later (t ∷ ts) [] us le stand = absurd stand
tables_rise m mark later (t ∷ ts) (ps ∷ pss) [] le stand = absurd stand
tables_rise m mark later (t ∷ ts) (ps ∷ pss) (u ∷ us) le (here, more) = (
  record {
    name = here.name;
    columns = here.columns;
    shapes = here.shapes;
    entries = here.entries;
    rows = All-weaker (HasRows m mark u.rows) (HasRows m later u.rows) (λ p has. rows_rise m mark later u.rows p le has) ps here.rows;
  },
  tables_rise m mark later ts pss us le more,
)

-- A catalogue with a later mark is, with its stores, the database with that mark.
pub mark_rises : (m : Contents) (c : Catalogue) (stores : List (List Projected)) (d : Database) (later next : ℕ) → c.ahm ≤ later → AreDatabase m c stores d
    → AreDatabase m (record c { ahm = later; next = next }) stores (record d { ahm = later })
mark_rises m c stores d later next le are = record { last = are.last; ahm = refl; tables = tables_rise m c.ahm later c.tables stores d.tables le are.tables }
