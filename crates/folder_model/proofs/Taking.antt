-- A commit's deletes, in a table and in each of its projections.
use Rattle.std.proofs.Common.{◌≡◌, ℕ, ◌<◌, Bool, true, false, List, [], ◌∷◌, map, refl, sym, ap, ap₂, ◌∙◌, subst}
use Rattle.std.specs.Bool.{OnTrue, OnFalse}
use Rattle.std.specs.List.{All}
use Rattle.std.proofs.lemmas.List.Elements.{All-head, All-tail, All-cons, All-nil}
use Rattle.common_laws.specs.Maps.{Contents}
use Rattle.col_value.specs.declared.row.Asked.{Asked}
use Rattle.col_value.specs.declared.row.Stamped.{Stamped}
use Rattle.row_history.specs.History.{mark_all, Within}
use Rattle.row_history.proofs.Taking.{taken_alike, mark_takes}
use Rattle.catalog_types.specs.declared.catalogue.Projection.{Projection}
use Rattle.catalog_types.specs.declared.catalogue.Table as kept
use Rattle.db_model.specs.Database.{Table}
use Rattle.stored_rows.specs.Stored.{Projected, IsMemoryAbove}
use Rattle.folder_model.specs.Projections.{ordinals, IsHistoryOf, HasHistory, IsBare, HasRows}
use Rattle.folder_model.specs.Tables.{StandsForTable}
use Rattle.folder_model.specs.Changing.{TakesRows, IsDeletedFrom, AreDeletedFrom}

history_taken : (m : Contents) (mark epoch : ℕ) (rows : List Stamped) (asked : List Asked) (old new : Projected) → mark < epoch → Within asked rows → TakesRows m epoch asked old new
    → HasHistory m mark rows old → HasHistory m mark (mark_all epoch asked rows) new
history_taken m mark epoch rows asked old new lt within takes has =
    let (now, stores, taken) = takes.rows has.stored has.are in
    let alike : IsHistoryOf mark old.entry now (mark_all epoch asked rows) =
    taken_alike (ordinals old.entry) mark epoch asked has.stored now rows (mark_all epoch asked rows) lt has.history taken (mark_takes epoch asked rows within) in
    record {
      stored = now;
      are = stores;
      history = subst (λ (e : Projection). IsHistoryOf mark e now (mark_all epoch asked rows)) (sym takes.entry) alike;
      above = subst (λ (e : Projection). IsMemoryAbove e.lge new) (sym takes.entry) (takes.above has.above);
    }

rows_taken : (m : Contents) (mark epoch : ℕ) (rows : List Stamped) (asked : List Asked) (old new : Projected) → mark < epoch → Within asked rows → IsDeletedFrom m epoch asked old new
    → HasRows m mark rows old → HasRows m mark (mark_all epoch asked rows) new
rows_taken m mark epoch rows asked old new lt within deleted has = by old.entry.fresh refl deleted.fresh deleted.stale has.fresh has.stale
  where
    on : (b : Bool) (P : Type 0) → b ≡ true → P → OnTrue b P
    on true P is p = p
    on false P is p = tt

    off : (b : Bool) (P : Type 0) → b ≡ true → OnFalse b P
    off true P is = tt
    off false P is = absurd (cc)

    nothing : (b : Bool) (P : Type 0) → b ≡ false → OnTrue b P
    nothing true P is = absurd (cc)
    nothing false P is = tt

    also : (b : Bool) (P : Type 0) → b ≡ false → P → OnFalse b P
    also true P is p = tt
    also false P is p = p

    by : (b : Bool) → old.entry.fresh ≡ b → OnTrue b (TakesRows m epoch asked old new) → OnFalse b (new ≡ old) → OnTrue b (HasHistory m mark rows old) → OnFalse b (IsBare old) → HasRows m mark (mark_all epoch asked rows) new
    by true is takes same has bare =
        let fresh : new.entry.fresh ≡ true = ap (λ (e : Projection). e.fresh) takes.entry ∙ is in
        record { fresh = on new.entry.fresh _ fresh (history_taken m mark epoch rows asked old new lt within takes has); stale = off new.entry.fresh _ fresh }
    by false is takes same has bare =
        let stale : new.entry.fresh ≡ false = ap (λ (p : Projected). p.entry.fresh) same ∙ is in
        record { fresh = nothing new.entry.fresh _ stale; stale = also new.entry.fresh _ stale (subst IsBare (sym same) bare) }

each_taken : (m : Contents) (mark epoch : ℕ) (rows : List Stamped) (asked : List Asked) (old new : List Projected) → mark < epoch → Within asked rows → AreDeletedFrom m epoch asked old new
    → All (HasRows m mark rows) old → All (HasRows m mark (mark_all epoch asked rows)) new
each_taken m mark epoch rows asked [] [] lt within deleted all = All-nil (HasRows m mark (mark_all epoch asked rows))
each_taken m mark epoch rows asked [] (q ∷ new) lt within deleted all = absurd deleted
each_taken m mark epoch rows asked (p ∷ old) [] lt within deleted all = absurd deleted
each_taken m mark epoch rows asked (p ∷ old) (q ∷ new) lt within (here, more) all =
    All-cons (HasRows m mark (mark_all epoch asked rows)) q new (rows_taken m mark epoch rows asked p q lt within here (All-head (HasRows m mark rows) p old all))
    (each_taken m mark epoch rows asked old new lt within more (All-tail (HasRows m mark rows) p old all))

entry_same : (m : Contents) (epoch : ℕ) (asked : List Asked) (old new : Projected) → IsDeletedFrom m epoch asked old new → new.entry ≡ old.entry
entry_same m epoch asked old new deleted = by old.entry.fresh deleted.fresh deleted.stale
  where
    by : (b : Bool) → OnTrue b (TakesRows m epoch asked old new) → OnFalse b (new ≡ old) → new.entry ≡ old.entry
    by true takes same = takes.entry
    by false takes same = ap (λ (p : Projected). p.entry) same

entries_same : (m : Contents) (epoch : ℕ) (asked : List Asked) (old new : List Projected) → AreDeletedFrom m epoch asked old new → map (λ p. p.entry) new ≡ map (λ p. p.entry) old
entries_same m epoch asked [] [] deleted = refl
entries_same m epoch asked [] (q ∷ new) deleted = absurd deleted
entries_same m epoch asked (p ∷ old) [] deleted = absurd deleted
entries_same m epoch asked (p ∷ old) (q ∷ new) (here, more) = ap₂ (λ (e : Projection) (es : List Projection). e ∷ es) (entry_same m epoch asked p q here) (entries_same m epoch asked old new more)

-- a table and all its projections
pub table_taken : (m : Contents) (mark epoch : ℕ) (t : kept.Table) (old new : List Projected) (u : Table) (asked : List Asked) → mark < epoch → Within asked u.rows → AreDeletedFrom m epoch asked old new
    → StandsForTable m mark t old u → StandsForTable m mark t new (record u { rows = mark_all epoch asked u.rows })
table_taken m mark epoch t old new u asked lt within deleted stands = record {
  name = stands.name;
  columns = stands.columns;
  shapes = stands.shapes;
  entries = entries_same m epoch asked old new deleted ∙ stands.entries;
  rows = each_taken m mark epoch u.rows asked old new lt within deleted stands.rows;
}
