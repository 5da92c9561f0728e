-- A commit's rows join a table and each of its projections.
use Rattle.std.proofs.Common.{◌≡◌, ℕ, ◌<◌, ◌++◌, Bool, true, false, cond, List, [], ◌∷◌, map, refl, ap, ap₂, ◌∙◌, append_assoc}
use Rattle.std.specs.Bool.{OnTrue, OnFalse}
use Rattle.std.specs.List.{All}
use Rattle.std.proofs.lemmas.List.Elements.{All-head, All-tail, All-cons, All-nil, All-append}
use Rattle.common_laws.specs.Maps.{Contents}
use Rattle.col_value.specs.declared.value.Value.{Value}
use Rattle.col_value.specs.declared.row.Stamped.{Stamped}
use Rattle.col_value.specs.Order.{projected}
use Rattle.row_history.specs.History.{inserted_at}
use Rattle.row_history.proofs.Inserting.{alike_inserted}
use Rattle.catalog_types.specs.declared.catalogue.Table as kept
use Rattle.db_model.specs.Database.{Table}
use Rattle.folder_model.specs.Projections.{ordinals, HasHistory, IsBare, HasRows}
use Rattle.folder_model.specs.Tables.{StandsForTable}
use Rattle.stored_rows.specs.Stored.{Projected, with_rows}
use Rattle.folder_model.specs.Changing.{rows_for, inserted_into}

later_new : (lge epoch : ℕ) (rows : List (List Value)) → lge < epoch → All (λ s. lge < s.ins) (map (inserted_at epoch) rows)
later_new lge epoch [] lt = All-nil (λ s. lge < s.ins)
later_new lge epoch (row ∷ rows) lt = All-cons (λ s. lge < s.ins) (inserted_at epoch row) (map (inserted_at epoch) rows) lt (later_new lge epoch rows lt)

pub history_inserted : (m : Contents) (mark epoch : ℕ) (rows : List Stamped) (new : List (List Value)) (p : Projected) → p.entry.lge < epoch → HasHistory m mark rows p
    → HasHistory m mark (rows ++ map (inserted_at epoch) new) (with_rows (rows_for epoch new p) p)
history_inserted m mark epoch rows new p lt has = record {
  stored = has.stored ++ rows_for epoch new p;
  are = (has.are.0, has.are.1, ap (λ (ss : List Stamped). ss ++ rows_for epoch new p) has.are.2 ∙ append_assoc has.are.0 p.unsaved (rows_for epoch new p));
  history = alike_inserted (ordinals p.entry) mark epoch has.stored rows new has.history;
  above = record {
    rows = All-append (λ s. p.entry.lge < s.ins) p.unsaved (rows_for epoch new p) has.above.rows (later_new p.entry.lge epoch (map (λ row. projected row (ordinals p.entry)) new) lt);
    marks = has.above.marks;
  };
}

rows_inserted : (m : Contents) (mark epoch : ℕ) (rows : List Stamped) (new : List (List Value)) (p : Projected) → (p.entry.fresh ≡ true → p.entry.lge < epoch) → HasRows m mark rows p
    → HasRows m mark (rows ++ map (inserted_at epoch) new) (inserted_into epoch new p)
rows_inserted m mark epoch rows new p lt has = by p.entry.fresh refl has.fresh has.stale
  where
    q : Bool → Projected
    q b = cond b (with_rows (rows_for epoch new p) p) p

    on : (b : Bool) (P Q : Type 0) → b ≡ true → OnTrue b P → (P → Q) → OnTrue b Q
    on true P Q is h f = f h
    on false P Q is h f = tt

    off : (b : Bool) (Q : Type 0) → b ≡ true → OnFalse b Q
    off true Q is = tt
    off false Q is = absurd (cc)

    nothing : (b : Bool) (Q : Type 0) → b ≡ false → OnTrue b Q
    nothing true Q is = absurd (cc)
    nothing false Q is = tt

    by : (b : Bool) → p.entry.fresh ≡ b → OnTrue p.entry.fresh (HasHistory m mark rows p) → OnFalse p.entry.fresh (IsBare p) → HasRows m mark (rows ++ map (inserted_at epoch) new) (q b)
    by true is fresh stale = record {
      fresh = on p.entry.fresh (HasHistory m mark rows p) (HasHistory m mark (rows ++ map (inserted_at epoch) new) (with_rows (rows_for epoch new p) p)) is fresh (λ h. history_inserted m mark epoch rows new p (lt is) h);
      stale = off p.entry.fresh (IsBare (with_rows (rows_for epoch new p) p)) is;
    }
    by false is fresh stale = record { fresh = nothing p.entry.fresh (HasHistory m mark (rows ++ map (inserted_at epoch) new) p) is; stale = stale }

-- a table and all its projections
pub table_inserted : (m : Contents) (mark epoch : ℕ) (t : kept.Table) (ps : List Projected) (u : Table) (new : List (List Value)) → All (λ p. p.entry.fresh ≡ true → p.entry.lge < epoch) ps
    → StandsForTable m mark t ps u → StandsForTable m mark t (map (inserted_into epoch new) ps) (record u { rows = u.rows ++ map (inserted_at epoch) new })
table_inserted m mark epoch t ps u new lt stands = record {
  name = stands.name;
  columns = stands.columns;
  shapes = stands.shapes;
  entries = same_entries ps ∙ stands.entries;
  rows = each ps lt stands.rows;
}
  where
    entry_same : (p : Projected) (b : Bool) → (cond b (with_rows (rows_for epoch new p) p) p).entry ≡ p.entry
    entry_same p true = refl
    entry_same p false = refl

    same_entries : (qs : List Projected) → map (λ p. p.entry) (map (inserted_into epoch new) qs) ≡ map (λ p. p.entry) qs
    same_entries [] = refl
    same_entries (p ∷ qs) = ap₂ (λ e es. e ∷ es) (entry_same p p.entry.fresh) (same_entries qs)

    each : (qs : List Projected) → All (λ p. p.entry.fresh ≡ true → p.entry.lge < epoch) qs → All (HasRows m mark u.rows) qs → All (HasRows m mark (u.rows ++ map (inserted_at epoch) new)) (map (inserted_into epoch new) qs)
    each [] lts all = All-nil (HasRows m mark (u.rows ++ map (inserted_at epoch) new))
    each (p ∷ qs) lts all =
        All-cons (HasRows m mark (u.rows ++ map (inserted_at epoch) new)) (inserted_into epoch new p) (map (inserted_into epoch new) qs)
        (rows_inserted m mark epoch u.rows new p (All-head (λ x. x.entry.fresh ≡ true → x.entry.lge < epoch) p qs lts) (All-head (HasRows m mark u.rows) p qs all))
        (each qs (All-tail (λ x. x.entry.fresh ≡ true → x.entry.lge < epoch) p qs lts) (All-tail (HasRows m mark u.rows) p qs all))
