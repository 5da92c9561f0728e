-- The projections of a cut catalogue, read from the disk, are the database.
use Rattle.std.proofs.Common.{◌≡◌, ℕ, ◌<◌, Bool, true, false, List, [], ◌∷◌, map, refl, sym, ap₂, ◌∙◌, subst}
use Rattle.std.specs.Bool.{OnTrue, OnFalse}
use Rattle.std.specs.List.{All, AllZip}
use Rattle.std.proofs.lemmas.List.Elements.{All-head, All-tail, All-cons, All-nil}
use Rattle.common_laws.specs.Bags.{SameBag}
use Rattle.common_laws.specs.Maps.{Contents}
use Rattle.common_laws.proofs.BagLaws.{bag_trans}
use Rattle.col_value.specs.declared.row.Stamped.{Stamped}
use Rattle.row_history.specs.History.{retained, on_columns}
use Rattle.catalog_types.specs.declared.catalogue.Container.{Container}
use Rattle.catalog_types.specs.declared.catalogue.Projection.{Projection}
use Rattle.catalog_types.specs.declared.catalogue.Table as kept
use Rattle.catalog_types.specs.declared.catalogue.Catalogue.{Catalogue}
use Rattle.catalog_types.specs.Reached.{least_lge}
use Rattle.db_model.specs.Database.{Database, Table}
use Rattle.del_vector.specs.declared.mark.Mark.{Mark}
use Rattle.stored_rows.specs.Stored.{Beside, Projected, AreLater, IsMemoryAbove, IsUnmarked, IsLoaded}
use Rattle.stored_rows.proofs.OneList.{OneVector}
use Rattle.stored_rows.proofs.ReadRows.{held_stored}
use Rattle.folder_model.specs.Projections.{ordinals, HasHistory, IsBare, HasRows, HoldsHistory}
use Rattle.folder_model.specs.Reopening.{IsTableAt, IsCutOf}
use Rattle.folder_model.specs.Tables.{StandsForTable, StandForTables, AreDatabase}
use Rattle.cut_model.specs.Cut.{CutsRows, IsCutEntry, IsCutTable, IsCutRoot}
use Rattle.cut_model.specs.Loaded.{IsLoadedEntry, AreLoadedEntries, LoadedStores}
use Rattle.cut_model.proofs.Entries.{cut_ordinals, cut_fresh, cut_shapes}

-- what was read has nothing in memory alone
none_later : (epoch : ℕ) (marks : List Mark) → marks ≡ [] → AreLater epoch marks
none_later epoch marks none = subst (AreLater epoch) (sym none) (λ i e got. absurd (cc))

marks_read : (m : Contents) (epoch : ℕ) (ks : List Container) (bs : List Beside) → AllZip (IsUnmarked m) ks bs → All (λ b. AreLater epoch b.fresh) bs
marks_read m epoch [] [] read = All-nil (λ b. AreLater epoch b.fresh)
marks_read m epoch [] (b ∷ bs) read = absurd read
marks_read m epoch (k ∷ ks) [] read = absurd read
marks_read m epoch (k ∷ ks) (b ∷ bs) ((held, none), more) = All-cons (λ x. AreLater epoch x.fresh) b bs (none_later epoch b.fresh none) (marks_read m epoch ks bs more)

above_read : (m : Contents) (epoch : ℕ) (p : Projected) → IsLoaded m p → IsMemoryAbove epoch p
above_read m epoch p loaded = record {
  rows = subst (All (λ s. epoch < s.ins)) (sym loaded.unsaved) (All-nil (λ s. epoch < s.ins));
  marks = marks_read m epoch p.entry.containers p.beside loaded.beside;
}

history_read : OneVector → (m n : Contents) (mark epoch : ℕ) (rows : List Stamped) (p : Projection) (s : Projected) → ordinals s.entry ≡ ordinals p → CutsRows m n mark epoch p s.entry → IsLoaded n s
    → HoldsHistory m mark epoch rows p → HasHistory n mark rows s
history_read one m n mark epoch rows p s columns cuts loaded (old, held, history) =
    let k = cuts old held in
    record {
      stored = k.0;
      are = held_stored one n s k.0 loaded k.1;
      history =
          subst (λ (cs : List ℕ). SameBag (retained mark k.0) (map (on_columns cs) (retained mark rows))) (sym columns)
          (bag_trans _ _ _ k.2 history);
      above = above_read n s.entry.lge s loaded;
    }

nothing_beside : (m : Contents) (ks : List Container) (bs : List Beside) → ks ≡ [] → AllZip (IsUnmarked m) ks bs → bs ≡ []
nothing_beside m [] [] none read = refl
nothing_beside m [] (b ∷ bs) none read = absurd read
nothing_beside m (k ∷ ks) bs none read = absurd (cc)

rows_read : OneVector → (m n : Contents) (mark epoch : ℕ) (rows : List Stamped) (p : Projection) (s : Projected) → IsCutEntry m n mark epoch p s.entry → IsLoaded n s
    → OnTrue p.fresh (HoldsHistory m mark epoch rows p) → HasRows n mark rows s
rows_read one m n mark epoch rows p s cut loaded held = record {
  fresh = up p.fresh s.entry.fresh (cut_fresh epoch p s.entry cut.shape) cut.rows held;
  stale = down p.fresh s.entry.fresh (cut_fresh epoch p s.entry cut.shape) cut.stale;
}
  where
    up : (a b : Bool) → b ≡ a → OnTrue a (CutsRows m n mark epoch p s.entry) → OnTrue a (HoldsHistory m mark epoch rows p) → OnTrue b (HasHistory n mark rows s)
    up true true same cuts held = history_read one m n mark epoch rows p s (cut_ordinals epoch p s.entry cut.shape) cuts loaded held
    up false true same cuts held = absurd (cc)
    up a false same cuts held = tt

    down : (a b : Bool) → b ≡ a → OnFalse a (s.entry.containers ≡ []) → OnFalse b (IsBare s)
    down false false same none = record { containers = none; beside = nothing_beside n s.entry.containers s.beside none loaded.beside; unsaved = loaded.unsaved }
    down true false same none = absurd (cc)
    down a true same none = tt

each_read : OneVector → (m n : Contents) (mark epoch : ℕ) (rows : List Stamped) (ps qs : List Projection) (ss : List Projected) → AllZip (IsCutEntry m n mark epoch) ps qs → AllZip (IsLoadedEntry n) qs ss
    → All (λ p. OnTrue p.fresh (HoldsHistory m mark epoch rows p)) ps → All (HasRows n mark rows) ss
each_read one m n mark epoch rows [] [] [] cut read held = All-nil (HasRows n mark rows)
each_read one m n mark epoch rows [] [] (s ∷ ss) cut read held = absurd read
each_read one m n mark epoch rows [] (q ∷ qs) ss cut read held = absurd cut
each_read one m n mark epoch rows (p ∷ ps) [] ss cut read held = absurd cut
each_read one m n mark epoch rows (p ∷ ps) (q ∷ qs) [] cut read held = absurd read
each_read one m n mark epoch rows (p ∷ ps) (q ∷ qs) (s ∷ ss) (here, more) (first, others) held =
    All-cons (HasRows n mark rows) s ss
    (rows_read one m n mark epoch rows p s (subst (IsCutEntry m n mark epoch p) (sym first.entry) here) first.loaded (All-head (λ x. OnTrue x.fresh (HoldsHistory m mark epoch rows x)) p ps held))
    (each_read one m n mark epoch rows ps qs ss more others (All-tail (λ x. OnTrue x.fresh (HoldsHistory m mark epoch rows x)) p ps held))

entries_read : (n : Contents) (qs : List Projection) (ss : List Projected) → AllZip (IsLoadedEntry n) qs ss → map (λ s. s.entry) ss ≡ qs
entries_read n [] [] read = refl
entries_read n [] (s ∷ ss) read = absurd read
entries_read n (q ∷ qs) [] read = absurd read
entries_read n (q ∷ qs) (s ∷ ss) (here, more) = ap₂ (λ (x : Projection) (xs : List Projection). x ∷ xs) here.entry (entries_read n qs ss more)

table_read : OneVector → (m n : Contents) (mark epoch : ℕ) (t r : kept.Table) (ss : List Projected) (u : Table) → IsCutTable m n mark epoch t r → AreLoadedEntries n r ss → IsTableAt m mark epoch t u
    → StandsForTable n mark r ss u
table_read one m n mark epoch t r ss u cut read at = record {
  name = at.name ∙ sym cut.name;
  columns = at.columns ∙ sym cut.columns;
  shapes = at.shapes ∙ cut_shapes m n mark epoch t.projections r.projections cut.projections;
  entries = entries_read n r.projections ss read;
  rows = each_read one m n mark epoch u.rows t.projections r.projections ss cut.projections read at.rows;
}

tables_read : OneVector → (m n : Contents) (mark epoch : ℕ) (ts rs : List kept.Table) (stores : List (List Projected)) (us : List Table) → AllZip (IsCutTable m n mark epoch) ts rs
    → AllZip (AreLoadedEntries n) rs stores → AllZip (IsTableAt m mark epoch) ts us → StandForTables n mark rs stores us
tables_read one m n mark epoch [] [] [] [] cut read at = tt
tables_read one m n mark epoch [] [] [] (u ∷ us) cut read at = absurd at
tables_read one m n mark epoch [] [] (ss ∷ stores) us cut read at = absurd read
tables_read one m n mark epoch [] (r ∷ rs) stores us cut read at = absurd cut
tables_read one m n mark epoch (t ∷ ts) [] stores us cut read at = absurd cut
tables_read one m n mark epoch (t ∷ ts) (r ∷ rs) [] us cut read at = absurd read
tables_read one m n mark epoch (t ∷ ts) (r ∷ rs) (ss ∷ stores) [] cut read at = absurd at
tables_read one m n mark epoch (t ∷ ts) (r ∷ rs) (ss ∷ stores) (u ∷ us) (cut, cuts) (read, reads) (at, more) =
    (table_read one m n mark epoch t r ss u cut read at, tables_read one m n mark epoch ts rs stores us cuts reads more)

pub database_read : OneVector → (m n : Contents) (c r : Catalogue) (stores : List (List Projected)) (d : Database) → IsCutRoot m n c r → IsCutOf m c d → LoadedStores n r stores → AreDatabase n r stores d
database_read one m n c r stores d cut is read = record {
  last = is.last ∙ sym cut.last;
  ahm = is.ahm ∙ sym cut.ahm;
  tables =
      subst (λ (a : ℕ). StandForTables n a r.tables stores d.tables) (sym cut.ahm)
      (tables_read one m n c.ahm (least_lge c) c.tables r.tables stores d.tables cut.tables read is.tables);
}
