-- Whatever a crash leaves of what a store stands for, the folder reopens to the tables cut at the last good epoch.
use Rattle.std.proofs.Common.{◌≡◌, ℕ, ◌≤◌, ◌<◌, Bool, true, false, List, [], ◌∷◌, map, Option, Some, None, refl, sym, ap, ap₂, ◌∙◌, arith, subst}
use Rattle.std.specs.Prelude.{fold, filter, unwrap_or}
use Rattle.std.specs.Bool.{OnTrue}
use Rattle.std.specs.List.{All, AllZip}
use Rattle.std.proofs.lemmas.List.Elements.{All-head, All-tail, All-cons, All-nil, All-weaker, All-map}
use Rattle.common_laws.specs.Bags.{SameBag}
use Rattle.common_laws.specs.Maps.{Contents}
use Rattle.col_value.specs.declared.row.Stamped.{Stamped}
use Rattle.row_history.specs.History.{retained, cut_rows, on_columns}
use Rattle.row_history.proofs.Histories.{map_mapped, cut_columns, retained_cut, bag_cut}
use Rattle.catalog_types.specs.declared.catalogue.Projection.{Projection}
use Rattle.catalog_types.specs.declared.catalogue.Table as kept
use Rattle.catalog_types.specs.declared.catalogue.Catalogue.{Catalogue}
use Rattle.catalog_types.specs.Reached.{earlier, table_reached, all_reached, least_lge}
use Rattle.catalog_root.specs.declared.found.Found.{Found}
use Rattle.catalog_root.specs.declared.found.Found.TheVariants.{Fresh, Root}
use Rattle.catalog_root.specs.Quiet.{KeepsRoot}
use Rattle.db_model.specs.Database.{Database, Table, Shape}
use Rattle.db_model.specs.Epochs.{moved_shape}
use Rattle.db_model.specs.Epochs.{all_shapes, least_or, last_good, cut_table, cut}
use Rattle.db_model.specs.Sound.{IsSoundDatabase}
use Rattle.stored_rows.specs.Listed.{SameEntry}
use Rattle.stored_rows.specs.Stored.{Projected, IsMemoryAbove, AreLater}
use Rattle.stored_rows.proofs.KeptRows.{entry_kept}
use Rattle.stored_rows.proofs.Memories.{cut_memory}
use Rattle.folder_model.specs.Projections.{ordinals, shape_of, HasHistory, HasRows, HoldsHistory}
use Rattle.folder_model.specs.Tables.{StandsForTable, StandForTables, AreDatabase}
use Rattle.folder_model.specs.Reopening.{IsTableAt, IsCutOf, Reopens}
use Rattle.folder_model.specs.Standing.{IsRootOf}
use Rattle.folder_model.proofs.LastGoods.{good_below, good_same}
use Rattle.folder_model.proofs.ListedFiles.{SameTables, tables_same}

on_true : (b : Bool) {P Q : Type 0} → (b ≡ true → P → Q) → OnTrue b P → OnTrue b Q
on_true true h p = h refl p
on_true false h p = tt

lower : (low high : ℕ) (p : Projected) → low ≤ high → IsMemoryAbove high p → IsMemoryAbove low p
lower low high p le above = record {
  rows = All-weaker (λ s. high < s.ins) (λ s. low < s.ins) (λ s lt. omega (arith, le, lt)) p.unsaved above.rows;
  marks = All-weaker (λ b. AreLater high b.fresh) (λ b. AreLater low b.fresh) (λ b later i e got. omega (arith, le, later i e got)) p.beside above.marks;
}

history_cut : (m x : Contents) (mark epoch : ℕ) (rows : List Stamped) (p : Projected) → mark ≤ epoch → epoch ≤ p.entry.lge → SameEntry m x p.entry
    → HasHistory m mark rows p → HoldsHistory x mark epoch (cut_rows epoch rows) p.entry
history_cut m x mark epoch rows p marked reached_is same has =
    let k = cut_memory m epoch p has.stored (lower epoch p.entry.lge p reached_is has.above) has.are in
    let columns = ordinals p.entry in
    let left : retained mark (cut_rows epoch k.0) ≡ cut_rows epoch (retained mark has.stored) = ap (retained mark) (sym k.2) ∙ retained_cut mark epoch has.stored marked in
    let right : cut_rows epoch (map (on_columns columns) (retained mark rows)) ≡ map (on_columns columns) (retained mark (cut_rows epoch rows)) =
    cut_columns columns epoch (retained mark rows) ∙ ap (map (on_columns columns)) (sym (retained_cut mark epoch rows marked)) in (
      k.0,
      entry_kept m x p.entry k.0 same k.1,
      subst (λ (xs : List Stamped). SameBag xs (map (on_columns columns) (retained mark (cut_rows epoch rows)))) (sym left)
          (subst (SameBag (cut_rows epoch (retained mark has.stored))) right (bag_cut epoch (retained mark has.stored) (map (on_columns columns) (retained mark rows)) has.history)),
    )

projections_cut : (m x : Contents) (mark epoch : ℕ) (rows : List Stamped) (ps : List Projected) → mark ≤ epoch
    → All (λ p. p.entry.fresh ≡ true → epoch ≤ p.entry.lge) ps → All (λ p. SameEntry m x p.entry) ps → All (HasRows m mark rows) ps
    → All (λ p. OnTrue p.entry.fresh (HoldsHistory x mark epoch (cut_rows epoch rows) p.entry)) ps
projections_cut m x mark epoch rows [] marked good same has = All-nil (λ p. OnTrue p.entry.fresh (HoldsHistory x mark epoch (cut_rows epoch rows) p.entry))
projections_cut m x mark epoch rows (p ∷ ps) marked good same has =
    All-cons (λ q. OnTrue q.entry.fresh (HoldsHistory x mark epoch (cut_rows epoch rows) q.entry)) p ps
    (on_true p.entry.fresh (λ fresh h. history_cut m x mark epoch rows p marked (All-head (λ q. q.entry.fresh ≡ true → epoch ≤ q.entry.lge) p ps good fresh) (All-head (λ q. SameEntry m x q.entry) p ps same) h)
    ((All-head (HasRows m mark rows) p ps has).fresh))
    (projections_cut m x mark epoch rows ps marked (All-tail (λ q. q.entry.fresh ≡ true → epoch ≤ q.entry.lge) p ps good) (All-tail (λ q. SameEntry m x q.entry) p ps same) (All-tail (HasRows m mark rows) p ps has))

-- what holds of the entries holds of each projection's entry
pub of_entries : (P : Projection → Type 0) (ps : List Projected) (entries : List Projection) → map (λ p. p.entry) ps ≡ entries → All P entries → All (λ p. P p.entry) ps
of_entries P ps entries is all = unmapped ps (subst (All P) (sym is) all)
  where
    unmapped : (qs : List Projected) → All P (map (λ p. p.entry) qs) → All (λ p. P p.entry) qs
    unmapped [] h = All-nil (λ p. P p.entry)
    unmapped (q ∷ qs) h = All-cons (λ p. P p.entry) q qs (All-head P q.entry (map (λ p. p.entry) qs) h) (unmapped qs (All-tail P q.entry (map (λ p. p.entry) qs) h))

table_cut : (m x : Contents) (mark epoch : ℕ) (t : kept.Table) (ps : List Projected) (u : Table) → mark ≤ epoch → All (λ p. p.fresh ≡ true → epoch ≤ p.lge) t.projections
    → All (SameEntry m x) t.projections → StandsForTable m mark t ps u → IsTableAt x mark epoch t (cut_table epoch u)
table_cut m x mark epoch t ps u marked good same stands = record {
  name = stands.name;
  columns = stands.columns;
  shapes = ap (map (moved_shape epoch)) stands.shapes ∙ map_mapped (moved_shape epoch) shape_of t.projections;
  rows = subst (All (λ p. OnTrue p.fresh (HoldsHistory x mark epoch (cut_rows epoch u.rows) p))) stands.entries
      (All-map (λ p. OnTrue p.fresh (HoldsHistory x mark epoch (cut_rows epoch u.rows) p)) (λ (p : Projected). p.entry) ps
      (projections_cut m x mark epoch u.rows ps marked (of_entries (λ p. p.fresh ≡ true → epoch ≤ p.lge) ps t.projections stands.entries good)
      (of_entries (SameEntry m x) ps t.projections stands.entries same) stands.rows));
}

all_cut : (m x : Contents) (mark epoch : ℕ) (ts : List kept.Table) (pss : List (List Projected)) (us : List Table) → mark ≤ epoch → All (λ t. All (λ p. p.fresh ≡ true → epoch ≤ p.lge) t.projections) ts
    → SameTables m x ts → StandForTables m mark ts pss us → AllZip (IsTableAt x mark epoch) ts (map (cut_table epoch) us)
all_cut m x mark epoch [] [] [] marked good same stand = tt
all_cut m x mark epoch [] [] (u ∷ us) marked good same stand = absurd stand
all_cut m x mark epoch [] (ps ∷ pss) us marked good same stand = absurd stand
all_cut m x mark epoch (t ∷ ts) [] us marked good same stand = absurd stand
all_cut m x mark epoch (t ∷ ts) (ps ∷ pss) [] marked good same stand = absurd stand
all_cut m x mark epoch (t ∷ ts) (ps ∷ pss) (u ∷ us) marked good same (here, more) = (
  table_cut m x mark epoch t ps u marked (All-head (λ y. All (λ p. p.fresh ≡ true → epoch ≤ p.lge) y.projections) t ts good) (All-head (λ y. All (SameEntry m x) y.projections) t ts same) here,
  all_cut m x mark epoch ts pss us marked (All-tail (λ y. All (λ p. p.fresh ≡ true → epoch ≤ p.lge) y.projections) t ts good) (All-tail (λ y. All (SameEntry m x) y.projections) t ts same) more,
)

-- what a root's catalogue and files are, cut
parts_cut : (m x : Contents) (c root : Catalogue) (stores : List (List Projected)) (d : Database) → AreDatabase m c stores d → d.ahm ≤ last_good d
    → root.tables ≡ c.tables → root.ahm ≡ c.ahm → (all_reached c ≡ None → root.last ≡ c.last) → SameTables m x c.tables
    → IsCutOf x root (cut (last_good d) d)
parts_cut m x c root stores d are marked_is tables ahm last same = record {
  last = good_same m c stores d are ∙ sym to;
  ahm = are.ahm ∙ sym ahm;
  tables =
      let marked : c.ahm ≤ least_lge c = omega (arith, marked_is, are.ahm, good_same m c stores d are) in
      let cuts = all_cut m x c.ahm (least_lge c) c.tables stores d.tables marked (good_below c) same are.tables in
      let at_good : AllZip (IsTableAt x c.ahm (least_lge c)) c.tables (map (cut_table (last_good d)) d.tables) =
      subst (λ (e : ℕ). AllZip (IsTableAt x c.ahm (least_lge c)) c.tables (map (cut_table e) d.tables)) (sym (good_same m c stores d are)) cuts in
      let at_root : AllZip (IsTableAt x c.ahm (least_lge root)) c.tables (map (cut_table (last_good d)) d.tables) =
      subst (λ (e : ℕ). AllZip (IsTableAt x c.ahm e) c.tables (map (cut_table (last_good d)) d.tables)) (sym to) at_good in
      subst (λ (ts : List kept.Table). AllZip (IsTableAt x root.ahm (least_lge root)) ts (map (cut_table (last_good d)) d.tables)) (sym tables)
      (subst (λ (a : ℕ). AllZip (IsTableAt x a (least_lge root)) c.tables (map (cut_table (last_good d)) d.tables)) (sym ahm) at_root);
}
  where
    reached_same : all_reached root ≡ all_reached c
    reached_same = ap (fold (λ e t. earlier e (table_reached t)) None) tables

    unwrapped : (o : Option ℕ) → all_reached c ≡ o → unwrap_or o root.last ≡ unwrap_or o c.last
    unwrapped None is = last is
    unwrapped (Some e) is = refl

    to : least_lge root ≡ least_lge c
    to = ap (λ (o : Option ℕ). unwrap_or o root.last) reached_same ∙ unwrapped (all_reached c) refl

nothing : (m : Contents) (mark : ℕ) (pss : List (List Projected)) (us : List Table) → StandForTables m mark [] pss us → us ≡ []
nothing m mark [] [] stand = refl
nothing m mark [] (u ∷ us) stand = absurd stand
nothing m mark (ps ∷ pss) us stand = absurd stand

-- an image reopens to the database cut at the last good epoch
pub image_reopens : (m x : Contents) (c : Catalogue) (stores : List (List Projected)) (d : Database) (root : Found) → AreDatabase m c stores d → d.ahm ≤ last_good d → IsSoundDatabase (cut (last_good d) d)
    → IsRootOf c root → KeepsRoot m root x → Reopens x (cut (last_good d) d)
image_reopens m x c stores d Fresh are marked sound (tables, last, ahm) quiet =
    let bare : d.tables ≡ [] = nothing m c.ahm stores d.tables (subst (λ (ts : List kept.Table). StandForTables m c.ahm ts stores d.tables) tables are.tables) in
    let good : last_good d ≡ 0 = ap (λ (us : List Table). least_or d.last (map (λ s. s.lge) (filter_fresh us))) bare ∙ are.last ∙ last in
    let make : List Table → ℕ → ℕ → Database = λ us e a. record { tables = us; last = e; ahm = a } in
    record {
      root = Fresh;
      opens = quiet.opens;
      is_cut = ap (λ (us : List Table). make (map (cut_table (last_good d)) us) (last_good d) d.ahm) bare ∙ ap₂ (λ (e a : ℕ). make [] e a) good (are.ahm ∙ ahm);
      sound = sound;
    }
  where
    filter_fresh : List Table → List Shape
    filter_fresh us = filter (λ s. s.fresh) (all_shapes us)
image_reopens m x c stores d (Root v r) are marked sound (tables, ahm, drawn, last) quiet = record {
  root = Root v r;
  opens = quiet.opens;
  is_cut = parts_cut m x c r stores d are marked tables ahm last (subst (SameTables m x) tables (tables_same m x r quiet.same));
  sound = sound;
}
