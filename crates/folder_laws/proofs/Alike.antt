-- Two databases that one folder reopens to are alike.
use Rattle.std.proofs.Common.{◌≡◌, ℕ, ◌<◌, ◌∙◌, Bool, true, false, List, [], ◌∷◌, length, map, refl, sym, subst}
use Rattle.std.specs.Prelude.{slice_index_or}
use Rattle.std.specs.Bool.{OnTrue}
use Rattle.std.specs.List.{All, Any, AllZip}
use Rattle.std.proofs.lemmas.List.Elements.{All-head, All-tail, All-filter, All-weaker, All-get_or}
use Rattle.std.proofs.lemmas.Slice.Zip.{AllZip-long}
use Rattle.common_laws.specs.Bags.{SameBag}
use Rattle.common_laws.specs.Maps.{Contents}
use Rattle.common_laws.proofs.BagLaws.{bag_sym, bag_trans}
use Rattle.col_value.specs.declared.column.Column.{Column}
use Rattle.col_value.specs.declared.row.Stamped.{Stamped}
use Rattle.row_history.specs.History.{is_retained, retained, cut_rows, on_columns}
use Rattle.catalog_types.specs.declared.catalogue.Container.{Container}
use Rattle.catalog_types.specs.declared.catalogue.Projection.{Projection}
use Rattle.catalog_types.specs.declared.catalogue.Table as kept
use Rattle.catalog_types.specs.declared.catalogue.Catalogue.{Catalogue}
use Rattle.catalog_types.specs.Parts.{IsFreshSuper, IsTable}
use Rattle.catalog_types.specs.Reached.{least_lge}
use Rattle.catalog_root.specs.declared.found.Found.{Found}
use Rattle.catalog_root.specs.declared.found.Found.TheVariants.{Fresh, Root}
use Rattle.catalog_root.specs.Root.{Opens}
use Rattle.catalog_root.proofs.Roots.{one_root, not_fresh}
use Rattle.db_model.specs.Alike.{IsAlikeTable, IsAlike}
use Rattle.db_model.specs.Database.{Table, Database, empty_database}
use Rattle.db_model.specs.Sound.{RowFits, ValueFits, IsSoundTable, IsSoundDatabase}
use Rattle.ros_container.specs.Encodings.{Written}
use Rattle.stored_rows.specs.Held.{HoldsRows}
use Rattle.folder_model.specs.Projections.{ordinals, HoldsHistory}
use Rattle.folder_model.specs.Reopening.{IsTableAt, IsCutOf, ReopensBy, Reopens}
use Rattle.folder_laws.proofs.Whole.{bag_whole}

-- files hold one list of rows
abbrev pub HeldOnce : Type 0
HeldOnce = (m : Contents) (written : List Written) (ks : List Container) (xs ys : List Stamped) → HoldsRows m written ks xs → HoldsRows m written ks ys → xs ≡ ys

-- what a projection's files are the history of is, with its columns, one bag
one_history : HeldOnce → (m : Contents) (mark epoch : ℕ) (xs ys : List Stamped) (p : Projection) → HoldsHistory m mark epoch xs p → HoldsHistory m mark epoch ys p
    → SameBag (map (on_columns (ordinals p)) (retained mark xs)) (map (on_columns (ordinals p)) (retained mark ys))
one_history once m mark epoch xs ys p (held, holds, is) (also, other, are) =
    let same : also ≡ held = once m _ p.containers also held other holds in
    let stored : List Stamped = retained mark (cut_rows epoch held) in
    let left = map (on_columns (ordinals p)) (retained mark xs) in
    let right = map (on_columns (ordinals p)) (retained mark ys) in
    bag_trans left stored right (bag_sym stored left is) (subst (λ (zs : List Stamped). SameBag (retained mark (cut_rows epoch zs)) right) same are)

widths : (mark : ℕ) (columns : List Column) (rows : List Stamped) → All (λ s. RowFits columns s.row) rows → All (λ s. length s.row ≡ length columns) (retained mark rows)
widths mark columns rows fit =
    All-filter (is_retained mark) (λ s. length s.row ≡ length columns) rows
    (All-weaker (λ s. RowFits columns s.row) (λ s. length s.row ≡ length columns) (λ s fits. AllZip-long ValueFits columns s.row fits.each) rows fit)

on_it : (b : Bool) {P : Type 0} → b ≡ true → OnTrue b P → P
on_it true is p = p
on_it false is p = absurd cc

at_place : (P : Projection → Type 0) (ps : List Projection) (k : ℕ) (p : Projection) → All P ps → k < length ps → slice_index_or ps k p ≡ p → P p
at_place P ps k p all lt is = subst P is (All-get_or P ps k p lt all)

same_rows : HeldOnce → (m : Contents) (c : Catalogue) (mark epoch : ℕ) (t : kept.Table) (u v : Table) (d e : Database) → IsTable c t → IsTableAt m mark epoch t u → IsTableAt m mark epoch t v
    → IsSoundTable d u → IsSoundTable e v → SameBag (retained mark u.rows) (retained mark v.rows)
same_rows once m c mark epoch t u v d e valid is are sound also = by valid.super
  where
    by : Any (IsFreshSuper t) t.projections → SameBag (retained mark u.rows) (retained mark v.rows)
    by (k, p, lt, at, super) =
        let one : HoldsHistory m mark epoch u.rows p = on_it p.fresh super.fresh (at_place (λ q. OnTrue q.fresh (HoldsHistory m mark epoch u.rows q)) t.projections k p is.rows lt at) in
        let other : HoldsHistory m mark epoch v.rows p = on_it p.fresh super.fresh (at_place (λ q. OnTrue q.fresh (HoldsHistory m mark epoch v.rows q)) t.projections k p are.rows lt at) in
        bag_whole p.columns (length t.columns) (retained mark u.rows) (retained mark v.rows) super.columns
        (widths mark t.columns u.rows (subst (λ (cs : List Column). All (λ s. RowFits cs s.row) u.rows) is.columns sound.rows))
        (widths mark t.columns v.rows (subst (λ (cs : List Column). All (λ s. RowFits cs s.row) v.rows) are.columns also.rows))
        (one_history once m mark epoch u.rows v.rows p one other)

same_table : HeldOnce → (m : Contents) (c : Catalogue) (mark epoch : ℕ) (t : kept.Table) (u v : Table) (d e : Database) → IsTable c t → IsTableAt m mark epoch t u → IsTableAt m mark epoch t v
    → IsSoundTable d u → IsSoundTable e v → IsAlikeTable mark u v
same_table once m c mark epoch t u v d e valid is are sound also = record {
  name = is.name ∙ sym are.name;
  columns = is.columns ∙ sym are.columns;
  shapes = is.shapes ∙ sym are.shapes;
  rows = same_rows once m c mark epoch t u v d e valid is are sound also;
}

same_tables : HeldOnce → (m : Contents) (c : Catalogue) (mark epoch : ℕ) (ts : List kept.Table) (us vs : List Table) (d e : Database) → All (IsTable c) ts
    → AllZip (IsTableAt m mark epoch) ts us → AllZip (IsTableAt m mark epoch) ts vs → All (IsSoundTable d) us → All (IsSoundTable e) vs → AllZip (IsAlikeTable mark) us vs
same_tables once m c mark epoch [] [] [] d e valid is are sound also = tt
same_tables once m c mark epoch [] [] (v ∷ vs) d e valid is are sound also = absurd are
same_tables once m c mark epoch [] (u ∷ us) vs d e valid is are sound also = absurd is
same_tables once m c mark epoch (t ∷ ts) [] vs d e valid is are sound also = absurd is
same_tables once m c mark epoch (t ∷ ts) (u ∷ us) [] d e valid is are sound also = absurd are
same_tables once m c mark epoch (t ∷ ts) (u ∷ us) (v ∷ vs) d e valid (first, is) (second, are) sound also = (
  same_table once m c mark epoch t u v d e (All-head (IsTable c) t ts valid) first second (All-head (IsSoundTable d) u us sound) (All-head (IsSoundTable e) v vs also),
  same_tables once m c mark epoch ts us vs d e (All-tail (IsTable c) t ts valid) is are (All-tail (IsSoundTable d) u us sound) (All-tail (IsSoundTable e) v vs also),
)

one_cut : HeldOnce → (m : Contents) (c : Catalogue) (d e : Database) → All (IsTable c) c.tables → IsCutOf m c d → IsCutOf m c e → IsSoundDatabase d → IsSoundDatabase e → IsAlike d e
one_cut once m c d e valid is are sound also = record {
  last = is.last ∙ sym are.last;
  ahm = is.ahm ∙ sym are.ahm;
  tables = subst (λ (mark : ℕ). AllZip (IsAlikeTable mark) d.tables e.tables) (sym is.ahm)
      (same_tables once m c c.ahm (least_lge c) c.tables d.tables e.tables d e valid is.tables are.tables sound.tables also.tables);
}

by_roots : HeldOnce → (m : Contents) (d e : Database) (f g : Found) → Opens m f → Opens m g → ReopensBy m f d → ReopensBy m g e → IsSoundDatabase d → IsSoundDatabase e → IsAlike d e
by_roots once m d e Fresh Fresh opens other is are sound also =
    subst (λ (x : Database). IsAlike x e) (sym is) (subst (IsAlike empty_database) (sym are) (record { last = refl; ahm = refl; tables = tt }))
by_roots once m d e Fresh (Root w r) opens other is are sound also = absurd (not_fresh m w r other opens)
by_roots once m d e (Root v c) Fresh opens other is are sound also = absurd (not_fresh m v c opens other)
by_roots once m d e (Root v c) (Root w r) opens other is are sound also =
    let same : r ≡ c = sym ((one_root m v w c r opens other).1) in
    one_cut once m c d e opens.valid.tables is (subst (λ (x : Catalogue). IsCutOf m x e) same are) sound also

pub alike_reopened : HeldOnce → (m : Contents) (d e : Database) → Reopens m d → Reopens m e → IsAlike d e
alike_reopened once m d e first second = by_roots once m d e first.root second.root first.opens second.opens first.is_cut second.is_cut first.sound second.sound
