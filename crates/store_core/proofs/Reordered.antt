-- What a store stands for, and what a folder reopens to, whatever the order of a table's rows.
use Rattle.std.proofs.Common.{◌≡◌, ℕ, ◌++◌, Bool, true, false, List, [], ◌∷◌, map, filter, refl, sym, ap, ap₂, ◌∙◌, subst, nat_le, inl, inr}
use Rattle.std.specs.Bool.{OnTrue}
use Rattle.std.specs.Prelude.{Result}
use Rattle.std.proofs.lemmas.Result.{on_ok_weaker}
use Rattle.std.specs.List.{AllZip}
use Rattle.std.proofs.lemmas.List.Concat.{flat_map-cons}
use Rattle.std.proofs.lemmas.List.Elements.{All-weaker}
use Rattle.common_laws.specs.Bags.{SameBag}
use Rattle.common_laws.specs.Maps.{Contents}
use Rattle.common_laws.proofs.BagLaws.{bag_filter, bag_map, bag_trans}
use Rattle.col_disk.specs.declared.disk.Disk.{Ghosts}
use Rattle.col_value.specs.declared.row.Stamped.{Stamped}
use Rattle.row_history.specs.History.{cut_row, cut_rows, on_columns, retained}
use Rattle.row_history.proofs.Histories.{bag_retained}
use Rattle.catalog_types.specs.declared.catalogue.Projection.{Projection}
use Rattle.catalog_types.specs.declared.catalogue.Table as kept
use Rattle.catalog_types.specs.Reached.{least_lge}
use Rattle.catalog_root.specs.declared.found.Found.{Found}
use Rattle.catalog_root.specs.declared.found.Found.TheVariants.{Fresh, Root}
use Rattle.stored_rows.specs.Stored.{Projected}
use Rattle.db_model.specs.Database.{Database, Shape, Table, empty_database}
use Rattle.db_model.specs.Epochs.{all_shapes, cut, cut_table, last_good, least_or, moved_shape}
use Rattle.db_model.specs.Sound.{IsSoundDatabase}
use Rattle.db_laws.proofs.Sounds.{cut_sound}
use Rattle.folder_model.specs.Projections.{HasHistory, HasRows, HoldsHistory, ordinals}
use Rattle.folder_model.specs.Reopening.{IsTableAt, Reopens, ReopensBy}
use Rattle.folder_model.specs.Tables.{StandForTables, StandsForTable}
use Rattle.folder_model.proofs.LastGoods.{mark_below_good}
use Rattle.col_disk.proofs.Moving.{leaves_wider}
use Rattle.store_commit.specs.Seen.{Seen, Stands}
use Rattle.store_commit.specs.Making.{ReopensToEither, Makes}
use Rattle.alike_laws.specs.Reordered.{IsReordered, IsReorderedTable}

on_true : (b : Bool) {P Q : Type 0} → (P → Q) → OnTrue b P → OnTrue b Q
on_true true turn p = turn p
on_true false turn p = tt

-- ---- a store

columns_reordered : (p : Projection) (mark : ℕ) (rows others : List Stamped) → SameBag rows others → SameBag (map (on_columns (ordinals p)) (retained mark rows)) (map (on_columns (ordinals p)) (retained mark others))
columns_reordered p mark rows others same = bag_map (on_columns (ordinals p)) (retained mark rows) (retained mark others) (bag_retained mark rows others same)

history_reordered : (m : Contents) (mark : ℕ) (rows others : List Stamped) (p : Projected) → SameBag rows others → HasHistory m mark rows p → HasHistory m mark others p
history_reordered m mark rows others p same has = record {
  stored = has.stored;
  are = has.are;
  history =
      bag_trans (retained mark has.stored) (map (on_columns (ordinals p.entry)) (retained mark rows)) (map (on_columns (ordinals p.entry)) (retained mark others)) has.history
      (columns_reordered p.entry mark rows others same);
  above = has.above;
}

rows_reordered : (m : Contents) (mark : ℕ) (rows others : List Stamped) (p : Projected) → SameBag rows others → HasRows m mark rows p → HasRows m mark others p
rows_reordered m mark rows others p same has = record {
  fresh = on_true p.entry.fresh {P = HasHistory m mark rows p} {Q = HasHistory m mark others p} (λ is. history_reordered m mark rows others p same is) has.fresh;
  stale = has.stale;
}

table_reordered : (m : Contents) (mark : ℕ) (t : kept.Table) (ps : List Projected) (u v : Table) → IsReorderedTable u v → StandsForTable m mark t ps u → StandsForTable m mark t ps v
table_reordered m mark t ps u v same stands = record {
  name = sym same.name ∙ stands.name;
  columns = sym same.columns ∙ stands.columns;
  shapes = sym same.shapes ∙ stands.shapes;
  entries = stands.entries;
  rows = All-weaker (HasRows m mark u.rows) (HasRows m mark v.rows) (λ p is. rows_reordered m mark u.rows v.rows p same.rows is) ps stands.rows;
}

tables_reordered : (m : Contents) (mark : ℕ) (ts : List kept.Table) (pss : List (List Projected)) (us vs : List Table) → AllZip IsReorderedTable us vs → StandForTables m mark ts pss us → StandForTables m mark ts pss vs
tables_reordered m mark [] [] [] [] same stand = tt
tables_reordered m mark [] [] [] (v ∷ vs) same stand = absurd same
tables_reordered m mark [] [] (u ∷ us) vs same stand = absurd stand
tables_reordered m mark [] (ps ∷ pss) us vs same stand = absurd stand
tables_reordered m mark (t ∷ ts) [] us vs same stand = absurd stand
tables_reordered m mark (t ∷ ts) (ps ∷ pss) [] vs same stand = absurd stand
tables_reordered m mark (t ∷ ts) (ps ∷ pss) (u ∷ us) [] same stand = absurd same
tables_reordered m mark (t ∷ ts) (ps ∷ pss) (u ∷ us) (v ∷ vs) (here, more) (first, later) = (table_reordered m mark t ps u v here first, tables_reordered m mark ts pss us vs more later)

pub stands_reordered : {D : Type 0} (disk : Ghosts D) (s : Seen) (now : D) (d e : Database) → IsReordered d e → IsSoundDatabase e → Stands disk s now d → Stands disk s now e
stands_reordered disk s now d e same sound stands = record {
  files = stands.files;
  are = record {
    last = sym same.last ∙ stands.are.last;
    ahm = sym same.ahm ∙ stands.are.ahm;
    tables = tables_reordered stands.files s.catalogue.ahm s.catalogue.tables s.stores d.tables e.tables same.tables stands.are.tables;
  };
  sound = sound;
  root = stands.root;
  is_root = stands.is_root;
  quiet = stands.quiet;
}

-- ---- a folder

shapes_reordered : (us vs : List Table) → AllZip IsReorderedTable us vs → all_shapes us ≡ all_shapes vs
shapes_reordered [] [] same = refl
shapes_reordered [] (v ∷ vs) same = absurd same
shapes_reordered (u ∷ us) [] same = absurd same
shapes_reordered (u ∷ us) (v ∷ vs) (here, more) =
    flat_map-cons (λ (t : Table). t.shapes) u us ∙ ap₂ (λ (xs ys : List Shape). xs ++ ys) here.shapes (shapes_reordered us vs more) ∙ sym (flat_map-cons (λ (t : Table). t.shapes) v vs)

good_reordered : (d e : Database) → IsReordered d e → last_good d ≡ last_good e
good_reordered d e same = ap₂ (λ (n : ℕ) (shapes : List Shape). least_or n (map (λ s. s.lge) (filter (λ s. s.fresh) shapes))) same.last (shapes_reordered d.tables e.tables same.tables)

cut_reordered : (epoch : ℕ) (rows others : List Stamped) → SameBag rows others → SameBag (cut_rows epoch rows) (cut_rows epoch others)
cut_reordered epoch rows others same =
    bag_map (cut_row epoch) (filter (λ s. nat_le s.ins epoch) rows) (filter (λ s. nat_le s.ins epoch) others) (bag_filter (λ s. nat_le s.ins epoch) rows others same)

table_cut : (epoch : ℕ) (u v : Table) → IsReorderedTable u v → IsReorderedTable (cut_table epoch u) (cut_table epoch v)
table_cut epoch u v same = record {
  name = same.name;
  columns = same.columns;
  shapes = ap (map (moved_shape epoch)) same.shapes;
  rows = cut_reordered epoch u.rows v.rows same.rows;
}

tables_cut : (epoch : ℕ) (us vs : List Table) → AllZip IsReorderedTable us vs → AllZip IsReorderedTable (map (cut_table epoch) us) (map (cut_table epoch) vs)
tables_cut epoch [] [] same = tt
tables_cut epoch [] (v ∷ vs) same = absurd same
tables_cut epoch (u ∷ us) [] same = absurd same
tables_cut epoch (u ∷ us) (v ∷ vs) (here, more) = (table_cut epoch u v here, tables_cut epoch us vs more)

-- a database whose rows have another order, cut where its data is on disk
good_cut : (d e : Database) → IsReordered d e → IsReordered (cut (last_good d) d) (cut (last_good e) e)
good_cut d e same =
    subst (λ (n : ℕ). IsReordered (cut (last_good d) d) (cut n e)) (good_reordered d e same) (record { last = refl; ahm = same.ahm; tables = tables_cut (last_good d) d.tables e.tables same.tables })

holds_reordered : (m : Contents) (mark epoch : ℕ) (rows others : List Stamped) (p : Projection) → SameBag rows others → HoldsHistory m mark epoch rows p → HoldsHistory m mark epoch others p
holds_reordered m mark epoch rows others p same (held, holds, history) = (
  held,
  holds,
  bag_trans (retained mark (cut_rows epoch held)) (map (on_columns (ordinals p)) (retained mark rows)) (map (on_columns (ordinals p)) (retained mark others)) history (columns_reordered p mark rows others same),
)

at_reordered : (m : Contents) (mark epoch : ℕ) (t : kept.Table) (u v : Table) → IsReorderedTable u v → IsTableAt m mark epoch t u → IsTableAt m mark epoch t v
at_reordered m mark epoch t u v same is = record {
  name = sym same.name ∙ is.name;
  columns = sym same.columns ∙ is.columns;
  shapes = sym same.shapes ∙ is.shapes;
  rows =
      All-weaker (λ p. OnTrue p.fresh (HoldsHistory m mark epoch u.rows p)) (λ p. OnTrue p.fresh (HoldsHistory m mark epoch v.rows p))
      (λ p holds. on_true p.fresh {P = HoldsHistory m mark epoch u.rows p} {Q = HoldsHistory m mark epoch v.rows p} (λ has. holds_reordered m mark epoch u.rows v.rows p same.rows has) holds) t.projections is.rows;
}

all_at : (m : Contents) (mark epoch : ℕ) (ts : List kept.Table) (us vs : List Table) → AllZip IsReorderedTable us vs → AllZip (IsTableAt m mark epoch) ts us → AllZip (IsTableAt m mark epoch) ts vs
all_at m mark epoch [] [] [] same are = tt
all_at m mark epoch [] [] (v ∷ vs) same are = absurd same
all_at m mark epoch [] (u ∷ us) vs same are = absurd are
all_at m mark epoch (t ∷ ts) [] vs same are = absurd are
all_at m mark epoch (t ∷ ts) (u ∷ us) [] same are = absurd same
all_at m mark epoch (t ∷ ts) (u ∷ us) (v ∷ vs) (here, more) (first, later) = (at_reordered m mark epoch t u v here first, all_at m mark epoch ts us vs more later)

none_reordered : (d e : Database) → IsReordered d e → d ≡ empty_database → e ≡ empty_database
none_reordered d e same none =
    let tables : e.tables ≡ [] = no_tables d.tables e.tables same.tables (ap (λ (x : Database). x.tables) none) in
    let last : e.last ≡ 0 = sym same.last ∙ ap (λ (x : Database). x.last) none in
    let ahm : e.ahm ≡ 0 = sym same.ahm ∙ ap (λ (x : Database). x.ahm) none in
    ap (λ (ts : List Table). made ts e.last e.ahm) tables ∙ ap₂ (λ (n m : ℕ). made [] n m) last ahm
  where
    made : List Table → ℕ → ℕ → Database
    made ts n m = record { tables = ts; last = n; ahm = m }

    no_tables : (us vs : List Table) → AllZip IsReorderedTable us vs → us ≡ [] → vs ≡ []
    no_tables [] [] zip is = refl
    no_tables [] (v ∷ vs) zip is = absurd zip
    no_tables (u ∷ us) vs zip is = absurd (cc)

by_reordered : (m : Contents) (root : Found) (d e : Database) → IsReordered d e → ReopensBy m root d → ReopensBy m root e
by_reordered m Fresh d e same none = none_reordered d e same none
by_reordered m (Root v c) d e same is = record {
  last = sym same.last ∙ is.last;
  ahm = sym same.ahm ∙ is.ahm;
  tables = all_at m c.ahm (least_lge c) c.tables d.tables e.tables same.tables is.tables;
}

pub reopens_reordered : (x : Contents) (d e : Database) → IsReordered d e → IsSoundDatabase e → Reopens x (cut (last_good d) d) → Reopens x (cut (last_good e) e)
reopens_reordered x d e same sound reopens = record {
  root = reopens.root;
  opens = reopens.opens;
  is_cut = by_reordered x reopens.root (cut (last_good d) d) (cut (last_good e) e) (good_cut d e same) reopens.is_cut;
  sound = cut_sound (last_good e) e (mark_below_good e sound) sound;
}

-- ---- an event

pub makes_reordered : {D F : Type 0} (disk : Ghosts D) {short : F} {old new : D} (was is : Seen) (result : Result (Unit {0}) F) (d e other : Database) → IsReordered e other → IsSoundDatabase other
    → Makes disk short was is old new result d e → Makes disk short was is old new result d other
makes_reordered disk {short} {old} {new} was is result d e other same sound makes = record {
  done = on_ok_weaker result (λ stands. stands_reordered disk is new e other same sound stands) makes.done;
  undone = makes.undone;
  any_moment = leaves_wider disk (λ x reopens. either x reopens) makes.any_moment;
}
  where
    either : (x : Contents) → ReopensToEither d e x → ReopensToEither d other x
    either x (inl before) = inl before
    either x (inr after) = inr (reopens_reordered x e other same sound after)
