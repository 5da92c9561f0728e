-- A folder reopens to each sound database that is alike to one to which it reopens.
use Rattle.std.proofs.Common.{◌≡◌, ℕ, ◌∙◌, Bool, true, false, List, [], ◌∷◌, map, refl, sym, ap, subst}
use Rattle.std.specs.Bool.{OnTrue}
use Rattle.std.specs.List.{AllZip}
use Rattle.std.proofs.lemmas.List.Elements.{All-weaker}
use Rattle.common_laws.specs.Bags.{SameBag}
use Rattle.common_laws.specs.Maps.{Contents}
use Rattle.common_laws.proofs.BagLaws.{bag_map, bag_trans}
use Rattle.col_value.specs.declared.row.Stamped.{Stamped}
use Rattle.row_history.specs.History.{retained, cut_rows, on_columns}
use Rattle.catalog_types.specs.declared.catalogue.Projection.{Projection}
use Rattle.catalog_types.specs.declared.catalogue.Table as kept
use Rattle.catalog_types.specs.declared.catalogue.Catalogue.{Catalogue}
use Rattle.catalog_types.specs.Reached.{least_lge}
use Rattle.catalog_root.specs.declared.found.Found.{Found}
use Rattle.catalog_root.specs.declared.found.Found.TheVariants.{Fresh, Root}
use Rattle.db_model.specs.Alike.{IsAlikeTable, IsAlike}
use Rattle.db_model.specs.Database.{Table, Database, empty_database}
use Rattle.db_model.specs.Sound.{IsSoundDatabase}
use Rattle.folder_model.specs.Projections.{ordinals, HoldsHistory}
use Rattle.folder_model.specs.Reopening.{IsTableAt, IsCutOf, ReopensBy, Reopens}

alike_history : (m : Contents) (mark epoch : ℕ) (xs ys : List Stamped) (p : Projection) → SameBag (retained mark xs) (retained mark ys) → HoldsHistory m mark epoch xs p → HoldsHistory m mark epoch ys p
alike_history m mark epoch xs ys p same (held, holds, is) = (
  held,
  holds,
  bag_trans (retained mark (cut_rows epoch held)) (map (on_columns (ordinals p)) (retained mark xs)) (map (on_columns (ordinals p)) (retained mark ys)) is
      (bag_map (on_columns (ordinals p)) (retained mark xs) (retained mark ys) same),
)

on_both : (b : Bool) {P Q : Type 0} → (P → Q) → OnTrue b P → OnTrue b Q
on_both true h p = h p
on_both false h p = tt

alike_table : (m : Contents) (mark epoch : ℕ) (t : kept.Table) (u v : Table) → IsTableAt m mark epoch t u → IsAlikeTable mark u v → IsTableAt m mark epoch t v
alike_table m mark epoch t u v is alike = record {
  name = sym alike.name ∙ is.name;
  columns = sym alike.columns ∙ is.columns;
  shapes = sym alike.shapes ∙ is.shapes;
  rows =
      All-weaker (λ p. OnTrue p.fresh (HoldsHistory m mark epoch u.rows p)) (λ p. OnTrue p.fresh (HoldsHistory m mark epoch v.rows p))
      (λ p. on_both p.fresh (alike_history m mark epoch u.rows v.rows p alike.rows)) t.projections is.rows;
}

alike_tables : (m : Contents) (mark epoch : ℕ) (ts : List kept.Table) (us vs : List Table) → AllZip (IsTableAt m mark epoch) ts us → AllZip (IsAlikeTable mark) us vs
    → AllZip (IsTableAt m mark epoch) ts vs
alike_tables m mark epoch [] [] [] are alike = tt
alike_tables m mark epoch [] [] (v ∷ vs) are alike = absurd alike
alike_tables m mark epoch [] (u ∷ us) vs are alike = absurd are
alike_tables m mark epoch (t ∷ ts) [] vs are alike = absurd are
alike_tables m mark epoch (t ∷ ts) (u ∷ us) [] are alike = absurd alike
alike_tables m mark epoch (t ∷ ts) (u ∷ us) (v ∷ vs) (first, are) (one, alike) = (alike_table m mark epoch t u v first one, alike_tables m mark epoch ts us vs are alike)

alike_cut : (m : Contents) (c : Catalogue) (d e : Database) → IsCutOf m c d → IsAlike d e → IsCutOf m c e
alike_cut m c d e is alike = record {
  last = sym alike.last ∙ is.last;
  ahm = sym alike.ahm ∙ is.ahm;
  tables = alike_tables m c.ahm (least_lge c) c.tables d.tables e.tables is.tables (subst (λ (mark : ℕ). AllZip (IsAlikeTable mark) d.tables e.tables) is.ahm alike.tables);
}

none_alike : (us : List Table) → AllZip (IsAlikeTable 0) [] us → us ≡ []
none_alike [] alike = refl
none_alike (u ∷ us) alike = absurd alike

empty_alike : (e : Database) → IsAlike empty_database e → e ≡ empty_database
empty_alike e alike =
    ap (λ (us : List Table). make us e.last e.ahm) (none_alike e.tables alike.tables) ∙ sym (ap (λ (n : ℕ). make [] n e.ahm) alike.last) ∙ sym (ap (make [] 0) alike.ahm)
  where
    make : List Table → ℕ → ℕ → Database
    make us last ahm = record { tables = us; last = last; ahm = ahm }

alike_by : (m : Contents) (root : Found) (d e : Database) → ReopensBy m root d → IsAlike d e → ReopensBy m root e
alike_by m Fresh d e is alike = empty_alike e (subst (λ (x : Database). IsAlike x e) is alike)
alike_by m (Root v c) d e is alike = alike_cut m c d e is alike

pub reopened_alike : (m : Contents) (d e : Database) → Reopens m d → IsAlike d e → IsSoundDatabase e → Reopens m e
reopened_alike m d e reopens alike sound = record { root = reopens.root; opens = reopens.opens; is_cut = alike_by m reopens.root d e reopens.is_cut alike; sound = sound }
