-- By a cut catalogue a folder reopens to the same database.
use Rattle.std.proofs.Common.{◌≡◌, ℕ, ◌≤◌, Bool, true, false, List, [], ◌∷◌, map, refl, sym, ◌∙◌, arith, subst}
use Rattle.std.specs.Bool.{OnTrue}
use Rattle.std.specs.List.{All, AllZip}
use Rattle.std.proofs.lemmas.List.Elements.{All-head, All-tail, All-cons, All-nil}
use Rattle.common_laws.specs.Bags.{SameBag}
use Rattle.common_laws.specs.Maps.{Contents}
use Rattle.common_laws.proofs.BagLaws.{bag_trans}
use Rattle.col_value.specs.declared.row.Stamped.{Stamped}
use Rattle.row_history.specs.History.{retained, cut_rows, on_columns}
use Rattle.catalog_types.specs.declared.catalogue.Projection.{Projection}
use Rattle.catalog_types.specs.declared.catalogue.Table as kept
use Rattle.catalog_types.specs.declared.catalogue.Catalogue.{Catalogue}
use Rattle.catalog_types.specs.Reached.{all_reached, least_lge}
use Rattle.db_model.specs.Database.{Database, Table}
use Rattle.folder_model.specs.Projections.{ordinals, HoldsHistory}
use Rattle.folder_model.specs.Reopening.{IsTableAt, IsCutOf}
use Rattle.cut_model.specs.Cut.{CutsRows, IsCutEntry, IsCutTable, IsCutRoot}
use Rattle.cut_model.proofs.Again.{bag_again}
use Rattle.cut_model.proofs.Least.{between_all, between_least}
use Rattle.cut_model.proofs.Entries.{cut_ordinals, cut_fresh, cut_lge, cut_shapes, cut_again}

pub on_same : (a b : Bool) {P Q : Type 0} → a ≡ b → (P → Q) → OnTrue b P → OnTrue a Q
on_same true true is h p = h p
on_same true false is h p = absurd (cc)
on_same false b is h p = tt

-- the rows of the new files, cut again, are the table's
history_again : (m n : Contents) (mark epoch : ℕ) (rows : List Stamped) (p q : Projection) → mark ≤ epoch → ordinals q ≡ ordinals p → CutsRows m n mark epoch p q
    → HoldsHistory m mark epoch rows p → HoldsHistory n mark epoch rows q
history_again m n mark epoch rows p q le columns cuts (old, held, history) =
    let k = cuts old held in (
      k.0,
      k.1,
      subst (λ (cs : List ℕ). SameBag (retained mark (cut_rows epoch k.0)) (map (on_columns cs) (retained mark rows))) (sym columns)
          (bag_trans _ _ _ (bag_again mark epoch k.0 old le k.2) history),
    )

projections_again : (m n : Contents) (mark epoch : ℕ) (rows : List Stamped) (ps qs : List Projection) → mark ≤ epoch → AllZip (IsCutEntry m n mark epoch) ps qs
    → All (λ p. OnTrue p.fresh (HoldsHistory m mark epoch rows p)) ps → All (λ q. OnTrue q.fresh (HoldsHistory n mark epoch rows q)) qs
projections_again m n mark epoch rows [] [] le cut all = All-nil (λ q. OnTrue q.fresh (HoldsHistory n mark epoch rows q))
projections_again m n mark epoch rows [] (q ∷ qs) le cut all = absurd cut
projections_again m n mark epoch rows (p ∷ ps) [] le cut all = absurd cut
projections_again m n mark epoch rows (p ∷ ps) (q ∷ qs) le (here, more) all =
    All-cons (λ x. OnTrue x.fresh (HoldsHistory n mark epoch rows x)) q qs
    (both p.fresh q.fresh (cut_fresh epoch p q here.shape) here.rows (All-head (λ x. OnTrue x.fresh (HoldsHistory m mark epoch rows x)) p ps all))
    (projections_again m n mark epoch rows ps qs le more (All-tail (λ x. OnTrue x.fresh (HoldsHistory m mark epoch rows x)) p ps all))
  where
    both : (a b : Bool) → b ≡ a → OnTrue a (CutsRows m n mark epoch p q) → OnTrue a (HoldsHistory m mark epoch rows p) → OnTrue b (HoldsHistory n mark epoch rows q)
    both true true same cuts held = history_again m n mark epoch rows p q le (cut_ordinals epoch p q here.shape) cuts held
    both false true same cuts held = absurd (cc)
    both a false same cuts held = tt

table_again : (m n : Contents) (mark epoch : ℕ) (t s : kept.Table) (u : Table) → mark ≤ epoch → IsCutTable m n mark epoch t s → IsTableAt m mark epoch t u → IsTableAt n mark epoch s u
table_again m n mark epoch t s u le cut at = record {
  name = at.name ∙ sym cut.name;
  columns = at.columns ∙ sym cut.columns;
  shapes = at.shapes ∙ cut_shapes m n mark epoch t.projections s.projections cut.projections ∙ sym (cut_again m n mark epoch t.projections s.projections cut.projections);
  rows = projections_again m n mark epoch u.rows t.projections s.projections le cut.projections at.rows;
}

tables_again : (m n : Contents) (mark epoch : ℕ) (ts ss : List kept.Table) (us : List Table) → mark ≤ epoch → AllZip (IsCutTable m n mark epoch) ts ss → AllZip (IsTableAt m mark epoch) ts us
    → AllZip (IsTableAt n mark epoch) ss us
tables_again m n mark epoch [] [] [] le cut at = tt
tables_again m n mark epoch [] [] (u ∷ us) le cut at = absurd at
tables_again m n mark epoch [] (s ∷ ss) us le cut at = absurd cut
tables_again m n mark epoch (t ∷ ts) [] us le cut at = absurd cut
tables_again m n mark epoch (t ∷ ts) (s ∷ ss) [] le cut at = absurd at
tables_again m n mark epoch (t ∷ ts) (s ∷ ss) (u ∷ us) le (one, more) (here, others) =
    (table_again m n mark epoch t s u le one here, tables_again m n mark epoch ts ss us le more others)

-- ---- the epoch of the cut is the same

entries_at : (m n : Contents) (mark epoch : ℕ) (ps qs : List Projection) → AllZip (IsCutEntry m n mark epoch) ps qs → All (λ q. OnTrue q.fresh ((epoch ≤ q.lge) × (q.lge ≤ epoch))) qs
entries_at m n mark epoch [] [] cut = All-nil (λ q. OnTrue q.fresh ((epoch ≤ q.lge) × (q.lge ≤ epoch)))
entries_at m n mark epoch [] (q ∷ qs) cut = absurd cut
entries_at m n mark epoch (p ∷ ps) [] cut = absurd cut
entries_at m n mark epoch (p ∷ ps) (q ∷ qs) (here, more) =
    All-cons (λ x. OnTrue x.fresh ((epoch ≤ x.lge) × (x.lge ≤ epoch))) q qs
    (on_same q.fresh q.fresh refl (λ is. (omega (arith, is), omega (arith, is))) (cut_lge epoch p q here.shape)) (entries_at m n mark epoch ps qs more)

tables_at : (m n : Contents) (mark epoch : ℕ) (ts ss : List kept.Table) → AllZip (IsCutTable m n mark epoch) ts ss → All (λ s. All (λ q. OnTrue q.fresh ((epoch ≤ q.lge) × (q.lge ≤ epoch))) s.projections) ss
tables_at m n mark epoch [] [] cut = All-nil (λ s. All (λ q. OnTrue q.fresh ((epoch ≤ q.lge) × (q.lge ≤ epoch))) s.projections)
tables_at m n mark epoch [] (s ∷ ss) cut = absurd cut
tables_at m n mark epoch (t ∷ ts) [] cut = absurd cut
tables_at m n mark epoch (t ∷ ts) (s ∷ ss) (here, more) =
    All-cons (λ x. All (λ q. OnTrue q.fresh ((epoch ≤ q.lge) × (q.lge ≤ epoch))) x.projections) s ss
    (entries_at m n mark epoch t.projections s.projections here.projections) (tables_at m n mark epoch ts ss more)

pub least_same : (m n : Contents) (c r : Catalogue) → IsCutRoot m n c r → least_lge r ≡ least_lge c
least_same m n c r cut =
    let e = least_lge c in
    let k = between_least e e r.last (all_reached r) (between_all e e r.tables (tables_at m n c.ahm e c.tables r.tables cut.tables)) (omega (arith, cut.last)) (omega (arith, cut.last)) in
    omega (arith, k.0, k.1)

pub cut_reopens : (m n : Contents) (c r : Catalogue) (d : Database) → IsCutRoot m n c r → c.ahm ≤ least_lge c → IsCutOf m c d → IsCutOf n r d
cut_reopens m n c r d cut le is = record {
  last = is.last ∙ sym (least_same m n c r cut);
  ahm = is.ahm ∙ sym cut.ahm;
  tables =
      subst (λ (a : ℕ). AllZip (IsTableAt n a (least_lge r)) r.tables d.tables) (sym cut.ahm)
      (subst (λ (e : ℕ). AllZip (IsTableAt n c.ahm e) r.tables d.tables) (sym (least_same m n c r cut)) (tables_again m n c.ahm (least_lge c) c.tables r.tables d.tables le cut.tables is.tables));
}
