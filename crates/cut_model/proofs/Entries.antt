-- What the entry of a projection is after a cut.
use Rattle.std.proofs.Common.{◌≡◌, ℕ, Bool, true, false, cond, List, [], ◌∷◌, map, refl, sym, ap, ap₂, ◌∙◌}
use Rattle.std.specs.Bool.{OnTrue}
use Rattle.std.specs.List.{AllZip}
use Rattle.common_laws.specs.Maps.{Contents}
use Rattle.row_history.proofs.Histories.{map_mapped}
use Rattle.col_value.specs.declared.kinds.Encoding.{Encoding}
use Rattle.catalog_types.specs.declared.catalogue.ProjColumn.{ProjColumn}
use Rattle.catalog_types.specs.declared.catalogue.Projection.{Projection}
use Rattle.db_model.specs.Database.{Shape}
use Rattle.db_model.specs.Epochs.{moved_shape}
use Rattle.folder_model.specs.Projections.{ordinals, shape_of}
use Rattle.cut_model.specs.Cut.{IsCutEntry}

pub moved_twice : (epoch : ℕ) (s : Shape) → moved_shape epoch (moved_shape epoch s) ≡ moved_shape epoch s
moved_twice epoch s = by s.fresh refl
  where
    by : (b : Bool) → s.fresh ≡ b → moved_shape epoch (cond b (record s { lge = epoch }) s) ≡ cond b (record s { lge = epoch }) s
    by true is = ap (λ (b : Bool). cond b (record s { lge = epoch }) (record s { lge = epoch })) is
    by false is = ap (λ (b : Bool). cond b (record s { lge = epoch }) s) is

moved_columns : (epoch : ℕ) (s : Shape) (b : Bool) → (cond b (record s { lge = epoch }) s).columns ≡ s.columns
moved_columns epoch s true = refl
moved_columns epoch s false = refl

moved_fresh : (epoch : ℕ) (s : Shape) (b : Bool) → (cond b (record s { lge = epoch }) s).fresh ≡ s.fresh
moved_fresh epoch s true = refl
moved_fresh epoch s false = refl

-- the columns and whether it is up to date stay
pub cut_ordinals : (epoch : ℕ) (p q : Projection) → shape_of q ≡ moved_shape epoch (shape_of p) → ordinals q ≡ ordinals p
cut_ordinals epoch p q shape =
    let columns : map (λ (c : ProjColumn). (c.ordinal, c.encoding)) q.columns ≡ map (λ (c : ProjColumn). (c.ordinal, c.encoding)) p.columns =
    ap (λ (s : Shape). s.columns) shape ∙ moved_columns epoch (shape_of p) p.fresh in
    sym (map_mapped (λ (x : ℕ × Encoding). x.0) (λ (c : ProjColumn). (c.ordinal, c.encoding)) q.columns)
    ∙ ap (map (λ (x : ℕ × Encoding). x.0)) columns
    ∙ map_mapped (λ (x : ℕ × Encoding). x.0) (λ (c : ProjColumn). (c.ordinal, c.encoding)) p.columns

pub cut_fresh : (epoch : ℕ) (p q : Projection) → shape_of q ≡ moved_shape epoch (shape_of p) → q.fresh ≡ p.fresh
cut_fresh epoch p q shape = ap (λ (s : Shape). s.fresh) shape ∙ moved_fresh epoch (shape_of p) p.fresh

-- what was up to date has its rows on disk up to the epoch
pub cut_lge : (epoch : ℕ) (p q : Projection) → shape_of q ≡ moved_shape epoch (shape_of p) → OnTrue q.fresh (q.lge ≡ epoch)
cut_lge epoch p q shape = by q.fresh (sym (cut_fresh epoch p q shape))
  where
    by : (b : Bool) → p.fresh ≡ b → OnTrue b (q.lge ≡ epoch)
    by false is = tt
    by true is = ap (λ (s : Shape). s.lge) shape ∙ ap (λ (b : Bool). (cond b (record (shape_of p) { lge = epoch }) (shape_of p)).lge) is

-- the shapes are those of the database that a folder reopens to
pub cut_shapes : (m n : Contents) (mark epoch : ℕ) (ps qs : List Projection) → AllZip (IsCutEntry m n mark epoch) ps qs → map (λ p. moved_shape epoch (shape_of p)) ps ≡ map shape_of qs
cut_shapes m n mark epoch [] [] cut = refl
cut_shapes m n mark epoch [] (q ∷ qs) cut = absurd cut
cut_shapes m n mark epoch (p ∷ ps) [] cut = absurd cut
cut_shapes m n mark epoch (p ∷ ps) (q ∷ qs) (here, more) = ap₂ (λ (s : Shape) (ss : List Shape). s ∷ ss) (sym here.shape) (cut_shapes m n mark epoch ps qs more)

pub cut_again : (m n : Contents) (mark epoch : ℕ) (ps qs : List Projection) → AllZip (IsCutEntry m n mark epoch) ps qs → map (λ q. moved_shape epoch (shape_of q)) qs ≡ map shape_of qs
cut_again m n mark epoch [] [] cut = refl
cut_again m n mark epoch [] (q ∷ qs) cut = absurd cut
cut_again m n mark epoch (p ∷ ps) [] cut = absurd cut
cut_again m n mark epoch (p ∷ ps) (q ∷ qs) (here, more) =
    ap₂ (λ (s : Shape) (ss : List Shape). s ∷ ss) (ap (moved_shape epoch) here.shape ∙ moved_twice epoch (shape_of p) ∙ sym here.shape) (cut_again m n mark epoch ps qs more)
