-- Which catalogues have a spelling of version 1.
use Rattle.std.proofs.Common.{◌≡◌, ℕ, List, [], ◌∷◌, length, None}
use Rattle.std.specs.Prelude.{◌↔◌}
use Rattle.std.specs.List.{All, AllByRecursion}
use Rattle.std.proofs.lemmas.List.Elements.{All-head, All-tail, All-cons, All-nil}
use Rattle.col_bytes.specs.Spellings.{FitsList}
use Rattle.catalog_types.specs.declared.catalogue.ProjColumn.{ProjColumn}
use Rattle.catalog_types.specs.declared.catalogue.Container.{Container}
use Rattle.catalog_types.specs.declared.catalogue.Projection.{Projection}
use Rattle.catalog_types.specs.declared.catalogue.Table.{Table}
use Rattle.catalog_types.specs.declared.catalogue.Catalogue.{Catalogue}
use Rattle.catalog_bytes.specs.declared.form.Form.TheVariants.{One, Two}
use Rattle.catalog_bytes.specs.Spelling.{IsOldProjection, IsOldTable, IsOld, FitsProjColumn, FitsContainer, FitsProjection, FitsTable, Fits}

each : {X : Type 0} (P Q R : X → Type 0) → ((x : X) → P x → Q x ↔ R x) → (xs : List X) → AllByRecursion P xs → AllByRecursion Q xs ↔ All R xs
each P Q R one [] fits = (λ h. All-nil R, λ h. tt)
each P Q R one (x ∷ xs) fits =
    let here = one x fits.0 in
    let more = each P Q R one xs fits.1 in
    (λ h. All-cons R x xs (here.0 h.0) (more.0 h.1), λ h. (here.1 (All-head R x xs h), more.1 (All-tail R x xs h)))

listed : {X : Type 0} (P Q R : X → Type 0) → ((x : X) → P x → Q x ↔ R x) → (xs : List X) → FitsList P xs → FitsList Q xs ↔ All R xs
listed P Q R one xs fits = let it = each P Q R one xs fits.1 in (λ h. it.0 h.1, λ h. (fits.0, it.1 h))

column : (n : ℕ) (k : ProjColumn) → FitsProjColumn Two k → FitsProjColumn (One n) k ↔ (k.default ≡ None)
column n k fits = (λ h. h.1, λ is. ((fits.0, tt), is))

container : (n : ℕ) (k : Container) → FitsContainer Two k → FitsContainer (One n) k ↔ (k.stored ≡ n)
container n k (base, (rows, (least, (greatest, (level, (marks, (mark, stored))))))) = (λ h. h.1, λ is. ((base, (rows, (least, (greatest, (level, (marks, mark)))))), is))

projection : (n : ℕ) (p : Projection) → FitsProjection Two p → FitsProjection (One n) p ↔ IsOldProjection p
projection n p (name, (columns, (sort, (u, (lge, (born, containers)))))) =
    let first = listed (FitsProjColumn Two) (FitsProjColumn (One n)) (λ k. k.default ≡ None) (column n) p.columns columns in
    let second = listed (FitsContainer Two) (FitsContainer (One (length p.columns))) (λ k. k.stored ≡ length p.columns) (container (length p.columns)) p.containers containers in
    (λ h. (first.0 h.1.0, second.0 h.1.1.1.1.1.1), λ h. (name, (first.1 h.0, (sort, (u, (lge, (born, second.1 h.1)))))))

table : (n : ℕ) (t : Table) → FitsTable Two t → FitsTable (One n) t ↔ IsOldTable t
table n t (name, (columns, projections)) =
    let it = listed (FitsProjection Two) (FitsProjection (One n)) IsOldProjection (projection n) t.projections projections in
    (λ h. it.0 h.1.1, λ h. (name, (columns, it.1 h)))

pub version_one : (c : Catalogue) → Fits Two c → Fits (One 0) c ↔ IsOld c
version_one c (last, (ahm, (next, tables))) =
    let it = listed (FitsTable Two) (FitsTable (One 0)) IsOldTable (table 0) c.tables tables in
    (λ h. it.0 h.1.1.1, λ h. (last, (ahm, (next, it.1 h))))
