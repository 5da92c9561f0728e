-- The rows of a projection and those of its containers.
use Rattle.std.proofs.Common.{◌≡◌, ◌++◌, List, [], ◌∷◌, refl, sym, ap, ◌∙◌, subst}
use Rattle.std.specs.List.{All}
use Rattle.std.proofs.lemmas.List.Elements.{All-nil, All-cons, All-head, All-tail, All-append, filter-append}
use Rattle.common_laws.specs.Maps.{Contents}
use Rattle.catalog_types.specs.declared.catalogue.Container.{Container}
use Rattle.catalog_types.specs.declared.catalogue.Projection.{Projection}
use Rattle.catalog_types.specs.declared.catalogue.Table.{Table}
use Rattle.catalog_types.specs.declared.catalogue.Catalogue.{Catalogue}
use Rattle.catalog_types.specs.Reached.{least_lge}
use Rattle.col_value.specs.declared.row.Stamped.{Stamped}
use Rattle.ros_container.specs.Encodings.{written_of}
use Rattle.row_history.specs.History.{cut_rows, retained, is_retained}
use Rattle.row_history.proofs.Histories.{cut_append}
use Rattle.stored_rows.specs.Held.{HoldsRows}
use Rattle.audit_model.specs.Rows.{judged, HoldsHere, IsGood, IsGoodRow}
use Rattle.audit_model.proofs.Lists.{all_left, all_right}

-- a container's files hold rows that all have Q
abbrev pub HasHere : Contents → Projection → (Stamped → Type 0) → Container → Type 0
HasHere m p Q k = (rows : List Stamped) × HoldsHere m p k rows × All Q rows

pub joined : (m : Contents) (p : Projection) (Q : Stamped → Type 0) (ks : List Container) → All (HasHere m p Q) ks → (held : List Stamped) × HoldsRows m (written_of p) ks held × All Q held
joined m p Q [] all = ([], refl, All-nil Q)
joined m p Q (k ∷ ks) all = by (All-head (HasHere m p Q) k ks all) (joined m p Q ks (All-tail (HasHere m p Q) k ks all))
  where
    by : HasHere m p Q k → (held : List Stamped) × HoldsRows m (written_of p) ks held × All Q held → (held : List Stamped) × HoldsRows m (written_of p) (k ∷ ks) held × All Q held
    by (here, (marks, vector, marked), good) (more, rest, others) = (here ++ more, (marks, here, more, vector, marked, rest, refl), All-append Q here more good others)

pub apart : (m : Contents) (p : Projection) (Q : Stamped → Type 0) (ks : List Container) (held : List Stamped) → HoldsRows m (written_of p) ks held → All Q held → All (HasHere m p Q) ks
apart m p Q [] held holds all = All-nil (HasHere m p Q)
apart m p Q (k ∷ ks) held (marks, here, more, vector, marked, rest, is) all =
    let both : All Q (here ++ more) = subst (All Q) is all in
    All-cons (HasHere m p Q) k ks (here, (marks, vector, marked), all_left Q here more both) (apart m p Q ks more rest (all_right Q here more both))

-- ---- what is judged, row by row

pub judged_append : (c : Catalogue) (xs ys : List Stamped) → judged c (xs ++ ys) ≡ judged c xs ++ judged c ys
judged_append c xs ys = ap (retained c.ahm) (cut_append (least_lge c) xs ys) ∙ filter-append (is_retained c.ahm) (cut_rows (least_lge c) xs) (cut_rows (least_lge c) ys)

pub each_judged : (c : Catalogue) (t : Table) (p : Projection) (rows : List Stamped) → All (IsGood c t p) rows → All (IsGoodRow t p) (judged c rows)
each_judged c t p [] all = All-nil (IsGoodRow t p)
each_judged c t p (s ∷ rows) all =
    subst (All (IsGoodRow t p)) (sym (judged_append c (s ∷ []) rows))
    (All-append (IsGoodRow t p) (judged c (s ∷ [])) (judged c rows) (All-head (IsGood c t p) s rows all) (each_judged c t p rows (All-tail (IsGood c t p) s rows all)))

pub judged_each : (c : Catalogue) (t : Table) (p : Projection) (rows : List Stamped) → All (IsGoodRow t p) (judged c rows) → All (IsGood c t p) rows
judged_each c t p [] all = All-nil (IsGood c t p)
judged_each c t p (s ∷ rows) all =
    let both : All (IsGoodRow t p) (judged c (s ∷ []) ++ judged c rows) = subst (All (IsGoodRow t p)) (judged_append c (s ∷ []) rows) all in
    All-cons (IsGood c t p) s rows (all_left (IsGoodRow t p) (judged c (s ∷ [])) (judged c rows) both)
    (judged_each c t p rows (all_right (IsGoodRow t p) (judged c (s ∷ [])) (judged c rows) both))
