-- The epochs of rows that are judged.
use Rattle.std.proofs.Common.{◌≡◌, ◌≤◌, ◌<◌, ℕ, ◌+◌, List, [], ◌∷◌, map, filter, Bool, true, false, cond, refl, sym, arith, subst}
use Rattle.std.specs.Prelude.{nat_le, Option, Some, None, IfSome}
use Rattle.std.specs.List.{All}
use Rattle.std.proofs.lemmas.Bool.Decides.{nat_tests}
use Rattle.std.proofs.lemmas.List.Elements.{All-nil, All-cons, All-head, All-tail, All-append, All-filter, All-map}
use Rattle.common_laws.specs.Maps.{Contents}
use Rattle.catalog_types.specs.declared.catalogue.Container.{Container}
use Rattle.catalog_types.specs.declared.catalogue.Projection.{Projection}
use Rattle.catalog_types.specs.declared.catalogue.Table.{Table}
use Rattle.catalog_types.specs.declared.catalogue.Catalogue.{Catalogue}
use Rattle.catalog_types.specs.Parts.{IsContainer}
use Rattle.catalog_types.specs.Reached.{least_lge}
use Rattle.col_value.specs.declared.row.Asked.{Asked}
use Rattle.col_value.specs.declared.row.Stamped.{Stamped}
use Rattle.db_model.specs.Sound.{HasEpochs}
use Rattle.ros_container.specs.Encodings.{Written}
use Rattle.ros_container.specs.Rows.{AreWithin, IsWithin}
use Rattle.row_history.specs.History.{cut_delete, cut_row, cut_rows, is_retained}
use Rattle.stored_rows.specs.Held.{HoldsRows, stamped_from}
use Rattle.audit_model.specs.Rows.{judged, IsGoodRow}

abbrev IsLate : Stamped → Type 0
IsLate s = 1 ≤ s.ins

stamped_late : (k : Container) (i : ℕ) (mark : ℕ → Option ℕ) (rows : List Asked) → 1 ≤ k.least_epoch → AreWithin k rows → All IsLate (stamped_from i mark rows)
stamped_late k i mark [] least within = All-nil IsLate
stamped_late k i mark (a ∷ rows) least within =
    let here = (All-head (λ b. IsWithin k b.ins) a rows within).0 in
    All-cons IsLate (record { row = a.row; ins = a.ins; del = mark i }) (stamped_from (i + 1) mark rows) (omega (arith, least, here))
    (stamped_late k (i + 1) mark rows least (All-tail (λ b. IsWithin k b.ins) a rows within))

pub rows_late : (m : Contents) (written : List Written) (next columns lge : ℕ) (ks : List Container) (held : List Stamped) → All (IsContainer next columns lge) ks → HoldsRows m written ks held → All IsLate held
rows_late m written next columns lge [] held are holds = subst (All IsLate) (sym holds) (All-nil IsLate)
rows_late m written next columns lge (k ∷ ks) held are (marks, here, more, vector, (asked, container, is), rest, joined) =
    let front : All IsLate here = subst (All IsLate) (sym is) (stamped_late k 0 _ asked (All-head (IsContainer next columns lge) k ks are).least container.within) in
    subst (All IsLate) (sym joined) (All-append IsLate here more front (rows_late m written next columns lge ks more (All-tail (IsContainer next columns lge) k ks are) rest))

-- what a cut leaves is up to its epoch
abbrev UpTo : ℕ → Stamped → Type 0
UpTo epoch s = (s.ins ≤ epoch) × IfSome s.del (λ d. d ≤ epoch)

delete_upto : (epoch : ℕ) (del : Option ℕ) → IfSome (cut_delete epoch del) (λ d. d ≤ epoch)
delete_upto epoch None = tt
delete_upto epoch (Some d) = by (nat_le d epoch) refl
  where
    by : (b : Bool) → nat_le d epoch ≡ b → IfSome (cond b (Some d) None) (λ x. x ≤ epoch)
    by true is = grind (arith, nat_tests)
    by false is = tt

cut_upto : (epoch : ℕ) (rows : List Stamped) → All (UpTo epoch) (cut_rows epoch rows)
cut_upto epoch [] = All-nil (UpTo epoch)
cut_upto epoch (s ∷ rows) = by (nat_le s.ins epoch) refl (cut_upto epoch rows)
  where
    within : (a e : ℕ) → nat_le a e ≡ true → a ≤ e
    within a e is = grind (arith, nat_tests)

    by : (b : Bool) → nat_le s.ins epoch ≡ b → All (UpTo epoch) (cut_rows epoch rows) → All (UpTo epoch) (map (cut_row epoch) (cond b (s ∷ filter (λ x. nat_le x.ins epoch) rows) (filter (λ x. nat_le x.ins epoch) rows)))
    by true is rest = All-cons (UpTo epoch) (cut_row epoch s) (cut_rows epoch rows) (within s.ins epoch is, delete_upto epoch s.del) rest
    by false is rest = rest

cut_late : (epoch : ℕ) (rows : List Stamped) → All IsLate rows → All IsLate (cut_rows epoch rows)
cut_late epoch rows all = All-map IsLate (cut_row epoch) (filter (λ s. nat_le s.ins epoch) rows) (All-filter (λ s. nat_le s.ins epoch) IsLate rows all)

both_bounds : (ins epoch : ℕ) (del : Option ℕ) → IfSome del (λ d. ins < d) → IfSome del (λ d. d ≤ epoch) → IfSome del (λ d. (ins < d) × (d ≤ epoch))
both_bounds ins epoch None later closed = tt
both_bounds ins epoch (Some d) later closed = (later, closed)

pub judged_epochs : (c : Catalogue) (t : Table) (p : Projection) (held : List Stamped) → All IsLate held → All (IsGoodRow t p) (judged c held) → All (HasEpochs (least_lge c)) (judged c held)
judged_epochs c t p held late good = λ k d lt.
    let up = All-filter (is_retained c.ahm) (UpTo (least_lge c)) (cut_rows (least_lge c) held) (cut_upto (least_lge c) held) k d lt in
    record {
      first = All-filter (is_retained c.ahm) IsLate (cut_rows (least_lge c) held) (cut_late (least_lge c) held late) k d lt;
      inserted = up.0;
      deleted = both_bounds _ (least_lge c) _ (good k d lt).later up.1;
    }
