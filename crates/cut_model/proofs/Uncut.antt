-- A catalogue that goes past no epoch after that of its cut.
use Rattle.std.proofs.Common.{◌≡◌, ℕ, ◌≤◌, Bool, true, false, cond, List, [], ◌∷◌, length, refl, sym, ap, ◌∙◌, arith, subst}
use Rattle.std.specs.Prelude.{nat_lt, ◌&&◌}
use Rattle.std.specs.Bool.{OnTrue, OnFalse}
use Rattle.std.specs.List.{All, AllZip, list_any}
use Rattle.std.proofs.lemmas.Bool.{or_parts}
use Rattle.std.proofs.lemmas.Bool.Decides.{nat_tests}
use Rattle.std.proofs.lemmas.List.Elements.{All-head, All-tail, All-weaker}
use Rattle.common_laws.specs.Bags.{SameBag}
use Rattle.common_laws.specs.Maps.{Contents}
use Rattle.common_laws.proofs.BagLaws.{bag_refl}
use Rattle.col_value.specs.declared.row.Stamped.{Stamped}
use Rattle.row_history.specs.History.{retained}
use Rattle.catalog_types.specs.declared.catalogue.Container.{Container}
use Rattle.catalog_types.specs.declared.catalogue.Projection.{Projection}
use Rattle.catalog_types.specs.declared.catalogue.Table as kept
use Rattle.catalog_types.specs.declared.catalogue.Catalogue.{Catalogue}
use Rattle.catalog_types.specs.Parts.{IsContainer, IsProjection, IsTable}
use Rattle.catalog_types.specs.Valid.{IsValid}
use Rattle.catalog_types.specs.Reached.{least_lge, is_past}
use Rattle.db_model.specs.Database.{Shape}
use Rattle.folder_model.specs.Projections.{shape_of}
use Rattle.folder_model.proofs.LastGoods.{good_below}
use Rattle.cut_model.specs.Cut.{CutsRows, IsCutEntry, IsCutTable, IsCutRoot}
use Rattle.stored_rows.specs.Early.{EndsBy}
use Rattle.stored_rows.proofs.EarlyHeld.{entry_same}
use Rattle.cut_model.proofs.Least.{least_closed}

-- the files of an entry whose containers end by an epoch hold rows that a cut there leaves
pub rows_uncut : (m : Contents) (mark epoch : ℕ) (p : Projection) → All (EndsBy epoch) p.containers → CutsRows m m mark epoch p p
rows_uncut m mark epoch p ends = λ old held. (
  old,
  held,
  subst (λ (xs : List Stamped). SameBag (retained mark old) (retained mark xs)) (sym (entry_same m epoch p old ends held)) (bag_refl (retained mark old)),
)

abbrev with_lge : Shape → ℕ → Shape
with_lge s epoch = record s { lge = epoch }

nothing_there : (ks : List Container) → length ks ≡ 0 → ks ≡ []
nothing_there [] none = refl
nothing_there (k ∷ ks) none = absurd (omega (arith, none))

entry_uncut : (m : Contents) (c : Catalogue) (mark epoch : ℕ) (t : kept.Table) (p : Projection) → IsProjection c t p → (p.fresh ≡ true → epoch ≤ p.lge) → (p.fresh && nat_lt epoch p.lge) ≡ false
    → IsCutEntry m m mark epoch p p
entry_uncut m c mark epoch t p is good past = by p.fresh refl past is.stale
  where
    at : p.fresh ≡ true → (p.fresh && nat_lt epoch p.lge) ≡ false → p.lge ≡ epoch
    at fresh past =
        let from = good fresh in
        let test : nat_lt epoch p.lge ≡ false = sym (ap (λ (b : Bool). b && nat_lt epoch p.lge) fresh) ∙ past in
        grind (arith, nat_tests)

    ends : p.lge ≡ epoch → All (EndsBy epoch) p.containers
    ends same =
        All-weaker (IsContainer c.next (length p.columns) p.lge) (EndsBy epoch)
        (λ k h. let r = h.reached in let w = h.marked in (omega (arith, r, same), omega (arith, w, same))) p.containers is.containers

    by : (b : Bool) → p.fresh ≡ b → (p.fresh && nat_lt epoch p.lge) ≡ false → OnFalse b ((p.lge ≡ 0) × (p.born ≡ 0) × (length p.containers ≡ 0)) → IsCutEntry m m mark epoch p p
    by true fresh past stale =
        let same = at fresh past in
        record {
          shape = sym (ap (λ (b : Bool). cond b (record (shape_of p) { lge = epoch }) (shape_of p)) fresh ∙ ap (with_lge (shape_of p)) (sym same));
          rows = subst (λ (b : Bool). OnTrue b (CutsRows m m mark epoch p p)) (sym fresh) (rows_uncut m mark epoch p (ends same));
          stale = subst (λ (b : Bool). OnFalse b (p.containers ≡ [])) (sym fresh) tt;
          fewer = omega arith;
          born = refl;
        }
    by false fresh past stale = record {
      shape = sym (ap (λ (b : Bool). cond b (record (shape_of p) { lge = epoch }) (shape_of p)) fresh);
      rows = subst (λ (b : Bool). OnTrue b (CutsRows m m mark epoch p p)) (sym fresh) tt;
      stale = subst (λ (b : Bool). OnFalse b (p.containers ≡ [])) (sym fresh) (nothing_there p.containers stale.2);
      fewer = omega arith;
      born = refl;
    }

entries_uncut : (m : Contents) (c : Catalogue) (mark epoch : ℕ) (t : kept.Table) (ps : List Projection) → All (IsProjection c t) ps → All (λ p. p.fresh ≡ true → epoch ≤ p.lge) ps
    → list_any (λ p. p.fresh && nat_lt epoch p.lge) ps ≡ false → AllZip (IsCutEntry m m mark epoch) ps ps
entries_uncut m c mark epoch t [] is good past = tt
entries_uncut m c mark epoch t (p ∷ ps) is good past =
    let none = or_parts (p.fresh && nat_lt epoch p.lge) (list_any (λ q. q.fresh && nat_lt epoch q.lge) ps) past in (
      entry_uncut m c mark epoch t p (All-head (IsProjection c t) p ps is) (All-head (λ q. q.fresh ≡ true → epoch ≤ q.lge) p ps good) none.0,
      entries_uncut m c mark epoch t ps (All-tail (IsProjection c t) p ps is) (All-tail (λ q. q.fresh ≡ true → epoch ≤ q.lge) p ps good) none.1,
    )

tables_uncut : (m : Contents) (c : Catalogue) (mark epoch : ℕ) (ts : List kept.Table) → All (IsTable c) ts → All (λ t. All (λ p. p.fresh ≡ true → epoch ≤ p.lge) t.projections) ts
    → list_any (λ t. list_any (λ p. p.fresh && nat_lt epoch p.lge) t.projections) ts ≡ false → AllZip (IsCutTable m m mark epoch) ts ts
tables_uncut m c mark epoch [] is good past = tt
tables_uncut m c mark epoch (t ∷ ts) is good past =
    let none = or_parts (list_any (λ p. p.fresh && nat_lt epoch p.lge) t.projections) (list_any (λ u. list_any (λ p. p.fresh && nat_lt epoch p.lge) u.projections) ts) past in
    let here = All-head (IsTable c) t ts is in (
      record { name = refl; columns = refl; projections = entries_uncut m c mark epoch t t.projections here.projections (All-head (λ u. All (λ p. p.fresh ≡ true → epoch ≤ p.lge) u.projections) t ts good) none.0 },
      tables_uncut m c mark epoch ts (All-tail (IsTable c) t ts is) (All-tail (λ u. All (λ p. p.fresh ≡ true → epoch ≤ p.lge) u.projections) t ts good) none.1,
    )

pub root_uncut : (m : Contents) (c : Catalogue) → IsValid c → is_past c (least_lge c) ≡ false → IsCutRoot m m c c
root_uncut m c valid past =
    let e = least_lge c in
    let none = or_parts (nat_lt e c.last) (list_any (λ t. list_any (λ p. p.fresh && nat_lt e p.lge) t.projections) c.tables) past in
    record {
      last = let le = least_closed c valid in let test = none.0 in grind (arith, nat_tests);
      ahm = refl;
      tables = tables_uncut m c c.ahm e c.tables valid.tables (good_below c) none.1;
    }
