-- What is found among joined places.
use Rattle.std.proofs.Common.{◌≡◌, ℕ, ◌+◌, ◌<◌, ◌≤◌, ◌++◌, List, [], ◌∷◌, length, get_or, map, drop, refl, sym, ap, ◌∙◌, subst, arith}
use Rattle.std.specs.Prelude.{Option, Some, None}
use Rattle.std.specs.List.{All, flat_map}
use Rattle.std.proofs.lemmas.List.{drop_more, drop_all}
use Rattle.std.proofs.lemmas.List.Elements.{All-nil, All-cons, All-append}
use Rattle.std.proofs.lemmas.Grind.{flat_map-append}
use Rattle.common_laws.specs.Maps.{Contents}
use Rattle.catalog_types.specs.Reached.{least_lge}
use Rattle.catalog_types.specs.declared.catalogue.Catalogue.{Catalogue}
use Rattle.catalog_types.specs.declared.catalogue.Container.{Container}
use Rattle.catalog_types.specs.declared.catalogue.Projection.{Projection}
use Rattle.catalog_types.specs.declared.catalogue.Table.{Table}
use Rattle.col_value.specs.declared.row.Stamped.{Stamped}
use Rattle.audit_model.specs.Judging.{JudgesRows}
use Rattle.audit_model.specs.Listed.{Place, place, places_of, parts, file, files_in, IsSpelled}
use Rattle.audit_model.specs.Rows.{HoldsHere, IsGoodIn, IsGoodPlaceIn}
use Rattle.audit_model.specs.declared.verdict.Verdict.{Verdict}
use Rattle.audit_model.specs.declared.verdict.Verdict.TheVariants.{Yes, File as Damaged, BadRow, Differ}
use Rattle.audit_model.proofs.Building.{here_held}
use Rattle.audit_model.proofs.Lists.{all_left, all_right, all_unmapped, first_lacks}
use Rattle.audit_rows.specs.Blocks.{BlamesHere}
use Rattle.audit_rows.specs.Found.{Ahead, AreSpelled, Finds, FindsRow, IsBadOf}
use Rattle.audit_rows.proofs.Finding.{first_left, first_right}
use Rattle.col_disk.specs.declared.disk.StoreFault.{StoreFault}
use Rattle.col_disk.specs.declared.disk.StoreFault.TheVariants as fault

spelled_left : (m : Contents) (xs ys : List Place) → AreSpelled m (xs ++ ys) → AreSpelled m xs
spelled_left m xs ys all = all_left (IsSpelled m) (flat_map files_in xs) (flat_map files_in ys) (subst (All (IsSpelled m)) (flat_map-append files_in xs ys) all)

spelled_right : (m : Contents) (xs ys : List Place) → AreSpelled m (xs ++ ys) → AreSpelled m ys
spelled_right m xs ys all = all_right (IsSpelled m) (flat_map files_in xs) (flat_map files_in ys) (subst (All (IsSpelled m)) (flat_map-append files_in xs ys) all)

bad_left : (m : Contents) (epoch mark : ℕ) (xs ys : List Place) (v : Verdict) → IsBadOf m epoch mark xs v → IsBadOf m epoch mark (xs ++ ys) v
bad_left m epoch mark xs ys (Yes last ahm) bad = bad
bad_left m epoch mark xs ys (Damaged name) bad = bad
bad_left m epoch mark xs ys (BadRow table projection base pos) bad = record {
  at = bad.at;
  first = first_left (IsGoodPlaceIn m epoch mark) xs ys bad.at bad.first;
  rows = bad.rows;
  held = bad.held;
  row = bad.row;
  bad = bad.bad;
  table_is = bad.table_is;
  projection_is = bad.projection_is;
  base_is = bad.base_is;
  pos_is = bad.pos_is;
}
bad_left m epoch mark xs ys (Differ table first second first_count second_count row) bad = bad

bad_right : (m : Contents) (epoch mark : ℕ) (xs ys : List Place) (v : Verdict) → All (IsGoodPlaceIn m epoch mark) xs → IsBadOf m epoch mark ys v → IsBadOf m epoch mark (xs ++ ys) v
bad_right m epoch mark xs ys (Yes last ahm) all bad = bad
bad_right m epoch mark xs ys (Damaged name) all bad = bad
bad_right m epoch mark xs ys (BadRow table projection base pos) all bad = record {
  at = bad.at;
  first = first_right (IsGoodPlaceIn m epoch mark) xs ys bad.at all bad.first;
  rows = bad.rows;
  held = bad.held;
  row = bad.row;
  bad = bad.bad;
  table_is = bad.table_is;
  projection_is = bad.projection_is;
  base_is = bad.base_is;
  pos_is = bad.pos_is;
}
bad_right m epoch mark xs ys (Differ table first second first_count second_count row) all bad = bad

finds_left : (now found : Option Contents) (epoch mark : ℕ) (xs ys : List Place) (v : Verdict) → now ≡ found → Finds now epoch mark xs (Some v) → Finds found epoch mark (xs ++ ys) (Some v)
finds_left now found epoch mark xs ys v same finds = λ m told all. bad_left m epoch mark xs ys v (finds m (same ∙ told) (spelled_left m xs ys all))

finds_right : (now found : Option Contents) (epoch mark : ℕ) (xs ys : List Place) (r : Option Verdict) → now ≡ found → Finds now epoch mark xs None → Finds found epoch mark ys r → Finds found epoch mark (xs ++ ys) r
finds_right now found epoch mark xs ys None same none finds = λ m told all.
    All-append (IsGoodPlaceIn m epoch mark) xs ys (none m (same ∙ told) (spelled_left m xs ys all)) (finds m told (spelled_right m xs ys all))
finds_right now found epoch mark xs ys (Some v) same none finds = λ m told all.
    bad_right m epoch mark xs ys v (none m (same ∙ told) (spelled_left m xs ys all)) (finds m told (spelled_right m xs ys all))

-- ---- the parts of a list, one after the other

pub ahead_more : {X : Type 0} (f : X → List Place) (now found : Option Contents) (epoch mark : ℕ) (all : List Place) (xs : List X) (i : ℕ) (x : X) → now ≡ found → i < length xs → x ≡ get_or xs i x
    → Ahead found epoch mark (flat_map f (drop i xs)) all → (q : Option Verdict) → q ≡ None → Finds now epoch mark (f x) q → Ahead found epoch mark (flat_map f (drop (i + 1) xs)) all
ahead_more f now found epoch mark all xs i x same lt at ahead q nothing finds r rest =
    ahead r
    (subst (λ (ys : List _). Finds found epoch mark (flat_map f ys) r) (sym (drop_more xs i x lt ∙ ap (λ (y : _). y ∷ drop (i + 1) xs) (sym at)))
    (finds_right now found epoch mark (f x) (flat_map f (drop (i + 1) xs)) r same (subst (λ (o : Option Verdict). Finds now epoch mark (f x) o) nothing finds) rest))

pub ahead_here : {X : Type 0} (f : X → List Place) (now found : Option Contents) (epoch mark : ℕ) (all : List Place) (xs : List X) (i : ℕ) (x : X) (v : Verdict) → now ≡ found → i < length xs → x ≡ get_or xs i x
    → Ahead found epoch mark (flat_map f (drop i xs)) all → (q : Option Verdict) → q ≡ Some v → Finds now epoch mark (f x) q → Finds found epoch mark all (Some v)
ahead_here f now found epoch mark all xs i x v same lt at ahead q one finds =
    ahead (Some v)
    (subst (λ (ys : List _). Finds found epoch mark (flat_map f ys) (Some v)) (sym (drop_more xs i x lt ∙ ap (λ (y : _). y ∷ drop (i + 1) xs) (sym at)))
    (finds_left now found epoch mark (f x) (flat_map f (drop (i + 1) xs)) v same (subst (λ (o : Option Verdict). Finds now epoch mark (f x) o) one finds)))

pub ahead_all : {X : Type 0} (f : X → List Place) (found : Option Contents) (epoch mark : ℕ) (all : List Place) (xs : List X) (i : ℕ) → length xs ≤ i
    → Ahead found epoch mark (flat_map f (drop i xs)) all → Finds found epoch mark all None
ahead_all f found epoch mark all xs i past ahead =
    ahead None (subst (λ (ys : List _). Finds found epoch mark (flat_map f ys) None) (sym (drop_all i xs past)) (λ m told spelled. All-nil (IsGoodPlaceIn m epoch mark)))

pub ahead_none : {X : Type 0} (f : X → List Place) (found : Option Contents) (epoch mark : ℕ) (all : List Place) (xs ys : List X) → xs ≡ ys → flat_map f ys ≡ all → Ahead found epoch mark (flat_map f (drop 0 xs)) all
ahead_none f found epoch mark all xs ys same is r finds = subst (λ (ps : List Place). Finds found epoch mark ps r) (ap (flat_map f) same ∙ is) finds

abbrev pub only : Table → Projection → Container → List Place
only t p k = place t p k ∷ []

pub singles : (t : Table) (p : Projection) (ks : List Container) → flat_map (only t p) ks ≡ map (place t p) ks
singles t p [] = refl
singles t p (k ∷ ks) = ap (λ (xs : List Place). place t p k ∷ xs) (singles t p ks)

-- ---- a container

held : (m : Contents) (t : Table) (p : Projection) (k : Container) → k.stored ≤ length p.columns → AreSpelled m (place t p k ∷ []) → (rows : List Stamped) × HoldsHere m p k rows
held m t p k most all = here_held m p k most (all_unmapped (IsSpelled m) (file p k) (parts k) (all_left (IsSpelled m) (map (file p k) (parts k)) [] all))

pub all_good : (holds : Option Contents) (epoch mark : ℕ) (t : Table) (p : Projection) (k : Container) → k.stored ≤ length p.columns → (q : Option ℕ) → q ≡ None → FindsRow holds epoch mark t p k q → Finds holds epoch mark (place t p k ∷ []) None
all_good holds epoch mark t p k most q nothing found = λ m told all.
    let finds = subst (λ (o : Option ℕ). FindsRow holds epoch mark t p k o) nothing found in
    let here = held m t p k most all in
    All-cons (IsGoodPlaceIn m epoch mark) (place t p k) [] (here.0, here.1, finds m told here.0 here.1) (All-nil (IsGoodPlaceIn m epoch mark))

pub first_bad : (holds : Option Contents) (epoch mark : ℕ) (t : Table) (p : Projection) (k : Container) (pos : ℕ) → k.stored ≤ length p.columns → (q : Option ℕ) → q ≡ Some pos → FindsRow holds epoch mark t p k q
    → Finds holds epoch mark (place t p k ∷ []) (Some (BadRow t.name p.name k.base pos))
first_bad holds epoch mark t p k pos most q one found = λ m told all.
    let finds = subst (λ (o : Option ℕ). FindsRow holds epoch mark t p k o) one found in
    let here = held m t p k most all in
    let row = finds m told here.0 here.1 in
    record {
      at = place t p k;
      first = record {
        before = [];
        after = [];
        is = refl;
        good = All-nil (IsGoodPlaceIn m epoch mark);
        bad = λ good. let also = finds m told good.0 good.1 in first_lacks (IsGoodIn epoch mark t p) good.0 also.item also.is good.2;
      };
      rows = here.0;
      held = here.1;
      row = row.item;
      bad = row.is;
      table_is = refl;
      projection_is = refl;
      base_is = refl;
      pos_is = omega (arith, row.pos_is);
    }

pub not_damaged : (holds : Option Contents) (epoch mark : ℕ) (t : Table) (p : Projection) (k : Container) (name : ℕ) → k.stored ≤ length p.columns → (f : StoreFault) → f ≡ fault.Damaged name → BlamesHere holds p k f → Finds holds epoch mark (place t p k ∷ []) (Some (Damaged name))
not_damaged holds epoch mark t p k name most f is blamed = λ m told all.
    let blames = subst (BlamesHere holds p k) is blamed in
    let here = held m t p k most all in
    blames m told here.0 here.1

-- ---- a catalogue

pub judges : (holds : Option Contents) (c : Catalogue) (r : Option Verdict) → Finds holds (least_lge c) c.ahm (flat_map places_of c.tables) r → JudgesRows holds c r
judges holds c None finds = finds
judges holds c (Some (Yes last ahm)) finds = λ m told all. absurd (finds m told all)
judges holds c (Some (Damaged name)) finds = λ m told all. absurd (finds m told all)
judges holds c (Some (BadRow table projection base pos)) finds = λ m told all.
    let bad = finds m told all in
    record {
      files = all;
      at = bad.at;
      first = bad.first;
      rows = bad.rows;
      held = bad.held;
      row = bad.row;
      bad = bad.bad;
      table_is = bad.table_is;
      projection_is = bad.projection_is;
      base_is = bad.base_is;
      pos_is = bad.pos_is;
    }
judges holds c (Some (Differ table first second first_count second_count row)) finds = λ m told all. absurd (finds m told all)

pub verdict_is : (holds : Option Contents) (epoch mark : ℕ) (t : Table) (p : Projection) (k : Container) (pos : ℕ) (v : Verdict) → v ≡ BadRow t.name p.name k.base pos
    → Finds holds epoch mark (place t p k ∷ []) (Some (BadRow t.name p.name k.base pos)) → Finds holds epoch mark (place t p k ∷ []) (Some v)
verdict_is holds epoch mark t p k pos v is finds = subst (λ (w : Verdict). Finds holds epoch mark (place t p k ∷ []) (Some w)) (sym is) finds
