-- The projection that is read has the table's rows and the columns that the query uses.
use Rattle.std.proofs.Common.{◌≡◌, ℕ, zero, suc, Bool, true, false, cond, List, [], ◌∷◌, length, map, filter, get_or, ltb, Option, Some, refl, sym, ap, ◌∙◌, subst}
use Rattle.std.specs.Prelude.{◌&&◌, not, find, option_map}
use Rattle.std.specs.List.{All, list_all, slice_get}
use Rattle.std.proofs.lemmas.Bool.{OnTrue_at}
use Rattle.std.proofs.lemmas.List.Elements.{All-cons, All-filter, All-get_or, All-head, All-nil, All-tail}
use Rattle.std.proofs.lemmas.Option.{get_or_from_slice_get, slice_get-get_or, slice_get-map, slice_get_within}
use borrow.Author.Tests.{ltb-true}
use Rattle.common_laws.specs.Maps.{Contents}
use Rattle.catalog_types.specs.declared.catalogue.Table as kept
use Rattle.catalog_types.specs.declared.catalogue.Projection.{Projection}
use Rattle.sql_bound.specs.declared.query.FromItem.{FromItem}
use Rattle.sql_bound.specs.declared.query.BoundQuery.{BoundQuery}
use Rattle.db_model.specs.Database.{Database, Shape, Table, has_columns}
use Rattle.db_model.specs.Choice.{bounded_columns, chosen_for, is_narrower, is_sorted_by_one, or_all, within_item}
use Rattle.sql_bound.specs.Used.{used_columns}
use Rattle.stored_rows.specs.Stored.{Projected}
use Rattle.folder_model.specs.Projections.{shape_of, HasHistory, HasRows}
use Rattle.folder_model.specs.Tables.{AreDatabase, StandForTables, StandsForTable}
use Rattle.store_commit.specs.Seen.{Seen}
use Rattle.store_query.specs.Taking.{IsTaken}

-- ---- what the choice gives may serve

found_passes : (P test : Shape → Bool) (xs : List Shape) (s : Shape) → All (λ x. P x ≡ true) xs → find test xs ≡ Some s → P s ≡ true
found_passes P test [] s all is = absurd (cc)
found_passes P test (x ∷ xs) s all is = by (test x) (found_passes P test xs s (All-tail (λ y. P y ≡ true) x xs all)) is
  where
    by : (b : Bool) → (find test xs ≡ Some s → P s ≡ true) → cond b (Some x) (find test xs) ≡ Some s → P s ≡ true
    by true more is = let same : x ≡ s = cc in subst (λ (y : Shape). P y ≡ true) same (All-head (λ y. P y ≡ true) x xs all)
    by false more is = more is

filter_passes : (P : Shape → Bool) (xs : List Shape) → All (λ x. P x ≡ true) (filter P xs)
filter_passes P [] = All-nil (λ x. P x ≡ true)
filter_passes P (x ∷ xs) = by (P x) refl (filter_passes P xs)
  where
    by : (b : Bool) → P x ≡ b → All (λ y. P y ≡ true) (filter P xs) → All (λ y. P y ≡ true) (cond b (x ∷ filter P xs) (filter P xs))
    by true is more = All-cons (λ y. P y ≡ true) x (filter P xs) is more
    by false is more = more

some_or_all : (P : Shape → Bool) (some all : List Shape) → All (λ x. P x ≡ true) some → All (λ x. P x ≡ true) all → All (λ x. P x ≡ true) (or_all some all)
some_or_all P [] all first second = second
some_or_all P (x ∷ some) all first second = first

abbrev may : BoundQuery → FromItem → Shape → Bool
may q f s = s.fresh && has_columns s (within_item f (used_columns q))

chosen_may : (q : BoundQuery) (f : FromItem) (shapes : List Shape) (s : Shape) → chosen_for q f shapes ≡ Some s → may q f s ≡ true
chosen_may q f shapes s is =
    let serving = filter (may q f) shapes in
    let sorted = filter (is_sorted_by_one (within_item f (bounded_columns q))) serving in
    let xs = or_all sorted serving in
    let all : All (λ x. may q f x ≡ true) xs =
    some_or_all (may q f) sorted serving (All-filter (is_sorted_by_one (within_item f (bounded_columns q))) (λ x. may q f x ≡ true) serving (filter_passes (may q f) shapes)) (filter_passes (may q f) shapes) in
    found_passes (may q f) (λ x. list_all (λ other. not (is_narrower other x)) xs) xs s all is

-- ---- the table at a place

-- what a look at a place gave
pub got_at : {X : Type 0} (xs : List X) (i : ℕ) (x : X) → true ≡ ltb i (length xs) → x ≡ get_or xs i x → slice_get xs i ≡ Some x
got_at {X} xs i x within is = slice_get-get_or xs i x (ltb-true i (length xs) (sym within)) ∙ ap (λ (y : X). Some y) (sym is)

pub all_at : {X : Type 0} (P : X → Type 0) (xs : List X) (i : ℕ) (x : X) → All P xs → slice_get xs i ≡ Some x → P x
all_at P xs i x all is = subst P (get_or_from_slice_get xs i x x is) (All-get_or P xs i x (slice_get_within xs i x is) all)

stands_at : (m : Contents) (mark : ℕ) (ts : List kept.Table) (pss : List (List Projected)) (us : List Table) (i : ℕ) (t : kept.Table) (ps : List Projected) (u : Table) → StandForTables m mark ts pss us
    → slice_get ts i ≡ Some t → slice_get pss i ≡ Some ps → slice_get us i ≡ Some u → StandsForTable m mark t ps u
stands_at m mark [] pss us i t ps u stand it ips iu = absurd (cc)
stands_at m mark (x ∷ ts) [] us i t ps u stand it ips iu = absurd (cc)
stands_at m mark (x ∷ ts) (y ∷ pss) [] i t ps u stand it ips iu = absurd (cc)
stands_at m mark (x ∷ ts) (y ∷ pss) (z ∷ us) zero t ps u (here, more) it ips iu =
    let a : x ≡ t = cc in
    let b : y ≡ ps = cc in
    let c : z ≡ u = cc in
    subst (λ (v : Table). StandsForTable m mark t ps v) c (subst (λ (qs : List Projected). StandsForTable m mark t qs z) b (subst (λ (k : kept.Table). StandsForTable m mark k y z) a here))
stands_at m mark (x ∷ ts) (y ∷ pss) (z ∷ us) (suc i) t ps u (here, more) it ips iu = stands_at m mark ts pss us i t ps u more it ips iu

-- ---- the projection that is read

pub record Serves (m : Contents) (q : BoundQuery) (f : FromItem) (d : Database) (table : kept.Table) (t : Table) (p : Projected) : Type 0 where
  pub name : t.name ≡ table.name
  pub history : HasHistory m d.ahm t.rows p
  pub covers : has_columns (shape_of p.entry) (within_item f (used_columns q)) ≡ true

pub taken_serves : (m : Contents) (s : Seen) (q : BoundQuery) (f : FromItem) (d : Database) (t : Table) (p : Projected) (taken : IsTaken s q f p) → AreDatabase m s.catalogue s.stores d → slice_get d.tables f.table ≡ Some t
    → Serves m q f d taken.table t p
taken_serves m s q f d t p taken are is =
    let stands = stands_at m s.catalogue.ahm s.catalogue.tables s.stores d.tables f.table taken.table taken.stores t are.tables taken.there taken.beside is in
    let entry : slice_get taken.table.projections taken.place ≡ Some p.entry =
    sym (ap (λ (ps : List Projection). slice_get ps taken.place) stands.entries) ∙ slice_get-map (λ (x : Projected). x.entry) taken.stores taken.place
    ∙ ap (λ (o : Option Projected). option_map (λ (x : Projected). x.entry) o) taken.stored in
    let shape : slice_get (map shape_of taken.table.projections) taken.place ≡ Some (shape_of p.entry) =
    slice_get-map shape_of taken.table.projections taken.place ∙ ap (λ (o : Option Projection). option_map shape_of o) entry in
    let passes : (p.entry.fresh && has_columns (shape_of p.entry) (within_item f (used_columns q))) ≡ true = chosen_may q f (map shape_of taken.table.projections) (shape_of p.entry) (sym taken.chosen ∙ shape) in
    let rows : HasRows m s.catalogue.ahm t.rows p = all_at (HasRows m s.catalogue.ahm t.rows) taken.stores taken.place p stands.rows taken.stored in
    record {
      name = stands.name;
      history = subst (λ (n : ℕ). HasHistory m n t.rows p) (sym are.ahm) (OnTrue_at (left p.entry.fresh (has_columns (shape_of p.entry) (within_item f (used_columns q))) passes) rows.fresh);
      covers = right p.entry.fresh (has_columns (shape_of p.entry) (within_item f (used_columns q))) passes;
    }
  where
    left : (a b : Bool) → (a && b) ≡ true → a ≡ true
    left true b is = refl
    left false b is = is

    right : (a b : Bool) → (a && b) ≡ true → b ≡ true
    right true b is = is
    right false b is = absurd (cc)
