-- Places of columns.
use Rattle.std.proofs.Common.{◌≡◌, ℕ, suc, ◌+◌, ◌-◌, ◌^◌, ◌<◌, ◌++◌, Bool, true, false, cond, List, [], ◌∷◌, length, map, filter, get_or, Option, Some, None, refl, sym, ap, ◌∙◌, arith, subst}
use Rattle.std.specs.Prelude.{◌==◌, ◌&&◌, ◌||◌, ◌⊎◌, is_some, nat_le, nat_lt}
use Rattle.std.proofs.Common.{inl, inr}
use Rattle.std.specs.List.{list_all, list_any, position, position_from, slice_get}
use Rattle.std.specs.Option.{IfSome}
use Rattle.std.proofs.lemmas.Bool.{eqb-true}
use Rattle.std.proofs.lemmas.Bool.Decides.{nat_tests}
use Rattle.std.proofs.lemmas.Iterator.Adapters.{position_from-zero}
use Rattle.std.proofs.lemmas.List.{get_or_append_left, length-append}
use Rattle.std.proofs.lemmas.List.Elements.{All-from_get_or}
use Rattle.std.proofs.lemmas.Option.{slice_get_within}
use Rattle.std.proofs.Math.Seq.{get_or-append_seam}
use Rattle.catalog_types.specs.declared.catalogue.ProjColumn.{ProjColumn}
use Rattle.catalog_types.specs.declared.catalogue.Projection.{Projection}
use Rattle.col_value.specs.declared.kinds.Encoding.{Encoding}
use Rattle.sql_bound.specs.declared.query.FromItem.{FromItem}
use Rattle.sql_bound.specs.declared.query.BoundQuery.{BoundQuery}
use Rattle.db_model.specs.Database.{has_columns}
use Rattle.db_model.specs.Choice.{within_item}
use Rattle.sql_bound.specs.Used.{is_used, used_columns}
use Rattle.folder_model.specs.Projections.{ordinals, shape_of}
use Rattle.query_cover.specs.Seen.{ArePlaces}
use Rattle.store_query.specs.Placing.{ArePlacesOf, AreWithin, IsPlaceOf}

abbrev ordinals_of : List ProjColumn → List ℕ
ordinals_of ks = map (λ k. k.ordinal) ks

-- ---- the first column that stands for one of the table

-- a place behind the first i, where the column stands
abbrev StandsFrom : ℕ → ℕ → List ProjColumn → Option ℕ → Type 0
StandsFrom c i ks place = IfSome place (λ j. (k : ℕ) × (j ≡ i + k) × (slice_get (ordinals_of ks) k ≡ Some c))

stands_behind : (c i : ℕ) (k : ProjColumn) (ks : List ProjColumn) (place : Option ℕ) → StandsFrom c (i + 1) ks place → StandsFrom c i (k ∷ ks) place
stands_behind c i k ks None stands = tt
stands_behind c i k ks (Some j) (n, at, is) = (suc n, omega (arith, at), is)

first_stands : (c i : ℕ) (ks : List ProjColumn) → StandsFrom c i ks (position_from (λ k. k.ordinal == c) i ks)
first_stands c i [] = tt
first_stands c i (k ∷ ks) = by (k.ordinal == c) refl (first_stands c (i + 1) ks)
  where
    by : (b : Bool) → (k.ordinal == c) ≡ b → StandsFrom c (i + 1) ks (position_from (λ k. k.ordinal == c) (i + 1) ks)
        → StandsFrom c i (k ∷ ks) (cond b (Some i) (position_from (λ k. k.ordinal == c) (i + 1) ks))
    by true is more = (0, omega arith, ap (λ (n : ℕ). Some n) (eqb-true k.ordinal c is))
    by false is more = stands_behind c i k ks (position_from (λ k. k.ordinal == c) (i + 1) ks) more

first_found : (c i : ℕ) (ks : List ProjColumn) → list_any (λ o. o == c) (ordinals_of ks) ≡ true → is_some (position_from (λ k. k.ordinal == c) i ks) ≡ true
first_found c i [] has = absurd (cc)
first_found c i (k ∷ ks) has = by (k.ordinal == c) (first_found c (i + 1) ks) has
  where
    by : (b : Bool) → (list_any (λ o. o == c) (ordinals_of ks) ≡ true → is_some (position_from (λ k. k.ordinal == c) (i + 1) ks) ≡ true)
        → (b || list_any (λ o. o == c) (ordinals_of ks)) ≡ true → is_some (cond b (Some i) (position_from (λ k. k.ordinal == c) (i + 1) ks)) ≡ true
    by true more is = refl
    by false more is = more is

own_place : (c : ℕ) (ks : List ProjColumn) (place : Option ℕ) → StandsFrom c 0 ks place → IfSome place (λ i. slice_get (ordinals_of ks) i ≡ Some c)
own_place c ks None stands = tt
own_place c ks (Some j) (n, at, is) = let same : n ≡ j = omega (arith, at) in subst (λ (x : ℕ). slice_get (ordinals_of ks) x ≡ Some c) same is

pub place_first : (q : BoundQuery) (first : ℕ) (ks : List ProjColumn) (c : ℕ) (place : Option ℕ) → (first + c < 2 ^ 64 → is_used q (first + c) ≡ true) → place ≡ position (λ k. k.ordinal == c) ks
    → IsPlaceOf q first (ordinals_of ks) c place
place_first q first ks c place only is =
    let same : position_from (λ k. k.ordinal == c) 0 ks ≡ place = sym (position_from-zero (λ (k : ProjColumn). k.ordinal == c) ks) ∙ sym is in
    subst (λ (o : Option ℕ). IsPlaceOf q first (ordinals_of ks) c o) same
    (record { own = own_place c ks (position_from (λ k. k.ordinal == c) 0 ks) (first_stands c 0 ks); used = λ used has. first_found c 0 ks has; only = λ some fits. only fits })

-- ---- the places of all columns

pub places_none : (q : BoundQuery) (first : ℕ) (ordinals : List ℕ) (places : List (Option ℕ)) → places ≡ [] → ArePlacesOf q first 0 ordinals places
places_none q first ordinals places is = record { long = ap length is; each = λ c lt. absurd (omega (arith, lt)) }

pub places_next : (q : BoundQuery) (first i : ℕ) (ordinals : List ℕ) (now next : List (Option ℕ)) (place : Option ℕ) → next ≡ now ++ place ∷ [] → IsPlaceOf q first ordinals i place → ArePlacesOf q first i ordinals now
    → ArePlacesOf q first (i + 1) ordinals next
places_next q first i ordinals now next place is one are = record {
  long = ap length is ∙ length-append now (place ∷ []) ∙ ap (λ (n : ℕ). n + 1) are.long;
  each = λ c lt. subst (λ (ps : List (Option ℕ)). IsPlaceOf q first ordinals c (get_or ps c None)) (sym is) (by c (below c lt));
}
  where
    below : (c : ℕ) → c < i + 1 → (c < i) ⊎ (c ≡ i)
    below c lt = cases (nat_lt c i) refl
      where
        cases : (b : Bool) → nat_lt c i ≡ b → (c < i) ⊎ (c ≡ i)
        cases true is = let less : c < i = grind (arith, nat_tests) in inl less
        cases false is = let same : c ≡ i = grind (arith, nat_tests) in inr same

    by : (c : ℕ) → (c < i) ⊎ (c ≡ i) → IsPlaceOf q first ordinals c (get_or (now ++ place ∷ []) c None)
    by c (inl less) =
        let within : c < length now = omega (arith, less, are.long) in
        subst (λ (o : Option ℕ). IsPlaceOf q first ordinals c o) (sym (get_or_append_left now (place ∷ []) None c within)) (are.each c less)
    by c (inr same) =
        let here : length now ≡ c = are.long ∙ sym same in
        let at : get_or (now ++ place ∷ []) c None ≡ place = sym (ap (λ (n : ℕ). get_or (now ++ place ∷ []) n None) here) ∙ get_or-append_seam now place [] None in
        subst (λ (o : Option ℕ). IsPlaceOf q first ordinals c o) (sym at) (subst (λ (n : ℕ). IsPlaceOf q first ordinals n place) (sym same) one)

long_map : (ks : List ProjColumn) → length (ordinals_of ks) ≡ length ks
long_map [] = refl
long_map (k ∷ ks) = ap suc (long_map ks)

pub places_within : (q : BoundQuery) (first columns : ℕ) (ks : List ProjColumn) (places : List (Option ℕ)) → ArePlacesOf q first columns (ordinals_of ks) places → AreWithin (length ks) places
places_within q first columns ks places are = All-from_get_or (λ o. IfSome o (λ i. i < length ks)) places None (λ i lt. by i (get_or places i None) (are.each i (omega (arith, lt, are.long))).own)
  where
    by : (c : ℕ) (o : Option ℕ) → IfSome o (λ i. slice_get (ordinals_of ks) i ≡ Some c) → IfSome o (λ i. i < length ks)
    by c None is = tt
    by c (Some i) is = omega (arith, slice_get_within (ordinals_of ks) i c is, long_map ks)

-- ---- a projection that has the columns that are used

-- a column of a FROM item that is among some, passes a test that those pass
within_has : (f : FromItem) (c : ℕ) (test : ℕ → Bool) (us : List ℕ) → c < f.columns → list_any (λ u. u == f.first + c) us ≡ true → list_all test (within_item f us) ≡ true → test c ≡ true
within_has f c test [] lt has all = absurd (cc)
within_has f c test (u ∷ us) lt has all = by (u == f.first + c) refl has (within_has f c test us lt)
  where
    front : (b : Bool) → (b && list_all test (within_item f us)) ≡ true → b ≡ true
    front true is = refl
    front false is = is

    back : (k : Bool) → list_all test (map (λ (x : ℕ). x - f.first) (cond k (u ∷ filter (λ x. nat_le f.first x && nat_lt x (f.first + f.columns)) us) (filter (λ x. nat_le f.first x && nat_lt x (f.first + f.columns)) us))) ≡ true
        → list_all test (within_item f us) ≡ true
    back true is = behind (test (u - f.first)) is
      where
        behind : (b : Bool) → (b && list_all test (within_item f us)) ≡ true → list_all test (within_item f us) ≡ true
        behind true is = is
        behind false is = absurd (cc)
    back false is = is

    by : (b : Bool) → (u == f.first + c) ≡ b → (b || list_any (λ x. x == f.first + c) us) ≡ true
        → (list_any (λ x. x == f.first + c) us ≡ true → list_all test (within_item f us) ≡ true → test c ≡ true) → test c ≡ true
    by true is any more =
        let same : u ≡ f.first + c = eqb-true u (f.first + c) is in
        let inside : (nat_le f.first u && nat_lt u (f.first + f.columns)) ≡ true = grind (arith, nat_tests) in
        let listed : list_all test (map (λ (x : ℕ). x - f.first) (cond true (u ∷ filter (λ x. nat_le f.first x && nat_lt x (f.first + f.columns)) us) (filter (λ x. nat_le f.first x && nat_lt x (f.first + f.columns)) us))) ≡ true =
        subst (λ (k : Bool). list_all test (map (λ (x : ℕ). x - f.first) (cond k (u ∷ filter (λ x. nat_le f.first x && nat_lt x (f.first + f.columns)) us) (filter (λ x. nat_le f.first x && nat_lt x (f.first + f.columns)) us))) ≡ true) inside all in
        let at : u - f.first ≡ c = omega (arith, same) in
        sym (ap test at) ∙ front (test (u - f.first)) listed
    by false is any more = more any (back (nat_le f.first u && nat_lt u (f.first + f.columns)) all)

any_shape : (c : ℕ) (ks : List ProjColumn) → list_any (λ (k : ℕ × Encoding). k.0 == c) (map (λ k. (k.ordinal, k.encoding)) ks) ≡ list_any (λ o. o == c) (ordinals_of ks)
any_shape c [] = refl
any_shape c (k ∷ ks) = ap (λ (b : Bool). (k.ordinal == c) || b) (any_shape c ks)

pub places_cover : (q : BoundQuery) (f : FromItem) (p : Projection) (places : List (Option ℕ)) → has_columns (shape_of p) (within_item f (used_columns q)) ≡ true → ArePlacesOf q f.first f.columns (ordinals p) places
    → ArePlaces q f.first f.columns (ordinals p) places
places_cover q f p places covers are = record {
  long = are.long;
  own = λ c lt. (are.each c lt).own;
  used = λ c lt used.
      (are.each c lt).used used (sym (any_shape c p.columns) ∙ within_has f c (λ i. list_any (λ (k : ℕ × Encoding). k.0 == i) (shape_of p).columns) (used_columns q) lt used covers);
}
