-- The choice.
use Rattle.std.proofs.Common.{◌≡◌, ℕ, zero, suc, ◌<◌, ◌+◌, arith, get_or, drop, Bool, true, false, cond, List, [], ◌∷◌, length, map, filter, Option, Some, None, refl, sym, ap, ap₂, ◌∙◌, subst}
use Rattle.std.specs.Prelude.{◌&&◌, option_map, option_and_then}
use Rattle.std.specs.List.{slice_get}
use Rattle.std.proofs.lemmas.List.{drop_more}
use Rattle.std.proofs.lemmas.Option.{slice_get-map}
use Rattle.col_value.specs.declared.kinds.Encoding.{Encoding}
use Rattle.catalog_types.specs.declared.catalogue.ProjColumn.{ProjColumn}
use Rattle.catalog_types.specs.declared.catalogue.Projection.{Projection}
use Rattle.sql_bound.specs.declared.query.FromItem.{FromItem}
use Rattle.sql_bound.specs.declared.query.BoundQuery.{BoundQuery}
use Rattle.db_model.specs.Database.{Shape, has_columns}
use Rattle.db_model.specs.Choice.{bounded_columns, within_item, is_sorted_by_one, first_sorted, narrowest, or_all, chosen_for}
use Rattle.sql_bound.specs.Used.{used_columns}
use Rattle.folder_model.specs.Projections.{shape_of}
use Rattle.plan_choice.specs.Choosing.{serves, is_candidate, is_better, best_from}
use Rattle.plan_choice.proofs.Covered.{query_has}
use Rattle.plan_choice.proofs.Bounded.{sorted_well}
use Rattle.plan_choice.proofs.Narrowest.{best_narrowest, some_narrowest}

abbrev may : BoundQuery → FromItem → Shape → Bool
may q f s = s.fresh && has_columns s (within_item f (used_columns q))

abbrev well : BoundQuery → FromItem → Shape → Bool
well q f s = is_sorted_by_one (within_item f (bounded_columns q)) s

serves_is : (q : BoundQuery) (f : FromItem) (p : Projection) → serves q f p ≡ may q f (shape_of p)
serves_is q f p = ap (λ (b : Bool). p.fresh && b) (query_has f q p)

any_is : (q : BoundQuery) (f : FromItem) (p : Projection) → is_candidate q f false p ≡ may q f (shape_of p)
any_is q f p = right (serves q f p) ∙ serves_is q f p
  where
    right : (b : Bool) → (b && true) ≡ b
    right true = refl
    right false = refl

well_is : (q : BoundQuery) (f : FromItem) (p : Projection) → is_candidate q f true p ≡ (may q f (shape_of p) && well q f (shape_of p))
well_is q f p = ap₂ (λ (a b : Bool). a && b) (serves_is q f p) (sorted_well q f p)

filter_both : (p q : Shape → Bool) (xs : List Shape) → filter q (filter p xs) ≡ filter (λ s. p s && q s) xs
filter_both p q [] = refl
filter_both p q (x ∷ xs) = by (p x) (filter_both p q xs)
  where
    by : (b : Bool) → filter q (filter p xs) ≡ filter (λ s. p s && q s) xs → filter q (cond b (x ∷ filter p xs) (filter p xs)) ≡ cond (b && q x) (x ∷ filter (λ s. p s && q s) xs) (filter (λ s. p s && q s) xs)
    by true rest = ap (λ (ys : List Shape). cond (q x) (x ∷ ys) ys) rest
    by false rest = rest

-- the projections that may serve, and of these those that are sorted well
abbrev some : BoundQuery → FromItem → List Projection → List Shape
some q f ps = filter (well q f) (filter (may q f) (map shape_of ps))

well_narrowest : (q : BoundQuery) (f : FromItem) (ps : List Projection) → option_map shape_of (best_from (is_candidate q f true) None ps) ≡ narrowest (some q f ps)
well_narrowest q f ps =
    best_narrowest (is_candidate q f true) (λ s. may q f s && well q f s) (well_is q f) ps ∙ ap narrowest (sym (filter_both (may q f) (well q f) (map shape_of ps)))

mapped : (ps : List Projection) (r : Option ℕ) → option_and_then (slice_get (map shape_of ps)) r ≡ option_map shape_of (option_and_then (slice_get ps) r)
mapped ps None = refl
mapped ps (Some i) = slice_get-map shape_of ps i

-- a place was found among those that are sorted well
pub found_well : (q : BoundQuery) (f : FromItem) (ps : List Projection) (i : ℕ) → i < length ps → option_and_then (slice_get ps) (Some i) ≡ best_from (is_candidate q f true) None ps
    → option_and_then (slice_get (map shape_of ps)) (Some i) ≡ chosen_for q f (map shape_of ps)
found_well q f ps i lt is = mapped ps (Some i) ∙ ap (option_map shape_of) is ∙ well_narrowest q f ps ∙ by (some q f ps) none
  where
    there : (xs : List Projection) (k : ℕ) → k < length xs → slice_get xs k ≡ None → ⊥
    there [] k within gone = omega (arith, within)
    there (x ∷ xs) zero within gone = cc
    there (x ∷ xs) (suc k) within gone = there xs k (omega (arith, within)) gone

    none : narrowest (some q f ps) ≡ None → ⊥
    none e = there ps i lt (is ∙ unmapped (best_from (is_candidate q f true) None ps) (well_narrowest q f ps ∙ e))
      where
        unmapped : (o : Option Projection) → option_map shape_of o ≡ None → o ≡ None
        unmapped None h = refl
        unmapped (Some p) h = absurd (cc)

    by : (xs : List Shape) → (narrowest xs ≡ None → ⊥) → narrowest xs ≡ narrowest (or_all xs (filter (may q f) (map shape_of ps)))
    by [] h = absurd (h refl)
    by (x ∷ xs) h = refl

-- none was, so any that may serve
pub found_any : (q : BoundQuery) (f : FromItem) (ps : List Projection) (r : Option ℕ) → None ≡ best_from (is_candidate q f true) None ps
    → option_and_then (slice_get ps) r ≡ best_from (is_candidate q f false) None ps
    → option_and_then (slice_get (map shape_of ps)) r ≡ chosen_for q f (map shape_of ps)
found_any q f ps r none is =
    mapped ps r ∙ ap (option_map shape_of) is ∙ best_narrowest (is_candidate q f false) (may q f) (any_is q f) ps
    ∙ by (some q f ps) (sym (well_narrowest q f ps) ∙ ap (option_map shape_of) (sym none))
  where
    by : (xs : List Shape) → narrowest xs ≡ None → narrowest (filter (may q f) (map shape_of ps)) ≡ narrowest (or_all xs (filter (may q f) (map shape_of ps)))
    by [] h = refl
    by (x ∷ xs) h = absurd (some_narrowest x xs h)

-- ---- the column by which a projection is sorted first

ordinal_is : (columns : List ProjColumn) (i : ℕ) → option_map (λ k. k.ordinal) (slice_get columns i) ≡ option_and_then (λ (c : ℕ × Encoding). Some c.0) (slice_get (map (λ k. (k.ordinal, k.encoding)) columns) i)
ordinal_is [] i = refl
ordinal_is (k ∷ columns) zero = refl
ordinal_is (k ∷ columns) (suc i) = ordinal_is columns i

pub sorted_first : (p : Projection) (i : ℕ) → slice_get p.sort 0 ≡ Some i → option_map (λ k. k.ordinal) (slice_get p.columns i) ≡ first_sorted (shape_of p)
sorted_first p i is =
    ordinal_is p.columns i
    ∙ ap (option_and_then (λ (j : ℕ). option_and_then (λ (c : ℕ × Encoding). Some c.0) (slice_get (map (λ k. (k.ordinal, k.encoding)) p.columns) j))) (sym is)

pub first_there : (xs sort : List ℕ) (i : ℕ) → xs ≡ sort → 0 < length xs → i ≡ get_or xs 0 i → slice_get sort 0 ≡ Some i
first_there xs sort i same lt is = subst (λ (zs : List ℕ). slice_get zs 0 ≡ Some i) same (by xs lt is)
  where
    by : (zs : List ℕ) → 0 < length zs → i ≡ get_or zs 0 i → slice_get zs 0 ≡ Some i
    by [] less e = absurd (omega (arith, less))
    by (z ∷ zs) less e = ap (λ (n : ℕ). Some n) (sym e)

-- ---- one projection more

there_at : (ps : List Projection) (i : ℕ) (p : Projection) → i < length ps → p ≡ get_or ps i p → slice_get ps i ≡ Some p
there_at [] i p lt is = absurd (omega (arith, lt))
there_at (x ∷ ps) zero p lt is = ap (λ (y : Projection). Some y) (sym is)
there_at (x ∷ ps) (suc i) p lt is = there_at ps i p (omega (arith, lt)) is

pub taken_or_not : (test : Projection → Bool) (ps : List Projection) (b : Option ℕ) (i : ℕ) (p : Projection) (k : Bool) → i < length ps → p ≡ get_or ps i p
    → k ≡ (test p && is_better (option_and_then (slice_get ps) b) p)
    → best_from test (option_and_then (slice_get ps) (cond k (Some i) b)) (drop (i + 1) ps) ≡ best_from test (option_and_then (slice_get ps) b) (drop i ps)
taken_or_not test ps b i p k lt is told = sym (ap (best_from test (option_and_then (slice_get ps) b)) front ∙ ap (λ (c : Bool). best_from test (cond c (Some p) (option_and_then (slice_get ps) b)) (drop (i + 1) ps)) (sym told) ∙ by k)
  where
    front : drop i ps ≡ p ∷ drop (i + 1) ps
    front = drop_more ps i p lt ∙ ap (λ (x : Projection). x ∷ drop (i + 1) ps) (sym is)

    by : (c : Bool) → best_from test (cond c (Some p) (option_and_then (slice_get ps) b)) (drop (i + 1) ps) ≡ best_from test (option_and_then (slice_get ps) (cond c (Some i) b)) (drop (i + 1) ps)
    by true = ap (λ (o : Option Projection). best_from test o (drop (i + 1) ps)) (sym (there_at ps i p lt is))
    by false = refl
