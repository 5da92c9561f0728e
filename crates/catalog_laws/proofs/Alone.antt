-- A table whose projection gets an entry that keeps the rules is valid alone.
use Rattle.std.proofs.Common.{◌≡◌, ◌≢◌, ℕ, zero, suc, ◌+◌, ◌^◌, ◌<◌, ◌≤◌, Bool, true, false, List, [], ◌∷◌, ◌++◌, map, get_or, take, drop, length, refl, sym, ◌∙◌, ap, subst, inl, inr, arith, length-append}
use Rattle.std.specs.Prelude.{◌⊎◌}
use Rattle.std.specs.Bool.{OnTrue, OnFalse}
use Rattle.std.specs.List.{All, Any, Contains, flat_map}
use Rattle.std.proofs.lemmas.List.{append-nil, drop_all, map-append}
use Rattle.std.proofs.lemmas.List.Elements.{All-append, All-cons, All-contains, All-head, All-nil, All-same, All-tail, All-weaker, Contains-append_cases, Contains-append_left, Contains-append_right}
use Rattle.catalog_types.specs.declared.catalogue.Container.{Container}
use Rattle.catalog_types.specs.declared.catalogue.ProjColumn.{ProjColumn}
use Rattle.catalog_types.specs.declared.catalogue.Projection.{Projection}
use Rattle.catalog_types.specs.declared.catalogue.Table.{Table}
use Rattle.catalog_types.specs.declared.catalogue.Catalogue.{Catalogue}
use Rattle.catalog_types.specs.declared.span.Span.{Span}
use Rattle.catalog_types.specs.Lists.{Pairwise}
use Rattle.catalog_types.specs.Names.{IsBelow, IsName, names_of}
use Rattle.catalog_types.specs.Numbers.{AreApart, HasNumbersOnce, projection_spans, store_count, table_spans}
use Rattle.catalog_types.specs.Parts.{HasDefault, IsFreshSuper, IsProjColumn, IsProjection, IsTable}
use Rattle.catalog_types.specs.Reached.{is_past, least_lge}
use Rattle.catalog_types.specs.Valid.{IsValid}
use Rattle.catalog_types.proofs.Pairs.{all_append, all_flat, pairs_append}
use Rattle.catalog_laws.specs.Entries.{with_entry_in, HasNumbersBelow, IsEntryAfter, StoresAsBefore}
use Rattle.catalog_laws.specs.Going.{alone, GoesOn}
use Rattle.catalog_laws.proofs.Apart.{apart_too}
use Rattle.catalog_laws.proofs.Counting.{numbers_below, projection_inside}
use Rattle.catalog_laws.proofs.Fitting.{IsInside}
use Rattle.catalog_laws.proofs.Forms.{split_here}
use Rattle.catalog_laws.proofs.Keeping.{projection_kept, reached_later}
use Rattle.catalog_laws.proofs.Nexts.{flat_swapped}

any_from : {X : Type 0} {P : X → Type 0} (xs : List X) (x : X) → Contains xs x → P x → Any P xs
any_from {X} {P} xs x (k, lt, e) p = (k, x, lt, e, p)

module _ (c : Catalogue) (last next j : ℕ) (t : Table) (old new : Projection) (valid : IsValid c) (goes : GoesOn c last next) (is : IsTable c t) (once : Pairwise AreApart (table_spans t)) (names : Pairwise ◌≢◌ (names_of t))
    (parts : t.projections ≡ take j t.projections ++ (old ∷ drop (suc j) t.projections)) (entry : IsEntryAfter c last next old new) where
  abbrev front : List Projection
  front = take j t.projections

  abbrev back : List Projection
  back = drop (suc j) t.projections

  abbrev u : Table
  u = with_entry_in j new t

  abbrev n : Catalogue
  n = alone last c.ahm next u

  whole : All (IsProjection c t) front × All (IsProjection c t) (old ∷ back)
  whole = (all_append (IsProjection c t) front (old ∷ back)).0 (All-same (IsProjection c t) _ _ (sym parts) is.projections)

  its : IsProjection c t old
  its = All-head (IsProjection c t) old back whole.1

  rest : All (IsProjection c t) (front ++ back)
  rest = All-append (IsProjection c t) front back whole.0 (All-tail (IsProjection c t) old back whole.1)

  -- ---- the new entry

  sort_stored : (k : Container) → StoresAsBefore (length new.columns) old.containers k → All (λ i. i < k.stored) new.sort
  sort_stored k (inl e) = All-weaker (λ i. i < length old.columns) (λ i. i < k.stored) (λ i lt. omega (arith, lt, e, ap length entry.shape.columns)) new.sort
      (subst (All (λ i. i < length old.columns)) (sym entry.shape.sort) its.sort)
  sort_stored k (inr (i, o, lt, at, e)) =
      subst (λ (m : ℕ). All (λ i. i < m) new.sort) e (subst (All (λ i. i < o.stored)) (sym entry.shape.sort) (All-contains (λ q. All (λ i. i < q.stored) old.sort) old.containers o its.sorted_stored (i, lt, at)))

  behind_all : (ks : List ProjColumn) (m : ℕ) → m ≡ length ks → All HasDefault (drop m ks)
  behind_all ks m e = subst (All HasDefault) (sym (drop_all m ks (omega (arith, e)))) (All-nil HasDefault)

  defaults_behind : (k : Container) → StoresAsBefore (length new.columns) old.containers k → All HasDefault (drop k.stored new.columns)
  defaults_behind k (inl e) = behind_all new.columns k.stored e
  defaults_behind k (inr (i, o, lt, at, e)) =
      subst (λ (m : ℕ). All HasDefault (drop m new.columns)) e
      (subst (λ (ks : List ProjColumn). All HasDefault (drop o.stored ks)) (sym entry.shape.columns) (All-contains (λ q. All HasDefault (drop q.stored old.columns)) old.containers o its.defaults (i, lt, at)))

  reached : (b : Bool) → OnTrue b ((c.ahm ≤ new.lge) × (new.lge ≤ last))
  reached true = (entry.mark, entry.reached)
  reached false = tt

  up_to_date : (b : Bool) → b ≡ true → OnFalse b ((new.lge ≡ 0) × (new.born ≡ 0) × (length new.containers ≡ 0))
  up_to_date true e = tt
  up_to_date false e = absurd cc

  new_is : IsProjection n u new
  new_is = record {
    name = subst IsName (sym entry.shape.name) its.name;
    some = subst (λ (ks : List ProjColumn). 0 < length ks) (sym entry.shape.columns) its.some;
    columns = subst (All (IsProjColumn t.columns)) (sym entry.shape.columns) its.columns;
    columns_once = subst (Pairwise (λ k l. k.ordinal ≢ l.ordinal)) (sym entry.shape.columns) its.columns_once;
    sorted = subst (λ (is : List ℕ). 0 < length is) (sym entry.shape.sort) its.sorted;
    sort = subst (All (λ i. i < length new.columns)) (sym entry.shape.sort) (subst (λ (ks : List ProjColumn). All (λ i. i < length ks) old.sort) (sym entry.shape.columns) its.sort);
    sort_once = subst (Pairwise ◌≢◌) (sym entry.shape.sort) its.sort_once;
    reached = reached new.fresh;
    stale = up_to_date new.fresh entry.shape.fresh;
    containers = entry.containers.each;
    sorted_stored = All-weaker (StoresAsBefore (length new.columns) old.containers) (λ k. All (λ i. i < k.stored) new.sort) sort_stored new.containers entry.containers.stored;
    defaults = All-weaker (StoresAsBefore (length new.columns) old.containers) (λ k. All HasDefault (drop k.stored new.columns)) defaults_behind new.containers entry.containers.stored;
    levels = entry.containers.levels;
    born = entry.containers.born;
  }

  -- ---- the others

  other_is : (p : Projection) → IsProjection c t p → IsProjection n u p
  other_is p was = of (projection_kept c n t p goes.number (reached_later c n p goes.epoch refl was.reached) was)
    where
      of : IsProjection n t p → IsProjection n u p
      of q = record {
        name = q.name;
        some = q.some;
        columns = q.columns;
        columns_once = q.columns_once;
        sorted = q.sorted;
        sort = q.sort;
        sort_once = q.sort_once;
        reached = q.reached;
        stale = q.stale;
        containers = q.containers;
        sorted_stored = q.sorted_stored;
        defaults = q.defaults;
        levels = q.levels;
        born = q.born;
      }

  all_are : All (IsProjection n u) u.projections
  all_are =
      let others = (all_append (IsProjection n u) front back).0 (All-weaker (IsProjection c t) (IsProjection n u) other_is (front ++ back) rest) in
      All-append (IsProjection n u) front (new ∷ back) others.0 (All-cons (IsProjection n u) new back new_is others.1)

  -- ---- their names

  abbrev Below : Projection → Projection → Type 0
  Below p q = IsBelow p.name q.name

  ascends : Pairwise Below u.projections
  ascends =
      let a = (pairs_append Below front (old ∷ back)).0 (subst (Pairwise Below) parts is.ascending) in
      (pairs_append Below front (new ∷ back)).1 (
        a.0,
        (subst (λ (m : List ℕ). All (λ q. IsBelow m q.name) back) (sym entry.shape.name) a.1.0, a.1.1),
        λ k d lt. All-cons (Below (get_or front k d)) new back (subst (IsBelow (get_or front k d).name) (sym entry.shape.name) (All-head (Below (get_or front k d)) old back (a.2 k d lt))) (All-tail (Below (get_or front k d)) old back (a.2 k d lt)),
      )

  same_names : names_of u ≡ names_of t
  same_names =
      ap (λ (ms : List (List ℕ)). t.name ∷ ms)
      (map-append (λ p. p.name) front (new ∷ back) ∙ ap (λ (m : List ℕ). map (λ p. p.name) front ++ m ∷ map (λ p. p.name) back) entry.shape.name ∙ sym (map-append (λ p. p.name) front (old ∷ back)) ∙ ap (map (λ p. p.name)) (sym parts))

  -- ---- one has all columns

  super : Any (IsFreshSuper u) u.projections
  super = found is.super
    where
      at_new : IsFreshSuper u new → Any (IsFreshSuper u) u.projections
      at_new q = any_from u.projections new (Contains-append_right front (new ∷ back) new (0, omega arith, refl)) q

      one : (p : Projection) → Contains front p ⊎ (Contains (old ∷ back) p) → IsFreshSuper t p → Any (IsFreshSuper u) u.projections
      one p (inl has) q = any_from u.projections p (Contains-append_left front (new ∷ back) p has) (record { fresh = q.fresh; columns = q.columns })
      one p (inr (zero, lt, e)) q = at_new (record { fresh = entry.shape.fresh; columns = subst (λ (ks : List ProjColumn). (i : ℕ) → i < length t.columns → Any (λ k. k.ordinal ≡ i) ks) (ap (λ (r : Projection). r.columns) (sym e) ∙ sym entry.shape.columns) q.columns })
      one p (inr (suc k, lt, e)) q = any_from u.projections p (Contains-append_right front (new ∷ back) p (suc k, omega (arith, lt), e)) (record { fresh = q.fresh; columns = q.columns })

      found : Any (IsFreshSuper t) t.projections → Any (IsFreshSuper u) u.projections
      found (k, p, lt, e, q) = one p (Contains-append_cases front (old ∷ back) p (subst (λ (ps : List Projection). Contains ps p) parts (k, lt, e))) q

  -- ---- the table

  table_is : IsTable n u
  table_is = record {
    name = is.name;
    some = is.some;
    most = is.most;
    columns = is.columns;
    columns_once = is.columns_once;
    projections_most = omega (arith, is.projections_most, length-append front (new ∷ back), length-append front (old ∷ back), ap length parts);
    projections = all_are;
    ascending = ascends;
    super = super;
  }

  -- ---- its numbers

  low : All (IsInside 0 c.next) (flat_map projection_spans (front ++ back))
  low = (all_flat (IsInside 0 c.next) projection_spans (front ++ back)).1 (All-weaker (IsProjection c t) (λ p. All (IsInside 0 c.next) (projection_spans p)) (projection_inside c t) (front ++ back) rest)

  numbers : Pairwise AreApart (table_spans u)
  numbers =
      flat_swapped AreApart apart_too projection_spans front (old ∷ []) (new ∷ []) back (subst (λ (ps : List Projection). Pairwise AreApart (flat_map projection_spans ps)) parts once)
      (subst (Pairwise AreApart) (sym (append-nil (projection_spans new))) entry.numbers.once)
      (subst (All Q) (sym (append-nil (projection_spans new))) (All-weaker (λ s. Contains (projection_spans old) s ⊎ (c.next ≤ s.first)) Q by (projection_spans new) entry.numbers.drawn))
    where
      Q : Span → Type 0
      Q s = Contains (flat_map projection_spans (old ∷ [])) s ⊎ All (AreApart s) (flat_map projection_spans (front ++ back))

      by : (s : Span) → Contains (projection_spans old) s ⊎ (c.next ≤ s.first) → Q s
      by s (inl has) = inl (Contains-append_left (projection_spans old) [] s has)
      by s (inr le) = inr (All-weaker (IsInside 0 c.next) (AreApart s) (λ r in_r. inr (omega (arith, in_r.2, le))) (flat_map projection_spans (front ++ back)) low)

  pub entry_alone : IsValid n
  entry_alone = record {
    most = omega arith;
    tables = All-cons (IsTable n) u [] table_is (All-nil (IsTable n));
    ascending = (All-nil (λ v. IsBelow u.name v.name), tt);
    names_once = subst (Pairwise ◌≢◌) (sym (append-nil (names_of u))) (subst (Pairwise ◌≢◌) (sym same_names) names);
    mark = omega (arith, valid.mark, goes.epoch);
    last = goes.epochs;
    numbers_once = all_once;
    next = omega (arith, goes.numbers);
    room = on (is_past n (least_lge n)) (let most = numbers_below n (All-cons (IsTable n) u [] table_is (All-nil (IsTable n))) all_once in omega (arith, most, goes.numbers));
  }
    where
      all_once : HasNumbersOnce (u ∷ [])
      all_once = subst (Pairwise AreApart) (sym (append-nil (table_spans u))) numbers

      on : (b : Bool) → next + store_count n + 1 < 2 ^ 62 → OnTrue b (next + store_count n + 1 < 2 ^ 62)
      on true is = is
      on false is = tt

-- ---- of a table of a valid catalogue

one_part : {X Y : Type 0} (R : Y → Y → Type 0) (f : X → List Y) (xs : List X) (i : ℕ) (x : X) → i < length xs → x ≡ get_or xs i x → Pairwise R (flat_map f xs) → Pairwise R (f x)
one_part R f [] i x lt is pairs = absurd (omega (arith, lt))
one_part R f (y ∷ xs) zero x lt is pairs = subst (λ (z : _). Pairwise R (f z)) (sym is) ((pairs_append R (f y) (flat_map f xs)).0 pairs).0
one_part R f (y ∷ xs) (suc i) x lt is pairs = one_part R f xs i x (omega (arith, lt)) is ((pairs_append R (f y) (flat_map f xs)).0 pairs).1

one_is : {X : Type 0} (P : X → Type 0) (xs : List X) (i : ℕ) (x : X) → i < length xs → x ≡ get_or xs i x → All P xs → P x
one_is P xs i x lt is all = subst P (sym is) (all i x lt)

pub own_numbers : (c : Catalogue) (i j : ℕ) (t : Table) (p : Projection) → IsValid c → i < length c.tables → t ≡ get_or c.tables i t → j < length t.projections → p ≡ get_or t.projections j p → HasNumbersBelow c.next p
own_numbers c i j t p valid lt t_is below p_is =
    let its = one_is (IsTable c) c.tables i t lt t_is valid.tables in record {
      below = All-weaker (IsInside 0 c.next) (λ s. s.end ≤ c.next) (λ s inside. inside.2) (projection_spans p) (projection_inside c t p (one_is (IsProjection c t) t.projections j p below p_is its.projections));
      once = one_part AreApart projection_spans t.projections j p below p_is (one_part AreApart table_spans c.tables i t lt t_is valid.numbers_once);
    }

pub entry_kept : (c : Catalogue) (last next i j : ℕ) (t : Table) (old new : Projection) → IsValid c → GoesOn c last next → i < length c.tables → t ≡ get_or c.tables i t → j < length t.projections → old ≡ get_or t.projections j old
    → IsEntryAfter c last next old new → IsValid (alone last c.ahm next (with_entry_in j new t))
entry_kept c last next i j t old new valid goes lt t_is below old_is entry =
    entry_alone c last next j t old new valid goes (one_is (IsTable c) c.tables i t lt t_is valid.tables) (one_part AreApart table_spans c.tables i t lt t_is valid.numbers_once) (one_part ◌≢◌ names_of c.tables i t lt t_is valid.names_once)
    (split_here t.projections j old below old_is) entry
