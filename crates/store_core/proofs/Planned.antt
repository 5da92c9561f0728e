-- The places of planned projections.
use Rattle.std.proofs.Common.{◌≡◌, ℕ, zero, suc, ◌+◌, ◌<◌, Bool, true, false, cond, List, [], ◌∷◌, length, map, refl, sym, ◌∙◌, ap, subst, arith}
use Rattle.std.specs.Prelude.{◌||◌, not, find, position, nat_lt, is_none, bytes_eq, Option, Some, None, option_map, option_and_then, IsSomeAnd}
use Rattle.std.specs.List.{All, list_any, enumerate_from, position_or_len, slice_get}
use Rattle.std.specs.Option.{option_map_or}
use Rattle.std.proofs.lemmas.List.{length-map}
use Rattle.std.proofs.lemmas.List.Elements.{All-cons, All-nil}
use Rattle.catalog_types.specs.declared.catalogue.Table as kept
use Rattle.col_value.specs.declared.kinds.Encoding.{Encoding}
use Rattle.sql_tree.specs.declared.refusal.Refusal.{Refusal}
use Rattle.sql_tree.specs.declared.statement.NewProjection.{NewProjection}
use Rattle.sql_tree.specs.declared.statement.Statement.{Statement}
use Rattle.sql_binding.specs.Firsts.{first_of, refused_where}
use Rattle.sql_binding.specs.Projections.{all_places, are_same_names, bad_encoding, bound_new_part, has_twice, is_bad_projection, name_at, name_limit, part_names, place_or_0, projection_form_refusal, projection_name_refusal, sort_names, sort_places}
use Rattle.change_binder.specs.declared.projections.ProjectionShape.{ProjectionShape}
use Rattle.db_model.specs.Database.{Table}
use Rattle.db_model.specs.Numbers.{spent_refusal}
use Rattle.db_model.specs.Refusing.{if_taken}
use Rattle.db_model.specs.Refusals.{projection_created_refusal, projection_refusal_over, projections_limit}
use Rattle.db_model.specs.State.{State}
use Rattle.db_model.specs.Views.{columns_found, table_found}
use Rattle.folder_model.specs.Projections.{shape_of}
use Rattle.state_laws.proofs.Events.{first_none}
use Rattle.statement_plan.specs.Bare.{bare_table}
use Rattle.statement_plan.specs.Planned.{IsPlanned}
use Rattle.statement_plan.specs.Places.{owner_found, has_projection}
use Rattle.statement_plan.specs.declared.plans.Plan.{Plan}
use Rattle.store_core.specs.Running.{Running, frame_of}
use Rattle.store_core.proofs.Shaped.{found_bound, same_placed}
use Rattle.store_core.proofs.Unshaped.{owned}

-- what is found in a numbered list stands at its place there
place_found : {X : Type 0} (p : ℕ × X → Bool) (n : ℕ) (xs : List X) (i : ℕ) (x : X) → find p (enumerate_from n xs) ≡ Some (i, x) → (k : ℕ) × (i ≡ n + k) × IsSomeAnd (slice_get xs k) (λ y. y ≡ x)
place_found p n [] i x none = absurd (cc)
place_found {X} p n (y ∷ ys) i x there = by (p (n, y)) (λ rest. place_found p (n + 1) ys i x rest) there
  where
    Found : ℕ → List X → Type 0
    Found from zs = (k : ℕ) × (i ≡ from + k) × IsSomeAnd (slice_get zs k) (λ z. z ≡ x)

    by : (b : Bool) → (find p (enumerate_from (n + 1) ys) ≡ Some (i, x) → Found (n + 1) ys) → cond b (Some (n, y)) (find p (enumerate_from (n + 1) ys)) ≡ Some (i, x) → Found n (y ∷ ys)
    by true more here =
        let at : n ≡ i = (same_placed n i y x here).0 in
        let same : y ≡ x = (same_placed n i y x here).1 in
        (zero, omega (arith, at), same)
    by false more rest =
        let (k, at, found) = more rest in
        (suc k, omega (arith, at), found)

pub some_below : {X : Type 0} (P : X → Type 0) (xs : List X) (k : ℕ) → IsSomeAnd (slice_get xs k) P → k < length xs
some_below P [] k there = absurd there
some_below P (x ∷ xs) zero there = omega arith
some_below P (x ∷ xs) (suc k) there = let rest = some_below P xs k there in omega (arith, rest)

-- ---- what a new projection is sorted by

position_below : {X : Type 0} (p : X → Bool) (xs : List X) → is_none (position p xs) ≡ false → place_or_0 (position p xs) < length xs
position_below p xs some = by (nat_lt (position_or_len p xs) (length xs)) refl some
  where
    below : (n m : ℕ) → nat_lt n m ≡ true → n < m
    below n m lt = grind (arith, lt)

    by : (b : Bool) → nat_lt (position_or_len p xs) (length xs) ≡ b → is_none (cond b (Some (position_or_len p xs)) None) ≡ false → place_or_0 (cond b (Some (position_or_len p xs)) None) < length xs
    by true lt is = below (position_or_len p xs) (length xs) lt
    by false off is = absurd (cc)

or_off : (a b : Bool) → (a || b) ≡ false → (a ≡ false) × (b ≡ false)
or_off true b is = absurd (cc)
or_off false b is = (refl, is)

places_below : (names sort : List (List ℕ)) → list_any (λ n. is_none (name_at names n)) sort ≡ false → All (λ i. i < length names) (sort_places names sort)
places_below names [] none = All-nil (λ i. i < length names)
places_below names (n ∷ sort) none =
    let (here, rest) = or_off (is_none (name_at names n)) (list_any (λ m. is_none (name_at names m)) sort) none in
    All-cons (λ i. i < length names) (place_or_0 (name_at names n)) (sort_places names sort) (position_below (λ m. bytes_eq m n) names here) (places_below names sort rest)

numbers_below : {X : Type 0} (n : ℕ) (xs : List X) (most : ℕ) → n + length xs ≡ most → All (λ i. i < most) (map (λ e. e.0) (enumerate_from n xs))
numbers_below n [] most is = All-nil (λ i. i < most)
numbers_below n (x ∷ xs) most is = All-cons (λ i. i < most) n (map (λ e. e.0) (enumerate_from (n + 1) xs)) (omega (arith, is)) (numbers_below (n + 1) xs most (omega (arith, is)))

sorted_below : (p : NewProjection) → is_bad_projection p ≡ false → All (λ i. i < length p.parts) (option_map_or (sort_places (part_names p)) p.sort (all_places p.parts))
sorted_below p good = by p.sort refl
  where
    behind : list_any (λ n. is_none (name_at (part_names p) n)) (sort_names p) ≡ false
    behind =
        let (first, second) = or_off (not (are_same_names (part_names p) p.selected) || has_twice (part_names p)) (list_any (λ n. is_none (name_at (part_names p) n)) (sort_names p) || has_twice (sort_names p)) good in
        (or_off (list_any (λ n. is_none (name_at (part_names p) n)) (sort_names p)) (has_twice (sort_names p)) second).0

    by : (o : Option (List (List ℕ))) → p.sort ≡ o → All (λ i. i < length p.parts) (option_map_or (sort_places (part_names p)) o (all_places p.parts))
    by None is = numbers_below 0 p.parts (length p.parts) (omega arith)
    by (Some ns) is =
        let there : list_any (λ n. is_none (name_at (part_names p) n)) ns ≡ false = subst (λ (s : Option (List (List ℕ))). list_any (λ n. is_none (name_at (part_names p) n)) (option_map_or (λ xs. xs) s []) ≡ false) is behind in
        let long : length (part_names p) ≡ length p.parts = length-map p.parts (λ c. c.name) in
        subst (λ (most : ℕ). All (λ i. i < most) (sort_places (part_names p) ns)) long (places_below (part_names p) ns there)

not_refused : (wrong : Bool) (r : Refusal) → refused_where wrong r ≡ None → wrong ≡ false
not_refused true r is = absurd (cc)
not_refused false r is = refl

-- a new projection that isn't refused is a good one
good_one : (state : State) (p : NewProjection) (table : ℕ) (t : Table) → projection_created_refusal state p ≡ None → table_found p.table state.database.tables ≡ Some (table, t) → is_bad_projection p ≡ false
good_one state p table t free found =
    let tables = state.database.tables in
    let over = option_and_then (λ e. projection_refusal_over p e.1) (table_found p.table tables) in
    let first = first_none (projection_name_refusal (columns_found tables p.table) p) (first_of (option_map Refusal.Exists (if_taken tables p.name)) (first_of over (spent_refusal state))) free in
    let second = first_none (option_map Refusal.Exists (if_taken tables p.name)) (first_of over (spent_refusal state)) first.1 in
    let third : over ≡ None = (first_none over (spent_refusal state) second.1).0 in
    let here : projection_refusal_over p t ≡ None = ap (option_and_then (λ (e : ℕ × Table). projection_refusal_over p e.1)) (sym found) ∙ third in
    let form = first_none (projection_form_refusal t.columns p) (first_of (projections_limit t) (name_limit p.name)) here in
    let bad = first_none (refused_where (is_bad_projection p) (Refusal.BadProjection p.name)) (option_map Refusal.BadEncoding (bad_encoding t.columns p)) form.0 in
    not_refused (is_bad_projection p) (Refusal.BadProjection p.name) bad.0

pub create_has_place : (r : Running) (p : NewProjection) (table : ℕ) (shape : ProjectionShape) → IsPlanned (frame_of r) (Statement.CreateProjection p) (Plan.CreateProjection table shape)
    → (table < length r.seen.catalogue.tables) × All (λ i. i < length shape.columns) shape.sort
create_has_place r p table shape planned =
    let tables = map bare_table r.seen.catalogue.tables in
    let (t, found, bound) = found_bound p table shape.columns shape.sort (table_found p.table tables) planned.of in
    let (k, at, there) = place_found (λ e. bytes_eq e.1.name p.table) 0 tables table t found in
    let below = some_below (λ u. u ≡ t) tables k there in
    let long : length tables ≡ length r.seen.catalogue.tables = length-map r.seen.catalogue.tables bare_table in
    let many : length (map (bound_new_part t.columns) p.parts) ≡ length p.parts = length-map p.parts (bound_new_part t.columns) in
    let columns : length shape.columns ≡ length p.parts = sym (ap (λ (b : List (ℕ × Encoding) × List ℕ). length b.0) bound) ∙ many in
    let sorted = sorted_below p (good_one (frame_of r) p table t planned.accepted found) in
    let sort : option_map_or (sort_places (part_names p)) p.sort (all_places p.parts) ≡ shape.sort = ap (λ (b : List (ℕ × Encoding) × List ℕ). b.1) bound in
    (omega (arith, at, below, long), subst (λ (most : ℕ). All (λ i. i < most) shape.sort) (sym columns) (subst (All (λ i. i < length p.parts)) sort sorted))

-- ---- a projection that goes

drop_at : (ts : List kept.Table) (k place : ℕ) (t : Table) → IsSomeAnd (slice_get (map bare_table ts) k) (λ u. u ≡ t) → place < length t.shapes → IsSomeAnd (slice_get ts k) (λ u. place < length u.projections)
drop_at [] k place t there below = absurd there
drop_at (u ∷ ts) zero place t there below =
    let long : length (map shape_of u.projections) ≡ length u.projections = length-map u.projections shape_of in
    let here : length t.shapes ≡ length (map shape_of u.projections) = ap (λ (v : Table). length v.shapes) (sym there) in
    omega (arith, below, long, here)
drop_at (u ∷ ts) (suc k) place t there below = drop_at ts k place t there below

pub drop_has_place : (r : Running) (name : List ℕ) (table place : ℕ) → IsPlanned (frame_of r) (Statement.DropProjection name) (Plan.DropProjection table place)
    → IsSomeAnd (slice_get r.seen.catalogue.tables table) (λ t. place < length t.projections)
drop_has_place r name table place planned =
    let tables = map bare_table r.seen.catalogue.tables in
    let (t, s, found, shape) = owned name table place (owner_found name tables) planned.of in
    let (k, at, there) = place_found (λ e. has_projection name e.1) 0 tables table t found in
    let (j, in_table, here) = place_found (λ e. bytes_eq e.1.name name) 0 t.shapes place s shape in
    let below = some_below (λ u. u ≡ s) t.shapes j here in
    let same : k ≡ table = omega (arith, at) in
    subst (λ (n : ℕ). IsSomeAnd (slice_get r.seen.catalogue.tables n) (λ u. place < length u.projections)) same (drop_at r.seen.catalogue.tables k place t there (omega (arith, in_table, below)))
