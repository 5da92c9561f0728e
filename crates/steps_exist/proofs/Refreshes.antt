-- A refresh of a table ends: each of its jobs leaves at least all but one of the projections that weren't up to date.
use Rattle.std.proofs.Common.{◌≡◌, ◌≤◌, ◌<◌, not, ◌++◌, ℕ, zero, suc, inl, inr, Bool, true, false, cond, List, [], ◌∷◌, length, map, refl, sym, ◌∙◌, ap, subst, arith}
use Rattle.std.specs.Prelude.{Option, Some, None, bytes_eq, option_map}
use Rattle.std.specs.List.{AllPairs}
use Rattle.std.specs.Option.{option_map_or}
use Rattle.std.proofs.lemmas.List.{length-map}
use Rattle.std.proofs.lemmas.List.Concat.{flat_map-cons}
use Rattle.db_model.specs.Database.{Database, Shape, Table, table_named}
use Rattle.db_model.specs.Events.{stale_names}
use Rattle.db_model.specs.Mover.{change_shape, change_shape_of, given_up, reached_to, refreshed, stale_of, Jobs, RefreshesAll, RefreshesFirst}
use Rattle.db_model.specs.Numbers.{are_spent}
use Rattle.db_model.specs.Sound.{all_names, names_of}
use Rattle.db_model.specs.State.{State}
use Rattle.sound_laws.proofs.Created.{Differ}
use Rattle.sound_laws.proofs.Pairs.{pairs_back, pairs_front, pairs_none, pairs_tail}
use Rattle.state_laws.proofs.Reached.{all_names_still}
use Rattle.state_laws.proofs.Stale.{shape_names}
use Rattle.state_laws.proofs.Tables.{map_named}
use Rattle.steps_exist.proofs.Moves.{HasNames, one_less, passing}

-- the projections of a table that is found or not
abbrev shapes_of : Option Table → List Shape
shapes_of o = option_map_or (λ t. t.shapes) o []

abbrev is_stale : Shape → Bool
is_stale s = not s.fresh

own_apart : (table : List ℕ) (ts : List Table) → AllPairs Differ (all_names ts)
    → AllPairs Differ (shape_names (shapes_of (table_named table ts)))
own_apart table [] pairs = pairs_none Differ
own_apart table (t ∷ ts) pairs = by (bytes_eq t.name table) (own_apart table ts (pairs_back Differ (names_of t) (all_names ts) both))
  where
    both : AllPairs Differ (names_of t ++ all_names ts)
    both = subst (AllPairs Differ) (flat_map-cons names_of t ts) pairs

    by : (b : Bool) → AllPairs Differ (shape_names (shapes_of (table_named table ts)))
        → AllPairs Differ (shape_names (shapes_of (cond b (Some t) (table_named table ts))))
    by true rest = pairs_tail Differ t.name (shape_names t.shapes) (pairs_front Differ (names_of t) (all_names ts) both)
    by false rest = rest

changed_shapes : (name : List ℕ) (f : Shape → Shape) (o : Option Table)
    → shapes_of (option_map (change_shape_of name f) o) ≡ map (change_shape name f) (shapes_of o)
changed_shapes name f None = refl
changed_shapes name f (Some t) = refl

stale_count : (ss : List Shape) → length (stale_names ss) ≡ length (passing is_stale ss)
stale_count ss = length-map (passing is_stale ss) (λ s. s.name)

one_less_stale : (table name : List ℕ) (d : Database) → HasNames d
    → length (stale_of table d) ≤ suc (length (stale_names (shapes_of (table_named table (map (change_shape_of name (reached_to d.last)) d.tables)))))
one_less_stale table name d apart =
    let f = reached_to d.last in
    let ss = shapes_of (table_named table d.tables) in
    let changed : shapes_of (table_named table (map (change_shape_of name f) d.tables)) ≡ map (change_shape name f) ss =
    ap shapes_of (map_named (change_shape_of name f) table d.tables (λ t. refl)) ∙ changed_shapes name f (table_named table d.tables) in
    let less : length (passing is_stale ss) ≤ suc (length (passing is_stale (map (change_shape name f) ss))) = one_less is_stale name f ss (own_apart table d.tables apart) in
    let before : length (stale_names ss) ≡ length (passing is_stale ss) = stale_count ss in
    let after : length (stale_names (map (change_shape name f) ss)) ≡ length (passing is_stale (map (change_shape name f) ss)) = stale_count (map (change_shape name f) ss) in
    subst (λ (os : List Shape). length (stale_names ss) ≤ suc (length (stale_names os))) (sym changed) (omega (arith, less, before, after))

-- ---- so many refreshes

abbrev OneRefreshed : List ℕ → State → State → Type 0
OneRefreshed table one other = RefreshesFirst (stale_of table one.database) one other

record Refreshed (table : List ℕ) (n : ℕ) (old : State) : Type 0 where
  stopped : Bool
  new : State
  jobs : Jobs (OneRefreshed table) n old stopped new
  next : new.next ≡ old.next
  parts : new.parts ≡ old.parts

next_refreshed : (table : List ℕ) (n : ℕ) (old : State) (spent : Bool) (names : List (List ℕ)) → are_spent old ≡ spent
    → stale_of table old.database ≡ names → 0 < length names
    → ((name : List ℕ) → Refreshed table n (refreshed name old)) → Refreshed table (suc n) old
next_refreshed table n old true names is found some rest =
    record { stopped = true; new = old; jobs = inl (is, refl, refl); next = refl; parts = refl }
next_refreshed table n old false [] is found some rest = absurd (omega (arith, some))
next_refreshed table n old false (name ∷ names) is found some rest =
    let more = rest name in
    record {
      stopped = more.stopped;
      new = more.new;
      jobs = inr (is, refreshed name old, subst (λ (ns : List (List ℕ)). RefreshesFirst ns old (refreshed name old)) (sym found) (record { same = refl; drawn = record { from = omega arith; to = omega arith; parts = omega arith } }), more.jobs);
      next = more.next;
      parts = more.parts;
    }

so_many : (table : List ℕ) (n : ℕ) (old : State) → n ≤ length (stale_of table old.database) → HasNames old.database → Refreshed table n old
so_many table zero old most apart = record { stopped = false; new = old; jobs = (refl, refl); next = refl; parts = refl }
so_many table (suc n) old most apart =
    next_refreshed table n old (are_spent old) (stale_of table old.database) refl refl (omega (arith, most))
    (λ name. let less = one_less_stale table name old.database apart in
    so_many table n (refreshed name old) (omega (arith, most, less)) (subst (AllPairs Differ) (sym (all_names_still name old.database.last old.database.tables)) apart))

pub all_refreshed : (table : List ℕ) (old : State) → HasNames old.database
    → (stopped : Bool) × (new : State) × RefreshesAll table old stopped new
all_refreshed table old apart =
    let made = so_many table (length (stale_of table old.database)) (given_up old) (omega arith) apart in
    let next = made.next in
    let parts = made.parts in
    (made.stopped, made.new, record { jobs = made.jobs; drawn = record { from = omega (arith, next); to = omega (arith, next); parts = omega (arith, parts) } })
