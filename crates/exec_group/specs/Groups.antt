-- Groups as they are held, and as they come out.
use Rattle.std.specs.Prelude.{◌≡◌, ℕ, ◌+◌, ◌<◌, ◌++◌, List, [], ◌∷◌, if◌then◌else◌, zero, suc, Some, None, fold, get_or, length, map, position}
use Rattle.std.specs.List.{All, Contains, list_any}
use Rattle.col_value.specs.declared.value.Value.{Value}
use Rattle.sql_bound.specs.declared.query.Aggregate.{Aggregate}
use Rattle.sql_bound.specs.declared.query.BoundQuery.{BoundQuery}
use Rattle.sql_bound.specs.Outputs.{aggregate_over, group_keys, keys_of, members, same_keys, IsGreatSum}
use Rattle.col_value.specs.declared.wide.Wide.{Wide}
use Rattle.exec_group.specs.Columns.{each_put}
use Rattle.exec_group.specs.Accumulators.{accumulated, accumulated_over, worth_or_null}
use Rattle.exec_group.specs.declared.accumulator.Accumulator.{Accumulator}
use Rattle.exec_group.specs.declared.accumulator.Accumulator.TheVariants as accumulator

-- the keys of the groups in the order in which they were met, and of each aggregate what it keeps in each of them
pub record Held : Type 0 where
  pub keys : List (List Value)
  pub columns : List (List Accumulator)

-- what an aggregate keeps of some rows in each group
abbrev pub kept_in : List ℕ → List (List Value) → List (List Value) → Aggregate → List Accumulator
kept_in keys rows groups a = map (λ group. accumulated_over (members keys group rows) a) groups

-- what is held after these rows
pub record HoldsGroups (q : BoundQuery) (rows : List (List Value)) (h : Held) : Type 0 where
  pub keys : h.keys ≡ group_keys q.keys rows
  pub columns : h.columns ≡ map (kept_in q.keys rows (group_keys q.keys rows)) q.aggs

-- groups that are done: the key of each, and beside it its aggregates
pub record DoneGroups : Type 0 where
  pub keys : List (List Value)
  pub aggs : List (List Wide)

-- these are the groups of the rows, each with its aggregates
pub record AreGroups (q : BoundQuery) (rows : List (List Value)) (g : DoneGroups) : Type 0 where
  pub keys : g.keys ≡ group_keys q.keys rows
  pub aggs : g.aggs ≡ map (λ key. map (aggregate_over (members q.keys key rows)) q.aggs) (group_keys q.keys rows)

-- in some group a SUM goes over values whose magnitudes add to more than a result holds
abbrev pub HasGreatSum : BoundQuery → List (List Value) → Type 0
HasGreatSum q rows =
    (group : List Value) × (a : Aggregate) × Contains (group_keys q.keys rows) group × Contains q.aggs a
    × IsGreatSum (members q.keys group rows) a

-- one group, of no key and no row
abbrev pub one_group : List Aggregate → Held
one_group aggs = record { keys = [] ∷ []; columns = map (λ a. accumulated a.kind 0 [] ∷ []) aggs }

-- the keys that were met, after a key more
abbrev pub met_one : List (List Value) → List Value → List (List Value)
met_one groups key = if list_any (λ g. same_keys g key) groups then groups else groups ++ key ∷ []

abbrev pub met : {X : Type 0} → (X → List Value) → List X → List (List Value) → List (List Value)
met key xs groups = fold (λ gs x. met_one gs (key x)) groups xs

-- the keys after these were met, and the place of each of these among them
pub record AreEntered (key : ℕ → List Value) (places : List ℕ) (old new : List (List Value)) (groups : List ℕ) : Type 0 where
  pub met : new ≡ met key places old
  pub there : map Some groups ≡ map (λ p. position (λ k. same_keys k (key p)) new) places

-- rows were put to their groups: each key is met, and each aggregate takes each row in the group of its key
pub record IsPut {X : Type 0} (row : X → List Value) (keys : List ℕ) (aggs : List Aggregate) (xs : List X) (old new : Held) : Type 0 where
  pub keys_met : new.keys ≡ met (λ x. keys_of keys (row x)) xs old.keys
  pub places : List ℕ
  pub there : map Some places ≡ map (λ x. position (λ k. same_keys k (keys_of keys (row x))) new.keys) xs
  pub taken : new.columns ≡ each_put row (length new.keys) places xs aggs old.columns

-- what is kept in a group, where something is
abbrev pub kept_at : List Accumulator → ℕ → Accumulator
kept_at column g = get_or column g (accumulator.Sum None)

-- the aggregates' values in a group, and in the first groups
abbrev pub worths_at : List (List Accumulator) → ℕ → List Wide
worths_at columns g = map (λ column. worth_or_null (kept_at column g)) columns

abbrev pub worths_upto : List (List Accumulator) → ℕ → List (List Wide)
worths_upto columns zero = []
worths_upto columns (suc n) = worths_upto columns n ++ worths_at columns n ∷ []

-- no sum is too great in a group
abbrev pub FitsAt : List (List Accumulator) → ℕ → Type 0
FitsAt columns g = All (λ column. kept_at column g ≡ accumulator.TooGreat → ⊥) columns

-- one is
abbrev pub IsGreatAt : List (List Accumulator) → ℕ → Type 0
IsGreatAt columns g = (column : List Accumulator) × Contains columns column × (kept_at column g ≡ accumulator.TooGreat)
