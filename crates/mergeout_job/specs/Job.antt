-- A mergeout, as it is seen.
use Rattle.std.specs.Prelude.{ℕ, Bool, List}
use Rattle.merge_rows.specs.Inputs.{Merging}
use Rattle.container_draft.specs.Draft.{Drafted}

-- the level of its inputs, which rows it takes, and the container that it writes of them
pub record Mergeout : Type 0 where
  pub level : ℕ
  pub merge : Merging
  pub draft : Drafted

abbrev pub seen : ℕ → List Bool → ℕ → Drafted → Mergeout
seen level inputs mark draft = record { level = level; merge = record { inputs = inputs; mark = mark; places = draft.places; rows = draft.rows }; draft = draft }
