-- The container that a draft became.
use Rattle.std.specs.Prelude.{ℕ, List, ◌≡◌, ◌≤◌, ◌+◌, [], length, Option, Some, None, IfSome}
use Rattle.std.specs.Option.{option_map_or}
use Rattle.common_laws.specs.Maps.{Contents}
use Rattle.catalog_types.specs.declared.catalogue.Container.{Container}
use Rattle.del_vector.specs.declared.mark.Mark.{Mark}
use Rattle.stored_rows.specs.Held.{HoldsVector}
use Rattle.container_draft.specs.Draft.{Drafted}

-- It has the rows of the draft and stores so many columns; its files have the draft's numbers, and its delete vector, if it has one,
-- the number `next`; `after` is the next one.
pub record IsFinished (columns height next after : ℕ) (d : Drafted) (k : Container) : Type 0 where
  pub some : 1 ≤ k.rows
  pub rows : k.rows ≡ length d.rows
  pub stored : k.stored ≡ columns
  pub base : k.base ≡ d.base
  pub level : k.level ≡ height
  pub vector : IfSome k.marks (λ n. n ≡ next)
  pub ends : after ≡ next + option_map_or (λ _. 1) k.marks 0

-- or none where it has no rows
abbrev pub AreFinished : ℕ → ℕ → ℕ → ℕ → Drafted → Option Container → Type 0
AreFinished columns height next after d None = (d.rows ≡ []) × (after ≡ next)
AreFinished columns height next after d (Some k) = IsFinished columns height next after d k

-- a container has a delete vector on disk
abbrev pub HasVector : Contents → Container → Type 0
HasVector m k = (marks : List Mark) × HoldsVector m k marks
