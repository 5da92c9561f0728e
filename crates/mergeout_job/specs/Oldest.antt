-- The containers that a mergeout takes.
use Rattle.std.specs.Prelude.{ℕ, zero, suc, ◌≡◌, ◌≤◌, ◌==◌, if◌then◌else◌, Bool, List, [], ◌∷◌, length, filter}
use Rattle.std.specs.List.{All}
use Rattle.catalog_types.specs.declared.catalogue.Container.{Container}
use Rattle.merge_rows.specs.Inputs.{chosen}

abbrev pub is_level : ℕ → Container → Bool
is_level level k = k.level == level

-- the oldest so many of a level, where the oldest container stands first
abbrev pub oldest : ℕ → ℕ → List Container → List Bool
oldest zero level ks = []
oldest (suc n) level [] = []
oldest (suc n) level (k ∷ ks) = is_level level k ∷ oldest (if is_level level k then n else suc n) level ks

-- there are four of a level
abbrev pub HasFour : ℕ → List Container → Type 0
HasFour level ks = 4 ≤ length (filter (is_level level) ks)

-- flags choose four containers, of one level
pub record AreFour (height : ℕ) (inputs : List Bool) (ks : List Container) : Type 0 where
  pub within : length inputs ≤ length ks
  pub four : length (chosen inputs ks) ≡ 4
  pub level : All (λ k. k.level ≡ height) (chosen inputs ks)
