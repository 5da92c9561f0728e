-- Rows that were written as one container.
use Rattle.std.specs.Prelude.{ℕ, ◌≡◌, ◌≤◌, ◌+◌, ◌*◌, ◌^◌, List, [], ◌∷◌, Option, Some, None, IfSome}
use Rattle.common_laws.specs.Bags.{SameBag}
use Rattle.common_laws.specs.Maps.{Contents}
use Rattle.col_value.specs.declared.row.Stamped.{Stamped}
use Rattle.catalog_types.specs.declared.catalogue.Container.{Container}
use Rattle.catalog_types.specs.Numbers.{file_count, container_count}
use Rattle.del_vector.specs.declared.mark.Mark.{Mark}
use Rattle.del_vector.specs.Marks.{epoch_at}
use Rattle.stored_rows.specs.Held.{HoldsVector, HoldsMarked, HoldsRows, greatest_epoch}
use Rattle.ros_container.specs.Encodings.{Written}

-- the list of one container, or of none
abbrev pub listed : Option Container → List Container
listed None = []
listed (Some k) = k ∷ []

-- the listed containers hold these rows, in some order
abbrev pub HoldsBag : Contents → List Written → List Container → List Stamped → Type 0
HoldsBag m written ks rows = (held : List Stamped) × HoldsRows m written ks held × SameBag rows held

-- the files of a container hold these rows, deleted by its delete vector
abbrev pub HoldsOne : Contents → List Written → Container → List Stamped → Type 0
HoldsOne m written k rows = (marks : List Mark) × HoldsVector m k marks × HoldsMarked m written k (epoch_at marks) rows

-- the entry of a container with these marks, whose vector has this number where there is a mark
abbrev pub vector_number : ℕ → List Mark → Option ℕ
vector_number n [] = None
vector_number n (e ∷ marks) = Some n

abbrev pub with_vector : ℕ → List Mark → Container → Container
with_vector n marks k = record k { marks = vector_number n marks; greatest_mark = greatest_epoch marks }

-- data files of a number or a later one
abbrev pub DataFrom : ℕ → ℕ → Type 0
DataFrom base q = (n : ℕ) × (base ≤ n) × (q ≡ 4 * n)

-- a container that was made: it has a row and stores so many columns; its files have the numbers from `next` on, its delete vector the one
-- behind those, and `after` is the next one
pub record IsNumbered (columns next after : ℕ) (k : Container) : Type 0 where
  pub rows : 1 ≤ k.rows
  pub stored : k.stored ≡ columns
  pub base : k.base ≡ next
  pub vector : IfSome k.marks (λ n. n ≡ next + file_count columns)
  pub ends : after ≡ next + container_count k
  pub below : after ≤ 2 ^ 62

abbrev pub AreNumbered : ℕ → ℕ → ℕ → Option Container → Type 0
AreNumbered columns next after None = after ≡ next
AreNumbered columns next after (Some k) = IsNumbered columns next after k
