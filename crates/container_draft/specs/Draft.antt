-- A container that is written one column after the other.
use Rattle.std.specs.Prelude.{ℕ, ◌≡◌, ◌<◌, ◌≤◌, ◌+◌, List, length}
use Rattle.common_laws.specs.Maps.{Contents}
use Rattle.col_value.specs.declared.row.Asked.{Asked}
use Rattle.col_file.specs.Held.{HoldsColumn}
use Rattle.ros_container.specs.Encodings.{Written, encoding_at}
use Rattle.ros_container.specs.Files.{body_of, index_of}
use Rattle.ros_container.specs.Rows.{stored_values, AreWide}

-- the number from which on the files of its columns have theirs, its rows in their order with the places at which they stood among those
-- that were read, and how many columns are done; the epochs stand behind the others
pub record Drafted : Type 0 where
  pub base : ℕ
  pub places : List ℕ
  pub rows : List Asked
  pub done : ℕ

-- The files of the columns that are done hold their values. Where there are no rows, no file is made.
pub record IsDraft (m : Contents) (written : List Written) (d : Drafted) : Type 0 where
  pub wide : AreWide (length written) d.rows
  pub columns : 0 < length d.rows → (i : ℕ) → i < d.done → i ≤ length written
      → HoldsColumn (encoding_at written i) (body_of d.base i) (index_of d.base i) (length d.rows) m (stored_values (length written) i d.rows)

abbrev pub one_more : Drafted → Drafted
one_more d = record d { done = 1 + d.done }
