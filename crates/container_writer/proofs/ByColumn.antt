-- Writing one column after the other.
use borrow.Author.Count.{below_more}
use Rattle.std.proofs.Common.{◌≡◌, ℕ, ◌+◌, ◌<◌, Bool, true, false, List, length, get_or, refl, sym, subst, ap, ◌∙◌, arith}
use Rattle.std.specs.Prelude.{◌==◌, Option, Some, Result, Ok, Err, OnOk, pos}
use Rattle.std.proofs.lemmas.List.{length-map}
use Rattle.col_disk.specs.declared.disk.DiskFault.{DiskFault}
use Rattle.col_value.specs.declared.value.Value.TheVariants as value
use Rattle.catalog_types.specs.declared.catalogue.Container.{Container}
use Rattle.common_laws.specs.Maps.{Contents}
use Rattle.col_disk.proofs.Moving.{moved_join, moved_wider}
use Rattle.col_disk.specs.declared.disk.Disk.{Ghosts}
use Rattle.col_disk.specs.Moved.{Moved, NoName, Named, Either}
use Rattle.col_file.specs.Held.{HoldsColumn}
use Rattle.col_value.specs.declared.kinds.Encoding.{Encoding}
use Rattle.col_value.specs.declared.kinds.Encoding.TheVariants.{Auto}
use Rattle.col_value.specs.declared.row.Asked.{Asked}
use Rattle.col_value.specs.declared.value.Value.{Value}
use Rattle.ros_container.specs.Encodings.{Written, encoding_at}
use Rattle.ros_container.specs.Files.{body_of, index_of, IsFileOf}
use Rattle.ros_container.specs.Held.{HoldsContainer}
use Rattle.ros_container.specs.Rows.{stored_values, AreWide, AreWithin}
use Rattle.ros_container.proofs.Kept.{is_file, still_held}
use Rattle.ros_container.proofs.Stored.{stored_column, stored_epochs, epochs_auto}

-- the files of one column more moved
pub moved_more : {D : Type 0} (disk : Ghosts D) (base columns i : ℕ) {old mid new : D} → i < columns + 1 → Moved disk (IsFileOf base columns) NoName old mid
    → Moved disk (Either (Named (body_of base i)) (Named (index_of base i))) NoName mid new → Moved disk (IsFileOf base columns) NoName old new
moved_more disk base columns i lt first second = moved_join disk first (moved_wider disk (is_file base columns i lt) (λ q is. is) second)

-- the first columns are held, and the next one
pub held_more : {D : Type 0} (disk : Ghosts D) (encoding : ℕ → Encoding) (base i rows : ℕ) (values : ℕ → List Value) {mid new : D} → Moved disk (Either (Named (body_of base i)) (Named (index_of base i))) NoName mid new
    → ((j : ℕ) → j < i → (m : Contents) → disk.holds mid ≡ Some m → HoldsColumn (encoding j) (body_of base j) (index_of base j) rows m (values j))
    → ((m : Contents) → disk.holds new ≡ Some m → HoldsColumn (encoding i) (body_of base i) (index_of base i) rows m (values i))
    → (j : ℕ) → j < i + 1 → (m : Contents) → disk.holds new ≡ Some m → HoldsColumn (encoding j) (body_of base j) (index_of base j) rows m (values j)
held_more disk encoding base i rows values {mid} {new} moved before here =
    below_more (λ (j : ℕ). (m : Contents) → disk.holds new ≡ Some m → HoldsColumn (encoding j) (body_of base j) (index_of base j) rows m (values j)) i
    (λ j lt. still_held (encoding j) base i j rows (values j) (disk.holds mid) (disk.holds new) lt moved.contents (before j lt)) here

-- the same column, told of an entry
at_entry : (e d : Encoding) (base k_base i j rows k_rows : ℕ) (m : Contents) (vs ws : List Value) → e ≡ d → i ≡ j → k_base ≡ base → k_rows ≡ rows → vs ≡ ws
    → HoldsColumn e (body_of base i) (index_of base i) rows m vs → HoldsColumn d (body_of k_base j) (index_of k_base j) k_rows m ws
at_entry e d base k_base i j rows k_rows m vs ws same_encoding same_place same_base same_rows same held = rw (← same_encoding, ← same_place, same_base, same_rows, ← same) held

-- all columns are held
pub all_held : (base columns count : ℕ) (written : List Written) (m : Contents) (rows : List Asked) (k : Container) → length written ≡ columns
    → ((j : ℕ) → j < columns + 1 → HoldsColumn (encoding_at written j) (body_of base j) (index_of base j) count m (stored_values columns j rows))
    → AreWide columns rows → k.base ≡ base → k.rows ≡ count → k.stored ≡ columns → AreWithin k rows → HoldsContainer m written k rows
all_held base columns count written m rows k long held wide same_base same_rows stored within =
    let last : encoding_at written columns ≡ Auto = ap (encoding_at written) (sym long) ∙ epochs_auto written in
    record {
      each = λ i lt. at_entry _ _ base k.base i i count k.rows m _ _ refl refl same_base same_rows (stored_column columns i rows (omega (arith, lt, stored))) (held i (omega (arith, lt, stored)));
      defaults = λ i behind lt. absurd (omega (arith, behind, lt, stored, long));
      epochs = at_entry _ _ base k.base columns k.stored count k.rows m _ _ last (sym stored) same_base same_rows (stored_epochs columns rows) (held columns (omega arith));
      wide = subst (λ (n : ℕ). AreWide n rows) (sym long) wide;
      within = within;
    }

-- a column of a container holds a value for each row
pub stored_length : (columns i : ℕ) (rows : List Asked) → length (stored_values columns i rows) ≡ length rows
stored_length columns i rows = there (i == columns) refl
  where
    there : (b : Bool) → (i == columns) ≡ b → length (stored_values columns i rows) ≡ length rows
    there true is = rw is (length-map rows (λ (a : Asked). value.Int (pos a.ins)))
    there false is = rw is (length-map rows (λ (a : Asked). get_or a.row i value.Null))

-- what was made for a column is what a container holds of it
pub stored_same : (n columns i : ℕ) (rows : List Asked) (vs ws : List Value) → vs ≡ ws → ws ≡ stored_values n i rows → n ≡ columns → vs ≡ stored_values columns i rows
stored_same n columns i rows vs ws slice made same = slice ∙ made ∙ ap (λ (k : ℕ). stored_values k i rows) same

-- the same column, by its own names
pub held_of : (e d : Encoding) (body index b x count : ℕ) (vs ws : List Value) (holds : Option Contents) (result : Result (Unit {0}) DiskFault) → e ≡ d → body ≡ b → index ≡ x → vs ≡ ws → length ws ≡ count
    → OnOk result ((m : Contents) → holds ≡ Some m → HoldsColumn e body index (length vs) m vs) → OnOk result ((m : Contents) → holds ≡ Some m → HoldsColumn d b x count m ws)
held_of e d body index b x count vs ws holds (Err fault) same_encoding same_body same_index same long held = tt
held_of e d body index b x count vs ws holds (Ok done) same_encoding same_body same_index same long held = λ m told. rw (← same_encoding, ← same_body, ← same_index, ← long, ← same) (held m told)
