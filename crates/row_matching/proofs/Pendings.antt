-- What a session has changed in a table, by its name.
use Rattle.std.proofs.Common.{◌≡◌, ℕ, Bool, true, false, cond, List, [], ◌∷◌, Option, Some, refl, ap, ◌∙◌}
use Rattle.std.specs.Prelude.{bytes_eq}
use Rattle.std.specs.Option.{option_map_or}
use Rattle.col_value.specs.declared.row.Asked.{Asked}
use Rattle.col_value.specs.declared.value.Value.{Value}
use Rattle.db_model.specs.State.{Changes, pending_deletes, pending_rows}
use Rattle.db_model.specs.Locks.{changes_on}

abbrev no_rows : List (List Value)
no_rows = []

abbrev no_deletes : List Asked
no_deletes = []

rows_found : (name : List ℕ) (changes : List Changes) → option_map_or (λ c. c.rows) (changes_on name changes) no_rows ≡ pending_rows name changes
rows_found name [] = refl
rows_found name (c ∷ changes) = by (bytes_eq c.table name) (rows_found name changes)
  where
    by : (b : Bool) → option_map_or (λ x. x.rows) (changes_on name changes) no_rows ≡ pending_rows name changes
        → option_map_or (λ x. x.rows) (cond b (Some c) (changes_on name changes)) no_rows ≡ cond b c.rows (pending_rows name changes)
    by true more = refl
    by false more = more

deletes_found : (name : List ℕ) (changes : List Changes) → option_map_or (λ c. c.deletes) (changes_on name changes) no_deletes ≡ pending_deletes name changes
deletes_found name [] = refl
deletes_found name (c ∷ changes) = by (bytes_eq c.table name) (deletes_found name changes)
  where
    by : (b : Bool) → option_map_or (λ x. x.deletes) (changes_on name changes) no_deletes ≡ pending_deletes name changes
        → option_map_or (λ x. x.deletes) (cond b (Some c) (changes_on name changes)) no_deletes ≡ cond b c.deletes (pending_deletes name changes)
    by true more = refl
    by false more = more

pub rows_on : (name : List ℕ) (changes : List Changes) (o : Option Changes) → o ≡ changes_on name changes → option_map_or (λ c. c.rows) o no_rows ≡ pending_rows name changes
rows_on name changes o is = ap (λ (x : Option Changes). option_map_or (λ c. c.rows) x no_rows) is ∙ rows_found name changes

pub deletes_on : (name : List ℕ) (changes : List Changes) (o : Option Changes) → o ≡ changes_on name changes → option_map_or (λ c. c.deletes) o no_deletes ≡ pending_deletes name changes
deletes_on name changes o is = ap (λ (x : Option Changes). option_map_or (λ c. c.deletes) x no_deletes) is ∙ deletes_found name changes
