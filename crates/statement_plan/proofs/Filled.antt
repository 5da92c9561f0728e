-- A session with rows more pending has something to commit where there are such rows, or where it had before.
use Rattle.std.proofs.Common.{◌≡◌, ◌≤◌, ◌<◌, ◌-◌, ℕ, Bool, true, false, cond, not, List, [], ◌∷◌, ◌++◌, length, refl, sym, ◌∙◌, ap, subst, arith}
use Rattle.std.specs.Prelude.{◌&&◌, ◌||◌, nat_le, bytes_eq, Option, slice_set}
use Rattle.std.specs.List.{slice_index_or}
use Rattle.std.proofs.lemmas.List.{get_or-set_same}
use Rattle.catalog_types.specs.declared.catalogue.Table as kept
use Rattle.col_value.specs.declared.value.Value.{Value}
use Rattle.sql_tree.specs.declared.refusal.Refusal.{Refusal}
use Rattle.sql_binding.specs.Firsts.{refused_where}
use Rattle.db_model.specs.Events.{rows_pending}
use Rattle.db_model.specs.Refusing.{commit_refusal}
use Rattle.db_model.specs.State.{State, Changes, has_changes, is_empty, joined, with_rows}
use Rattle.statement_plan.specs.Bare.{bare_state}

full : {X : Type 0} (xs ys : List X) (deletes others : Bool)
    → ((not (is_empty (xs ++ ys)) || deletes) || others) ≡ (not (is_empty ys) || ((not (is_empty xs) || deletes) || others))
full [] [] deletes others = refl
full [] (y ∷ ys) deletes others = refl
full (x ∷ xs) [] deletes others = refl
full (x ∷ xs) (y ∷ ys) deletes others = refl

turned : (a b c : Bool) → (a || (b || c)) ≡ (b || (a || c))
turned true true c = refl
turned true false c = refl
turned false true c = refl
turned false false c = refl

alone : (name : List ℕ) (rows : List (List Value)) → has_changes (with_rows name rows []) ≡ (not (is_empty rows) || has_changes [])
alone name [] = refl
alone name (row ∷ rows) = refl

-- whether something is pending in one table
abbrev is_changed : Changes → Bool
is_changed c = not (is_empty c.rows) || not (is_empty c.deletes)

pub filled_changes : (name : List ℕ) (rows : List (List Value)) (changes : List Changes) → has_changes (with_rows name rows changes) ≡ (not (is_empty rows) || has_changes changes)
filled_changes name rows [] = alone name rows
filled_changes name rows (c ∷ changes) = by (bytes_eq c.table name) (filled_changes name rows changes)
  where
    by : (b : Bool) → has_changes (with_rows name rows changes) ≡ (not (is_empty rows) || has_changes changes)
        → has_changes (cond b (joined c rows ∷ changes) (c ∷ with_rows name rows changes)) ≡ (not (is_empty rows) || has_changes (c ∷ changes))
    by true behind = full c.rows rows (not (is_empty c.deletes)) (has_changes changes)
    by false behind = ap (λ (b : Bool). is_changed c || b) behind ∙ turned (is_changed c) (not (is_empty rows)) (has_changes changes)

there : (sessions : List (List Changes)) (current : ℕ) → length sessions ≡ 8 → 1 ≤ current → current ≤ 8 → current - 1 < length sessions
there sessions current eight first last = omega (arith, eight, first, last)

-- why a state whose current session has rows more pending can't commit
pub filled : (tables : List kept.Table) (last mark next : ℕ) (sessions : List (List Changes)) (current : ℕ) (state : State) (name : List ℕ) (rows : List (List Value)) (some : Bool) (why : Option Refusal)
    → bare_state tables last mark next sessions current ≡ state → length sessions ≡ 8 → 1 ≤ current → current ≤ 8
    → some ≡ (not (is_empty rows) || has_changes (slice_index_or sessions (current - 1) [])) → why ≡ refused_where (some && nat_le 9223372036854775807 last) Refusal.EpochsSpent
    → why ≡ commit_refusal (rows_pending name rows state)
filled tables last mark next sessions current state name rows some why view eight first upto has told =
    subst (λ (s : State). why ≡ commit_refusal (rows_pending name rows s)) view
    (told ∙ ap (λ (b : Bool). refused_where (b && nat_le 9223372036854775807 last) Refusal.EpochsSpent) (has ∙ sym (filled_changes name rows own) ∙ ap has_changes (sym put)))
  where
    own : List Changes
    own = slice_index_or sessions (current - 1) []

    put : slice_index_or (slice_set sessions (current - 1) (with_rows name rows own)) (current - 1) [] ≡ with_rows name rows own
    put = get_or-set_same sessions (current - 1) (with_rows name rows own) [] (there sessions current eight first upto)
