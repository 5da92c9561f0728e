-- The pending rows of one table taken out of a session's changes.
use Rattle.std.proofs.Common.{◌≡◌, ℕ, Bool, true, false, cond, List, [], ◌∷◌, get_or, refl, sym, ◌∙◌, ap}
use Rattle.std.specs.Prelude.{Option, Some, None, bytes_eq}
use Rattle.std.specs.Option.{option_map_or}
use Rattle.std.proofs.Math.ListN.{set}
use Rattle.std.proofs.lemmas.Slice.Eq.{bytes_eq-Decides}
use Rattle.col_value.specs.declared.value.Value.{Value}
use Rattle.db_model.specs.State.{Changes, pending_rows}
use Rattle.db_model.specs.Locks.{changes_on}
use Rattle.db_model.specs.Events.{change_of}
use Rattle.txn_core.specs.Marking.{emptied, without_rows}
use Rattle.txn_core.specs.Places.{StandsAt, StandsNowhere}
use Rattle.txn_core.proofs.Changed.{place_changed}

-- ---- what is pending in a table

abbrev pub rows_in : Option Changes → List (List Value)
rows_in o = option_map_or (λ c. c.rows) o []

pub rows_on : (name : List ℕ) (changes : List Changes) → rows_in (changes_on name changes) ≡ pending_rows name changes
rows_on name [] = refl
rows_on name (c ∷ changes) = by (bytes_eq c.table name) (rows_on name changes)
  where
    by : (b : Bool) → rows_in (changes_on name changes) ≡ pending_rows name changes → rows_in (cond b (Some c) (changes_on name changes)) ≡ cond b c.rows (pending_rows name changes)
    by true rest = refl
    by false rest = rest

-- ---- what is left

left_on : (name : List ℕ) (changes : List Changes) (x : Changes) → changes_on name changes ≡ Some x → change_of name emptied changes ≡ without_rows name changes
left_on name [] x is = absurd (cc)
left_on name (c ∷ changes) x is = by (bytes_eq c.table name) is (left_on name changes x)
  where
    by : (b : Bool) → cond b (Some c) (changes_on name changes) ≡ Some x → (changes_on name changes ≡ Some x → change_of name emptied changes ≡ without_rows name changes)
        → cond b (emptied c ∷ changes) (c ∷ change_of name emptied changes) ≡ cond b (emptied c ∷ changes) (c ∷ without_rows name changes)
    by true here rest = refl
    by false here rest = ap (λ (cs : List Changes). c ∷ cs) (rest here)

left_none : (name : List ℕ) (changes : List Changes) → changes_on name changes ≡ None → changes ≡ without_rows name changes
left_none name [] is = refl
left_none name (c ∷ changes) is = by (bytes_eq c.table name) is (left_none name changes)
  where
    by : (b : Bool) → cond b (Some c) (changes_on name changes) ≡ None → (changes_on name changes ≡ None → changes ≡ without_rows name changes) → c ∷ changes ≡ cond b (emptied c ∷ changes) (c ∷ without_rows name changes)
    by true here rest = absurd (cc)
    by false here rest = ap (λ (cs : List Changes). c ∷ cs) (rest here)

-- in a table of another name as many rows are pending as before
pub others_pending : (name other : List ℕ) (changes : List Changes) → bytes_eq name other ≡ false → pending_rows other (without_rows name changes) ≡ pending_rows other changes
others_pending name other [] differ = refl
others_pending name other (c ∷ changes) differ = by (bytes_eq c.table name) refl (others_pending name other changes differ)
  where
    by : (b : Bool) → bytes_eq c.table name ≡ b → pending_rows other (without_rows name changes) ≡ pending_rows other changes
        → pending_rows other (cond b (emptied c ∷ changes) (c ∷ without_rows name changes)) ≡ cond (bytes_eq c.table other) c.rows (pending_rows other changes)
    by true is rest =
        let same : c.table ≡ name = (bytes_eq-Decides c.table name).0 is in
        let not_it : bytes_eq c.table other ≡ false = ap (λ (n : List ℕ). bytes_eq n other) same ∙ differ in
        ap (λ (b : Bool). cond b [] (pending_rows other changes)) not_it ∙ sym (ap (λ (b : Bool). cond b c.rows (pending_rows other changes)) not_it)
    by false is rest = ap (λ (rows : List (List Value)). cond (bytes_eq c.table other) c.rows rows) rest

-- ---- where the changes of the table stand

pub taken_at : (name : List ℕ) (xs now : List Changes) (i : ℕ) (x : Changes) → xs ≡ now → StandsAt name now i → x ≡ get_or xs i x → x.rows ≡ pending_rows name now
taken_at name xs now i x same at is = ap rows_in (sym (at.there x (is ∙ ap (λ (ys : List Changes). get_or ys i x) same))) ∙ rows_on name now

pub left_at : (name : List ℕ) (xs now : List Changes) (i : ℕ) (x y : Changes) → xs ≡ now → StandsAt name now i → x ≡ get_or xs i x → y ≡ emptied x → set xs i y ≡ without_rows name now
left_at name xs now i x y same at is changed =
    place_changed name emptied xs now i x y same at is changed ∙ left_on name now x (at.there x (is ∙ ap (λ (ys : List Changes). get_or ys i x) same))

pub none_taken : (name : List ℕ) (now : List Changes) → StandsNowhere name now → [] ≡ pending_rows name now
none_taken name now nowhere = ap rows_in (sym nowhere.none) ∙ rows_on name now

pub none_left : (name : List ℕ) (now : List Changes) → StandsNowhere name now → now ≡ without_rows name now
none_left name now nowhere = left_none name now nowhere.none
