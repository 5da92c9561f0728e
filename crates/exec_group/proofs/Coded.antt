-- Keys that codes tell.
use Rattle.std.proofs.Common.{◌≡◌, ℕ, ◌≤◌, List, [], ◌∷◌, length, get_or, Option, Some, None, refl, sym, ap, ap₂, ◌∙◌, arith, Result, Ok, Err}
use Rattle.std.specs.Prelude.{slice_index_or, IfOk}
use Rattle.std.specs.Option.{IfSome}
use Rattle.col_value.specs.declared.value.Value.{Value}
use Rattle.col_value.specs.declared.value.Value.TheVariants as value
use Rattle.sql_bound.specs.Outputs.{keys_of}
use Rattle.exec_group.specs.Codes.{Tells}
use Rattle.exec_group.specs.Columns.{row_of}

pub two_keys : (keys : List ℕ) → 2 ≤ length keys → length keys ≤ 2 → keys ≡ get_or keys 0 0 ∷ get_or keys 1 0 ∷ []
two_keys [] some few = absurd (omega (arith, some))
two_keys (j ∷ []) some few = absurd (omega (arith, some))
two_keys (j ∷ k ∷ []) some few = refl
two_keys (j ∷ k ∷ l ∷ keys) some few = absurd (omega (arith, few))

pub if_both : {X : Type 0} (o : Option X) (P Q R : X → Type 0) → ((x : X) → P x → Q x → R x) → IfSome o P → IfSome o Q → IfSome o R
if_both None P Q R joins p q = p
if_both (Some x) P Q R joins p q = joins x p q

pub if_ok : {X E : Type 0} (r : Result X E) (P Q : X → Type 0) → ((x : X) → P x → Q x) → IfOk r P → IfOk r Q
if_ok (Ok x) P Q wider p = wider x p
if_ok (Err e) P Q wider p = p

module _ (columns : List (Option (List Value))) (code : ℕ → ℕ) where
  abbrev values : ℕ → ℕ → Value
  values column p = slice_index_or (row_of columns p) column value.Null

  pub one_told : (keys : List ℕ) (column : ℕ) → keys ≡ column ∷ [] → Tells code (values column) → Tells code (λ p. keys_of keys (row_of columns p))
  one_told keys column are tells a b same =
      ap (λ (ks : List ℕ). keys_of ks (row_of columns a)) are ∙ ap (λ (v : Value). v ∷ []) (tells a b same) ∙ sym (ap (λ (ks : List ℕ). keys_of ks (row_of columns b)) are)

  pub two_told : (keys : List ℕ) (first second : ℕ) (left right : ℕ → ℕ) → keys ≡ first ∷ second ∷ [] → Tells left (values first) → Tells right (values second) → Tells code left → Tells code right
      → Tells code (λ p. keys_of keys (row_of columns p))
  two_told keys first second left right are one two to_left to_right a b same =
      ap (λ (ks : List ℕ). keys_of ks (row_of columns a)) are
      ∙ ap₂ (λ (v w : Value). v ∷ w ∷ []) (one a b (to_left a b same)) (two a b (to_right a b same))
      ∙ sym (ap (λ (ks : List ℕ). keys_of ks (row_of columns b)) are)
