-- An OR is true exactly where one of its parts is; and one part after the other.
use Rattle.std.proofs.Common.{◌≡◌, ℕ, ◌+◌, ◌<◌, ◌++◌, Bool, true, false, List, [], ◌∷◌, length, get_or, map, take, fold, position, Option, Some, None, is_some, refl, sym, ap, ap₂, ◌∙◌}
use Rattle.std.specs.Prelude.{◌||◌}
use Rattle.std.specs.List.{list_any, slice_index_or}
use Rattle.std.proofs.lemmas.List.Folds.{list_any-append, list_any_at, list_any_more, list_any_none}
use Rattle.std.proofs.lemmas.List.Quantifiers.{position-Some}
use Rattle.col_value.specs.declared.value.Value.{Value}
use Rattle.col_value.specs.declared.value.Value.TheVariants as value
use Rattle.col_value.specs.declared.wide.Wide.{Wide}
use Rattle.col_value.specs.declared.wide.Wide.TheVariants as wide
use Rattle.row_keys.proofs.Places.{none_passes}
use Rattle.row_keys.specs.Keys.{is_same_key}
use Rattle.sql_bound.specs.declared.expr.Expr.{Expr}
use Rattle.sql_bound.specs.declared.expr.Expr.TheFolds.{fold-roll-Expr}
use Rattle.sql_bound.specs.declared.expr.Expr.TheOpen.{Expr-F}
use Rattle.sql_bound.specs.declared.expr.Expr.TheVariants as expr
use Rattle.sql_bound.specs.Values.{is_true, of_row, one_holds, some_of, term_step, truth, truth_in, value_of, value_step}
use Rattle.literal_sets.specs.Sets.{Literals, has_one}

or_behind : (a b c : Bool) → ((a || b) || c) ≡ (a || (b || c))
or_behind true b c = refl
or_behind false b c = refl

or_nothing : (a : Bool) → a ≡ (a || false)
or_nothing true = refl
or_nothing false = refl

one_more : (so_far : Option Bool) (w : Wide) → is_true (truth (one_holds so_far (truth_in w))) ≡ (is_true (truth so_far) || is_true w)
one_more None wide.Null = refl
one_more None (wide.Bool true) = refl
one_more None (wide.Bool false) = refl
one_more None (wide.Int n) = refl
one_more None (wide.Date d) = refl
one_more None (wide.Text t) = refl
one_more (Some true) wide.Null = refl
one_more (Some true) (wide.Bool b) = refl
one_more (Some true) (wide.Int n) = refl
one_more (Some true) (wide.Date d) = refl
one_more (Some true) (wide.Text t) = refl
one_more (Some false) wide.Null = refl
one_more (Some false) (wide.Bool b) = refl
one_more (Some false) (wide.Int n) = refl
one_more (Some false) (wide.Date d) = refl
one_more (Some false) (wide.Text t) = refl

some_true : (so_far : Option Bool) (ws : List Wide) → is_true (truth (fold one_holds so_far (map truth_in ws))) ≡ (is_true (truth so_far) || list_any is_true ws)
some_true so_far [] = or_nothing (is_true (truth so_far))
some_true so_far (w ∷ ws) =
    some_true (one_holds so_far (truth_in w)) ws ∙ ap (λ (b : Bool). b || list_any is_true ws) (one_more so_far w)
    ∙ or_behind (is_true (truth so_far)) (is_true w) (list_any is_true ws)

any_mapped : (row : List Value) (parts : List Expr) → list_any is_true (map (value_of (of_row row)) parts) ≡ list_any (λ e. is_true (value_of (of_row row) e)) parts
any_mapped row [] = refl
any_mapped row (e ∷ parts) = ap (λ (b : Bool). is_true (value_of (of_row row) e) || b) (any_mapped row parts)

or_value : (row : List Value) (parts : List Expr) → value_of (of_row row) (expr.Or parts) ≡ some_of (map (value_of (of_row row)) parts)
or_value row parts = ap (value_of (of_row row)) (sym (expr.rolls-Or parts)) ∙ fold-roll-Expr Wide Wide (value_step (of_row row)) term_step (Expr-F.Or parts)

pub or_is : (row : List Value) (e : Expr) (parts : List Expr) → e ≡ expr.Or parts → is_true (value_of (of_row row) e) ≡ list_any (λ e. is_true (value_of (of_row row) e)) parts
or_is row e parts is =
    ap (λ (x : Expr). is_true (value_of (of_row row) x)) is ∙ ap is_true (or_value row parts) ∙ some_true (Some false) (map (value_of (of_row row)) parts) ∙ any_mapped row parts

-- the keys of the first parts, and one more
abbrev pub HaveKeys : List Expr → ℕ → List (List Value) → Type 0
HaveKeys parts column keys = (row : List Value) → list_any (λ e. is_true (value_of (of_row row) e)) parts ≡ has_one (record { columns = column ∷ []; keys = keys }) row

pub key_more : (parts : List Expr) (i column : ℕ) (part : Expr) (v : Value) (keys next : List (List Value)) → i < length parts → part ≡ get_or parts i part
    → ((row : List Value) → is_true (value_of (of_row row) part) ≡ is_same_key (v ∷ []) (slice_index_or row column value.Null ∷ [])) → next ≡ keys ++ (v ∷ []) ∷ [] → HaveKeys (take i parts) column keys → HaveKeys (take (i + 1) parts) column next
key_more parts i column part v keys next lt is says next_is have row =
    list_any_more p parts i part lt
    ∙ ap₂ (λ (a b : Bool). a || b) (have row) (ap p (sym is) ∙ says row ∙ or_nothing (k (v ∷ [])))
    ∙ sym (ap (list_any k) next_is ∙ list_any-append k keys ((v ∷ []) ∷ []))
  where
    p : Expr → Bool
    p x = is_true (value_of (of_row row) x)

    k : List Value → Bool
    k key = is_same_key key (slice_index_or row column value.Null ∷ [])

-- a key has a place exactly where there is one
pub has_place : (p : List Value → Bool) (xs : List (List Value)) → is_some (position p xs) ≡ list_any p xs
has_place p xs =
    elim (position p xs) as (λ o. position p xs ≡ o → is_some o ≡ list_any p xs) [
      | None ↦ λ e. sym (list_any_none p xs (λ k d h. none_passes p xs k d e h))
      | Some i ↦ λ e. let at = position-Some p xs i [] e in sym (list_any_at p xs i [] at.0 at.1)
    ] refl
