-- What an UPDATE sets, over rows in any order.
use Rattle.std.proofs.Common.{◌≡◌, ℕ, ◌+◌, Bool, true, false, cond, List, [], ◌∷◌, map, filter, Option, refl, sym, ap, ap₂, ◌∙◌, arith}
use Rattle.std.specs.Prelude.{◌==◌, ◌||◌, nat_lt, count_by, option_map}
use Rattle.std.specs.List.{flat_map, enumerate_from, list_any}
use Rattle.std.proofs.lemmas.Bool.Decides.{nat_tests}
use Rattle.std.proofs.lemmas.List.Concat.{flat_map-cons}
use Rattle.std.proofs.lemmas.List.Folds.{list_any-append}
use Rattle.common_laws.specs.Bags.{SameBag}
use Rattle.common_laws.proofs.BagLaws.{bag_map, count_cons}
use Rattle.col_value.specs.declared.column.Column.{Column}
use Rattle.col_value.specs.declared.value.Value.{Value}
use Rattle.col_value.specs.declared.wide.Wide.{Wide}
use Rattle.sql_tree.specs.declared.refusal.Refusal.{Refusal}
use Rattle.sql_bound.specs.declared.expr.Expr.{Expr}
use Rattle.sql_binding.specs.Firsts.{first_of, given_where}
use Rattle.sql_binding.specs.Inserts.{first_such, is_out_of_range, is_too_long, is_refused_null}
use Rattle.db_model.specs.Events.{set_row}
use Rattle.db_model.specs.Refusals.{all_pairs, pairs_refusal, set_pairs}
use Rattle.row_setting.proofs.Flawed.{first_cons, worth_in}

-- a test holds of some element of both of two equal bags, or of none
any_counted : {X : Type 0} (p : X → Bool) (xs ys : List X) → SameBag xs ys → list_any p xs ≡ list_any p ys
any_counted p xs ys same = positive xs ∙ ap (nat_lt 0) (same.counts p) ∙ sym (positive ys)
  where
    more : (b t : Bool) (n m : ℕ) → n ≡ cond b 1 0 + m → t ≡ nat_lt 0 m → (b || t) ≡ nat_lt 0 n
    more true t n m e h = grind (arith, nat_tests)
    more false t n m e h = let same : n ≡ m = omega arith in h ∙ ap (nat_lt 0) (sym same)

    positive : (zs : List _) → list_any p zs ≡ nat_lt 0 (count_by p zs)
    positive [] = refl
    positive (z ∷ zs) = more (p z) (list_any p zs) (count_by p (z ∷ zs)) (count_by p zs) (count_cons p z zs) (positive zs)

any_set : (p : Column × Wide → Bool) (column : Column) (rows others : List (List Value)) (sets : List (ℕ × Expr)) → SameBag rows others
    → list_any p (flat_map (λ s. map (worth_in column s) rows) sets) ≡ list_any p (flat_map (λ s. map (worth_in column s) others) sets)
any_set p column rows others [] same = refl
any_set p column rows others (s ∷ sets) same =
    let here = map (worth_in column s) rows in
    let there = map (worth_in column s) others in
    let behind = flat_map (λ (x : ℕ × Expr). map (worth_in column x) rows) sets in
    let beyond = flat_map (λ (x : ℕ × Expr). map (worth_in column x) others) sets in
    ap (list_any p) (flat_map-cons (λ (x : ℕ × Expr). map (worth_in column x) rows) s sets) ∙ list_any-append p here behind
    ∙ ap₂ (λ (a b : Bool). a || b) (any_counted p here there (bag_map (worth_in column s) rows others same)) (any_set p column rows others sets same)
    ∙ sym (list_any-append p there beyond) ∙ sym (ap (list_any p) (flat_map-cons (λ (x : ℕ × Expr). map (worth_in column x) others) s sets))

first_same : (p : Column × Wide → Bool) (sets : List (ℕ × Expr)) (rows others : List (List Value)) (cs : List (ℕ × Column)) → SameBag rows others
    → first_such p (flat_map (set_pairs sets rows) cs) ≡ first_such p (flat_map (set_pairs sets others) cs)
first_same p sets rows others [] same = refl
first_same p sets rows others (c ∷ cs) same =
    first_cons p sets rows c cs
    ∙ ap₂ (λ (b : Bool) (o : Option (List ℕ)). first_of (given_where b c.1.name) o) (any_set p c.1 rows others (filter (λ s. s.0 == c.0) sets) same) (first_same p sets rows others cs same)
    ∙ sym (first_cons p sets others c cs)

pub refused_alike : (sets : List (ℕ × Expr)) (columns : List Column) (rows others : List (List Value)) → SameBag rows others → pairs_refusal (all_pairs sets rows columns) ≡ pairs_refusal (all_pairs sets others columns)
refused_alike sets columns rows others same =
    let first : (p : Column × Wide → Bool) → first_such p (all_pairs sets rows columns) ≡ first_such p (all_pairs sets others columns) = λ p. first_same p sets rows others (enumerate_from 0 columns) same in
    ap₂ (λ (a b : Option Refusal). first_of a b) (ap (option_map Refusal.IntegerOutOfRange) (first is_out_of_range))
    (ap₂ (λ (a b : Option Refusal). first_of a b) (ap (option_map Refusal.TextTooLong) (first is_too_long)) (ap (option_map Refusal.NullRefused) (first is_refused_null)))

pub set_alike : (sets : List (ℕ × Expr)) (rows others : List (List Value)) → SameBag rows others → SameBag (map (set_row sets) rows) (map (set_row sets) others)
set_alike sets rows others same = bag_map (set_row sets) rows others same
