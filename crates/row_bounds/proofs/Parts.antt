-- Where an AND is true, so is each part of it.
use Rattle.std.proofs.Common.{◌≡◌, ℕ, ◌<◌, Bool, true, false, List, [], ◌∷◌, length, get_or, map, fold, Option, Some, None, refl, sym, ap, ap₂, ◌∙◌}
use Rattle.std.specs.Prelude.{◌&&◌}
use Rattle.std.specs.List.{list_all}
use Rattle.std.proofs.lemmas.List.Folds.{list_all-map, list_all_at}
use Rattle.col_value.specs.declared.value.Value.{Value}
use Rattle.col_value.specs.declared.wide.Wide.{Wide}
use Rattle.col_value.specs.declared.wide.Wide.TheVariants as wide
use Rattle.sql_bound.specs.declared.expr.Expr.{Expr}
use Rattle.sql_bound.specs.declared.expr.Expr.TheFolds.{fold-roll-Expr}
use Rattle.sql_bound.specs.declared.expr.Expr.TheOpen.{Expr-F}
use Rattle.sql_bound.specs.declared.expr.Expr.TheVariants as expr
use Rattle.sql_bound.specs.Outputs.{is_kept}
use Rattle.sql_bound.specs.Values.{all_of, both_hold, is_true, of_row, term_step, truth, truth_in, value_of, value_step}

both_true : (a b : Option Bool) → both_hold a b ≡ Some true → (a ≡ Some true) × (b ≡ Some true)
both_true (Some false) b e = absurd cc
both_true (Some true) b e = (refl, e)
both_true None None e = absurd cc
both_true None (Some false) e = absurd cc
both_true None (Some true) e = absurd cc

pub truth_told : (o : Option Bool) → is_true (truth o) ≡ true → o ≡ Some true
truth_told None e = absurd cc
truth_told (Some b) e = ap Some e

pub told_true : (w : Wide) → truth_in w ≡ Some true → is_true w ≡ true
told_true wide.Null e = absurd cc
told_true (wide.Bool true) e = refl
told_true (wide.Bool false) e = absurd cc
told_true (wide.Int n) e = absurd cc
told_true (wide.Date d) e = absurd cc
told_true (wide.Text t) e = absurd cc

all_told : (so_far : Option Bool) (ws : List Wide) → fold both_hold so_far (map truth_in ws) ≡ Some true → (so_far ≡ Some true) × (list_all is_true ws ≡ true)
all_told so_far [] e = (e, refl)
all_told so_far (w ∷ ws) e =
    let rest = all_told (both_hold so_far (truth_in w)) ws e in
    let here = both_true so_far (truth_in w) rest.0 in
    (here.0, ap₂ (λ (a b : Bool). a && b) (told_true w here.1) rest.1)

pub parts_hold : (row : List Value) (parts : List Expr) → is_true (all_of (map (value_of (of_row row)) parts)) ≡ true → is_kept parts row ≡ true
parts_hold row parts e =
    sym (list_all-map is_true (value_of (of_row row)) parts)
    ∙ (all_told (Some true) (map (value_of (of_row row)) parts) (truth_told (fold both_hold (Some true) (map truth_in (map (value_of (of_row row)) parts))) e)).1

pub part_holds : (row : List Value) (parts : List Expr) (i : ℕ) (part : Expr) → i < length parts → part ≡ get_or parts i part → is_kept parts row ≡ true → is_true (value_of (of_row row) part) ≡ true
part_holds row parts i part lt is kept = by (is_true (value_of (of_row row) part)) refl
  where
    by : (b : Bool) → is_true (value_of (of_row row) part) ≡ b → is_true (value_of (of_row row) part) ≡ true
    by true told = told
    by false told =
        let none : is_kept parts row ≡ false =
        list_all_at (λ (e : Expr). is_true (value_of (of_row row) e)) parts i part lt (ap (λ (e : Expr). is_true (value_of (of_row row) e)) (sym is) ∙ told) in
        absurd (cc)

and_value : (row : List Value) (parts : List Expr) → value_of (of_row row) (expr.And parts) ≡ all_of (map (value_of (of_row row)) parts)
and_value row parts = ap (value_of (of_row row)) (sym (expr.rolls-And parts)) ∙ fold-roll-Expr Wide Wide (value_step (of_row row)) term_step (Expr-F.And parts)

pub and_holds : (row : List Value) (e : Expr) (parts : List Expr) → e ≡ expr.And parts → is_true (value_of (of_row row) e) ≡ true → is_kept parts row ≡ true
and_holds row e parts is told = parts_hold row parts (ap is_true (sym (and_value row parts)) ∙ ap (λ (x : Expr). is_true (value_of (of_row row) x)) (sym is) ∙ told)
