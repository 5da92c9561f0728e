-- What a query prints that keeps all, and what one keeps whose condition meets NULL.
use Rattle.std.proofs.Common.{◌≡◌, inl, inr, if◌then◌else◌, true, false, List, [], ◌∷◌, map, filter, refl, sym, ap, ◌∙◌, subst}
use Rattle.std.proofs.lemmas.List.Elements.{All-contains}
use Rattle.std.proofs.lemmas.List.Sums.{AllPass-from_list_all}
use Rattle.std.specs.List.{Contains}
use Rattle.std.specs.List.Sorted.{IsPermutation}
use Rattle.col_value.specs.declared.value.Value.{Value}
use Rattle.col_value.specs.declared.wide.Wide.{Wide}
use Rattle.col_value.specs.declared.wide.Wide.TheVariants as wide
use Rattle.expr_value.proofs.Settled.{joins_nothing}
use Rattle.sql_tree.specs.declared.tree.Cmp.{Cmp}
use Rattle.sql_bound.specs.declared.expr.Expr.{Expr}
use Rattle.sql_bound.specs.declared.expr.Expr.TheFolds.{fold-roll-Expr}
use Rattle.sql_bound.specs.declared.expr.Expr.TheOpen.{Expr-F}
use Rattle.sql_bound.specs.declared.expr.Expr.TheVariants as expr
use Rattle.sql_bound.specs.declared.query.BoundQuery.{BoundQuery}
use Rattle.sql_bound.specs.declared.query.BoundWindow.{BoundWindow}
use Rattle.sql_bound.specs.Outputs.{group_scopes, is_kept, kept, output, tuple_scopes, tuples}
use Rattle.sql_bound.specs.Printed.{limited}
use Rattle.sql_bound.specs.Values.{compared, is_null, is_true, of_row, term_step, value_of, value_step, Scope}
use Rattle.query_laws.specs.Laws.{IsBare, PrintsAll, NullIsNotKept}

all_kept : (rows : List (List Value)) → filter (is_kept []) rows ≡ rows
all_kept [] = refl
all_kept (row ∷ rows) = ap (λ (l : List (List Value)). row ∷ l) (all_kept rows)

over_rows : {X Y Z : Type 0} (f : Y → Z) (g : X → Y) (xs : List X) → map f (map g xs) ≡ map (λ x. f (g x)) xs
over_rows f g [] = refl
over_rows {X} {Y} {Z} f g (x ∷ xs) = ap (λ (l : List Z). f (g x) ∷ l) (over_rows f g xs)

bare_output : (q : BoundQuery) → IsBare q → (inputs : List (List (List Value))) → output q inputs ≡ map (λ row. map (value_of (of_row row)) q.items) (tuples inputs)
bare_output q b inputs =
    let items = λ (s : Scope). map (value_of s) q.items in
    ap (λ t. map items (if t then group_scopes q (kept q inputs) else tuple_scopes q.windows q (kept q inputs))) b.rows
    ∙ ap (λ (ws : List BoundWindow). map items (tuple_scopes ws q (kept q inputs))) b.alone
    ∙ over_rows items of_row (kept q inputs)
    ∙ ap (λ (keep : List Expr). map (λ row. items (of_row row)) (filter (is_kept keep) (tuples inputs))) b.all
    ∙ ap (λ (rows : List (List Value)). map (λ row. items (of_row row)) rows) (all_kept (tuples inputs))

pub prints_all : (q : BoundQuery) → IsBare q → PrintsAll q
prints_all q b inputs listed p =
    let whole : listed ≡ p.sorted = p.front ∙ ap (λ limit. limited limit p.sorted) b.whole in
    subst (λ (rows : List (List Wide)). IsPermutation rows listed) (bare_output q b inputs)
    (subst (IsPermutation (output q inputs)) (sym whole) p.same)

null_told : (w : Wide) → is_null w ≡ true → w ≡ wide.Null
null_told wide.Null e = refl
null_told (wide.Bool b) e = cc
null_told (wide.Int n) e = cc
null_told (wide.Date d) e = cc
null_told (wide.Text t) e = cc

not_kept : (keep : List Expr) (row : List Value) (e : Expr) → Contains keep e → is_true (value_of (of_row row) e) ≡ false → is_kept keep row ≡ false
not_kept keep row e there h =
    elim (is_kept keep row) as (λ t. is_kept keep row ≡ t → t ≡ false) [
      | true ↦ λ k.
          let here : is_true (value_of (of_row row) e) ≡ true =
          All-contains (λ x. is_true (value_of (of_row row) x) ≡ true) keep e (AllPass-from_list_all (λ x. is_true (value_of (of_row row) x)) keep k) there in
          sym here ∙ h
      | false ↦ λ k. refl
    ] refl

compared_here : (row : List Value) (a : Expr) (c : Cmp) (b : Expr) → value_of (of_row row) (expr.Compare a c b) ≡ compared c (value_of (of_row row) a) (value_of (of_row row) b)
compared_here row a c b =
    ap (value_of (of_row row)) (sym (expr.rolls-Compare a c b)) ∙ fold-roll-Expr Wide Wide (value_step (of_row row)) term_step (Expr-F.Compare a c b)

pub null_not_kept : (keep : List Expr) (row : List Value) → NullIsNotKept keep row
null_not_kept keep row a c b there (inl e) =
    not_kept keep row (expr.Compare a c b) there
    (ap is_true (compared_here row a c b) ∙ ap (λ (w : Wide). is_true (compared c w (value_of (of_row row) b))) (null_told (value_of (of_row row) a) e)
    ∙ (joins_nothing c (value_of (of_row row) b)).0)
null_not_kept keep row a c b there (inr e) =
    not_kept keep row (expr.Compare a c b) there
    (ap is_true (compared_here row a c b) ∙ ap (λ (w : Wide). is_true (compared c (value_of (of_row row) a) w)) (null_told (value_of (of_row row) b) e)
    ∙ (joins_nothing c (value_of (of_row row) a)).1)
