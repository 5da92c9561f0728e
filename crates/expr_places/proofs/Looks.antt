-- The parts of a query look at no other columns than those that it uses.
use Rattle.std.proofs.Common.{◌≡◌, ℕ, ◌++◌, Bool, true, false, cond, List, [], ◌∷◌, map, Option, Some, None, refl, sym, ap, ap₂, ◌∙◌, arith, subst}
use Rattle.std.specs.Prelude.{◌==◌, ◌&&◌, ◌||◌}
use Rattle.std.specs.Option.{option_map_or}
use Rattle.std.specs.List.{list_all, list_any, flat_map}
use Rattle.std.proofs.lemmas.Bool.Decides.{nat_tests}
use Rattle.std.proofs.lemmas.List.{append_assoc}
use Rattle.std.proofs.lemmas.List.Concat.{flat_map-cons}
use Rattle.std.proofs.lemmas.List.Folds.{list_all-append, list_any-append}
use Rattle.sql_bound.specs.declared.expr.Expr.{Expr}
use Rattle.sql_bound.specs.declared.expr.BoundTerm.{BoundTerm}
use Rattle.sql_bound.specs.declared.expr.Expr.TheViews.{roll-Expr, roll-BoundTerm}
use Rattle.sql_bound.specs.declared.expr.Expr.TheOpen.{Expr-F, BoundTerm-F}
use Rattle.sql_bound.specs.declared.expr.Expr.TheFolds.{map-Expr, map-BoundTerm, fold-BoundTerm, fold-roll-Expr, fold-roll-BoundTerm, ind-Expr}
use Rattle.sql_bound.specs.declared.query.Aggregate.{Aggregate}
use Rattle.sql_bound.specs.declared.query.BoundQuery.{BoundQuery}
use Rattle.sql_bound.specs.declared.query.BoundWindow.{BoundWindow}
use Rattle.sql_bound.specs.Used.{columns_of, columns_of_window, columns_step, columns_term, is_used, used_columns}
use Rattle.expr_places.specs.Places.{looks_only, looks_step, looks_term, term_looks_only}

pub left : (a b : Bool) → (a && b) ≡ true → a ≡ true
left true b e = refl
left false b e = e

pub right : (a b : Bool) → (a && b) ≡ true → b ≡ true
right true b e = e
right false b e = cc

alone : (b : Bool) → b ≡ (b && true)
alone true = refl
alone false = refl

-- ---- expressions

abbrev columns_of_part : BoundTerm → List ℕ
columns_of_part = fold-BoundTerm (List ℕ) (List ℕ) columns_step columns_term

abbrev IsLooked : (ℕ → Bool) → Expr → Type 0
IsLooked test e = looks_only test e ≡ list_all test (columns_of e)

abbrev IsLookedTerm : (ℕ → Bool) → BoundTerm → Type 0
IsLookedTerm test t = term_looks_only test t ≡ list_all test (columns_of_part t)

all_flat : (test : ℕ → Bool) (xss : List (List ℕ)) → list_all test (flat_map (λ u. u) xss) ≡ list_all (λ b. b) (map (list_all test) xss)
all_flat test [] = refl
all_flat test (xs ∷ xss) =
    ap (list_all test) (flat_map-cons (λ (u : List ℕ). u) xs xss) ∙ list_all-append test xs (flat_map (λ u. u) xss)
    ∙ ap (λ (b : Bool). list_all test xs && b) (all_flat test xss)

same_each : {X : Type 0} (test : ℕ → Bool) (m : X → Bool) (b : X → List ℕ) (ys : List ((x : X) × (m x ≡ list_all test (b x))))
    → map m (map (λ y. y.0) ys) ≡ map (list_all test) (map b (map (λ y. y.0) ys))
same_each test m b [] = refl
same_each test m b (y ∷ ys) = ap₂ ◌∷◌ y.1 (same_each test m b ys)

all_looked : {X : Type 0} (test : ℕ → Bool) (m : X → Bool) (b : X → List ℕ) (ys : List ((x : X) × (m x ≡ list_all test (b x))))
    → list_all (λ b. b) (map m (map (λ y. y.0) ys)) ≡ list_all test (flat_map (λ u. u) (map b (map (λ y. y.0) ys)))
all_looked test m b ys = ap (list_all (λ b. b)) (same_each test m b ys) ∙ sym (all_flat test (map b (map (λ y. y.0) ys)))

level : (test : ℕ → Bool) → (y : Expr-F ((e : Expr) × IsLooked test e) ((t : BoundTerm) × IsLookedTerm test t))
    → looks_step test (map-Expr _ _ _ _ (looks_only test) (term_looks_only test) (map-Expr _ _ _ _ (λ e. e.0) (λ t. t.0) y))
    ≡ list_all test (columns_step (map-Expr _ _ _ _ columns_of columns_of_part (map-Expr _ _ _ _ (λ e. e.0) (λ t. t.0) y)))
level test (Expr-F.Lit w) = refl
level test (Expr-F.Col i) = alone (test i)
level test (Expr-F.Key i) = refl
level test (Expr-F.Agg i) = refl
level test (Expr-F.Neg a) = a.1
level test (Expr-F.Sum ts) = all_looked test (term_looks_only test) columns_of_part ts
level test (Expr-F.Product es) = all_looked test (looks_only test) columns_of es
level test (Expr-F.Compare a c b) = ap₂ (λ (x y : Bool). x && y) a.1 b.1 ∙ sym (list_all-append test (columns_of a.0) (columns_of b.0))
level test (Expr-F.IsNull a) = a.1
level test (Expr-F.Not a) = a.1
level test (Expr-F.And es) = all_looked test (looks_only test) columns_of es
level test (Expr-F.Or es) = all_looked test (looks_only test) columns_of es

rolled : (test : ℕ → Bool) → (x : Expr-F Expr BoundTerm) (y : Expr-F ((e : Expr) × IsLooked test e) ((t : BoundTerm) × IsLookedTerm test t))
    → map-Expr _ _ _ _ (λ e. e.0) (λ t. t.0) y ≡ x → IsLooked test (roll-Expr x)
rolled test x y is =
    let m = fold-roll-Expr Bool Bool (looks_step test) looks_term x in
    let b = fold-roll-Expr (List ℕ) (List ℕ) columns_step columns_term x in
    let l = subst
    (λ (z : Expr-F Expr BoundTerm).
    looks_step test (map-Expr _ _ _ _ (looks_only test) (term_looks_only test) z)
    ≡ list_all test (columns_step (map-Expr _ _ _ _ columns_of columns_of_part z))) is (level test y) in
    m ∙ l ∙ sym (ap (list_all test) b)

rolled_term : (test : ℕ → Bool) → (x : BoundTerm-F Expr BoundTerm) (y : BoundTerm-F ((e : Expr) × IsLooked test e) ((t : BoundTerm) × IsLookedTerm test t))
    → map-BoundTerm _ _ _ _ (λ e. e.0) (λ t. t.0) y ≡ x → IsLookedTerm test (roll-BoundTerm x)
rolled_term test x y is =
    let m = fold-roll-BoundTerm Bool Bool (looks_step test) looks_term x in
    let b = fold-roll-BoundTerm (List ℕ) (List ℕ) columns_step columns_term x in
    let l = subst (λ (z : BoundTerm-F Expr BoundTerm). looks_only test z.part ≡ list_all test (columns_of z.part)) is y.part.1 in
    m ∙ l ∙ sym (ap (list_all test) b)

pub looks_is : (test : ℕ → Bool) (e : Expr) → IsLooked test e
looks_is test = ind-Expr (IsLooked test) (IsLookedTerm test) (rolled test) (rolled_term test)

pub exprs_look : (test : ℕ → Bool) (es : List Expr) → list_all (looks_only test) es ≡ list_all test (flat_map columns_of es)
exprs_look test [] = refl
exprs_look test (e ∷ es) =
    ap₂ (λ (x y : Bool). x && y) (looks_is test e) (exprs_look test es) ∙ sym (list_all-append test (columns_of e) (flat_map columns_of es))
    ∙ ap (list_all test) (sym (flat_map-cons columns_of e es))

-- ---- the parts of a query

abbrev pub argument_looks : (ℕ → Bool) → Aggregate → Bool
argument_looks test a = option_map_or (looks_only test) a.arg true

abbrev pub aggregate_columns : Aggregate → List ℕ
aggregate_columns a = option_map_or columns_of a.arg []

argument_is : (test : ℕ → Bool) (o : Option Expr) → option_map_or (looks_only test) o true ≡ list_all test (option_map_or columns_of o [])
argument_is test None = refl
argument_is test (Some e) = looks_is test e

pub arguments_look : (test : ℕ → Bool) (aggs : List Aggregate) → list_all (argument_looks test) aggs ≡ list_all test (flat_map aggregate_columns aggs)
arguments_look test [] = refl
arguments_look test (a ∷ aggs) =
    ap₂ (λ (x y : Bool). x && y) (argument_is test a.arg) (arguments_look test aggs) ∙ sym (list_all-append test (aggregate_columns a) (flat_map aggregate_columns aggs))
    ∙ ap (list_all test) (sym (flat_map-cons aggregate_columns a aggs))

-- the columns of a window pass the test
abbrev pub window_looks : (ℕ → Bool) → BoundWindow → Bool
window_looks test w = list_all test (columns_of_window w)

pub windows_look_at : (test : ℕ → Bool) (windows : List BoundWindow) → list_all (window_looks test) windows ≡ list_all test (flat_map columns_of_window windows)
windows_look_at test [] = refl
windows_look_at test (w ∷ windows) =
    ap (λ (b : Bool). window_looks test w && b) (windows_look_at test windows) ∙ sym (list_all-append test (columns_of_window w) (flat_map columns_of_window windows))
    ∙ ap (list_all test) (sym (flat_map-cons columns_of_window w windows))

-- each column of a list stands in the list
found : (front : List ℕ) (x : ℕ) (xs : List ℕ) → list_any (λ u. u == x) (front ++ x ∷ xs) ≡ true
found front x xs = list_any-append (λ u. u == x) front (x ∷ xs) ∙ by (list_any (λ u. u == x) front)
  where
    itself : (x == x) ≡ true
    itself = grind (arith, nat_tests)

    by : (b : Bool) → (b || list_any (λ u. u == x) (x ∷ xs)) ≡ true
    by true = refl
    by false = ap (λ (t : Bool). t || list_any (λ u. u == x) xs) itself

all_among : (front xs : List ℕ) → list_all (λ c. list_any (λ u. u == c) (front ++ xs)) xs ≡ true
all_among front [] = refl
all_among front (x ∷ xs) =
    let rest = all_among (front ++ x ∷ []) xs in
    let whole : ((front ++ x ∷ []) ++ xs) ≡ (front ++ x ∷ xs) = append_assoc front (x ∷ []) xs in
    ap₂ (λ (a b : Bool). a && b) (found front x xs)
    (subst (λ (ys : List ℕ). list_all (λ c. list_any (λ u. u == c) ys) xs ≡ true) whole rest)

all_used : (q : BoundQuery) → list_all (is_used q) (used_columns q) ≡ true
all_used q = all_among [] (used_columns q)

abbrev shown_columns : BoundQuery → List ℕ
shown_columns q = cond q.grouped [] (flat_map columns_of q.items)

abbrev behind_aggs : BoundQuery → List ℕ
behind_aggs q = flat_map columns_of_window q.windows ++ shown_columns q

abbrev behind_keys : BoundQuery → List ℕ
behind_keys q = flat_map aggregate_columns q.aggs ++ behind_aggs q

abbrev behind_keep : BoundQuery → List ℕ
behind_keep q = q.keys ++ behind_keys q

keep_and : (q : BoundQuery) → (list_all (is_used q) (flat_map columns_of q.keep) && list_all (is_used q) (behind_keep q)) ≡ true
keep_and q = sym (list_all-append (is_used q) (flat_map columns_of q.keep) (behind_keep q)) ∙ all_used q

keys_and : (q : BoundQuery) → (list_all (is_used q) q.keys && list_all (is_used q) (behind_keys q)) ≡ true
keys_and q = sym (list_all-append (is_used q) q.keys (behind_keys q)) ∙ right (list_all (is_used q) (flat_map columns_of q.keep)) (list_all (is_used q) (behind_keep q)) (keep_and q)

aggs_and : (q : BoundQuery) → (list_all (is_used q) (flat_map aggregate_columns q.aggs) && list_all (is_used q) (behind_aggs q)) ≡ true
aggs_and q =
    sym (list_all-append (is_used q) (flat_map aggregate_columns q.aggs) (behind_aggs q)) ∙ right (list_all (is_used q) q.keys) (list_all (is_used q) (behind_keys q)) (keys_and q)

windows_and : (q : BoundQuery) → (list_all (is_used q) (flat_map columns_of_window q.windows) && list_all (is_used q) (shown_columns q)) ≡ true
windows_and q =
    sym (list_all-append (is_used q) (flat_map columns_of_window q.windows) (shown_columns q))
    ∙ right (list_all (is_used q) (flat_map aggregate_columns q.aggs)) (list_all (is_used q) (behind_aggs q)) (aggs_and q)

pub keep_looks : (q : BoundQuery) → list_all (looks_only (is_used q)) q.keep ≡ true
keep_looks q = exprs_look (is_used q) q.keep ∙ left (list_all (is_used q) (flat_map columns_of q.keep)) (list_all (is_used q) (behind_keep q)) (keep_and q)

pub keys_look : (q : BoundQuery) → list_all (is_used q) q.keys ≡ true
keys_look q = left (list_all (is_used q) q.keys) (list_all (is_used q) (behind_keys q)) (keys_and q)

pub aggs_look : (q : BoundQuery) → list_all (argument_looks (is_used q)) q.aggs ≡ true
aggs_look q =
    arguments_look (is_used q) q.aggs ∙ left (list_all (is_used q) (flat_map aggregate_columns q.aggs)) (list_all (is_used q) (behind_aggs q)) (aggs_and q)

pub windows_look : (q : BoundQuery) → list_all (window_looks (is_used q)) q.windows ≡ true
windows_look q =
    windows_look_at (is_used q) q.windows ∙ left (list_all (is_used q) (flat_map columns_of_window q.windows)) (list_all (is_used q) (shown_columns q)) (windows_and q)

pub items_look : (q : BoundQuery) → q.grouped ≡ false → list_all (looks_only (is_used q)) q.items ≡ true
items_look q plain =
    exprs_look (is_used q) q.items
    ∙ subst (λ (b : Bool). list_all (is_used q) (cond b [] (flat_map columns_of q.items)) ≡ true) plain
    (right (list_all (is_used q) (flat_map columns_of_window q.windows)) (list_all (is_used q) (shown_columns q)) (windows_and q))
