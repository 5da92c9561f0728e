-- What `*` stands for over rows and over groups.
use Rattle.std.proofs.Common.{◌≡◌, refl, ap, ℕ, ◌+◌, List, [], ◌∷◌, map}
use Rattle.std.specs.List.{enumerate_from}
use Rattle.std.specs.Prelude.{Result, Ok, Err, OnOk}
use Rattle.sql_tree.specs.declared.query.Items.{Items}
use Rattle.sql_bound.specs.declared.expr.Expr.{Expr}
use Rattle.sql_bound.specs.declared.expr.Expr as expr
use Rattle.sql_binding.specs.Sight.{Seen}
use Rattle.sql_binding.specs.Trees.{Scope, Bound, bound_column, rows_of, groups_of, all_aggs, key_of}
use Rattle.statement_binder.specs.Scopes.{items_in}

abbrev columns_at : Scope → List (ℕ × Seen) → List (Bound Expr)
columns_at s es = map (λ e. bound_column s e.0) es

rows_at : (s : Scope) (es : List (ℕ × Seen)) → map (λ (e : ℕ × Seen). expr.Col e.0) es ≡ rows_of (columns_at s es)
rows_at s [] = refl
rows_at s (e ∷ es) = ap (λ (rest : List Expr). expr.Col e.0 ∷ rest) (rows_at s es)

groups_at : (s : Scope) (n : ℕ) (es : List (ℕ × Seen)) → map (λ (e : ℕ × Seen). expr.Key (key_of s.keys e.0)) es ≡ groups_of (columns_at s es) n
groups_at s n [] = refl
groups_at s n (e ∷ es) = ap (λ (rest : List Expr). expr.Key (key_of s.keys e.0) ∷ rest) (groups_at s (n + 0) es)

aggs_at : (s : Scope) (es : List (ℕ × Seen)) → all_aggs (columns_at s es) ≡ []
aggs_at s [] = refl
aggs_at s (e ∷ es) = aggs_at s es

pub star_rows : (s : Scope) → map (λ (e : ℕ × Seen). expr.Col e.0) (enumerate_from 0 s.seen) ≡ rows_of (items_in s Items.Star)
star_rows s = rows_at s (enumerate_from 0 s.seen)

pub star_groups : (s : Scope) (n : ℕ) → map (λ (e : ℕ × Seen). expr.Key (key_of s.keys e.0)) (enumerate_from 0 s.seen) ≡ groups_of (items_in s Items.Star) n
star_groups s n = groups_at s n (enumerate_from 0 s.seen)

pub star_aggs : (s : Scope) → all_aggs (items_in s Items.Star) ≡ []
star_aggs s = aggs_at s (enumerate_from 0 s.seen)

-- what holds in any case
pub always : {T E : Type 0} (r : Result T E) (P : Type 0) → P → OnOk r P
always (Ok v) P p = p
always (Err e) P p = tt
