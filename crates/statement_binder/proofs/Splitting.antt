-- The members of a condition: those of the parts of an AND, and every other expression alone.
use Rattle.std.proofs.Common.{◌≡◌, refl, sym, ap, ap₂, ◌∙◌, subst, List, [], ◌∷◌, ◌++◌, map, Bool}
use Rattle.std.specs.List.{flat_map}
use Rattle.col_value.specs.declared.wide.Wide.{Wide}
use Rattle.sql_tree.specs.declared.tree.Term.{Term}
use Rattle.sql_tree.specs.declared.tree.Tree.{Tree}
use Rattle.sql_tree.specs.declared.tree.Tree
use Rattle.sql_tree.specs.declared.tree.Tree.TheOpen.{Tree-F}
use Rattle.sql_tree.specs.declared.tree.Tree.TheViews.{roll-Tree, out-Tree, roll-out-Tree, rolls-And as tree_and}
use Rattle.sql_tree.specs.declared.tree.Tree.TheFolds.{map-Tree, fold-roll-Tree}
use Rattle.sql_bound.specs.declared.expr.Expr.{Expr}
use Rattle.sql_bound.specs.declared.expr.Expr as expr
use Rattle.sql_bound.specs.declared.expr.BoundTerm.{BoundTerm}
use Rattle.sql_bound.specs.declared.expr.Expr.TheOpen.{Expr-F, BoundTerm-F}
use Rattle.sql_bound.specs.declared.expr.Expr.TheViews.{roll-Expr, roll-BoundTerm, rolls-Lit, rolls-Col, rolls-Key, rolls-Agg, rolls-Neg, rolls-Sum, rolls-Product, rolls-Compare, rolls-IsNull, rolls-Not, rolls-And, rolls-Or, rolls-struct-BoundTerm}
use Rattle.sql_bound.specs.declared.expr.Expr.TheFolds.{map-Expr, map-BoundTerm, fold-Expr, fold-BoundTerm, fold-roll-Expr, fold-roll-BoundTerm, ind-Expr}
use Rattle.sql_binding.specs.Trees.{Scope, Bound, bind_step, bind_term, bound, bound_term, column_of, rows_of}
use Rattle.sql_binding.specs.Conjuncts.{conjuncts, members, split_step, split_term}

abbrev split : Expr → Expr × List Expr
split = fold-Expr (Expr × List Expr) (BoundTerm × List Expr) split_step split_term

abbrev split_part : BoundTerm → BoundTerm × List Expr
split_part = fold-BoundTerm (Expr × List Expr) (BoundTerm × List Expr) split_step split_term

-- splitting keeps the expression
abbrev Keeps : Expr → Type 0
Keeps e = (split e).0 ≡ e

abbrev KeepsPart : BoundTerm → Type 0
KeepsPart t = (split_part t).0 ≡ t

-- expressions that are kept
abbrev Kept : Type 0
Kept = (e : Expr) × Keeps e

abbrev KeptPart : Type 0
KeptPart = (t : BoundTerm) × KeepsPart t

abbrev whole : Kept → Expr
whole k = k.0

abbrev part : KeptPart → BoundTerm
part k = k.0

kept_each : (ks : List Kept) → map (λ (m : Expr × List Expr). m.0) (map split (map whole ks)) ≡ map whole ks
kept_each [] = refl
kept_each (k ∷ ks) = ap₂ (λ (e : Expr) (es : List Expr). e ∷ es) k.1 (kept_each ks)

kept_parts : (ks : List KeptPart) → map (λ (m : BoundTerm × List Expr). m.0) (map split_part (map part ks)) ≡ map part ks
kept_parts [] = refl
kept_parts (k ∷ ks) = ap₂ (λ (t : BoundTerm) (ts : List BoundTerm). t ∷ ts) k.1 (kept_parts ks)

kept_level : (y : Expr-F Kept KeptPart) → (split_step (map-Expr _ _ _ _ split split_part (map-Expr _ _ _ _ whole part y))).0 ≡ roll-Expr (map-Expr _ _ _ _ whole part y)
kept_level (Expr-F.Lit w) = sym (rolls-Lit w)
kept_level (Expr-F.Col i) = sym (rolls-Col i)
kept_level (Expr-F.Key i) = sym (rolls-Key i)
kept_level (Expr-F.Agg i) = sym (rolls-Agg i)
kept_level (Expr-F.Neg a) = ap expr.Neg a.1 ∙ sym (rolls-Neg a.0)
kept_level (Expr-F.Sum ts) = ap expr.Sum (kept_parts ts) ∙ sym (rolls-Sum (map part ts))
kept_level (Expr-F.Product es) = ap expr.Product (kept_each es) ∙ sym (rolls-Product (map whole es))
kept_level (Expr-F.Compare a c b) = ap₂ (λ (x y : Expr). expr.Compare x c y) a.1 b.1 ∙ sym (rolls-Compare a.0 c b.0)
kept_level (Expr-F.IsNull a) = ap expr.IsNull a.1 ∙ sym (rolls-IsNull a.0)
kept_level (Expr-F.Not a) = ap expr.Not a.1 ∙ sym (rolls-Not a.0)
kept_level (Expr-F.And es) = ap expr.And (kept_each es) ∙ sym (rolls-And (map whole es))
kept_level (Expr-F.Or es) = ap expr.Or (kept_each es) ∙ sym (rolls-Or (map whole es))

kept_rolled : (x : Expr-F Expr BoundTerm) (y : Expr-F Kept KeptPart) → map-Expr _ _ _ _ whole part y ≡ x → Keeps (roll-Expr x)
kept_rolled x y is =
    ap (λ (m : Expr × List Expr). m.0) (fold-roll-Expr (Expr × List Expr) (BoundTerm × List Expr) split_step split_term x)
    ∙ subst (λ (z : Expr-F Expr BoundTerm). (split_step (map-Expr _ _ _ _ split split_part z)).0 ≡ roll-Expr z) is (kept_level y)

kept_part_rolled : (x : BoundTerm-F Expr BoundTerm) (y : BoundTerm-F Kept KeptPart) → map-BoundTerm _ _ _ _ whole part y ≡ x → KeepsPart (roll-BoundTerm x)
kept_part_rolled x y is =
    ap (λ (m : BoundTerm × List Expr). m.0) (fold-roll-BoundTerm (Expr × List Expr) (BoundTerm × List Expr) split_step split_term x)
    ∙ subst (λ (z : BoundTerm-F Expr BoundTerm). (split_term (map-BoundTerm _ _ _ _ split split_part z)).0 ≡ roll-BoundTerm z) is
    (ap (λ (e : Expr). the_part y.minus e) y.part.1 ∙ sym (rolls-struct-BoundTerm (map-BoundTerm _ _ _ _ whole part y)))
  where
    the_part : Bool → Expr → BoundTerm
    the_part minus e = record { minus = minus; part = e }

kept : (e : Expr) → Keeps e
kept = ind-Expr Keeps KeepsPart kept_rolled kept_part_rolled

-- an expression that is no AND is its own one member
abbrev Alone : Expr → Type 0
Alone e = conjuncts e ≡ e ∷ []

alone_from : (x : Expr-F Expr BoundTerm) (e : Expr) → roll-Expr x ≡ e
    → (split_step (map-Expr _ _ _ _ split split_part x)).1 ≡ (split_step (map-Expr _ _ _ _ split split_part x)).0 ∷ [] → Alone e
alone_from x e is one =
    let f = fold-roll-Expr (Expr × List Expr) (BoundTerm × List Expr) split_step split_term x in
    subst Alone is
    (ap (λ (m : Expr × List Expr). m.1) f ∙ (one ∙ (ap (λ (m : Expr × List Expr). m.0 ∷ []) (sym f) ∙ ap (λ (u : Expr). u ∷ []) (kept (roll-Expr x)))))

-- over a row
abbrev row_of : Scope → Tree → Expr
row_of s tree = (bound s tree).row

bound_alone : (s : Scope) (y : Tree-F Tree Term) → ((ts : List Tree) → roll-Tree y ≡ Tree.And ts → ⊥) → Alone (row_of s (roll-Tree y))
bound_alone s y other = subst (λ (b : Bound Expr). Alone b.row) (sym (fold-roll-Tree (Bound Expr) (Bound BoundTerm) (bind_step s) bind_term y)) (by y other)
  where
    by : (y : Tree-F Tree Term) → ((ts : List Tree) → roll-Tree y ≡ Tree.And ts → ⊥) → Alone (bind_step s (map-Tree _ _ _ _ (bound s) (bound_term s) y)).row
    by (Tree-F.Lit w) other = alone_from (Expr-F.Lit w) _ (rolls-Lit w) refl
    by (Tree-F.Col r) other = alone_from (Expr-F.Col (column_of s r)) _ (rolls-Col (column_of s r)) refl
    by (Tree-F.Neg a) other = alone_from (Expr-F.Neg (row_of s a)) _ (rolls-Neg (row_of s a)) refl
    by (Tree-F.Sum ts) other = alone_from (Expr-F.Sum (rows_of (map (bound_term s) ts))) _ (rolls-Sum (rows_of (map (bound_term s) ts))) refl
    by (Tree-F.Product ts) other = alone_from (Expr-F.Product (rows_of (map (bound s) ts))) _ (rolls-Product (rows_of (map (bound s) ts))) refl
    by (Tree-F.Compare a c b) other = alone_from (Expr-F.Compare (row_of s a) c (row_of s b)) _ (rolls-Compare (row_of s a) c (row_of s b)) refl
    by (Tree-F.IsNull a) other = alone_from (Expr-F.IsNull (row_of s a)) _ (rolls-IsNull (row_of s a)) refl
    by (Tree-F.Not a) other = alone_from (Expr-F.Not (row_of s a)) _ (rolls-Not (row_of s a)) refl
    by (Tree-F.And ts) other = absurd (other ts (tree_and ts))
    by (Tree-F.Or ts) other = alone_from (Expr-F.Or (rows_of (map (bound s) ts))) _ (rolls-Or (rows_of (map (bound s) ts))) refl
    by (Tree-F.Agg k a) other = alone_from (Expr-F.Lit Wide.Null) _ (rolls-Lit Wide.Null) refl

pub members_alone : (s : Scope) (tree : Tree) → ((ts : List Tree) → tree ≡ Tree.And ts → ⊥) → members s tree ≡ (bound s tree).row ∷ []
members_alone s tree other =
    subst (λ (t : Tree). Alone (row_of s t)) (roll-out-Tree tree) (bound_alone s (out-Tree tree) (λ ts e. other ts (sym (roll-out-Tree tree) ∙ e)))

members_each : (s : Scope) (ts : List Tree) → flat_map (λ (m : Expr × List Expr). m.1) (map split (rows_of (map (bound s) ts))) ≡ flat_map (members s) ts
members_each s [] = refl
members_each s (t ∷ ts) = ap (λ (rest : List Expr). members s t ++ rest) (members_each s ts)

pub members_of_and : (s : Scope) (ts : List Tree) → members s (Tree.And ts) ≡ flat_map (members s) ts
members_of_and s ts =
    let es = rows_of (map (bound s) ts) in
    ap (members s) (sym (tree_and ts))
    ∙ (ap (λ (b : Bound Expr). conjuncts b.row) (fold-roll-Tree (Bound Expr) (Bound BoundTerm) (bind_step s) bind_term (Tree-F.And ts))
    ∙ (ap conjuncts (sym (rolls-And es))
    ∙ (ap (λ (m : Expr × List Expr). m.1) (fold-roll-Expr (Expr × List Expr) (BoundTerm × List Expr) split_step split_term (Expr-F.And es))
    ∙ members_each s ts)))
