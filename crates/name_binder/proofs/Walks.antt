-- The first that is given in lists that are joined.
use Rattle.std.proofs.Common.{◌≡◌, refl, sym, ap, ap₂, ◌∙◌, List, [], ◌∷◌, ◌++◌, map, Bool, true, false, Option, None, Some}
use Rattle.std.specs.List.{flat_map}
use Rattle.std.specs.Option.{option_map_or}
use Rattle.sql_tree.specs.declared.tree.Cmp.{Cmp}
use Rattle.sql_tree.specs.declared.query.Window.{Window}
use Rattle.sql_tree.specs.declared.query.WindowKey.{WindowKey}
use Rattle.sql_tree.specs.declared.tree.ColRef.{ColRef}
use Rattle.sql_tree.specs.declared.tree.Tree.{Tree}
use Rattle.sql_tree.specs.declared.tree.Tree
use Rattle.sql_tree.specs.declared.tree.Tree.TheOpen.{Tree-F}
use Rattle.sql_tree.specs.declared.tree.AggKind.{AggKind}
use Rattle.sql_tree.specs.declared.tree.Term.{Term}
use Rattle.sql_tree.specs.declared.tree.Tree.TheViews.{roll-Tree, rolls-Sum, rolls-Product, rolls-Compare, rolls-And, rolls-Or, rolls-Agg}
use Rattle.sql_tree.specs.declared.tree.Tree.TheFolds.{map-Tree, fold-roll-Tree}
use Rattle.sql_binding.specs.Firsts.{first_of, first_given}
use Rattle.sql_binding.specs.Uses.{Use, condition_uses, used_inside, used_outside, uses, uses_step, uses_term, window_uses}
use Rattle.name_binder.specs.declared.view.View.{View}
use Rattle.name_binder.specs.Looks.{named_in, term_uses}
use Rattle.name_binder.proofs.Parts.{first_of_both}

pub given_joined : {X Y : Type 0} (f : X → Option Y) (xs ys : List X) → first_given f (xs ++ ys) ≡ first_of (first_given f xs) (first_given f ys)
given_joined f [] ys = refl
given_joined f (x ∷ xs) ys = ap (first_of (f x)) (given_joined f xs ys) ∙ sym (first_of_both (f x) (first_given f xs) (first_given f ys))

-- in each of some lists
pub given_each : {X U Y : Type 0} (f : U → Option Y) (g : X → List U) (xs : List X)
    → first_given f (flat_map (λ p. p) (map g xs)) ≡ first_given (λ x. first_given f (g x)) xs
given_each f g [] = refl
given_each f g (x ∷ xs) =
    given_joined f (g x) (flat_map (λ p. p) (map g xs))
    ∙ ap (first_of (first_given f (g x))) (given_each f g xs)

given_mapped : {X U Y : Type 0} (f : U → Option Y) (g : X → U) (xs : List X) → first_given f (map g xs) ≡ first_given (λ x. f (g x)) xs
given_mapped f g [] = refl
given_mapped f g (x ∷ xs) = ap (first_of (f (g x))) (given_mapped f g xs)

pub in_window : {Y : Type 0} (f : Use → Option Y) (w : Window)
    → first_given f (window_uses w)
    ≡ first_of (first_given f (condition_uses w.arg)) (first_of (first_given (λ (r : ColRef). f (used_outside r)) w.partition) (first_given (λ (k : WindowKey). f (used_outside k.column)) w.order))
in_window f w =
    given_joined f (condition_uses w.arg) (map used_outside w.partition ++ map (λ (k : WindowKey). used_outside k.column) w.order)
    ∙ ap (first_of (first_given f (condition_uses w.arg)))
    (given_joined f (map used_outside w.partition) (map (λ (k : WindowKey). used_outside k.column) w.order)
    ∙ ap₂ first_of (given_mapped f used_outside w.partition) (given_mapped f (λ (k : WindowKey). used_outside k.column) w.order))

-- where neither the argument nor PARTITION BY gives one, the keys may
pub window_to_keys : {Y : Type 0} (f : Use → Option Y) (w : Window) → first_given f (condition_uses w.arg) ≡ None → first_given (λ (r : ColRef). f (used_outside r)) w.partition ≡ None
    → first_given (λ (k : WindowKey). f (used_outside k.column)) w.order ≡ first_given f (window_uses w)
window_to_keys {Y} f w first second =
    let keys = first_given (λ (k : WindowKey). f (used_outside k.column)) w.order in
    sym (in_window f w ∙ ap₂ (λ (a b : Option Y). first_of a (first_of b keys)) first second)

-- inside an aggregate
pub given_inside : (v : View) (inside : Bool) (us : List Use) → first_given (named_in v true) us ≡ first_given (named_in v inside) (map used_inside us)
given_inside v true [] = refl
given_inside v false [] = refl
given_inside v true (u ∷ us) = ap (first_of (named_in v true u)) (given_inside v true us)
given_inside v false (u ∷ us) = ap (first_of (named_in v true u)) (given_inside v false us)

rolled : (x : Tree-F Tree Term) (tree : Tree) → roll-Tree x ≡ tree → uses tree ≡ uses_step (map-Tree _ _ _ _ uses term_uses x)
rolled x tree is = ap uses (sym is) ∙ fold-roll-Tree (List Use) (List Use) uses_step uses_term x

pub in_sum : {Y : Type 0} (f : Use → Option Y) (ts : List Term) → first_given f (uses (Tree.Sum ts)) ≡ first_given (λ (t : Term). first_given f (term_uses t)) ts
in_sum f ts = ap (first_given f) (rolled (Tree-F.Sum ts) (Tree.Sum ts) (rolls-Sum ts)) ∙ given_each f term_uses ts

pub in_product : {Y : Type 0} (f : Use → Option Y) (ts : List Tree) → first_given f (uses (Tree.Product ts)) ≡ first_given (λ (t : Tree). first_given f (uses t)) ts
in_product f ts = ap (first_given f) (rolled (Tree-F.Product ts) (Tree.Product ts) (rolls-Product ts)) ∙ given_each f uses ts

pub in_and : {Y : Type 0} (f : Use → Option Y) (ts : List Tree) → first_given f (uses (Tree.And ts)) ≡ first_given (λ (t : Tree). first_given f (uses t)) ts
in_and f ts = ap (first_given f) (rolled (Tree-F.And ts) (Tree.And ts) (rolls-And ts)) ∙ given_each f uses ts

pub in_or : {Y : Type 0} (f : Use → Option Y) (ts : List Tree) → first_given f (uses (Tree.Or ts)) ≡ first_given (λ (t : Tree). first_given f (uses t)) ts
in_or f ts = ap (first_given f) (rolled (Tree-F.Or ts) (Tree.Or ts) (rolls-Or ts)) ∙ given_each f uses ts

pub in_both : {Y : Type 0} (f : Use → Option Y) (left : Tree) (c : Cmp) (right : Tree)
    → first_given f (uses (Tree.Compare left c right)) ≡ first_of (first_given f (uses left)) (first_given f (uses right))
in_both f left c right = ap (first_given f) (rolled (Tree-F.Compare left c right) (Tree.Compare left c right) (rolls-Compare left c right)) ∙ given_joined f (uses left) (uses right)

pub in_aggregate : (v : View) (inside : Bool) (k : AggKind) (arg : Option Tree)
    → first_given (named_in v inside) (uses (Tree.Agg k arg)) ≡ option_map_or (λ (t : Tree). first_given (named_in v true) (uses t)) arg None
in_aggregate v inside k None = ap (first_given (named_in v inside)) (rolled (Tree-F.Agg k None) (Tree.Agg k None) (rolls-Agg k None))
in_aggregate v inside k (Some part) =
    ap (first_given (named_in v inside)) (rolled (Tree-F.Agg k (Some part)) (Tree.Agg k (Some part)) (rolls-Agg k (Some part)))
    ∙ sym (given_inside v inside (uses part))
