-- An aggregate among the parts of an expression.
use Rattle.std.proofs.Common.{◌≡◌, sym, ap, ◌∙◌, List, map, Bool}
use Rattle.std.specs.List.{list_any}
use Rattle.sql_tree.specs.declared.tree.Tree.{Tree}
use Rattle.sql_tree.specs.declared.tree.Tree
use Rattle.sql_tree.specs.declared.tree.Tree.TheOpen.{Tree-F}
use Rattle.sql_tree.specs.declared.tree.Term.{Term}
use Rattle.sql_tree.specs.declared.tree.Tree.TheViews.{roll-Tree, rolls-Sum, rolls-Product, rolls-And, rolls-Or}
use Rattle.sql_tree.specs.declared.tree.Tree.TheFolds.{map-Tree, fold-roll-Tree}
use Rattle.sql_tree.specs.Modes.{has_aggregate, term_has_aggregate, aggregate_step, aggregate_term}

rolled : (x : Tree-F Tree Term) (tree : Tree) → roll-Tree x ≡ tree → has_aggregate tree ≡ aggregate_step (map-Tree _ _ _ _ has_aggregate term_has_aggregate x)
rolled x tree is = ap has_aggregate (sym is) ∙ fold-roll-Tree Bool Bool aggregate_step aggregate_term x

pub any_in_sum : (ts : List Term) → has_aggregate (Tree.Sum ts) ≡ list_any (λ b. b) (map term_has_aggregate ts)
any_in_sum ts = rolled (Tree-F.Sum ts) (Tree.Sum ts) (rolls-Sum ts)

pub any_in_product : (ts : List Tree) → has_aggregate (Tree.Product ts) ≡ list_any (λ b. b) (map has_aggregate ts)
any_in_product ts = rolled (Tree-F.Product ts) (Tree.Product ts) (rolls-Product ts)

pub any_in_and : (ts : List Tree) → has_aggregate (Tree.And ts) ≡ list_any (λ b. b) (map has_aggregate ts)
any_in_and ts = rolled (Tree-F.And ts) (Tree.And ts) (rolls-And ts)

pub any_in_or : (ts : List Tree) → has_aggregate (Tree.Or ts) ≡ list_any (λ b. b) (map has_aggregate ts)
any_in_or ts = rolled (Tree-F.Or ts) (Tree.Or ts) (rolls-Or ts)
