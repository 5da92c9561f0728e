-- The trees that a reading makes of its parts.
use Rattle.std.specs.Prelude.{Bool, true, false, ◌||◌, List, [], ◌∷◌, map, Option, Some, None}
use Rattle.std.specs.List.{list_any}
use Rattle.col_value.specs.declared.wide.Wide.{Wide}
use Rattle.sql_tree.specs.declared.tree.AggKind.{AggKind}
use Rattle.sql_tree.specs.declared.tree.Cmp.{Cmp}
use Rattle.sql_tree.specs.declared.tree.ColRef.{ColRef}
use Rattle.sql_tree.specs.declared.tree.Term.{Term}
use Rattle.sql_tree.specs.declared.tree.Tree.{Tree}
use Rattle.sql_tree.specs.declared.tree.Tree
use Rattle.sql_tree.specs.declared.part.Addend.{Addend}
use Rattle.sql_tree.specs.declared.part.Part.{Part}
use Rattle.sql_tree.specs.declared.part.Tally.{Tally}
use Rattle.sql_tree.specs.declared.query.Window.{Window}
use Rattle.sql_tree.specs.declared.query.WindowKey.{WindowKey}
use Rattle.sql_tree.specs.declared.query.WindowKind.{WindowKind}

-- a literal
abbrev pub constant : Wide → Part
constant value = record { tree = Tree.Lit value; holds = false }

-- a column
abbrev pub column : ColRef → Part
column c = record { tree = Tree.Col c; holds = false }

-- - x
abbrev pub negated : Part → Part
negated x = record { tree = Tree.Neg x.tree; holds = x.holds }

-- NOT x
abbrev pub denied : Part → Part
denied x = record { tree = Tree.Not x.tree; holds = x.holds }

-- x IS NULL
abbrev pub is_null : Part → Part
is_null x = record { tree = Tree.IsNull x.tree; holds = x.holds }

-- x cmp y
abbrev pub compared : Part → Cmp → Part → Part
compared x cmp y = record { tree = Tree.Compare x.tree cmp y.tree; holds = x.holds || y.holds }

-- x BETWEEN y AND z is x >= y AND x <= z
abbrev pub between : Part → Part → Part → Part
between x y z = record { tree = Tree.And (Tree.Compare x.tree Cmp.Ge y.tree ∷ (Tree.Compare x.tree Cmp.Le z.tree ∷ [])); holds = true }

abbrev pub equals : Part → Part → Tree
equals x y = Tree.Compare x.tree Cmp.Eq y.tree

-- x IN (y, z) is x = y OR x = z, and x IN (y) is x = y
abbrev pub one_of : Part → Part → List Part → Part
one_of x y [] = record { tree = equals x y; holds = true }
one_of x y (z ∷ zs) = record { tree = Tree.Or (map (equals x) (y ∷ (z ∷ zs))); holds = true }

-- the parts of a chain, all in one list; a chain of one part is that part
abbrev pub chained : (List Tree → Tree) → Part → List Part → Part
chained f x [] = x
chained f x (y ∷ ys) = record { tree = f (map (λ p. p.tree) (x ∷ (y ∷ ys))); holds = list_any (λ p. p.holds) (x ∷ (y ∷ ys)) }

-- a part of a sum, behind its sign
abbrev pub addend : Bool → Part → Addend
addend minus x = record { minus = minus; part = x }

abbrev pub term : Addend → Term
term a = record { minus = a.minus; part = a.part.tree }

-- a sum of a first part and of others behind their signs; a sum of one part is that part
abbrev pub summed : Part → List Addend → Part
summed x [] = x
summed x (y ∷ ys) = record { tree = Tree.Sum (map term (addend false x ∷ (y ∷ ys))); holds = list_any (λ a. a.part.holds) (addend false x ∷ (y ∷ ys)) }

-- COUNT ( * )
abbrev pub count_all : Part
count_all = record { tree = Tree.Agg AggKind.CountAll None; holds = false }

-- an aggregate of x
abbrev pub aggregated : AggKind → Part → Part
aggregated kind x = record { tree = Tree.Agg kind (Some x.tree); holds = x.holds }

-- a COUNT or SUM as an aggregate
abbrev pub as_aggregate : Tally → Part
as_aggregate Tally.All = count_all
as_aggregate (Tally.Count x) = aggregated AggKind.Count x
as_aggregate (Tally.Sum x) = aggregated AggKind.Sum x

-- a window function over all rows
abbrev pub over_all : WindowKind → Option Tree → Window
over_all kind arg = record { kind = kind; arg = arg; partition = []; order = [] }

-- a COUNT or SUM as a window function
abbrev pub as_window : Tally → Window
as_window Tally.All = over_all WindowKind.CountAll None
as_window (Tally.Count x) = over_all WindowKind.Count (Some x.tree)
as_window (Tally.Sum x) = over_all WindowKind.Sum (Some x.tree)

-- a window function over parts of the rows, by an order
abbrev pub over_parts : Window → List ColRef → List WindowKey → Window
over_parts w partition order = record { kind = w.kind; arg = w.arg; partition = partition; order = order }
