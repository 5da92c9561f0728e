-- Which symbols spell which expression: one line for each production. Each level is over a primary P.
use Rattle.std.specs.Prelude.{ℕ, zero, suc, pos, neg_ℤ, Bool, true, false, List, Some, None}
use Rattle.col_value.specs.declared.wide.Wide.{Wide}
use Rattle.sql_words.specs.declared.token.Key.{Key}
use Rattle.sql_words.specs.declared.token.Sign.{Sign}
use Rattle.sql_words.specs.Symbols.{Symbol}
use Rattle.sql_tree.specs.declared.tree.AggKind.{AggKind}
use Rattle.sql_tree.specs.declared.tree.ColRef.{ColRef}
use Rattle.sql_tree.specs.declared.tree.Tree.{Tree}
use Rattle.sql_tree.specs.declared.tree.Tree
use Rattle.sql_tree.specs.declared.part.Addend.{Addend}
use Rattle.sql_tree.specs.declared.part.Part.{Part}
use Rattle.sql_tree.specs.declared.part.Tally.{Tally}
use Rattle.sql_tree.specs.Phrases.{One, Says, Nothing, Then, Either, Many, Chain}
use Rattle.sql_tree.specs.Symbols.{Spelling, Word, Glyph, Inside, IsDate, name_of, text_of, number_of, cmp_of}
use Rattle.sql_tree.specs.Makers.{constant, column, negated, denied, is_null, compared, between, one_of, chained, addend, summed, aggregated, as_aggregate}

-- TRUE | FALSE | NULL
abbrev pub NamedConstant : Spelling Wide
NamedConstant = Either (Word Key.True (Nothing (Wide.Bool true))) (Either (Word Key.False (Nothing (Wide.Bool false))) (Word Key.Null (Nothing Wide.Null)))

-- DATE text, whose text says a day
abbrev pub DateConstant : Spelling Wide
DateConstant = Word Key.Date (Then (Says IsDate) (λ n. Nothing (Wide.Date n)))

-- int | text | DATE text | TRUE | FALSE | NULL
abbrev pub Constant : Spelling Wide
Constant = Either (Then (One number_of) (λ n. Nothing (Wide.Int (pos n)))) (Either (Then (One text_of) (λ t. Nothing (Wide.Text t))) (Either DateConstant NamedConstant))

-- literal = [-] int | text | DATE text | TRUE | FALSE | NULL
abbrev pub Literal : Spelling Wide
Literal = Either (Glyph Sign.Minus (Then (One number_of) (λ n. Nothing (Wide.Int (neg_ℤ (pos n)))))) Constant

-- colref, behind its first name: [. name]
abbrev pub Qualified : List ℕ → Spelling ColRef
Qualified n = Either (Glyph Sign.Dot (Then (One name_of) (λ m. Nothing (record { qualifier = Some n; name = m })))) (Nothing (record { qualifier = None; name = n }))

-- colref = name [. name]
abbrev pub Reference : Spelling ColRef
Reference = Then (One name_of) Qualified

-- int | text | DATE text | TRUE | FALSE | NULL | colref
abbrev pub Atom : Spelling Part
Atom = Either (Then Reference (λ c. Nothing (column c))) (Then Constant (λ w. Nothing (constant w)))

-- unary = [-] primary
abbrev pub Unary : Spelling Part → Spelling Part
Unary P = Either (Glyph Sign.Minus (Then P (λ x. Nothing (negated x)))) P

-- product = unary {* unary}
abbrev pub Product : Spelling Part → Spelling Part
Product P = Chain (Symbol.Mark Sign.Star) (Unary P) (chained Tree.Product)

-- (+ | -) product
abbrev pub Signed : Spelling Part → Spelling Addend
Signed P = Either (Glyph Sign.Plus (Then (Product P) (λ x. Nothing (addend false x)))) (Glyph Sign.Minus (Then (Product P) (λ x. Nothing (addend true x))))

-- sum = product {(+ | -) product}
abbrev pub Sum : Spelling Part → Spelling Part
Sum P = Then (Product P) (λ x. Then (Many (Signed P)) (λ ys. Nothing (summed x ys)))

-- behind the sum x: cmp sum
abbrev pub Compared : Spelling Part → Part → Spelling Part
Compared P x = Then (One cmp_of) (λ cmp. Then (Sum P) (λ y. Nothing (compared x cmp y)))

-- behind the sum x: IS [NOT] NULL
abbrev pub NullTest : Part → Spelling Part
NullTest x = Word Key.Is (Either (Word Key.Not (Word Key.Null (Nothing (denied (is_null x))))) (Word Key.Null (Nothing (is_null x))))

-- behind the sum x: BETWEEN sum AND sum
abbrev pub Between : Spelling Part → Part → Spelling Part
Between P x = Word Key.Between (Then (Sum P) (λ y. Word Key.And (Then (Sum P) (λ z. Nothing (between x y z)))))

-- behind the sum x: IN ( sum {, sum} )
abbrev pub Among : Spelling Part → Part → Spelling Part
Among P x = Word Key.In (Inside (Chain (Symbol.Mark Sign.Comma) (Sum P) (one_of x)))

-- behind the sum x: [BETWEEN sum AND sum | IN ( sum {, sum} )], where x holds none of either
abbrev pub Ranged : Spelling Part → Part → Bool → Spelling Part
Ranged P x true = Nothing x
Ranged P x false = Either (Between P x) (Either (Among P x) (Nothing x))

-- behind the sum x: [cmp sum | IS [NOT] NULL | BETWEEN sum AND sum | IN ( sum {, sum} )]
abbrev pub Tail : Spelling Part → Part → Spelling Part
Tail P x = Either (Compared P x) (Either (NullTest x) (Ranged P x x.holds))

-- test = sum [cmp sum | IS [NOT] NULL | BETWEEN sum AND sum | IN ( sum {, sum} )]
abbrev pub Predicate : Spelling Part → Spelling Part
Predicate P = Then (Sum P) (Tail P)

-- neg = [NOT] test
abbrev pub Negation : Spelling Part → Spelling Part
Negation P = Either (Word Key.Not (Then (Predicate P) (λ x. Nothing (denied x)))) (Predicate P)

-- conj = neg {AND neg}
abbrev pub Conjunction : Spelling Part → Spelling Part
Conjunction P = Chain (Symbol.Keyword Key.And) (Negation P) (chained Tree.And)

-- expr = conj {OR conj}
abbrev pub Over : Spelling Part → Spelling Part
Over P = Chain (Symbol.Keyword Key.Or) (Conjunction P) (chained Tree.Or)

-- ( * ) | ( expr ), of COUNT
abbrev pub Counted : Spelling Part → Spelling Tally
Counted E = Inside (Either (Glyph Sign.Star (Nothing Tally.All)) (Then E (λ x. Nothing (Tally.Count x))))

-- COUNT ( * ) | (COUNT | SUM) ( expr )
abbrev pub Tallied : Spelling Part → Spelling Tally
Tallied E = Either (Word Key.Count (Counted E)) (Word Key.Sum (Then (Inside E) (λ x. Nothing (Tally.Sum x))))

-- ( expr ), of MIN and MAX
abbrev pub Argument : AggKind → Spelling Part → Spelling Part
Argument kind E = Then (Inside E) (λ x. Nothing (aggregated kind x))

-- aggregate = COUNT ( * ) | (COUNT | SUM | MIN | MAX) ( expr )
abbrev pub Aggregate : Spelling Part → Spelling Part
Aggregate E = Either (Then (Tallied E) (λ t. Nothing (as_aggregate t))) (Either (Word Key.Min (Argument AggKind.Min E)) (Word Key.Max (Argument AggKind.Max E)))

-- primary = int | text | DATE text | TRUE | FALSE | NULL | colref | ( expr ), where so many more parentheses may nest
unfoldable pub Primary : ℕ → Spelling Part
Primary zero = Atom
Primary (suc depth) = Either (Inside (Over (Primary depth))) Atom

-- aggregate | int | text | DATE text | TRUE | FALSE | NULL | colref
abbrev pub Leaf : ℕ → Spelling Part
Leaf depth = Either (Aggregate (Over (Primary depth))) Atom

-- the primary of a gexpr: a primary that may be an aggregate, and whose parentheses hold a gexpr
unfoldable pub Grouped : ℕ → Spelling Part
Grouped zero = Leaf zero
Grouped (suc depth) = Either (Inside (Over (Grouped depth))) (Leaf (suc depth))

-- the primary of a gexpr, or of an expr
abbrev pub Base : Bool → ℕ → Spelling Part
Base true depth = Grouped depth
Base false depth = Primary depth

-- expr, in which parentheses nest at most 32 deep
unfoldable pub Expr : Spelling Tree
Expr = Then (Over (Base false 32)) (λ x. Nothing x.tree)

-- gexpr, in which parentheses nest at most 32 deep
unfoldable pub GroupedExpr : Spelling Tree
GroupedExpr = Then (Over (Base true 32)) (λ x. Nothing x.tree)
