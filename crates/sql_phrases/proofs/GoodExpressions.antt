-- Each production of expressions is good.
use Rattle.std.proofs.Common.{ℕ, zero, suc, pos, neg_ℤ, Bool, true, false, List, [], ◌∷◌, ◌++◌, Some, None, refl}
use Rattle.col_value.specs.declared.wide.Wide.{Wide}
use Rattle.sql_words.specs.declared.token.Key.{Key}
use Rattle.sql_words.specs.declared.token.Sign.{Sign}
use Rattle.sql_words.specs.Symbols.{Symbol}
use Rattle.sql_tree.specs.declared.part.Part.{Part}
use Rattle.sql_tree.specs.declared.part.Tally.{Tally}
use Rattle.sql_tree.specs.declared.tree.AggKind.{AggKind}
use Rattle.sql_tree.specs.declared.tree.ColRef.{ColRef}
use Rattle.sql_tree.specs.declared.tree.Tree
use Rattle.sql_tree.specs.Makers.{constant, column, negated, denied, is_null, compared, between, one_of, chained, addend, summed, aggregated, as_aggregate}
use Rattle.sql_tree.specs.Expressions.{NamedConstant, DateConstant, Constant, Literal, Qualified, Reference, Atom, Unary, Product, Signed, Sum, Compared, NullTest, Between, Among, Ranged, Tail, Predicate, Negation, Conjunction, Over, Counted, Tallied, Argument, Aggregate, Primary, Leaf, Grouped, Base, Expr, GroupedExpr}
use Rattle.sql_tree.specs.Phrases.{Nothing, Then, Many}
use Rattle.sql_phrases.specs.Readings.{Read}
use Rattle.sql_phrases.specs.Classes.{Class, is_key, in_set, name_classes, number_classes, text_classes, cmp_classes, signed_classes, aggregate_classes, tally_classes}
use Rattle.sql_phrases.specs.Readers.{named_constant, date_constant, a_constant, literal, qualified, reference, atom, unary, product, signed, sum_rest, sum, comparison, null_test, betweens, among, ranged, tail, predicate, negation, conjunction, over, over_from, counted, summing, tallied, argument, aggregate, primary, leaf, grouped, base, expr, grouped_expr}
use Rattle.sql_phrases.proofs.Goods.{Good, key_tells, good_nothing, good_key, good_sign, good_then, good_made, good_many, good_refuse, good_wider}
use Rattle.sql_phrases.proofs.Shapes.{Rest, good_at_key, good_at_sign, good_at_set, good_inside, good_word_rest, good_glyph_rest, good_by_word, good_by_glyph}
use Rattle.sql_phrases.proofs.Picks.{good_name, good_text, good_date, good_number, good_cmp}
use Rattle.sql_phrases.proofs.Sets.{of_keys, constant_first, literal_first, atom_first, leaf_first, base_first, sum_first, over_first, dot, product_more, sum_more, ranged_first, tail_first, predicate_more, conjunction_more, over_more, rest_first}

pub good_named_constant : Good NamedConstant named_constant (of_keys (Key.True ∷ (Key.False ∷ (Key.Null ∷ [])))) false []
unfolding named_constant
good_named_constant = good_at_key Key.True refl (good_key Key.True (good_nothing (Wide.Bool true))) (good_at_key Key.False refl (good_key Key.False (good_nothing (Wide.Bool false))) (good_key Key.Null (good_nothing Wide.Null)))

pub good_date_constant : Good DateConstant date_constant (of_keys (Key.Date ∷ [])) false []
unfolding date_constant
good_date_constant = good_key Key.Date (good_made (λ n. Wide.Date n) good_date)

pub good_constant : Good Constant a_constant constant_first false []
unfolding a_constant
good_constant = good_at_set number_classes refl refl (good_made (λ n. Wide.Int (pos n)) good_number) (good_at_set text_classes refl refl (good_made (λ t. Wide.Text t) good_text) (good_at_key Key.Date refl good_date_constant good_named_constant))

pub good_literal : Good Literal literal literal_first false []
unfolding literal
good_literal = good_at_sign Sign.Minus refl (good_sign Sign.Minus (good_made (λ n. Wide.Int (neg_ℤ (pos n))) good_number)) good_constant

pub good_qualified : (n : List ℕ) → Good (Qualified n) (qualified n) dot true dot
unfolding qualified
good_qualified n =
    let of_item : List ℕ → ColRef = λ m. record { qualifier = Some n; name = m } in
    let alone : ColRef = record { qualifier = None; name = n } in
    good_at_sign Sign.Dot refl (good_sign Sign.Dot (good_made of_item good_name)) (good_nothing alone)

pub good_reference : Good Reference reference name_classes false dot
unfolding reference
good_reference = good_then refl good_name good_qualified

pub good_atom : Good Atom atom atom_first false dot
unfolding atom
good_atom = good_at_set name_classes refl refl (good_made column good_reference) (good_made constant good_constant)

-- the levels, over a primary

abbrev pub Based : (List Symbol → Part → Type 0) → (List Symbol → Read Symbol Part) → Type 0
Based P p = Good P p base_first false dot

pub good_unary : {P : List Symbol → Part → Type 0} {p : List Symbol → Read Symbol Part} → Based P p → Good (Unary P) (unary p) sum_first false dot
unfolding unary
good_unary b = good_wider sum_first false dot refl refl refl (good_at_sign Sign.Minus refl (good_sign Sign.Minus (good_made negated b)) b)

pub good_product : {P : List Symbol → Part → Type 0} {p : List Symbol → Read Symbol Part} → Based P p → Good (Product P) (product p) sum_first false product_more
unfolding product
good_product b = good_wider sum_first false product_more refl refl refl (good_by_glyph Sign.Star (chained Tree.Product) refl (good_unary b))

pub good_signed : {P : List Symbol → Part → Type 0} {p : List Symbol → Read Symbol Part} → Based P p → Good (Signed P) (signed p) signed_classes false product_more
unfolding signed
good_signed b = good_wider signed_classes false product_more refl refl refl (good_at_sign Sign.Plus refl (good_sign Sign.Plus (good_made (addend false) (good_product b))) (good_sign Sign.Minus (good_made (addend true) (good_product b))))

-- behind the first product x of a sum
abbrev pub SumRest : (List Symbol → Part → Type 0) → Part → List Symbol → Part → Type 0
SumRest P x = Then (Many (Signed P)) (λ ys. Nothing (summed x ys))

pub good_sum_rest : {P : List Symbol → Part → Type 0} {p : List Symbol → Read Symbol Part} → Based P p → (x : Part) → Good (SumRest P x) (sum_rest p x) signed_classes true sum_more
unfolding sum_rest
good_sum_rest b x = good_wider signed_classes true sum_more refl refl refl (good_made (summed x) (good_many (in_set signed_classes) signed_classes (λ t. refl) refl refl (good_signed b)))

pub good_sum : {P : List Symbol → Part → Type 0} {p : List Symbol → Read Symbol Part} → Based P p → Good (Sum P) (sum p) sum_first false sum_more
unfolding sum
good_sum b = good_wider sum_first false sum_more refl refl refl (good_then refl (good_product b) (good_sum_rest b))

pub good_comparison : {P : List Symbol → Part → Type 0} {p : List Symbol → Read Symbol Part} → Based P p → (x : Part) → Good (Compared P x) (comparison p x) cmp_classes false sum_more
unfolding comparison
good_comparison b x = good_then refl good_cmp (λ cmp. good_made (compared x cmp) (good_sum b))

pub good_null_test : (x : Part) → Good (NullTest x) (null_test x) (of_keys (Key.Is ∷ [])) false []
unfolding null_test
good_null_test x = good_key Key.Is (good_at_key Key.Not refl (good_key Key.Not (good_key Key.Null (good_nothing (denied (is_null x))))) (good_key Key.Null (good_nothing (is_null x))))

pub good_betweens : {P : List Symbol → Part → Type 0} {p : List Symbol → Read Symbol Part} → Based P p → (x : Part) → Good (Between P x) (betweens p x) (of_keys (Key.Between ∷ [])) false sum_more
unfolding betweens
good_betweens b x = good_key Key.Between (good_then refl (good_sum b) (λ y. good_key Key.And (good_made (between x y) (good_sum b))))

pub good_among : {P : List Symbol → Part → Type 0} {p : List Symbol → Read Symbol Part} → Based P p → (x : Part) → Good (Among P x) (among p x) (of_keys (Key.In ∷ [])) false []
unfolding among
good_among b x = good_key Key.In (good_inside refl (good_by_glyph Sign.Comma (one_of x) refl (good_sum b)))

pub good_ranged : {P : List Symbol → Part → Type 0} {p : List Symbol → Read Symbol Part} → Based P p → (x : Part) (holds : Bool) → Good (Ranged P x holds) (ranged p x holds) ranged_first true (sum_more ++ ranged_first)
unfolding ranged
good_ranged b x true = good_wider ranged_first true (sum_more ++ ranged_first) refl refl refl (good_refuse (is_key Key.Between) (of_keys (Key.Between ∷ [])) (key_tells Key.Between) refl (good_refuse (is_key Key.In) (of_keys (Key.In ∷ [])) (key_tells Key.In) refl (good_nothing x)))
good_ranged b x false = good_wider ranged_first true (sum_more ++ ranged_first) refl refl refl (good_at_key Key.Between refl (good_betweens b x) (good_at_key Key.In refl (good_among b x) (good_nothing x)))

pub good_tail : {P : List Symbol → Part → Type 0} {p : List Symbol → Read Symbol Part} → Based P p → (x : Part) → Good (Tail P x) (tail p x) tail_first true predicate_more
unfolding tail
good_tail b x = good_wider tail_first true predicate_more refl refl refl (good_at_set cmp_classes refl refl (good_comparison b x) (good_at_key Key.Is refl (good_null_test x) (good_ranged b x x.holds)))

pub good_predicate : {P : List Symbol → Part → Type 0} {p : List Symbol → Read Symbol Part} → Based P p → Good (Predicate P) (predicate p) sum_first false predicate_more
unfolding predicate
good_predicate b = good_wider sum_first false predicate_more refl refl refl (good_then refl (good_sum b) (good_tail b))

pub good_negation : {P : List Symbol → Part → Type 0} {p : List Symbol → Read Symbol Part} → Based P p → Good (Negation P) (negation p) over_first false predicate_more
unfolding negation
good_negation b = good_wider over_first false predicate_more refl refl refl (good_at_key Key.Not refl (good_key Key.Not (good_made denied (good_predicate b))) (good_predicate b))

pub good_conjunction : {P : List Symbol → Part → Type 0} {p : List Symbol → Read Symbol Part} → Based P p → Good (Conjunction P) (conjunction p) over_first false conjunction_more
unfolding conjunction
good_conjunction b = good_wider over_first false conjunction_more refl refl refl (good_by_word Key.And (chained Tree.And) refl (good_negation b))

pub good_over : {P : List Symbol → Part → Type 0} {p : List Symbol → Read Symbol Part} → Based P p → Good (Over P) (over p) over_first false over_more
unfolding over
good_over b = good_wider over_first false over_more refl refl refl (good_by_word Key.Or (chained Tree.Or) refl (good_conjunction b))

-- behind x, the first unary of an expression
abbrev pub OverFrom : (List Symbol → Part → Type 0) → Part → List Symbol → Part → Type 0
OverFrom P x = Then (Rest (Symbol.Mark Sign.Star) (Unary P) (chained Tree.Product) x) (λ y. Then (SumRest P y) (λ z. Then (Tail P z) (λ w. Then (Rest (Symbol.Keyword Key.And) (Negation P) (chained Tree.And) w) (Rest (Symbol.Keyword Key.Or) (Conjunction P) (chained Tree.Or)))))

pub good_over_from : {P : List Symbol → Part → Type 0} {p : List Symbol → Read Symbol Part} → Based P p → (x : Part) → Good (OverFrom P x) (over_from p x) rest_first true over_more
unfolding over_from
good_over_from b x = good_wider rest_first true over_more refl refl refl (good_then refl (good_glyph_rest Sign.Star (chained Tree.Product) refl (good_unary b) x) (λ y. good_then refl (good_sum_rest b y) (λ z. good_then refl (good_tail b z) (λ w. good_then refl (good_word_rest Key.And (chained Tree.And) refl (good_negation b) w) (good_word_rest Key.Or (chained Tree.Or) refl (good_conjunction b))))))

-- aggregates, over an expression

abbrev pub Whole : (List Symbol → Part → Type 0) → (List Symbol → Read Symbol Part) → Type 0
Whole E e = Good E e over_first false over_more

pub good_counted : {E : List Symbol → Part → Type 0} {e : List Symbol → Read Symbol Part} → Whole E e → Good (Counted E) (counted e) (Class.OfSign Sign.Open ∷ []) false []
unfolding counted
good_counted g = good_inside refl (good_at_sign Sign.Star refl (good_sign Sign.Star (good_nothing Tally.All)) (good_made (λ x. Tally.Count x) g))

pub good_tallied : {E : List Symbol → Part → Type 0} {e : List Symbol → Read Symbol Part} → Whole E e → Good (Tallied E) (tallied e) tally_classes false []
unfolding tallied summing
good_tallied g = good_at_key Key.Count refl (good_key Key.Count (good_counted g)) (good_key Key.Sum (good_made (λ x. Tally.Sum x) (good_inside refl g)))

pub good_argument : {E : List Symbol → Part → Type 0} {e : List Symbol → Read Symbol Part} (kind : AggKind) → Whole E e → Good (Argument kind E) (argument kind e) (Class.OfSign Sign.Open ∷ []) false []
unfolding argument
good_argument kind g = good_made (aggregated kind) (good_inside refl g)

pub good_aggregate : {E : List Symbol → Part → Type 0} {e : List Symbol → Read Symbol Part} → Whole E e → Good (Aggregate E) (aggregate e) aggregate_classes false []
unfolding aggregate
good_aggregate g = good_at_set tally_classes refl refl (good_made as_aggregate (good_tallied g)) (good_at_key Key.Min refl (good_key Key.Min (good_argument AggKind.Min g)) (good_key Key.Max (good_argument AggKind.Max g)))

-- primaries, and whole expressions

pub good_primary : (depth : ℕ) → Based (Primary depth) (primary depth)
unfolding Primary primary
good_primary zero = good_wider base_first false dot refl refl refl good_atom
good_primary (suc depth) = good_wider base_first false dot refl refl refl (good_at_sign Sign.Open refl (good_inside refl (good_over (good_primary depth))) good_atom)

pub good_leaf : (depth : ℕ) → Good (Leaf depth) (leaf depth) leaf_first false dot
unfolding leaf
good_leaf depth = good_at_set aggregate_classes refl refl (good_aggregate (good_over (good_primary depth))) good_atom

pub good_grouped : (depth : ℕ) → Based (Grouped depth) (grouped depth)
unfolding Grouped grouped
good_grouped zero = good_wider base_first false dot refl refl refl (good_leaf zero)
good_grouped (suc depth) = good_wider base_first false dot refl refl refl (good_at_sign Sign.Open refl (good_inside refl (good_over (good_grouped depth))) (good_leaf (suc depth)))

pub good_base : (is_grouped : Bool) (depth : ℕ) → Based (Base is_grouped depth) (base is_grouped depth)
good_base true depth = good_grouped depth
good_base false depth = good_primary depth

pub good_expr : Good Expr expr over_first false over_more
unfolding Expr expr
good_expr = good_made (λ (x : Part). x.tree) (good_over (good_base false 32))

pub good_grouped_expr : Good GroupedExpr grouped_expr over_first false over_more
unfolding GroupedExpr grouped_expr
good_grouped_expr = good_made (λ (x : Part). x.tree) (good_over (good_base true 32))
