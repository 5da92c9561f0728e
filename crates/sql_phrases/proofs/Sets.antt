-- The symbols with which productions begin, and those that may go on with them.
use Rattle.std.proofs.Common.{List, [], ◌∷◌, ◌++◌, map}
use Rattle.sql_words.specs.declared.token.Key.{Key}
use Rattle.sql_words.specs.declared.token.Sign.{Sign}
use Rattle.sql_words.specs.declared.token.Back.{Back}
use Rattle.sql_phrases.specs.Classes.{Class, cmp_classes, signed_classes, aggregate_classes, ranking_classes, source_classes}

abbrev pub of_keys : List Key → List Class
of_keys ks = map Class.OfKey ks

abbrev pub of_signs : List Sign → List Class
of_signs ss = map Class.OfSign ss

-- expressions

abbrev pub constant_first : List Class
constant_first = Class.OfNumber ∷ (Class.OfText ∷ of_keys (Key.Date ∷ (Key.True ∷ (Key.False ∷ (Key.Null ∷ [])))))

abbrev pub literal_first : List Class
literal_first = Class.OfSign Sign.Minus ∷ constant_first

abbrev pub atom_first : List Class
atom_first = Class.OfName ∷ constant_first

-- what goes on with a name
abbrev pub dot : List Class
dot = of_signs (Sign.Dot ∷ [])

abbrev pub leaf_first : List Class
leaf_first = aggregate_classes ++ atom_first

-- of a primary of a gexpr, and of an expr too
abbrev pub base_first : List Class
base_first = Class.OfSign Sign.Open ∷ leaf_first

abbrev pub sum_first : List Class
sum_first = Class.OfSign Sign.Minus ∷ base_first

abbrev pub over_first : List Class
over_first = Class.OfKey Key.Not ∷ sum_first

abbrev pub product_more : List Class
product_more = of_signs (Sign.Dot ∷ (Sign.Star ∷ []))

abbrev pub sum_more : List Class
sum_more = product_more ++ signed_classes

abbrev pub ranged_first : List Class
ranged_first = of_keys (Key.Between ∷ (Key.In ∷ []))

abbrev pub tail_first : List Class
tail_first = cmp_classes ++ (Class.OfKey Key.Is ∷ ranged_first)

abbrev pub predicate_more : List Class
predicate_more = sum_more ++ tail_first

abbrev pub conjunction_more : List Class
conjunction_more = Class.OfKey Key.And ∷ predicate_more

abbrev pub over_more : List Class
over_more = Class.OfKey Key.Or ∷ conjunction_more

-- behind the first unary of an expression
abbrev pub rest_first : List Class
rest_first = Class.OfSign Sign.Star ∷ (signed_classes ++ (tail_first ++ of_keys (Key.And ∷ (Key.Or ∷ []))))

-- queries

abbrev pub item_more : List Class
item_more = Class.OfKey Key.As ∷ over_more

-- of an item of a query
abbrev pub tree_first : List Class
tree_first = ranking_classes ++ over_first

-- OVER goes on with a COUNT or SUM
abbrev pub tree_more : List Class
tree_more = Class.OfKey Key.Over ∷ over_more

abbrev pub select_first : List Class
select_first = Class.OfSign Sign.Star ∷ tree_first

abbrev pub select_more : List Class
select_more = Class.OfSign Sign.Comma ∷ (Class.OfKey Key.As ∷ tree_more)

abbrev pub sources_more : List Class
sources_more = source_classes ++ item_more

abbrev pub where_more : List Class
where_more = Class.OfKey Key.Where ∷ over_more

abbrev pub group_more : List Class
group_more = Class.OfKey Key.Group ∷ (Class.OfSign Sign.Comma ∷ dot)

abbrev pub having_more : List Class
having_more = Class.OfKey Key.Having ∷ over_more

abbrev pub key_first : List Class
key_first = Class.OfNumber ∷ (Class.OfName ∷ [])

abbrev pub key_more : List Class
key_more = of_keys (Key.Asc ∷ (Key.Desc ∷ []))

abbrev pub partition_more : List Class
partition_more = Class.OfKey Key.Partition ∷ (Class.OfSign Sign.Comma ∷ dot)

-- of a key of a window's order
abbrev pub row_more : List Class
row_more = dot ++ key_more

abbrev pub order_more : List Class
order_more = Class.OfKey Key.Order ∷ (Class.OfSign Sign.Comma ∷ key_more)

-- what goes on with a query, and so what goes on with any statement
abbrev pub query_more : List Class
query_more = of_keys (Key.Where ∷ (Key.Group ∷ (Key.Having ∷ (Key.Order ∷ (Key.Limit ∷ []))))) ++ (key_more ++ sources_more)

-- statements

abbrev pub kind_first : List Class
kind_first = of_keys (Key.Integer ∷ (Key.Int ∷ (Key.Bigint ∷ (Key.Boolean ∷ (Key.Varchar ∷ (Key.Date ∷ []))))))

abbrev pub encoding_first : List Class
encoding_first = of_keys (Key.Auto ∷ (Key.Rle ∷ (Key.Deltaval ∷ (Key.BlockDict ∷ (Key.Plain ∷ [])))))

abbrev pub sorted_more : List Class
sorted_more = Class.OfKey Key.Order ∷ (Class.OfSign Sign.Comma ∷ [])

abbrev pub control_first : List Class
control_first = Class.OfKey Key.Commit ∷ (Class.OfKey Key.Rollback ∷ (Class.OfBack Back.Session ∷ (Class.OfBack Back.Step ∷ [])))

abbrev pub statement_first : List Class
statement_first = of_keys (Key.Create ∷ (Key.Alter ∷ (Key.Drop ∷ (Key.Insert ∷ (Key.Delete ∷ (Key.Update ∷ (Key.Copy ∷ (Key.Select ∷ (Key.At ∷ (Key.Explain ∷ [])))))))))) ++ control_first
