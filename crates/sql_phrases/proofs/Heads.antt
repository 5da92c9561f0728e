-- An expression whose first symbol is COUNT or SUM begins with that aggregate: it is read as that, and then what stands
-- behind it.
use Rattle.std.proofs.Common.{◌≡◌, ℕ, zero, suc, Bool, true, false, if◌then◌else◌, List, [], ◌∷◌, refl, sym, ◌∙◌, ap}
use Rattle.sql_words.specs.declared.token.Key.{Key}
use Rattle.sql_words.specs.declared.token.Sign.{Sign}
use Rattle.sql_words.specs.Symbols.{Symbol}
use Rattle.sql_tree.specs.declared.part.Part.{Part}
use Rattle.sql_tree.specs.declared.part.Tally.{Tally}
use Rattle.sql_tree.specs.declared.tree.Tree.{Tree}
use Rattle.sql_tree.specs.declared.tree.Tree
use Rattle.sql_tree.specs.Makers.{chained, as_aggregate}
use Rattle.sql_tree.specs.Phrases.{Then}
use Rattle.sql_tree.specs.Expressions.{Over, Base, Expr}
use Rattle.sql_tree.specs.Queries.{ItemTally}
use Rattle.sql_phrases.specs.Readings.{Read, after, nothing, both, head_is, choose}
use Rattle.sql_phrases.specs.Classes.{Class, is_key, is_sign, in_set, aggregate_classes, tally_classes, window_classes}
use Rattle.sql_phrases.specs.Readers.{Reads, word_rest, glyph_rest, by_word, by_glyph, atom, unary, product, sum_rest, sum, tail, predicate, negation, conjunction, over, over_from, tallied, aggregate, primary, leaf, grouped, base, expr, item_tally}
use Rattle.sql_phrases.proofs.Goods.{Good, key_tells, sign_tells, good_then, good_stops, head_apart, head_within, begins_head}
use Rattle.sql_phrases.proofs.Placing.{reads_whole, found_whole}
use Rattle.sql_phrases.proofs.GoodExpressions.{OverFrom, good_atom, good_over, good_over_from, good_tallied, good_base, good_expr}
use Rattle.sql_phrases.proofs.Sets.{over_more}

choose_first : {V : Type 0} (p : Symbol → Bool) (a b : Reads V) (ts : List Symbol) → head_is p ts ≡ true → choose p a b ts ≡ a ts
unfolding choose
choose_first p a b ts h = ap (λ z. if z then a ts else b ts) h

choose_second : {V : Type 0} (p : Symbol → Bool) (a b : Reads V) (ts : List Symbol) → head_is p ts ≡ false → choose p a b ts ≡ b ts
unfolding choose
choose_second p a b ts h = ap (λ z. if z then a ts else b ts) h

-- what goes on behind what was taken, one after the other

two_on : (q : Read Symbol Part) (f g : Part → Reads Part) → after (after q f) g ≡ after q (λ x r. after (f x r) g)
two_on (Read.Took x r) f g = refl
two_on (Read.Stopped r) f g = refl

three_on : (q : Read Symbol Part) (f g h : Part → Reads Part) → after (after (after q f) g) h ≡ after q (λ x r. after (f x r) (λ y s. after (g y s) h))
three_on (Read.Took x r) f g h = two_on (f x r) g h
three_on (Read.Stopped r) f g h = refl

four_on : (q : Read Symbol Part) (f g h i : Part → Reads Part) → after (after (after (after q f) g) h) i ≡ after q (λ x r. after (f x r) (λ y s. after (g y s) (λ z t. after (h z t) i)))
four_on (Read.Took x r) f g h i = three_on (f x r) g h i
four_on (Read.Stopped r) f g h i = refl

five_on : (q : Read Symbol Part) (f g h i j : Part → Reads Part) → after (after (after (after (after q f) g) h) i) j ≡ after q (λ x r. after (f x r) (λ y s. after (g y s) (λ z t. after (h z t) (λ w u. after (i w u) j))))
five_on (Read.Took x r) f g h i j = four_on (f x r) g h i j
five_on (Read.Stopped r) f g h i j = refl

unary_plain : (p : Reads Part) (ts : List Symbol) → head_is (is_sign Sign.Minus) ts ≡ false → unary p ts ≡ p ts
unfolding unary
unary_plain p ts h = choose_second (is_sign Sign.Minus) _ p ts h

negation_plain : (p : Reads Part) (ts : List Symbol) → head_is (is_key Key.Not) ts ≡ false → negation p ts ≡ predicate p ts
unfolding negation
negation_plain p ts h = choose_second (is_key Key.Not) _ (predicate p) ts h

-- an expression that begins with neither a minus nor NOT is its first primary, and what stands behind it
over_first_part : (p : Reads Part) (ts : List Symbol) → head_is (is_sign Sign.Minus) ts ≡ false → head_is (is_key Key.Not) ts ≡ false → over p ts ≡ after (p ts) (over_from p)
unfolding over conjunction predicate sum product by_word by_glyph over_from both
over_first_part p ts minus denied =
    ap (λ q. after (after q (word_rest Key.And (negation p) (chained Tree.And))) (word_rest Key.Or (conjunction p) (chained Tree.Or))) (negation_plain p ts denied)
    ∙ ap (λ q. after (after (after (after (after q (glyph_rest Sign.Star (unary p) (chained Tree.Product))) (sum_rest p)) (tail p)) (word_rest Key.And (negation p) (chained Tree.And))) (word_rest Key.Or (conjunction p) (chained Tree.Or))) (unary_plain p ts minus)
    ∙ five_on (p ts) (glyph_rest Sign.Star (unary p) (chained Tree.Product)) (sum_rest p) (tail p) (word_rest Key.And (negation p) (chained Tree.And)) (word_rest Key.Or (conjunction p) (chained Tree.Or))

-- a gexpr's primary that begins with COUNT or SUM is that aggregate

leaf_tally : (d : ℕ) (ts : List Symbol) → head_is (in_set tally_classes) ts ≡ true → leaf d ts ≡ both (tallied (over (primary d))) (λ t. nothing (as_aggregate t)) ts
unfolding leaf aggregate
leaf_tally d ts h =
    choose_first (in_set aggregate_classes) (aggregate (over (primary d))) atom ts (head_within tally_classes aggregate_classes refl ts h)
    ∙ choose_first (in_set tally_classes) (both (tallied (over (primary d))) (λ t. nothing (as_aggregate t))) _ ts h

grouped_tally : (d : ℕ) (ts : List Symbol) → head_is (in_set tally_classes) ts ≡ true → grouped d ts ≡ both (tallied (over (primary d))) (λ t. nothing (as_aggregate t)) ts
unfolding grouped
grouped_tally zero ts h = leaf_tally zero ts h
grouped_tally (suc d) ts h = choose_second (is_sign Sign.Open) _ (leaf (suc d)) ts (head_apart (is_sign Sign.Open) (Class.OfSign Sign.Open ∷ []) tally_classes (sign_tells Sign.Open) refl ts h) ∙ leaf_tally (suc d) ts h

made_on : (q : Read Symbol Tally) (f : Part → Reads Part) → after (after q (λ t r. Read.Took (as_aggregate t) r)) f ≡ after q (λ t r. f (as_aggregate t) r)
made_on (Read.Took t r) f = refl
made_on (Read.Stopped r) f = refl

over_tally : (d : ℕ) (ts : List Symbol) → head_is (in_set tally_classes) ts ≡ true → over (grouped d) ts ≡ both (tallied (over (primary d))) (λ t. over_from (grouped d) (as_aggregate t)) ts
unfolding both nothing
over_tally d ts h =
    over_first_part (grouped d) ts (head_apart (is_sign Sign.Minus) (Class.OfSign Sign.Minus ∷ []) tally_classes (sign_tells Sign.Minus) refl ts h) (head_apart (is_key Key.Not) (Class.OfKey Key.Not ∷ []) tally_classes (key_tells Key.Not) refl ts h)
    ∙ ap (λ q. after q (over_from (grouped d))) (grouped_tally d ts h)
    ∙ made_on (tallied (over (primary d)) ts) (over_from (grouped d))

-- what an expression with aggregates is where it begins with COUNT or SUM
abbrev pub Tallying : List Symbol → Part → Type 0
Tallying = Then ItemTally (λ t. OverFrom (Base true 32) (as_aggregate t))

abbrev pub tallying : Reads Part
tallying = both item_tally (λ t. over_from (base true 32) (as_aggregate t))

good_tallying : Good Tallying tallying tally_classes false over_more
unfolding item_tally
good_tallying = good_then refl (good_tallied (good_over (good_base false 32))) (λ t. good_over_from (good_base true 32) (as_aggregate t))

pub tally_up : (front : List Symbol) (v : Part) → Tallying front v → Over (Base true 32) front v
unfolding item_tally
tally_up front v h =
    let taken : tallying front ≡ Read.Took v [] = reads_whole Tallying (in_set over_more) tallying good_tallying.again front v h in
    let head = begins_head tally_classes front (good_tallying.begins front v h) in
    found_whole (Over (Base true 32)) (over (base true 32)) (good_over (good_base true 32)).judge front v (over_tally 32 front head ∙ taken)

pub tally_down : (front : List Symbol) (v : Part) → Over (Base true 32) front v → head_is (in_set tally_classes) front ≡ true → Tallying front v
unfolding item_tally
tally_down front v h head =
    let taken : over (base true 32) front ≡ Read.Took v [] = reads_whole (Over (Base true 32)) (in_set over_more) (over (base true 32)) (good_over (good_base true 32)).again front v h in
    found_whole Tallying tallying good_tallying.judge front v (sym (over_tally 32 front head) ∙ taken)

-- an expression without aggregates begins with no window function

primary_stops : (d : ℕ) (ts : List Symbol) → head_is (in_set window_classes) ts ≡ true → primary d ts ≡ Read.Stopped ts
unfolding primary
primary_stops zero ts h = good_stops window_classes good_atom refl ts h
primary_stops (suc d) ts h = choose_second (is_sign Sign.Open) _ atom ts (head_apart (is_sign Sign.Open) (Class.OfSign Sign.Open ∷ []) window_classes (sign_tells Sign.Open) refl ts h) ∙ good_stops window_classes good_atom refl ts h

over_stops : (d : ℕ) (ts : List Symbol) → head_is (in_set window_classes) ts ≡ true → over (primary d) ts ≡ Read.Stopped ts
over_stops d ts h =
    over_first_part (primary d) ts (head_apart (is_sign Sign.Minus) (Class.OfSign Sign.Minus ∷ []) window_classes (sign_tells Sign.Minus) refl ts h) (head_apart (is_key Key.Not) (Class.OfKey Key.Not ∷ []) window_classes (key_tells Key.Not) refl ts h)
    ∙ ap (λ q. after q (over_from (primary d))) (primary_stops d ts h)

expr_stops : (ts : List Symbol) → head_is (in_set window_classes) ts ≡ true → expr ts ≡ Read.Stopped ts
unfolding expr both
expr_stops ts h = ap (λ q. after q (λ x. nothing x.tree)) (over_stops 32 ts h)

pub no_expr : (front : List Symbol) (v : Tree) → Expr front v → head_is (in_set window_classes) front ≡ true → ⊥
no_expr front v h head =
    let taken : expr front ≡ Read.Took v [] = reads_whole Expr (in_set over_more) expr good_expr.again front v h in
    let e : Read.Took v [] ≡ Read.Stopped front = sym taken ∙ expr_stops front head in
    cc
