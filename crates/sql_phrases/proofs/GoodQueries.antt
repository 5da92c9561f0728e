-- Each production of queries is good.
use Rattle.std.proofs.Common.{◌≡◌, inl, inr, ℕ, pos, Bool, true, false, List, [], ◌∷◌, ◌++◌, Option, Some, None, refl, sym, ap, subst, ◌∙◌, append_assoc, append-nil}
use Rattle.sql_words.specs.declared.token.Key.{Key}
use Rattle.sql_words.specs.declared.token.Sign.{Sign}
use Rattle.sql_words.specs.Symbols.{Symbol}
use Rattle.sql_tree.specs.declared.part.Part.{Part}
use Rattle.sql_tree.specs.declared.part.Tally.{Tally}
use Rattle.sql_tree.specs.declared.query.Item.{Item}
use Rattle.sql_tree.specs.declared.query.ItemTree.{ItemTree}
use Rattle.sql_tree.specs.declared.query.Items.{Items}
use Rattle.sql_tree.specs.declared.query.KeyRef.{KeyRef}
use Rattle.sql_tree.specs.declared.query.ListMode.{ListMode}
use Rattle.sql_tree.specs.declared.query.Query.{Query}
use Rattle.sql_tree.specs.declared.query.SortKey.{SortKey}
use Rattle.sql_tree.specs.declared.query.Source.{Source}
use Rattle.sql_tree.specs.declared.query.Window.{Window}
use Rattle.sql_tree.specs.declared.query.WindowKey.{WindowKey}
use Rattle.sql_tree.specs.declared.query.WindowKind.{WindowKind}
use Rattle.sql_tree.specs.Makers.{as_aggregate, as_window, over_all, over_parts}
use Rattle.sql_tree.specs.Modes.{after_item, is_windowed}
use Rattle.sql_tree.specs.Phrases.{Nothing, Then, Either}
use Rattle.sql_tree.specs.Symbols.{Glyph}
use Rattle.sql_tree.specs.Expressions.{Over, Base, Expr, GroupedExpr}
use Rattle.sql_tree.specs.Queries.{Alias, Descending, RowKey, PartitionBy, RowOrder, OverRows, Ranking, ItemTally, Windows, ItemTrees, SelectItem, ItemList, SelectList, FromItem, joined_on, Joined, NextSource, Sources, Where, GroupBy, Having, KeyName, OrderKey, OrderBy, Limit, Queries}
use Rattle.sql_phrases.specs.Readings.{head_is}
use Rattle.sql_phrases.specs.Classes.{Class, is_sign, in_set, name_classes, number_classes, tally_classes, ranking_classes, window_classes, source_classes}
use Rattle.sql_phrases.specs.Readers.{alias, descending, row_key, partition_by, row_order, parts_of, over_rows, bare_window, next_item, ranking, item_tally, ranked, windows, tally_expr, tally_window, tally_item, plain_item, item_tree, select_item, items, select_list, from_item, joins, next_source, sources, where_clause, group_by, having, key_name, order_key, order_by, limit, queries}
use Rattle.sql_phrases.proofs.Goods.{Good, sign_tells, good_nothing, good_key, good_sign, good_then, good_made, good_many, good_turns, good_prefer, good_alike, good_wider}
use Rattle.sql_phrases.proofs.Shapes.{good_at_key, good_at_sign, good_at_set, good_inside, good_listed}
use Rattle.sql_phrases.proofs.Picks.{good_name, good_number}
use Rattle.sql_phrases.proofs.GoodExpressions.{OverFrom, good_reference, good_over, good_over_from, good_tallied, good_base, good_expr, good_grouped_expr}
use Rattle.sql_phrases.proofs.Heads.{Tallying, tally_up, tally_down, no_expr}
use Rattle.sql_phrases.proofs.Sets.{of_keys, over_first, over_more, item_more, tree_first, tree_more, select_first, select_more, sources_more, where_more, group_more, having_more, key_first, key_more, partition_more, row_more, order_more, query_more}

pub good_alias : Good Alias alias (of_keys (Key.As ∷ [])) true (of_keys (Key.As ∷ []))
unfolding alias
good_alias = good_at_key Key.As refl (good_key Key.As (good_made (λ n. Some n) good_name)) (good_nothing None)

-- windows

pub good_descending : Good Descending descending key_more true key_more
unfolding descending
good_descending = good_wider key_more true key_more refl refl refl (good_at_key Key.Asc refl (good_key Key.Asc (good_nothing false)) (good_at_key Key.Desc refl (good_key Key.Desc (good_nothing true)) (good_nothing false)))

pub good_row_key : Good RowKey row_key name_classes false row_more
unfolding row_key
good_row_key = good_wider name_classes false row_more refl refl refl (good_then refl good_reference (λ c.
    let with_side : Bool → WindowKey = λ d. record { column = c; descending = d } in
    good_made with_side good_descending))

pub good_partition_by : Good PartitionBy partition_by (of_keys (Key.Partition ∷ [])) true partition_more
unfolding partition_by
good_partition_by = good_wider (of_keys (Key.Partition ∷ [])) true partition_more refl refl refl (good_at_key Key.Partition refl (good_key Key.Partition (good_key Key.By (good_listed refl good_reference))) (good_nothing []))

pub good_row_order : Good RowOrder row_order (of_keys (Key.Order ∷ [])) true (Class.OfKey Key.Order ∷ (Class.OfSign Sign.Comma ∷ row_more))
unfolding row_order
good_row_order = good_wider (of_keys (Key.Order ∷ [])) true (Class.OfKey Key.Order ∷ (Class.OfSign Sign.Comma ∷ row_more)) refl refl refl (good_at_key Key.Order refl (good_key Key.Order (good_key Key.By (good_listed refl good_row_key))) (good_nothing []))

pub good_over_rows : (w : Window) → Good (OverRows w) (over_rows w) (of_keys (Key.Over ∷ [])) false []
unfolding over_rows parts_of
good_over_rows w = good_key Key.Over (good_inside refl (good_then refl good_partition_by (λ ps. good_made (over_parts w ps) good_row_order)))

pub good_ranking : Good Ranking ranking ranking_classes false []
unfolding ranking bare_window
good_ranking = good_at_key Key.RowNumber refl (good_key Key.RowNumber (good_sign Sign.Open (good_sign Sign.Close (good_nothing (over_all WindowKind.RowNumber None))))) (good_key Key.Rank (good_sign Sign.Open (good_sign Sign.Close (good_nothing (over_all WindowKind.Rank None)))))

pub good_item_tally : Good ItemTally item_tally tally_classes false []
unfolding item_tally
good_item_tally = good_tallied (good_over (good_base false 32))

pub good_windows : Good Windows windows window_classes false []
unfolding windows
good_windows = good_at_set ranking_classes refl refl (good_then refl good_ranking good_over_rows) (good_then refl good_item_tally (λ t. good_over_rows (as_window t)))

-- items, of which COUNT and SUM begin both a window and an expression

abbrev Plain : List Symbol → ItemTree → Type 0
Plain = Then GroupedExpr (λ e. Nothing (ItemTree.Plain e))

abbrev Windowing : List Symbol → ItemTree → Type 0
Windowing = Then Windows (λ w. Nothing (ItemTree.Window w))

abbrev Ranked : List Symbol → ItemTree → Type 0
Ranked = Then (Then Ranking OverRows) (λ w. Nothing (ItemTree.Window w))

abbrev TallyWindow : Tally → List Symbol → ItemTree → Type 0
TallyWindow t = Then (OverRows (as_window t)) (λ w. Nothing (ItemTree.Window w))

abbrev as_plain : Part → ItemTree
as_plain x = ItemTree.Plain x.tree

abbrev TallyExpr : Tally → List Symbol → ItemTree → Type 0
TallyExpr t = Then (OverFrom (Base true 32) (as_aggregate t)) (λ x. Nothing (as_plain x))

abbrev TallyItem : List Symbol → ItemTree → Type 0
TallyItem = Then ItemTally (λ t. Either (TallyWindow t) (TallyExpr t))

good_plain : Good Plain plain_item over_first false over_more
unfolding plain_item
good_plain = good_made (λ e. ItemTree.Plain e) good_grouped_expr

good_ranked : Good Ranked ranked ranking_classes false []
unfolding ranked
good_ranked = good_made (λ w. ItemTree.Window w) (good_then refl good_ranking good_over_rows)

good_tally_window : (t : Tally) → Good (TallyWindow t) (tally_window t) (of_keys (Key.Over ∷ [])) false []
unfolding tally_window
good_tally_window t = good_made (λ w. ItemTree.Window w) (good_over_rows (as_window t))

good_tally_item : Good TallyItem tally_item tally_classes false tree_more
unfolding tally_item tally_expr
good_tally_item = good_wider tally_classes false tree_more refl refl refl (good_then refl good_item_tally (λ t. good_at_key Key.Over refl (good_tally_window t) (good_made as_plain (good_over_from (good_base true 32) (as_aggregate t)))))

plain_made : (front : List Symbol) (x : Part) → Over (Base true 32) front x → Plain front (as_plain x)
unfolding GroupedExpr
plain_made front x h = (front, x.tree, [], sym (append-nil front), (front, x, [], sym (append-nil front), h, (refl, refl)), (refl, refl))

-- a COUNT or SUM, and what goes on with it, is an expression
tally_plain : (front : List Symbol) (e : ItemTree) → Then ItemTally TallyExpr front e → Plain front e
tally_plain front e (a, t, b, is, h, (c, x, d, f, k, (g, same))) =
    let all : front ≡ a ++ c = is ∙ ap (λ z. a ++ z) (f ∙ ap (λ z. c ++ z) g ∙ append-nil c) in
    let made : Plain (a ++ c) (as_plain x) = plain_made (a ++ c) x (tally_up (a ++ c) x (a, t, c, refl, h, k)) in
    subst (λ z. Plain z e) (sym all) (subst (λ z. Plain (a ++ c) z) (sym same) made)

-- an expression that begins with COUNT or SUM is one, and what goes on with it
plain_tally : (front : List Symbol) (e : ItemTree) → Plain front e → head_is (in_set tally_classes) front ≡ true → TallyItem front e
unfolding GroupedExpr
plain_tally front e (a, v, b, is, (c, x, d, f, h, (g, tree)), (k, same)) head =
    let all : front ≡ c = is ∙ ap (λ z. a ++ z) k ∙ append-nil a ∙ f ∙ ap (λ z. c ++ z) g ∙ append-nil c in
    let made : e ≡ as_plain x = same ∙ ap (λ z. ItemTree.Plain z) tree in
    let whole : Over (Base true 32) front x = subst (λ z. Over (Base true 32) z x) (sym all) h in
    subst (λ z. TallyItem front z) (sym made) (tallying_item front x (tally_down front x whole head))
  where
    tallying_item : (front : List Symbol) (x : Part) → Tallying front x → TallyItem front (as_plain x)
    tallying_item front x (a, t, b, e, h, k) = (a, t, b, e, h, inr (b, x, [], sym (append-nil b), k, (refl, refl)))

-- what stands in a list in which all may stand, by what it begins with
free_down : (front : List Symbol) (e : ItemTree) → Either Windowing Plain front e → Either Ranked (Either TallyItem Plain) front e
free_down front e (inl (a, w, b, is, inl r, k)) = inl (a, w, b, is, r, k)
free_down front e (inl (a, w, b, is, inr (c, t, d, f, h, o), k)) = inr (inl (c, t, d ++ b, is ∙ ap (λ z. z ++ b) f ∙ append_assoc c d b, h, inl (d, w, b, refl, o, k)))
free_down front e (inr h) = inr (inr h)

free_up : (front : List Symbol) (e : ItemTree) → Either Ranked (Either TallyItem Plain) front e → Either Windowing Plain front e
free_up front e (inl (a, w, b, is, r, k)) = inl (a, w, b, is, inl r, k)
free_up front e (inr (inl (c, t, m, is, h, inl (d, w, b, f, o, k)))) = inl (c ++ d, w, b, is ∙ ap (λ z. c ++ z) f ∙ sym (append_assoc c d b), inr (c, t, d, refl, h, o), k)
free_up front e (inr (inl (c, t, m, is, h, inr k))) = inr (tally_plain front e (c, t, m, is, h, k))
free_up front e (inr (inr h)) = inr h

good_free : Good (ItemTrees ListMode.Free) (item_tree ListMode.Free) tree_first false tree_more
unfolding item_tree
good_free = good_wider tree_first false tree_more refl refl refl (good_alike free_up free_down (good_at_set ranking_classes refl refl good_ranked (good_prefer (in_set tally_classes) tally_classes (λ t. refl) refl good_tally_item good_plain plain_tally)))

no_plain : (front : List Symbol) (e : ItemTree) → Then Expr (λ v. Nothing (ItemTree.Plain v)) front e → head_is (in_set window_classes) front ≡ true → Windowing front e
no_plain front e (a, v, b, is, h, (k, same)) head = absurd (no_expr a v h (sym (ap (head_is (in_set window_classes)) (is ∙ ap (λ z. a ++ z) k ∙ append-nil a)) ∙ head))

good_windowed : Good (ItemTrees ListMode.Windowed) (item_tree ListMode.Windowed) tree_first false tree_more
unfolding item_tree
good_windowed = good_wider tree_first false tree_more refl refl refl (good_prefer (in_set window_classes) window_classes (λ t. refl) refl (good_made (λ w. ItemTree.Window w) good_windows) (good_made (λ e. ItemTree.Plain e) good_expr) no_plain)

good_grouped_item : Good (ItemTrees ListMode.Grouped) (item_tree ListMode.Grouped) tree_first false tree_more
unfolding item_tree
good_grouped_item = good_wider tree_first false tree_more refl refl refl good_plain

pub good_item_tree : (m : ListMode) → Good (ItemTrees m) (item_tree m) tree_first false tree_more
good_item_tree ListMode.Free = good_free
good_item_tree ListMode.Grouped = good_grouped_item
good_item_tree ListMode.Windowed = good_windowed

pub good_select_item : (m : ListMode) → Good (SelectItem m) (select_item m) tree_first false (Class.OfKey Key.As ∷ tree_more)
unfolding select_item
good_select_item m = good_wider tree_first false (Class.OfKey Key.As ∷ tree_more) refl refl refl (good_then refl (good_item_tree m) (λ e.
    let with_alias : Option (List ℕ) → Item = λ a. record { tree = e; alias = a } in
    good_made with_alias good_alias))

pub good_next_item : (m : ListMode) → Good (Glyph Sign.Comma (SelectItem m)) (next_item m) (Class.OfSign Sign.Comma ∷ []) false (Class.OfKey Key.As ∷ tree_more)
good_next_item m = good_sign Sign.Comma (good_select_item m)

pub good_items : Good ItemList items tree_first false select_more
unfolding items
good_items = good_wider tree_first false select_more refl refl refl (good_then refl (good_select_item ListMode.Free) (λ i. good_made (λ is. i ∷ is) (good_turns (is_sign Sign.Comma) (Class.OfSign Sign.Comma ∷ []) (sign_tells Sign.Comma) refl refl after_item good_next_item (after_item ListMode.Free i))))

pub good_select_list : Good SelectList select_list select_first false select_more
unfolding select_list
good_select_list = good_wider select_first false select_more refl refl refl (good_at_sign Sign.Star refl (good_sign Sign.Star (good_nothing Items.Star)) (good_made (λ is. Items.Listed is) good_items))

pub good_from_item : Good FromItem from_item name_classes false (of_keys (Key.As ∷ []))
unfolding from_item
good_from_item = good_then refl good_name (λ t.
    let with_alias : Option (List ℕ) → Source = λ a. record { table = t; alias = a; on = None } in
    good_made with_alias good_alias)

pub good_joins : Good Joined joins name_classes false over_more
unfolding joins
good_joins = good_then refl good_from_item (λ s. good_key Key.On (good_made (joined_on s) good_expr))

pub good_next_source : Good NextSource next_source source_classes false item_more
unfolding next_source
good_next_source = good_wider source_classes false item_more refl refl refl (good_at_sign Sign.Comma refl (good_sign Sign.Comma good_from_item) (good_at_key Key.Inner refl (good_key Key.Inner (good_key Key.Join good_joins)) (good_key Key.Join good_joins)))

pub good_sources : Good Sources sources name_classes false sources_more
unfolding sources
good_sources = good_wider name_classes false sources_more refl refl refl (good_then refl good_from_item (λ s. good_made (λ ss. s ∷ ss) (good_many (in_set source_classes) source_classes (λ t. refl) refl refl good_next_source)))

pub good_where : Good Where where_clause (of_keys (Key.Where ∷ [])) true where_more
unfolding where_clause
good_where = good_wider (of_keys (Key.Where ∷ [])) true where_more refl refl refl (good_at_key Key.Where refl (good_key Key.Where (good_made (λ e. Some e) good_expr)) (good_nothing None))

pub good_group_by : (windowed : Bool) → Good (GroupBy windowed) (group_by windowed) (of_keys (Key.Group ∷ [])) true group_more
unfolding group_by
good_group_by true = good_wider (of_keys (Key.Group ∷ [])) true group_more refl refl refl (good_nothing [])
good_group_by false = good_wider (of_keys (Key.Group ∷ [])) true group_more refl refl refl (good_at_key Key.Group refl (good_key Key.Group (good_key Key.By (good_listed refl good_reference))) (good_nothing []))

pub good_having : (windowed : Bool) → Good (Having windowed) (having windowed) (of_keys (Key.Having ∷ [])) true having_more
unfolding having
good_having true = good_wider (of_keys (Key.Having ∷ [])) true having_more refl refl refl (good_nothing None)
good_having false = good_wider (of_keys (Key.Having ∷ [])) true having_more refl refl refl (good_at_key Key.Having refl (good_key Key.Having (good_made (λ e. Some e) good_grouped_expr)) (good_nothing None))

pub good_key_name : Good KeyName key_name key_first false []
unfolding key_name
good_key_name = good_at_set number_classes refl refl (good_made (λ n. KeyRef.Number (pos n)) good_number) (good_made (λ n. KeyRef.Name n) good_name)

pub good_order_key : Good OrderKey order_key key_first false key_more
unfolding order_key
good_order_key = good_then refl good_key_name (λ k.
    let with_side : Bool → SortKey = λ d. record { key = k; descending = d } in
    good_made with_side good_descending)

pub good_order_by : Good OrderBy order_by (of_keys (Key.Order ∷ [])) true order_more
unfolding order_by
good_order_by = good_wider (of_keys (Key.Order ∷ [])) true order_more refl refl refl (good_at_key Key.Order refl (good_key Key.Order (good_key Key.By (good_listed refl good_order_key))) (good_nothing []))

pub good_limit : Good Limit limit (of_keys (Key.Limit ∷ [])) true (of_keys (Key.Limit ∷ []))
unfolding limit
good_limit = good_at_key Key.Limit refl (good_key Key.Limit (good_made (λ n. Some n) good_number)) (good_nothing None)

pub good_queries : Good Queries queries select_first false query_more
unfolding queries
good_queries = good_wider select_first false query_more refl refl refl (good_then refl good_select_list (λ is. good_key Key.From (good_then refl good_sources (λ ss. good_then refl good_where (λ w. good_then refl (good_group_by (is_windowed is)) (λ g. good_then refl (good_having (is_windowed is)) (λ h. good_then refl good_order_by (λ o.
    let with_limit : Option ℕ → Query = λ l. record { items = is; sources = ss; keep = w; group = g; having = h; order = o; limit = l } in
    good_made with_limit good_limit))))))))
