-- Rows at places that conditions keep, one condition after another.
use Rattle.std.proofs.Common.{◌≡◌, ℕ, ◌+◌, ◌<◌, ◌≤◌, ◌++◌, ◌&&◌, ◌==◌, Bool, true, false, if◌then◌else◌, cond, List, [], ◌∷◌, length, get_or, map, take, filter, refl, sym, ap, ap₂, ◌∙◌, subst}
use Rattle.std.specs.Prelude.{slice_index_or}
use Rattle.std.specs.List.{list_all}
use Rattle.std.proofs.Math.ListN.{get_or-map}
use Rattle.std.proofs.lemmas.List.{append-nil, take_all, take_more}
use Rattle.std.proofs.lemmas.List.Elements.{All-filter, filter-append}
use Rattle.block_codec.specs.Held.{picked}
use Rattle.col_value.specs.Order.{IsRow, wide_cmp, wide_kind, widened}
use Rattle.col_value.specs.declared.value.Value.{Value}
use Rattle.col_value.specs.declared.value.Value.TheVariants as value
use Rattle.col_value.specs.declared.wide.Wide.{Wide}
use Rattle.col_value.specs.declared.wide.Wide.TheVariants as wide
use Rattle.exec_group.specs.Columns.{row_of, AreRowsAt}
use Rattle.sql_bound.specs.declared.expr.Expr.{Expr}
use Rattle.sql_bound.specs.Outputs.{is_kept}
use Rattle.sql_bound.specs.Values.{compared, holds, is_true, of_row, value_of}
use Rattle.sql_tree.specs.declared.tree.Cmp.{Cmp}
use Rattle.query_run.specs.Outputs.{is_marked}
use Rattle.query_run.proofs.Together.{Columns}

abbrev pub is_true_at : Columns → Expr → ℕ → Bool
is_true_at columns e i = is_true (value_of (of_row (row_of columns i)) e)

all_more : (p : Expr → Bool) (es : List Expr) (e : Expr) → list_all p (es ++ e ∷ []) ≡ (list_all p es && p e)
all_more p [] e = one (p e)
  where
    one : (b : Bool) → (b && true) ≡ b
    one true = refl
    one false = refl
all_more p (x ∷ es) e =
    ap (λ (b : Bool). p x && b) (all_more p es e) ∙ grouped (p x) (list_all p es) (p e)
  where
    grouped : (a b c : Bool) → (a && (b && c)) ≡ ((a && b) && c)
    grouped true b c = refl
    grouped false b c = refl

filter_next : (p q r : ℕ → Bool) (places : List ℕ) → ((i : ℕ) → r i ≡ (p i && q i)) → filter q (filter p places) ≡ filter r places
filter_next p q r [] each = refl
filter_next p q r (i ∷ places) each =
    elim (p i) as (λ b. p i ≡ b → filter q (cond b (i ∷ filter p places) (filter p places)) ≡ cond (r i) (i ∷ filter r places) (filter r places)) [
      | true ↦ λ e.
          let here : r i ≡ q i = each i ∙ ap (λ (b : Bool). b && q i) e in
          ap (λ (l : List ℕ). cond (q i) (i ∷ l) l) (filter_next p q r places each) ∙ ap (λ (b : Bool). cond b (i ∷ filter r places) (filter r places)) (sym here)
      | false ↦ λ e.
          let here : r i ≡ false = each i ∙ ap (λ (b : Bool). b && q i) e in
          filter_next p q r places each ∙ ap (λ (b : Bool). cond b (i ∷ filter r places) (filter r places)) (sym here)
    ] refl

-- a condition more
pub kept_more : (columns : Columns) (keep : List Expr) (k : ℕ) (e : Expr) (places kept next : List ℕ) → k < length keep → e ≡ get_or keep k e → kept ≡ filter (λ i. is_kept (take k keep) (row_of columns i)) places
    → next ≡ filter (is_true_at columns e) kept → next ≡ filter (λ i. is_kept (take (k + 1) keep) (row_of columns i)) places
kept_more columns keep k e places kept next h is before more =
    more ∙ ap (filter (is_true_at columns e)) before
    ∙ filter_next (λ i. is_kept (take k keep) (row_of columns i)) (is_true_at columns e) (λ i. is_kept (take (k + 1) keep) (row_of columns i)) places (λ i.
    ap (λ (es : List Expr). is_kept es (row_of columns i)) (take_more keep k e h ∙ ap (λ (x : Expr). take k keep ++ x ∷ []) (sym is)) ∙ all_more (λ x. is_true_at columns x i) (take k keep) e)

pub kept_done : (columns : Columns) (keep : List Expr) (k : ℕ) (places kept : List ℕ) → length keep ≤ k → kept ≡ filter (λ i. is_kept (take k keep) (row_of columns i)) places → kept ≡ filter (λ i. is_kept keep (row_of columns i)) places
kept_done columns keep k places kept past is = is ∙ ap (λ (es : List Expr). filter (λ i. is_kept es (row_of columns i)) places) (take_all k keep past)

pub kept_none : (columns : Columns) (places kept : List ℕ) → kept ≡ places → kept ≡ filter (λ i. is_kept [] (row_of columns i)) places
kept_none columns places kept is = is ∙ whole places
  where
    whole : (ps : List ℕ) → ps ≡ filter (λ i. true) ps
    whole [] = refl
    whole (p ∷ ps) = ap (λ (l : List ℕ). p ∷ l) (whole ps)

pub kept_rows_at : (columns : Columns) (test : ℕ → Bool) (places kept : List ℕ) → kept ≡ filter test places → AreRowsAt columns places → AreRowsAt columns kept
kept_rows_at columns test places kept is all = subst (AreRowsAt columns) (sym is) (All-filter test (λ i. IsRow (row_of columns i)) places all)

never : (b : Bool) → (b && false) ≡ false
never true = refl
never false = refl

-- no comparison of NULL holds
null_told : (cmp : Cmp) (literal : Wide) → is_true (compared cmp wide.Null literal) ≡ false
null_told cmp literal = ap (λ (b : Bool). is_true (if b then wide.Bool (holds cmp (wide_cmp wide.Null literal)) else wide.Null)) (never (0 == wide_kind literal))

-- what is asked of a word's value is asked of the word
pub word_told : (cmp : Cmp) (literal : Wide) (words : List Value) (codes : List ℕ) (place : ℕ)
    → is_true (compared cmp (widened (slice_index_or (picked words codes) place value.Null)) literal) ≡ is_marked (map (λ w. is_true (compared cmp (widened w) literal)) words) codes place
word_told cmp literal words codes place = sym (told (picked words codes) place) ∙ ap (λ (bs : List Bool). get_or bs place false) (each codes)
  where
    f : Value → Bool
    f w = is_true (compared cmp (widened w) literal)

    told : (xs : List Value) (n : ℕ) → get_or (map f xs) n false ≡ f (get_or xs n value.Null)
    told xs n = ap (λ (d : Bool). get_or (map f xs) n d) (sym (null_told cmp literal)) ∙ get_or-map f xs n value.Null

    each : (cs : List ℕ) → map f (picked words cs) ≡ map (λ p. get_or (map f words) p false) cs
    each [] = refl
    each (c ∷ cs) = ap₂ (λ (b : Bool) (bs : List Bool). b ∷ bs) (sym (told words c)) (each cs)

-- of the first conditions those that are told, with one more that is, and with one that isn't
module _ (told : Expr → Bool) (columns : Columns) (keep : List Expr) (k : ℕ) (e : Expr) (places kept : List ℕ) (h : k < length keep) (is : e ≡ get_or keep k e) (before : kept ≡ filter (λ i. is_kept (filter told (take k keep)) (row_of columns i)) places) where
  with_next : (b : Bool) → told e ≡ b → filter told (take (k + 1) keep) ≡ filter told (take k keep) ++ (if b then e ∷ [] else [])
  with_next b f =
      ap (filter told) (take_more keep k e h ∙ ap (λ (x : Expr). take k keep ++ x ∷ []) (sym is)) ∙ filter-append told (take k keep) (e ∷ [])
      ∙ ap (λ (c : Bool). filter told (take k keep) ++ (if c then e ∷ [] else [])) f

  pub told_more : (next : List ℕ) → told e ≡ true → next ≡ filter (is_true_at columns e) kept → next ≡ filter (λ i. is_kept (filter told (take (k + 1) keep)) (row_of columns i)) places
  told_more next f more =
      more ∙ ap (filter (is_true_at columns e)) before
      ∙ filter_next (λ i. is_kept (filter told (take k keep)) (row_of columns i)) (is_true_at columns e) (λ i. is_kept (filter told (take (k + 1) keep)) (row_of columns i)) places (λ i.
      ap (λ (es : List Expr). is_kept es (row_of columns i)) (with_next true f) ∙ all_more (λ x. is_true_at columns x i) (filter told (take k keep)) e)

  pub told_not : told e ≡ false → kept ≡ filter (λ i. is_kept (filter told (take (k + 1) keep)) (row_of columns i)) places
  told_not f = before ∙ ap (λ (es : List Expr). filter (λ i. is_kept es (row_of columns i)) places) (sym (with_next false f ∙ append-nil (filter told (take k keep))))

pub told_done : (told : Expr → Bool) (columns : Columns) (keep : List Expr) (k : ℕ) (places kept : List ℕ) → length keep ≤ k → kept ≡ filter (λ i. is_kept (filter told (take k keep)) (row_of columns i)) places
    → kept ≡ filter (λ i. is_kept (filter told keep) (row_of columns i)) places
told_done told columns keep k places kept past is = is ∙ ap (λ (es : List Expr). filter (λ i. is_kept (filter told es) (row_of columns i)) places) (take_all k keep past)
