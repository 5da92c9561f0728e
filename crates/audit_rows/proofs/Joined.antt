-- What is judged of joined rows, and of rows in some columns.
use Rattle.std.proofs.Common.{◌≡◌, ℕ, ◌+◌, ◌*◌, ◌≤◌, ◌<◌, ◌++◌, List, [], ◌∷◌, length, get_or, map, take, drop, refl, sym, ap, ap₂, ◌∙◌, arith, append_assoc}
use Rattle.std.specs.Prelude.{Option, filter}
use Rattle.std.proofs.lemmas.List.{append-nil, map-append, at_drop_all, at_drop_more, length-take-le, take_all}
use Rattle.std.proofs.lemmas.List.Elements.{filter-append}
use Rattle.col_value.specs.declared.row.Asked.{Asked}
use Rattle.col_value.specs.declared.row.Stamped.{Stamped}
use Rattle.col_value.specs.declared.value.Value.{Value}
use Rattle.container_blocks.specs.Blocks.{rows_in}
use Rattle.container_blocks.proofs.Columns.{next_rows}
use Rattle.pos_index.specs.Index.{blocks}
use Rattle.row_history.specs.History.{asked_on, on_columns, stamped, is_retained, cut_rows}
use Rattle.row_history.proofs.Histories.{cut_append, cut_columns, retained_columns}
use Rattle.stored_rows.specs.Held.{stamped_from}
use Rattle.audit_model.specs.Rows.{judged_in}
use Rattle.audit_rows.specs.Adding.{judged_on}
use Rattle.audit_rows.specs.Blocks.{asked_at, asked_from}

pub judged_append : (epoch mark : ℕ) (xs ys : List Stamped) → judged_in epoch mark (xs ++ ys) ≡ judged_in epoch mark xs ++ judged_in epoch mark ys
judged_append epoch mark xs ys = ap (λ (rows : List Stamped). filter (is_retained mark) rows) (cut_append epoch xs ys) ∙ filter-append (is_retained mark) (cut_rows epoch xs) (cut_rows epoch ys)

judged_columns : (columns : List ℕ) (epoch mark : ℕ) (rows : List Stamped) → judged_in epoch mark (map (on_columns columns) rows) ≡ map (on_columns columns) (judged_in epoch mark rows)
judged_columns columns epoch mark rows = ap (λ (xs : List Stamped). filter (is_retained mark) xs) (cut_columns columns epoch rows) ∙ retained_columns columns mark (cut_rows epoch rows)

pub stamped_append : (i : ℕ) (f : ℕ → Option ℕ) (xs ys : List Asked) → stamped_from i f (xs ++ ys) ≡ stamped_from i f xs ++ stamped_from (i + length xs) f ys
stamped_append i f [] ys = let same : i ≡ i + 0 = omega arith in ap (λ (n : ℕ). stamped_from n f ys) same
stamped_append i f (a ∷ xs) ys =
    let same : (i + 1) + length xs ≡ i + length (a ∷ xs) = omega arith in
    ap (λ (rows : List Stamped). stamped (f i) a ∷ rows) (stamped_append (i + 1) f xs ys ∙ ap (λ (n : ℕ). stamped_from (i + 1) f xs ++ stamped_from n f ys) same)

stamped_columns : (columns : List ℕ) (i : ℕ) (f : ℕ → Option ℕ) (rows : List Asked) → stamped_from i f (map (asked_on columns) rows) ≡ map (on_columns columns) (stamped_from i f rows)
stamped_columns columns i f [] = refl
stamped_columns columns i f (a ∷ rows) = ap (λ (xs : List Stamped). stamped (f i) (asked_on columns a) ∷ xs) (stamped_columns columns (i + 1) f rows)

-- a block's rows in some columns are judged as the rows themselves
pub judged_block : (columns : List ℕ) (epoch mark first : ℕ) (f : ℕ → Option ℕ) (rows : List Asked) → judged_in epoch mark (stamped_from first f (map (asked_on columns) rows)) ≡ judged_on columns epoch mark first f rows
judged_block columns epoch mark first f rows = ap (judged_in epoch mark) (stamped_columns columns first f rows) ∙ judged_columns columns epoch mark (stamped_from first f rows)

pub judged_on_append : (columns : List ℕ) (epoch mark first : ℕ) (f : ℕ → Option ℕ) (xs ys : List Asked) → judged_on columns epoch mark first f (xs ++ ys) ≡ judged_on columns epoch mark first f xs ++ judged_on columns epoch mark (first + length xs) f ys
judged_on_append columns epoch mark first f xs ys =
    ap (λ (rows : List Stamped). map (on_columns columns) (judged_in epoch mark rows)) (stamped_append first f xs ys)
    ∙ ap (map (on_columns columns)) (judged_append epoch mark (stamped_from first f xs) (stamped_from (first + length xs) f ys))
    ∙ map-append (on_columns columns) (judged_in epoch mark (stamped_from first f xs)) (judged_in epoch mark (stamped_from (first + length xs) f ys))

-- ---- row by row

pub row_next : (epoch mark first i ins : ℕ) (f : ℕ → Option ℕ) (stamps : List ℕ) (columns : List (List Value)) (out next total : List Stamped) → i < length stamps → ins ≡ get_or stamps i ins
    → next ≡ out ++ judged_in epoch mark (stamped (f (first + i)) (asked_at columns i ins) ∷ [])
    → out ++ judged_in epoch mark (stamped_from (first + i) f (asked_from i (drop i stamps) columns)) ≡ total
    → next ++ judged_in epoch mark (stamped_from (first + (i + 1)) f (asked_from (i + 1) (drop (i + 1) stamps) columns)) ≡ total
row_next epoch mark first i ins f stamps columns out next total lt at is was =
    let same : first + (i + 1) ≡ (first + i) + 1 = omega arith in
    let one : List Stamped = stamped (f (first + i)) (asked_at columns i ins) ∷ [] in
    let rest : List Stamped = stamped_from ((first + i) + 1) f (asked_from (i + 1) (drop (i + 1) stamps) columns) in
    ap₂ (λ (xs : List Stamped) (n : ℕ). xs ++ judged_in epoch mark (stamped_from n f (asked_from (i + 1) (drop (i + 1) stamps) columns))) is same
    ∙ append_assoc out (judged_in epoch mark one) (judged_in epoch mark rest)
    ∙ ap (λ (xs : List Stamped). out ++ xs) (sym (judged_append epoch mark one rest))
    ∙ ap (λ (n : ℕ). out ++ judged_in epoch mark (stamped_from (first + i) f (asked_at columns i n ∷ asked_from (i + 1) (drop (i + 1) stamps) columns))) at
    ∙ sym (at_drop_more (λ (es : List ℕ). out ++ judged_in epoch mark (stamped_from (first + i) f (asked_from i es columns))) stamps i ins lt)
    ∙ was

-- ---- block by block

pub block_inside : (b n : ℕ) → b < blocks n → 1024 * b ≤ n
block_inside b n lt = omega (arith, lt)

pub block_next : (columns : List ℕ) (epoch mark b n : ℕ) (f : ℕ → Option ℕ) (rows : List Asked) (old out next : List Stamped) → b < blocks n → length rows ≡ n
    → out ≡ old ++ judged_on columns epoch mark 0 f (take (1024 * b) rows) → next ≡ out ++ judged_on columns epoch mark (1024 * b) f (rows_in b rows) → next ≡ old ++ judged_on columns epoch mark 0 f (take (1024 * (b + 1)) rows)
block_next columns epoch mark b n f rows old out next lt long was is =
    let inside : 1024 * b ≤ length rows = omega (arith, block_inside b n lt, long) in
    let front : 1024 * b ≡ 0 + length (take (1024 * b) rows) = omega (arith, length-take-le (1024 * b) rows inside) in
    is
    ∙ ap₂ (λ (xs : List Stamped) (p : ℕ). xs ++ judged_on columns epoch mark p f (rows_in b rows)) was front
    ∙ append_assoc old (judged_on columns epoch mark 0 f (take (1024 * b) rows)) (judged_on columns epoch mark (0 + length (take (1024 * b) rows)) f (rows_in b rows))
    ∙ ap (λ (xs : List Stamped). old ++ xs) (sym (judged_on_append columns epoch mark 0 f (take (1024 * b) rows) (rows_in b rows)))
    ∙ ap (λ (xs : List Asked). old ++ judged_on columns epoch mark 0 f xs) (sym (next_rows rows b))

pub row_first : (epoch mark first : ℕ) (f : ℕ → Option ℕ) (stamps : List ℕ) (columns : List (List Value)) (out : List Stamped)
    → out ++ judged_in epoch mark (stamped_from (first + 0) f (asked_from 0 (drop 0 stamps) columns)) ≡ out ++ judged_in epoch mark (stamped_from first f (asked_from 0 stamps columns))
row_first epoch mark first f stamps columns out =
    let same : first + 0 ≡ first = omega arith in
    ap (λ (n : ℕ). out ++ judged_in epoch mark (stamped_from n f (asked_from 0 stamps columns))) same

pub rows_end : (epoch mark first i : ℕ) (f : ℕ → Option ℕ) (stamps : List ℕ) (columns : List (List Value)) (out total : List Stamped) → length stamps ≤ i
    → out ++ judged_in epoch mark (stamped_from (first + i) f (asked_from i (drop i stamps) columns)) ≡ total → out ≡ total
rows_end epoch mark first i f stamps columns out total past was =
    sym (append-nil out) ∙ sym (at_drop_all (λ (es : List ℕ). out ++ judged_in epoch mark (stamped_from (first + i) f (asked_from i es columns))) stamps i past) ∙ was

pub blocks_none : (columns : List ℕ) (epoch mark : ℕ) (f : ℕ → Option ℕ) (rows : List Asked) (old : List Stamped) → old ≡ old ++ judged_on columns epoch mark 0 f (take (1024 * 0) rows)
blocks_none columns epoch mark f rows old = sym (append-nil old)

pub blocks_end : (columns : List ℕ) (epoch mark b n : ℕ) (f : ℕ → Option ℕ) (rows : List Asked) (old out : List Stamped) → blocks n ≤ b → length rows ≡ n → out ≡ old ++ judged_on columns epoch mark 0 f (take (1024 * b) rows)
    → out ≡ old ++ judged_on columns epoch mark 0 f rows
blocks_end columns epoch mark b n f rows old out past long was =
    was ∙ ap (λ (xs : List Asked). old ++ judged_on columns epoch mark 0 f xs) (take_all (1024 * b) rows (omega (arith, past, long)))
