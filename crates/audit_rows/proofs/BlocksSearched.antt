-- The rows of a container, searched block by block.
use Rattle.std.proofs.Common.{◌≡◌, ℕ, suc, ◌+◌, ◌*◌, ◌≤◌, ◌<◌, ◌++◌, List, [], ◌∷◌, length, get_or, map, take, drop, refl, sym, ap, ap₂, ◌∙◌, subst, arith, append_assoc}
use Rattle.std.specs.Prelude.{Option, Some, None, slice_index_or}
use Rattle.std.specs.List.{All, range_with_len}
use Rattle.std.proofs.Math.Seq.{get_or-append_seam}
use Rattle.std.proofs.lemmas.List.{drop_more, drop_all, length-append, length-map, length-take-le, take_all, take-append-drop}
use Rattle.std.proofs.lemmas.List.Elements.{All-nil, All-head, All-tail, All-append, All-take, All-drop}
use Rattle.common_laws.specs.Maps.{Contents}
use Rattle.catalog_types.specs.declared.catalogue.Container.{Container}
use Rattle.catalog_types.specs.declared.catalogue.Projection.{Projection}
use Rattle.catalog_types.specs.declared.catalogue.Table.{Table}
use Rattle.col_value.specs.Order.{projected}
use Rattle.col_value.specs.declared.row.Asked.{Asked}
use Rattle.col_value.specs.declared.row.Stamped.{Stamped}
use Rattle.col_value.specs.declared.value.Value.{Value}
use Rattle.col_value.specs.declared.value.Value.TheVariants as value
use Rattle.container_blocks.specs.Blocks.{rows_in}
use Rattle.container_blocks.proofs.Columns.{next_rows}
use Rattle.del_vector.specs.Marks.{epoch_at}
use Rattle.del_vector.specs.declared.mark.Mark.{Mark}
use Rattle.pos_index.specs.Index.{blocks}
use Rattle.ros_container.specs.Encodings.{written_as, written_of}
use Rattle.ros_container.specs.Held.{HoldsContainer}
use Rattle.ros_container.specs.Rows.{AreWide}
use Rattle.ros_container.proofs.Long.{container_long}
use Rattle.row_history.specs.History.{asked_on, stamped}
use Rattle.stored_rows.specs.Held.{HoldsVector, stamped_from}
use Rattle.audit_model.specs.Rows.{IsGoodIn}
use Rattle.audit_rows.specs.Blocks.{asked_at, asked_from}
use Rattle.audit_rows.specs.Found.{FindsAt, FindsBlock, FindsRow, FindsRows}
use Rattle.audit_rows.proofs.Finding.{finds_here, finds_next, finds_left, finds_right}
use Rattle.audit_rows.proofs.Joined.{block_inside, stamped_append}

-- ---- row by row

-- what is found in the rows of a block from one on is what is found in the block
abbrev pub RowsAhead : ℕ → ℕ → Table → Projection → (ℕ → Option ℕ) → ℕ → List ℕ → List (List Value) → ℕ → Type 0
RowsAhead epoch mark t p f first stamps columns i =
    (r : Option ℕ) → FindsAt (IsGoodIn epoch mark t p) (stamped_from (first + i) f (asked_from i (drop i stamps) columns)) (first + i) r → FindsAt (IsGoodIn epoch mark t p) (stamped_from first f (asked_from 0 stamps columns)) first r

pub rows_ahead : (epoch mark : ℕ) (t : Table) (p : Projection) (f : ℕ → Option ℕ) (first : ℕ) (stamps : List ℕ) (columns : List (List Value)) → RowsAhead epoch mark t p f first stamps columns 0
rows_ahead epoch mark t p f first stamps columns r found =
    let same : first + 0 ≡ first = omega arith in
    subst (λ (n : ℕ). FindsAt (IsGoodIn epoch mark t p) (stamped_from n f (asked_from 0 stamps columns)) n r) same found

pub row_good : (epoch mark : ℕ) (t : Table) (p : Projection) (f : ℕ → Option ℕ) (first : ℕ) (stamps : List ℕ) (columns : List (List Value)) (i ins : ℕ) (del : Option ℕ) → i < length stamps → ins ≡ get_or stamps i ins → del ≡ f (first + i)
    → IsGoodIn epoch mark t p (stamped del (asked_at columns i ins)) → RowsAhead epoch mark t p f first stamps columns i → RowsAhead epoch mark t p f first stamps columns (i + 1)
row_good epoch mark t p f first stamps columns i ins del lt at is good ahead r found =
    let same : first + (i + 1) ≡ (first + i) + 1 = omega arith in
    let rest : List Stamped = stamped_from ((first + i) + 1) f (asked_from (i + 1) (drop (i + 1) stamps) columns) in
    ahead r
    (subst (λ (es : List ℕ). FindsAt (IsGoodIn epoch mark t p) (stamped_from (first + i) f (asked_from i es columns)) (first + i) r) (sym (drop_more stamps i ins lt ∙ ap (λ (n : ℕ). n ∷ drop (i + 1) stamps) (sym at)))
    (finds_next (IsGoodIn epoch mark t p) (stamped (f (first + i)) (asked_at columns i ins)) rest (first + i) r (subst (λ (d : Option ℕ). IsGoodIn epoch mark t p (stamped d (asked_at columns i ins))) is good)
    (subst (λ (n : ℕ). FindsAt (IsGoodIn epoch mark t p) (stamped_from n f (asked_from (i + 1) (drop (i + 1) stamps) columns)) n r) same found)))

pub row_bad : (epoch mark : ℕ) (t : Table) (p : Projection) (f : ℕ → Option ℕ) (first : ℕ) (stamps : List ℕ) (columns : List (List Value)) (i ins : ℕ) (del : Option ℕ) → i < length stamps → ins ≡ get_or stamps i ins → del ≡ f (first + i)
    → (IsGoodIn epoch mark t p (stamped del (asked_at columns i ins)) → ⊥) → RowsAhead epoch mark t p f first stamps columns i → FindsAt (IsGoodIn epoch mark t p) (stamped_from first f (asked_from 0 stamps columns)) first (Some (first + i))
row_bad epoch mark t p f first stamps columns i ins del lt at is bad ahead =
    ahead (Some (first + i))
    (subst (λ (es : List ℕ). FindsAt (IsGoodIn epoch mark t p) (stamped_from (first + i) f (asked_from i es columns)) (first + i) (Some (first + i))) (sym (drop_more stamps i ins lt ∙ ap (λ (n : ℕ). n ∷ drop (i + 1) stamps) (sym at)))
    (finds_here (IsGoodIn epoch mark t p) (stamped (f (first + i)) (asked_at columns i ins)) (stamped_from ((first + i) + 1) f (asked_from (i + 1) (drop (i + 1) stamps) columns)) (first + i)
    (λ good. bad (subst (λ (d : Option ℕ). IsGoodIn epoch mark t p (stamped d (asked_at columns i ins))) (sym is) good))))

pub rows_done : (epoch mark : ℕ) (t : Table) (p : Projection) (f : ℕ → Option ℕ) (first : ℕ) (stamps : List ℕ) (columns : List (List Value)) (i : ℕ) → length stamps ≤ i → RowsAhead epoch mark t p f first stamps columns i
    → FindsAt (IsGoodIn epoch mark t p) (stamped_from first f (asked_from 0 stamps columns)) first None
rows_done epoch mark t p f first stamps columns i past ahead =
    ahead None (subst (λ (es : List ℕ). FindsAt (IsGoodIn epoch mark t p) (stamped_from (first + i) f (asked_from i es columns)) (first + i) None) (sym (drop_all i stamps past)) (All-nil (IsGoodIn epoch mark t p)))

pub seen_at : (epoch mark : ℕ) (t : Table) (p : Projection) (f : ℕ → Option ℕ) (first : ℕ) (stamps inside : List ℕ) (columns within : List (List Value)) (r : Option ℕ) → stamps ≡ inside → columns ≡ within
    → FindsAt (IsGoodIn epoch mark t p) (stamped_from first f (asked_from 0 stamps columns)) first r → FindsAt (IsGoodIn epoch mark t p) (stamped_from first f (asked_from 0 inside within)) first r
seen_at epoch mark t p f first stamps inside columns within r one two found =
    subst (λ (es : List ℕ). FindsAt (IsGoodIn epoch mark t p) (stamped_from first f (asked_from 0 es within)) first r) one
    (subst (λ (vss : List (List Value)). FindsAt (IsGoodIn epoch mark t p) (stamped_from first f (asked_from 0 stamps vss)) first r) two found)

-- ---- rows in all of their columns are the rows themselves

from_all : (front row : List Value) (n : ℕ) → length front ≡ n → map (λ c. slice_index_or (front ++ row) c value.Null) (range_with_len n (length row)) ≡ row
from_all front [] n long = refl
from_all front (v ∷ row) n long =
    ap₂ (λ (w : Value) (ws : List Value). w ∷ ws) (ap (λ (i : ℕ). slice_index_or (front ++ v ∷ row) i value.Null) (sym long) ∙ get_or-append_seam front v row value.Null)
    (ap (λ (vs : List Value). map (λ c. slice_index_or vs c value.Null) (range_with_len (n + 1) (length row))) (sym (append_assoc front (v ∷ []) row))
    ∙ from_all (front ++ v ∷ []) row (n + 1) (omega (arith, length-append front (v ∷ []), long)))

all_on : (n : ℕ) (rows : List Asked) → AreWide n rows → map (asked_on (range_with_len 0 n)) rows ≡ rows
all_on n [] wide = refl
all_on n (a ∷ rows) wide =
    ap₂ (λ (row : List Value) (more : List Asked). (record { row = row; ins = a.ins }) ∷ more)
    (ap (λ (count : ℕ). projected a.row (range_with_len 0 count)) (sym (All-head (λ x. length x.row ≡ n) a rows wide)) ∙ from_all [] a.row 0 refl)
    (all_on n rows (All-tail (λ x. length x.row ≡ n) a rows wide))

pub block_finds : (holds mid : Option Contents) (epoch mark : ℕ) (t : Table) (p : Projection) (k : Container) (columns : List ℕ) (f : ℕ → Option ℕ) (b : ℕ) (stamps : List ℕ) (vss : List (List Value)) (r : Option ℕ) → columns ≡ range_with_len 0 (length p.columns)
    → ((m : Contents) → holds ≡ Some m → (rows : List Asked) → HoldsContainer m (written_of p) k rows → asked_from 0 stamps vss ≡ map (asked_on columns) (rows_in b rows))
    → FindsAt (IsGoodIn epoch mark t p) (stamped_from (1024 * b) f (asked_from 0 stamps vss)) (1024 * b) r → FindsBlock holds epoch mark t p k f b r
block_finds holds mid epoch mark t p k columns f b stamps vss r all block found m told rows holding =
    let wide : AreWide (length p.columns) rows = subst (λ (n : ℕ). AreWide n rows) (length-map p.columns written_as) holding.wide in
    let here : AreWide (length p.columns) (rows_in b rows) = All-take (λ a. length a.row ≡ length p.columns) 1024 (drop (1024 * b) rows) (All-drop (λ a. length a.row ≡ length p.columns) (1024 * b) rows wide) in
    subst (λ (xs : List Asked). FindsAt (IsGoodIn epoch mark t p) (stamped_from (1024 * b) f xs) (1024 * b) r)
    (block m told rows holding ∙ ap (λ (cs : List ℕ). map (asked_on cs) (rows_in b rows)) all ∙ all_on (length p.columns) (rows_in b rows) here) found

-- ---- block by block

stamped_long : (i : ℕ) (f : ℕ → Option ℕ) (rows : List Asked) → length (stamped_from i f rows) ≡ length rows
stamped_long i f [] = refl
stamped_long i f (a ∷ rows) = ap suc (stamped_long (i + 1) f rows)

-- the rows of the blocks before block b are good
abbrev pub BlocksGood : Option Contents → ℕ → ℕ → Table → Projection → Container → (ℕ → Option ℕ) → ℕ → Type 0
BlocksGood holds epoch mark t p k f b =
    (m : Contents) → holds ≡ Some m → (rows : List Asked) → HoldsContainer m (written_of p) k rows → All (IsGoodIn epoch mark t p) (stamped_from 0 f (take (1024 * b) rows))

pub blocks_good : (holds : Option Contents) (epoch mark : ℕ) (t : Table) (p : Projection) (k : Container) (f : ℕ → Option ℕ) → BlocksGood holds epoch mark t p k f 0
blocks_good holds epoch mark t p k f m told rows holding = All-nil (IsGoodIn epoch mark t p)

front_long : (m : Contents) (p : Projection) (k : Container) (b : ℕ) (rows : List Asked) → b < blocks k.rows → HoldsContainer m (written_of p) k rows → 1024 * b ≡ 0 + length (take (1024 * b) rows)
front_long m p k b rows lt holding =
    let inside : 1024 * b ≤ length rows = omega (arith, block_inside b k.rows lt, container_long m (written_of p) k rows holding) in
    omega (arith, length-take-le (1024 * b) rows inside)

pub block_good : (now found : Option Contents) (epoch mark : ℕ) (t : Table) (p : Projection) (k : Container) (f : ℕ → Option ℕ) (b : ℕ) → b < blocks k.rows → now ≡ found → BlocksGood found epoch mark t p k f b → (q : Option ℕ) → q ≡ None → FindsBlock now epoch mark t p k f b q
    → BlocksGood found epoch mark t p k f (b + 1)
block_good now found epoch mark t p k f b lt same was q nothing finding m told rows holding =
    let finds = subst (λ (o : Option ℕ). FindsBlock now epoch mark t p k f b o) nothing finding in
    let front : List Asked = take (1024 * b) rows in
    subst (All (IsGoodIn epoch mark t p)) (sym (ap (stamped_from 0 f) (next_rows rows b) ∙ stamped_append 0 f (take (1024 * b) rows) (rows_in b rows)))
    (All-append (IsGoodIn epoch mark t p) (stamped_from 0 f front) (stamped_from (0 + length front) f (rows_in b rows)) (was m told rows holding)
    (subst (λ (n : ℕ). All (IsGoodIn epoch mark t p) (stamped_from n f (rows_in b rows))) (front_long m p k b rows lt holding) (finds m (same ∙ told) rows holding)))

split : (rows : List Asked) (b : ℕ) → rows ≡ take (1024 * b) rows ++ (rows_in b rows ++ drop 1024 (drop (1024 * b) rows))
split rows b = sym (take-append-drop (1024 * b) rows) ∙ ap (λ (xs : List Asked). take (1024 * b) rows ++ xs) (sym (take-append-drop 1024 (drop (1024 * b) rows)))

pub block_bad : (now found : Option Contents) (epoch mark : ℕ) (t : Table) (p : Projection) (k : Container) (f : ℕ → Option ℕ) (b pos : ℕ) → b < blocks k.rows → now ≡ found → BlocksGood found epoch mark t p k f b → (q : Option ℕ) → q ≡ Some pos → FindsBlock now epoch mark t p k f b q
    → FindsRows found epoch mark t p k f (Some pos)
block_bad now found epoch mark t p k f b pos lt same was q one finding m told rows holding =
    let finds = subst (λ (o : Option ℕ). FindsBlock now epoch mark t p k f b o) one finding in
    let front : List Asked = take (1024 * b) rows in
    let here : List Asked = rows_in b rows in
    let rest : List Asked = drop 1024 (drop (1024 * b) rows) in
    let place : 1024 * b ≡ 0 + length (take (1024 * b) rows) = front_long m p k b rows lt holding in
    let start : 1024 * b ≡ 0 + length (stamped_from 0 f (take (1024 * b) rows)) = omega (arith, place, stamped_long 0 f (take (1024 * b) rows)) in
    subst (λ (xs : List Stamped). FindsAt (IsGoodIn epoch mark t p) xs 0 (Some pos))
    (sym (ap (stamped_from 0 f) (split rows b) ∙ stamped_append 0 f (take (1024 * b) rows) (rows_in b rows ++ drop 1024 (drop (1024 * b) rows))))
    (finds_right (IsGoodIn epoch mark t p) (stamped_from 0 f front) (stamped_from (0 + length front) f (here ++ rest)) 0 (Some pos) (was m told rows holding)
    (subst (λ (n : ℕ). FindsAt (IsGoodIn epoch mark t p) (stamped_from (0 + length front) f (here ++ rest)) n (Some pos)) start
    (subst (λ (n : ℕ). FindsAt (IsGoodIn epoch mark t p) (stamped_from n f (here ++ rest)) (1024 * b) (Some pos)) place
    (subst (λ (xs : List Stamped). FindsAt (IsGoodIn epoch mark t p) xs (1024 * b) (Some pos)) (sym (stamped_append (1024 * b) f here rest))
    (finds_left (IsGoodIn epoch mark t p) (stamped_from (1024 * b) f here) (stamped_from (1024 * b + length here) f rest) (1024 * b) pos (finds m (same ∙ told) rows holding))))))

pub blocks_done : (found : Option Contents) (epoch mark : ℕ) (t : Table) (p : Projection) (k : Container) (f : ℕ → Option ℕ) (b : ℕ) → blocks k.rows ≤ b → BlocksGood found epoch mark t p k f b → FindsRows found epoch mark t p k f None
blocks_done found epoch mark t p k f b past was m told rows holding =
    let long = container_long m (written_of p) k rows holding in
    subst (λ (xs : List Asked). All (IsGoodIn epoch mark t p) (stamped_from 0 f xs)) (take_all (1024 * b) rows (omega (arith, past, long))) (was m told rows holding)

-- ---- a container

pub container_finds : (holds mid : Option Contents) (epoch mark : ℕ) (t : Table) (p : Projection) (k : Container) (marks : List Mark) (r : Option ℕ)
    → ((m : Contents) (k : Container) (xs ys : List Mark) → HoldsVector m k xs → HoldsVector m k ys → xs ≡ ys) → mid ≡ holds → ((m : Contents) → holds ≡ Some m → HoldsVector m k marks)
    → FindsRows mid epoch mark t p k (epoch_at marks) r → FindsRow holds epoch mark t p k r
container_finds holds mid epoch mark t p k marks r one same vector finds m told rows (others, held, (asked, holding, is)) =
    subst (λ (xs : List Stamped). FindsAt (IsGoodIn epoch mark t p) xs 0 r) (ap (λ (ms : List Mark). stamped_from 0 (epoch_at ms) asked) (one m k marks others (vector m told) held) ∙ sym is)
    (finds m (same ∙ told) asked holding)
