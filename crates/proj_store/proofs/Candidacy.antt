-- The rows of a block, made of the values of its columns.
use Rattle.std.proofs.Common.{◌≡◌, ℕ, zero, suc, ◌+◌, ◌<◌, ◌++◌, Bool, true, false, List, [], ◌∷◌, length, get_or, map, take, drop, refl, sym, ap, ap₂, ◌∙◌, arith}
use Rattle.std.specs.Prelude.{Option, Some, None, is_some}
use Rattle.std.proofs.lemmas.List.{map-append, take_more}
use Rattle.std.proofs.Math.Seq.{take-append_seam}
use Rattle.col_value.specs.declared.value.Value.{Value}
use Rattle.col_value.specs.declared.value.Value.TheVariants as value
use Rattle.write_store.specs.declared.held.Inserted.{Inserted}
use Rattle.proj_store.specs.Candidates.{candidate, candidates, candidates_from, columns_in, row_of, values_in}

pub candidates_long : (from : ℕ) (alive : List Bool) (stamps : List ℕ) (columns : List (List Value)) → length (candidates_from from alive stamps columns) ≡ length alive
candidates_long from [] stamps columns = refl
candidates_long from (a ∷ alive) stamps columns = omega (arith, candidates_long (suc from) alive stamps columns)

pub candidate_from : (from : ℕ) (alive : List Bool) (stamps : List ℕ) (columns : List (List Value)) (i : ℕ)
    → get_or (candidates_from from alive stamps columns) i None ≡ candidate (get_or alive i false) (get_or stamps (from + i) 0) columns (from + i)
candidate_from from [] stamps columns i = refl
candidate_from from (a ∷ alive) stamps columns zero =
    let same : from ≡ from + 0 = omega arith in
    ap (λ (n : ℕ). candidate a (get_or stamps n 0) columns n) same
candidate_from from (a ∷ alive) stamps columns (suc i) =
    let same : suc from + i ≡ from + suc i = omega arith in
    candidate_from (suc from) alive stamps columns i ∙ ap (λ (n : ℕ). candidate (get_or alive i false) (get_or stamps n 0) columns n) same

-- the candidate at a place
pub candidate_at : (some : List (Option Inserted)) (alive : List Bool) (stamps : List ℕ) (columns : List (List Value)) (i : ℕ) → candidates alive stamps columns ≡ some
    → get_or some i None ≡ candidate (get_or alive i false) (get_or stamps i 0) columns i
candidate_at some alive stamps columns i is =
    let same : 0 + i ≡ i = omega arith in
    ap (λ (xs : List (Option Inserted)). get_or xs i None) (sym is) ∙ candidate_from 0 alive stamps columns i ∙ ap (λ (n : ℕ). candidate (get_or alive i false) (get_or stamps n 0) columns n) same

pub as_long : (some : List (Option Inserted)) (alive : List Bool) (stamps : List ℕ) (columns : List (List Value)) → candidates alive stamps columns ≡ some → length some ≡ length alive
as_long some alive stamps columns is = ap length (sym is) ∙ candidates_long 0 alive stamps columns

has_one : (a : Bool) (ins : ℕ) (columns : List (List Value)) (i : ℕ) → is_some (candidate a ins columns i) ≡ a
has_one true ins columns i = refl
has_one false ins columns i = refl

pub candidate_there : (some : List (Option Inserted)) (alive : List Bool) (stamps : List ℕ) (columns : List (List Value)) (i : ℕ) → candidates alive stamps columns ≡ some → get_or alive i false ≡ is_some (get_or some i None)
candidate_there some alive stamps columns i is = sym (ap is_some (candidate_at some alive stamps columns i is) ∙ has_one (get_or alive i false) (get_or stamps i 0) columns i)

abbrev pub make : ℕ → List Value → Inserted
make ins row = record { ins = ins; row = row }

made : (a : Bool) (ins : ℕ) (columns : List (List Value)) (i : ℕ) → a ≡ true → candidate a ins columns i ≡ Some (make ins (row_of columns i))
made true ins columns i alive = refl
made false ins columns i alive = absurd (cc)

-- the row at a place where one is alive
pub candidate_is : (some : List (Option Inserted)) (alive : List Bool) (stamps : List ℕ) (columns : List (List Value)) (i ins : ℕ) (row : List Value) → candidates alive stamps columns ≡ some → get_or alive i false ≡ true
    → ins ≡ get_or stamps i 0 → row ≡ row_of columns i → get_or some i None ≡ Some (make ins row)
candidate_is some alive stamps columns i ins row is live stamp row_is =
    candidate_at some alive stamps columns i is ∙ made (get_or alive i false) (get_or stamps i 0) columns i live ∙ ap Some (ap₂ make (sym stamp) (sym row_is))

gone : (a : Bool) (ins : ℕ) (columns : List (List Value)) (i : ℕ) → a ≡ false → candidate a ins columns i ≡ None
gone true ins columns i dead = absurd (cc)
gone false ins columns i dead = refl

-- and where none is
pub candidate_gone : (some : List (Option Inserted)) (alive : List Bool) (stamps : List ℕ) (columns : List (List Value)) (i : ℕ) → candidates alive stamps columns ≡ some → get_or alive i false ≡ false → get_or some i None ≡ None
candidate_gone some alive stamps columns i is dead = candidate_at some alive stamps columns i is ∙ gone (get_or alive i false) (get_or stamps i 0) columns i dead

-- ---- a row of the columns, value by value

abbrev pub value_at : ℕ → Option (List Value) → Value
value_at i column = get_or (values_in column) i value.Null

row_is : (columns : List (Option (List Value))) (i : ℕ) → row_of (columns_in columns) i ≡ map (value_at i) columns
row_is [] i = refl
row_is (column ∷ columns) i = ap (λ (vs : List Value). value_at i column ∷ vs) (row_is columns i)

pub row_more : (columns : List (Option (List Value))) (i j : ℕ) (column : Option (List Value)) (row : List Value) (v : Value) → row ≡ row_of (columns_in (take j columns)) i → j < length columns → column ≡ get_or columns j column → v ≡ value_at i column
    → row ++ v ∷ [] ≡ row_of (columns_in (take (j + 1) columns)) i
row_more columns i j column row v was lt at is =
    let next : take (j + 1) columns ≡ take j columns ++ column ∷ [] = take_more columns j column lt ∙ ap (λ (c : Option (List Value)). take j columns ++ c ∷ []) (sym at) in
    let each : map (value_at i) (take (j + 1) columns) ≡ map (value_at i) (take j columns) ++ value_at i column ∷ [] = ap (map (value_at i)) next ∙ map-append (value_at i) (take j columns) (column ∷ []) in
    ap₂ (λ (vs : List Value) (x : Value). vs ++ x ∷ []) (was ∙ row_is (take j columns) i) is ∙ sym each ∙ sym (row_is (take (j + 1) columns) i)

-- ---- a list that was written through a slice
pub written : {X : Type 0} (n : ℕ) (xs ys : List X) → n ≡ length xs → length ys ≡ length xs → take n (ys ++ drop (length ys) xs) ≡ ys
written n xs ys long same = let all : n ≡ length ys = omega (arith, long, same) in ap (λ (m : ℕ). take m (ys ++ drop (length ys) xs)) all ∙ take-append_seam ys (drop (length ys) xs)
