-- A load file says one thing.
use Rattle.std.proofs.Common.{◌≡◌, ℕ, suc, ◌+◌, ◌++◌, Bool, true, false, List, [], ◌∷◌, length, map, get_or, refl, sym, ap, ap₂, ◌∙◌, subst, arith, inl, inr}
use Rattle.std.specs.Prelude.{◌⊎◌, codes}
use Rattle.std.specs.Char.{to_ascii_lowercase}
use Rattle.csv.specs.Machine.{Read}
use Rattle.csv.specs.Reading.{AreRecords, Reached, strip_bom}
use Rattle.csv.specs.declared.parser.Config.{Config}
use Rattle.csv.specs.declared.parser.State.{State}
use Rattle.csv.specs.declared.parser.State.TheVariants as st
use Rattle.col_value.specs.declared.column.Column.{Column}
use Rattle.col_value.specs.declared.kinds.ColType.{ColType}
use Rattle.col_value.specs.declared.value.Value.{Value}
use Rattle.col_value.specs.declared.value.Value.TheVariants as value
use Rattle.col_value.proofs.Characters.{one_text}
use Rattle.load_reader.specs.declared.fields.LoadColumn.{LoadColumn}
use Rattle.load_reader.specs.Fields.{IsAnyCase, IsRowOf, IsWrongAt, Says, SaysIn, SaysTruth}
use Rattle.load_reader.specs.Load.{ReadsRows, IsFirstBad}
use Rattle.load_reader.specs.Records.{piped}
use Rattle.db_model.specs.Loading.{Load, Loads, load_column}

abbrev Fields : Type 0
Fields = List (List ℕ)

records_once : (cfg : Config) (s : State) (xs : List ℕ) (rs qs : List Fields) → AreRecords cfg s xs rs → AreRecords cfg s xs qs → rs ≡ qs
unfolding Reached
records_once cfg s xs [] [] first second = refl
records_once cfg s xs [] (q ∷ qs) (s2, ys, (same, rest), ends) (s3, zs, (p, is, from, more), over) = absurd (cc)
records_once cfg s xs (r ∷ rs) [] (s3, zs, (p, is, from, more), over) (s2, ys, (same, rest), ends) = absurd (cc)
records_once cfg s xs (r ∷ rs) (q ∷ qs) (s2, ys, (p, is, from, more), ends) (s3, zs, (o, also, here, later), over) =
    let same : p ≡ o = cc in
    let rest = records_once cfg o.1 o.2 rs qs (s2, ys, subst (λ (x : Read). Reached cfg x.1 x.2 rs s2 ys) same more, ends) (s3, zs, later, over) in
    ap₂ (λ (x : Fields) (more : List Fields). x ∷ more) (from ∙ ap (λ (x : Read). x.0) same ∙ sym here) rest

-- ---- what a field says

first_letter : List ℕ → ℕ
first_letter text = get_or (map to_ascii_lowercase text) 0 0

case_letter : (field word : List ℕ) → IsAnyCase field word → first_letter field ≡ first_letter word
unfolding first_letter
case_letter field word is = ap (λ (text : List ℕ). get_or text 0 0) is

never_both : (field : List ℕ) → SaysTruth field true → SaysTruth field false → ⊥
unfolding first_letter
never_both field says also = apart (yes says) (nay also)
  where
    letter : ℕ
    letter = first_letter field

    yes : SaysTruth field true → (letter ≡ 116) ⊎ (letter ≡ 49)
    yes (inl t) = inl (case_letter field (codes "t") t)
    yes (inr (inl t)) = inl (case_letter field (codes "true") t)
    yes (inr (inr t)) = inr (case_letter field (codes "1") t)

    nay : SaysTruth field false → (letter ≡ 102) ⊎ (letter ≡ 48)
    nay (inl f) = inl (case_letter field (codes "f") f)
    nay (inr (inl f)) = inl (case_letter field (codes "false") f)
    nay (inr (inr f)) = inr (case_letter field (codes "0") f)

    apart : (letter ≡ 116) ⊎ (letter ≡ 49) → (letter ≡ 102) ⊎ (letter ≡ 48) → ⊥
    apart (inl a) (inl b) = omega (arith, a, b)
    apart (inl a) (inr b) = omega (arith, a, b)
    apart (inr a) (inl b) = omega (arith, a, b)
    apart (inr a) (inr b) = omega (arith, a, b)

truth_once : (field : List ℕ) (b d : Bool) → SaysTruth field b → SaysTruth field d → b ≡ d
truth_once field true true says also = refl
truth_once field true false says also = absurd (never_both field says also)
truth_once field false true says also = absurd (never_both field also says)
truth_once field false false says also = refl

value_once : (kind : ColType) (field : List ℕ) (v w : Value) → SaysIn kind field v → SaysIn kind field w → v ≡ w
value_once ColType.Integer field v w (n, number, ok, v_is) (m, other, fine, w_is) = v_is ∙ ap value.Int (number.1 ∙ sym other.1) ∙ sym w_is
value_once ColType.Boolean field v w (b, says, v_is) (d, also, w_is) = v_is ∙ ap value.Bool (truth_once field b d says also) ∙ sym w_is
value_once ColType.Date field v w (n, says, v_is) (m, also, w_is) = v_is ∙ ap value.Date (one_text n m says.0 also.0 (sym says.1 ∙ also.1)) ∙ sym w_is
value_once (ColType.Varchar most) field v w (says, ok, v_is) (also, fine, w_is) = v_is ∙ sym w_is

says_once : (c : LoadColumn) (field : List ℕ) (v w : Value) → Says c field v → Says c field w → v ≡ w
says_once c [] v w (may, v_is) (also, w_is) = v_is ∙ sym w_is
says_once c (b ∷ field) v w first second = value_once c.kind (b ∷ field) v w first second

-- ---- what a record is

row_once : (columns : List LoadColumn) (fields : Fields) (r s : List Value) → IsRowOf columns fields r → IsRowOf columns fields s → r ≡ s
row_once [] [] r s first second = first ∙ sym second
row_once [] (f ∷ fields) r s first second = absurd first
row_once (c ∷ columns) [] r s first second = absurd first
row_once (c ∷ columns) (f ∷ fields) r s (v, rest, says, more, r_is) (w, tail, also, later, s_is) =
    r_is ∙ ap₂ (λ (x : Value) (xs : List Value). x ∷ xs) (says_once c f v w says also) (row_once columns fields rest tail more later) ∙ sym s_is

row_not_wrong : (columns : List LoadColumn) (fields : Fields) (r : List Value) (place : ℕ) → IsRowOf columns fields r → IsWrongAt columns fields place → ⊥
row_not_wrong [] [] r place row wrong = wrong
row_not_wrong [] (f ∷ fields) r place row wrong = row
row_not_wrong (c ∷ columns) [] r place row wrong = row
row_not_wrong (c ∷ columns) (f ∷ fields) r place (v, rest, says, more, r_is) (inl (wrong, here)) = wrong v says
row_not_wrong (c ∷ columns) (f ∷ fields) r place (v, rest, says, more, r_is) (inr (w, later, also, wrong, behind)) = row_not_wrong columns fields rest later more wrong

wrong_once : (columns : List LoadColumn) (fields : Fields) (i j : ℕ) → IsWrongAt columns fields i → IsWrongAt columns fields j → i ≡ j
wrong_once [] [] i j first second = absurd first
wrong_once [] (f ∷ fields) i j first second = first ∙ sym second
wrong_once (c ∷ columns) [] i j first second = first ∙ sym second
wrong_once (c ∷ columns) (f ∷ fields) i j (inl (wrong, here)) (inl (also, there)) = here ∙ sym there
wrong_once (c ∷ columns) (f ∷ fields) i j (inl (wrong, here)) (inr (v, later, says, more, there)) = absurd (wrong v says)
wrong_once (c ∷ columns) (f ∷ fields) i j (inr (v, later, says, more, there)) (inl (wrong, here)) = absurd (wrong v says)
wrong_once (c ∷ columns) (f ∷ fields) i j (inr (v, later, says, more, here)) (inr (w, last, also, rest, there)) =
    here ∙ ap (λ (n : ℕ). n + 1) (wrong_once columns fields later last more rest) ∙ sym there

-- ---- what all records are

rows_once : (columns : List LoadColumn) (records : List Fields) (rs qs : List (List Value)) → ReadsRows columns records rs → ReadsRows columns records qs → rs ≡ qs
rows_once columns [] [] [] first second = refl
rows_once columns [] [] (q ∷ qs) first second = absurd second
rows_once columns [] (r ∷ rs) qs first second = absurd first
rows_once columns (f ∷ records) [] qs first second = absurd first
rows_once columns (f ∷ records) (r ∷ rs) [] first second = absurd second
rows_once columns (f ∷ records) (r ∷ rs) (q ∷ qs) (row, more) (also, later) =
    ap₂ (λ (x : List Value) (xs : List (List Value)). x ∷ xs) (row_once columns f r q row also) (rows_once columns records rs qs more later)

-- the records before the first wrong one are rows, so it is the first of any reading
bad_once : (columns : List LoadColumn) (front bs : List Fields) (a b : Fields) (more later : List Fields) (rs qs : List (List Value)) (i j : ℕ) → front ++ a ∷ more ≡ bs ++ b ∷ later
    → ReadsRows columns front rs → ReadsRows columns bs qs → IsWrongAt columns a i → IsWrongAt columns b j → (length front ≡ length bs) × (i ≡ j)
bad_once columns [] [] a b more later rs qs i j same first second wrong also =
    let here : a ≡ b = cc in
    (refl, wrong_once columns b i j (subst (λ (x : Fields). IsWrongAt columns x i) here wrong) also)
bad_once columns [] (c ∷ bs) a b more later rs [] i j same first second wrong also = absurd second
bad_once columns [] (c ∷ bs) a b more later rs (q ∷ qs) i j same first (row, second) wrong also =
    let here : a ≡ c = cc in
    absurd (row_not_wrong columns c q i row (subst (λ (x : Fields). IsWrongAt columns x i) here wrong))
bad_once columns (c ∷ front) [] a b more later [] qs i j same first second wrong also = absurd first
bad_once columns (c ∷ front) [] a b more later (r ∷ rs) qs i j same (row, first) second wrong also =
    let here : b ≡ c = cc in
    absurd (row_not_wrong columns c r j row (subst (λ (x : Fields). IsWrongAt columns x j) here also))
bad_once columns (c ∷ front) (d ∷ bs) a b more later [] qs i j same first second wrong also = absurd first
bad_once columns (c ∷ front) (d ∷ bs) a b more later (r ∷ rs) [] i j same first second wrong also = absurd second
bad_once columns (c ∷ front) (d ∷ bs) a b more later (r ∷ rs) (q ∷ qs) i j same (row, first) (other, second) wrong also =
    let rest : front ++ a ∷ more ≡ bs ++ b ∷ later = cc in
    let behind = bad_once columns front bs a b more later rs qs i j rest first second wrong also in
    (ap suc behind.0, behind.1)

-- where all records are rows none is the first wrong one
rows_not_bad : (columns : List LoadColumn) (bs : List Fields) (b : Fields) (later : List Fields) (rs qs : List (List Value)) (j : ℕ) → ReadsRows columns (bs ++ b ∷ later) rs → ReadsRows columns bs qs → IsWrongAt columns b j → ⊥
rows_not_bad columns [] b later [] qs j first second wrong = first
rows_not_bad columns [] b later (r ∷ rs) qs j (row, first) second wrong = row_not_wrong columns b r j row wrong
rows_not_bad columns (c ∷ bs) b later [] qs j first second wrong = first
rows_not_bad columns (c ∷ bs) b later (r ∷ rs) [] j first second wrong = second
rows_not_bad columns (c ∷ bs) b later (r ∷ rs) (q ∷ qs) j (row, first) (other, second) wrong = rows_not_bad columns bs b later rs qs j first second wrong

rows_or_bad : (columns : List LoadColumn) (records : List Fields) (rs : List (List Value)) (line field : ℕ) → ReadsRows columns records rs → IsFirstBad columns records line field → ⊥
rows_or_bad columns records rs line field all (before, wrong, later, rows, split, first, at, line_is) =
    rows_not_bad columns before wrong later rs rows field (subst (λ (x : List Fields). ReadsRows columns x rs) split all) first at

pub load_once : (columns : List Column) (bytes : List ℕ) (a b : Load) → Loads columns bytes a → Loads columns bytes b → a ≡ b
load_once columns bytes (Load.Rows rs) (Load.Rows qs) (records, are, first) (others, also, second) =
    let same : records ≡ others = records_once piped st.StartRecord (strip_bom bytes) records others are also in
    ap (λ (x : List (List Value)). Load.Rows x) (rows_once (map load_column columns) others rs qs (subst (λ (x : List Fields). ReadsRows (map load_column columns) x rs) same first) second)
load_once columns bytes (Load.Rows rs) (Load.Wrong line field) (records, are, first) (others, also, second) =
    let same : records ≡ others = records_once piped st.StartRecord (strip_bom bytes) records others are also in
    absurd (rows_or_bad (map load_column columns) others rs line field (subst (λ (x : List Fields). ReadsRows (map load_column columns) x rs) same first) second)
load_once columns bytes (Load.Wrong line field) (Load.Rows qs) (others, also, second) (records, are, first) =
    let same : records ≡ others = records_once piped st.StartRecord (strip_bom bytes) records others are also in
    absurd (rows_or_bad (map load_column columns) others qs line field (subst (λ (x : List Fields). ReadsRows (map load_column columns) x qs) same first) second)
load_once columns bytes (Load.Wrong line field) (Load.Wrong row place) (records, are, (before, wrong, later, rows, split, first, at, line_is)) (others, also, (front, bad, behind, good, cut, second, there, row_is)) =
    let same : records ≡ others = records_once piped st.StartRecord (strip_bom bytes) records others are also in
    let both = bad_once (map load_column columns) before front wrong bad later behind rows good field place (sym split ∙ same ∙ cut) first second at there in
    ap₂ (λ (x y : ℕ). Load.Wrong x y) (line_is ∙ ap (λ (n : ℕ). n + 1) both.0 ∙ sym row_is) both.1

pub rows_loaded_once : (columns : List Column) (bytes : List ℕ) (rs qs : List (List Value)) → Loads columns bytes (Load.Rows rs) → Loads columns bytes (Load.Rows qs) → rs ≡ qs
rows_loaded_once columns bytes rs qs (records, are, first) (others, also, second) =
    let same : records ≡ others = records_once piped st.StartRecord (strip_bom bytes) records others are also in
    rows_once (map load_column columns) others rs qs (subst (λ (x : List Fields). ReadsRows (map load_column columns) x rs) same first) second
