-- A load file says its rows, or which record is the first wrong one.
use Rattle.std.proofs.Common.{◌≡◌, ◌<◌, ◌≤◌, ◌+◌, ◌*◌, ◌∙◌, ℕ, zero, suc, inl, inr, Bool, true, false, cond, List, [], ◌∷◌, ◌++◌, length, map, refl, sym, ap, subst, arith}
use Rattle.std.specs.Prelude.{◌⊎◌, ℤ, Option, Some, None, IsUtf8, codes}
use Rattle.std.specs.Bool.{Decides}
use Rattle.std.specs.Char.{digit_value, to_ascii_lowercase}
use Rattle.std.specs.Int.Signed.{◌≤ℤ◌, clash_ℤ}
use Rattle.std.specs.Prelude.{pos, negsuc, ◌-◌, ◌^◌}
use Rattle.std.specs.Str.{is_utf8}
use Rattle.std.specs.Str.Parse.{AllDigits, IsNumeral, without_leading_sign, signed_digits_value}
use Rattle.std.proofs.lemmas.Int.{by_lt_z}
use Rattle.std.proofs.lemmas.Slice.Eq.{bytes_eq-Decides}
use Rattle.std.proofs.lemmas.Str.{IsUtf8-from_is_utf8, is_utf8-from_IsUtf8}
use Rattle.csv.specs.Machine.{Read, ends_at_end, field_after, fields_after, is_end, next_record, step}
use Rattle.csv.specs.Reading.{AreRecords, Reached, strip_bom}
use Rattle.csv.specs.declared.parser.Config.{Config}
use Rattle.csv.specs.declared.parser.State.{State}
use Rattle.csv.specs.declared.parser.State.TheVariants as st
use Rattle.col_value.specs.declared.column.Column.{Column}
use Rattle.col_value.specs.declared.kinds.ColType.{ColType}
use Rattle.col_value.specs.declared.value.Value.{Value}
use Rattle.col_value.specs.declared.value.Value.TheVariants as value
use Rattle.col_value.specs.Days.{SaysDay}
use Rattle.col_value.specs.Order.{IsValue}
use Rattle.col_value.proofs.Characters.{says_or_not}
use Rattle.load_reader.specs.declared.fields.LoadColumn.{LoadColumn}
use Rattle.load_reader.specs.Fields.{IsAnyCase, IsRowOf, IsWrongAt, Says, SaysIn, SaysText, SaysTruth}
use Rattle.load_reader.specs.Load.{ReadsRows, IsFirstBad}
use Rattle.load_reader.specs.Records.{piped}
use Rattle.db_model.specs.Loading.{Load, Loads, load_column}
use Rattle.steps_exist.proofs.Sums.{Decided, decided_as, both_decided, less_decided}

abbrev Fields : Type 0
Fields = List (List ℕ)

-- ---- the records of some bytes: each takes a byte, or is the last

abbrev size : State → List ℕ → ℕ
size s xs = 2 * length xs + cond (ends_at_end s) 1 0

at_most_one : (b : Bool) → cond b 1 0 ≤ 1
at_most_one true = omega arith
at_most_one false = omega arith

last_shrinks : (fields : Fields) (p : Read) (b : Bool) → cond b (Some (fields, st.StartRecord, [])) None ≡ Some p → size p.1 p.2 < cond b 1 0
last_shrinks fields p true is =
    let same : (fields, st.StartRecord, []) ≡ p = cc in
    subst (λ (q : Read). size q.1 q.2 < 1) same (omega arith)
last_shrinks fields p false is = absurd (cc)

one_shrinks : (fields : Fields) (s t : State) (rest : List ℕ) (more : Option Read) (p : Read) (b : Bool) → cond b (Some (fields, t, rest)) more ≡ Some p → (more ≡ Some p → size p.1 p.2 < size t rest) → size p.1 p.2 < 2 * suc (length rest)
one_shrinks fields s t rest more p true is later =
    let same : (fields, t, rest) ≡ p = cc in
    let most = at_most_one (ends_at_end t) in
    subst (λ (q : Read). size q.1 q.2 < 2 * suc (length rest)) same (omega (arith, most))
one_shrinks fields s t rest more p false is later =
    let less = later is in
    let most = at_most_one (ends_at_end t) in
    omega (arith, less, most)

shrinks : (cfg : Config) (s : State) (fields : Fields) (field xs : List ℕ) (p : Read) → next_record cfg s fields field xs ≡ Some p → size p.1 p.2 < size s xs
unfolding next_record
shrinks cfg s fields field [] p is = let less = last_shrinks (fields ++ (field ∷ [])) p (ends_at_end s) is in omega (arith, less)
shrinks cfg s fields field (c ∷ rest) p is =
    let act = (step cfg s c).1 in
    let less =
    one_shrinks (fields_after act fields field) s (step cfg s c).0 rest (next_record cfg (step cfg s c).0 (fields_after act fields field) (field_after act c field) rest) p (is_end act) is
    (λ more. shrinks cfg (step cfg s c).0 (fields_after act fields field) (field_after act c field) rest p more) in
    omega (arith, less)

abbrev Records : Config → State → List ℕ → Type 0
Records cfg s xs = (rs : List Fields) × AreRecords cfg s xs rs

by_next : (cfg : Config) (s : State) (xs : List ℕ) (o : Option Read) → next_record cfg s [] [] xs ≡ o → ((p : Read) → next_record cfg s [] [] xs ≡ Some p → Records cfg p.1 p.2) → Records cfg s xs
unfolding Reached
by_next cfg s xs None is rest = ([], (s, xs, (refl, refl), is))
by_next cfg s xs (Some p) is rest = let (rs, (s2, ys, reached, ends)) = rest p is in (p.0 ∷ rs, (s2, ys, (p, is, refl, reached), ends))

records_within : (cfg : Config) (n : ℕ) (s : State) (xs : List ℕ) → size s xs ≤ n → Records cfg s xs
records_within cfg zero s xs most = by_next cfg s xs (next_record cfg s [] [] xs) refl (λ p is. let less = shrinks cfg s [] [] xs p is in absurd (omega (arith, most, less)))
records_within cfg (suc n) s xs most =
    by_next cfg s xs (next_record cfg s [] [] xs) refl (λ p is. let less = shrinks cfg s [] [] xs p is in records_within cfg n p.1 p.2 (omega (arith, most, less)))

-- ---- what a field says

by_test : (P : Type 0) (b : Bool) → Decides b P → Decided P
by_test P true told = inl (told.0 refl)
by_test P false told = inr (λ p. let never : false ≡ true = told.1 p in cc)

either_decided : (P Q : Type 0) → Decided P → Decided Q → Decided (P ⊎ Q)
either_decided P Q (inl p) other = inl (inl p)
either_decided P Q (inr never) (inl q) = inl (inr q)
either_decided P Q (inr never) (inr none) = inr (λ x. neither x)
  where
    neither : P ⊎ Q → ⊥
    neither (inl p) = never p
    neither (inr q) = none q

most_decided : (m n : ℕ) → Decided (m ≤ n)
most_decided m n = decided_as (m < suc n) (m ≤ n) (λ h. omega (arith, h)) (λ h. omega (arith, h)) (less_decided m (suc n))

false_decided : (b : Bool) → Decided (b ≡ false)
false_decided true = inr (λ h. cc)
false_decided false = inl refl

above_decided : (a b : ℤ) → Decided (a ≤ℤ b)
above_decided a b = by_lt_z {P = Decided (a ≤ℤ b)} b a (λ lt. inr (λ le. clash_ℤ lt le)) (λ le. inl le)

utf8_by : (bytes : List ℕ) (b : Bool) → is_utf8 bytes ≡ b → Decided (IsUtf8 bytes)
utf8_by bytes true is = inl (IsUtf8-from_is_utf8 bytes is)
utf8_by bytes false is = inr (λ text. let never : true ≡ false = sym (is_utf8-from_IsUtf8 bytes text) ∙ is in cc)

digits_decided : (ds : List ℕ) → Decided (AllDigits 10 ds)
digits_decided [] = inl tt
digits_decided (c ∷ cs) = both_decided (digit_value c < 10) (AllDigits 10 cs) (less_decided (digit_value c) 10) (digits_decided cs)

numeral_decided : (ds : List ℕ) → Decided (IsNumeral 10 ds)
numeral_decided ds = both_decided (0 < length ds) (AllDigits 10 ds) (less_decided 0 (length ds)) (digits_decided ds)

int_decided : (n : ℤ) → Decided (IsValue (value.Int n))
int_decided n = both_decided (negsuc (2 ^ 63 - 2) ≤ℤ n) (n ≤ℤ pos (2 ^ 63 - 1)) (above_decided (negsuc (2 ^ 63 - 2)) n) (above_decided n (pos (2 ^ 63 - 1)))

word_decided : (field word : List ℕ) → Decided (IsAnyCase field word)
word_decided field word = by_test (IsAnyCase field word) _ (bytes_eq-Decides (map to_ascii_lowercase field) (map to_ascii_lowercase word))

one_of_three : (field a b c : List ℕ) → Decided (IsAnyCase field a ⊎ (IsAnyCase field b ⊎ IsAnyCase field c))
one_of_three field a b c =
    either_decided (IsAnyCase field a) (IsAnyCase field b ⊎ IsAnyCase field c) (word_decided field a) (either_decided (IsAnyCase field b) (IsAnyCase field c) (word_decided field b) (word_decided field c))

-- some value that a field says
abbrev Said : ColType → List ℕ → Type 0
Said kind field = (v : Value) × SaysIn kind field v

said_number : (field : List ℕ) → IsNumeral 10 (without_leading_sign field) × IsValue (value.Int (signed_digits_value 10 field)) → Said ColType.Integer field
said_number field (digits, fits) = (value.Int (signed_digits_value 10 field), (signed_digits_value 10 field, (digits, refl), fits, refl))

number_said : (field : List ℕ) → Said ColType.Integer field → IsNumeral 10 (without_leading_sign field) × IsValue (value.Int (signed_digits_value 10 field))
number_said field (v, (n, (digits, n_is), fits, v_is)) = (digits, subst (λ (m : ℤ). IsValue (value.Int m)) n_is fits)

said_truth : (field : List ℕ) → SaysTruth field true ⊎ SaysTruth field false → Said ColType.Boolean field
said_truth field (inl says) = (value.Bool true, (true, says, refl))
said_truth field (inr says) = (value.Bool false, (false, says, refl))

truth_said : (field : List ℕ) → Said ColType.Boolean field → SaysTruth field true ⊎ SaysTruth field false
truth_said field (v, (true, says, v_is)) = inl says
truth_said field (v, (false, says, v_is)) = inr says

said_text : (most : ℕ) (field : List ℕ) → SaysText most field × IsValue (value.Text field) → Said (ColType.Varchar most) field
said_text most field (says, fits) = (value.Text field, (says, fits, refl))

text_said : (most : ℕ) (field : List ℕ) → Said (ColType.Varchar most) field → SaysText most field × IsValue (value.Text field)
text_said most field (v, (says, fits, v_is)) = (says, fits)

date_said : (field : List ℕ) → ((n : ℕ) × SaysDay field n) ⊎ ((n : ℕ) → SaysDay field n → ⊥) → Decided (Said ColType.Date field)
date_said field (inl (n, says)) = inl (value.Date n, (n, says, refl))
date_said field (inr none) = inr never
  where
    never : Said ColType.Date field → ⊥
    never (v, (n, says, same)) = none n says

in_decided : (kind : ColType) (field : List ℕ) → Decided (Said kind field)
in_decided ColType.Integer field =
    decided_as (IsNumeral 10 (without_leading_sign field) × IsValue (value.Int (signed_digits_value 10 field))) (Said ColType.Integer field) (said_number field) (number_said field)
    (both_decided (IsNumeral 10 (without_leading_sign field)) (IsValue (value.Int (signed_digits_value 10 field))) (numeral_decided (without_leading_sign field)) (int_decided (signed_digits_value 10 field)))
in_decided ColType.Boolean field =
    decided_as (SaysTruth field true ⊎ SaysTruth field false) (Said ColType.Boolean field) (said_truth field) (truth_said field)
    (either_decided (SaysTruth field true) (SaysTruth field false) (one_of_three field (codes "t") (codes "true") (codes "1")) (one_of_three field (codes "f") (codes "false") (codes "0")))
in_decided ColType.Date field = date_said field (says_or_not field)
in_decided (ColType.Varchar most) field =
    decided_as (SaysText most field × IsValue (value.Text field)) (Said (ColType.Varchar most) field) (said_text most field) (text_said most field)
    (both_decided (SaysText most field) (IsValue (value.Text field)) (both_decided (IsUtf8 field) (length field ≤ most) (utf8_by field (is_utf8 field) refl) (most_decided (length field) most))
    (most_decided (length field) 65000))

says_decided : (c : LoadColumn) (field : List ℕ) → Decided ((v : Value) × Says c field v)
says_decided c [] = decided_as (c.not_null ≡ false) ((v : Value) × Says c [] v) (λ may. (value.Null, (may, refl))) (λ x. x.1.0) (false_decided c.not_null)
says_decided c (b ∷ field) = in_decided c.kind (b ∷ field)

-- ---- what records are

abbrev RowOrWrong : List LoadColumn → Fields → Type 0
RowOrWrong columns fields = ((row : List Value) × IsRowOf columns fields row) ⊎ ((place : ℕ) × IsWrongAt columns fields place)

one_field : (c : LoadColumn) (columns : List LoadColumn) (f : List ℕ) (fields : Fields) → Decided ((v : Value) × Says c f v) → RowOrWrong columns fields → RowOrWrong (c ∷ columns) (f ∷ fields)
one_field c columns f fields (inl (v, says)) (inl (rest, row)) = inl (v ∷ rest, (v, rest, says, row, refl))
one_field c columns f fields (inl (v, says)) (inr (place, wrong)) = inr (place + 1, inr (v, place, says, wrong, refl))
one_field c columns f fields (inr never) rest = inr (1, inl (λ v says. never (v, says), refl))

row_or_wrong : (columns : List LoadColumn) (fields : Fields) → RowOrWrong columns fields
row_or_wrong [] [] = inl ([], refl)
row_or_wrong [] (f ∷ fields) = inr (1, refl)
row_or_wrong (c ∷ columns) [] = inr (1, refl)
row_or_wrong (c ∷ columns) (f ∷ fields) = one_field c columns f fields (says_decided c f) (row_or_wrong columns fields)

abbrev RowsOrBad : List LoadColumn → List Fields → Type 0
RowsOrBad columns records = ((rows : List (List Value)) × ReadsRows columns records rows) ⊎ ((line : ℕ) × (field : ℕ) × IsFirstBad columns records line field)

one_record : (columns : List LoadColumn) (fields : Fields) (records : List Fields) → RowOrWrong columns fields → RowsOrBad columns records → RowsOrBad columns (fields ∷ records)
one_record columns fields records (inl (row, is)) (inl (rows, all)) = inl (row ∷ rows, (is, all))
one_record columns fields records (inl (row, is)) (inr (line, field, (before, wrong, later, rows, split, all, at, line_is))) =
    inr (line + 1, field, (fields ∷ before, wrong, later, row ∷ rows, ap (λ (rs : List Fields). fields ∷ rs) split, (is, all), at, omega (arith, line_is)))
one_record columns fields records (inr (place, wrong)) rest = inr (1, place, ([], fields, records, [], refl, tt, wrong, refl))

rows_or_bad : (columns : List LoadColumn) (records : List Fields) → RowsOrBad columns records
rows_or_bad columns [] = inl ([], tt)
rows_or_bad columns (fields ∷ records) = one_record columns fields records (row_or_wrong columns fields) (rows_or_bad columns records)

as_load : (columns : List Column) (bytes : List ℕ) (records : List Fields) → AreRecords piped st.StartRecord (strip_bom bytes) records → RowsOrBad (map load_column columns) records → (load : Load) × Loads columns bytes load
as_load columns bytes records are (inl (rows, all)) = (Load.Rows rows, (records, are, all))
as_load columns bytes records are (inr (line, field, bad)) = (Load.Wrong line field, (records, are, bad))

pub load_there : (columns : List Column) (bytes : List ℕ) → (load : Load) × Loads columns bytes load
load_there columns bytes =
    let (records, are) = records_within piped (size st.StartRecord (strip_bom bytes)) st.StartRecord (strip_bom bytes) (omega arith) in
    as_load columns bytes records are (rows_or_bad (map load_column columns) records)
