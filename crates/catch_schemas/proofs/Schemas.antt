-- The least table in which two catalogues differ.
use Rattle.std.proofs.Common.{◌≡◌, ◌≢◌, ◌+◌, inl, inr, not, ℕ, Bool, true, false, cond, arith, List, [], ◌∷◌, Option, Some, None, refl, sym, ap, ap₂, ◌∙◌, subst}
use Rattle.std.specs.Prelude.{bytes_eq, find, option_map, ◌⊎◌, ◌&&◌, ◌==◌}
use Rattle.std.specs.List.{All, AllZip}
use Rattle.std.specs.Ordering.{is_eq, is_lt, nat_cmp, ordering_reverse}
use Rattle.std.specs.Cmp.{IsTotalOrder}
use Rattle.std.specs.Cmp.Lexicographic.{slice_cmp, nat_list_cmp_total}
use Rattle.std.specs.declared.cmp.Ordering.{Ordering}
use Rattle.std.specs.declared.cmp.Ordering.TheVariants.{Less, Equal, Greater}
use Rattle.std.proofs.lemmas.List.Elements.{All-cons, All-head, All-nil, All-tail, All-weaker}
use Rattle.std.proofs.lemmas.Map.Text.{is_eq-slice_cmp}
use Rattle.std.proofs.lemmas.Option.{same_Some}
use Rattle.std.proofs.lemmas.Slice.Eq.{bytes_eq-Decides}
use Rattle.std.proofs.lemmas.Bool.Decides.{nat_tests}
use Rattle.col_value.specs.declared.column.Column.{Column}
use Rattle.col_value.specs.declared.kinds.ColType.{ColType}
use Rattle.catalog_types.specs.declared.catalogue.Table.{Table}
use Rattle.catalog_types.specs.Names.{IsBelow}
use Rattle.catch_model.specs.Refused.{IsLeastName}
use Rattle.catch_schemas.specs.Schemas.{are_same_columns, columns_in, is_same_column, kind_code, AreAscending, IsApart, IsFirstApart, IsSameTable}

-- ---- names

abbrev order : List ℕ → List ℕ → Ordering
order = slice_cmp nat_cmp

is_less : (o : Ordering) → is_lt o ≡ true → o ≡ Less
is_less Less told = refl
is_less Equal told = absurd (cc)
is_less Greater told = absurd (cc)

tied : (a b : List ℕ) → order a b ≡ Equal → a ≡ b
tied a b same = (bytes_eq-Decides a b).0 (sym (is_eq-slice_cmp a b) ∙ ap is_eq same)

below_off : (a b : List ℕ) → IsBelow a b → bytes_eq b a ≡ false
below_off a b less = sym (is_eq-slice_cmp b a) ∙ ap is_eq (nat_list_cmp_total.antisymm b a ∙ ap ordering_reverse less)

turned : (a b : List ℕ) → order a b ≡ Greater → IsBelow b a
turned a b more = nat_list_cmp_total.antisymm b a ∙ ap ordering_reverse more

on : (a b c : List ℕ) → IsBelow a b → IsBelow b c → IsBelow a c
on a b c one two = nat_list_cmp_total.trans a b c one two

-- ---- columns by names

here_in : (t : Table) (ts : List Table) → columns_in t.name (t ∷ ts) ≡ Some t.columns
here_in t ts = ap (λ (b : Bool). option_map (λ (u : Table). u.columns) (cond b (Some t) (find (λ u. bytes_eq u.name t.name) ts))) ((bytes_eq-Decides t.name t.name).1 refl)

skip_in : (name : List ℕ) (t : Table) (ts : List Table) → bytes_eq t.name name ≡ false → columns_in name (t ∷ ts) ≡ columns_in name ts
skip_in name t ts off = ap (λ (b : Bool). option_map (λ (u : Table). u.columns) (cond b (Some t) (find (λ u. bytes_eq u.name name) ts))) off

none_in : (name : List ℕ) (ts : List Table) → All (λ t. IsBelow name t.name) ts → columns_in name ts ≡ None
none_in name [] all = refl
none_in name (t ∷ ts) all = skip_in name t ts (below_off name t.name (All-head (λ u. IsBelow name u.name) t ts all)) ∙ none_in name ts (All-tail (λ u. IsBelow name u.name) t ts all)

all_on : (a b : List ℕ) (ts : List Table) → IsBelow a b → All (λ t. IsBelow b t.name) ts → All (λ t. IsBelow a t.name) ts
all_on a b ts less all = All-weaker (λ t. IsBelow b t.name) (λ t. IsBelow a t.name) (λ t above. on a b t.name less above) ts all

abbrev IsLeast : List Table → List Table → List ℕ → Type 0
IsLeast xs ys name = IsLeastName (λ m. columns_in m xs ≡ columns_in m ys) name

none_some : (o : Option (List Column)) (cs : List Column) → o ≡ None → Some cs ≡ o → ⊥
none_some o cs none some = let both : Some cs ≡ None = some ∙ none in cc

-- the first of one list is less than all of the other
least_left : (x : Table) (xs zs : List Table) → All (λ t. IsBelow x.name t.name) xs → All (λ t. IsBelow x.name t.name) zs → IsLeast (x ∷ xs) zs x.name
least_left x xs zs up over = record {
  bad = λ same. none_some (columns_in x.name zs) x.columns (none_in x.name zs over) (sym (here_in x xs) ∙ same);
  least = λ other lower.
      let less : IsBelow other x.name = is_less (order other x.name) lower in
      skip_in other x xs (below_off other x.name less) ∙ none_in other xs (all_on other x.name xs less up) ∙ sym (none_in other zs (all_on other x.name zs less over));
}

least_right : (y : Table) (ys zs : List Table) → All (λ t. IsBelow y.name t.name) ys → All (λ t. IsBelow y.name t.name) zs → IsLeast zs (y ∷ ys) y.name
least_right y ys zs up over = record {
  bad = λ same. none_some (columns_in y.name zs) y.columns (none_in y.name zs over) (sym (here_in y ys) ∙ sym same);
  least = λ other lower.
      let less : IsBelow other y.name = is_less (order other y.name) lower in
      none_in other zs (all_on other y.name zs less over) ∙ sym (skip_in other y ys (below_off other y.name less) ∙ none_in other ys (all_on other y.name ys less up));
}

-- two tables of one name with other columns
least_here : (x y : Table) (xs ys : List Table) → x.name ≡ y.name → x.columns ≢ y.columns → All (λ t. IsBelow x.name t.name) xs → All (λ t. IsBelow y.name t.name) ys → IsLeast (x ∷ xs) (y ∷ ys) x.name
least_here x y xs ys same off up over = record {
  bad = λ both. off (same_Some x.columns y.columns (sym (here_in x xs) ∙ both ∙ ap (λ (n : List ℕ). columns_in n (y ∷ ys)) same ∙ here_in y ys));
  least = λ other lower.
      let less : IsBelow other x.name = is_less (order other x.name) lower in
      let also : IsBelow other y.name = subst (IsBelow other) same less in
      skip_in other x xs (below_off other x.name less) ∙ none_in other xs (all_on other x.name xs less up)
      ∙ sym (skip_in other y ys (below_off other y.name also) ∙ none_in other ys (all_on other y.name ys also over));
}

-- two of one name with the same columns: what comes behind them
least_later : (x y : Table) (xs ys : List Table) (name : List ℕ) → x.name ≡ y.name → x.columns ≡ y.columns → IsBelow x.name name → IsLeast xs ys name → IsLeast (x ∷ xs) (y ∷ ys) name
least_later x y xs ys name same columns above found = record {
  bad = λ both. found.bad (sym (skip_in name x xs (off name above)) ∙ both ∙ skip_in name y ys (subst (λ (n : List ℕ). bytes_eq n name ≡ false) same (off name above)));
  least = λ other lower. by other (bytes_eq x.name other) refl (found.least other lower);
}
  where
    off : (m : List ℕ) → IsBelow x.name m → bytes_eq x.name m ≡ false
    off m less = sym (is_eq-slice_cmp x.name m) ∙ ap is_eq less

    by : (other : List ℕ) (b : Bool) → bytes_eq x.name other ≡ b → columns_in other xs ≡ columns_in other ys → columns_in other (x ∷ xs) ≡ columns_in other (y ∷ ys)
    by other true is rest =
        let called : x.name ≡ other = (bytes_eq-Decides x.name other).0 is in
        subst (λ (n : List ℕ). columns_in n (x ∷ xs) ≡ columns_in n (y ∷ ys)) called
        (here_in x xs ∙ ap (λ (cs : List Column). Some cs) columns ∙ sym (ap (λ (n : List ℕ). columns_in n (y ∷ ys)) same ∙ here_in y ys))
    by other false is rest = skip_in other x xs is ∙ rest ∙ sym (skip_in other y ys (subst (λ (n : List ℕ). bytes_eq n other ≡ false) same is))

-- ---- both lists

-- what is found stands above all that is below both lists
found_above : (m : List ℕ) (xs ys : List Table) (name : List ℕ) → All (λ t. IsBelow m t.name) xs → All (λ t. IsBelow m t.name) ys → IsFirstApart xs ys name → IsBelow m name
found_above m [] [] name up over none = absurd none
found_above m [] (y ∷ ys) name up over is = subst (IsBelow m) (sym is) (All-head (λ t. IsBelow m t.name) y ys over)
found_above m (x ∷ xs) [] name up over is = subst (IsBelow m) (sym is) (All-head (λ t. IsBelow m t.name) x xs up)
found_above m (x ∷ xs) (y ∷ ys) name up over (inr (same, behind)) = found_above m xs ys name (All-tail (λ t. IsBelow m t.name) x xs up) (All-tail (λ t. IsBelow m t.name) y ys over) behind
found_above m (x ∷ xs) (y ∷ ys) name up over (inl apart) = by (order x.name y.name) apart
  where
    by : (o : Ordering) → IsApart o x y name → IsBelow m name
    by Less is = subst (IsBelow m) (sym is) (All-head (λ t. IsBelow m t.name) x xs up)
    by Equal (off, is) = subst (IsBelow m) (sym is) (All-head (λ t. IsBelow m t.name) x xs up)
    by Greater is = subst (IsBelow m) (sym is) (All-head (λ t. IsBelow m t.name) y ys over)

pub first_is_least : (xs ys : List Table) (name : List ℕ) → AreAscending xs → AreAscending ys → IsFirstApart xs ys name → IsLeastName (λ m. columns_in m xs ≡ columns_in m ys) name
first_is_least [] [] name up over none = absurd none
first_is_least [] (y ∷ ys) name up (over, more) is = subst (IsLeast [] (y ∷ ys)) (sym is) (least_right y ys [] over (All-nil (λ t. IsBelow y.name t.name)))
first_is_least (x ∷ xs) [] name (up, more) over is = subst (IsLeast (x ∷ xs) []) (sym is) (least_left x xs [] up (All-nil (λ t. IsBelow x.name t.name)))
first_is_least (x ∷ xs) (y ∷ ys) name (up, more) (over, further) (inr (same, behind)) =
    least_later x y xs ys name same.name same.columns (found_above x.name xs ys name up (subst (λ (n : List ℕ). All (λ t. IsBelow n t.name) ys) (sym same.name) over) behind) (first_is_least xs ys name more further behind)
first_is_least (x ∷ xs) (y ∷ ys) name (up, more) (over, further) (inl apart) = by (order x.name y.name) refl apart
  where
    by : (o : Ordering) → order x.name y.name ≡ o → IsApart o x y name → IsLeast (x ∷ xs) (y ∷ ys) name
    by Less less is = subst (IsLeast (x ∷ xs) (y ∷ ys)) (sym is) (least_left x xs (y ∷ ys) up (All-cons (λ t. IsBelow x.name t.name) y ys less (all_on x.name y.name ys less over)))
    by Equal same (off, is) = subst (IsLeast (x ∷ xs) (y ∷ ys)) (sym is) (least_here x y xs ys (tied x.name y.name same) off up over)
    by Greater greater is =
        let less : IsBelow y.name x.name = turned x.name y.name greater in
        subst (IsLeast (x ∷ xs) (y ∷ ys)) (sym is) (least_right y ys (x ∷ xs) over (All-cons (λ t. IsBelow y.name t.name) x xs less (all_on y.name x.name xs less up)))

-- ---- columns

kind_exact : (a b : ColType) → kind_code a ≡ kind_code b → a ≡ b
kind_exact ColType.Integer ColType.Integer same = refl
kind_exact ColType.Boolean ColType.Boolean same = refl
kind_exact ColType.Date ColType.Date same = refl
kind_exact (ColType.Varchar m) (ColType.Varchar n) same = let one : m ≡ n = omega (arith, same) in ap (λ (k : ℕ). ColType.Varchar k) one
kind_exact ColType.Integer ColType.Boolean same = absurd (omega (arith, same))
kind_exact ColType.Integer ColType.Date same = absurd (omega (arith, same))
kind_exact ColType.Integer (ColType.Varchar n) same = absurd (omega (arith, same))
kind_exact ColType.Boolean ColType.Integer same = absurd (omega (arith, same))
kind_exact ColType.Boolean ColType.Date same = absurd (omega (arith, same))
kind_exact ColType.Boolean (ColType.Varchar n) same = absurd (omega (arith, same))
kind_exact ColType.Date ColType.Integer same = absurd (omega (arith, same))
kind_exact ColType.Date ColType.Boolean same = absurd (omega (arith, same))
kind_exact ColType.Date (ColType.Varchar n) same = absurd (omega (arith, same))
kind_exact (ColType.Varchar m) ColType.Integer same = absurd (omega (arith, same))
kind_exact (ColType.Varchar m) ColType.Boolean same = absurd (omega (arith, same))
kind_exact (ColType.Varchar m) ColType.Date same = absurd (omega (arith, same))

both : (a b : Bool) → (a && b) ≡ true → (a ≡ true) × (b ≡ true)
both true b told = (refl, told)
both false b told = absurd (cc)

same_null : (a b : Bool) → cond a b (not b) ≡ true → a ≡ b
same_null true true told = refl
same_null true false told = absurd (cc)
same_null false true told = absurd (cc)
same_null false false told = refl

null_itself : (a : Bool) → cond a a (not a) ≡ true
null_itself true = refl
null_itself false = refl

abbrev column_of : List ℕ → ColType → Bool → Column
column_of name kind not_null = record { name = name; kind = kind; not_null = not_null }

column_exact : (a b : Column) → is_same_column a b ≡ true → a ≡ b
column_exact a b told =
    let (names, rest) = both (bytes_eq a.name b.name) (kind_code a.kind == kind_code b.kind && cond a.not_null b.not_null (not b.not_null)) told in
    let (kinds, nulls) = both (kind_code a.kind == kind_code b.kind) (cond a.not_null b.not_null (not b.not_null)) rest in
    let name : a.name ≡ b.name = (bytes_eq-Decides a.name b.name).0 names in
    let kind : a.kind ≡ b.kind = kind_exact a.kind b.kind (same_number (kind_code a.kind) (kind_code b.kind) kinds) in
    let null : a.not_null ≡ b.not_null = same_null a.not_null b.not_null nulls in
    ap (λ (n : List ℕ). column_of n a.kind a.not_null) name ∙ ap₂ (λ (k : ColType) (z : Bool). column_of b.name k z) kind null
  where
    same_number : (m n : ℕ) → (m == n) ≡ true → m ≡ n
    same_number m n told = grind (arith, nat_tests)

column_itself : (a : Column) → is_same_column a a ≡ true
column_itself a = ap₂ (λ (x y : Bool). x && y) ((bytes_eq-Decides a.name a.name).1 refl) (ap₂ (λ (x y : Bool). x && y) (own (kind_code a.kind)) (null_itself a.not_null))
  where
    own : (m : ℕ) → (m == m) ≡ true
    own m = grind (arith, nat_tests)

pub columns_exact : (xs ys : List Column) → are_same_columns xs ys ≡ true → xs ≡ ys
columns_exact [] [] told = refl
columns_exact [] (y ∷ ys) told = absurd (cc)
columns_exact (x ∷ xs) [] told = absurd (cc)
columns_exact (x ∷ xs) (y ∷ ys) told =
    let (here, rest) = both (is_same_column x y) (are_same_columns xs ys) told in
    ap₂ (λ (c : Column) (cs : List Column). c ∷ cs) (column_exact x y here) (columns_exact xs ys rest)

columns_themselves : (xs : List Column) → are_same_columns xs xs ≡ true
columns_themselves [] = refl
columns_themselves (x ∷ xs) = ap₂ (λ (a b : Bool). a && b) (column_itself x) (columns_themselves xs)

-- ---- two tables

pub not_apart : (x y : Table) → slice_cmp nat_cmp x.name y.name ≡ Equal → are_same_columns x.columns y.columns ≡ true → IsSameTable x y
not_apart x y same columns = record { name = tied x.name y.name same; columns = columns_exact x.columns y.columns columns }

pub other_columns : (x y : Table) → slice_cmp nat_cmp x.name y.name ≡ Equal → are_same_columns x.columns y.columns ≡ false → IsApart (slice_cmp nat_cmp x.name y.name) x y x.name
other_columns x y same off = subst (λ (r : Ordering). IsApart r x y x.name) (sym same) (λ is. no (ap (are_same_columns x.columns) is ∙ off), refl)
  where
    no : are_same_columns x.columns x.columns ≡ false → ⊥
    no told = let yes = columns_themselves x.columns in cc

pub lesser_name : (x y : Table) → slice_cmp nat_cmp x.name y.name ≡ Less → IsApart (slice_cmp nat_cmp x.name y.name) x y x.name
lesser_name x y less = subst (λ (r : Ordering). IsApart r x y x.name) (sym less) refl

pub greater_name : (x y : Table) → slice_cmp nat_cmp x.name y.name ≡ Greater → IsApart (slice_cmp nat_cmp x.name y.name) x y y.name
greater_name x y greater = subst (λ (r : Ordering). IsApart r x y y.name) (sym greater) refl

-- ---- all tables

pub none_apart : (xs ys : List Table) → AllZip IsSameTable xs ys → (name : List ℕ) → columns_in name xs ≡ columns_in name ys
none_apart [] [] all name = refl
none_apart [] (y ∷ ys) all name = absurd all
none_apart (x ∷ xs) [] all name = absurd all
none_apart (x ∷ xs) (y ∷ ys) (same, more) name = by (bytes_eq x.name name) (bytes_eq y.name name) (ap (λ (n : List ℕ). bytes_eq n name) same.name) (none_apart xs ys more name)
  where
    by : (b c : Bool) → b ≡ c → columns_in name xs ≡ columns_in name ys → option_map (λ (t : Table). t.columns) (cond b (Some x) (find (λ t. bytes_eq t.name name) xs)) ≡ option_map (λ (t : Table). t.columns) (cond c (Some y) (find (λ t. bytes_eq t.name name) ys))
    by true true is rest = ap (λ (cs : List Column). Some cs) same.columns
    by true false is rest = absurd (cc)
    by false true is rest = absurd (cc)
    by false false is rest = rest
