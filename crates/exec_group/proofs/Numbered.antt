-- Keys that are numbers: which key each stands for, and where it stands.
use Rattle.std.proofs.Common.{◌≡◌, ℕ, zero, suc, ℤ, negsuc, ◌≤◌, ◌-◌, ◌^◌, ◌<◌, Bool, true, false, cond, List, [], ◌∷◌, get_or, length, map, position, Option, Some, None, refl, sym, ap, ◌∙◌, arith}
use Rattle.std.specs.Prelude.{slice_index_or}
use Rattle.std.specs.Option.{IfSome}
use Rattle.std.specs.Ordering.{int_eq}
use Rattle.std.proofs.lemmas.Bool.Decides.{Decides-int_eq}
use Rattle.std.proofs.lemmas.List.{get_or-map, length-map}
use Rattle.std.proofs.lemmas.List.Quantifiers.{position-Some}
use Rattle.block_codec.specs.Held.{number_value}
use Rattle.col_value.specs.declared.value.Value.{Value}
use Rattle.col_value.specs.declared.value.Value.TheVariants as value
use Rattle.row_keys.proofs.Apart.{same_equal, same_itself}
use Rattle.row_keys.proofs.Places.{no_place, none_passes, place_is}
use Rattle.row_keys.specs.Numbers.{is_number}
use Rattle.sql_bound.specs.Outputs.{keys_of, same_keys}
use Rattle.exec_group.specs.Columns.{row_of}
use Rattle.exec_group.specs.NumberKeys.{null_number, number_key, IsNoKey, IsNoNumber}

abbrev least : ℤ
least = negsuc (2 ^ 63 - 1)

at_least : (n : ℤ) (b : Bool) → int_eq n least ≡ b → number_value n ≡ cond b value.Null (value.Int n)
at_least n b e = ap (λ (t : Bool). cond t value.Null (value.Int n)) e

abbrev number_or : Value → ℤ
number_or value.Null = least
number_or (value.Bool b) = least
number_or (value.Int n) = n
number_or (value.Date d) = least
number_or (value.Text t) = least

back : (n : ℤ) → number_or (number_value n) ≡ n
back n = by (int_eq n least) refl
  where
    by : (b : Bool) → int_eq n least ≡ b → number_or (number_value n) ≡ n
    by true e = ap number_or (at_least n true e) ∙ sym ((Decides-int_eq n least).0 e)
    by false e = ap number_or (at_least n false e)

-- a value that is no NULL and no number, and -2^63 itself, are not stood for
pub not_least : (n : ℤ) → n ≡ least → IsNoNumber (value.Int n)
not_least n is m e =
    let same : m ≡ n = sym (back m) ∙ ap number_or e in
    let null : number_value m ≡ value.Null = at_least m true ((Decides-int_eq m least).1 (same ∙ is)) in
    let both : value.Null ≡ value.Int n = sym null ∙ e in
    absurd cc

other_kind : (n : ℤ) (v : Value) → ((m : ℤ) → value.Int m ≡ v → ⊥) → (value.Null ≡ v → ⊥) → number_value n ≡ v → ⊥
other_kind n v no_int no_null e = by (int_eq n least) refl
  where
    by : (b : Bool) → int_eq n least ≡ b → ⊥
    by true h = no_null (sym (at_least n true h) ∙ e)
    by false h = no_int n (sym (at_least n false h) ∙ e)

pub no_truth : (b : Bool) → IsNoNumber (value.Bool b)
no_truth b n e = other_kind n (value.Bool b) (λ m h. cc) (λ h. cc) e

pub no_date : (d : ℕ) → IsNoNumber (value.Date d)
no_date d n e = other_kind n (value.Date d) (λ m h. cc) (λ h. cc) e

pub no_text : (t : List ℕ) → IsNoNumber (value.Text t)
no_text t n e = other_kind n (value.Text t) (λ m h. cc) (λ h. cc) e

abbrev first_or : List Value → Value
first_or [] = value.Null
first_or (v ∷ vs) = v

same_numbers : (a b : ℤ) → number_key a ≡ number_key b → a ≡ b
same_numbers a b e = sym (back a) ∙ ap (λ (k : List Value). number_or (first_or k)) e ∙ back b

pub one_value : (v : Value) → IsNoNumber v → IsNoKey (v ∷ [])
one_value v none n e = none n (ap first_or e)

pub no_values : IsNoKey []
no_values n e = cc

pub more_values : (v w : Value) (vs : List Value) → IsNoKey (v ∷ w ∷ vs)
more_values v w vs n e = cc

-- a number's key is that of another one exactly where they are one number
alike : (a n : ℤ) → same_keys (number_key a) (number_key n) ≡ is_number n a
alike a n = by (is_number n a) refl
  where
    by : (b : Bool) → is_number n a ≡ b → same_keys (number_key a) (number_key n) ≡ b
    by true e = ap (λ (m : ℤ). same_keys (number_key m) (number_key n)) ((Decides-int_eq a n).0 e) ∙ same_itself (number_key n)
    by false e = elim (same_keys (number_key a) (number_key n)) as (λ s. same_keys (number_key a) (number_key n) ≡ s → s ≡ false) [
      | true ↦ λ h. let is : is_number n a ≡ true = (Decides-int_eq a n).1 (same_numbers a n (same_equal (number_key a) (number_key n) h)) in absurd cc
      | false ↦ λ h. refl
    ] refl

module _ {X Y : Type 0} (f : X → Y) (p : Y → Bool) (q : X → Bool) (same : (x : X) → p (f x) ≡ q x) (d : X) where
  there : (xs : List X) (k : ℕ) (b : Bool) → k < length xs → q (get_or xs k d) ≡ b → p (get_or (map f xs) k (f d)) ≡ b
  there xs k b h e = ap p (get_or-map f xs k d (f d) h) ∙ same (get_or xs k d) ∙ e

  position_mapped : (xs : List X) → position p (map f xs) ≡ position q xs
  position_mapped xs =
      elim (position q xs) as (λ o. position q xs ≡ o → position p (map f xs) ≡ o) [
        | Some i ↦ λ e.
            let at = position-Some q xs i d e in
            place_is p (map f xs) i (f d) (omega (arith, at.0, length-map xs f)) (there xs i true at.0 at.1) (λ k l. there xs k false (omega (arith, l, at.0)) (at.2 k l))
        | None ↦ λ e.
            no_place p (map f xs) (f d) (λ k h. let inside : k < length xs = omega (arith, h, length-map xs f) in there xs k false inside (none_passes q xs k d e inside))
      ] refl

pub place_of_number : (n : ℤ) (key : List Value) (numbers : List ℤ) → number_key n ≡ key → position (is_number n) numbers ≡ position (λ k. same_keys k key) (map number_key numbers)
place_of_number n key numbers is =
    sym (position_mapped number_key (λ k. same_keys k (number_key n)) (is_number n) (λ a. alike a n) least numbers) ∙ ap (λ (k : List Value). position (λ x. same_keys x k) (map number_key numbers)) is

pub place_of_none : (key : List Value) (numbers : List ℤ) → IsNoKey key → None ≡ position (λ k. same_keys k key) (map number_key numbers)
place_of_none key numbers none =
    sym (no_place (λ k. same_keys k key) (map number_key numbers) [] (λ i h. other i (omega (arith, h, length-map numbers number_key))))
  where
    other : (i : ℕ) → i < length numbers → same_keys (get_or (map number_key numbers) i []) key ≡ false
    other i inside = elim (same_keys (get_or (map number_key numbers) i []) key) as (λ s. same_keys (get_or (map number_key numbers) i []) key ≡ s → s ≡ false) [
      | true ↦ λ h. absurd (none (get_or numbers i least) (sym (get_or-map number_key numbers i least [] inside) ∙ same_equal (get_or (map number_key numbers) i []) key h))
      | false ↦ λ h. refl
    ] refl

mapped_at : (ns : List ℤ) (i : ℕ) → get_or (map number_value ns) i value.Null ≡ number_value (get_or ns i null_number)
mapped_at [] i = refl
mapped_at (n ∷ ns) zero = refl
mapped_at (n ∷ ns) (suc i) = mapped_at ns i

-- what a lane shows of the keys of one column
pub lane_keys : (columns : List (Option (List Value))) (keys : List ℕ) (column : ℕ) (ns : List ℤ) → keys ≡ column ∷ [] → ((place : ℕ) → slice_index_or (row_of columns place) column value.Null ≡ slice_index_or (map number_value ns) place value.Null)
    → (place : ℕ) → number_key (get_or ns place null_number) ≡ keys_of keys (row_of columns place)
lane_keys columns keys column ns are lane place =
    ap (λ (v : Value). v ∷ []) (sym (lane place ∙ mapped_at ns place)) ∙ ap (λ (ks : List ℕ). keys_of ks (row_of columns place)) (sym are)

pub one_key : (keys : List ℕ) → 1 ≤ length keys → length keys ≤ 1 → keys ≡ get_or keys 0 0 ∷ []
one_key [] some few = absurd (omega (arith, some))
one_key (k ∷ []) some few = refl
one_key (k ∷ l ∷ keys) some few = absurd (omega (arith, few))

pub if_some : {X : Type 0} (o : Option X) (P Q : X → Type 0) → ((x : X) → P x → Q x) → IfSome o P → IfSome o Q
if_some None P Q wider all = all
if_some (Some x) P Q wider all = wider x all
