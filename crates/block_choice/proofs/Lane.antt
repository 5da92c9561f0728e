-- Values for which numbers of a lane stand.
use Rattle.std.proofs.Common.{◌≡◌, ◌^◌, ◌-◌, ℤ, pos, negsuc, Bool, true, false, List, [], ◌∷◌, length, map, refl, sym, ap, ◌∙◌, cond, inl, inr, arith}
use Rattle.std.specs.List.{All, AllByRecursion, list_all, list_any}
use Rattle.std.specs.Ordering.{int_eq}
use Rattle.std.proofs.lemmas.Bool.{cases_Bool}
use Rattle.std.proofs.lemmas.Bool.Decides.{Decides-int_eq}
use Rattle.std.proofs.lemmas.Int.{ints}
use Rattle.std.proofs.lemmas.List.Elements.{recursion_from_All}
use Rattle.col_value.specs.declared.value.Value.{Value}
use Rattle.col_value.specs.declared.value.Value.TheVariants as value
use Rattle.value_bytes.specs.Spelling.{IsSpelled}
use Rattle.block_codec.specs.Blocks.{IsOneBlock}
use Rattle.block_codec.specs.Held.{number_value}
use Rattle.enc_delta.specs.DateDelta.{is_date}
use Rattle.enc_delta.specs.Delta.{IsNumeric, IsDelta}
use Rattle.block_choice.specs.declared.codec.Codec.TheVariants.{DateDelta}
use Rattle.block_choice.specs.Choice.{is_numeric, is_dated, takes}
use Rattle.block_choice.proofs.Shortest.{are_numeric}

abbrev least : ℤ
least = negsuc (2 ^ 63 - 1)

one_numeric : (n : ℤ) → is_numeric (number_value n) ≡ true
one_numeric n =
    elim (cases_Bool (int_eq n least)) [
      | inl t ↦ rw t refl
      | inr f ↦ rw f refl
    ]

pub lane_numeric : (ns : List ℤ) → list_all is_numeric (map number_value ns) ≡ true
lane_numeric [] = refl
lane_numeric (n ∷ ns) = rw (one_numeric n, lane_numeric ns) refl

pub lane_delta : (ns : List ℤ) → IsOneBlock (map number_value ns) → IsDelta (map number_value ns)
lane_delta ns is = record { block = is; numeric = are_numeric (map number_value ns) (lane_numeric ns) }

-- no date stands among them
one_undated : (n : ℤ) → is_date (number_value n) ≡ false
one_undated n =
    elim (cases_Bool (int_eq n least)) [
      | inl t ↦ rw t refl
      | inr f ↦ rw f refl
    ]

none_dated : (ns : List ℤ) → list_any is_date (map number_value ns) ≡ false
none_dated [] = refl
none_dated (n ∷ ns) = rw (one_undated n, none_dated ns) refl

pub lane_undated : (ns : List ℤ) → takes (map number_value ns) DateDelta ≡ false
lane_undated ns =
    elim (cases_Bool (list_all is_dated (map number_value ns))) [
      | inl t ↦ rw (t, none_dated ns) refl
      | inr f ↦ rw f refl
    ]

-- ---- a lane for numbers

abbrev number_of : Value → ℤ
number_of value.Null = least
number_of (value.Int n) = n
number_of (value.Bool b) = least
number_of (value.Date d) = least
number_of (value.Text t) = least

stands : (v : Value) → IsNumeric v → IsSpelled v → number_value (number_of v) ≡ v
stands value.Null is fits = refl
stands (value.Int n) is fits =
    elim (cases_Bool (int_eq n least)) [
      | inl t ↦ let e : n ≡ least = (Decides-int_eq n least).0 t in absurd (omega (arith, ints, e, fits))
      | inr f ↦ rw f refl
    ]
stands (value.Bool b) is fits = absurd is
stands (value.Date d) is fits = absurd is
stands (value.Text t) is fits = absurd is

all_stand : (vs : List Value) → AllByRecursion IsNumeric vs → AllByRecursion IsSpelled vs → map number_value (map number_of vs) ≡ vs
all_stand [] is fits = refl
all_stand (v ∷ vs) is fits = rw (stands v is.0 fits.0, all_stand vs is.1 fits.1) refl

-- where no lane stands for them, they aren't all numbers
pub none_numeric : (vs : List Value) → IsOneBlock vs → ((ns : List ℤ) → map number_value ns ≡ vs → ⊥) → list_all is_numeric vs ≡ false
none_numeric vs is none =
    elim (cases_Bool (list_all is_numeric vs)) [
      | inl are ↦ absurd (none (map number_of vs) (all_stand vs (recursion_from_All IsNumeric vs (are_numeric vs are)) (recursion_from_All IsSpelled vs is.values)))
      | inr not ↦ not
    ]
