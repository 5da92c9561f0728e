-- The block of dates that is read is the block that was spelled.
use Rattle.std.proofs.Common.{◌≡◌, ℕ, zero, suc, ◌+◌, ◌-◌, ◌^◌, ◌<◌, ◌≤◌, ◌||◌, nat_lt, true, false, List, [], ◌∷◌, ◌++◌, length, Some, refl, sym, ap, subst, ◌∙◌, append_assoc, arith, eq-eqb}
use Rattle.std.specs.Prelude.{option_and_then}
use Rattle.std.specs.List.{AllByRecursion, flat_map}
use Rattle.std.proofs.lemmas.Bool.{eqb-true}
use Rattle.std.proofs.lemmas.Bool.Decides.{nat_tests}
use Rattle.std.proofs.lemmas.List.Elements.{All-from_recursion}
use Rattle.std.proofs.lemmas.Option.{option_and_then_some}
use Rattle.col_bytes.specs.Fronts.{vint_at, be4_at}
use Rattle.col_bytes.specs.Parts.{many, whole}
use Rattle.col_bytes.specs.Spellings.{vint, be4}
use Rattle.col_bytes.proofs.Codecs.{Takes, Takes-then, IsCodec, some_is, let_through}
use Rattle.col_bytes.proofs.Combine.{map_some, many_takes, many_again}
use Rattle.col_bytes.proofs.Vints.{vint_codec}
use Rattle.col_bytes.proofs.Whole.{IsReader, whole_reader, tested_reader, made_reader, one_spelled}
use Rattle.col_bytes.proofs.Widths.{be4_codec}
use Rattle.col_value.specs.declared.value.Value.{Value}
use Rattle.col_value.specs.declared.value.Value.TheVariants as value
use Rattle.value_bytes.specs.Spelling.{IsSpelled}
use Rattle.block_codec.specs.Fronts.{count_at}
use Rattle.block_codec.proofs.Few.{IsFew, count_codec}
use Rattle.enc_delta.specs.DateDelta.{IsDated, IsDateDelta, first_day, day_base, day_delta, day_delta_spelling, day_deltas, date_block, IsSince}
use Rattle.enc_delta.specs.DateFronts.{base_day, day_base_at, day_in_range, value_since, made_since, since_at, values_since, day_deltas_at, is_first, day_parts, dates_of}
use Rattle.enc_delta.proofs.FirstDay.{AreDays, day_base_fits, since_base, date_there, from_base}

-- ---- the base

abbrev FitsDay : ℕ → Type 0
FitsDay n = AreDays (Some n)

day_range : (n : ℕ) → (nat_lt n 1 || nat_lt 3652059 n) ≡ false → FitsDay n
day_range n e = (grind (arith, nat_tests), grind (arith, nat_tests))

range_day : (n : ℕ) → FitsDay n → (nat_lt n 1 || nat_lt 3652059 n) ≡ false
range_day n is = let low : 1 ≤ n = is.0 in let high : n ≤ 3652059 = is.1 in grind (arith, nat_tests)

day_base_codec : IsCodec be4 FitsDay day_base_at
unfolding day_base_at
day_base_codec = record {
  takes = λ bytes x are e. option_and_then_some base_day (be4_at bytes) x e
      (λ n is h.
      let t = be4_codec.takes bytes n are is in
      let g = let_through (nat_lt n.0 1 || nat_lt 3652059 n.0) n x h in
      subst (λ (y : ℕ × List ℕ). Takes bytes (be4 y.0) y.1 × FitsDay y.0) g.1 (t.0, day_range n.0 g.0));
  again = λ n rest fit.
      let none = range_day n fit in
      let small : n < 2 ^ 32 = omega (arith, fit) in
      rw (be4_codec.again n rest small, none) refl;
}

-- ---- a value behind the base

not_past : (n : ℕ) → nat_lt 3652059 n ≡ false → n ≤ 3652059
not_past n e = grind (arith, nat_tests)

not_before : (n : ℕ) → n ≤ 3652059 → nat_lt 3652059 n ≡ false
not_before n le = grind (arith, nat_tests)

since_is : (base : ℕ) → FitsDay base → (d : ℕ) (v : Value) → value_since base d ≡ Some v → (day_delta base v ≡ d) × IsSince base v
since_is base fit zero v e = subst (λ (w : Value). (day_delta base w ≡ 0) × IsSince base w) (some_is value.Null v e) (refl, tt)
since_is base fit (suc k) v e =
    let n = base + k in
    let g = let_through (nat_lt 3652059 n) (value.Date n) v e in
    let one : 1 + (base + k - base) ≡ suc k = omega arith in
    let high = not_past n g.0 in
    subst (λ (w : Value). (day_delta base w ≡ suc k) × IsSince base w) g.1 (one, (fit.0, omega arith, high))

since_again : (base : ℕ) (v : Value) → IsSince base v → value_since base (day_delta base v) ≡ Some v
since_again base value.Null fit = refl
since_again base (value.Bool b) fit = absurd fit
since_again base (value.Int n) fit = absurd fit
since_again base (value.Date d) fit =
    let one : 1 + (d - base) ≡ suc (d - base) = omega arith in
    let there : base + (d - base) ≡ d = omega (arith, fit.1) in
    let high : nat_lt 3652059 d ≡ false = not_before d fit.2 in
    ap (value_since base) one ∙ ap day_in_range there ∙ rw high refl
since_again base (value.Text t) fit = absurd fit

day_delta_small : (base : ℕ) (v : Value) → IsSince base v → day_delta base v < 2 ^ 64
day_delta_small base value.Null fit = omega arith
day_delta_small base (value.Bool b) fit = absurd fit
day_delta_small base (value.Int n) fit = absurd fit
day_delta_small base (value.Date d) fit = omega (arith, fit.2)
day_delta_small base (value.Text t) fit = absurd fit

since_codec : (base : ℕ) → FitsDay base → IsCodec (day_delta_spelling base) (IsSince base) (since_at base)
unfolding since_at
since_codec base low = record {
  takes = λ bytes x are e. option_and_then_some (made_since base) (vint_at bytes) x e
      (λ d is h.
      let t = vint_codec.takes bytes d are is in
      let m = map_some (λ (v : Value). (v, d.1)) (value_since base d.0) x h in
      let w = since_is base low d.0 m.0 m.1 in
      subst (λ (y : Value × List ℕ). Takes bytes (day_delta_spelling base y.0) y.1 × IsSince base y.0) m.2 (subst (λ (k : ℕ). Takes bytes (vint k) d.1) (sym w.0) t.0, w.1));
  again = λ v rest fit. rw (vint_codec.again (day_delta base v) rest (day_delta_small base v fit), since_again base v fit) refl;
}

-- ---- the base and the values behind it

record FitsDays (x : ℕ × List Value) : Type 0 where
  pub long : IsFew (length x.1)
  pub base : FitsDay x.0
  pub each : AllByRecursion (IsSince x.0) x.1

abbrev parts_spelling : ℕ × List Value → List ℕ
parts_spelling x = day_deltas x.0 x.1

days_codec : IsCodec parts_spelling FitsDays day_deltas_at
unfolding day_deltas_at
days_codec = record {
  takes = λ bytes x are e. option_and_then_some (λ (n : ℕ × List ℕ). option_and_then (values_since n.0) (day_base_at n.1)) (count_at bytes) x e
      (λ n is h. option_and_then_some (values_since n.0) (day_base_at n.1) x h
      (λ b been g.
      let m = map_some (λ (vs : List Value × List ℕ). ((b.0, vs.0), vs.1)) (many (since_at b.0) n.0 b.1) x g in
      let first = count_codec.takes bytes n are is in
      let second = day_base_codec.takes n.1 b first.0.rest_fits been in
      let third = many_takes (day_delta_spelling b.0) (IsSince b.0) (since_at b.0) (since_codec b.0 second.1) n.0 b.1 m.0 second.0.rest_fits m.1 in
      let two = Takes-then n.1 (be4 b.0) b.1 (flat_map (day_delta_spelling b.0) m.0.0) m.0.1 second.0 third.0 in
      let all = Takes-then bytes (vint n.0) n.1 (be4 b.0 ++ flat_map (day_delta_spelling b.0) m.0.0) m.0.1 first.0 two in
      let fits : FitsDays (b.0, m.0.0) = record { long = subst IsFew (sym third.1) first.1; base = second.1; each = third.2 } in
      subst (λ (y : (ℕ × List Value) × List ℕ). Takes bytes (parts_spelling y.0) y.1 × FitsDays y.0) m.2
      (subst (λ (k : ℕ). Takes bytes (vint k ++ (be4 b.0 ++ flat_map (day_delta_spelling b.0) m.0.0)) m.0.1) (sym third.1) all, fits)));
  again = λ x rest fit.
      ap day_deltas_at (append_assoc (vint (length x.1)) (be4 x.0 ++ flat_map (day_delta_spelling x.0) x.1) rest ∙ ap (λ (r : List ℕ). vint (length x.1) ++ r) (append_assoc (be4 x.0) (flat_map (day_delta_spelling x.0) x.1) rest))
      ∙ rw (count_codec.again (length x.1) (be4 x.0 ++ (flat_map (day_delta_spelling x.0) x.1 ++ rest)) fit.long, day_base_codec.again x.0 (flat_map (day_delta_spelling x.0) x.1 ++ rest) fit.base, many_again (day_delta_spelling x.0) (IsSince x.0) (since_at x.0) (since_codec x.0 fit.base) x.1 rest fit.each) refl;
}

FitsParts : ℕ × List Value → Type 0
FitsParts x = FitsDays x × (is_first x ≡ true)

whole_spelling : ℕ × List Value → List ℕ
whole_spelling x = 5 ∷ parts_spelling x

parts_reader : IsReader whole_spelling FitsParts day_parts
unfolding day_parts FitsParts whole_spelling
parts_reader = tested_reader is_first whole_spelling FitsDays (whole 5 day_deltas_at) (whole_reader 5 parts_spelling FitsDays day_deltas_at days_codec)

-- ---- the values alone

since_spelled : (base : ℕ) (v : Value) → IsSince base v → IsSpelled v
since_spelled base value.Null fit = tt
since_spelled base (value.Bool b) fit = absurd fit
since_spelled base (value.Int n) fit = absurd fit
since_spelled base (value.Date d) fit = (omega (arith, fit.0, fit.1), fit.2)
since_spelled base (value.Text t) fit = absurd fit

since_dated : (base : ℕ) (v : Value) → IsSince base v → IsDated v
since_dated base value.Null fit = tt
since_dated base (value.Bool b) fit = fit
since_dated base (value.Int n) fit = fit
since_dated base (value.Date d) fit = tt
since_dated base (value.Text t) fit = fit

all_so : (base : ℕ) (P : Value → Type 0) → ((v : Value) → IsSince base v → P v) → (vs : List Value) → AllByRecursion (IsSince base) vs → AllByRecursion P vs
all_so base P so [] fit = tt
all_so base P so (v ∷ vs) fit = (so v fit.0, all_so base P so vs fit.1)

there : (x : ℕ × List Value) → FitsParts x → IsDateDelta x.1 × ((day_base x.1, x.1) ≡ x)
unfolding FitsParts
there x fit =
    let same : day_base x.1 ≡ x.0 = eqb-true (day_base x.1) x.0 fit.1 in
    let low : 1 ≤ day_base x.1 = omega (arith, same, fit.0.base.0) in (
      record {
        block = record { some = fit.0.long.some; few = fit.0.long.few; values = All-from_recursion IsSpelled x.1 (all_so x.0 IsSpelled (since_spelled x.0) x.1 fit.0.each) };
        dated = All-from_recursion IsDated x.1 (all_so x.0 IsDated (since_dated x.0) x.1 fit.0.each);
        some = date_there x.1 (from_base (first_day x.1) low);
      },
      ap (λ (b : ℕ). (b, x.1)) same,
    )

back : (vs : List Value) → IsDateDelta vs → FitsParts (day_base vs, vs) × (vs ≡ vs)
unfolding FitsParts
back vs is = ((record { long = record { some = is.block.some; few = is.block.few }; base = day_base_fits vs is; each = since_base vs is }, eq-eqb (day_base vs) (day_base vs) refl), refl)

pub dates_reader : IsReader date_block IsDateDelta dates_of
unfolding whole_spelling
dates_reader = made_reader (λ (x : ℕ × List Value). x.1) (λ (vs : List Value). (day_base vs, vs)) whole_spelling FitsParts IsDateDelta day_parts parts_reader there back

pub dates_one : (vs ws : List Value) → IsDateDelta vs → IsDateDelta ws → date_block vs ≡ date_block ws → vs ≡ ws
dates_one = one_spelled date_block IsDateDelta dates_of dates_reader
