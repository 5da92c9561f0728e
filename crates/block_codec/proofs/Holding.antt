-- What holds of each word holds of each value.
use Rattle.std.proofs.Common.{◌≡◌, ℕ, ◌<◌, Bool, true, false, List, [], ◌∷◌, length, get_or, refl, inl, inr}
use Rattle.std.specs.List.{All, list_all}
use Rattle.std.proofs.lemmas.Bool.{cases_Bool}
use Rattle.std.proofs.lemmas.List.Elements.{All-head, All-tail}
use Rattle.std.proofs.lemmas.List.Folds.{list_all_at}
use Rattle.col_value.specs.declared.value.Value.{Value}
use Rattle.col_value.specs.declared.value.Value.TheVariants as value
use Rattle.block_codec.specs.Held.{picked}

ok_at : (p : Value → Bool) (words : List Value) (k : ℕ) (d : Value) → k < length words → list_all p words ≡ true → p (get_or words k d) ≡ true
ok_at p words k d lt all =
    elim (cases_Bool (p (get_or words k d))) [
      | inl is ↦ is
      | inr fails ↦
          let none : list_all p words ≡ false = list_all_at p words k d lt fails in
          absurd cc
    ]

pub picked_all : (p : Value → Bool) (words : List Value) (places : List ℕ) → All (λ i. i < length words) places → list_all p words ≡ true → list_all p (picked words places) ≡ true
picked_all p words [] within all = refl
picked_all p words (i ∷ places) within all =
    let here = ok_at p words i value.Null (All-head (λ j. j < length words) i places within) all in
    rw here (picked_all p words places (All-tail (λ j. j < length words) i places within) all)
