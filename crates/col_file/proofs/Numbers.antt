-- What holds of the values of all numbers of a lane holds of all values of its block.
use Rattle.std.proofs.Common.{◌≡◌, ◌∙◌, ◌+◌, ◌<◌, ℕ, suc, ℤ, pos, Bool, true, false, List, ◌∷◌, length, get_or, drop, drop-cons, map, ap, sym, arith}
use Rattle.std.specs.Prelude.{◌&&◌}
use Rattle.std.specs.List.{list_all}
use Rattle.std.proofs.lemmas.List.Folds.{list_all-map}
use Rattle.block_codec.specs.Held.{number_value}
use Rattle.col_value.specs.declared.value.Value.{Value}
use Rattle.col_file.specs.Read.{is_between}
use Rattle.pos_index.specs.declared.index.Entry.{Entry}

pub of_values : (e : Entry) (ns : List ℤ) (vs : List Value) → map number_value ns ≡ vs → list_all (λ n. is_between e (number_value n)) ns ≡ list_all (is_between e) vs
of_values e ns vs are = sym (list_all-map (is_between e) number_value ns) ∙ ap (list_all (is_between e)) are

from_here : (p : ℤ → Bool) (ns : List ℤ) (i : ℕ) → i < length ns → list_all p (drop i ns) ≡ (p (get_or ns i (pos 0)) && list_all p (drop (i + 1) ns))
from_here p ns i lt =
    let one : suc i ≡ i + 1 = omega arith in
    ap (list_all p) (drop-cons ns i (pos 0) lt ∙ ap (λ (k : ℕ). get_or ns i (pos 0) ∷ drop k ns) one)

pub fails_here : (p : ℤ → Bool) (ns : List ℤ) (i : ℕ) → i < length ns → p (get_or ns i (pos 0)) ≡ false → list_all p (drop i ns) ≡ false
fails_here p ns i lt fails = from_here p ns i lt ∙ ap (λ (b : Bool). b && list_all p (drop (i + 1) ns)) fails

pub holds_here : (p : ℤ → Bool) (ns : List ℤ) (i : ℕ) → i < length ns → p (get_or ns i (pos 0)) ≡ true → list_all p (drop i ns) ≡ list_all p (drop (i + 1) ns)
holds_here p ns i lt holds = from_here p ns i lt ∙ ap (λ (b : Bool). b && list_all p (drop (i + 1) ns)) holds
