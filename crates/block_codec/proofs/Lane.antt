-- Values for which no lane stands.
use Rattle.std.proofs.Common.{◌≡◌, ℕ, ◌<◌, ℤ, pos, List, length, map, get_or, sym, ap, ◌∙◌, arith}
use Rattle.std.proofs.lemmas.List.{get_or-map, length-map}
use Rattle.col_value.specs.declared.value.Value.{Value}
use Rattle.block_codec.specs.Held.{number_value}

-- where no number stands for a value, no numbers stand for all
pub no_lane : (vs : List Value) (i : ℕ) (v : Value) → i < length vs → v ≡ get_or vs i v → ((n : ℤ) → number_value n ≡ v → ⊥) → (ns : List ℤ) → map number_value ns ≡ vs → ⊥
no_lane vs i v lt is none ns e =
    let long : length vs ≡ length ns = ap length (sym e) ∙ length-map ns number_value in
    none (get_or ns i (pos 0)) (sym (get_or-map number_value ns i (pos 0) v (omega (arith, lt, long))) ∙ ap (λ (xs : List Value). get_or xs i v) e ∙ sym is)
