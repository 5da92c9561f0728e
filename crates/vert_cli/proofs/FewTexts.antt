-- A script has no more statement texts than bytes, and one; the generated one is within the limits.
use Rattle.std.proofs.Common.{◌≡◌, ◌≤◌, ◌+◌, ◌==◌, ℕ, zero, suc, Bool, true, false, List, [], ◌∷◌, length, pred, refl, ap, arith}
use Rattle.std.specs.Prelude.{filter}
use Rattle.std.proofs.lemmas.List.{length-map}
use Rattle.sql_words.specs.Texts.{cut, ends_behind, has_token, part_size, spans_to, statement_spans, statement_texts}
use Rattle.generated_load.specs.Load.{generated_script}
use Rattle.vert_cli.specs.Asked.{is_within_limits}
use Rattle.vert_cli.proofs.Limits.{within_limits}

few_ends : (skip at : ℕ) (text : List ℕ) → length (ends_behind skip at text) ≤ length text + 1
few_ends skip at [] = omega arith
few_ends zero at (b ∷ rest) = by (b == 59) refl (few_ends 0 (at + 1) rest) (few_ends (pred (part_size (b ∷ rest))) (at + 1) rest)
  where
    by : (t : Bool) → (b == 59) ≡ t → length (ends_behind 0 (at + 1) rest) ≤ length rest + 1 → length (ends_behind (pred (part_size (b ∷ rest))) (at + 1) rest) ≤ length rest + 1
        → length (ends_behind zero at (b ∷ rest)) ≤ length (b ∷ rest) + 1
    by true is ended going = rw is (omega (arith, ended))
    by false is ended going = rw is (omega (arith, going))
few_ends (suc skip) at (b ∷ rest) = omega (arith, few_ends skip (at + 1) rest)

few_spans : (start : ℕ) (ends : List ℕ) → length (spans_to start ends) ≡ length ends
few_spans start [] = refl
few_spans start (end ∷ more) = ap suc (few_spans (end + 1) more)

few_left : {X : Type 0} (p : X → Bool) (xs : List X) → length (filter p xs) ≤ length xs
few_left p [] = omega arith
few_left p (x ∷ xs) = by (p x) refl (few_left p xs)
  where
    by : (t : Bool) → p x ≡ t → length (filter p xs) ≤ length xs → length (filter p (x ∷ xs)) ≤ length (x ∷ xs)
    by true is few = rw is (omega (arith, few))
    by false is few = rw is (omega (arith, few))

few_texts : (script : List ℕ) → length (statement_texts script) ≤ length script + 1
few_texts script =
    let same = length-map (statement_spans script) (cut script) in
    let left = few_left (has_token script) (spans_to 0 (ends_behind 0 0 script)) in
    let spans = few_spans 0 (ends_behind 0 0 script) in
    let ends = few_ends 0 0 script in
    omega (arith, same, left, spans, ends)

within_where_short : (script : List ℕ) → length script ≤ 4095 → is_within_limits script ≡ true
within_where_short script short = within_limits script (omega (arith, short)) (omega (arith, few_texts script, short))

generated_length : length generated_script ≤ 4095
generated_length = omega arith

pub generated_bytes : length generated_script ≤ 67108864
generated_bytes = omega (arith, generated_length)

pub generated_within : is_within_limits generated_script ≡ true
generated_within = within_where_short generated_script generated_length
