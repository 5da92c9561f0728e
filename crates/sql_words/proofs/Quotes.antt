-- How the search for the quote that ends a text goes on.
use Rattle.std.proofs.Common.{◌≡◌, ◌≢◌, ℕ, suc, ◌+◌, ◌<◌, List, [], ◌∷◌, length, get_or, drop, add-one, drop-cons, arith, refl, true, false, Bool, ◌&&◌, ◌++◌, ◌==◌, append_assoc}
use Rattle.std.proofs.lemmas.Bool.Decides.{nat_tests}
use Rattle.sql_words.specs.Bytes.{closing_quote, unquoted_behind}

-- past a byte that is no quote
pub past_byte : (at b : ℕ) (rest : List ℕ) → b ≢ 39 → closing_quote at (b ∷ rest) ≡ closing_quote (at + 1) rest
past_byte at b [] other = grind (arith, nat_tests)
past_byte at b (c ∷ rest) other = grind (arith, nat_tests)

-- past a quote that stands twice
pub past_twin : (at b c : ℕ) (rest : List ℕ) → b ≡ 39 → c ≡ 39 → closing_quote at (b ∷ (c ∷ rest)) ≡ closing_quote (at + 2) rest
past_twin at b c rest p q = grind (arith, nat_tests)

pub past_byte_at : (text : List ℕ) (at : ℕ) → at < length text → get_or text at 0 ≢ 39 → closing_quote at (drop at text) ≡ closing_quote (at + 1) (drop (at + 1) text)
past_byte_at text at within other =
    let here : drop at text ≡ get_or text at 0 ∷ drop (suc at) text = drop-cons text at 0 within in
    let step : closing_quote at (get_or text at 0 ∷ drop (suc at) text) ≡ closing_quote (at + 1) (drop (suc at) text) = past_byte at (get_or text at 0) (drop (suc at) text) other in
    let one_on : at + 1 ≡ suc at = omega arith in
    cc

pub past_twin_at : (text : List ℕ) (at : ℕ) → at + 1 < length text → get_or text at 0 ≡ 39 → get_or text (at + 1) 0 ≡ 39 → closing_quote at (drop at text) ≡ closing_quote (at + 2) (drop (at + 2) text)
past_twin_at text at within one two =
    let here : drop at text ≡ get_or text at 0 ∷ drop (suc at) text = drop-cons text at 0 (omega arith) in
    let next : drop (suc at) text ≡ get_or text (suc at) 0 ∷ drop (suc (suc at)) text = drop-cons text (suc at) 0 (omega arith) in
    let step : closing_quote at (get_or text at 0 ∷ (get_or text (suc at) 0 ∷ drop (suc (suc at)) text)) ≡ closing_quote (at + 2) (drop (suc (suc at)) text) =
    past_twin at (get_or text at 0) (get_or text (suc at) 0) (drop (suc (suc at)) text) one (cc (add-one at)) in
    let two_on : at + 2 ≡ suc (suc at) = omega arith in
    cc

-- what a text says goes on behind a quote's twin
pub twin_on : (inner : List ℕ) (twin : Bool) (i : ℕ) → i < length inner → (twin && (get_or inner i 0 == 39)) ≡ true → unquoted_behind twin (drop i inner) ≡ unquoted_behind false (drop (i + 1) inner)
twin_on inner twin i within second = rw (drop-cons inner i 0, add-one, second) refl

-- and behind any other byte
pub byte_on : (inner said : List ℕ) (twin : Bool) (i : ℕ) → i < length inner → (twin && (get_or inner i 0 == 39)) ≡ false → said ++ unquoted_behind twin (drop i inner) ≡ (said ++ get_or inner i 0 ∷ []) ++ unquoted_behind (get_or inner i 0 == 39) (drop (i + 1) inner)
byte_on inner said twin i within other = rw (drop-cons inner i 0, add-one, append_assoc, other) refl
