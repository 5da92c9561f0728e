-- A word's keyword stands among the reserved words that begin with its first letter.
use Rattle.std.proofs.Common.{◌≡◌, inl, inr, ℕ, zero, suc, min, ◌+◌, ◌-◌, ◌<◌, ◌≤◌, ◌&&◌, Bool, true, false, not, List, [], ◌∷◌, map, take, drop, get_or, slice_index, Option, Some, None, refl, sym, ap, ◌∙◌, arith, find, option_map}
use Rattle.std.specs.List.{list_all}
use Rattle.std.specs.Option.{option_or}
use Rattle.std.specs.Char.{to_ascii_lowercase}
use Rattle.std.specs.Str.{str_eq_ignore_ascii_case, str_to_ascii_lowercase}
use Rattle.std.proofs.Math.Dec.{eqb, leb}
use Rattle.std.proofs.lemmas.Bool.{and_parts, leb-true, eq-eqb, cases_eq}
use Rattle.std.proofs.lemmas.List.{take-append-drop, take-map, drop-map}
use Rattle.std.proofs.lemmas.List.Folds.{find-append}
use Rattle.std.proofs.lemmas.Slice.Eq.{bytes_eq-Decides}
use Rattle.sql_words.specs.declared.token.Key.{Key}
use Rattle.sql_words.specs.Bytes.{letter_of}
use Rattle.sql_words.specs.declared.reserved.TheConstants.{STARTS}
use Rattle.sql_words.specs.Reserved.{reserved_words}
use Rattle.sql_words.specs.Words.{key_in, key_of}

abbrev start : ℕ → ℕ
start n = get_or STARTS n 0

-- an entry begins with another letter
abbrev is_apart : ℕ → (List ℕ × Key) → Bool
is_apart n e = not (eqb (letter_of e.0) n)

-- all words of a letter stand between its two places: those before and those behind are apart
abbrev before : ℕ → Bool
before n = list_all (is_apart n) (take (start n) reserved_words)

abbrev behind : ℕ → Bool
behind n = list_all (is_apart n) (drop (start (n + 1) - start n) (drop (start n) reserved_words))

abbrev is_placed : ℕ → Bool
is_placed n = before n && (behind n && (leb (start n) (start (n + 1)) && leb (start (n + 1)) 73))

abbrev all_below : ℕ → (ℕ → Bool) → Bool
all_below zero p = true
all_below (suc n) p = p n && all_below n p

all_placed : all_below 27 is_placed ≡ true
all_placed = refl

one_below : (k : ℕ) (p : ℕ → Bool) → all_below k p ≡ true → (n : ℕ) → n < k → p n ≡ true
one_below zero p all n below = absurd (omega arith)
one_below (suc k) p all n below =
    let parts = and_parts (p k) (all_below k p) all in
    elim (cases_eq n k) [
      | inl same ↦ ap p same ∙ parts.0
      | inr other ↦ one_below k p parts.1 n (omega (arith, other))
    ]

placed : (n : ℕ) → n ≤ 26 → is_placed n ≡ true
placed n below = one_below 27 is_placed all_placed n (omega arith)

starts_fit : (n : ℕ) → n ≤ 26 → (leb (start n) (start (n + 1)) ≡ true) × (leb (start (n + 1)) 73 ≡ true)
starts_fit n below =
    let fits = leb (start n) (start (n + 1)) && leb (start (n + 1)) 73 in
    and_parts (leb (start n) (start (n + 1))) (leb (start (n + 1)) 73) (and_parts (behind n) fits (and_parts (before n) (behind n && fits) (placed n below)).1).1

pub starts_in_order : (n : ℕ) → n ≤ 26 → start n ≤ start (n + 1)
starts_in_order n below = leb-true (start n) (start (n + 1)) (starts_fit n below).0

pub starts_within : (n : ℕ) → n ≤ 26 → start (n + 1) ≤ 73
starts_within n below = leb-true (start (n + 1)) 73 (starts_fit n below).1

-- words that are the same but for case begin with the same letter
first_lowered : (word : List ℕ) → to_ascii_lowercase (slice_index word 0) ≡ slice_index (str_to_ascii_lowercase word) 0
first_lowered [] = refl
first_lowered (b ∷ word) = refl

same_letter : (a b : List ℕ) → str_eq_ignore_ascii_case a b ≡ true → letter_of a ≡ letter_of b
same_letter a b told =
    let same : str_to_ascii_lowercase a ≡ str_to_ascii_lowercase b = (bytes_eq-Decides (str_to_ascii_lowercase a) (str_to_ascii_lowercase b)).0 told in
    let first : to_ascii_lowercase (slice_index a 0) ≡ to_ascii_lowercase (slice_index b 0) =
    first_lowered a ∙ (ap (λ (x : List ℕ). slice_index x 0) same ∙ sym (first_lowered b)) in
    ap (λ (x : ℕ). min (x - 97) 26) first

-- so a word is none of those that begin with another
apart_told : (n : ℕ) (e : List ℕ × Key) (word : List ℕ) → letter_of word ≡ n → is_apart n e ≡ true → (test : Bool) → str_eq_ignore_ascii_case e.0 word ≡ test → test ≡ false
apart_told n e word is_n apart true told =
    let same : eqb (letter_of e.0) n ≡ true = eq-eqb (letter_of e.0) n (same_letter e.0 word told ∙ is_n) in
    cc
apart_told n e word is_n apart false told = refl

none_apart : (n : ℕ) (table : List (List ℕ × Key)) (word : List ℕ) → letter_of word ≡ n → list_all (is_apart n) table ≡ true → find (λ e. str_eq_ignore_ascii_case e.0 word) table ≡ None
none_apart n [] word is_n apart = refl
none_apart n (e ∷ table) word is_n apart =
    let parts = and_parts (is_apart n e) (list_all (is_apart n) table) apart in
    let no : str_eq_ignore_ascii_case e.0 word ≡ false = apart_told n e word is_n parts.0 (str_eq_ignore_ascii_case e.0 word) refl in
    rw no (none_apart n table word is_n parts.1)

or_none : {X : Type 0} (x : Option X) → option_or x None ≡ x
or_none None = refl
or_none (Some x) = refl

-- what is found among all words is found among those of the word's letter
found_there : (n : ℕ) (word : List ℕ) → letter_of word ≡ n → n ≤ 26 → find (λ e. str_eq_ignore_ascii_case e.0 word) (take (start (n + 1) - start n) (drop (start n) reserved_words)) ≡ find (λ e. str_eq_ignore_ascii_case e.0 word) reserved_words
found_there n word is_n below =
    let parts = and_parts _ _ (placed n below) in
    let test : (List ℕ × Key) → Bool = λ e. str_eq_ignore_ascii_case e.0 word in
    let front = take (start n) reserved_words in
    let rest = drop (start n) reserved_words in
    let size = start (n + 1) - start n in
    let no_front : find test front ≡ None = none_apart n front word is_n parts.0 in
    let no_back : find test (drop size rest) ≡ None = none_apart n (drop size rest) word is_n (and_parts _ _ parts.1).0 in
    let in_rest : find test reserved_words ≡ find test rest =
    ap (find test) (sym (take-append-drop (start n) reserved_words)) ∙ (find-append test front rest ∙ ap (λ (x : Option (List ℕ × Key)). option_or x (find test rest)) no_front) in
    let in_part : find test rest ≡ find test (take size rest) =
    ap (find test) (sym (take-append-drop size rest)) ∙ (find-append test (take size rest) (drop size rest) ∙ (ap (λ (x : Option (List ℕ × Key)). option_or (find test (take size rest)) x) no_back ∙ or_none (find test (take size rest)))) in
    sym (in_rest ∙ in_part)

-- so the keyword is found in the part of the table between the letter's places
pub key_there : {E : Type 0} (entry : E → List ℕ × Key) (table : List E) (word : List ℕ) (places : ℕ × ℕ) (letter : ℕ) → map entry table ≡ reserved_words → letter ≤ 26 → letter ≡ letter_of word → places ≡ (start letter, start (letter + 1)) → key_in (map entry (take (places.1 - places.0) (drop places.0 table))) word ≡ key_of word
unfolding key_of key_in
key_there entry table word places letter is_table below is_letter are_places =
    let from = start letter in
    let size = start (letter + 1) - start letter in
    let shape : map entry (take size (drop from table)) ≡ take size (drop from reserved_words) =
    sym (take-map entry size (drop from table)) ∙ ap (take size) (sym (drop-map entry from table) ∙ ap (drop from) is_table) in
    rw (are_places, shape) (ap (option_map (λ e. e.1)) (found_there letter word (sym is_letter) below))
