-- What stands behind a `;` has the statement texts that it has alone.
use Rattle.std.proofs.Common.{◌≡◌, ℕ, zero, suc, pred, ◌+◌, ◌-◌, ◌==◌, Bool, true, false, if◌then◌else◌, List, [], ◌∷◌, ◌++◌, map, filter, length, arith, refl, ap, sym, ◌∙◌, subst}
use Rattle.std.proofs.Math.Seq.{drop-append-add}
use Rattle.sql_words.specs.Texts.{cut, part_size, ends_behind, spans_to, has_token, is_nonempty, statement_texts}
use Rattle.sql_words.specs.Words.{tokens_of}

-- the texts that the ends of a script from a place on cut out
abbrev pub texts_to : List ℕ → ℕ → List ℕ → List (List ℕ)
texts_to script at ends = map (cut script) (filter (has_token script) (spans_to at ends))

-- a text, where it has a token
abbrev pub kept : List ℕ → List (List ℕ)
kept text = if is_nonempty (tokens_of text) then text ∷ [] else []

chosen : {X Y : Type 0} (f : X → Y) (x : X) (xs : List X) (test : Bool) → map f (if test then x ∷ xs else xs) ≡ (if test then f x ∷ [] else []) ++ map f xs
chosen f x xs true = refl
chosen f x xs false = refl

-- the first end cuts out its text, where it has a token
pub first_kept : (script : List ℕ) (at end : ℕ) (ends : List ℕ) → texts_to script at (end ∷ ends) ≡ kept (cut script (at, end)) ++ texts_to script (end + 1) ends
first_kept script at end ends = chosen (cut script) (at, end) (filter (has_token script) (spans_to (end + 1) ends)) (has_token script (at, end))

-- the same bytes stand behind others
cut_behind : (front script : List ℕ) (a b : ℕ) → cut (front ++ script) (length front + a, length front + b) ≡ cut script (a, b)
cut_behind front script a b =
    let size : length front + b - (length front + a) ≡ b - a = omega arith in
    rw (size, drop-append-add front script a) refl

if_both : {X Y : Type 0} (f : X → Y) (test : Bool) (x y : X) (v w : Y) → v ≡ f x → w ≡ f y → (if test then v else w) ≡ f (if test then x else y)
if_both f true x y v w one two = one
if_both f false x y v w one two = two

-- the ends are as far behind the place as they were
ends_shift : (d skip at : ℕ) (script : List ℕ) → ends_behind skip (d + at) script ≡ map (λ n. d + n) (ends_behind skip at script)
ends_shift d skip at [] = refl
ends_shift d zero at (b ∷ rest) =
    let on : d + at + 1 ≡ d + (at + 1) = omega arith in
    let size = pred (part_size (b ∷ rest)) in
    let there : ends_behind 0 (d + at + 1) rest ≡ map (λ n. d + n) (ends_behind 0 (at + 1) rest) = ap (λ (n : ℕ). ends_behind 0 n rest) on ∙ ends_shift d 0 (at + 1) rest in
    let past : ends_behind size (d + at + 1) rest ≡ map (λ n. d + n) (ends_behind size (at + 1) rest) = ap (λ (n : ℕ). ends_behind size n rest) on ∙ ends_shift d size (at + 1) rest in
    if_both (map (λ n. d + n)) (b == 59) (at ∷ ends_behind 0 (at + 1) rest) (ends_behind size (at + 1) rest) ((d + at) ∷ ends_behind 0 (d + at + 1) rest) (ends_behind size (d + at + 1) rest) (ap (λ (xs : List ℕ). (d + at) ∷ xs) there) past
ends_shift d (suc skip) at (b ∷ rest) =
    let on : d + at + 1 ≡ d + (at + 1) = omega arith in
    ap (λ (n : ℕ). ends_behind skip n rest) on ∙ ends_shift d skip (at + 1) rest

-- and cut out the same texts
texts_shift : (front script : List ℕ) (at : ℕ) (ends : List ℕ) → texts_to (front ++ script) (length front + at) (map (λ n. length front + n) ends) ≡ texts_to script at ends
texts_shift front script at [] = refl
texts_shift front script at (end ∷ ends) =
    let on : length front + end + 1 ≡ length front + (end + 1) = omega arith in
    let shifted = map (λ n. length front + n) ends in
    first_kept (front ++ script) (length front + at) (length front + end) shifted
    ∙ (ap (λ (x : List ℕ). kept x ++ texts_to (front ++ script) (length front + end + 1) shifted) (cut_behind front script at end)
    ∙ (ap (λ (n : ℕ). kept (cut script (at, end)) ++ texts_to (front ++ script) n shifted) on
    ∙ (ap (λ (xs : List (List ℕ)). kept (cut script (at, end)) ++ xs) (texts_shift front script (end + 1) ends)
    ∙ sym (first_kept script at end ends))))

-- so the texts from a place on are those of what stands there
pub texts_behind : (front script : List ℕ) → texts_to (front ++ script) (length front) (ends_behind 0 (length front) script) ≡ statement_texts script
texts_behind front script =
    let P : ℕ → Type 0 = λ n. texts_to (front ++ script) n (ends_behind 0 n script) ≡ statement_texts script in
    let here : length front + 0 ≡ length front = omega arith in
    let there : P (length front + 0) =
    ap (λ (ends : List ℕ). texts_to (front ++ script) (length front + 0) ends) (ends_shift (length front) 0 0 script) ∙ texts_shift front script 0 (ends_behind 0 0 script) in
    subst P here there
