-- Every script is closed, or is so with a quote or a line feed behind it.
use Rattle.std.proofs.Common.{◌≡◌, ◌≢◌, ◌⊎◌, ℕ, zero, suc, ◌≤◌, ◌<◌, ◌==◌, Bool, true, false, List, [], ◌∷◌, ◌++◌, flat_map, length, slice_index, All, IsTrue, IsFalse, inl, inr, arith, refl, ap, sym, ◌∙◌, subst, append_assoc, append-nil, length-append}
use Rattle.std.proofs.lemmas.Bool.Decides.{eqb_tells}
use Rattle.std.proofs.lemmas.List.Elements.{All-head, All-tail, All-cons, All-nil}
use Rattle.sql_words.specs.Bytes.{is_space}
use Rattle.sql_words.specs.WellFormed.{Part, spelled_in_text, spelled, spelling, AreParts, joined}
use Rattle.word_laws.specs.Scripts.{IsWhole, IsClosed, EveryScriptCloses}
use Rattle.word_laws.proofs.Parts.{not_first}

-- a part may stand before these bytes
abbrev Fits : Part → List ℕ → Type 0
Fits (Part.Space b) after = IsTrue (is_space b)
Fits (Part.Comment line) after = All (λ b. b ≢ 10) line
Fits (Part.Text says) after = slice_index after 0 ≢ 39
Fits (Part.Other b) after = IsFalse (is_space b) × (b ≢ 39) × (b ≢ 59) × (b ≡ 45 → slice_index after 0 ≢ 45)

-- what stands before more bytes stands before fewer
front_apart : (d : ℕ) (xs ys : List ℕ) → slice_index [] 0 ≢ d → slice_index (xs ++ ys) 0 ≢ d → slice_index xs 0 ≢ d
front_apart d [] ys none other = none
front_apart d (x ∷ xs) ys none other = other

nil_no_quote : slice_index [] 0 ≢ 39
nil_no_quote e = cc

nil_no_dash : slice_index [] 0 ≢ 45
nil_no_dash e = cc

fits_front : (part : Part) (xs ys : List ℕ) → Fits part (xs ++ ys) → Fits part xs
fits_front (Part.Space b) xs ys h = h
fits_front (Part.Comment line) xs ys h = h
fits_front (Part.Text says) xs ys h = front_apart 39 xs ys nil_no_quote h
fits_front (Part.Other b) xs ys h = (h.0, h.1, h.2, λ e. front_apart 45 xs ys nil_no_dash (h.3 e))

-- one part more before a whole text
parts_more : (part : Part) (parts : List Part) → Fits part (spelling parts) → AreParts parts → AreParts (part ∷ parts)
parts_more (Part.Space b) parts h are = (h, are)
parts_more (Part.Comment line) parts h are = (h, are)
parts_more (Part.Text says) parts h are = (h, are)
parts_more (Part.Other b) parts h are = (h.0, h.1, h.2, h.3, are)

whole_more : (part : Part) (text : List ℕ) → Fits part text → IsWhole text → IsWhole (spelled part ++ text)
whole_more part text fits h =
    let P : List ℕ → Type 0 = λ x. Fits part x in
    record { parts = part ∷ h.parts; are = parts_more part h.parts (subst P (sym h.spells) fits) h.are; spells = ap (λ (x : List ℕ). spelled part ++ x) h.spells }

whole_none : IsWhole []
whole_none = record { parts = []; are = tt; spells = refl }

-- and before a closed script
joined_more : (part : Part) (texts : List (List ℕ)) → Fits part (joined texts) → All IsWhole texts → IsClosed (spelled part ++ joined texts)
joined_more part [] fits h =
    record { texts = (spelled part ++ []) ∷ []; whole = All-cons IsWhole (spelled part ++ []) [] (whole_more part [] fits whole_none) (All-nil IsWhole); joins = refl }
joined_more part (text ∷ []) fits h =
    record { texts = (spelled part ++ text) ∷ []; whole = All-cons IsWhole (spelled part ++ text) [] (whole_more part text fits (All-head IsWhole text [] h)) (All-nil IsWhole); joins = refl }
joined_more part (text ∷ (next ∷ more)) fits h =
    let rest = 59 ∷ joined (next ∷ more) in
    record {
      texts = (spelled part ++ text) ∷ (next ∷ more);
      whole = All-cons IsWhole (spelled part ++ text) (next ∷ more) (whole_more part text (fits_front part text rest fits) (All-head IsWhole text (next ∷ more) h)) (All-tail IsWhole text (next ∷ more) h);
      joins = append_assoc (spelled part) text rest;
    }

closed_more : (part : Part) (script : List ℕ) → Fits part script → IsClosed script → IsClosed (spelled part ++ script)
closed_more part script fits h =
    let P : List ℕ → Type 0 = λ x. Fits part x in
    let Q : List ℕ → Type 0 = λ x. IsClosed (spelled part ++ x) in
    subst Q h.joins (joined_more part h.texts (subst P (sym h.joins) fits) h.whole)

-- a `;` before a closed script
joined_end : (texts : List (List ℕ)) → All IsWhole texts → IsClosed (59 ∷ joined texts)
joined_end [] h = record { texts = [] ∷ ([] ∷ []); whole = All-cons IsWhole [] ([] ∷ []) whole_none (All-cons IsWhole [] [] whole_none (All-nil IsWhole)); joins = refl }
joined_end (text ∷ more) h = record { texts = [] ∷ (text ∷ more); whole = All-cons IsWhole [] (text ∷ more) whole_none h; joins = refl }

closed_end : (script : List ℕ) → IsClosed script → IsClosed (59 ∷ script)
closed_end script h = let Q : List ℕ → Type 0 = λ x. IsClosed (59 ∷ x) in subst Q h.joins (joined_end h.texts h.whole)

closed_none : IsClosed []
closed_none = record { texts = []; whole = All-nil IsWhole; joins = refl }

-- closed, or with one byte behind it
abbrev Closes : List ℕ → Type 0
Closes script = IsClosed script ⊎ (IsClosed (script ++ (39 ∷ [])) ⊎ IsClosed (script ++ (10 ∷ [])))

end_closes : (script : List ℕ) → Closes script → Closes (59 ∷ script)
end_closes script (inl h) = inl (closed_end script h)
end_closes script (inr (inl h)) = inr (inl (closed_end (script ++ (39 ∷ [])) h))
end_closes script (inr (inr h)) = inr (inr (closed_end (script ++ (10 ∷ [])) h))

part_closes : (part : Part) (script : List ℕ) → Fits part script → Fits part (script ++ (39 ∷ [])) → Fits part (script ++ (10 ∷ [])) → Closes script → Closes (spelled part ++ script)
part_closes part script one two three (inl h) = inl (closed_more part script one h)
part_closes part script one two three (inr (inl h)) =
    inr (inl (subst IsClosed (sym (append_assoc (spelled part) script (39 ∷ []))) (closed_more part (script ++ (39 ∷ [])) two h)))
part_closes part script one two three (inr (inr h)) =
    inr (inr (subst IsClosed (sym (append_assoc (spelled part) script (10 ∷ []))) (closed_more part (script ++ (10 ∷ [])) three h)))

-- a part alone
part_alone : (part : Part) → Fits part [] → IsClosed (spelled part)
part_alone part fits = subst IsClosed (append-nil (spelled part)) (closed_more part [] fits closed_none)

-- what stands behind the quote that begins a text: all of it is of the text, or a quote ends it
abbrev SaysAll : List ℕ → Type 0
SaysAll inner = (says : List ℕ) × (inner ≡ flat_map spelled_in_text says)

abbrev SaysFront : List ℕ → Type 0
SaysFront inner = (says : List ℕ) × (rest : List ℕ) × (inner ≡ flat_map spelled_in_text says ++ (39 ∷ rest)) × (slice_index rest 0 ≢ 39)

abbrev Says : List ℕ → Type 0
Says inner = SaysAll inner ⊎ SaysFront inner

says_more : (b : ℕ) (front inner : List ℕ) → spelled_in_text b ≡ front → Says inner → Says (front ++ inner)
says_more b front inner is_front (inl (says, all)) = inl (b ∷ says, ap (λ (x : List ℕ). x ++ inner) (sym is_front) ∙ ap (λ (x : List ℕ). spelled_in_text b ++ x) all)
says_more b front inner is_front (inr (says, rest, all, other)) =
    inr (b ∷ says, rest, ap (λ (x : List ℕ). x ++ inner) (sym is_front) ∙ (ap (λ (x : List ℕ). spelled_in_text b ++ x) all ∙ sym (append_assoc (spelled_in_text b) (flat_map spelled_in_text says) (39 ∷ rest))), other)

twice : (b : ℕ) → (b == 39) ≡ true → spelled_in_text b ≡ 39 ∷ (39 ∷ [])
twice b told = rw told refl

once : (b : ℕ) → (b == 39) ≡ false → spelled_in_text b ≡ b ∷ []
once b told = rw told refl

quote_here : (b : ℕ) (rest : List ℕ) → b ≡ 39 → slice_index rest 0 ≢ 39 → Says (b ∷ rest)
quote_here b rest is other = inr ([], rest, ap (λ (c : ℕ). c ∷ rest) is, other)

quote_twice : (b c : ℕ) (rest : List ℕ) → (b == 39) ≡ true → b ≡ 39 → c ≡ 39 → Says rest → Says (b ∷ (c ∷ rest))
quote_twice b c rest told one two h =
    let same : 39 ∷ (39 ∷ rest) ≡ b ∷ (c ∷ rest) = ap (λ (x : ℕ). x ∷ (39 ∷ rest)) (sym one) ∙ ap (λ (x : ℕ). b ∷ (x ∷ rest)) (sym two) in
    subst Says same (says_more b (39 ∷ (39 ∷ [])) rest (twice b told) h)

says_there : (inner : List ℕ) → Says inner
says_there [] = inl ([], refl)
says_there (b ∷ []) =
    elim (eqb_tells b 39) [
      | inl h ↦ quote_here b [] (h.1) nil_no_quote
      | inr h ↦ says_more b (b ∷ []) [] (once b (h.0)) (inl ([], refl))
    ]
says_there (b ∷ (c ∷ rest)) =
    let pair = says_there rest in
    let one = says_there (c ∷ rest) in
    elim (eqb_tells b 39) [
      | inl h ↦ elim (eqb_tells c 39) [
        | inl k ↦ quote_twice b c rest (h.0) (h.1) (k.1) pair
        | inr k ↦ quote_here b (c ∷ rest) (h.1) (k.1)
      ]
      | inr h ↦ says_more b (b ∷ []) (c ∷ rest) (once b (h.0)) one
    ]

-- what stands behind two dashes: all of it is of the comment, or an LF ends it
abbrev LineFront : List ℕ → Type 0
LineFront text = (line : List ℕ) × (rest : List ℕ) × (text ≡ line ++ (10 ∷ rest)) × All (λ b. b ≢ 10) line

abbrev Line : List ℕ → Type 0
Line text = All (λ b. b ≢ 10) text ⊎ LineFront text

line_more : (b : ℕ) (text : List ℕ) → b ≢ 10 → Line text → Line (b ∷ text)
line_more b text other (inl all) = inl (All-cons (λ b. b ≢ 10) b text other all)
line_more b text other (inr (line, rest, is, all)) = inr (b ∷ line, rest, ap (λ (x : List ℕ). b ∷ x) is, All-cons (λ b. b ≢ 10) b line other all)

line_there : (text : List ℕ) → Line text
line_there [] = inl (All-nil (λ b. b ≢ 10))
line_there (b ∷ text) =
    let more = line_there text in
    elim (eqb_tells b 10) [
      | inl h ↦ inr ([], text, ap (λ (c : ℕ). c ∷ text) (h.1), All-nil (λ b. b ≢ 10))
      | inr h ↦ line_more b text (h.1) more
    ]

-- behind the quote that begins a text
text_closes : (says rest : List ℕ) → slice_index rest 0 ≢ 39 → Closes rest → Closes (spelled (Part.Text says) ++ rest)
text_closes says [] other more = inl (closed_more (Part.Text says) [] nil_no_quote closed_none)
text_closes says (c ∷ rest) other more = part_closes (Part.Text says) (c ∷ rest) other other other more

quote_closes : (inner : List ℕ) → ((x : List ℕ) → length x ≤ length inner → Closes x) → Says inner → Closes (39 ∷ inner)
quote_closes inner shorter (inl (says, all)) =
    let P : List ℕ → Type 0 = λ x. IsClosed (39 ∷ (x ++ (39 ∷ []))) in
    inr (inl (subst P (sym all) (part_alone (Part.Text says) nil_no_quote)))
quote_closes inner shorter (inr (says, rest, all, other)) =
    let P : List ℕ → Type 0 = λ x. Closes (39 ∷ x) in
    let as_long : length inner ≡ length (flat_map spelled_in_text says ++ (39 ∷ rest)) = ap (λ (x : List ℕ). length x) all in
    let there = text_closes says rest other (shorter rest (omega (arith, as_long, length-append (flat_map spelled_in_text says) (39 ∷ rest)))) in
    subst P (sym all) (subst P (append_assoc (flat_map spelled_in_text says) (39 ∷ []) rest) there)

-- behind two dashes
comment_closes : (text : List ℕ) → ((x : List ℕ) → length x ≤ length text → Closes x) → Line text → Closes (45 ∷ (45 ∷ text))
comment_closes text shorter (inl all) = inr (inr (part_alone (Part.Comment text) all))
comment_closes text shorter (inr (line, rest, is, all)) =
    let P : List ℕ → Type 0 = λ x. Closes (45 ∷ (45 ∷ x)) in
    let as_long : length text ≡ length (line ++ (10 ∷ rest)) = ap (λ (x : List ℕ). length x) is in
    let there = part_closes (Part.Comment line) rest all all all (shorter rest (omega (arith, as_long, length-append line (10 ∷ rest)))) in
    subst P (sym is) (subst P (append_assoc line (10 ∷ []) rest) there)

-- behind any other byte
quote_no_dash : slice_index (39 ∷ []) 0 ≢ 45
quote_no_dash e = cc

line_no_dash : slice_index (10 ∷ []) 0 ≢ 45
line_no_dash e = cc

other_closes : (b : ℕ) (rest : List ℕ) → is_space b ≡ false → b ≢ 39 → b ≢ 59 → (b ≡ 45 → slice_index rest 0 ≢ 45) → Closes rest → Closes (b ∷ rest)
other_closes b rest no_space no_quote no_end apart more =
    part_closes (Part.Other b) rest
    (no_space, no_quote, no_end, apart)
    (no_space, no_quote, no_end, λ e. not_first 45 rest (39 ∷ []) (apart e) quote_no_dash)
    (no_space, no_quote, no_end, λ e. not_first 45 rest (10 ∷ []) (apart e) line_no_dash)
    more

dash_closes : (b : ℕ) (rest : List ℕ) → b ≡ 45 → slice_index rest 0 ≡ 45 → ((x : List ℕ) → length x ≤ length rest → Closes x) → Closes (b ∷ rest)
dash_closes b [] one two shorter = absurd (nil_no_dash two)
dash_closes b (c ∷ rest) one two shorter =
    let same : 45 ∷ (45 ∷ rest) ≡ b ∷ (c ∷ rest) = ap (λ (x : ℕ). x ∷ (45 ∷ rest)) (sym one) ∙ ap (λ (x : ℕ). b ∷ (x ∷ rest)) (sym two) in
    subst Closes same (comment_closes rest (λ x within. shorter x (omega (arith, within))) (line_there rest))

no_space_closes : (b : ℕ) (rest : List ℕ) → is_space b ≡ false → b ≢ 59 → ((x : List ℕ) → length x ≤ length rest → Closes x) → Closes (b ∷ rest)
no_space_closes b rest no_space no_end shorter =
    let more : Closes rest = shorter rest (omega arith) in
    elim (eqb_tells b 39) [
      | inl h ↦ subst (λ (c : ℕ). Closes (c ∷ rest)) (sym (h.1)) (quote_closes rest shorter (says_there rest))
      | inr h ↦ elim (eqb_tells b 45) [
        | inl k ↦ elim (eqb_tells (slice_index rest 0) 45) [
          | inl l ↦ dash_closes b rest (k.1) (l.1) shorter
          | inr l ↦ other_closes b rest no_space (h.1) no_end (λ e. l.1) more
        ]
        | inr k ↦ other_closes b rest no_space (h.1) no_end (λ e. absurd (k.1 e)) more
      ]
    ]

byte_closes : (b : ℕ) (rest : List ℕ) (test : Bool) → is_space b ≡ test → b ≢ 59 → ((x : List ℕ) → length x ≤ length rest → Closes x) → Closes (b ∷ rest)
byte_closes b rest true told no_end shorter = part_closes (Part.Space b) rest told told told (shorter rest (omega arith))
byte_closes b rest false told no_end shorter = no_space_closes b rest told no_end shorter

step_closes : (b : ℕ) (rest : List ℕ) → ((x : List ℕ) → length x ≤ length rest → Closes x) → Closes (b ∷ rest)
step_closes b rest shorter =
    elim (eqb_tells b 59) [
      | inl h ↦ subst (λ (c : ℕ). Closes (c ∷ rest)) (sym (h.1)) (end_closes rest (shorter rest (omega arith)))
      | inr h ↦ byte_closes b rest (is_space b) refl (h.1) shorter
    ]

all_close : (count : ℕ) (script : List ℕ) → length script < count → Closes script
all_close zero script below = absurd (omega arith)
all_close (suc count) [] below = inl closed_none
all_close (suc count) (b ∷ rest) below = step_closes b rest (λ x within. all_close count x (omega (arith, within, below)))

pub scripts_close : EveryScriptCloses
scripts_close script = all_close (suc (length script)) script (omega arith)
