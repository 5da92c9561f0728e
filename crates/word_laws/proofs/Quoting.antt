-- What is written between quotes is read back.
use Rattle.std.proofs.Common.{◌≡◌, ◌≢◌, ℕ, suc, ◌+◌, ◌-◌, ◌<◌, ◌≤◌, nat_eq, true, false, List, [], ◌∷◌, ◌++◌, length, get_or, take, drop, map, inl, inr, Some, arith, refl, ap, sym, ◌∙◌, subst, append-nil, length-append}
use Rattle.std.specs.Str.{IsUtf8, is_utf8}
use Rattle.std.proofs.lemmas.Bool.{and_parts, cases_eq, ne_eqb}
use Rattle.std.proofs.lemmas.Bool.Decides.{eqb_tells}
use Rattle.std.proofs.lemmas.Str.{IsUtf8-append, IsUtf8-nil, IsUtf8-encode, encode_ascii, inside_one, is_utf8-from_IsUtf8}
use Rattle.std.proofs.Math.Utf8.{scalars, encode, encodes}
use Rattle.std.proofs.lemmas.Grind.{flat_map-append}
use Rattle.std.proofs.Math.Seq.{drop-length, take-append_seam}
use Rattle.sql_words.specs.declared.token.Token.{Token}
use Rattle.sql_words.specs.declared.token.TokenKind.{TokenKind}
use Rattle.sql_words.specs.declared.piece.Piece.{Piece}
use Rattle.sql_words.specs.Bytes.{closing_quote, unquoted, unquoted_behind}
use Rattle.sql_words.specs.Symbols.{Symbol, symbol_of}
use Rattle.sql_words.specs.Texts.{cut}
use Rattle.sql_words.specs.Words.{piece_of, placed, tokens_of, tokens_behind}
use Rattle.sql_words.specs.WellFormed.{spelled_in_text}
use Rattle.sql_words.proofs.Says.{says_utf8}
use Rattle.sql_words.proofs.Tokens.{behind_piece}
use Rattle.sql_words.proofs.Utf8.{not_utf8}
use Rattle.word_laws.specs.Quoted.{quoted, in_quotes, QuotedReadsBack, QuotedIsOneToken, QuotedSaysIt, OtherBytesAreBad}
use Rattle.word_laws.proofs.Parts.{closes}

-- one byte is read back, and what stands behind it
byte_back : (b : ℕ) (rest : List ℕ) → unquoted_behind false (spelled_in_text b ++ rest) ≡ b ∷ unquoted_behind false rest
byte_back b rest =
    let P : List ℕ → Type 0 = λ front. unquoted_behind false (front ++ rest) ≡ b ∷ unquoted_behind false rest in
    elim (eqb_tells b 39) [
      | inl h ↦
          let twice : spelled_in_text b ≡ 39 ∷ (39 ∷ []) = rw (h.0) refl in
          let there : P (39 ∷ (39 ∷ [])) = ap (λ (c : ℕ). c ∷ unquoted_behind false rest) (sym (h.1)) in
          subst P (sym twice) there
      | inr h ↦
          let once : spelled_in_text b ≡ b ∷ [] = rw (h.0) refl in
          let there : P (b ∷ []) = rw (h.0) refl in
          subst P (sym once) there
    ]

pub reads_back : QuotedReadsBack
reads_back [] = refl
reads_back (b ∷ says) = byte_back b (quoted says) ∙ ap (λ (xs : List ℕ). b ∷ xs) (reads_back says)

-- bytes that are no quotes stand once
stand_once : (bytes : List ℕ) → ((k : ℕ) → k < length bytes → get_or bytes k 0 ≢ 39) → quoted bytes ≡ bytes
stand_once [] other = refl
stand_once (b ∷ bytes) other =
    let here : b ≢ 39 = other 0 (omega arith) in
    let test : nat_eq b 39 ≡ false = ne_eqb b 39 here in
    let once : spelled_in_text b ≡ b ∷ [] = rw test refl in
    ap (λ (x : List ℕ). x ++ quoted bytes) once ∙ ap (λ (x : List ℕ). b ∷ x) (stand_once bytes (λ k below. other (suc k) (omega arith)))

-- no byte of another character is a quote
no_quote_in : (c : ℕ) → c ≢ 39 → (k : ℕ) → k < length (encode c) → get_or (encode c) k 0 ≢ 39
no_quote_in c other k below quote = other (inside_one c [] (encode c) k (sym (append-nil (encode c))) below (omega arith) ∙ quote)

-- so the bytes between the quotes are UTF-8
quote_utf8 : IsUtf8 (39 ∷ [])
quote_utf8 = subst IsUtf8 (encode_ascii 39 (omega arith)) (IsUtf8-encode 39 refl)

char_utf8 : (c : ℕ) → IsUtf8 (encode c) → IsUtf8 (quoted (encode c))
char_utf8 c whole =
    let P : List ℕ → Type 0 = λ x. IsUtf8 (quoted x) in
    elim (cases_eq c 39) [
      | inl same ↦
          let is_quote : encode c ≡ 39 ∷ [] = ap encode same ∙ encode_ascii 39 (omega arith) in
          subst P (sym is_quote) (IsUtf8-append (39 ∷ []) (39 ∷ []) quote_utf8 quote_utf8)
      | inr other ↦ subst IsUtf8 (sym (stand_once (encode c) (no_quote_in c other))) whole
    ]

chars_utf8 : (cs : List ℕ) → scalars cs ≡ true → IsUtf8 (quoted (encodes cs))
chars_utf8 [] e = IsUtf8-nil
chars_utf8 (c ∷ cs) e =
    let p = and_parts _ _ e in
    subst IsUtf8 (sym (flat_map-append spelled_in_text (encode c) (encodes cs)))
    (IsUtf8-append (quoted (encode c)) (quoted (encodes cs)) (char_utf8 c (IsUtf8-encode c (p.0))) (chars_utf8 cs (p.1)))

quoted_utf8 : (says : List ℕ) → IsUtf8 says → IsUtf8 (quoted says)
quoted_utf8 says h = let P : List ℕ → Type 0 = λ x. IsUtf8 (quoted x) in subst P (h.1.1) (chars_utf8 (h.0) (h.1.0))

-- the text is one piece
quoted_piece : (says : List ℕ) → IsUtf8 says → piece_of (in_quotes says) ≡ record { kind = Some TokenKind.Text; size = length (quoted says) + 2 }
unfolding piece_of
quoted_piece says h =
    let close : closing_quote 0 (quoted says ++ (39 ∷ [])) ≡ Some (length (quoted says)) = closes says [] (λ e. cc) in
    let inner : take (length (quoted says)) (quoted says ++ (39 ∷ [])) ≡ quoted says = take-append_seam (quoted says) (39 ∷ []) in
    let good : is_utf8 (quoted says) ≡ true = is_utf8-from_IsUtf8 (quoted says) (quoted_utf8 says h) in
    rw (close, inner, good) refl

quoted_size : (says : List ℕ) → length (quoted says) + 2 ≡ length (in_quotes says)
quoted_size says = omega (arith, length-append (quoted says) (39 ∷ []))

one_piece : (says : List ℕ) (kind : TokenKind) → piece_of (in_quotes says) ≡ record { kind = Some kind; size = length (in_quotes says) } → tokens_of (in_quotes says) ≡ record { kind = kind; start = 0; end = length (in_quotes says) } ∷ []
one_piece says kind is_piece =
    let text = in_quotes says in
    let P : Piece → Type 0 = λ p. 0 < p.size → p.size ≤ length text → tokens_behind 0 0 text ≡ placed p 0 ++ tokens_behind 0 (0 + p.size) (drop p.size text) in
    let there : P (piece_of text) = λ s w. behind_piece 0 text s w in
    let here : P (record { kind = Some kind; size = length text }) = subst P is_piece there in
    let none : tokens_behind 0 (0 + length text) (drop (length text) text) ≡ [] = ap (λ (more : List ℕ). tokens_behind 0 (0 + length text) more) (drop-length text) in
    let token : ℕ → Token = λ n. record { kind = kind; start = 0; end = n } in
    let e : 0 + length text ≡ length text = omega arith in
    here (omega arith) (omega arith) ∙ (ap (λ (more : List Token). token (0 + length text) ∷ more) none ∙ ap (λ (n : ℕ). token n ∷ []) e)

pub one_token : QuotedIsOneToken
one_token says h =
    let piece : ℕ → Piece = λ n. record { kind = Some TokenKind.Text; size = n } in
    one_piece says TokenKind.Text (quoted_piece says h ∙ ap (λ (n : ℕ). piece n) (quoted_size says))

-- other bytes are none
others_stay : (says : List ℕ) → (IsUtf8 says → ⊥) → IsUtf8 (quoted says) → ⊥
others_stay says other h = other (subst IsUtf8 (reads_back says) (says_utf8 (quoted says) h))

bad_of_quotes : (says : List ℕ) → (IsUtf8 says → ⊥) → piece_of (in_quotes says) ≡ record { kind = Some TokenKind.Bad; size = length (in_quotes says) }
unfolding piece_of
bad_of_quotes says other =
    let close : closing_quote 0 (quoted says ++ (39 ∷ [])) ≡ Some (length (quoted says)) = closes says [] (λ e. cc) in
    let inner : take (length (quoted says)) (quoted says ++ (39 ∷ [])) ≡ quoted says = take-append_seam (quoted says) (39 ∷ []) in
    let bad : is_utf8 (quoted says) ≡ false = sym (not_utf8 (quoted says) (others_stay says other)) in
    rw (close, inner, bad) refl

pub others_bad : OtherBytesAreBad
others_bad says other = one_piece says TokenKind.Bad (bad_of_quotes says other)

inner_cut : (says : List ℕ) → cut (in_quotes says) (0 + 1, length (in_quotes says) - 1) ≡ quoted says
inner_cut says =
    let size : length (in_quotes says) - 1 - (0 + 1) ≡ length (quoted says) = omega (arith, length-append (quoted says) (39 ∷ [])) in
    rw size (take-append_seam (quoted says) (39 ∷ []))

pub says_it : QuotedSaysIt
says_it says h =
    ap (λ (tokens : List Token). map (symbol_of (in_quotes says)) tokens) (one_token says h)
    ∙ ap (λ (x : List ℕ). Symbol.Text x ∷ []) (ap (λ (x : List ℕ). unquoted x) (inner_cut says) ∙ reads_back says)
