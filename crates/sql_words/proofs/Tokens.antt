-- How the tokens of a text go on behind its first piece, and where they stand.
use Rattle.std.proofs.Common.{◌≡◌, ℕ, zero, suc, pred, ◌+◌, ◌≤◌, ◌<◌, List, [], ◌∷◌, ◌++◌, length, drop, arith, refl, ap, sym, ◌∙◌, All, Some, None, Option, append-nil, append_assoc, subst, is_some, true, false}
use Rattle.std.proofs.lemmas.List.{drop-drop}
use Rattle.std.proofs.lemmas.List.Elements.{All-cons}
use Rattle.sql_words.specs.declared.token.Token.{Token}
use Rattle.sql_words.specs.declared.token.TokenKind.{TokenKind}
use Rattle.sql_words.specs.declared.piece.Piece.{Piece}
use Rattle.sql_words.specs.Texts.{is_nonempty}
use Rattle.sql_words.specs.Words.{piece_of, placed, tokens_behind, IsWithin, AreInOrder}

-- the bytes that a piece takes are passed over
pub passed : (skip at : ℕ) (text : List ℕ) → skip ≤ length text → tokens_behind skip at text ≡ tokens_behind 0 (at + skip) (drop skip text)
passed zero at text within = let e : at + 0 ≡ at = omega arith in rw e refl
passed (suc skip) at [] within = refl
passed (suc skip) at (b ∷ rest) within =
    let e : at + suc skip ≡ at + 1 + skip = omega arith in
    rw e (passed skip (at + 1) rest (omega arith))

-- the same for a piece of some bytes, of which the first is there
pub passed_one : (size at : ℕ) (b : ℕ) (rest : List ℕ) → 0 < size → size ≤ length (b ∷ rest) → tokens_behind (pred size) (at + 1) rest ≡ tokens_behind 0 (at + size) (drop size (b ∷ rest))
passed_one zero at b rest some within = absurd (omega arith)
passed_one (suc size) at b rest some within =
    let e : at + suc size ≡ at + 1 + size = omega arith in
    rw e (passed size (at + 1) rest (omega arith))

-- behind a piece the tokens go on
pub behind_piece : (at : ℕ) (text : List ℕ) → 0 < (piece_of text).size → (piece_of text).size ≤ length text → tokens_behind 0 at text ≡ placed (piece_of text) at ++ tokens_behind 0 (at + (piece_of text).size) (drop (piece_of text).size text)
behind_piece at [] some within = absurd (omega arith)
behind_piece at (b ∷ rest) some within =
    ap (λ (more : List Token). placed (piece_of (b ∷ rest)) at ++ more) (passed_one (piece_of (b ∷ rest)).size at b rest some within)

-- the same at a place of a text
pub goes_on : (at : ℕ) (text : List ℕ) → 0 < (piece_of (drop at text)).size → (piece_of (drop at text)).size ≤ length (drop at text) → tokens_behind 0 at (drop at text) ≡ placed (piece_of (drop at text)) at ++ tokens_behind 0 (at + (piece_of (drop at text)).size) (drop (at + (piece_of (drop at text)).size) text)
goes_on at text some within =
    behind_piece at (drop at text) some within
    ∙ ap (λ (rest : List ℕ). placed (piece_of (drop at text)) at ++ tokens_behind 0 (at + (piece_of (drop at text)).size) rest) (drop-drop (piece_of (drop at text)).size at text)

-- tokens in order up to a place are in order up to a later one
pub order_wider : (from to later : ℕ) (tokens : List Token) → AreInOrder from to tokens → to ≤ later → AreInOrder from later tokens
order_wider from to later [] h up = omega arith
order_wider from to later (token ∷ more) h up = (h.0, h.1, order_wider token.end to later more h.2 up)

-- one more behind them
pub order_more : (from to : ℕ) (tokens : List Token) (token : Token) → AreInOrder from to tokens → to ≤ token.start → token.start < token.end → AreInOrder from token.end (tokens ++ token ∷ [])
order_more from to [] token h up some = (omega arith, some, omega arith)
order_more from to (first ∷ more) token h up some = (h.0, h.1, order_more first.end to more token h.2 up some)

-- a piece more behind them
order_kind : (from at : ℕ) (tokens : List Token) (kind : Option TokenKind) (size : ℕ) → AreInOrder from at tokens → 0 < size → AreInOrder from (at + size) (tokens ++ placed (record { kind = kind; size = size }) at)
order_kind from at tokens None size h some = rw append-nil (order_wider from at (at + size) tokens h (omega arith))
order_kind from at tokens (Some k) size h some = order_more from at tokens (record { kind = k; start = at; end = at + size }) h (omega arith) (omega arith)

pub order_piece : (from at : ℕ) (tokens : List Token) (piece : Piece) → AreInOrder from at tokens → 0 < piece.size → AreInOrder from (at + piece.size) (tokens ++ placed piece at)
order_piece from at tokens piece h some = order_kind from at tokens piece.kind piece.size h some

-- tokens in order end before the place up to which they are
pub order_up : (from to : ℕ) (tokens : List Token) → AreInOrder from to tokens → from ≤ to
order_up from to [] h = h
order_up from to (token ∷ more) h = let up : token.end ≤ to = order_up token.end to more h.2 in omega arith

pub all_within : (from to : ℕ) (tokens : List Token) → AreInOrder from to tokens → All (IsWithin to) tokens
all_within from to [] h = λ k d below. absurd (omega arith)
all_within from to (token ∷ more) h =
    All-cons (IsWithin to) token more (h.1, order_up token.end to more h.2) (all_within token.end to more h.2)

-- the same for the piece that a caller was given
pub piece_goes : (text front : List ℕ) (at : ℕ) (piece : Piece) → front ≡ drop at text → piece ≡ piece_of front → 0 < piece.size → piece.size ≤ length front → tokens_behind 0 at (drop at text) ≡ placed piece at ++ tokens_behind 0 (at + piece.size) (drop (at + piece.size) text)
piece_goes text front at piece is_front is_piece some within =
    let same : piece ≡ piece_of (drop at text) = is_piece ∙ ap piece_of is_front in
    let as_long : length front ≡ length (drop at text) = ap (λ (x : List ℕ). length x) is_front in
    let P : Piece → Type 0 = λ p. 0 < p.size → p.size ≤ length front → tokens_behind 0 at (drop at text) ≡ placed p at ++ tokens_behind 0 (at + p.size) (drop (at + p.size) text) in
    let there : P (piece_of (drop at text)) = λ s w. goes_on at text s (omega arith) in
    let here : P piece = subst P (sym same) there in
    here some within

-- one turn of the lexer: the piece at a place is pushed, and what was found stays the front of all tokens
pub found_on : (text front : List ℕ) (at : ℕ) (piece : Piece) (found new all : List Token) → front ≡ drop at text → piece ≡ piece_of front → 0 < piece.size → piece.size ≤ length front → new ≡ found ++ placed piece at → found ++ tokens_behind 0 at (drop at text) ≡ all → new ++ tokens_behind 0 (at + piece.size) (drop (at + piece.size) text) ≡ all
found_on text front at piece found new all is_front is_piece some within is_new so_far =
    let goes : tokens_behind 0 at (drop at text) ≡ placed piece at ++ tokens_behind 0 (at + piece.size) (drop (at + piece.size) text) = piece_goes text front at piece is_front is_piece some within in
    rw is_new (rw append_assoc (ap (λ (more : List Token). found ++ more) (sym goes) ∙ so_far))

-- a token at the front is a token of the text
nonempty_kind : (kind : Option TokenKind) (size at : ℕ) (more : List Token) → is_some kind ≡ true → is_nonempty (placed (record { kind = kind; size = size }) at ++ more) ≡ true
nonempty_kind None size at more told = cc
nonempty_kind (Some k) size at more told = refl

no_kind : (kind : Option TokenKind) (size at : ℕ) (more : List Token) → is_some kind ≡ false → placed (record { kind = kind; size = size }) at ++ more ≡ more
no_kind None size at more told = refl
no_kind (Some k) size at more told = cc

pub nonempty_piece : (piece : Piece) (at : ℕ) (more : List Token) → is_some piece.kind ≡ true → is_nonempty (placed piece at ++ more) ≡ true
nonempty_piece piece at more told = nonempty_kind piece.kind piece.size at more told

-- a space or a comment is none
pub no_piece : (piece : Piece) (at : ℕ) (more : List Token) → is_some piece.kind ≡ false → placed piece at ++ more ≡ more
no_piece piece at more told = no_kind piece.kind piece.size at more told
