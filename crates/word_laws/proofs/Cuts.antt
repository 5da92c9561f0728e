-- A `;` behind a closed script ends its last statement.
use Rattle.std.proofs.Common.{◌≡◌, ◌≢◌, ℕ, ◌+◌, ◌-◌, ◌<◌, ◌≤◌, List, [], ◌∷◌, ◌++◌, filter, Bool, true, false, if◌then◌else◌, length, drop, slice_index, All, arith, refl, ap, sym, ◌∙◌, subst, append_assoc, append-nil, length-append}
use Rattle.std.proofs.lemmas.List.Elements.{All-head, All-tail}
use Rattle.std.proofs.Math.Seq.{take-append_seam, drop-length}
use Rattle.sql_words.specs.Texts.{cut, part_size, ends_behind, is_nonempty, statement_texts}
use Rattle.sql_words.specs.Words.{tokens_of}
use Rattle.sql_words.specs.WellFormed.{Part, spelling, joined}
use Rattle.sql_words.proofs.Ends.{behind_part}
use Rattle.word_laws.specs.Scripts.{IsWhole, IsBlank, TextsWithTokensStay, EndsCut, LastEndIsFree, BlanksBetweenAreNone, BlanksBeforeAreNone, BlanksBehindAreNone, LastCommentIsNone}
use Rattle.word_laws.proofs.Parts.{ArePartsBefore, parts_before, blanks_before, past_parts, last_line}
use Rattle.word_laws.proofs.Blanks.{blanks_gone, last_gone}
use Rattle.word_laws.proofs.Shifted.{texts_to, kept, first_kept, texts_behind}

-- the front of a script
cut_front : (text after : List ℕ) → cut (text ++ after) (0, 0 + length text) ≡ text
cut_front text after =
    let size : 0 + length text - 0 ≡ length text = omega arith in
    rw size (take-append_seam text after)

-- a text that ends at the end of the script
pub alone : (text : List ℕ) → ends_behind 0 0 text ≡ (0 + length text) ∷ [] → statement_texts text ≡ kept text
alone text ends =
    let whole : cut text (0, 0 + length text) ≡ text = ap (λ (x : List ℕ). cut x (0, 0 + length text)) (sym (append-nil text)) ∙ cut_front text [] in
    ap (λ (xs : List ℕ). texts_to text 0 xs) ends
    ∙ (first_kept text 0 (0 + length text) []
    ∙ (append-nil (kept (cut text (0, 0 + length text)))
    ∙ ap (λ (x : List ℕ). kept x) whole))

-- a text that ends at a `;`
pub before_end : (text rest : List ℕ) → ends_behind 0 0 (text ++ (59 ∷ rest)) ≡ (0 + length text) ∷ ends_behind 0 (0 + length text + 1) rest → statement_texts (text ++ (59 ∷ rest)) ≡ kept text ++ statement_texts rest
before_end text rest ends =
    let script = text ++ (59 ∷ rest) in
    let front = text ++ (59 ∷ []) in
    let is_script : script ≡ front ++ rest = simp append_assoc in
    let place : 0 + length text + 1 ≡ length front = omega (arith, length-append text (59 ∷ [])) in
    let behind : texts_to script (0 + length text + 1) (ends_behind 0 (0 + length text + 1) rest) ≡ statement_texts rest =
    ap (λ (x : List ℕ). texts_to x (0 + length text + 1) (ends_behind 0 (0 + length text + 1) rest)) is_script
    ∙ (ap (λ (n : ℕ). texts_to (front ++ rest) n (ends_behind 0 n rest)) place ∙ texts_behind front rest) in
    ap (λ (xs : List ℕ). texts_to script 0 xs) ends
    ∙ (first_kept script 0 (0 + length text) (ends_behind 0 (0 + length text + 1) rest)
    ∙ (ap (λ (x : List ℕ). kept x ++ texts_to script (0 + length text + 1) (ends_behind 0 (0 + length text + 1) rest)) (cut_front text (59 ∷ rest))
    ∙ ap (λ (xs : List (List ℕ)). kept text ++ xs) behind))

-- a whole text, alone and before a `;`
whole_past : (text after : List ℕ) → IsWhole text → slice_index after 0 ≢ 39 → slice_index after 0 ≢ 45 → ends_behind 0 0 (text ++ after) ≡ ends_behind 0 (0 + length text) after
whole_past text after h no_quote no_dash =
    let P : List ℕ → Type 0 = λ x. ends_behind 0 0 (x ++ after) ≡ ends_behind 0 (0 + length x) after in
    subst P h.spells (past_parts 0 after h.parts (parts_before after h.parts h.are no_quote no_dash))

whole_alone : (text : List ℕ) → IsWhole text → statement_texts text ≡ kept text
whole_alone text h = alone text (ap (λ (x : List ℕ). ends_behind 0 0 x) (sym (append-nil text)) ∙ whole_past text [] h (λ e. cc) (λ e. cc))

whole_before : (text rest : List ℕ) → IsWhole text → statement_texts (text ++ (59 ∷ rest)) ≡ kept text ++ statement_texts rest
whole_before text rest h = before_end text rest (whole_past text (59 ∷ rest) h (λ e. cc) (λ e. cc))

-- a script that is put together of them
joined_before : (texts : List (List ℕ)) (rest : List ℕ) → All IsWhole texts → statement_texts (joined texts ++ (59 ∷ rest)) ≡ statement_texts (joined texts) ++ statement_texts rest
joined_before [] rest h = whole_before [] rest (record { parts = []; are = tt; spells = refl })
joined_before (text ∷ []) rest h =
    let whole = All-head IsWhole text [] h in
    whole_before text rest whole ∙ ap (λ (xs : List (List ℕ)). xs ++ statement_texts rest) (sym (whole_alone text whole))
joined_before (text ∷ (next ∷ more)) rest h =
    let whole = All-head IsWhole text (next ∷ more) h in
    let others = joined (next ∷ more) in
    let apart : (text ++ (59 ∷ others)) ++ (59 ∷ rest) ≡ text ++ (59 ∷ (others ++ (59 ∷ rest))) = append_assoc text (59 ∷ others) (59 ∷ rest) in
    ap (λ (x : List ℕ). statement_texts x) apart
    ∙ (whole_before text (others ++ (59 ∷ rest)) whole
    ∙ (ap (λ (xs : List (List ℕ)). kept text ++ xs) (joined_before (next ∷ more) rest (All-tail IsWhole text (next ∷ more) h))
    ∙ (sym (append_assoc (kept text) (statement_texts others) (statement_texts rest))
    ∙ ap (λ (xs : List (List ℕ)). xs ++ statement_texts rest) (sym (whole_before text others whole)))))

kept_one : (text : List ℕ) (xs : List (List ℕ)) (test : Bool) → (if test then text ∷ [] else []) ++ xs ≡ (if test then text ∷ xs else xs)
kept_one text xs true = refl
kept_one text xs false = refl

pub texts_stay : TextsWithTokensStay
texts_stay [] h = whole_alone [] (record { parts = []; are = tt; spells = refl })
texts_stay (text ∷ []) h = whole_alone text (All-head IsWhole text [] h)
texts_stay (text ∷ (next ∷ more)) h =
    whole_before text (joined (next ∷ more)) (All-head IsWhole text (next ∷ more) h)
    ∙ (ap (λ (xs : List (List ℕ)). kept text ++ xs) (texts_stay (next ∷ more) (All-tail IsWhole text (next ∷ more) h))
    ∙ kept_one text (filter (λ x. is_nonempty (tokens_of x)) (next ∷ more)) (is_nonempty (tokens_of text)))

pub ends_cut : EndsCut
ends_cut script rest h =
    let P : List ℕ → Type 0 = λ x. statement_texts (x ++ (59 ∷ rest)) ≡ statement_texts x ++ statement_texts rest in
    subst P h.joins (joined_before h.texts rest h.whole)

pub last_end : LastEndIsFree
last_end script h = ends_cut script [] h ∙ append-nil (statement_texts script)

-- what has no token
no_text : (text : List ℕ) → tokens_of text ≡ [] → kept text ≡ []
no_text text none = rw none refl

blank_kept : (text : List ℕ) → IsBlank text → kept text ≡ []
blank_kept text h =
    let P : List ℕ → Type 0 = λ x. tokens_of x ≡ [] in
    let gone : tokens_of (spelling h.parts) ≡ [] = ap (λ (x : List ℕ). tokens_of x) (sym (append-nil (spelling h.parts))) ∙ blanks_gone 0 [] h.parts (blanks_before [] h.parts h.are h.none) h.none in
    no_text text (subst P h.spells gone)

blank_whole : (text : List ℕ) → IsBlank text → IsWhole text
blank_whole text h = record { parts = h.parts; are = h.are; spells = h.spells }

pub blanks_first : BlanksBeforeAreNone
blanks_first blank rest h = whole_before blank rest (blank_whole blank h) ∙ ap (λ (xs : List (List ℕ)). xs ++ statement_texts rest) (blank_kept blank h)

pub blanks_between : BlanksBetweenAreNone
blanks_between script blank rest closed h =
    ends_cut script (blank ++ (59 ∷ rest)) closed
    ∙ (ap (λ (xs : List (List ℕ)). statement_texts script ++ xs) (blanks_first blank rest h)
    ∙ sym (ends_cut script rest closed))

pub blanks_last : BlanksBehindAreNone
blanks_last script blank closed h =
    ends_cut script blank closed
    ∙ (ap (λ (xs : List (List ℕ)). statement_texts script ++ xs) (whole_alone blank (blank_whole blank h) ∙ blank_kept blank h)
    ∙ append-nil (statement_texts script))

-- a comment that goes on to the end
last_size : (line : List ℕ) → All (λ b. b ≢ 10) line → part_size (45 ∷ (45 ∷ line)) ≡ length (45 ∷ (45 ∷ line))
unfolding part_size
last_size line h = rw (last_line line h) (omega arith)

-- a part that goes on to the end has no end in it
pub to_the_end : (at : ℕ) (text : List ℕ) → 0 < length text → slice_index text 0 ≢ 59 → part_size text ≡ length text → ends_behind 0 at text ≡ (at + length text) ∷ []
to_the_end at text some other size =
    let P : ℕ → Type 0 = λ n. 0 < n → n ≤ length text → ends_behind 0 at text ≡ ends_behind 0 (at + n) (drop n text) in
    let there : P (part_size text) = λ s w. behind_part at text other s w in
    let here : P (length text) = subst P size there in
    here some (omega arith) ∙ ap (λ (more : List ℕ). ends_behind 0 (at + length text) more) (drop-length text)

comment_alone : (parts : List Part) (line : List ℕ) → ArePartsBefore (45 ∷ (45 ∷ line)) parts → tokens_of (spelling parts ++ (45 ∷ (45 ∷ line))) ≡ [] → All (λ b. b ≢ 10) line → statement_texts (spelling parts ++ (45 ∷ (45 ∷ line))) ≡ []
comment_alone parts line are none h =
    let comment = 45 ∷ (45 ∷ line) in
    let as_long : 0 + length (spelling parts) + length comment ≡ 0 + length (spelling parts ++ comment) = omega (arith, length-append (spelling parts) comment) in
    let ends : ends_behind 0 0 (spelling parts ++ comment) ≡ (0 + length (spelling parts ++ comment)) ∷ [] =
    past_parts 0 comment parts are ∙ (to_the_end (0 + length (spelling parts)) comment (omega arith) (λ e. cc) (last_size line h) ∙ ap (λ (n : ℕ). n ∷ []) as_long) in
    alone (spelling parts ++ comment) ends ∙ no_text (spelling parts ++ comment) none

pub last_comment : LastCommentIsNone
last_comment script blank line closed h are =
    let comment = 45 ∷ (45 ∷ line) in
    let before = blanks_before comment h.parts h.are h.none in
    let none : tokens_of (spelling h.parts ++ comment) ≡ [] = blanks_gone 0 comment h.parts before h.none ∙ last_gone (0 + length (spelling h.parts)) line are in
    let P : List ℕ → Type 0 = λ x. statement_texts (x ++ comment) ≡ [] in
    let gone : P blank = subst P h.spells (comment_alone h.parts line before none are) in
    ends_cut script (blank ++ comment) closed
    ∙ (ap (λ (xs : List (List ℕ)). statement_texts script ++ xs) gone
    ∙ append-nil (statement_texts script))
