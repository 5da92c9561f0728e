-- What the reading of a whole list of symbols shows.
use Rattle.std.proofs.Common.{◌≡◌, ℕ, ◌+◌, ◌<◌, ◌≤◌, List, [], ◌∷◌, length, arith, ap, sym, ◌∙◌}
use Rattle.std.proofs.lemmas.List.{length-map}
use Rattle.sql_words.specs.declared.token.Token.{Token}
use Rattle.sql_phrases.specs.Gives.{seen}
use Rattle.sql_words.specs.Symbols.{Symbol, symbol_of}
use Rattle.sql_tree.specs.declared.statement.Statement.{Statement}
use Rattle.sql_tree.specs.Phrases.{IsPlace}
use Rattle.sql_tree.specs.Spells.{Spells}
use Rattle.sql_phrases.specs.Readings.{Read}
use Rattle.sql_phrases.specs.Classes.{in_set}
use Rattle.sql_phrases.specs.Readers.{reads}
use Rattle.sql_phrases.proofs.Placing.{placed_stopped, placed_rest, found_whole, took_left, stopped_left}
use Rattle.sql_phrases.proofs.GoodStatements.{good_reads}
use Rattle.sql_phrases.proofs.Sets.{query_more}

pub spelled_whole : (ts rest : List Symbol) (s : Statement) → reads ts ≡ Read.Took s rest → length rest ≡ 0 → Spells ts s
spelled_whole ts [] s e h = found_whole Spells reads good_reads.judge ts s e
spelled_whole ts (t ∷ rest) s e h = absurd (omega arith)

pub place_behind : (ts rest : List Symbol) (s : Statement) (place : ℕ) → reads ts ≡ Read.Took s rest → 0 < length rest → place + length rest ≡ length ts + 1 → IsPlace Spells ts place
place_behind ts rest s place e left count = placed_rest Spells (in_set query_more) reads good_reads.judge good_reads.again ts s rest place e left count

pub place_stopped : (ts rest : List Symbol) (place : ℕ) → reads ts ≡ Read.Stopped rest → place + length rest ≡ length ts + 1 → IsPlace Spells ts place
place_stopped ts rest place e count = placed_stopped Spells (in_set query_more) reads good_reads.judge good_reads.again ts rest place e count

pub left_behind : (ts rest : List Symbol) (s : Statement) → reads ts ≡ Read.Took s rest → length rest ≤ length ts
left_behind ts rest s e = took_left Spells reads good_reads.judge ts s rest e

pub left_stopped : (ts rest : List Symbol) → reads ts ≡ Read.Stopped rest → length rest ≤ length ts
left_stopped ts rest e = stopped_left Spells reads good_reads.judge ts rest e

-- the same, for the tokens of a text: n tokens are left

pub found_at : (text : List ℕ) (tokens : List Token) (ts rest : List Symbol) (s : Statement) (n : ℕ) → ts ≡ seen text tokens → reads ts ≡ Read.Took s rest → n ≡ length rest → n ≡ 0 → Spells (seen text tokens) s
found_at text tokens ts rest s n same e count none = spelled_whole (seen text tokens) rest s (ap reads (sym same) ∙ e) (sym count ∙ none)

pub left_at : (text : List ℕ) (tokens : List Token) (ts rest : List Symbol) (s : Statement) (n : ℕ) → ts ≡ seen text tokens → reads ts ≡ Read.Took s rest → n ≡ length rest → n ≤ length tokens
left_at text tokens ts rest s n same e count =
    let h = left_behind ts rest s e in
    let g : length ts ≡ length tokens = ap length same ∙ length-map tokens (symbol_of text) in
    omega arith

pub stopped_at : (text : List ℕ) (tokens : List Token) (ts rest : List Symbol) (n : ℕ) → ts ≡ seen text tokens → reads ts ≡ Read.Stopped rest → n ≡ length rest → n ≤ length tokens
stopped_at text tokens ts rest n same e count =
    let h = left_stopped ts rest e in
    let g : length ts ≡ length tokens = ap length same ∙ length-map tokens (symbol_of text) in
    omega arith

pub behind_at : (text : List ℕ) (tokens : List Token) (ts rest : List Symbol) (s : Statement) (m n place : ℕ) → ts ≡ seen text tokens → reads ts ≡ Read.Took s rest → m ≡ length rest → (m ≡ 0 → ⊥) → n ≡ length rest → place + n ≡ length tokens + 1 → IsPlace Spells (seen text tokens) place
behind_at text tokens ts rest s m n place same e some more count sum =
    let g : length (seen text tokens) ≡ length tokens = length-map tokens (symbol_of text) in
    let left : 0 < length rest = omega arith in
    let total : place + length rest ≡ length (seen text tokens) + 1 = omega arith in
    place_behind (seen text tokens) rest s place (ap reads (sym same) ∙ e) left total

pub wrong_at : (text : List ℕ) (tokens : List Token) (ts rest : List Symbol) (n place : ℕ) → ts ≡ seen text tokens → reads ts ≡ Read.Stopped rest → n ≡ length rest → place + n ≡ length tokens + 1 → IsPlace Spells (seen text tokens) place
wrong_at text tokens ts rest n place same e count sum =
    let g : length (seen text tokens) ≡ length tokens = length-map tokens (symbol_of text) in
    let total : place + length rest ≡ length (seen text tokens) + 1 = omega arith in
    place_stopped (seen text tokens) rest place (ap reads (sym same) ∙ e) total
