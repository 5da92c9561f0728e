use Rattle.std.proofs.Common.{arith, rules, ◌≡◌, ◌+◌, ◌∙◌, sym, ap, List, ℕ, true, false, is_some, length, drop, length-drop}
use Rattle.sql_words.specs.declared.token.Token.{Token}
use Rattle.sql_words.specs.Words.{tokens_behind}
use Rattle.sql_words.specs.Texts.{is_nonempty}
use Rattle.sql_words.proofs.Tokens.{piece_goes, nonempty_piece, no_piece}
use Rattle.sql_words.proofs.script.has_token.Goals as goal

pub returns-then-is_some : goal.returns-then-is_some
returns-then-is_some c =
    let piece = c.piece_at-piece.result in
    let told : is_some piece.kind ≡ true = search rules in
    let goes = piece_goes c.args.text.now c.behind.result.now c.loop-at.at piece c.behind.ensures c.piece_at-piece.ensures.piece c.piece_at-piece.ensures.some c.piece_at-piece.ensures.within in
    sym (nonempty_piece piece c.loop-at.at (tokens_behind 0 (c.loop-at.at + piece.size) (drop (c.loop-at.at + piece.size) c.args.text.now)) told) ∙ (ap (λ (tokens : List Token). is_nonempty tokens) (sym goes) ∙ c.loop-at.invariant.tokens)

pub loop-at-preserved : goal.loop-at-preserved
loop-at-preserved c =
    let piece = c.piece_at-piece.result in
    let told : is_some piece.kind ≡ false = search rules in
    let goes = piece_goes c.args.text.now c.behind.result.now c.loop-at.at piece c.behind.ensures c.piece_at-piece.ensures.piece c.piece_at-piece.ensures.some c.piece_at-piece.ensures.within in
    let as_long : length c.behind.result.now ≡ length (drop c.loop-at.at c.args.text.now) = ap (λ (x : List ℕ). length x) c.behind.ensures in
    record {
      tokens = ap (λ (tokens : List Token). is_nonempty tokens) (sym (goes ∙ no_piece piece c.loop-at.at (tokens_behind 0 (c.loop-at.at + piece.size) (drop (c.loop-at.at + piece.size) c.args.text.now)) told)) ∙ c.loop-at.invariant.tokens;
      place = omega (arith, length-drop c.loop-at.at c.args.text.now);
    }
