use Rattle.std.proofs.Common.{arith, ◌≡◌, ◌+◌, length, length-drop, subst, sym, List, ap, drop, ℕ}
use Rattle.sql_words.proofs.Counts.{counts_on}
use Rattle.sql_words.proofs.Says.{says_on}
use Rattle.sql_words.proofs.Tokens.{found_on, order_piece, order_wider, all_within}
use Rattle.sql_words.specs.declared.token.Token.{Token}
use Rattle.sql_words.specs.Words.{AreInOrder}
use Rattle.sql_words.proofs.lexer.words.Goals as goal

pub loop-at-preserved : goal.loop-at-preserved
loop-at-preserved c =
    let piece = c.piece_at-piece.result in
    let size_left : length c.behind.result.now + c.loop-at.at ≡ length c.args.text.now =
    let as_long : length c.behind.result.now ≡ length (drop c.loop-at.at c.args.text.now) = ap (λ (x : List ℕ). length x) c.behind.ensures in
    omega (arith, length-drop c.loop-at.at c.args.text.now) in
    let Ordered : List Token → Type 0 = λ tokens. AreInOrder 0 (c.loop-at.at + piece.size) tokens in
    record {
      tokens = found_on c.args.text.now c.behind.result.now c.loop-at.at piece c.loop-at.found.items c.push_placed.new.found.items _ c.behind.ensures c.piece_at-piece.ensures.piece c.piece_at-piece.ensures.some c.piece_at-piece.ensures.within c.in_ok-push_placed.ensures c.loop-at.invariant.tokens;
      place = omega arith;
      order = subst Ordered (sym c.in_ok-push_placed.ensures) (order_piece 0 c.loop-at.at c.loop-at.found.items piece c.loop-at.invariant.order c.piece_at-piece.ensures.some);
      says = says_on c.args.text.now c.behind.result.now c.loop-at.at piece c.loop-at.found.items c.push_placed.new.found.items c.behind.ensures c.piece_at-piece.ensures.piece c.in_ok-push_placed.ensures c.loop-at.invariant.says;
      counts = counts_on c.args.text.now c.behind.result.now c.loop-at.at piece c.loop-at.found.items c.push_placed.new.found.items c.behind.ensures c.piece_at-piece.ensures.piece c.in_ok-push_placed.ensures c.loop-at.invariant.counts;
    }

pub returns-clause-within : goal.returns-clause-within
returns-clause-within c = all_within 0 _ _ (order_wider 0 _ _ _ c.loop-at.invariant.order c.loop-at.invariant.place)

pub returns-clause-order : goal.returns-clause-order
returns-clause-order c = order_wider 0 _ _ _ c.loop-at.invariant.order c.loop-at.invariant.place
