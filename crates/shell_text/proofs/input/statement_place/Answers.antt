use Rattle.std.proofs.Common.{◌≡◌, ◌+◌, ◌<◌, ℕ, List, length, drop, refl, ap, arith, length-drop}
use Rattle.shell_text.proofs.Cuts.{placed_statement}
use Rattle.shell_text.proofs.input.statement_place.Goals as goal

pub returns-in-Some : goal.returns-in-Some
returns-in-Some c =
    let as_long : length c.behind.result.now ≡ length (drop c.args.start c.args.text.now) = ap (λ (t : List ℕ). length t) c.behind.ensures in
    let found = rw c.in-Some.is at c.in_ok-end.ensures in
    let before : c.in-Some.end < length c.behind.result.now = found.0 in (
      omega (arith, length-drop c.args.start c.args.text.now),
      placed_statement c.args.text.now c.behind.result.now c.args.start c.in-Some.end (c.args.start + c.in-Some.end + 1) c.behind.ensures c.requires before refl found.1,
    )
