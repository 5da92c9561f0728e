use Rattle.std.proofs.Common.{◌≡◌, ◌∙◌, ℤ, pos, false, true, FitsSigned, get_or, rules, sym, subst, w64}
use Rattle.std.proofs.lemmas.Int.{to_z-of_z}
use Rattle.block_codec.specs.Held.{number_value}
use Rattle.col_file.specs.Read.{is_between}
use Rattle.col_file.proofs.Numbers.{fails_here, holds_here}
use Rattle.col_file.proofs.checks.are_numbers_within.Goals as goal

pub returns-then-not-is_within : goal.returns-then-not-is_within
returns-then-not-is_within c =
    let n = get_or c.args.numbers.now c.loop-n.n-index (pos 0) in
    let fits : FitsSigned w64 n = search rules in
    let one : is_between c.args.entry.now (number_value n) ≡ false =
    subst (λ (m : ℤ). is_between c.args.entry.now (number_value m) ≡ false) (to_z-of_z w64 n fits) (sym c.is_within.ensures ∙ c.if-not-is_within.true) in
    sym (fails_here (λ m. is_between c.args.entry.now (number_value m)) c.args.numbers.now c.loop-n.n-index c.loop-n-test.true one) ∙ c.loop-n.invariant

pub loop-n-preserved : goal.loop-n-preserved
loop-n-preserved c =
    let n = get_or c.args.numbers.now c.loop-n.n-index (pos 0) in
    let fits : FitsSigned w64 n = search rules in
    let one : is_between c.args.entry.now (number_value n) ≡ true =
    subst (λ (m : ℤ). is_between c.args.entry.now (number_value m) ≡ true) (to_z-of_z w64 n fits) (sym c.is_within.ensures ∙ c.if-not-is_within.false) in
    sym (holds_here (λ m. is_between c.args.entry.now (number_value m)) c.args.numbers.now c.loop-n.n-index c.loop-n-test.true one) ∙ c.loop-n.invariant
