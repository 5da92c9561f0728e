use Rattle.std.proofs.Common.{rules, arith, ◌≡◌, ◌∙◌, ◌+◌, ◌-◌, ◌<◌, ◌++◌, ap}
use Rattle.generated_load.specs.Load.{drawn, generated_line, lines_from, number_after}
use Rattle.generated_load.proofs.Loading.{line_more}
use Rattle.generated_load.proofs.lines.load.Goals as goal

pub loop-i-preserved : goal.loop-i-preserved
loop-i-preserved c =
    let made : c.push_line.new.out.items ≡ c.loop-i.out.items ++ generated_line (c.loop-i.i + 1) (drawn (number_after c.loop-i.x)) = search rules in
    let some : 0 < c.args.lines - c.loop-i.i = omega (arith, c.loop-i-test.true) in
    let fewer : c.args.lines - (c.loop-i.i + 1) ≡ c.args.lines - c.loop-i.i - 1 = omega arith in
    ap (λ n. c.push_line.new.out.items ++ lines_from n (c.loop-i.i + 1 + 1) c.number_after-x.result) fewer
    ∙ ap (λ x. c.push_line.new.out.items ++ lines_from (c.args.lines - c.loop-i.i - 1) (c.loop-i.i + 1 + 1) x) c.number_after-x.ensures
    ∙ line_more c.loop-i.out.items c.push_line.new.out.items (c.args.lines - c.loop-i.i) (c.loop-i.i + 1) c.loop-i.x some made
    ∙ c.loop-i.invariant
