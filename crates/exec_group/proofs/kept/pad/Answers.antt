use Rattle.std.proofs.Common.{◌≡◌, ◌++◌, ◌∷◌, [], ap, ◌∙◌, arith, length, ◌<◌, rules}
use Rattle.exec_group.specs.Accumulators.{accumulated}
use Rattle.exec_group.specs.Columns.{padded}
use Rattle.exec_group.proofs.Together.{pad_more}
use Rattle.exec_group.proofs.kept.pad.Goals as goal

pub loop-kind-preserved : goal.loop-kind-preserved
loop-kind-preserved c =
    let x = accumulated c.args.kind 0 [] in
    let more : c.push.new.self.items ≡ c.loop-kind.list.items ++ x ∷ [] = search rules in
    let left : length c.loop-kind.list.items < c.args.count = search rules in
    ap (padded c.args.count x) more ∙ pad_more c.args.count x c.loop-kind.list.items left ∙ c.loop-kind.invariant
