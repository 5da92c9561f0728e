use Rattle.std.proofs.Common.{◌≡◌, ap, ◌∙◌, rules}
use Rattle.std.proofs.lemmas.Result.{on_ok_weaker}
use Rattle.exec_group.specs.Counted.{counts_as}
use Rattle.exec_group.proofs.Counting.{one_counted}
use Rattle.exec_group.proofs.kept.count_at.Goals as goal

pub returns : goal.returns
returns c = on_ok_weaker c.count_many.result (λ e w. ap counts_as e ∙ one_counted c.args.counts.now.items c.args.group w) c.count_many.ensures
