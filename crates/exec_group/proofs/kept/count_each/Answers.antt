use Rattle.std.proofs.Common.{◌≡◌, ap, ◌∙◌, rules}
use Rattle.std.proofs.lemmas.Result.{on_ok_weaker}
use Rattle.exec_group.specs.Counted.{counts_as}
use Rattle.exec_group.proofs.Counting.{each_counted}
use Rattle.exec_group.proofs.kept.count_each.Goals as goal

pub returns : goal.returns
returns c = on_ok_weaker c.count_runs.result (λ e f places long. ap counts_as e ∙ each_counted f c.args.groups.now places c.args.counts.now.items long) c.count_runs.ensures
