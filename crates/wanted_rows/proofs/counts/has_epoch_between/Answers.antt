use Rattle.std.proofs.Common.{rules}
use Rattle.wanted_rows.proofs.Counting.{none_between}
use Rattle.wanted_rows.proofs.counts.has_epoch_between.Goals as goal

pub returns : goal.returns
returns c = λ _. none_between c.args.least c.args.greatest c.args.counts.now.entries (search rules)
