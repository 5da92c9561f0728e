use Rattle.std.proofs.Common.{◌∙◌, sym}
use Rattle.wanted_rows.proofs.Counting.{none_standing}
use Rattle.wanted_rows.proofs.needs.has_between.Goals as goal

pub returns-else-is_between : goal.returns-else-is_between
returns-else-is_between c = λ none. none_standing c.args.least c.args.greatest c.args.rows.now (sym c.any_between.ensures ∙ none)
