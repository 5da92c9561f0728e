use Rattle.col_file.proofs.Days.{from_least, before_least}
use Rattle.col_file.proofs.checks.is_day_within.Goals as goal

pub returns-then-least-d : goal.returns-then-least-d
returns-then-least-d c = from_least c.args.entry.now c.args.least c.args.greatest c.args.d c.requires.least c.requires.greatest c.if-least-d.true

pub returns-else-least-d : goal.returns-else-least-d
returns-else-least-d c = before_least c.args.entry.now c.args.least c.args.greatest c.args.d c.requires.least c.requires.greatest c.if-least-d.false
