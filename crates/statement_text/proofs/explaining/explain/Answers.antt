use Rattle.std.proofs.Common.{map, rules}
use Rattle.statement_text.specs.Explained.{shapes_of}
use Rattle.statement_text.proofs.Scans.{explained}
use Rattle.statement_text.proofs.explaining.explain.Goals as goal

pub returns : goal.returns
returns c = λ state tree shapes. explained state c.args.query.now c.args.bound.now (map shapes_of c.args.tables.now) _ tree shapes (search rules)
