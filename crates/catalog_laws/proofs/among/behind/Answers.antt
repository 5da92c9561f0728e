use Rattle.std.proofs.Common.{rules}
use Rattle.catalog_laws.proofs.Stays.{found_among}
use Rattle.catalog_laws.proofs.among.behind.Goals as goal

pub returns-then-keeps_vector : goal.returns-then-keeps_vector
returns-then-keeps_vector c = found_among c.args.first c.args.olds.now c.from_files.result.now c.args.k.now c.from_files.ensures c.in-len1-up.len_at_least (search rules)
