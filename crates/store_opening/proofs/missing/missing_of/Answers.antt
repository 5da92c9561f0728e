use Rattle.std.proofs.Common.{rules, arith}
use Rattle.store_opening.proofs.Absent.{all_files, one_file_more, where_none}
use Rattle.store_opening.proofs.missing.missing_of.Goals as goal

pub loop-j-preserved : goal.loop-j-preserved
loop-j-preserved c = one_file_more c.args.names.now c.args.container.now.base c.loop-j.j c.loop-j.invariant (c.is_there.ensures.there (search rules))

pub returns-clause-none : goal.returns-clause-none
returns-clause-none c =
    where_none _ _ c.missing_vector.result (λ vector. all_files c.args.names.now c.args.container.now (λ i lt. c.loop-j.invariant i (omega (arith, lt, c.loop-j-test.false))) vector) c.missing_vector.ensures.none
