use Rattle.std.proofs.Common.{arith}
use Rattle.del_vector.specs.Spelling.{spelling, IsSpelled}
use Rattle.del_vector.specs.Fronts.{marks_of}
use Rattle.col_bytes.proofs.Whole.{told_found, told_none}
use Rattle.del_vector.proofs.Reading.{marks_reader}
use Rattle.del_vector.proofs.gaps.vector_in.Goals as goal

pub returns-clause-found : goal.returns-clause-found
returns-clause-found c = rw c.told.ensures (told_found (λ v. v.items) spelling IsSpelled marks_of marks_reader c.args.bytes.now c.read_vector.result (λ i. omega (arith, c.type_inv.bytes i)) c.read_vector.ensures.read)

pub returns-clause-none : goal.returns-clause-none
returns-clause-none c = rw c.told.ensures (told_none (λ v. v.items) spelling IsSpelled marks_of marks_reader c.args.bytes.now c.read_vector.result c.read_vector.ensures.read)
