use Rattle.std.proofs.Common.{◌≡◌, refl, rules}
use Rattle.del_vector.specs.Spelling.{spelling, IsSpelled}
use Rattle.vector_files.proofs.Bytes.{none_fits, not_both}
use Rattle.vector_files.proofs.reading.vector_in.Goals as goal

pub returns-else-fit-clause-blamed : goal.returns-else-fit-clause-blamed
returns-else-fit-clause-blamed c =
    let spelled : IsSpelled c.in-Ok-Some.vector.marks = search rules in
    let is : c.args.bytes.now ≡ spelling c.in-Ok-Some.vector.marks = search rules in
    let same : c.marks.result.now ≡ c.in-Ok-Some.vector.marks = search rules in (
      refl,
      none_fits c.one_vector.ensures c.args.entry.now c.in-Ok-Some.vector.marks c.marks.result.now c.args.bytes.now spelled is same (λ fits. not_both c.fit.result c.if-fit.false (c.fit.ensures.1 fits)),
    )
