use Rattle.std.proofs.Common.{arith, rules}
use Rattle.catalog_bytes.specs.Spelling.{Spells}
use Rattle.catalog_root.proofs.Bodies.{other_next}
use Rattle.catalog_root.proofs.opening.catalogue_in.Goals as goal

pub returns-else-version-c-clause-blamed : goal.returns-else-version-c-clause-blamed
returns-else-version-c-clause-blamed c =
    let is : Spells c.args.bytes.now c.in-Ok-Some.c = search rules in
    (c.body_of.ensures, other_next c.args.version c.args.bytes.now c.in-Ok-Some.c is (λ lt. omega (arith, c.if-version-c.false, lt)))
