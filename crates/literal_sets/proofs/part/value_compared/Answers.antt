use Rattle.std.proofs.lemmas.Result.{IfOk-weaker}
use Rattle.std.proofs.Common.{rules}
use Rattle.literal_sets.proofs.Equal.{equation_of}
use Rattle.literal_sets.proofs.part.value_compared.Goals as goal

pub returns : goal.returns
returns c =
    IfOk-weaker c.value_of.result _ _
    (λ o found. equation_of c.args.cmp c.args.a.now c.args.b.now c.args.column o (search rules) (search rules) found) c.value_of.ensures
