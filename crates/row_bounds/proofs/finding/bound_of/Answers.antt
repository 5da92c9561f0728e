use Rattle.std.proofs.lemmas.Result.{IfOk-weaker}
use Rattle.row_bounds.proofs.Comparisons.{column_lies, turned_lies}
use Rattle.row_bounds.proofs.finding.bound_of.Goals as goal

pub returns-in-Some-clause-lies : goal.returns-in-Some-clause-lies
returns-in-Some-clause-lies c =
    IfOk-weaker c.bound_to.result _ _ (λ o set. column_lies c.args.cmp c.args.a.now c.args.b.now c.in-Some.column o c.in-Some.ensures.worth set) c.bound_to.ensures.lies

pub returns-in-Some-column_of-clause-lies : goal.returns-in-Some-column_of-clause-lies
returns-in-Some-column_of-clause-lies c =
    IfOk-weaker c.bound_to-in-Some-column_of.result _ _
    (λ o set. turned_lies c.args.cmp c.turned.result c.args.a.now c.args.b.now c.in-Some-column_of.column o c.turned.ensures.same c.in-Some-column_of.ensures.worth set) c.bound_to-in-Some-column_of.ensures.lies
