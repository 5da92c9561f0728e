use Rattle.std.proofs.Common.{List, map, ◌∙◌, ap}
use Rattle.std.proofs.lemmas.Result.{IfOk-weaker}
use Rattle.sql_tree.specs.declared.query.Source.{Source}
use Rattle.statement_plan.specs.Querying.{found_of}
use Rattle.statement_plan.proofs.Sources.{bound_found, refused_found}
use Rattle.statement_plan.proofs.querying.plan_query.Goals as goal

pub returns-clause-bound : goal.returns-clause-bound
returns-clause-bound c =
    let found = c.as_slice-2.ensures.value ∙ (c.in-Ok.ensures ∙ ap (λ (ss : List Source). map (found_of c.args.frame.now) ss) c.as_slice.ensures) in
    IfOk-weaker c.bind_query.result _ _
    (λ b bound. bound_found c.args.frame.now c.args.query.now b c.as_slice-2.result.now found bound)
    c.bind_query.ensures.bound

pub returns-clause-refused : goal.returns-clause-refused
returns-clause-refused c =
    let found = c.as_slice-2.ensures.value ∙ (c.in-Ok.ensures ∙ ap (λ (ss : List Source). map (found_of c.args.frame.now) ss) c.as_slice.ensures) in
    refused_found c.args.frame.now c.args.query.now c.bind_query.result c.as_slice-2.result.now found c.bind_query.ensures.refused
