use Rattle.std.proofs.Common.{◌≡◌, ap, ◌∙◌, subst, List, None}
use Rattle.std.specs.Result.{IfOk, IfErr, OnOk}
use Rattle.sql_tree.specs.declared.query.Source.{Source}
use Rattle.sql_binding.specs.Sight.{Seen, sight}
use Rattle.sql_binding.specs.Queries.{columns_of, bound_in}
use Rattle.name_binder.specs.Refusing.{RefusesBy}
use Rattle.statement_binder.specs.Answers.{seen_refusal}
use Rattle.statement_binder.proofs.queries.bind_over.Goals as goal

pub returns-clause-accepted : goal.returns-clause-accepted
returns-clause-accepted c =
    let q = c.args.query.now in
    let cs = columns_of c.args.tables.now in
    let seen = c.as_slice-2.ensures.value ∙ (c.in_ok-seen.ensures ∙ ap (λ (ss : List Source). sight ss cs) c.as_slice.ensures) in
    subst (λ (n : List Seen). OnOk c.bind_seen.result (seen_refusal n cs q ≡ None)) seen c.bind_seen.ensures.accepted

pub returns-clause-bound : goal.returns-clause-bound
returns-clause-bound c =
    let q = c.args.query.now in
    let cs = columns_of c.args.tables.now in
    let seen = c.as_slice-2.ensures.value ∙ (c.in_ok-seen.ensures ∙ ap (λ (ss : List Source). sight ss cs) c.as_slice.ensures) in
    subst (λ (n : List Seen). IfOk c.bind_seen.result (λ b. b ≡ bound_in c.args.tables.now n q)) seen c.bind_seen.ensures.bound

pub returns-clause-refused : goal.returns-clause-refused
returns-clause-refused c =
    let q = c.args.query.now in
    let cs = columns_of c.args.tables.now in
    let seen = c.as_slice-2.ensures.value ∙ (c.in_ok-seen.ensures ∙ ap (λ (ss : List Source). sight ss cs) c.as_slice.ensures) in
    subst (λ (n : List Seen). IfErr c.bind_seen.result (RefusesBy (seen_refusal n cs q))) seen c.bind_seen.ensures.refused
