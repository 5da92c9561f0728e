use Rattle.std.proofs.Common.{sym, ap, ◌∙◌, ℕ, List, Some}
use Rattle.col_value.specs.declared.column.Column.{Column}
use Rattle.sql_binding.specs.Queries.{columns_of}
use Rattle.statement_binder.proofs.Refused.{whole, refused_whole}
use Rattle.statement_binder.proofs.queries.bind_query.Goals as goal

pub returns-clause-bound : goal.returns-clause-bound
returns-clause-bound c =
    let there = sym c.as_slice.ensures.value in
    whole c.args.found.now c.as_slice.result.now c.args.query.now c.bind_over.result c.in_ok-tables.ensures.named
    (c.in_ok-tables.ensures.all ∙ ap (λ (ts : List (ℕ × List Column)). Some ts) there)
    (c.in_ok-tables.ensures.columns ∙ ap (λ (ts : List (ℕ × List Column)). Some (columns_of ts)) there)
    c.bind_over.ensures.accepted c.bind_over.ensures.bound

pub returns-clause-refused : goal.returns-clause-refused
returns-clause-refused c =
    let there = sym c.as_slice.ensures.value in
    refused_whole c.args.found.now c.as_slice.result.now c.args.query.now c.bind_over.result c.in_ok-tables.ensures.named
    (c.in_ok-tables.ensures.columns ∙ ap (λ (ts : List (ℕ × List Column)). Some (columns_of ts)) there)
    c.bind_over.ensures.refused
