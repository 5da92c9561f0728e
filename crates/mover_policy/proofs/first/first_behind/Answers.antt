use Rattle.std.proofs.Common.{sym, ◌∙◌, ap}
use Rattle.std.specs.Prelude.{List}
use Rattle.catalog_types.specs.declared.catalogue.Projection.{Projection}
use Rattle.catalog_types.specs.declared.catalogue.Table as kept
use Rattle.mover_policy.specs.First.{behind_in, shape_at}
use Rattle.mover_policy.specs.Taking.{first_from}
use Rattle.mover_policy.proofs.Taken.{next_table, all_tables}
use Rattle.mover_policy.proofs.first.first_behind.Goals as goal

pub loop-table-preserved : goal.loop-table-preserved
loop-table-preserved c =
    let tables = c.args.tables.now in
    record {
      first =
          next_table tables c.args.last c.loop-table.table c.index-tables-table.result (shape_at tables c.loop-table.best) (shape_at tables c.first_of_table-best.result) c.loop-table-test.true c.index-tables-table.is
          (c.first_of_table-best.ensures.first ∙ ap (λ (ps : List Projection). first_from (shape_at tables c.loop-table.best) (behind_in c.args.last ps)) (c.as_slice.ensures ∙ ap (λ (t : kept.Table). t.projections) (sym c.index-tables-table.is))) ∙ c.loop-table.invariant.first;
      there = c.first_of_table-best.ensures.there c.loop-table.invariant.there;
    }

pub returns-clause-first : goal.returns-clause-first
returns-clause-first c = all_tables c.args.tables.now c.args.last c.loop-table.table c.loop-table.best c.loop-table-test.false c.loop-table.invariant.first
