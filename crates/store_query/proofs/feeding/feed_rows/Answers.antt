use Rattle.std.proofs.Common.{◌∷◌, [], List, refl, subst}
use Rattle.col_value.specs.declared.value.Value.{Value}
use Rattle.store_query.specs.Feeding.{TakesRows}
use Rattle.store_query.proofs.Fed.{takes_all, takes_next, takes_none, takes_run}
use Rattle.store_query.proofs.feeding.feed_rows.Goals as goal

pub loop-row-init : goal.loop-row-init
loop-row-init c = record {
  taken = takes_none c.args.query.now _ c.args.run.now refl;
  run = c.requires.run;
}

pub loop-row-preserved : goal.loop-row-preserved
loop-row-preserved c =
    let q = c.args.query.now in
    let one = subst (λ (r : List Value). TakesRows q (r ∷ []) c.loop-row.run c.take.new.self) c.as_slice.ensures c.in_ok-take.ensures in
    record {
      taken = takes_next q c.args.rows.now c.loop-row.row-index c.row-item.result c.args.run.now c.loop-row.run c.take.new.self c.loop-row-test.true c.row-item.is c.loop-row.invariant.taken one;
      run = takes_run q (c.row-item.result ∷ []) c.loop-row.run c.take.new.self one c.loop-row.invariant.run;
    }

pub returns-clause-rows : goal.returns-clause-rows
returns-clause-rows c = takes_all c.args.query.now c.args.rows.now c.loop-row.row-index c.args.run.now c.loop-row.run c.loop-row-test.false c.loop-row.invariant.taken
