use Rattle.std.proofs.Common.{◌≡◌, ◌<◌, List, length, refl, sym, subst, arith}
use Rattle.std.specs.List.{slice_get}
use Rattle.std.specs.Option.{IsSomeAnd}
use Rattle.col_value.specs.declared.value.Value.{Value}
use Rattle.wanted_rows.specs.Wanted.{need_in}
use Rattle.store_query.proofs.Fed.{feeds_all, feeds_next, feeds_none}
use Rattle.store_query.proofs.feeding.feed_each.Goals as goal

pub loop-i-init : goal.loop-i-init
loop-i-init c = record {
  fed = feeds_none c.args.query.now _ (need_in c.args.wants.now) c.args.run.now refl;
  run = c.requires.run;
}

pub loop-i-preserved : goal.loop-i-preserved
loop-i-preserved c =
    let lt : c.loop-i.i < length c.args.batch.now.rows = grind (arith, c.loop-i-test.true, c.len-i-end.ensures) in
    record {
      fed = feeds_next c.args.query.now c.args.batch.now.rows c.loop-i.i c.as_slice.result.now (need_in c.args.wants.now) (need_in c.loop-i.wants) (need_in c.feed.new.wants) c.args.run.now c.loop-i.run c.feed.new.run lt
          (subst (λ (x : List Value). IsSomeAnd (slice_get c.args.batch.now.rows c.loop-i.i) (λ r. x ≡ r)) (sym c.as_slice.ensures.value) c.in_ok-copy_row.ensures.row) c.loop-i.invariant.fed c.in_ok-feed.ensures.fed;
      run = c.in_ok-feed.ensures.run;
    }

pub returns-clause-fed : goal.returns-clause-fed
returns-clause-fed c = feeds_all c.args.query.now c.args.batch.now.rows c.loop-i.i (need_in c.args.wants.now) (need_in c.loop-i.wants) c.args.run.now c.loop-i.run (grind (arith, c.loop-i-test.false, c.len-i-end.ensures)) c.loop-i.invariant.fed
