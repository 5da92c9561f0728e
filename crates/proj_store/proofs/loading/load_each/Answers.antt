use Rattle.std.proofs.Common.{◌∙◌}
use Rattle.col_disk.proofs.Moving.{looks_join}
use Rattle.stored_rows.specs.Stored.{IsUnmarked}
use Rattle.proj_store.specs.Sound.{MarksItsRows}
use Rattle.proj_store.proofs.Zips.{kept_more, none_inside}
use Rattle.proj_store.proofs.SavedRows.{item, item_is, blames_load_here}
use Rattle.proj_store.proofs.loading.load_each.Goals as goal

pub returns-in-Err-clause-blamed : goal.returns-in-Err-clause-blamed
returns-in-Err-clause-blamed g c =
    let ks = c.args.containers.now in
    let i = c.loop-container.container-index in
    blames_load_here ks i (item ks i) _ _ c.in-Err.fault c.loop-container-test.true (item_is ks i c.loop-container-test.true) c.loop-container.invariant.looks.contents c.in-Err.ensures.blamed

pub loop-container-preserved : goal.loop-container-preserved
loop-container-preserved g c =
    let ks = c.args.containers.now in
    let i = c.loop-container.container-index in
    let is = item_is ks i c.loop-container-test.true in
    record {
      found = λ m told.
          kept_more (IsUnmarked m) ks i (item ks i) c.loop-container.kept.items c.push.new.self.items _ c.loop-container-test.true is c.in-Ok-push.ensures.items (c.loop-container.invariant.found m told)
          (c.in-Ok.ensures.found m (c.loop-container.invariant.looks.contents ∙ told), c.new-fresh.ensures.items);
      inside = kept_more MarksItsRows ks i (item ks i) c.loop-container.kept.items c.push.new.self.items _ c.loop-container-test.true is c.in-Ok-push.ensures.items c.loop-container.invariant.inside
          (record { held = c.in-Ok.ensures.within; fresh = none_inside (item ks i) c.new-fresh.result.items c.new-fresh.ensures.items });
      looks = looks_join g.D.Disk c.loop-container.invariant.looks c.read.ensures.looks;
    }
