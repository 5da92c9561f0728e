use Rattle.std.proofs.Common.{◌∙◌, ◌≤◌, get_or, length, arith, refl}
use Rattle.std.proofs.lemmas.List.{get_or_default, take_all}
use Rattle.catalog_types.specs.Blank.{blank_container as blank}
use Rattle.col_disk.proofs.Moving.{moved_join, moved_none}
use Rattle.catch_files.proofs.Splits.{all_split, more_split, none_split}
use Rattle.catch_files.proofs.parting.parted.Goals as goal

pub loop-container-init : goal.loop-container-init
loop-container-init g c = record {
  split = none_split (g.A.Disk.holds c.args.at.now) (g.B.Disk.holds c.args.from.now) c.args.behind.now c.args.ahead.now c.new.result.items c.new-2.result.items c.new.ensures.items c.new-2.ensures.items;
  behind_kept = refl;
  behind_moved = moved_none g.A.Disk c.args.at.now;
  ahead_kept = refl;
  ahead_moved = moved_none g.B.Disk c.args.from.now;
}

pub returns-in_err-rest-clause-behind_moved : goal.returns-in_err-rest-clause-behind_moved
returns-in_err-rest-clause-behind_moved g c = moved_join g.A.Disk c.loop-container.invariant.behind_moved c.part_one.ensures.behind_moved

pub returns-in_err-rest-clause-ahead_moved : goal.returns-in_err-rest-clause-ahead_moved
returns-in_err-rest-clause-ahead_moved g c = moved_join g.B.Disk c.loop-container.invariant.ahead_moved c.part_one.ensures.ahead_moved

pub loop-container-preserved : goal.loop-container-preserved
loop-container-preserved g c =
    let ks = c.args.behind.now in
    let i = c.loop-container.container-index in
    let k = get_or ks i blank in
    record {
      split = more_split (g.A.Disk.holds c.args.at.now) (g.B.Disk.holds c.args.from.now) (g.A.Disk.holds c.loop-container.at) (g.B.Disk.holds c.loop-container.from) ks c.args.ahead.now c.loop-container.rest.now c.in_ok-rest.rest.now
          c.loop-container.out.behind.items c.loop-container.out.ahead.items c.part_one.new.out.behind.items c.part_one.new.out.ahead.items i k c.loop-container.invariant.behind_kept c.loop-container.invariant.ahead_kept c.loop-container-test.true
          (get_or_default ks i blank k c.loop-container-test.true) c.loop-container.invariant.split c.in_ok-rest.ensures.turns;
      behind_kept = c.part_one.ensures.behind_kept ∙ c.loop-container.invariant.behind_kept;
      behind_moved = moved_join g.A.Disk c.loop-container.invariant.behind_moved c.part_one.ensures.behind_moved;
      ahead_kept = c.part_one.ensures.ahead_kept ∙ c.loop-container.invariant.ahead_kept;
      ahead_moved = moved_join g.B.Disk c.loop-container.invariant.ahead_moved c.part_one.ensures.ahead_moved;
    }

pub returns-clause-parted : goal.returns-clause-parted
returns-clause-parted g c =
    let ks = c.args.behind.now in
    let i = c.loop-container.container-index in
    let most : length ks ≤ i = let test = c.loop-container-test.false in omega (arith, test) in
    all_split (g.A.Disk.holds c.args.at.now) (g.B.Disk.holds c.args.from.now) ks c.args.ahead.now c.loop-container.rest.now c.loop-container.out.behind.items c.loop-container.out.ahead.items c.add_all.new.out.items i (take_all i ks most) c.in_ok-add_all.ensures
    c.loop-container.invariant.split
