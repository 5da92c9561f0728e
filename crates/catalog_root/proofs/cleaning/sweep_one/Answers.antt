use Rattle.col_disk.proofs.Moving.{moved_remove, moved_none}
use Rattle.catalog_root.specs.Listed.{IsSwept}
use Rattle.catalog_root.proofs.Sweeps.{gone_if_ok}
use Rattle.catalog_root.proofs.cleaning.sweep_one.Goals as goal

pub returns-then-has_no_use-clause-gone : goal.returns-then-has_no_use-clause-gone
returns-then-has_no_use-clause-gone g c = gone_if_ok c.args.name c.remove.result (g.D.Disk.holds c.args.disk.now) (g.D.Disk.holds c.remove.new.self) _ c.remove.ensures.removes.contents

pub returns-then-has_no_use-clause-moved : goal.returns-then-has_no_use-clause-moved
returns-then-has_no_use-clause-moved g c =
    let swept : IsSwept c.args.version c.args.numbers.now c.args.name = (c.ranges.name.fits, c.has_no_use.ensures.0 c.if-has_no_use.true) in
    moved_remove g.D.Disk swept c.remove.ensures.removes

pub returns-else-has_no_use-clause-moved : goal.returns-else-has_no_use-clause-moved
returns-else-has_no_use-clause-moved g c = moved_none g.D.Disk c.args.disk.now
