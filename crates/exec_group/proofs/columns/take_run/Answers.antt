use Rattle.std.proofs.Common.{length, refl}
use Rattle.exec_group.proofs.Together.{raised_taken}
use Rattle.exec_group.proofs.columns.take_run.Goals as goal

pub returns-then-raises_rows : goal.returns-then-raises_rows
returns-then-raises_rows c =
    raised_taken c.args.columns.now c.args.a.now c.args.places.now (length c.args.places.now) c.args.accumulator.now c.raises_rows.new.accumulator refl (c.raises_rows.ensures.raised c.if-raises_rows.true)
