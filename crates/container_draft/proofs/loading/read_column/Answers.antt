use Rattle.col_disk.proofs.Moving.{moved_join}
use Rattle.container_draft.proofs.Loaded.{body_blamed}
use Rattle.container_draft.proofs.loading.read_column.Goals as goal

pub returns-in-Ok-clause-blamed : goal.returns-in-Ok-clause-blamed
returns-in-Ok-clause-blamed g c =
    body_blamed c.args.encoding c.args.body c.args.index c.args.rows (g.D.Disk.holds c.args.disk.now) (g.D.Disk.holds c.read_index.new.disk) c.in-Ok.at c.read_blocks.result
    c.in-Ok.ensures.index.0 c.in-Ok.ensures.index.1 c.in-Ok.ensures.index.2 c.in-Ok.ensures.found c.in-Ok.ensures.kept c.read_blocks.ensures.blamed

pub returns-in-Ok-clause-moved : goal.returns-in-Ok-clause-moved
returns-in-Ok-clause-moved g c = moved_join g.D.Disk c.read_index.ensures.moved c.read_blocks.ensures.moved
