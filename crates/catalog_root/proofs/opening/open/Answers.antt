use Rattle.col_disk.proofs.Moving.{moved_read, looks_join}
use Rattle.catalog_root.proofs.Quieting.{on_all}
use Rattle.catalog_root.proofs.opening.open.Goals as goal

pub returns-in-Ok-clause-settled : goal.returns-in-Ok-clause-settled
returns-in-Ok-clause-settled g c = on_all c.find_root.result (λ m told x is. c.in-Ok.ensures.settles m told x (c.find_root.ensures.looks.images x is))

pub returns-in-Ok-clause-looks : goal.returns-in-Ok-clause-looks
returns-in-Ok-clause-looks g c = looks_join g.D.Disk c.in-Ok.ensures.keeps c.find_root.ensures.looks

pub returns-in-Ok-clause-moved : goal.returns-in-Ok-clause-moved
returns-in-Ok-clause-moved g c = moved_read g.D.Disk (looks_join g.D.Disk c.in-Ok.ensures.keeps c.find_root.ensures.looks)

pub returns-in-Err-clause-moved : goal.returns-in-Err-clause-moved
returns-in-Err-clause-moved g c = moved_read g.D.Disk c.in-Err.ensures.keeps
