use Rattle.col_disk.proofs.Keeping.{kept_still, settled_now}
use Rattle.col_disk.proofs.memory.MemDiskDisk.sync.Goals as goal

pub returns-clause-settles : goal.returns-clause-settles
returns-clause-settles c = settled_now c.args.self.now c.begin.new.self c.settle.new.self c.begin.ensures.kept c.settle.ensures.noted c.settle.ensures.settled

pub returns-clause-keeps : goal.returns-clause-keeps
returns-clause-keeps c = kept_still c.args.self.now c.begin.new.self c.settle.new.self c.begin.ensures.kept c.begin.ensures.remembered c.begin.ensures.later c.settle.ensures.noted c.settle.ensures.settled
