use Rattle.std.proofs.Common.{rules}
use Rattle.col_disk.proofs.Moving.{moved_join, moved_none}
use Rattle.col_file.proofs.ByBlocks.{goes_on, ended, none_there}
use Rattle.container_draft.proofs.loading.read_blocks.Goals as goal

pub returns-in-Err-clause-blamed : goal.returns-in-Err-clause-blamed
returns-in-Err-clause-blamed g c = none_there c.args.encoding c.args.body c.args.at.now c.loop-k.k (g.D.Disk.holds c.args.disk.now) (g.D.Disk.holds c.loop-k.disk) c.in-Err.fault (search rules) c.loop-k.invariant.kept c.in-Err.ensures.blamed

pub loop-k-preserved : goal.loop-k-preserved
loop-k-preserved g c = record {
  so_far = goes_on c.args.encoding c.args.body c.args.at.now c.loop-k.k (g.D.Disk.holds c.args.disk.now) (g.D.Disk.holds c.loop-k.disk) c.loop-k.column c.read_on.new.column c.requires (search rules) c.loop-k.invariant.kept c.loop-k.invariant.so_far c.in-Ok.ensures.found;
  kept = search rules;
  moved = moved_join g.D.Disk c.loop-k.invariant.moved c.read_on.ensures.moved;
}

pub returns-clause-found : goal.returns-clause-found
returns-clause-found g c = ended c.args.encoding c.args.body c.args.at.now c.loop-k.k (g.D.Disk.holds c.args.disk.now) c.loop-k.column c.requires (search rules) c.loop-k.invariant.so_far

pub loop-k-init : goal.loop-k-init
loop-k-init g c = record { so_far = search rules; kept = search rules; moved = moved_none g.D.Disk c.args.disk.now }

pub returns-in-Err-clause-moved : goal.returns-in-Err-clause-moved
returns-in-Err-clause-moved g c = moved_join g.D.Disk c.loop-k.invariant.moved c.read_on.ensures.moved
