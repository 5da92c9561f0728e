use Rattle.std.proofs.Common.{rules, ◌+◌}
use Rattle.std.specs.List.{slice_get}
use Rattle.audit_files.specs.Columns.{MayStand}
use Rattle.audit_files.proofs.Blocks.{such_block, no_such_block, no_block}
use Rattle.audit_files.proofs.columns.judge_block.Goals as goal

pub returns-then-may_stand-clause-found : goal.returns-then-may_stand-clause-found
returns-then-may_stand-clause-found g c =
    such_block (MayStand c.args.entry.now c.args.column) c.args.encoding c.args.body c.args.at.now.rows (slice_get c.args.at.now.entries c.args.k) (slice_get c.args.at.now.entries (c.args.k + 1)) (g.D.Disk.holds c.args.disk.now) c.in-Ok.values
    c.in-Ok.ensures.found (c.may_stand.ensures.0 c.if-may_stand.true)

pub returns-clause-blamed : goal.returns-clause-blamed
returns-clause-blamed g c =
    no_such_block (MayStand c.args.entry.now c.args.column) c.args.encoding c.args.body c.args.at.now.rows (slice_get c.args.at.now.entries c.args.k) (slice_get c.args.at.now.entries (c.args.k + 1)) (g.D.Disk.holds c.args.disk.now) c.in-Ok.values
    c.in-Ok.ensures.found (λ all. search rules)

pub returns-in-Err-clause-blamed : goal.returns-in-Err-clause-blamed
returns-in-Err-clause-blamed g c =
    no_block (MayStand c.args.entry.now c.args.column) c.args.encoding c.args.body c.args.at.now.rows (slice_get c.args.at.now.entries c.args.k) (slice_get c.args.at.now.entries (c.args.k + 1)) (g.D.Disk.holds c.args.disk.now) c.in-Err.fault c.in-Err.ensures.blamed
