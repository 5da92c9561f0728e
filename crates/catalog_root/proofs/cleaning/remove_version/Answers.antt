use Rattle.std.proofs.Common.{inl, inr}
use Rattle.col_disk.proofs.Moving.{moved_join, moved_none, moved_remove}
use Rattle.catalog_root.specs.Listed.{IsOfOther}
use Rattle.catalog_root.proofs.cleaning.remove_version.Goals as goal

pub returns-then-was-version-clause-moved : goal.returns-then-was-version-clause-moved
returns-then-was-version-clause-moved g c = moved_none g.D.Disk c.args.disk.now

pub returns-then-was-clause-moved : goal.returns-then-was-clause-moved
returns-then-was-clause-moved g c = moved_none g.D.Disk c.args.disk.now

pub returns-in-Ok-clause-moved : goal.returns-in-Ok-clause-moved
returns-in-Ok-clause-moved g c =
    let gate : IsOfOther c.args.version c.gate_of.result = (c.args.was, c.if-was-version.false, inr c.gate_of.ensures) in
    let body : IsOfOther c.args.version c.body_of.result = (c.args.was, c.if-was-version.false, inl c.body_of.ensures) in
    moved_join g.D.Disk (moved_remove g.D.Disk gate c.remove.ensures.removes) (moved_remove g.D.Disk body c.remove-in-Ok.ensures.removes)

pub returns-in-Err-clause-moved : goal.returns-in-Err-clause-moved
returns-in-Err-clause-moved g c =
    let gate : IsOfOther c.args.version c.gate_of.result = (c.args.was, c.if-was-version.false, inr c.gate_of.ensures) in
    moved_remove g.D.Disk gate c.remove.ensures.removes
