use Rattle.std.proofs.Common.{◌<◌, ◌∙◌, length, sym, subst}
use Rattle.std.specs.List.{All}
use Rattle.col_disk.proofs.Moving.{moved_none}
use Rattle.store_audit.proofs.Places.{all_below}
use Rattle.store_audit.proofs.comparing.rows_whole.Goals as goal

pub judged_rows-requires-clause-columns : goal.judged_rows-requires-clause-columns
judged_rows-requires-clause-columns g c =
    let count = length c.args.shape.now.columns in subst (All (λ k. k < count)) (sym (c.as_slice.ensures.value ∙ c.in-Ok.ensures)) (all_below count)

pub returns-in-Err-clause-moved : goal.returns-in-Err-clause-moved
returns-in-Err-clause-moved g c = moved_none g.D.Disk c.args.disk.now
