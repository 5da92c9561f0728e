use Rattle.std.proofs.Common.{refl}
use Rattle.proj_store.proofs.Epochs.{rows_stay, put_one}
use Rattle.proj_store.proofs.kept.put_mark.Goals as goal

pub returns-in-None-clause-rows : goal.returns-in-None-clause-rows
returns-in-None-clause-rows c = rows_stay c.args.rows.now c.args.mark.position c.index-rows-place.result _ c.requires

pub returns-in-None-clause-deleted : goal.returns-in-None-clause-deleted
returns-in-None-clause-deleted c = λ i. put_one c.args.rows.now c.args.mark.position c.index-rows-place.result _ c.args.mark i refl c.requires c.in-None.is
