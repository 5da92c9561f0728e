use Rattle.std.proofs.Common.{◌≡◌, length, rules, ap}
use Rattle.std.proofs.lemmas.Result.{IfOk-weaker}
use Rattle.col_disk.proofs.Moving.{moved_none}
use Rattle.container_draft.proofs.OnColumns.{all_read_on, places_within}
use Rattle.container_draft.proofs.reading.chosen_rows.Goals as goal

pub read_chosen-requires : goal.read_chosen-requires
read_chosen-requires g c =
    let shown : c.as_slice.result.now ≡ c.args.p.now.stored.entry.columns = search rules in
    places_within (length c.args.p.now.stored.entry.columns) (length c.as_slice.result.now) c.in-Ok.via.items c.as_slice-in-Ok.result.now (ap length shown) c.in-Ok.ensures c.as_slice-in-Ok.ensures.value

pub returns-in-Ok-clause-read : goal.returns-in-Ok-clause-read
returns-in-Ok-clause-read g c =
    let p = c.args.p.now.stored in
    let shown : c.as_slice.result.now ≡ p.entry.columns = search rules in
    IfOk-weaker c.read_chosen.result _ _
    (λ v read m told.
    all_read_on m p.entry c.args.inputs.now (length c.as_slice.result.now) c.in-Ok.via.items c.as_slice-in-Ok.result.now v c.entry.ensures.sound.loadable.files (ap length shown) c.in-Ok.ensures c.as_slice-in-Ok.ensures.value (read m told))
    c.read_chosen.ensures.read

pub returns-in-Err-clause-moved : goal.returns-in-Err-clause-moved
returns-in-Err-clause-moved g c = moved_none g.D.Disk c.args.disk.now
