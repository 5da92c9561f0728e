use Rattle.std.proofs.Common.{◌≡◌, ◌<◌, length, rules, ap}
use Rattle.std.specs.List.{All}
use Rattle.std.proofs.lemmas.Result.{IfOk-weaker}
use Rattle.col_disk.proofs.Moving.{moved_none}
use Rattle.merge_rows.specs.Inputs.{chosen}
use Rattle.container_draft.proofs.Flags.{chosen_shown}
use Rattle.container_draft.proofs.OnColumns.{all_are}
use Rattle.container_draft.proofs.reading.rows_on.Goals as goal

pub returns-then-not-are_below-clause-moved : goal.returns-then-not-are_below-clause-moved
returns-then-not-are_below-clause-moved g c = moved_none g.D.Disk c.args.disk.now

pub returns-in-Err-clause-moved : goal.returns-in-Err-clause-moved
returns-in-Err-clause-moved g c = moved_none g.D.Disk c.args.disk.now

pub returns-in-Ok-clause-read : goal.returns-in-Ok-clause-read
returns-in-Ok-clause-read g c =
    let p = c.args.p.now.stored in
    let shown : c.as_slice-2.result.now ≡ p.entry.containers = search rules in
    let inside : All (λ i. i < length p.entry.columns) c.args.via.now = search rules in
    let all = chosen_shown (length c.as_slice-2.result.now) c.in-Ok.all.items c.as_slice-in-Ok.result.now p.entry.containers c.in-Ok.ensures c.as_slice-in-Ok.ensures.value (ap length shown) in
    IfOk-weaker c.read_chosen.result _ _
    (λ v read m told every held.
    all_are (λ e b i r n vs ws x y. c.one_column.ensures e b i r n vs ws x y) m p.entry (chosen c.as_slice-in-Ok.result.now p.entry.containers) c.args.via.now v every inside all (read m told) held) c.read_chosen.ensures.read
