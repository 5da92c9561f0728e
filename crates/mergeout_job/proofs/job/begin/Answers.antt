use Rattle.std.proofs.Common.{◌≡◌, ◌<◌, ◌≤◌, Bool, List, length, rules, ap, ◌∙◌, subst, arith}
use Rattle.col_disk.proofs.Moving.{moved_none}
use Rattle.merge_rows.specs.Inputs.{chosen, IsMerging}
use Rattle.mergeout_job.proofs.Begun.{merging_of}
use Rattle.mergeout_job.proofs.Picks.{four_chosen}
use Rattle.mergeout_job.proofs.job.begin.Goals as goal

pub returns-in-Err-clause-moved : goal.returns-in-Err-clause-moved
returns-in-Err-clause-moved g c = moved_none g.D.Disk c.args.disk.now

pub drafted-requires-clause-within : goal.drafted-requires-clause-within
drafted-requires-clause-within g c =
    let p = c.args.p.now.stored in
    let shown : c.as_slice.result.now ≡ p.entry.containers = search rules in
    let four = four_chosen c.args.level p.entry.containers c.as_slice.result.now c.in-Ok.inputs.items shown c.in-Ok.ensures c.requires in
    let within = four.within in
    omega (arith, within, ap length c.as_slice-2.ensures.value)

pub drafted-requires-clause-some : goal.drafted-requires-clause-some
drafted-requires-clause-some g c =
    let p = c.args.p.now.stored in
    let shown : c.as_slice.result.now ≡ p.entry.containers = search rules in
    let four = four_chosen c.args.level p.entry.containers c.as_slice.result.now c.in-Ok.inputs.items shown c.in-Ok.ensures c.requires in
    let count = four.four in
    omega (arith, count, ap (λ (fs : List Bool). length (chosen fs p.entry.containers)) c.as_slice-2.ensures.value)

pub returns-in-Ok-drafted-clause-begun : goal.returns-in-Ok-drafted-clause-begun
returns-in-Ok-drafted-clause-begun g c = λ m told vectors.
    subst (λ (fs : List Bool). IsMerging m c.args.p.now.stored (merging_of fs c.args.mark c.in-Ok-drafted.draft)) c.as_slice-2.ensures.value (c.in-Ok-drafted.ensures.begun m told vectors)

pub returns-in-Ok-drafted-clause-four : goal.returns-in-Ok-drafted-clause-four
returns-in-Ok-drafted-clause-four g c =
    let p = c.args.p.now.stored in
    let shown : c.as_slice.result.now ≡ p.entry.containers = search rules in
    four_chosen c.args.level p.entry.containers c.as_slice.result.now c.in-Ok.inputs.items shown c.in-Ok.ensures c.requires
