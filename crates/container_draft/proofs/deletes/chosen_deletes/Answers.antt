use Rattle.std.proofs.Common.{◌≡◌, rules, ap, ◌∙◌}
use Rattle.std.specs.Prelude.{slice_index_or}
use Rattle.proj_store.proofs.SavedRows.{item, item_is}
use Rattle.container_draft.proofs.Joining.{beside_within, kept_at, deletes_more, deletes_all}
use Rattle.container_draft.proofs.deletes.chosen_deletes.Goals as goal

pub add_if-requires-clause-place : goal.add_if-requires-clause-place
add_if-requires-clause-place c =
    let shown : c.as_slice-containers.result.now ≡ c.args.p.now.stored.entry.containers = search rules in
    beside_within c.args.p.now.stored c.as_slice-containers.result.now c.loop-i.i shown c.entry.ensures.sound c.loop-i-test.true

pub add_if-requires-clause-kept : goal.add_if-requires-clause-kept
add_if-requires-clause-kept c =
    let ks = c.as_slice-containers.result.now in
    let shown : ks ≡ c.args.p.now.stored.entry.containers = search rules in
    kept_at c.args.p.now.stored ks c.loop-i.i (item ks c.loop-i.i) shown c.entry.ensures.sound c.loop-i-test.true (item_is ks c.loop-i.i c.loop-i-test.true)

pub loop-i-preserved : goal.loop-i-preserved
loop-i-preserved c =
    let ks = c.as_slice-containers.result.now in
    let shown : ks ≡ c.args.p.now.stored.entry.containers = search rules in
    deletes_more c.loop-i.i c.args.inputs.now ks c.args.p.now.stored (item ks c.loop-i.i) c.loop-i.out.items c.add_if.new.dels.items shown c.entry.ensures.sound c.loop-i-test.true (item_is ks c.loop-i.i c.loop-i-test.true)
    c.loop-i.invariant (search rules)

pub returns : goal.returns
returns c =
    let ks = c.as_slice-containers.result.now in
    let shown : ks ≡ c.args.p.now.stored.entry.containers = search rules in
    deletes_all c.loop-i.i c.args.inputs.now ks c.args.p.now.stored c.loop-i.out.items shown c.entry.ensures.sound c.loop-i-test.false c.loop-i.invariant
