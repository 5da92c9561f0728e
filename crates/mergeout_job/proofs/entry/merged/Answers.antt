use Rattle.std.proofs.Common.{◌≡◌, ◌∙◌, ◌++◌, List, ap, drop, sym, rules, refl}
use Rattle.std.proofs.lemmas.List.{append-nil}
use Rattle.std.proofs.lemmas.Result.{IfOk-weaker}
use Rattle.catalog_types.specs.declared.catalogue.Container.{Container}
use Rattle.container_writer.specs.Writing.{listed}
use Rattle.merge_rows.specs.Inputs.{replaced}
use Rattle.proj_store.proofs.SavedRows.{item, item_is}
use Rattle.mergeout_job.proofs.Put.{left_more, left_none, left_of}
use Rattle.mergeout_job.proofs.entry.merged.Goals as goal

pub loop-i-preserved : goal.loop-i-preserved
loop-i-preserved c =
    let ks = c.args.containers.now in
    left_more c.loop-i.first c.loop-i.i c.args.inputs.now (listed c.args.made) ks (replaced c.args.inputs.now (listed c.args.made) ks) (item ks c.loop-i.i) c.loop-i.out.items c.put.new.out.items c.is_chosen-chosen.result c.is_first-first.result c.loop-i-test.true
    (item_is ks c.loop-i.i c.loop-i-test.true) c.is_chosen-chosen.ensures (search rules) c.is_first-first.ensures c.loop-i.invariant

pub returns : goal.returns
returns c =
    let ks = c.args.containers.now in
    let out = c.loop-i.out.items in
    let made = listed c.args.made in
    let all : out ≡ replaced c.args.inputs.now made ks =
    sym (append-nil out) ∙ ap (λ (xs : List Container). out ++ xs) (sym (left_none c.loop-i.first c.loop-i.i c.args.inputs.now made ks c.loop-i-test.false)) ∙ c.loop-i.invariant in
    c.in_ok-add.ensures ∙ ap (λ (xs : List Container). xs ++ listed c.args.memory) all
