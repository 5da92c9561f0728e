use Rattle.std.proofs.Common.{◌≡◌, ◌<◌, length, arith}
use Rattle.col_value.specs.declared.value.Value.TheVariants.{Null}
use Rattle.container_draft.proofs.loading.epochs_in.Goals as goal

pub returns-in-None-clause-none : goal.returns-in-None-clause-none
returns-in-None-clause-none c all =
    let long = c.requires in
    let at : c.loop-place.place < length c.args.values.now = omega (arith, long, c.loop-place-test.true) in
    c.in-None.ensures.none (all c.loop-place.place Null at)
