use Rattle.std.proofs.Common.{◌≡◌, ◌<◌, IfSome, subst, length}
use Rattle.block_codec.specs.Held.{number_value}
use Rattle.col_value.specs.declared.value.Value.{Value}
use Rattle.container_draft.proofs.ByLanes.{cell_there}
use Rattle.container_draft.proofs.lanes.Lanes.number.Goals as goal

pub returns-then-place-len : goal.returns-then-place-len
returns-then-place-len c =
    let here = c.self.inside in
    let at : c.args.place < length c.args.self.now = subst (λ n. c.args.place < n) c.len.ensures c.if-place-len.true in
    subst (λ (v : Value). IfSome c.number_of.result (λ n. number_value n ≡ v))
    (cell_there here.columns.items c.as_slice.result.now here.epochs.items c.args.self.now c.args.place c.args.column c.as_slice.ensures.value c.self.view_is at) c.number_of.ensures
