use Rattle.std.proofs.Common.{◌≡◌, ◌∙◌, ◌<◌, ◌≤◌, ap, subst, length, get_or}
use Rattle.col_value.specs.declared.row.Asked.{Asked}
use Rattle.col_value.specs.declared.value.Value.TheVariants.{Null}
use Rattle.container_draft.proofs.ByLanes.{width_there, past_is}
use Rattle.container_draft.proofs.lanes.Lanes.width.Goals as goal

pub returns-then-place-len : goal.returns-then-place-len
returns-then-place-len c =
    let here = c.self.inside in
    let at : c.args.place < length c.args.self.now = subst (λ n. c.args.place < n) c.len.ensures c.if-place-len.true in
    width_there here.columns.items c.as_slice.result.now here.epochs.items c.args.self.now c.args.place c.as_slice.ensures.value c.self.view_is at

pub returns-else-place-len : goal.returns-else-place-len
returns-else-place-len c =
    let at : length c.args.self.now ≤ c.args.place = subst (λ n. n ≤ c.args.place) c.len.ensures c.if-place-len.false in
    ap (λ (a : Asked). length a.row) (past_is c.args.self.now c.args.place at)
