use Rattle.container_draft.proofs.Gathering.{lane_there}
use Rattle.container_draft.proofs.lanes.Lanes.numbers.Goals as goal

pub returns : goal.returns
returns c =
    let here = c.self.inside in
    lane_there (λ v. v.items) here.columns.items c.as_slice.result.now here.epochs.items c.args.self.now c.args.column c.len.result c.args.before.items c.numbers_of.result c.as_slice.ensures.value c.self.view_is c.len.ensures c.numbers_of.ensures.numbers c.numbers_of.ensures.there c.numbers_of.ensures.long
