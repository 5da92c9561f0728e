use Rattle.std.proofs.Common.{rules}
use Rattle.std.proofs.lemmas.Result.{on_ok_weaker}
use Rattle.exec_group.specs.Columns.{row_of}
use Rattle.exec_group.specs.Groups.{IsPut}
use Rattle.exec_group.proofs.Columnwise.{held_put}
use Rattle.exec_group.proofs.groups.Groups.push_columns.Goals as goal

pub returns : goal.returns
returns c =
    let q = c.args.query.now in
    let row = row_of c.args.columns.now in
    on_ok_weaker c.put_columns.result (λ put rows held. let same : IsPut row q.keys q.aggs c.args.places.now c.args.self.now c.put_columns.new.self = search (rules, put) in held_put row q rows c.args.places.now c.args.self.now c.put_columns.new.self same held) c.put_columns.ensures
