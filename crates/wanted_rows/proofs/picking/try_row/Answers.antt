use Rattle.std.proofs.lemmas.Result.{IfOk-weaker}
use Rattle.wanted_rows.specs.Wanted.{need_in, asked_in}
use Rattle.wanted_rows.proofs.Rows.{tries_undeleted}
use Rattle.wanted_rows.proofs.picking.try_row.Goals as goal

pub returns-in-None : goal.returns-in-None
returns-in-None c = IfOk-weaker c.take.result _ _
    (λ taken tries. tries_undeleted taken c.args.del (asked_in c.args.row.now) (need_in c.args.wants.now) (need_in c.take.new.self) c.in-None.is tries) c.take.ensures
