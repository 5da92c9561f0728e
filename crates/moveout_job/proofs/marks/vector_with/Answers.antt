use Rattle.std.proofs.Common.{List, ◌≡◌, ◌∙◌, ap, rules}
use Rattle.std.proofs.lemmas.Result.{IfOk-weaker}
use Rattle.del_vector.specs.declared.mark.Mark.{Mark}
use Rattle.del_vector.specs.Marks.{epoch_at}
use Rattle.moveout_job.proofs.Joined.{joined_are}
use Rattle.moveout_job.proofs.marks.vector_with.Goals as goal

pub returns-clause-epochs : goal.returns-clause-epochs
returns-clause-epochs c =
    let marks : c.as_slice.result.now ≡ c.in_ok-marks.marks.items = search rules in
    IfOk-weaker c.vector_of.result _ _
    (λ v epochs i.
    epochs i ∙ ap (λ (ms : List Mark). epoch_at ms i) marks ∙ c.in_ok-marks.ensures i ∙ joined_are c.args.held.now c.args.fresh.now c.in_ok-joined.field-0.items i c.in_ok-joined.ensures)
    c.vector_of.ensures.epochs
