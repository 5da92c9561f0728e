use Rattle.std.proofs.Common.{◌≡◌, ◌∙◌, sym, ap, subst, true, List}
use Rattle.del_vector.specs.declared.mark.Mark.{Mark}
use Rattle.del_vector.specs.Marks.{are_marks, marks_upto}
use Rattle.del_vector.proofs.Places.{cut_marks}
use Rattle.del_vector.proofs.vector.DelVector.cut.Goals as goal

pub invariant_of-result : goal.invariant_of-result
invariant_of-result c =
    let all : c.in_ok-marks.marks.items ≡ marks_upto c.args.epoch c.as_slice.result.now = c.in_ok-marks.ensures in
    let seen : c.as_slice.result.now ≡ c.self.inside.marks.items = c.as_slice.ensures.value in
    subst (λ (ms : List Mark). are_marks 0 ms ≡ true) (sym (all ∙ ap (marks_upto c.args.epoch) seen)) (cut_marks 0 c.args.epoch c.self.inside.marks.items c.self.invariant)
