use Rattle.std.proofs.Common.{◌≡◌, ◌∙◌, sym, ap, subst, true, List}
use Rattle.del_vector.specs.declared.gaps.Gap.{Gap}
use Rattle.del_vector.specs.declared.mark.Mark.{Mark}
use Rattle.del_vector.specs.Marks.{are_marks}
use Rattle.del_vector.specs.Fronts.{marks_from, reach}
use Rattle.del_vector.proofs.Reading.{gaps_reach, in_order}
use Rattle.del_vector.proofs.gaps.read_vector.Goals as goal

pub marks_of-requires : goal.marks_of-requires
marks_of-requires c = subst (λ (gs : List Gap). reach 0 gs ≡ true) (sym c.as_slice.ensures.value) (gaps_reach c.args.bytes.now c.in_ok-gaps.gaps.items c.in_ok-gaps.ensures)

pub returns-clause-order : goal.returns-clause-order
returns-clause-order c =
    let all : c.in_ok-marks_of.field-0.items ≡ marks_from 0 c.as_slice.result.now = c.in_ok-marks_of.ensures in
    let seen : c.as_slice.result.now ≡ c.in_ok-gaps.gaps.items = c.as_slice.ensures.value in
    subst (λ (ms : List Mark). are_marks 0 ms ≡ true) (sym (all ∙ ap (marks_from 0) seen)) (in_order 0 c.in_ok-gaps.gaps.items (gaps_reach c.args.bytes.now c.in_ok-gaps.gaps.items c.in_ok-gaps.ensures))
