use Rattle.std.proofs.Common.{◌≡◌, ◌∙◌, sym, ap, subst, List}
use Rattle.del_vector.specs.declared.mark.Mark.{Mark}
use Rattle.del_vector.specs.Marks.{Vector, AreApart}
use Rattle.del_vector.proofs.vector.DelVector.merge.Goals as goal

pub merged-requires-clause-apart : goal.merged-requires-clause-apart
merged-requires-clause-apart c =
    let one : c.as_slice.result.now ≡ c.args.self.now.marks = c.as_slice.ensures.value ∙ ap (λ (v : Vector). v.marks) c.self.view_is in
    let two : c.as_slice-2.result.now ≡ c.args.other.now.marks = c.as_slice-2.ensures.value ∙ ap (λ (v : Vector). v.marks) c.other.view_is in
    subst (λ (ms : List Mark). AreApart ms c.as_slice-2.result.now) (sym one) (subst (λ (ms : List Mark). AreApart c.args.self.now.marks ms) (sym two) c.requires)
