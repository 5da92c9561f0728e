use Rattle.std.proofs.Common.{◌≡◌, ◌++◌, [], ◌∷◌, sym, subst, List}
use Rattle.del_vector.specs.declared.mark.Mark.{Mark}
use Rattle.del_vector.proofs.BothMarks.{Merges, takes_one}
use Rattle.del_vector.proofs.merging.merged.Goals as goal

pub loop-mark-preserved : goal.loop-mark-preserved
loop-mark-preserved c =
    let put : c.push.new.self.items ≡ c.loop-mark.out.items ++ c.in-Some.mark ∷ [] = c.in_ok-push.ensures.items in
    subst (λ (ms : List Mark). Merges c.args.first.now c.args.second.now ms c.in-Some.after_left.now c.in-Some.after_right.now) (sym put)
    (takes_one c.args.first.now c.args.second.now c.loop-mark.out.items c.loop-mark.left.now c.loop-mark.right.now c.in-Some.mark c.in-Some.after_left.now c.in-Some.after_right.now c.requires.apart c.in-Some.ensures.first c.loop-mark.invariant)
