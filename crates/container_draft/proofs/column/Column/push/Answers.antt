use Rattle.std.proofs.Common.{◌≡◌, ◌∙◌, sym, ap, refl, arith, subst, length}
use Rattle.container_draft.specs.Lanes.{AreFull, EndsFull}
use Rattle.container_draft.proofs.Full.{full_more}
use Rattle.container_draft.proofs.column.Column.push.Goals as goal

pub invariant_of-self-2 : goal.invariant_of-self-2
invariant_of-self-2 c =
    let few = c.if-len-gt-BLOCK.false in
    subst AreFull (sym c.in_ok-push.ensures.items) (full_more c.self.inside.pieces.items c.args.block c.self.invariant (subst EndsFull c.as_slice.ensures.value (c.if-not-may_follow.ensures refl)) (omega (arith, c.len.ensures, few)))
