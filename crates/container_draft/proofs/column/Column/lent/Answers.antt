use Rattle.std.proofs.Common.{◌≡◌, IfSome, subst}
use Rattle.col_value.specs.declared.value.Value.{Value}
use Rattle.container_draft.proofs.Full.{at_place}
use Rattle.container_draft.proofs.column.Column.lent.Goals as goal

pub returns : goal.returns
returns c =
    subst (λ (v : Value). IfSome c.lent_at.result (λ w. w.now ≡ v))
    (at_place c.self.inside.pieces.items c.as_slice.result.now c.args.place c.args.self.now c.self.invariant c.as_slice.ensures.value c.self.view_is) c.lent_at.ensures
