use Rattle.std.proofs.Common.{◌≡◌, IfSome, subst}
use Rattle.block_codec.specs.Held.{number_value}
use Rattle.col_value.specs.declared.value.Value.{Value}
use Rattle.container_draft.proofs.Full.{at_place}
use Rattle.container_draft.proofs.column.Column.number.Goals as goal

pub returns : goal.returns
returns c =
    subst (λ (v : Value). IfSome c.number_at.result (λ n. number_value n ≡ v))
    (at_place c.self.inside.pieces.items c.as_slice.result.now c.args.place c.args.self.now c.self.invariant c.as_slice.ensures.value c.self.view_is) c.number_at.ensures
