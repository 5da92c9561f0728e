use Rattle.std.proofs.Common.{sym, subst}
use Rattle.std.proofs.lemmas.Result.{IfOk-weaker}
use Rattle.col_value.specs.Order.{IsValue}
use Rattle.ros_container.proofs.Defaults.{default_is_value}
use Rattle.ros_container.proofs.encodings.default_of.Goals as goal

pub returns-clause-value : goal.returns-clause-value
returns-clause-value c =
    IfOk-weaker c.default_in.result _ IsValue (λ v is. subst IsValue (sym is) (default_is_value c.args.shape.now.columns c.args.entry.now c.args.column c.requires.entry c.requires.behind c.requires.column)) c.default_in.ensures
