use Rattle.std.proofs.Common.{◌<◌, ℕ, subst, sym, rules}
use Rattle.exec_group.proofs.Pairing.{tells_right}
use Rattle.exec_group.proofs.codes.Pairs.of.Goals as goal

pub returns-in-Some-clause-right : goal.returns-in-Some-clause-right
returns-in-Some-clause-right g c =
    tells_right (g.A.Codes.code c.args.left) (g.B.Codes.code c.args.right) c.size-width.result
    (λ p. subst (λ (w : ℕ). g.B.Codes.code c.args.right p < w) (sym c.size-width.ensures) (g.met.B.Codes.within c.args.right p))
