use Rattle.std.proofs.Common.{◌^◌, ◌≤◌, get_or, arith}
use Rattle.std.proofs.Math.Nat.{pow-le-pow_right}
use Rattle.catalog_types.specs.Blank.{blank_container}
use Rattle.catalog_laws.proofs.entries.keeps_levels.Goals as goal

pub pow-requires : goal.pow-requires
pow-requires c =
    let level = (get_or c.args.containers.now c.loop-k.k-index blank_container).level in
    let h : 4 ^ level ≤ 4 ^ 31 = pow-le-pow_right {n = 4} (omega arith) {i = level} {j = 31} (omega (arith, c.if-k-gt31.false)) in
    omega (arith, h)
