use Rattle.std.proofs.Common.{◌≡◌, ◌<◌, arith, false, get_or, length, map, subst, sym}
use Rattle.std.proofs.lemmas.List.{get_or-map}
use Rattle.block_codec.specs.Held.{day_value}
use Rattle.col_value.specs.declared.value.Value.{Value}
use Rattle.col_value.specs.declared.value.Value.TheVariants as value
use Rattle.exec_scan.specs.Reading.{Stays}
use Rattle.exec_scan.proofs.Narrowing.{stay_more}
use Rattle.exec_scan.proofs.ruling.rule_out_days.Goals as goal

pub loop-i-preserved : goal.loop-i-preserved
loop-i-preserved c =
    let ds = c.args.days.now in
    let i = c.loop-i.i in
    let lt : i < length c.loop-i.alive = subst (λ m. i < m) (sym c.loop-i.auto.alive) c.loop-i-test.true in
    let room : i < length ds = omega (arith, c.loop-i-test.true, c.requires) in
    let is : day_value (get_or ds i 0) ≡ get_or (map day_value ds) i value.Null = sym (get_or-map day_value ds i 0 value.Null room) in
    stay_more c.args.bound.now (map day_value ds) i c.args.alive.now c.loop-i.alive c.stays_between.result lt
    (subst (λ (v : Value). Stays c.args.bound.now v (get_or c.loop-i.alive i false) c.stays_between.result) is c.stays_between.ensures) c.loop-i.invariant
