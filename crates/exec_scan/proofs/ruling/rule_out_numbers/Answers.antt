use Rattle.std.proofs.Common.{◌≡◌, ◌∙◌, ◌<◌, pos, FitsSigned, ap, arith, false, get_or, length, map, of_z, rules, subst, sym, to_z, w64}
use Rattle.std.proofs.lemmas.Int.{to_z-of_z}
use Rattle.std.proofs.lemmas.List.{get_or-map}
use Rattle.block_codec.specs.Held.{number_value}
use Rattle.col_value.specs.declared.value.Value.{Value}
use Rattle.col_value.specs.declared.value.Value.TheVariants as value
use Rattle.exec_scan.specs.Reading.{Stays}
use Rattle.exec_scan.proofs.Narrowing.{stay_more}
use Rattle.exec_scan.proofs.ruling.rule_out_numbers.Goals as goal

pub loop-i-preserved : goal.loop-i-preserved
loop-i-preserved c =
    let ns = c.args.numbers.now in
    let i = c.loop-i.i in
    let n = get_or ns i (pos 0) in
    let fits : FitsSigned w64 n = search rules in
    let lt : i < length c.loop-i.alive = subst (λ m. i < m) (sym c.loop-i.auto.alive) c.loop-i-test.true in
    let room : i < length ns = omega (arith, c.loop-i-test.true, c.requires) in
    let is : number_value (to_z w64 (of_z w64 n)) ≡ get_or (map number_value ns) i value.Null = ap number_value (to_z-of_z w64 n fits) ∙ sym (get_or-map number_value ns i (pos 0) value.Null room) in
    stay_more c.args.bound.now (map number_value ns) i c.args.alive.now c.loop-i.alive c.stays_within.result lt
    (subst (λ (v : Value). Stays c.args.bound.now v (get_or c.loop-i.alive i false) c.stays_within.result) is c.stays_within.ensures) c.loop-i.invariant
