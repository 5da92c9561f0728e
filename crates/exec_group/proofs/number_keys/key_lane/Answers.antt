use Rattle.std.proofs.Common.{◌≡◌, ◌∷◌, [], rules, arith, get_or}
use Rattle.exec_group.proofs.Numbered.{if_some, lane_keys, one_key}
use Rattle.exec_group.proofs.number_keys.key_lane.Goals as goal

pub returns-in-len1 : goal.returns-in-len1
returns-in-len1 c =
    let keys = c.args.keys.now in
    let are : keys ≡ get_or keys 0 0 ∷ [] = one_key keys (omega (arith, c.in-len1.len_at_least)) (omega (arith, c.in-len1.len_below)) in
    if_some c.column_numbers.result _ _ (λ ns h. lane_keys c.args.columns.now keys (get_or keys 0 0) ns.now are h) c.column_numbers.ensures
