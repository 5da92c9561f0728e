use Rattle.std.proofs.Common.{◌≡◌, ◌∷◌, [], arith, get_or}
use Rattle.exec_group.proofs.Coded.{one_told}
use Rattle.exec_group.proofs.Numbered.{if_some, one_key}
use Rattle.exec_group.proofs.codes.codes_of_one.Goals as goal

pub returns-in-len1 : goal.returns-in-len1
returns-in-len1 c =
    let keys = c.args.keys.now in
    let are : keys ≡ get_or keys 0 0 ∷ [] = one_key keys (omega (arith, c.in-len1.len_at_least)) (omega (arith, c.in-len1.len_below)) in
    if_some c.words_of.result _ _ (λ w told. one_told c.args.columns.now (λ p. get_or w.places.now p w.words) keys (get_or keys 0 0) are told) c.words_of.ensures
