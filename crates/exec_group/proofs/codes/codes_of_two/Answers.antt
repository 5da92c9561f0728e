use Rattle.std.proofs.Common.{◌≡◌, ◌+◌, ◌*◌, ◌∷◌, [], arith, get_or}
use Rattle.exec_group.proofs.Coded.{if_both, two_keys, two_told}
use Rattle.exec_group.proofs.codes.codes_of_two.Goals as goal

pub returns-in-Some-words_of : goal.returns-in-Some-words_of
returns-in-Some-words_of c =
    let keys = c.args.keys.now in
    let left = c.in-Some.left in
    let right = c.in-Some-words_of.right in
    let are : keys ≡ get_or keys 0 0 ∷ get_or keys 1 0 ∷ [] = two_keys keys (omega (arith, c.in-len2.len_at_least)) (omega (arith, c.in-len2.len_below)) in
    if_both c.of.result _ _ _
    (λ w to_left to_right. two_told c.args.columns.now (λ p. get_or w.left.places.now p w.left.words * w.width + get_or w.right.places.now p w.right.words) keys (get_or keys 0 0) (get_or keys 1 0)
    (λ p. get_or left.places.now p left.words) (λ p. get_or right.places.now p right.words) are c.in-Some.ensures c.in-Some-words_of.ensures to_left to_right)
    c.of.ensures.left c.of.ensures.right
