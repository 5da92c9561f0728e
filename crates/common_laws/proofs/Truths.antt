-- Truth values.
use Rattle.std.proofs.Common.{◌≡◌, ◌&&◌, not, Bool, true, false, refl}

-- both parts of a test hold
pub and_true : (a b : Bool) → (a && b) ≡ true → (a ≡ true) × (b ≡ true)
and_true true b e = (refl, e)
and_true false b e = cc

pub and_left : (a b : Bool) → (a && b) ≡ true → a ≡ true
and_left a b e = (and_true a b e).0

pub and_right : (a b : Bool) → (a && b) ≡ true → b ≡ true
and_right a b e = (and_true a b e).1

pub denied : (b : Bool) → not b ≡ true → b ≡ false
denied true e = cc
denied false e = refl
