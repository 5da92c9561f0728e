-- Bags: lists without regard to order.
use Rattle.std.specs.Prelude.{◌≡◌, List, Bool, count_by}

-- Two lists are the same bag where each test holds as often in the one as in the other; so each element stands as often in both.
pub record SameBag {X : Type 0} (xs ys : List X) : Type 0 where
  pub counts : (p : X → Bool) → count_by p xs ≡ count_by p ys
