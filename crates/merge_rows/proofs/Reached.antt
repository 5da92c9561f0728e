-- What an entry that was written anew has reached.
use Rattle.std.proofs.Common.{◌≡◌, ℕ, ◌≤◌, List, [], ◌∷◌, max, arith}
use Rattle.std.specs.List.{All}
use Rattle.std.proofs.lemmas.List.Elements.{All-nil, All-cons, All-head, All-tail}
use Rattle.catalog_types.specs.declared.catalogue.Container.{Container}
use Rattle.stored_rows.specs.Early.{EndsBy}
use Rattle.merge_rows.specs.Rewritten.{reached_by}

pub reached_later : (epoch : ℕ) (ks : List Container) → epoch ≤ reached_by epoch ks
reached_later epoch [] = omega arith
reached_later epoch (k ∷ ks) = let rest = reached_later (max (max epoch k.greatest_epoch) k.greatest_mark) ks in omega (arith, rest)

-- no container has an epoch after it
pub all_reached : (epoch : ℕ) (ks : List Container) → All (EndsBy (reached_by epoch ks)) ks
all_reached epoch [] = All-nil (EndsBy epoch)
all_reached epoch (k ∷ ks) =
    let next : ℕ = max (max epoch k.greatest_epoch) k.greatest_mark in
    let rest = reached_later next ks in
    All-cons (EndsBy (reached_by next ks)) k ks (omega (arith, rest), omega (arith, rest)) (all_reached next ks)

-- and where all of them end by an epoch, it is that at most
pub reached_upto : (low high : ℕ) (ks : List Container) → low ≤ high → All (EndsBy high) ks → reached_by low ks ≤ high
reached_upto low high [] le all = le
reached_upto low high (k ∷ ks) le all =
    let here = All-head (EndsBy high) k ks all in
    let one = here.0 in
    let two = here.1 in
    reached_upto (max (max low k.greatest_epoch) k.greatest_mark) high ks (omega (arith, le, one, two)) (All-tail (EndsBy high) k ks all)
