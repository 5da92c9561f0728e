-- Pieces that are taken one after the other.
use Rattle.std.proofs.Common.{ℕ, ◌+◌, List, [], ◌++◌, length, take, sym, ◌∙◌, ap, subst, append_assoc, arith, length-append, take_all}
use Rattle.std.specs.Prelude.{Option, Some, None}
use Rattle.std.proofs.lemmas.List.{append-nil, take-append-le}
use Rattle.std.proofs.Math.Seq.{take-append-add}
use Rattle.common_laws.specs.Told.{Appends, AppendsFront}

-- nothing was taken
pub appends_nothing : (told : Option (List ℕ)) → Appends told told []
appends_nothing None = tt
appends_nothing (Some bytes) = sym (append-nil bytes)

-- one piece after another is the two joined
pub appends_join : (old mid new : Option (List ℕ)) (xs ys : List ℕ) → Appends old mid xs → Appends mid new ys → Appends old new (xs ++ ys)
appends_join None None None xs ys first second = tt
appends_join None None (Some n) xs ys first second = second
appends_join None (Some m) new xs ys first second = absurd first
appends_join (Some o) None new xs ys first second = absurd first
appends_join (Some o) (Some m) None xs ys first second = second
appends_join (Some o) (Some m) (Some n) xs ys first second = second ∙ ap (λ (bytes : List ℕ). bytes ++ ys) first ∙ append_assoc o xs ys

-- a whole piece is a front of it
pub front_of_all : (old new : Option (List ℕ)) (xs : List ℕ) → Appends old new xs → AppendsFront old new xs
front_of_all old new xs taken = (length xs, omega arith, subst (λ (bytes : List ℕ). Appends old new bytes) (sym (take_all (length xs) xs (omega arith))) taken)

-- nothing is a front of every piece
pub front_of_none : (told : Option (List ℕ)) (xs : List ℕ) → AppendsFront told told xs
front_of_none told xs = (0, omega arith, appends_nothing told)

-- a front of a piece is one of a longer piece
pub front_wider : (old new : Option (List ℕ)) (xs ys : List ℕ) → AppendsFront old new xs → AppendsFront old new (xs ++ ys)
front_wider old new xs ys (n, fits, taken) =
    (n, omega (arith, length-append xs ys), subst (λ (bytes : List ℕ). Appends old new bytes) (sym (take-append-le n xs ys fits)) taken)

-- a whole piece and then a front of the next is a front of the two joined
pub front_after : (old mid new : Option (List ℕ)) (xs ys : List ℕ) → Appends old mid xs → AppendsFront mid new ys → AppendsFront old new (xs ++ ys)
front_after old mid new xs ys first (n, fits, taken) = (
  length xs + n,
  omega (arith, length-append xs ys),
  subst (λ (bytes : List ℕ). Appends old new bytes) (sym (take-append-add xs ys n)) (appends_join old mid new xs (take n ys) first taken),
)
