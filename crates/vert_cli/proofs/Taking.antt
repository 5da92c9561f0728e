-- What the sink took, one piece behind the other.
use Rattle.std.proofs.Common.{ℕ, ◌≡◌, List, [], ◌++◌, take, sym, subst, append_assoc}
use Rattle.std.specs.Prelude.{Option}
use Rattle.std.proofs.lemmas.List.{append-nil}
use Rattle.common_laws.specs.Told.{Appends, AppendsFront}
use Rattle.common_laws.proofs.Telling.{appends_nothing, appends_join}
use Rattle.vert_cli.specs.Runs.{TakesFirst, TakesMore}

pub more_none : (told : Option (List ℕ)) → TakesMore told told
more_none told = ([], appends_nothing told)

pub more_same : (before after : Option (List ℕ)) → after ≡ before → TakesMore before after
more_same before after same = subst (λ (told : Option (List ℕ)). TakesMore before told) (sym same) (more_none before)

pub more_front : (before after : Option (List ℕ)) (piece : List ℕ) → AppendsFront before after piece → TakesMore before after
more_front before after piece (n, fits, taken) = (take n piece, taken)

pub first_none : (told : Option (List ℕ)) → TakesFirst told told []
first_none told = ([], appends_nothing told)

pub first_all : (before after : Option (List ℕ)) (printed : List ℕ) → Appends before after printed → TakesFirst before after printed
first_all before after printed taken = ([], subst (λ (bytes : List ℕ). Appends before after bytes) (sym (append-nil printed)) taken)

pub first_more : (before between after : Option (List ℕ)) (printed : List ℕ) → TakesFirst before between printed → TakesMore between after → TakesFirst before after printed
first_more before between after printed (later, first) (more, second) =
    (later ++ more, subst (λ (bytes : List ℕ). Appends before after bytes) (append_assoc printed later more) (appends_join before between after (printed ++ later) more first second))
