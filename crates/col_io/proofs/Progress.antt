-- A piece that is taken in several calls: what was taken of it before, and then of its rest.
use Rattle.std.proofs.Common.{ℕ, ◌+◌, List, take, drop, sym, subst}
use Rattle.std.specs.Prelude.{Option}
use Rattle.std.proofs.lemmas.List.{take-append-drop}
use Rattle.std.proofs.Math.Seq.{take-add}
use Rattle.common_laws.specs.Told.{Appends, AppendsFront}
use Rattle.common_laws.proofs.Telling.{appends_join, front_after}

-- the first `at` bytes, and then `count` of those behind them
pub more_taken : (old mid new : Option (List ℕ)) (piece : List ℕ) (at count : ℕ)
    → Appends old mid (take at piece) → Appends mid new (take count (drop at piece)) → Appends old new (take (at + count) piece)
more_taken old mid new piece at count before now =
    subst (λ (bytes : List ℕ). Appends old new bytes) (sym (take-add at count piece)) (appends_join old mid new (take at piece) (take count (drop at piece)) before now)

-- the first `at` bytes, and then a front of those behind them
pub front_taken : (old mid new : Option (List ℕ)) (piece : List ℕ) (at : ℕ)
    → Appends old mid (take at piece) → AppendsFront mid new (drop at piece) → AppendsFront old new piece
front_taken old mid new piece at before now =
    subst (λ (bytes : List ℕ). AppendsFront old new bytes) (take-append-drop at piece) (front_after old mid new (take at piece) (drop at piece) before now)
