-- What each of a statement's jobs keeps, all of them keep.
use Rattle.std.proofs.Common.{ℕ, zero, suc, Bool, inl, inr, sym, subst}
use Rattle.db_model.specs.Mover.{Jobs}
use Rattle.db_model.specs.State.{State}

pub jobs_keep : (P : State → Type 0) (Job : State → State → Type 0) → ((one other : State) → Job one other → P one → P other)
    → (n : ℕ) (old : State) (stopped : Bool) (new : State) → Jobs Job n old stopped new → P old → P new
jobs_keep P Job keeps zero old stopped new (goes, same) is = subst P (sym same) is
jobs_keep P Job keeps (suc n) old stopped new (inl (spent, stops, same)) is = subst P (sym same) is
jobs_keep P Job keeps (suc n) old stopped new (inr (left, mid, first, rest)) is =
    jobs_keep P Job keeps n mid stopped new rest (keeps old mid first is)
