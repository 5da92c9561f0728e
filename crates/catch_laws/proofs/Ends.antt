-- The begin and the end of a catch-up.
use Rattle.std.proofs.Common.{◌≡◌, ℕ, List, refl, subst, arith}
use Rattle.common_laws.specs.Bags.{SameBag}
use Rattle.col_value.specs.declared.row.Stamped.{Stamped}
use Rattle.db_model.specs.Database.{Database}
use Rattle.db_model.specs.Sound.{IsSoundDatabase}
use Rattle.db_model.specs.State.{State, idle_sessions}
use Rattle.catch_model.specs.Caught.{history, later_mark, IsCaughtUp}
use Rattle.catch_model.specs.Refused.{IsAccepted}
use Rattle.catch_laws.specs.Replay.{IsAt}
use Rattle.catch_laws.proofs.Committed.{whole_history}

pub begins : (b : Database) (s : State) → IsAccepted s.database b s.database.last → s.sessions ≡ idle_sessions → IsAt (later_mark s.database b) s.database b s.database.last s
begins b s accepted idle = record { from = omega arith; last = refl; ahm = refl; cuts = λ k below. refl; good = refl; shapes = refl; tables = accepted.ahead.tables; rows = accepted.older; idle = idle }

pub ends : (mark : ℕ) (start b : Database) (s : State) → IsSoundDatabase b → IsAt mark start b b.last s → IsCaughtUp mark s.database b
ends mark start b s sound at = record {
  last = at.last;
  tables = at.tables;
  rows = λ name. subst (λ (xs : List Stamped). SameBag (history mark name s.database) xs) (whole_history mark name b sound) (at.rows name);
}
