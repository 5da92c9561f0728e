-- Alike states stay alike where the ancient history mark rises.
use Rattle.std.proofs.Common.{◌≡◌, ◌≤◌, ℕ, true, List, [], ◌∷◌, refl, subst, arith}
use Rattle.std.specs.List.{AllZip}
use Rattle.std.proofs.lemmas.Bool.Decides.{nat_tests}
use Rattle.common_laws.specs.Bags.{SameBag}
use Rattle.row_history.specs.History.{retained}
use Rattle.row_history.proofs.Histories.{bag_retained, retained_later}
use Rattle.db_model.specs.Alike.{AreAlikeStates, IsAlikeTable}
use Rattle.db_model.specs.Database.{Table}
use Rattle.db_model.specs.Epochs.{rises}
use Rattle.db_model.specs.Events.{mark_raised}
use Rattle.db_model.specs.State.{State}

table_later : (mark later : ℕ) (t u : Table) → mark ≤ later → IsAlikeTable mark t u → IsAlikeTable later t u
table_later mark later t u le is = record {
  name = is.name;
  columns = is.columns;
  shapes = is.shapes;
  rows =
      subst (λ (rows : List _). SameBag rows (retained later u.rows)) (retained_later mark later t.rows le)
      (subst (λ (rows : List _). SameBag (retained later (retained mark t.rows)) rows) (retained_later mark later u.rows le) (bag_retained later (retained mark t.rows) (retained mark u.rows) is.rows));
}

tables_later : (mark later : ℕ) (ts us : List Table) → mark ≤ later → AllZip (IsAlikeTable mark) ts us → AllZip (IsAlikeTable later) ts us
tables_later mark later [] [] le all = tt
tables_later mark later [] (u ∷ us) le all = absurd all
tables_later mark later (t ∷ ts) [] le all = absurd all
tables_later mark later (t ∷ ts) (u ∷ us) le (here, more) = (table_later mark later t u le here, tables_later mark later ts us le more)

pub raised_alike : (a b : State) → AreAlikeStates a b → (mark : ℕ) → rises mark a.database ≡ true → AreAlikeStates (mark_raised mark a) (mark_raised mark b)
raised_alike a b alike mark is =
    let le : a.database.ahm ≤ mark = grind (arith, nat_tests) in
    record {
      database = record { last = alike.database.last; ahm = refl; tables = tables_later a.database.ahm mark a.database.tables b.database.tables le alike.database.tables };
      sessions = alike.sessions;
      current = alike.current;
      asked = alike.asked;
    }
