-- Runs that begin over one folder begin alike.
use Rattle.std.proofs.Common.{ℕ, refl, sym, subst}
use Rattle.common_laws.specs.Maps.{Contents}
use Rattle.db_model.specs.Alike.{IsAlike}
use Rattle.db_model.specs.Database.{Database}
use Rattle.db_model.specs.Sound.{IsSound, IsSoundDatabase}
use Rattle.db_model.specs.State.{State, opened_with}
use Rattle.alike_steps.specs.Runs.{AreAlikeStarts}
use Rattle.folder_model.specs.Reopening.{Reopens}
use Rattle.folder_laws.specs.OneText.{IsOpening}

abbrev pub ReopenAlike : Type 0
ReopenAlike = (m : Contents) (d e : Database) → Reopens m d → Reopens m e → IsAlike d e

abbrev pub OpensSound : Type 0
OpensSound = (next parts : ℕ) (d : Database) → IsSoundDatabase d → IsSound (opened_with next parts d)

opened_alike : OpensSound → (next parts after more : ℕ) (d e : Database) → IsSoundDatabase d → IsAlike d e → AreAlikeStarts (opened_with next parts d) (opened_with after more e)
opened_alike sounds next parts after more d e sound alike = record {
  alike = record { database = alike; sessions = (tt, (tt, (tt, (tt, (tt, (tt, (tt, (tt, tt)))))))); current = refl; asked = refl };
  sound = sounds next parts d sound;
}

pub begun_alike : ReopenAlike → OpensSound → (m : Contents) (start begin : State) → IsOpening m start → IsOpening m begin → AreAlikeStarts start begin
begun_alike reopen sounds m start begin one other =
    subst (λ (s : State). AreAlikeStarts s begin) (sym one.same)
    (subst (AreAlikeStarts (opened_with one.next one.parts one.database)) (sym other.same)
    (opened_alike sounds one.next one.parts other.next other.parts one.database other.database one.reopens.sound (reopen m one.database other.database one.reopens other.reopens)))
