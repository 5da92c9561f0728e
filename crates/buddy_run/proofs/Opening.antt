-- Both folders opened, and what came then.
use Rattle.std.proofs.Common.{ℕ, refl, inl, inr}
use Rattle.common_laws.specs.Maps.{Contents}
use Rattle.col_disk.specs.Moved.{Leaves, Moved, NoName}
use Rattle.col_disk.specs.declared.disk.Disk.{Ghosts}
use Rattle.col_disk.proofs.Moving.{leaves_join, leaves_wider}
use Rattle.db_model.specs.Database.{Database}
use Rattle.db_model.specs.State.{opened_with}
use Rattle.folder_model.specs.Reopening.{Reopens}
use Rattle.buddy_link.specs.Running.{Running, IsState}
use Rattle.store_opening.specs.Opening.{IsStill}
use Rattle.buddy_run.specs.Ends.{LinkIsOnTheWay, IsOpened, IsStillOrCut, ReopensEither}
use Rattle.buddy_run.proofs.Following.{read_leaves}
use Rattle.buddy_run.proofs.Opened.{opened_good}

pub opened_is : (m : Contents) (d : Database) (next parts : ℕ) → Reopens m d → IsOpened (opened_with next parts d)
opened_is m d next parts reopens = record { idle = refl; good = opened_good m d reopens }

-- ---- what a crash leaves

pub opening_leaves : {D : Type 0} (disk : Ghosts D) {old new : D} (a b : Database) → Leaves disk (IsStill disk old a) old new → Leaves disk (LinkIsOnTheWay disk old a b) old new
opening_leaves disk a b leaves = leaves_wider disk (λ x still. inl still) leaves

pub way_leaves : {D : Type 0} (disk : Ghosts D) {old mid new : D} (a b : Database) → Leaves disk (IsStill disk old a) old mid → Leaves disk (ReopensEither a b) mid new → Leaves disk (LinkIsOnTheWay disk old a b) old new
way_leaves disk {old} {mid} {new} a b before after = leaves_join disk {mid = mid} (leaves_wider disk (λ x still. inl still) before) (leaves_wider disk (λ x either. inr either) after)

pub still_leaves : {D : Type 0} (disk : Ghosts D) {old new : D} (b : Database) → Leaves disk (IsStill disk old b) old new → Leaves disk (IsStillOrCut disk old b) old new
still_leaves disk b leaves = leaves_wider disk (λ x still. inl still) leaves

pub read_only : {D : Type 0} (disk : Ghosts D) {old mid new : D} (n : Contents) (b : Database) (r : Running) (next parts : ℕ) → Reopens n b → IsState disk r mid (opened_with next parts b) → Leaves disk (IsStill disk old b) old mid
    → Moved disk NoName NoName mid new → Leaves disk (IsStillOrCut disk old b) old new
read_only disk {old} {mid} {new} n b r next parts reopens there before moved =
    leaves_join disk {mid = mid} (leaves_wider disk (λ x still. inl still) before) (leaves_wider disk (λ x cut. inr cut) (read_leaves disk r (opened_with next parts b) there (opened_good n b reopens) moved))
