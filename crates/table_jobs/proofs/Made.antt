-- The files of a refresh, from its begin to its end.
use Rattle.std.proofs.Common.{◌≡◌, ℕ, ◌≤◌, List, ◌∙◌, subst}
use Rattle.std.specs.Prelude.{Some}
use Rattle.common_laws.specs.Maps.{Contents}
use Rattle.col_disk.specs.Moved.{Moved, NoName}
use Rattle.col_disk.specs.declared.disk.Disk.{Ghosts}
use Rattle.col_disk.proofs.Moving.{moved_join, moved_still, moved_told}
use Rattle.catalog_types.specs.declared.catalogue.Projection.{Projection}
use Rattle.ros_container.specs.Encodings.{written_of}
use Rattle.container_writer.specs.Writing.{DataFrom}
use Rattle.container_draft.specs.Draft.{IsDraft}
use Rattle.stored_rows.specs.Stored.{Projected}
use Rattle.proj_store.specs.Reading.{HasVectors}
use Rattle.moveout_job.specs.OnDisk.{IsListedBelow}
use Rattle.moveout_job.proofs.Renewed.{later_data}
use Rattle.refresh_job.specs.Job.{IsRefreshing, Refreshing, RefreshesFrom}
use Rattle.folder_model.specs.Projections.{ordinals}
use Rattle.table_jobs.specs.Sources.{ArePlaces, IsMadeOf}
use Rattle.table_jobs.proofs.Remade.{refreshes_before, refreshing_kept, refreshing_on, vectors_kept}

-- the rows were read, and then the files of the columns written
pub begun_moved : {D : Type 0} (disk : Ghosts D) {old mid new : D} (base next : ℕ) → base ≡ next → Moved disk NoName NoName old mid → Moved disk (DataFrom base) NoName mid new → Moved disk (DataFrom next) NoName old new
begun_moved disk {old} {mid} {new} base next same first moved =
    moved_join disk (moved_still disk {W = DataFrom next} {R = NoName} first) (subst (λ (n : ℕ). Moved disk (DataFrom n) NoName mid new) same moved)

-- and the rest
pub made_moved : {D : Type 0} (disk : Ghosts D) {old mid new : D} (next after : ℕ) → next ≤ after → Moved disk (DataFrom next) NoName old mid → Moved disk (DataFrom after) NoName mid new → Moved disk (DataFrom next) NoName old new
made_moved disk next after le first moved = moved_join disk first (later_data disk next after le moved)

-- the job when its columns are written is the one that was begun
pub record IsOn (r s : Refreshing) : Type 0 where
  pub mark : s.mark ≡ r.mark
  pub via : s.via ≡ r.via
  pub rows : s.draft.rows ≡ r.draft.rows
  pub places : s.draft.places ≡ r.draft.places

pub is_made : {D : Type 0} (disk : Ghosts D) {old read mid new : D} (mark next : ℕ) (places : List ℕ) (source : Projected) (shape entry : Projection) (r s : Refreshing) → disk.holds read ≡ disk.holds old
    → ((m : Contents) → disk.holds old ≡ Some m → HasVectors m source → IsRefreshing m source r) → ((m : Contents) → IsDraft m (written_of shape) r.draft)
    → Moved disk (DataFrom next) NoName read mid → ((m n : Contents) → disk.holds read ≡ Some m → disk.holds mid ≡ Some n → IsDraft m (written_of shape) r.draft → IsDraft n (written_of shape) s.draft) → IsOn r s
    → ((m n : Contents) → disk.holds mid ≡ Some m → disk.holds new ≡ Some n → HasVectors m source → IsRefreshing m source s → IsDraft m (written_of shape) s.draft → RefreshesFrom s.mark s.via m n source entry)
    → r.mark ≡ mark → r.via ≡ places → ArePlaces (ordinals source.entry) places (ordinals entry)
    → (m n : Contents) → disk.holds old ≡ Some m → disk.holds new ≡ Some n → IsListedBelow next source.entry → HasVectors m source → IsMadeOf mark m n source entry
is_made disk {old} {read} {mid} {new} mark next places source shape entry r s kept begun draft moved draws on refreshes mark_is via_is are m n told told_new below vectors =
    let (l, told_mid, changed) = moved_told disk {W = DataFrom next} {R = NoName} m (kept ∙ told) moved in
    let still : IsRefreshing l source s = refreshing_on l source r s on.mark on.via on.rows on.places (refreshing_kept m l source r next below changed (begun m told vectors)) in
    let from : RefreshesFrom s.mark s.via l n source entry = refreshes l n told_mid told_new (vectors_kept m l source next below changed vectors) still (draws m l (kept ∙ told) told_mid (draft m)) in
    let marked : RefreshesFrom mark s.via l n source entry = subst (λ (a : ℕ). RefreshesFrom a s.via l n source entry) (on.mark ∙ mark_is) from in
    let placed : RefreshesFrom mark places l n source entry = subst (λ (v : List ℕ). RefreshesFrom mark v l n source entry) (on.via ∙ via_is) marked in
    record { places = places; are = are; rows = refreshes_before mark places m l n source entry next below changed placed }
