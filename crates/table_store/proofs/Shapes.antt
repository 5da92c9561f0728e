-- The entry that a job makes of a projection at a place is one of that projection.
use Rattle.std.proofs.Common.{◌≡◌, ℕ, ◌<◌, true, List, get_or, length, map, refl, ap, subst}
use Rattle.std.specs.Prelude.{IsSomeAnd}
use Rattle.std.specs.List.{slice_get}
use Rattle.catalog_laws.specs.Entries.{KeepsShape}
use Rattle.catalog_types.specs.declared.catalogue.Projection.{Projection}
use Rattle.catalog_types.specs.declared.catalogue.Catalogue.{Catalogue}
use Rattle.moveout_job.specs.OnDisk.{IsMovedOut}
use Rattle.proj_store.specs.Loaded.{Loaded}
use Rattle.store_commit.specs.Seen.{Seen}
use Rattle.stored_rows.specs.Stored.{Projected}
use Rattle.table_store.specs.Draining.{put_all, IsDraft}
use Rattle.table_store.specs.Held.{projections_of, IsHeld}
use Rattle.table_store.specs.Installing.{IsRenewal, IsRenewalAt}
use Rattle.table_store.specs.Moving.{IsFreshAt, KeepsShapeAt}
use Rattle.table_store.specs.declared.draining.Draft.{Draft}
use Rattle.table_store.proofs.Drained.{all_kept, at_weaker, in_tables, stored_there, AtPlace}
use Rattle.table_store.proofs.Moved.{at_place, is_at}

pub renewal_shape : (old new : Projection) → IsRenewal old new → KeepsShape old new
renewal_shape old new is = record {
  name = ap (λ (p : Projection). p.name) is;
  columns = ap (λ (p : Projection). p.columns) is;
  sort = ap (λ (p : Projection). p.sort) is;
  fresh = ap (λ (p : Projection). p.fresh) is;
}

pub moved_shape : (last next after : ℕ) (old new : Projection) → IsMovedOut last next after old new → KeepsShape old new
moved_shape last next after old new moved = record {
  name = ap (λ (p : Projection). p.name) moved.is;
  columns = ap (λ (p : Projection). p.columns) moved.is;
  sort = ap (λ (p : Projection). p.sort) moved.is;
  fresh = ap (λ (p : Projection). p.fresh) moved.is;
}

-- an entry that is installed
pub renewed_shape : (root : Catalogue) (stores : List (List Projected)) (i j : ℕ) (entry : Projection) → map (λ ps. map (λ p. p.entry) ps) stores ≡ map (λ t. t.projections) root.tables → IsRenewalAt stores i j entry → KeepsShapeAt root i j entry
renewed_shape root stores i j entry entries own =
    in_tables (λ p. KeepsShape p entry) stores root.tables i j entries (at_weaker stores i j (λ p. IsRenewal p.entry entry) (λ p. KeepsShape p.entry entry) (λ p is. renewal_shape p.entry entry is) own)

moved_there : (last next after i j : ℕ) (root : Catalogue) (stores : List (List Projected)) (p : Projected) (entry : Projection) → map (λ ps. map (λ q. q.entry) ps) stores ≡ map (λ t. t.projections) root.tables → AtPlace stores i j (λ q. p ≡ q)
    → IsMovedOut last next after p.entry entry → KeepsShapeAt root i j entry
moved_there last next after i j root stores p entry entries at moved =
    in_tables (λ e. KeepsShape e entry) stores root.tables i j entries
    (at_weaker stores i j (λ q. p ≡ q) (λ q. KeepsShape q.entry entry) (λ q is. subst (λ (x : Projected). KeepsShape x.entry entry) is (moved_shape last next after p.entry entry moved)) at)

-- one that was moved out by itself
pub moved_shape_at : (last next after i j : ℕ) (root : Catalogue) (tables : List (List Loaded)) (ps : List Loaded) (p : Loaded) (entry : Projection) → IsHeld root tables → IsFreshAt (map projections_of tables) i j → ps ≡ get_or tables i ps
    → p ≡ get_or ps j p → IsMovedOut last next after p.stored.entry entry → KeepsShapeAt root i j entry
moved_shape_at last next after i j root tables ps p entry held fresh ps_is p_is moved =
    moved_there last next after i j root (map projections_of tables) p.stored entry held.entries (stored_there tables (map projections_of tables) i j ps p refl there ps_is p_is) moved
  where
    there : IsSomeAnd (slice_get (map projections_of tables) i) (λ qs. j < length qs)
    there =
        let (qs, lt, qs_is, inner) = at_place (map projections_of tables) i (λ rs. IsSomeAnd (slice_get rs j) (λ q. q.entry.fresh ≡ true)) fresh in
        let (q, below, q_is, is) = at_place qs j (λ q. q.entry.fresh ≡ true) inner in
        is_at (map projections_of tables) i qs (λ rs. j < length rs) lt qs_is below

-- one of those that are moved out before one commit
pub draft_shape_at : (last after i j : ℕ) (s : Seen) (draft : Draft) (p : Projected) (entry : Projection) → IsDraft s i j draft → AtPlace s.stores i j (λ q. p ≡ q) → IsMovedOut last draft.root.next after p.entry entry → KeepsShapeAt draft.root i j entry
draft_shape_at last after i j s draft p entry is at moved =
    moved_there last draft.root.next after i j draft.root (put_all draft.moved.items s.stores) p entry is.entries (all_kept draft.moved.items s.stores i j (λ q. p ≡ q) is.before at) moved
